use Rattle.std.proofs.Common.{◌≡◌, ◌≢◌, ◌∙◌, ◌++◌, [], ◌∷◌, sym, subst, true≢false}
use Rattle.std.specs.List.{AllByRecursion}
use Rattle.sqlite_keyed.proofs.ListLemmas.{all-append}
use Rattle.mf_store_audit.specs.Findings.{Breaks}
use Rattle.mf_store_audit.specs.declared.finding.Finding.TheVariants as finding
use Rattle.mf_store_audit.proofs.AccountLemmas.{no_accounts, rest_of_accounts, rest_of_rows, some_accounts}
use Rattle.mf_store_audit.proofs.find.findings_of_unsound.Goals as goal

pub returns-then-not-are_none-clause-each : goal.returns-then-not-are_none-clause-each
returns-then-not-are_none-clause-each c today is =
    let added = (c.in_ok-add_rows.ensures {u = tt}).added today is in
    subst (AllByRecursion (Breaks c.args.version today c.args.tables.now)) (sym (added.1
    ∙ (λ t. c.new-findings.ensures.items t ++ added.0))) added.2

pub returns-then-not-are_none-clause-every : goal.returns-then-not-are_none-clause-every
returns-then-not-are_none-clause-every c whole today is up =
    let added = (c.in_ok-add_rows.ensures {u = tt}).added today is in
    let rows_are = added.1 ∙ (λ t. c.new-findings.ensures.items t ++ added.0) in
    let some : added.0 ≢ [] = λ none. true≢false (sym (c.are_none.ensures.1 (c.deref.ensures.value ∙ rows_are ∙ none))
    ∙ c.if-not-are_none.true) in (
      added.0,
      added.3 whole up,
      rest_of_rows c.args.version c.args.tables.now added.0 c.add_rows.new.findings.items some
          rows_are,
    )

pub returns-then-not-are_none-2-clause-each : goal.returns-then-not-are_none-2-clause-each
returns-then-not-are_none-2-clause-each c today is = (c.in_ok-add_accounts.ensures {u = tt}).each today

pub returns-then-not-are_none-2-clause-every : goal.returns-then-not-are_none-2-clause-every
returns-then-not-are_none-2-clause-every c whole today is up =
    let added = (c.in_ok-add_rows.ensures {u = tt}).added today is in
    let rows_are = added.1 ∙ (λ t. c.new-findings.ensures.items t ++ added.0) in
    let none : added.0 ≡ [] =
    sym rows_are ∙ sym c.deref.ensures.value ∙ c.are_none.ensures.0 c.if-not-are_none.false in
    let accounts = c.add_accounts.new.findings.items in
    let some : accounts ≢ [] = λ empty. true≢false (sym (c.are_none-2.ensures.1 (c.deref-2.ensures.value ∙ empty))
    ∙ c.if-not-are_none-2.true) in (
      added.0,
      added.3 whole up,
      rest_of_accounts c.args.version c.args.tables.now added.0 accounts accounts none
          ((c.in_ok-add_accounts.ensures {u = tt}).every whole) (some_accounts accounts some),
    )

pub returns-clause-each : goal.returns-clause-each
returns-clause-each c today is =
    subst (AllByRecursion (Breaks c.args.version today c.args.tables.now)) (sym (c.in_ok-push.ensures {u = tt}).items)
    (all-append (Breaks c.args.version today c.args.tables.now) c.add_accounts.new.findings.items (finding.Unsound ∷ [])
    ((c.in_ok-add_accounts.ensures {u = tt}).each today) (
      λ i sound are. c.requires (record {
        institution = i;
        sound = sound;
        rows_are = are;
      }),
      tt,
    ))

pub returns-clause-every : goal.returns-clause-every
returns-clause-every c whole today is up =
    let added = (c.in_ok-add_rows.ensures {u = tt}).added today is in
    let rows_are = added.1 ∙ (λ t. c.new-findings.ensures.items t ++ added.0) in
    let none : added.0 ≡ [] =
    sym rows_are ∙ sym c.deref.ensures.value ∙ c.are_none.ensures.0 c.if-not-are_none.false in
    let accounts = c.add_accounts.new.findings.items in
    let empty : accounts ≡ [] = sym c.deref-2.ensures.value ∙ c.are_none-2.ensures.0 c.if-not-are_none-2.false in (
      added.0,
      added.3 whole up,
      rest_of_accounts c.args.version c.args.tables.now added.0 accounts
          c.push.new.self.items none ((c.in_ok-add_accounts.ensures {u = tt}).every whole)
          (no_accounts accounts c.push.new.self.items empty (c.in_ok-push.ensures {u = tt}).items),
    )
