use Rattle.std.proofs.Common.{◌≢◌, ◌∙◌, ◌++◌, List, ap, map, subst, rules}
use Rattle.std.proofs.lemmas.Result.{on_ok_weaker}
use Rattle.mf_store_schema.proofs.OrderLemmas.{by_instalment_total, by_share_total}
use Rattle.mf_store_schema.specs.Rows.{Lists, by_instalment, by_share}
use Rattle.mf_store_schema.specs.Versions.{number_of}
use Rattle.mf_store_schema.specs.declared.versions.Version.TheVariants.{First}
use Rattle.mf_store_sound.proofs.RiseLemmas.{instalments_rise, shares_rise}
use Rattle.mf_store_values.specs.Flat.{tables_of}
use Rattle.mf_store_audit.specs.Differences.{AreDifferences}
use Rattle.mf_store_audit.specs.Findings.{OfReplay, account_told}
use Rattle.mf_store_audit.specs.Keys.{instalment_key, share_key}
use Rattle.mf_store_audit.specs.declared.accounts.AccountTable.TheVariants.{Instalments, Shares}
use Rattle.mf_store_audit.specs.declared.finding.RowKey.{RowKey}
use Rattle.mf_store_audit.proofs.AccountLemmas.{Told, both_told, differences_given, of_accounts}
use Rattle.mf_store_audit.proofs.accounts.add_accounts.Goals as goal

instalments_are : (c : goal.After-drop-instalments-2) → OfReplay c.args.version c.args.tables.now (λ made.
    AreDifferences instalment_key made.instalments c.args.tables.now.instalments c.in_ok-keys.keys.items)
instalments_are c i sound is up =
    differences_given by_instalment instalment_key c.deref.result.now c.deref-2.result.now (tables_of i).instalments
    c.args.tables.now.instalments c.in_ok-keys.keys.items by_instalment_total
    (c.deref.ensures.value ∙ ((c.in_ok-instalments.ensures {u = tt}).under (number_of c.args.version) i sound is).0)
    (c.deref-2.ensures.value ∙ ap (λ (l : Lists). l.instalments) c.tables.view_is) (instalments_rise i sound)
    up.all.1.1.1.1.1.1.1.1.1.0 (c.in_ok-keys.ensures {u = tt}).exact

shares_are : (c : goal.After-drop-instalments-2) → OfReplay c.args.version c.args.tables.now (λ made.
    AreDifferences share_key made.shares c.args.tables.now.shares c.in_ok-keys-2.keys.items)
shares_are c i sound is up =
    differences_given by_share share_key c.deref-4.result.now c.deref-5.result.now (tables_of i).shares
    c.args.tables.now.shares c.in_ok-keys-2.keys.items by_share_total
    (c.deref-4.ensures.value ∙ ((c.in_ok-instalments.ensures {u = tt}).under (number_of c.args.version) i sound is).1)
    (c.deref-5.ensures.value ∙ ap (λ (l : Lists). l.shares) c.tables.view_is) (shares_rise i sound)
    up.all.1.1.1.1.1.1.1.1.1.1.0 (c.in_ok-keys-2.ensures {u = tt}).exact

pub returns-clause-each : goal.returns-clause-each
returns-clause-each c = on_ok_weaker c.add_told-2.result (λ second today.
    let first = (c.in_ok-add_told.ensures {u = tt}).each in
    both_told c.args.version today c.args.tables.now c.in_ok-keys.keys.items c.in_ok-keys-2.keys.items
    c.args.findings.now.items c.add_told.new.findings.items c.add_told-2.new.findings.items first.0 second.0 c.requires
    first.1 second.1
    (subst (λ (ks : List RowKey). Told c.args.version today c.args.tables.now Instalments ks first.0)
    c.deref-3.ensures.value first.2)
    (subst (λ (ks : List RowKey). Told c.args.version today c.args.tables.now Shares ks second.0)
    c.deref-6.ensures.value second.2) (instalments_are c) (shares_are c))
    c.add_told-2.ensures.each

pub returns-clause-every : goal.returns-clause-every
returns-clause-every c = on_ok_weaker c.add_told-2.result (λ told whole.
    let first = (c.in_ok-add_told.ensures {u = tt}).all whole in
    let apart : c.args.version ≢ First = search rules in
    of_accounts c.args.version c.args.tables.now c.add_told-2.new.findings.items apart (record {
      instalments = c.in_ok-keys.keys.items;
      shares = c.in_ok-keys-2.keys.items;
      found_are = told whole ∙ (λ t. first t ++ map (account_told Shares) c.deref-6.result.now)
          ∙ (λ t. (c.requires t ++ map (account_told Instalments) c.deref-3.result.now) ++ map (account_told Shares)
          c.deref-6.result.now) ∙ (λ t. map (account_told Instalments) (c.deref-3.ensures.value t)
          ++ map (account_told Shares)
          (c.deref-6.ensures.value t));
      instalments_are = instalments_are c;
      shares_are = shares_are c;
    }))
    c.add_told-2.ensures.all
