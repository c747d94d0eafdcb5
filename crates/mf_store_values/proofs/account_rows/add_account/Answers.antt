use Rattle.std.proofs.Common.{◌++◌, map, length, refl, sym, ap, ◌∙◌}
use Rattle.std.proofs.lemmas.List.{append-nil}
use Rattle.std.proofs.lemmas.Result.{on_ok_weaker}
use Rattle.mf_account.specs.Change.{KeptAccount, settled_in}
use Rattle.mf_model.specs.Accounts.{account_in}
use Rattle.mf_store_values.specs.Flat.{instalment_in, share_in, numbered_from, instalments_kept, shares_kept}
use Rattle.mf_store_values.specs.Flat.{parts_from}
use Rattle.mf_store_values.proofs.AccountLemmas.{read_none, read_some}
use Rattle.mf_store_values.proofs.account_rows.add_account.Goals as goal

pub returns-in_default-clause-added : goal.returns-in_default-clause-added
returns-in_default-clause-added c k sound e f names l plain is es =
    let row = c.args.row.now in
    let none = sym c.in_default.is ∙ c.in_ok-found.ensures.account k sound e f row.office row.number names l plain is
    es in
    let instalments = c.args.instalments.now.items in
    let shares = c.args.shares.now.items in (
      sym (ap (λ xs. instalments ++ map (instalment_in row.office row.number) xs)
          (read_none instalments_kept (account_in k l) none) ∙ append-nil instalments),
      sym (ap (λ xs. shares ++ map (share_in row.office row.number) xs) (read_none shares_kept (account_in k l) none)
          ∙ append-nil shares),
    )

pub returns-clause-added : goal.returns-clause-added
returns-clause-added c =
    on_ok_weaker c.add_shares.result (λ added k sound e f names l plain is es.
    let row = c.args.row.now in
    let some = sym c.in-Some.is ∙ c.in_ok-found.ensures.account k sound e f row.office row.number names l plain is es in
    let rows = read_some instalments_kept (λ (b : KeptAccount). numbered_from (λ n r. (n, r)) 1 b.state.rows)
    (account_in k l) c.in-Some.account (λ a. refl) some in
    let parts = read_some shares_kept (λ (b : KeptAccount). parts_from (λ seq. settled_in seq b.settled) 1
    (length b.loan.entries)) (account_in k l) c.in-Some.account (λ a. refl) some in (
      c.in_ok-add_instalments.ensures.added ∙ ap (λ rs. c.args.instalments.now.items
          ++ map (instalment_in row.office row.number) (numbered_from (λ n r. (n, r)) 1 rs)) c.rows.ensures.rows
          ∙ ap (λ xs. c.args.instalments.now.items ++ map (instalment_in row.office row.number) xs) rows,
      added ∙ ap (λ xs. c.args.shares.now.items ++ map (share_in row.office row.number) xs) parts,
    )) c.add_shares.ensures.added
