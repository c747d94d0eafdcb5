use Rattle.std.proofs.Common.{◌≡◌, Equal, sym, subst, rules}
use Rattle.std.proofs.lemmas.Fn.{always_returns_same}
use Rattle.mf_store_audit.proofs.DifferenceLemmas.{is_here, not_here}
use Rattle.mf_store_audit.proofs.PlaceLemmas.{contains_item}
use Rattle.mf_store_audit.proofs.accounts.is_among.Goals as goal

pub returns-in-Ok-clause-every : goal.returns-in-Ok-clause-every
returns-in-Ok-clause-every g c total up there =
    let rows = c.args.rows.now in
    let row = c.args.row.now in
    let at = c.index-rows-place.result in
    let equal = c.in-Ok.ensures.position (λ r. g.T.Ranked.by r row) (always_returns_same _ _ _ (λ a r h called.
    (search rules, search rules))) at in
    c.is_same.ensures.1 (is_here g.T.Ranked.by rows row at total up there
    (contains_item rows c.in-Ok.place at c.in-Ok.ensures.bound c.index-rows-place.is)
    (subst (λ r. g.T.Ranked.by r row ≡ Equal) (sym c.index-rows-place.is) equal))

pub returns-in-Err-clause-every : goal.returns-in-Err-clause-every
returns-in-Err-clause-every g c total up there =
    let row = c.args.row.now in
    absurd (not_here g.T.Ranked.by c.args.rows.now row c.in-Err.field-0 total up c.in-Err.ensures.bound
    (c.in-Err.ensures.position (λ r. g.T.Ranked.by r row) (always_returns_same _ _ _ (λ a r h called.
    (search rules, search rules)))) there)
