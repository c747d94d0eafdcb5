use Rattle.std.proofs.Common.{◌≡◌, ◌≤◌, ℕ, arith, sym, subst, inl, inr}
use Rattle.std.proofs.lemmas.Bool.{cases_lt}
use Rattle.mf_alloc.specs.Sums.{Instalment}
use Rattle.mf_account.specs.Account.{sum_at}
use Rattle.mf_account.specs.Safe.{most_kept}
use Rattle.mf_account.proofs.safe.are_owed_within.Goals as goal

pub loop-p-preserved : goal.loop-p-preserved
loop-p-preserved c q less =
    elim (cases_lt q c.loop-p.p) [
      | inl below ↦ c.loop-p.invariant q below
      | inr last ↦
          let same : q ≡ c.loop-p.p = omega (arith, less, last) in
          let own : sum_at (λ (row : Instalment). row.owed) c.loop-p.p c.args.rows.now ≤ most_kept =
          c.is_owed_within.ensures.within c.if-not-is_owed_within.false in
          subst (λ (n : ℕ). sum_at (λ (row : Instalment). row.owed) n c.args.rows.now ≤ most_kept) (sym same) own
    ]
