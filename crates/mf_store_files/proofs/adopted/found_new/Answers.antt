use Rattle.std.proofs.Common.{◌≡◌, inr, Some, refl, sym, ap, ◌∙◌, subst}
use Rattle.std.specs.Prelude.{IsSome}
use Rattle.mf_store_noted.specs.Tabled.{IsUnfoundedJournaled}
use Rattle.mf_store_files.specs.declared.adopted.Refused.TheVariants.{Failed}
use Rattle.mf_store_files.specs.declared.adopted.Unjournaled.TheVariants.{Refused}
use Rattle.mf_store_files.proofs.adopted.found_new.Goals as goal

pub returns-in-Err-clause-errors : goal.returns-in-Err-clause-errors
returns-in-Err-clause-errors g c =
    let is = c.in-Some.is in
    let left = c.in-Err in
    inr (
      ap (λ fault. Refused (Failed fault)) left.ensures.gives_up,
      subst IsSome (sym is) refl,
      (λ day founds.
          let both : Some c.in-Some.day ≡ Some day = sym is ∙ founds in
          let same : c.in-Some.day ≡ day = cc in
          subst (λ d. IsUnfoundedJournaled g.S.Store d c.args.connection left.connection) same
          left.ensures.given_back),
      left.ensures.alone,
    )
