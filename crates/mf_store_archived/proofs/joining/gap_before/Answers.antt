use Rattle.std.proofs.Common.{Some, sym, ap, ◌∙◌, subst, refl, arith}
use Rattle.std.proofs.lemmas.Option.{slice_get-get_or}
use Rattle.mf_store_archived.specs.Joining.{EndsWith}
use Rattle.mf_store_archived.specs.declared.archive.Archive.{Archive}
use Rattle.mf_store_archived.proofs.JoinLemmas.{first_at, same_some}
use Rattle.mf_store_archived.proofs.joining.gap_before.Goals as goal

pub returns-in-Some : goal.returns-in-Some
returns-in-Some c =
    let found = c.in-Some.ensures.there in
    let a = c.index-archives-place.result in
    let got = slice_get-get_or c.args.archives.now c.in-Some.place a c.in-Some.ensures.within
    ∙ ap Some (sym c.index-archives-place.is) in
    let same = same_some found.0 a (sym found.1 ∙ got) in
    let number = c.args.head.number in
    let is = ap (λ (b : Archive). b.begins.number) c.index-archives-place.is in (
      refl,
      a,
      first_at (EndsWith number) c.args.archives.now c.in-Some.place a got (subst (EndsWith number) same found.2)
          c.in-Some.ensures.some,
      omega (arith, is),
    )
