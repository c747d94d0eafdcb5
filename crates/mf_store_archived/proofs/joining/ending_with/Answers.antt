use Rattle.std.proofs.Common.{Some, sym, ap, ◌∙◌}
use Rattle.std.proofs.lemmas.Option.{slice_get-get_or}
use Rattle.mf_store_archived.specs.Joining.{EndsWith}
use Rattle.mf_store_archived.specs.declared.archive.Archive.{Archive}
use Rattle.mf_store_archived.proofs.JoinLemmas.{none_first, none_more, none_at_all}
use Rattle.mf_store_archived.proofs.joining.ending_with.Goals as goal

pub loop-place-init : goal.loop-place-init
loop-place-init c = none_first (λ (a : Archive). ¬ EndsWith c.args.number a) c.args.archives.now

pub loop-place-preserved : goal.loop-place-preserved
loop-place-preserved c =
    let a = c.index-archives-place.result in
    let there = slice_get-get_or c.args.archives.now c.loop-place.place a c.loop-place-test.true
    ∙ ap Some (sym c.index-archives-place.is) in
    none_more (λ (b : Archive). ¬ EndsWith c.args.number b) c.args.archives.now c.loop-place.place a there
    (λ ends. absurd (cc (c.ends_with.ensures.1 ends))) c.loop-place.invariant

pub returns-then-ends_with-clause-there : goal.returns-then-ends_with-clause-there
returns-then-ends_with-clause-there c =
    let a = c.index-archives-place.result in (
      a,
      slice_get-get_or c.args.archives.now c.loop-place.place a c.loop-place-test.true
          ∙ ap Some (sym c.index-archives-place.is),
      c.ends_with.ensures.0 c.if-ends_with.true,
    )

pub returns-then-ends_with-clause-some : goal.returns-then-ends_with-clause-some
returns-then-ends_with-clause-some c = c.loop-place.invariant

pub returns-clause-none : goal.returns-clause-none
returns-clause-none c = none_at_all _ _ _ c.loop-place-test.false c.loop-place.invariant
