use Rattle.std.proofs.Common.{◌∙◌}
use Rattle.csv.specs.Records.{fields_of}
use Rattle.mf_sheet_lines.specs.Results.{heading}
use Rattle.mf_sheet_lines.specs.declared.results.SheetResult.TheVariants.{Entered}
use Rattle.mf_sheet_lines.proofs.ResultTexts.{grown}
use Rattle.mf_sheet_lines.proofs.results.text_of_records.Goals as goal

pub loop-place-preserved : goal.loop-place-preserved
loop-place-preserved c =
    let whole = c.end_with.ensures.whole (fields_of c.index-rows-place.result) c.in_ok-begun.ensures.ok in
    c.in_ok-extend_from_slice.ensures.items
    ∙ grown c.args.rows.now c.args.results.now c.loop-place.place heading c.loop-place.text.items c.as_slice.result.now
    c.index-rows-place.result Entered c.loop-place-test.true c.requires c.index-rows-place.is c.loop-place.invariant
    (c.as_slice.ensures.value ∙ whole)
