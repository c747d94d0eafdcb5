use Rattle.std.proofs.Common.{◌≡◌, ◌≤◌, ◌+◌, ◌∙◌, ◌++◌, ap, arith, take, List}
use Rattle.std.specs.Prelude.{sum_by}
use Rattle.std.proofs.lemmas.List.{take_all}
use Rattle.std.specs.List.{flat_map}
use Rattle.mf_arrears.specs.Line.{OfficeLine}
use Rattle.mf_arrears.specs.Report.{line_text, all_text, total_of}
use Rattle.mf_arrears.proofs.ReportLemmas.{loans-next}
use Rattle.mf_arrears.proofs.report.report_text.Goals as goal

pub add_line-requires : goal.add_line-requires
add_line-requires c =
    let most : c.loop-line.all.loans + c.line-item.result.loans ≤ sum_by (λ (l : OfficeLine). l.loans) c.args.lines.now
    =
    loans-next c.args.lines.now c.loop-line.line-index c.loop-line.all.loans c.line-item.result
    (ap (λ (x : OfficeLine). x.loans) c.loop-line.invariant.all) c.loop-line-test.true c.line-item.is in
    omega (arith, most, c.requires)

pub returns-clause-text : goal.returns-clause-text
returns-clause-text c =
    let lines : List OfficeLine = c.args.lines.now in
    let whole : take c.loop-line.line-index lines ≡ lines =
    take_all c.loop-line.line-index lines c.loop-line-test.false in
    c.in_ok-push_all.ensures.text
    ∙ ap (λ x. x ++ all_text c.loop-line.all) c.loop-line.invariant.text
    ∙ ap (λ (x : OfficeLine). flat_map line_text (take c.loop-line.line-index lines) ++ all_text x)
    c.loop-line.invariant.all
    ∙ ap (λ x. flat_map line_text x ++ all_text (total_of x)) whole
