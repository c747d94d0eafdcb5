use Rattle.std.proofs.Common.{◌≡◌, ◌≤◌, ◌^◌, List, sym, subst}
use Rattle.std.specs.Prelude.{sum_by}
use Rattle.std.proofs.lemmas.Result.{IfOk-weaker}
use Rattle.mf_arrears.specs.Line.{OfficeLine}
use Rattle.mf_model.specs.Arrears.{arrears_seen}
use Rattle.mf_desk.proofs.arrears.arrears_lines.Goals as goal

pub returns-clause-few : goal.returns-clause-few
returns-clause-few g c clean i stands =
    let o = c.args.caller.office in
    let before = c.args.store.now in
    let reads = c.office_lines.ensures in
    let after_caller = c.in_ok-caller.ensures.same (reads.premise clean) i stands in
    let few = c.arrears_can_be_summed.ensures.seen o i (g.met.S.InstitutionStore.sound before i stands) in
    IfOk-weaker c.office_lines.result (λ (lines : List OfficeLine). lines ≡ arrears_seen o i)
    (λ (lines : List OfficeLine). sum_by (λ (line : OfficeLine). line.loans) lines ≤ 10 ^ 10)
    (λ lines same. subst (λ (x : List OfficeLine). sum_by (λ (line : OfficeLine). line.loans) x ≤ 10 ^ 10) (sym same)
    few)
    (reads.value_is clean i after_caller)
