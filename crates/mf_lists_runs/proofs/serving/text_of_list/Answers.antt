use Rattle.std.proofs.Common.{◌≡◌, inr, Err, ap, rules}
use Rattle.mf_base.specs.declared.fault.Fault.TheVariants.{F20}
use Rattle.mf_wire.specs.Serving.{text_response}
use Rattle.mf_lists_runs.proofs.serving.text_of_list.Goals as goal

pub returns-in_err-body-clause-text : goal.returns-in_err-body-clause-text
returns-in_err-body-clause-text c = λ to_head.
    let e : c.from_residual-in_err-body.result ≡ Err F20 = search rules in inr (ap (text_response to_head) e)
