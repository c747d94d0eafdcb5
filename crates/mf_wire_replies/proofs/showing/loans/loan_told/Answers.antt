use Rattle.std.proofs.Common.{ap, sym, ◌∙◌}
use Rattle.mf_model.specs.declared.reply.Reply.TheVariants.{Loan}
use Rattle.mf_wire_replies.specs.Shown.{reply_body}
use Rattle.mf_wire_replies.proofs.showing.loans.loan_told.Goals as goal

pub returns-in_ok-shown_text-in-Shown-clause-ok : goal.returns-in_ok-shown_text-in-Shown-clause-ok
returns-in_ok-shown_text-in-Shown-clause-ok c =
    c.in_ok-shown_text-in-Shown.ensures.ok ∙ ap (λ told. reply_body (Loan c.args.loan told)) (sym c.in-Shown.is)
