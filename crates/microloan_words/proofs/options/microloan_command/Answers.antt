use Rattle.std.proofs.Common.{ap, ◌∙◌}
use Rattle.std.specs.Prelude.{codes}
use Rattle.std.proofs.lemmas.Result.{IfOk-weaker}
use Rattle.clap.specs.Words.{with_subcommand}
use Rattle.microloan_words.specs.Options.{schedule_app, file_app, audit_app, upgrade_app, archive_app, ledger_app}
use Rattle.microloan_words.specs.Options.{portions_app}
use Rattle.microloan_words.proofs.options.microloan_command.Goals as goal

pub returns-clause-app : goal.returns-clause-app
returns-clause-app c =
    IfOk-weaker c.with_command-7.result _ _ (λ r h. h
    ∙ ap (λ a. with_subcommand a portions_app.top) (c.in_ok-program-6.ensures.app ledger_app
    c.ledger_command.ensures.app
    ∙ ap (λ a. with_subcommand a ledger_app.top) (c.in_ok-program-5.ensures.app archive_app
    c.archive_command.ensures.app
    ∙ ap (λ a. with_subcommand a archive_app.top) (c.in_ok-program-4.ensures.app upgrade_app
    c.upgrade_command.ensures.app
    ∙ ap (λ a. with_subcommand a upgrade_app.top) (c.in_ok-program-3.ensures.app audit_app c.audit_command.ensures.app
    ∙ ap (λ a. with_subcommand a audit_app.top) (c.in_ok-program-2.ensures.app (file_app (codes "why"))
    c.why_command.ensures.app
    ∙ ap (λ a. with_subcommand a (file_app (codes "why")).top)
    (c.in_ok-program.ensures.app schedule_app c.schedule_command.ensures.app
    ∙ ap (λ a. with_subcommand a schedule_app.top) c.in_ok-desk_program.ensures.app)))))))
    (c.with_command-7.ensures.app portions_app c.portions_command.ensures.app)
