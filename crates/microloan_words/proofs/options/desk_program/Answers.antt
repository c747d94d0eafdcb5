use Rattle.std.proofs.Common.{ap, ◌∙◌}
use Rattle.std.proofs.lemmas.Result.{IfOk-weaker}
use Rattle.clap.specs.Words.{with_subcommand}
use Rattle.microloan_words.specs.Options.{batch_app, serve_app, collect_app, report_app}
use Rattle.microloan_words.proofs.options.desk_program.Goals as goal

pub returns-clause-app : goal.returns-clause-app
returns-clause-app c =
    IfOk-weaker c.with_command-4.result _ _ (λ r h. h
    ∙ ap (λ a. with_subcommand a report_app.top)
    (c.in_ok-program-3.ensures.app collect_app c.collect_command.ensures.app
    ∙ ap (λ a. with_subcommand a collect_app.top)
    (c.in_ok-program-2.ensures.app serve_app c.serve_command.ensures.app
    ∙ ap (λ a. with_subcommand a serve_app.top) (c.in_ok-program.ensures.app batch_app c.batch_command.ensures.app
    ∙ ap (λ a. with_subcommand a batch_app.top) c.bare_program.ensures.app))))
    (c.with_command-4.ensures.app report_app c.report_command.ensures.app)
