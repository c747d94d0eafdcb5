use Rattle.std.proofs.Common.{◌≡◌, ◌≢◌, true, false, refl, sym, ap, ◌∙◌}
use Rattle.mf_journal.specs.Chain.{line_of_row}
use Rattle.mf_model.specs.Names.{names_in}
use Rattle.mf_model.specs.Notes.{noted_as}
use Rattle.mf_model.specs.Unseen.{call_from}
use Rattle.mf_play.specs.Play.{names_told, text_told}
use Rattle.mf_play.proofs.Played.{named_other, line_made}
use Rattle.mf_play.proofs.playing.play_request.Goals as goal

pub returns-then-not-names_as_told-clause-plays : goal.returns-then-not-names_as_told-clause-plays
returns-then-not-names_as_told-clause-plays g c =
    let other : names_told (line_of_row c.args.row) ≢ names_in c.in-Ok.decision.reply =
    λ same. let no : false ≡ true = (c.if-not-names_as_told.ensures {u = tt}).1 (same ∙ sym c.names-names.ensures) in
    absurd (cc) in
    named_other g.S.InstitutionStore (line_of_row c.args.row)
    (call_from c.args.caller c.args.request (text_told (line_of_row c.args.row))) c.in-Ok.decision c.in-Some.commit
    c.args.store.now c.decide.new.store c.in-Some.is other c.in-Ok.ensures.decides

pub returns-in-Ok-commit_noted-clause-plays : goal.returns-in-Ok-commit_noted-clause-plays
returns-in-Ok-commit_noted-clause-plays g c =
    let same : names_told (line_of_row c.args.row) ≡ names_in c.in-Ok.decision.reply =
    (c.if-not-names_as_told.ensures {u = tt}).0 refl ∙ c.names-names.ensures in
    line_made g.S.InstitutionStore (line_of_row c.args.row)
    (call_from c.args.caller c.args.request (text_told (line_of_row c.args.row))) c.in-Ok.decision c.in-Some.commit
    (noted_as c.args.caller (text_told (line_of_row c.args.row)) c.names-names.result) c.args.store.now
    c.decide.new.store c.commit_noted.new.store c.soundness.ensures.accepted g.met.S.InstitutionStore.sound
    c.requires.in_range c.in-Some.is same c.in-Ok.ensures.decides (c.in-Ok-commit_noted.ensures {u = tt})
    (ap (noted_as c.args.caller (text_told (line_of_row c.args.row))) c.names-names.ensures)
