use Rattle.std.proofs.Common.{ap, not, ◌∙◌}
use Rattle.mf_archive_files.proofs.ClosingLemmas.{closes_well}
use Rattle.mf_archive_files.proofs.closing.close_file.Goals as goal

pub returns-in-Ok : goal.returns-in-Ok
returns-in-Ok g c =
    let settled = c.is_autocommit-settled.ensures in
    closes_well c.args.connection c.in-Ok.files (settled.settled (settled.value ∙ ap not c.requires.alone))
    c.in-Ok.ensures.copied
