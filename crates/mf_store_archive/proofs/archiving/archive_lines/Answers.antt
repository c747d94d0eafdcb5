use Rattle.std.proofs.Common.{◌≡◌, Err, sym, subst, rules}
use Rattle.mf_store_archive.specs.Archiving.{Archives}
use Rattle.mf_store_archive.proofs.ArchivingLemmas.{taken_or_kept, unwritten}
use Rattle.mf_store_archive.proofs.archiving.archive_lines.Goals as goal

pub returns-clause-archives : goal.returns-clause-archives
returns-clause-archives g c =
    taken_or_kept g.S.Store g.A.Store c.args.day c.args.journal c.args.file.now c.write_archive.new.file
    c.take_out.new.connection c.args.archive.now c.write_archive.new.archive c.in_ok-begins.begins
    c.in_ok-begins.ensures.writes c.take_out.result c.take_out.ensures.takes

pub returns-in_err-begins-clause-archives : goal.returns-in_err-begins-clause-archives
returns-in_err-begins-clause-archives g c =
    let fault = c.in_err-begins.field-0.0 in
    let given : c.from_residual.result ≡ Err fault = search rules in
    subst (λ r. Archives g.S.Store g.A.Store c.args.day c.args.journal c.args.file.now c.write_archive.new.file
    c.args.archive.now c.write_archive.new.archive r) (sym given)
    (unwritten g.S.Store g.A.Store c.args.day c.args.journal c.args.file.now c.write_archive.new.file
    c.args.archive.now c.write_archive.new.archive fault c.in_err-begins.ensures.writes)
