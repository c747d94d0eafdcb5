use Rattle.std.proofs.Common.{◌≡◌, false}
use Rattle.mf_store_archive.proofs.WritingLemmas.{Copying}
use Rattle.mf_store_archive.proofs.writing.write_archive.Given as goal

abbrev pub invariant-pages : goal.invariant-pages
invariant-pages g l = record {
  mode : l.file.in_transaction ≡ false;
  mode_too : l.archive.in_transaction ≡ false;
  copying : Copying g.S.Store g.A.Store l.day l.fn.begins l.fn.file l.file l.fn.archive l.archive l.head;
}
