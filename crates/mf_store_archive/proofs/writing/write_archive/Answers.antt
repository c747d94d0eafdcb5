use Rattle.std.proofs.Common.{◌≡◌, Err, sym, subst, rules}
use Rattle.mf_store_archive.specs.Writing.{WritesArchive}
use Rattle.mf_store_archive.proofs.WritingLemmas.{copied_all, copying_first, copying_on, endless, not_copied}
use Rattle.mf_store_archive.proofs.writing.write_archive.Goals as goal

pub pages-init : goal.pages-init
pages-init g c = record {
  mode = c.requires.alone;
  mode_too = c.begin_archive.ensures.mode;
  copying = copying_first g.S.Store g.A.Store c.args.day c.args.begins c.args.file.now c.args.archive.now
      c.begin_archive.new.archive c.in_ok-begin_archive.ensures.files c.in_ok-begin_archive.ensures.open;
}

pub pages-preserved : goal.pages-preserved
pages-preserved g c = record {
  mode = c.copy_page.ensures.mode;
  mode_too = c.copy_page.ensures.mode_too;
  copying = copying_on g.S.Store g.A.Store c.args.day c.args.begins c.args.file.now c.pages.file
      c.copy_page.new.file c.args.archive.now c.pages.archive c.copy_page.new.archive c.pages.head
      c.pages.invariant.copying c.in_ok-copied.copied c.in_ok-copied.ensures.copies;
}

pub returns-clause-writes : goal.returns-clause-writes
returns-clause-writes g c =
    endless g.S.Store g.A.Store c.args.day c.args.begins c.args.file.now c.pages.file c.args.archive.now
    c.pages.archive c.pages.head c.pages.invariant.copying

pub returns-in_err-copied-clause-writes : goal.returns-in_err-copied-clause-writes
returns-in_err-copied-clause-writes g c =
    let fault = c.in_err-copied.field-0.0 in
    let given : c.from_residual-in_err-copied.result ≡ Err fault = search rules in
    subst (λ r. WritesArchive g.S.Store g.A.Store c.args.day c.args.begins c.args.file.now c.copy_page.new.file
    c.args.archive.now c.copy_page.new.archive r) (sym given)
    (not_copied g.S.Store g.A.Store c.args.day c.args.begins c.args.file.now c.pages.file c.copy_page.new.file
    c.args.archive.now c.pages.archive c.copy_page.new.archive c.pages.head c.pages.invariant.copying fault
    c.in_err-copied.ensures.copies)

pub returns-then-copied-clause-writes : goal.returns-then-copied-clause-writes
returns-then-copied-clause-writes g c =
    copied_all g.S.Store g.A.Store c.args.day c.args.begins c.args.file.now c.pages.file c.copy_page.new.file
    c.args.archive.now c.pages.archive c.copy_page.new.archive c.pages.head c.pages.invariant.copying
    c.in_ok-copied.copied c.in_ok-copied.ensures.copies c.if-copied.true
    (λ trees live may. g.met.A.Store.settled c.copy_page.new.archive.store trees live may)
    (c.is_autocommit-settled.ensures.settled (search rules))
