use Rattle.std.proofs.Common.{◌≡◌, ◌∙◌, ◌==◌, ◌++◌, ℕ, true, List, [], ◌∷◌, map, Some, sym, ap, subst, arith}
use Rattle.std.proofs.Common.{append-nil}
use Rattle.std.proofs.lemmas.List.{nil_from_length}
use Rattle.mf_journal.specs.declared.following.KeptRow.{KeptRow}
use Rattle.mf_store_sql.specs.Numbered.{Filed}
use Rattle.mf_store_sql.specs.Writes.{AllFit, after_all}
use Rattle.mf_store_journal.specs.Rows.{filed_kept}
use Rattle.mf_store_archive.specs.Filing.{FitsFiling, after_filing}
use Rattle.mf_store_archive.specs.declared.filing.Filing.{Filing}
use Rattle.mf_store_archive.specs.declared.filing.Filing.TheVariants.{Put}
use Rattle.mf_store_archive.proofs.WritingLemmas.{files_none, filed_rows, puts_become, puts_fit, unfiled_rows}
use Rattle.mf_store_archive.proofs.writing.put_rows.Goals as goal

empty : (n : ℕ) → true ≡ (n == 0) → n ≡ 0
empty n e = grind arith

none_put : (kept : List KeptRow) → [] ≡ map Put kept → kept ≡ []
none_put [] is = Rattle.std.proofs.Common.refl
none_put (k ∷ kept) is = absurd (cc)

fits : (writes : List Filing) (kept : List KeptRow) (rows : List Filed) → writes ≡ map Put kept
    → AllFit after_filing FitsFiling writes (Some rows)
fits writes kept rows are = subst (λ ws. AllFit after_filing FitsFiling ws (Some rows)) (sym are) (puts_fit kept rows)

become : (writes : List Filing) (kept : List KeptRow) (rows : List Filed) → writes ≡ map Put kept
    → after_all after_filing writes (Some rows) ≡ Some (rows ++ map filed_kept kept)
become writes kept rows are = ap (λ ws. after_all after_filing ws (Some rows)) are ∙ puts_become kept rows

pub returns-then-is_empty-clause-files : goal.returns-then-is_empty-clause-files
returns-then-is_empty-clause-files g c kept rows are =
    let nil = nil_from_length c.args.writes.now (empty _ c.if-is_empty.ensures) in
    let none = none_put kept (sym nil ∙ are) in
    files_none g.A.Store (Some rows) (Some (rows ++ map filed_kept kept)) c.args.archive.now
    (ap Some (sym (append-nil rows) ∙ ap (λ ks. rows ++ map filed_kept ks) (sym none)))

pub returns-in-Ok-clause-files : goal.returns-in-Ok-clause-files
returns-in-Ok-clause-files g c kept rows are =
    filed_rows c.args.writes.now (Some rows) (Some (rows ++ map filed_kept kept)) (fits _ kept rows are)
    (become _ kept rows are) g.A.Store c.args.archive.now c.apply.new.connection c.apply.ensures.was_open
    c.apply.ensures.crash c.in-Ok.ensures.ok c.in-Ok.ensures.settled

pub returns-in-Err-clause-files : goal.returns-in-Err-clause-files
returns-in-Err-clause-files g c kept rows are =
    unfiled_rows c.args.writes.now (Some rows) (Some (rows ++ map filed_kept kept)) (fits _ kept rows are)
    (become _ kept rows are) g.A.Store c.args.archive.now c.apply.new.connection c.apply.ensures.was_open
    c.apply.ensures.crash c.in-Err.ensures.err
