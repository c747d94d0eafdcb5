-- What writes make of the rows of an institution they make beside a journal as well.
use Rattle.std.proofs.Common.{◌≡◌, ◌∙◌, true, List, [], ◌∷◌, Option, None, Some, refl, sym, ap, subst, true≢false}
use Rattle.std.specs.Prelude.{IsSome}
use Rattle.mf_model.specs.Institution.{Institution}
use Rattle.mf_journal.specs.declared.following.Head.{Head}
use Rattle.mf_store_sql.specs.Numbered.{Filed}
use Rattle.mf_store_sql.specs.Writes.{AllFit, after_all}
use Rattle.mf_store_schema.specs.Rows.{Lists}
use Rattle.mf_store_schema.specs.Writes.{FitsLists, after_write, lists_changed}
use Rattle.mf_store_schema.specs.declared.meta.MetaRow.{MetaRow}
use Rattle.mf_store_schema.specs.declared.writes.StoreWrite.{StoreWrite}
use Rattle.mf_store_schema.specs.declared.writes.StoreWrite.TheVariants as write
use Rattle.mf_store_values.specs.Flat.{tables_of}
use Rattle.mf_store_commits.specs.Becoming.{Becomes, SpareMeta, spares_meta}
use Rattle.mf_store_noted.specs.Becoming.{BecomesKept}
use Rattle.mf_store_noted.specs.Kept.{IsBegun, IsJournalOf, begins_of, meta_kept, rows_kept}
use Rattle.mf_store_journal.specs.declared.journal.Journal.{Journal}

module _ (meta : List MetaRow) (journal : List Filed) where
  -- the lists with another row of meta, and with a journal
  abbrev beside : Lists → Lists
  beside lists = record lists { meta = meta; journal = journal }

  some : (lists : Option Lists) → IsSome lists → IsSome (lists_changed beside lists)
  some None there = absurd (true≢false (sym there))
  some (Some lists) there = refl

  one_beside : (w : StoreWrite) → spares_meta w ≡ true → (lists : Option Lists)
      → after_write w (lists_changed beside lists) ≡ lists_changed beside (after_write w lists)
  one_beside write.MakeTables spares lists = absurd (true≢false (sym spares))
  one_beside (write.PutMeta x) spares lists = absurd (true≢false (sym spares))
  one_beside w spares None = none w spares
    where
      none : (w : StoreWrite) → spares_meta w ≡ true
          → after_write w None ≡ lists_changed beside (after_write w None)
      none write.MakeTables spares = absurd (true≢false (sym spares))
      none (write.PutMeta x) spares = refl
      none (write.PutOffice x) spares = refl
      none (write.PutStaff x) spares = refl
      none (write.PutClient x) spares = refl
      none (write.PutCharge x) spares = refl
      none (write.AddProduct x) spares = refl
      none (write.PutProduct x) spares = refl
      none (write.AddLoan x) spares = refl
      none (write.PutLoan x) spares = refl
      none (write.AddEntry x) spares = refl
      none (write.ChangeEntry x) spares = refl
      none (write.AddReceipt x) spares = refl
      none (write.PutInstalment x) spares = refl
      none (write.PutShare x) spares = refl
      none (write.RemoveShares x) spares = refl
  one_beside (write.PutOffice x) spares (Some lists) = refl
  one_beside (write.PutStaff x) spares (Some lists) = refl
  one_beside (write.PutClient x) spares (Some lists) = refl
  one_beside (write.PutCharge x) spares (Some lists) = refl
  one_beside (write.AddProduct x) spares (Some lists) = refl
  one_beside (write.PutProduct x) spares (Some lists) = refl
  one_beside (write.AddLoan x) spares (Some lists) = refl
  one_beside (write.PutLoan x) spares (Some lists) = refl
  one_beside (write.AddEntry x) spares (Some lists) = refl
  one_beside (write.ChangeEntry x) spares (Some lists) = refl
  one_beside (write.AddReceipt x) spares (Some lists) = refl
  one_beside (write.PutInstalment x) spares (Some lists) = refl
  one_beside (write.PutShare x) spares (Some lists) = refl
  one_beside (write.RemoveShares x) spares (Some lists) = refl

  all_beside : (writes : List StoreWrite) → SpareMeta writes → (lists : Option Lists)
      → after_all after_write writes (lists_changed beside lists)
      ≡ lists_changed beside (after_all after_write writes lists)
  all_beside [] spare lists = refl
  all_beside (w ∷ ws) spare lists = ap (after_all after_write ws) (one_beside w spare.0 lists)
      ∙ all_beside ws spare.1 (after_write w lists)

  one_fits : (w : StoreWrite) → spares_meta w ≡ true → (lists : Option Lists) → FitsLists w lists
      → FitsLists w (lists_changed beside lists)
  one_fits write.MakeTables spares lists fits = absurd (true≢false (sym spares))
  one_fits (write.PutMeta x) spares lists fits = absurd (true≢false (sym spares))
  one_fits (write.PutOffice x) spares lists fits = some lists fits
  one_fits (write.PutStaff x) spares lists fits = some lists fits
  one_fits (write.PutClient x) spares lists fits = some lists fits
  one_fits (write.PutCharge x) spares lists fits = some lists fits
  one_fits (write.AddProduct x) spares lists fits = some lists fits
  one_fits (write.PutProduct x) spares lists fits = some lists fits
  one_fits (write.AddLoan x) spares lists fits = some lists fits
  one_fits (write.PutLoan x) spares lists fits = some lists fits
  one_fits (write.AddEntry x) spares lists fits = some lists fits
  one_fits (write.ChangeEntry x) spares lists fits = some lists fits
  one_fits (write.AddReceipt x) spares lists fits = some lists fits
  one_fits (write.PutInstalment x) spares lists fits = some lists fits
  one_fits (write.PutShare x) spares lists fits = some lists fits
  one_fits (write.RemoveShares x) spares lists fits = some lists fits

  all_fit : (writes : List StoreWrite) → SpareMeta writes → (lists : Option Lists)
      → AllFit after_write FitsLists writes lists → AllFit after_write FitsLists writes (lists_changed beside lists)
  all_fit [] spare lists fits = tt
  all_fit (w ∷ ws) spare lists fits = (
    one_fits w spare.0 lists fits.0,
    subst (AllFit after_write FitsLists ws) (sym (one_beside w spare.0 lists))
        (all_fit ws spare.1 (after_write w lists) fits.1),
  )

-- writes that make the one institution's rows of the other's, and leave meta, make them beside a journal too
pub becomes_beside : (journal : Option Head) (writes : List StoreWrite) (i j : Institution) → Becomes writes i j
    → SpareMeta writes → j.catalogue.day ≡ i.catalogue.day → j.journal ≡ i.journal → BecomesKept journal writes i j
becomes_beside journal writes i j b spare day same = record {
  sound = b.sound;
  same_journal = same;
  fits = all_fit (meta_kept journal i.catalogue.day ∷ []) (rows_kept journal i.journal) writes spare
      (Some (tables_of i)) b.fits;
  is = all_beside (meta_kept journal i.catalogue.day ∷ []) (rows_kept journal i.journal) writes spare
      (Some (tables_of i))
      ∙ ap (lists_changed (beside (meta_kept journal i.catalogue.day ∷ []) (rows_kept journal i.journal))) b.is
      ∙ (λ t. Some (record (tables_of j) {
        meta = meta_kept journal (sym day t) ∷ [];
        journal = rows_kept journal (sym same t);
      }));
}

-- a journal that is the institution's begins somewhere
pub begun_of : (journal : Option Journal) (i : Institution) → IsJournalOf journal i → IsBegun (begins_of journal) i
begun_of None i none = none
begun_of (Some journal) i has = (has.0, has.1, has.2.can_be)
