-- A file in which no database was made yet holds none.
use Rattle.std.proofs.Common.{◌≡◌, ◌<◌, ◌≤◌, ℕ, ◌-◌, ◌*◌, List, Option, inl, inr, length, take, slice_index, unwrap_or}
use Rattle.std.proofs.Common.{[], Some, true, false, refl, sym, ap, ◌∙◌, arith, get_or-take, zero-add}
use Rattle.std.proofs.Math.Logic.{∥∥₁_elim}
use Rattle.std.proofs.lemmas.List.{length-take}
use Rattle.sqlite.specs.Files.{AreFoundIn, IsNothing, IsEmpty}
use Rattle.sqlite.specs.Tree.{Trees}
use Rattle.sqlite_wal.specs.Format.{part}
use Rattle.sqlite_wal.specs.Recovery.{Image, pages_after}
use Rattle.sqlite_wal.proofs.PartLemmas.{slice_index-part, part_within}
use Rattle.sqlite_wal.proofs.RecoveryLemmas.{replays_once}
use Rattle.sqlite_wal.proofs.AppendLemmas.{some_value, page_from_pages}
use Rattle.sqlite_pages.specs.PageMap.{PageMap}
use Rattle.sqlite_pool.specs.Stored.{stored_size, used_size, Adopts}
use Rattle.sqlite_pool.specs.StoredLaws.{trimmed_some}
use Rattle.sqlite_pool.specs.File.{header_in, IsSoundFile}
use Rattle.sqlite_pool.specs.Opening.{IsBlankFile}
use Rattle.sqlite_pool.proofs.ProbeLemmas.{first_byte}
use Rattle.sqlite_store.specs.Listing.{IsOurs}

module _ (size : ℕ) (image : Image) (pages : PageMap) (found : Adopts size image pages)
    (sound : IsSoundFile size pages) where
  first_page : (page : List ℕ) × (found.stored 1 ≡ Some page)
  first_page = some_value (found.stored 1) found.whole.first

  header_is : header_in pages ≡ take 100 (take size first_page.0)
  header_is =
      let used : pages 1 ≡ Some (take size first_page.0) =
      ap (λ (p : PageMap). p 1) (sym found.shows) ∙ trimmed_some size _ 1 first_page.0 first_page.1 in
      ap (λ (o : Option (List ℕ)). take 100 (unwrap_or o [])) used

  wide : 16 ≤ size
  wide =
      let long : length (take 16 (take 100 (take size first_page.0))) ≡ 16 =
      ap (λ (b : List ℕ). length (take 16 b)) (sym header_is) ∙ ap length sound.header.0.magic in
      omega (
        arith,
        long,
        length-take 16 (take 100 (take size first_page.0)),
        length-take 100 (take size first_page.0),
        length-take size first_page.0,
      )

  -- with no frame to replay, the database file begins with the first letter of SQLite's own
  begins : found.found.frames ≡ 0 → (16 ≤ length image.db) × (slice_index image.db 0 ≡ 83)
  begins none =
      let whole = stored_size size in
      let raw = found.found in
      let (page, is) = first_page in
      let alone : pages_after whole image.log image.db 0 1 ≡ Some page =
      ap (λ (p : PageMap). p 1) (ap (pages_after whole image.log image.db) (sym none) ∙ raw.gives) ∙ is in
      let start : (1 - 1) * whole ≡ 0 = omega arith in
      let front : part image.db 0 whole ≡ page = ap (λ (at : ℕ). part image.db at whole) (sym start)
      ∙ (page_from_pages whole image.log image.db 0 1 page alone).0 in
      let wide' = wide in
      let long = part_within image.db 0 whole (omega arith) (ap length front ∙ found.whole.sized 1 page is) in
      let head : header_in pages ≡ take 100 (take size (part image.db 0 whole)) =
      header_is ∙ ap (λ (b : List ℕ). take 100 (take size b)) (sym front) in
      let byte : slice_index (header_in pages) 0 ≡ slice_index image.db 0 =
      ap (λ (b : List ℕ). slice_index b 0) head ∙ get_or-take 100 (take size (part image.db 0 whole)) 0 0 (omega arith)
      ∙ get_or-take size (part image.db 0 whole) 0 0 (omega arith) ∙ slice_index-part image.db 0 whole 0 (omega arith)
      ∙ ap (slice_index image.db) (zero-add 0) in (
        omega arith,
        sym byte ∙ sym (get_or-take 16 (header_in pages) 0 0 (omega arith)) ∙ ap (λ (b : List ℕ). slice_index b 0)
            sound.header.0.magic,
      )

  not_blank : (other : ℕ) → 0 < other → ¬ IsBlankFile other image
  not_blank other some (inl none) = omega (arith, found.found.present)
  not_blank other some (inr blank) =
      let raw = found.found in
      let none : raw.frames ≡ 0 = elim blank.0 [
        | inl ignored ↦ replays_once (stored_size size) image.log raw.frames 0 raw.replays (inl (ignored.0, refl))
        | inr taken ↦ elim raw.replays [
          | inl ignored ↦ ignored.1
          | inr ours ↦ replays_once (stored_size size) image.log raw.frames 0 raw.replays (rw (sym ours.0.head.size
              ∙ taken.0.head.size) blank.0)
        ]
      ] in
      let (long, magic) = begins none in
      elim blank.1.0 [
        | inl short ↦ omega arith
        | inr more ↦ elim more [
          | inl zero' ↦ omega (arith, zero'.1, magic)
          | inr rest ↦ rest.1 (magic
              ∙ sym (first_byte other some))
        ]
      ]

pub empty_if_nothing : (image : Image) (trees : Trees) → IsNothing image → AreFoundIn image trees → IsEmpty trees
empty_if_nothing image trees nothing (inl (size, pages, wanted, found, ours, are)) =
    absurd (∥∥₁_elim ours (λ x y. absurd x) (λ (it : IsOurs size true wanted pages). elim nothing [
      | inl plain ↦ not_blank size image pages found it.file.sound (used_size 4096 false) (omega arith) plain
      | inr summed ↦ not_blank size image pages found it.file.sound (used_size 4096 true) (omega arith) summed
    ]))
empty_if_nothing image trees nothing (inr none) = none.1
