-- The rows of one office that the queries show.
use Rattle.std.proofs.Common.{◌≡◌, ◌+◌, ℕ, Bool, true, false, List, [], ◌∷◌, ◌++◌, map, filter, refl, ap, ◌∙◌, arith}
use Rattle.std.proofs.Common.{is_eq, nat_cmp}
use Rattle.std.specs.List.{AllByRecursion}
use Rattle.std.proofs.lemmas.Bool.Decides.{nat_tests}
use Rattle.sqlite_keyed.proofs.ListLemmas.{all_weaker, filter_all}
use Rattle.mf_model.specs.Institution.{Institution, Office, Rows, office_at, no_rows}
use Rattle.mf_model.specs.Sound.{IsSound}
use Rattle.mf_model.specs.Store.{rows_of, rows_at}
use Rattle.mf_model.specs.Tree.{Ascending}
use Rattle.mf_store_schema.specs.Rows.{staff_row, client_row, is_staff_of, is_client_of}
use Rattle.mf_store_values.specs.Flat.{numbered_from, all_rows, staff_in, client_in, tables_of}
use Rattle.mf_store_values.proofs.BlockLemmas.{in_blocks, filter_office}

-- ---- one office's rows among all

-- where the rows stand office by office, and a test tells an office's own by its number
module _ {R : Type 0} (all : List Office → List R) (block : ℕ → Rows → List R) (first : all [] ≡ []) (next :
    (f : Office)
    (fs : List Office) → all (f ∷ fs) ≡ block f.number f.rows ++ all fs) (p : ℕ → R → Bool) where
  in_all : (fs : List Office) → all fs ≡ in_blocks block fs
  in_all [] = first
  in_all (f ∷ fs) = next f fs ∙ ap (λ l. block f.number f.rows ++ l) (in_all fs)

  pub block_filtered : ((x y : ℕ) (rows : Rows) → AllByRecursion (λ r. p x r ≡ is_eq (nat_cmp x y)) (block y rows))
      → (x : ℕ) → block x no_rows ≡ [] → (fs : List Office) → Ascending fs
      → filter (p x) (all fs) ≡ block x (rows_of (office_at x fs))
  block_filtered tests x empty fs up =
      ap (filter (p x)) (in_all fs)
      ∙ filter_office block (p x) x (λ y rows other. tested y rows false (grind (arith, nat_tests, other))) empty fs up
      ∙ filter_all (p x) (block x own) (tested x own true (grind (arith, nat_tests)))
    where
      own : Rows
      own = rows_of (office_at x fs)

      tested : (y : ℕ) (rows : Rows) (b : Bool) → is_eq (nat_cmp x y) ≡ b → AllByRecursion (λ r. p x r ≡ b) (block y
          rows)
      tested y rows b is = all_weaker (λ r. p x r ≡ is_eq (nat_cmp x y)) (λ r. p x r ≡ b) (λ r e. e ∙ is) (block y rows)
          (tests x y rows)

-- the rows of one kind
pub rows_in_office : {A R : Type 0} (make : ℕ → ℕ → A → R) (of : Rows → List A) → of no_rows ≡ [] → (p : ℕ → R → Bool)
    → ((x y m : ℕ) (a : A) → p x (make y m a) ≡ is_eq (nat_cmp x y)) → (x : ℕ) (fs : List Office) → Ascending fs
    → filter (p x) (all_rows make of fs) ≡ numbered_from (make x) 1 (of (rows_of (office_at x fs)))
rows_in_office {A} {R} make of none p tests x = block_filtered (all_rows make of)
    (λ y rows. numbered_from (make y) 1 (of rows)) refl (λ f fs. refl) p (λ x y rows. each x y 1 (of rows)) x
    (ap (numbered_from (make x) 1) none)
  where
    each : (x y n : ℕ) (xs : List A) → AllByRecursion (λ r. p x r ≡ is_eq (nat_cmp x y)) (numbered_from (make y) n xs)
    each x y n [] = tt
    each x y n (a ∷ xs) = (tests x y n a, each x y (n + 1) xs)

-- what is made of rows that are numbered
pub map_numbered : {A R X : Type 0} (row : R → X) (make : ℕ → A → R) (n : ℕ) (xs : List A)
    → map row (numbered_from make n xs) ≡ numbered_from (λ m a. row (make m a)) n xs
map_numbered row make n [] = refl
map_numbered row make n (a ∷ xs) = ap (λ l. row (make n a) ∷ l) (map_numbered row make (n + 1) xs)

pub staff_shown : (x : ℕ) (i : Institution) → IsSound i → map staff_row (filter (is_staff_of x) (tables_of i).staff)
    ≡ numbered_from (λ m s. staff_row (staff_in x m s)) 1 (rows_at x i).staff
staff_shown x i sound = ap (map staff_row) (rows_in_office staff_in (λ rows. rows.staff) refl is_staff_of (λ x y m a.
    refl) x i.offices sound.tree.ascending) ∙ map_numbered staff_row (staff_in x) 1 (rows_at x i).staff

pub clients_shown : (x : ℕ) (i : Institution) → IsSound i → map client_row (filter (is_client_of x)
    (tables_of i).clients) ≡ numbered_from (λ m name. client_row (client_in x m name)) 1 (rows_at x i).clients
clients_shown x i sound = ap (map client_row) (rows_in_office client_in (λ rows. rows.clients) refl is_client_of
    (λ x y m a. refl) x i.offices sound.tree.ascending) ∙ map_numbered client_row (client_in x) 1 (rows_at x i).clients
