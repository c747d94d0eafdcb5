-- The tree of offices by its parents, and what an office sees.
use Rattle.std.specs.Prelude.{◌≡◌, ℕ, ◌<◌, Bool, true, false, cond, List, [], ◌∷◌, filter, is_some, ◌==◌, Option, Some}
use Rattle.std.specs.Prelude.{None}
use Rattle.mf_office.specs.Tree.{is_within, is_at_or_below}
use Rattle.mf_model.specs.Institution.{Institution, Office, office_at, Change, Catalogue_becomes, Rows_become}
use Rattle.mf_model.specs.Institution.{Office_added, after}

-- the parent of office x, if x is there and has one
abbrev pub parent_of : List Office → ℕ → Option ℕ
parent_of [] x = None
parent_of (f ∷ fs) x = cond (f.number == x) f.parent (parent_of fs x)

-- office x is there
abbrev pub is_there : List Office → ℕ → Bool
is_there fs x = is_some (office_at x fs)

-- the offices whose number passes
abbrev pub offices_where : (ℕ → Bool) → List Office → List Office
offices_where p fs = filter (λ f. p f.number) fs

-- the offices at or below o
abbrev pub seen_by : ℕ → List Office → List Office
seen_by o fs = offices_where (λ x. is_at_or_below (parent_of fs) x o) fs

-- what o sees: what all share, and the rows of the offices at or below it, and no journal
abbrev pub view : ℕ → Institution → Institution
view o i = record { catalogue = i.catalogue; offices = seen_by o i.offices; journal = None }

-- office x, where o sees it
abbrev pub seen_office : ℕ → ℕ → Institution → Option Office
seen_office o x i = cond (is_at_or_below (parent_of i.offices) x o) (office_at x i.offices) None

-- the change's target is the catalogue, or lies at or below o once it is made
abbrev pub touches : ℕ → Institution → Change → Bool
touches o i (Catalogue_becomes catalogue) = true
touches o i (Rows_become x rows) = is_at_or_below (parent_of (after (Rows_become x rows) i).offices) x o
touches o i (Office_added number parent name) =
    is_at_or_below (parent_of (after (Office_added number parent name) i).offices) number o

-- each number is above n
abbrev pub Above : ℕ → List Office → Type 0
Above n [] = Unit {0}
Above n (f ∷ fs) = (n < f.number) × Above n fs

-- by number, each number once
abbrev pub Ascending : List Office → Type 0
Ascending [] = Unit {0}
Ascending (f ∷ fs) = Above f.number fs × Ascending fs

-- one tree from office 1, at most six deep
pub record IsTree (fs : List Office) : Type 0 where
  pub ascending : Ascending fs
  pub head : parent_of fs 1 ≡ None
  pub head_there : is_there fs 1 ≡ true
  pub parents_there : (x p : ℕ) → parent_of fs x ≡ Some p → is_there fs p ≡ true
  pub all_below : (x : ℕ) → is_there fs x ≡ true → is_at_or_below (parent_of fs) x 1 ≡ true

-- a new office that the tree has room for: its number is free, its parent is there and is not six deep
pub record HasRoomForOffice (number parent : ℕ) (fs : List Office) : Type 0 where
  pub free : is_there fs number ≡ false
  pub parent_there : is_there fs parent ≡ true
  pub room : is_within 4 (parent_of fs) parent 1 ≡ true

-- what a change asks of the tree that it is made to
abbrev pub Fits : Change → List Office → Type 0
Fits (Catalogue_becomes catalogue) fs = Unit {0}
Fits (Rows_become x rows) fs = Unit {0}
Fits (Office_added number parent name) fs = HasRoomForOffice number parent fs
