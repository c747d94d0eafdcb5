-- The rows of a journal: they tell it, each follows on those before it, and their numbers rise.
use Rattle.std.proofs.Common.{◌≡◌, ◌≤◌, ◌<ℤ◌, ℕ, pos, suc, List, [], ◌∷◌, ◌++◌, map, Option, Some, None}
use Rattle.std.proofs.Common.{refl, sym, ap, ap₂, ◌∙◌, arith}
use Rattle.std.specs.Prelude.{IsSome}
use Rattle.std.specs.List.{AllByRecursion}
use Rattle.std.proofs.lemmas.Int.{ints}
use Rattle.sqlite.specs.declared.types.Value.{Value}
use Rattle.sqlite.specs.declared.types.Value.TheVariants.{Int, Blob}
use Rattle.sqlite.specs.Order.{column}
use Rattle.sqlite_keyed.specs.Keyed.{IsKeyedBy}
use Rattle.mf_store_sql.specs.Numbered.{Filed, id_of, values_in}
use Rattle.mf_store_sql.specs.Rows.{AreKeepable}
use Rattle.mf_model.specs.Institution.{JournalLine}
use Rattle.mf_journal.specs.Chain.{link}
use Rattle.mf_journal.specs.Following.{FollowOn, head_of, head_after, line_of}
use Rattle.mf_journal.specs.declared.following.Head.{Head}
use Rattle.mf_journal.specs.declared.following.KeptRow.{KeptRow}
use Rattle.mf_store_schema.specs.Tables.{journal}
use Rattle.mf_store_journal.specs.Rows.{values_of, filed_line, filed_kept, filed_at, head_with}
use Rattle.mf_store_journal.specs.Rows.{head_with_all, filed_after, journal_rows_in}

-- ---- what a row tells

abbrev number_of : Value → ℕ
number_of (Int (pos n)) = n
number_of v = 0

abbrev bytes_of : Value → List ℕ
bytes_of (Blob b) = b
bytes_of v = []

abbrev pub line_in : Filed → JournalLine
line_in f = record {
  day = number_of (column (values_in f) 0);
  office = number_of (column (values_in f) 1);
  staff = number_of (column (values_in f) 2);
  told = bytes_of (column (values_in f) 3);
  method = bytes_of (column (values_in f) 4);
  path = bytes_of (column (values_in f) 5);
  body = bytes_of (column (values_in f) 6);
  named_office = number_of (column (values_in f) 7);
  named_loan = number_of (column (values_in f) 8);
}

abbrev pub head_in : Filed → Head
head_in f = record {
  number = number_of (Int (id_of f));
  day = number_of (column (values_in f) 0);
  chain = bytes_of (column (values_in f) 9);
}

pub lines_back : (h : Head) (ls : List JournalLine) → map line_in (filed_after h ls) ≡ ls
lines_back h [] = refl
lines_back h (l ∷ ls) = ap (λ rest. l ∷ rest) (lines_back (head_with h l) ls)

abbrev journal_in : List Filed → Option (List JournalLine)
journal_in [] = None
journal_in (f ∷ fs) = Some (map line_in fs)

journal_back : (h : Head) (journal : Option (List JournalLine)) → journal_in (journal_rows_in h journal) ≡ journal
journal_back h None = refl
journal_back h (Some ls) = ap Some (lines_back h ls)

abbrev first_head : Head → List Filed → Head
first_head h [] = h
first_head h (f ∷ fs) = head_in f

-- the rows tell the journal, and where it begins
pub one_journal : (h g : Head) (a b : Option (List JournalLine)) → journal_rows_in h a ≡ journal_rows_in g b
    → (a ≡ b) × (IsSome a → h ≡ g)
one_journal h g a b same =
    (sym (journal_back h a) ∙ ap journal_in same ∙ journal_back g b, beginning a b same)
  where
    beginning : (a b : Option (List JournalLine)) → journal_rows_in h a ≡ journal_rows_in g b → IsSome a → h ≡ g
    beginning None b same some = absurd (cc)
    beginning (Some ls) None same some = absurd (cc)
    beginning (Some ls) (Some ks) same some = ap (first_head g) same

-- ---- a line more

pub head_more : (h : Head) (ls : List JournalLine) (l : JournalLine)
    → head_with_all h (ls ++ l ∷ []) ≡ head_with (head_with_all h ls) l
head_more h [] l = refl
head_more h (k ∷ ls) l = head_more (head_with h k) ls l

pub rows_more : (h : Head) (ls : List JournalLine) (l : JournalLine) → filed_after h (ls ++ l ∷ [])
    ≡ filed_after h ls ++ filed_at (head_with (head_with_all h ls) l) l ∷ []
rows_more h [] l = refl
rows_more h (k ∷ ls) l = ap (λ rest. filed_at (head_with h k) k ∷ rest) (rows_more (head_with h k) ls l)

-- ---- rows that follow on

-- where a journal stands, made of its parts
abbrev pub head_made : ℕ → ℕ → List ℕ → Head
head_made n day chain = record { number = n; day = day; chain = chain }

-- they are the rows of their lines, and the journal stands after these
pub follow_rows : (h : Head) (ks : List KeptRow) → FollowOn h ks
    → (map filed_kept ks ≡ filed_after h (map line_of ks)) × (head_after h ks ≡ head_with_all h (map line_of ks))
follow_rows h [] on = (refl, refl)
follow_rows h (k ∷ ks) on =
    let number : k.number ≡ suc h.number = on.0.0 in
    let chain : k.chain ≡ link h.chain (line_of k) = on.0.2 in
    let stands : head_of k ≡ head_with h (line_of k) =
    ap₂ (λ (n : ℕ) (c : List ℕ). head_made n k.row.day c) number chain in
    let filed : filed_kept k ≡ filed_at (head_with h (line_of k)) (line_of k) =
    ap₂ (λ (n : ℕ) (c : List ℕ). filed_line n (line_of k) c) number chain in
    let rest = follow_rows (head_of k) ks on.1 in
    let others : map filed_kept ks ≡ filed_after (head_with h (line_of k)) (map line_of ks) =
    rest.0 ∙ ap (λ (g : Head). filed_after g (map line_of ks)) stands in (
      ap₂ (λ (f : Filed) (fs : List Filed). f ∷ fs) filed others,
      rest.1 ∙ ap (λ (g : Head). head_with_all g (map line_of ks)) stands,
    )

-- ---- numbers that rise

later : (m n : ℕ) → m ≤ n → pos m <ℤ pos (suc n)
later m n low = grind (arith, ints, low)

rows_above : (m : ℕ) (h : Head) (ls : List JournalLine) → m ≤ h.number
    → AllByRecursion (λ f. pos m <ℤ id_of f) (filed_after h ls)
rows_above m h [] low = tt
rows_above m h (l ∷ ls) low = (later m h.number low, rows_above m (head_with h l) ls (omega (arith, low)))

rows_rise : (h : Head) (ls : List JournalLine) → IsKeyedBy id_of (filed_after h ls)
rows_rise h [] = tt
rows_rise h (l ∷ ls) = (rows_above (suc h.number) (head_with h l) ls (omega arith), rows_rise (head_with h l) ls)

pub numbers_rise : (h : Head) (journal : Option (List JournalLine)) → IsKeyedBy id_of (journal_rows_in h journal)
numbers_rise h None = tt
numbers_rise h (Some ls) = (rows_above h.number h ls (omega arith), rows_rise h ls)

-- ---- values that the columns keep

pub line_fits : (l : JournalLine) (chain : List ℕ) → AreKeepable journal.columns (values_of l chain)
line_fits l chain = (
  (pos l.day, refl),
  (
    (pos l.office, refl),
    (
      (pos l.staff, refl),
      (
        (l.told, refl),
        (
          (l.method, refl),
          (
            (l.path, refl),
            ((l.body, refl), ((pos l.named_office, refl), ((pos l.named_loan, refl), ((chain, refl), tt)))),
          ),
        ),
      ),
    ),
  ),
)

rows_fit : (h : Head) (ls : List JournalLine)
    → AllByRecursion (λ f. AreKeepable journal.columns (values_in f)) (filed_after h ls)
rows_fit h [] = tt
rows_fit h (l ∷ ls) = (line_fits l (head_with h l).chain, rows_fit (head_with h l) ls)

pub all_fit : (h : Head) (j : Option (List JournalLine))
    → AllByRecursion (λ f. AreKeepable journal.columns (values_in f)) (journal_rows_in h j)
all_fit h None = tt
all_fit h (Some ls) = (line_fits _ h.chain, rows_fit h ls)
