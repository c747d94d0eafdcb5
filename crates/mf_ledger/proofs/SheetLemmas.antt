-- A sheet is read back, by any reader of RFC 4180.
use Rattle.std.proofs.Common.{◌≡◌, ◌≤◌, ◌<◌, ◌+◌, ℕ, zero, suc, Bool, true, false, List, [], ◌∷◌, ◌++◌, length, Some}
use Rattle.std.proofs.Common.{refl}
use Rattle.std.proofs.Common.{sym, ap, ◌∙◌, subst, arith, append_assoc, inl, inr, map}
use Rattle.std.specs.Prelude.{◌==◌, ◌||◌, if◌then◌else◌, filter}
use Rattle.std.specs.List.{AllByRecursion, flat_map, list_any}
use Rattle.std.proofs.lemmas.Bool.{cases_Bool}
use Rattle.std.proofs.lemmas.List.{length-append}
use Rattle.csv.specs.Machine.{next_record}
use Rattle.csv.specs.Reading.{default_config, records_from, records, records_next}
use Rattle.csv.specs.Writing.{default_writer, escaped, field_text, fields_text, is_blank, needs_byte, row_body}
use Rattle.csv.specs.Writing.{row_text}
use Rattle.csv.specs.declared.parser.State.TheVariants as st
use Rattle.csv.proofs.RoundTrip.{field-run, record-same}
use Rattle.mf_ledger.specs.declared.books.Posting.{Posting}
use Rattle.mf_ledger.specs.declared.books.Transaction.{Transaction}
use Rattle.mf_ledger.specs.declared.names.GivenName.{GivenName}
use Rattle.mf_ledger.specs.declared.occasion.Occasion.{Occasion}
use Rattle.mf_ledger.specs.Books.{is_moved}
use Rattle.mf_ledger.specs.Sheet.{sheet_writer, sheet_text, fields_of, transaction_rows, columns}
use Rattle.mf_ledger.specs.Text.{occasion_of}
use Rattle.mf_ledger.proofs.RunBooks.{all-both}

-- ---- the writer's line ends change nothing of a field

escaped-same : (x : List ℕ) → escaped sheet_writer x ≡ escaped default_writer x
unfolding escaped
escaped-same [] = refl
escaped-same (b ∷ rest) = ap (λ (t : List ℕ). if b == 34 then 34 ∷ b ∷ t else b ∷ t) (escaped-same rest)

field-same : (x : List ℕ) → field_text sheet_writer x ≡ field_text default_writer x
field-same x =
    ap (λ (t : List ℕ). if list_any (needs_byte default_writer) x then 34 ∷ (t ++ 34 ∷ []) else x) (escaped-same x)

fields-same : (rest : List (List ℕ)) → fields_text sheet_writer rest ≡ fields_text default_writer rest
unfolding fields_text
fields-same [] = refl
fields-same (x ∷ rest) =
    ap (λ (t : List ℕ). 44 ∷ (t ++ fields_text sheet_writer rest)) (field-same x)
    ∙ ap (λ (t : List ℕ). 44 ∷ (field_text default_writer x ++ t)) (fields-same rest)

-- ---- a line is read

-- what comes after a field starts with no quote
abbrev head-of : List (List ℕ) → ℕ
head-of [] = 13
head-of (z ∷ zs) = 44

abbrev tail-of : List (List ℕ) → List ℕ → List ℕ
tail-of [] tail = tail
tail-of (z ∷ zs) tail = (field_text default_writer z ++ fields_text default_writer zs) ++ (13 ∷ tail)

text-head : (ys : List (List ℕ)) (tail : List ℕ)
    → fields_text default_writer ys ++ (13 ∷ tail) ≡ head-of ys ∷ tail-of ys tail
unfolding fields_text
text-head [] tail = refl
text-head (z ∷ zs) tail = refl

head-plain : (ys : List (List ℕ)) → (head-of ys == 34) ≡ false
head-plain [] = refl
head-plain (z ∷ zs) = refl

-- a comma ends a field
end-field : (fields : List (List ℕ)) (x u : List ℕ)
    → next_record default_config st.InField fields x (44 ∷ u)
    ≡ next_record default_config st.StartField (fields ++ (x ∷ [])) [] u
unfolding next_record
end-field fields x u = refl

-- the rest of a record, after a field
rest-run : (fields : List (List ℕ)) (x : List ℕ) (rest : List (List ℕ)) (tail : List ℕ)
    → next_record default_config st.InField fields x (fields_text default_writer rest ++ (13 ∷ tail))
    ≡ Some (fields ++ (x ∷ rest), st.AfterCr, tail)
unfolding next_record fields_text
rest-run fields x [] tail = refl
rest-run fields x (y ∷ ys) tail =
    let e = text-head ys tail in
    let u : (field_text default_writer y ++ fields_text default_writer ys) ++ (13 ∷ tail)
    ≡ field_text default_writer y ++ (head-of ys ∷ tail-of ys tail) =
    append_assoc (field_text default_writer y) (fields_text default_writer ys) (13 ∷ tail)
    ∙ ap (λ (t : List ℕ). field_text default_writer y ++ t) e in
    let run = field-run (fields ++ (x ∷ [])) y (head-of ys) (tail-of ys tail) (head-plain ys) in
    let more = rest-run (fields ++ (x ∷ [])) y ys tail in
    let back = subst (λ (t : List ℕ). next_record default_config st.InField (fields ++ (x ∷ [])) y t
    ≡ Some ((fields ++ (x ∷ [])) ++ (y ∷ ys), st.AfterCr, tail)) e more in
    rw (end-field fields x _, u) (run ∙ back ∙ rw (append_assoc fields (x ∷ []) (y ∷ ys)) refl)

or-left : (a b : Bool) → (a || b) ≡ false → a ≡ false
or-left false b e = refl
or-left true b e = absurd (cc)

not-true : (x : Bool) → (x ≡ true → ⊥) → x ≡ false
not-true true n = absurd (n refl)
not-true false n = refl

-- a byte that needs no quotes ends no line
plain-byte : (b : ℕ) → needs_byte default_writer b ≡ false → ((b == 13) ≡ false) × ((b == 10) ≡ false)
plain-byte b e =
    let comma = not-true (b == 44) (λ t. absurd (let never : true ≡ false = rw t at e in cc)) in
    let quote = not-true (b == 34) (λ t. absurd (let never : true ≡ false = rw (comma, t) at e in cc)) in
    let return = not-true (b == 13) (λ t. absurd (let never : true ≡ false = rw (comma, quote, t) at e in cc)) in
    let feed = not-true (b == 10) (λ t. absurd (let never : true ≡ false = rw (comma, quote, return, t) at e in cc)) in
    (return, feed)

-- a line starts as its first field does
first-field : (x u : List ℕ)
    → next_record default_config st.StartRecord [] [] (field_text default_writer x ++ (44 ∷ u))
    ≡ next_record default_config st.StartField [] [] (field_text default_writer x ++ (44 ∷ u))
first-field x u = elim (cases_Bool (list_any (needs_byte default_writer) x)) [
  | inl needs ↦ rw needs (record-same [] [] 34 _ refl refl)
  | inr plain ↦ rw plain (first-plain x plain)
]
  where
    first-plain : (y : List ℕ) → list_any (needs_byte default_writer) y ≡ false
        → next_record default_config st.StartRecord [] [] (y ++ (44 ∷ u))
        ≡ next_record default_config st.StartField [] [] (y ++ (44 ∷ u))
    first-plain [] plain = record-same [] [] 44 u refl refl
    first-plain (b ∷ rest) plain =
        let byte = plain-byte b (or-left (needs_byte default_writer b) (list_any (needs_byte default_writer) rest)
        plain) in
        record-same [] [] b (rest ++ (44 ∷ u)) byte.0 byte.1

-- the text of such a line
line-text : (x y : List ℕ) (ys : List (List ℕ)) (tail : List ℕ) → row_text sheet_writer (x ∷ y ∷ ys) ++ tail
    ≡ field_text default_writer x ++ (fields_text default_writer (y ∷ ys) ++ (13 ∷ 10 ∷ tail))
unfolding is_blank
line-text x y ys tail =
    ap (λ (t : List ℕ). ((t ++ fields_text sheet_writer (y ∷ ys)) ++ 13 ∷ 10 ∷ []) ++ tail) (field-same x)
    ∙ ap (λ (t : List ℕ). ((field_text default_writer x ++ t) ++ 13 ∷ 10 ∷ []) ++ tail) (fields-same (y ∷ ys))
    ∙ append_assoc (field_text default_writer x ++ fields_text default_writer (y ∷ ys)) (13 ∷ 10 ∷ []) tail
    ∙ append_assoc (field_text default_writer x) (fields_text default_writer (y ∷ ys)) (13 ∷ 10 ∷ tail)

-- a line of two fields or more, and what follows its carriage return
line-run : (x y : List ℕ) (ys : List (List ℕ)) (tail : List ℕ)
    → next_record default_config st.StartRecord [] [] (row_text sheet_writer (x ∷ y ∷ ys) ++ tail)
    ≡ Some (x ∷ y ∷ ys, st.AfterCr, 10 ∷ tail)
line-run x y ys tail =
    let rest = y ∷ ys in
    ap (next_record default_config st.StartRecord [] []) (line-text x y ys tail)
    ∙ ap (λ (t : List ℕ). next_record default_config st.StartRecord [] [] (field_text default_writer x ++ t))
    (text-head rest (10 ∷ tail))
    ∙ first-field x (tail-of rest (10 ∷ tail))
    ∙ field-run [] x 44 (tail-of rest (10 ∷ tail)) refl
    ∙ ap (next_record default_config st.InField [] x) (sym (text-head rest (10 ∷ tail)))
    ∙ rest-run [] x rest (10 ∷ tail)

-- ---- a sheet is read

-- a row has two fields or more
abbrev pub IsRow : List (List ℕ) → Type 0
IsRow row = 2 ≤ length row

-- a line feed behind a carriage return is passed over
feed-passed : (n : ℕ) (t : List ℕ) → records_from default_config n st.AfterCr (10 ∷ t)
    ≡ records_from default_config n st.StartRecord t
unfolding records_from next_record
feed-passed zero t = refl
feed-passed (suc n) t = refl

none-left : (n : ℕ) → records_from default_config n st.StartRecord [] ≡ []
unfolding records_from next_record
none-left zero = refl
none-left (suc n) = refl

one-record : (n : ℕ) (t u : List ℕ) (row : List (List ℕ))
    → next_record default_config st.StartRecord [] [] t ≡ Some (row, st.AfterCr, 10 ∷ u)
    → records_from default_config (suc n) st.StartRecord t ≡ row ∷ records_from default_config n st.AfterCr (10 ∷ u)
unfolding records_from
one-record n t u row e = ap (records_next (records_from default_config n)) e

all-read : (rows : List (List (List ℕ))) (n : ℕ) → length rows < n → AllByRecursion IsRow rows
    → records_from default_config n st.StartRecord (sheet_text rows) ≡ rows
all-read [] n few all = none-left n
all-read (row ∷ rows) zero few all = absurd (omega (arith, few))
all-read ([] ∷ rows) (suc n) few all = let no = all.0 in absurd (omega (arith, no))
all-read ((x ∷ []) ∷ rows) (suc n) few all = let no = all.0 in absurd (omega (arith, no))
all-read ((x ∷ y ∷ ys) ∷ rows) (suc n) few all =
    one-record n (row_text sheet_writer (x ∷ y ∷ ys) ++ sheet_text rows) (sheet_text rows) (x ∷ y ∷ ys)
    (line-run x y ys (sheet_text rows))
    ∙ ap (λ (t : List (List (List ℕ))). (x ∷ y ∷ ys) ∷ t)
    (feed-passed n (sheet_text rows) ∙ all-read rows n (omega (arith, few)) all.1)

-- each line has a byte at least
some-end : (a b : List ℕ) → 1 ≤ length (a ++ (b ++ 13 ∷ 10 ∷ []))
some-end a b =
    let whole = length-append a (b ++ 13 ∷ 10 ∷ []) in
    let end = length-append b (13 ∷ 10 ∷ []) in
    omega (arith, whole, end)

row-some : (row : List (List ℕ)) → 1 ≤ length (row_text sheet_writer row)
row-some row = some-end (row_body sheet_writer row) (if is_blank sheet_writer row then 34 ∷ 34 ∷ [] else [])

fewer-rows : (rows : List (List (List ℕ))) → length rows ≤ length (sheet_text rows)
fewer-rows [] = omega arith
fewer-rows (row ∷ rows) =
    let some = row-some row in
    let rest = fewer-rows rows in
    let both = length-append (row_text sheet_writer row) (sheet_text rows) in
    omega (arith, some, rest, both)

pub read-back : (rows : List (List (List ℕ))) → AllByRecursion IsRow rows
    → records default_config (sheet_text rows) ≡ rows
read-back rows all =
    let few = fewer-rows rows in
    all-read rows (length (sheet_text rows) + 1) (omega (arith, few)) all

-- ---- the rows of transactions are such rows

fields-rows : (gs : List GivenName) (o : Occasion) (ps : List Posting) → AllByRecursion IsRow (map (fields_of gs o) ps)
fields-rows gs o [] = tt
fields-rows gs o (p ∷ ps) = (omega arith, fields-rows gs o ps)

pub transaction-rows : (gs : List GivenName) (ts : List Transaction)
    → AllByRecursion IsRow (flat_map (transaction_rows gs) ts)
transaction-rows gs [] = tt
transaction-rows gs (t ∷ ts) =
    all-both IsRow (transaction_rows gs t) (flat_map (transaction_rows gs) ts)
    (fields-rows gs (occasion_of t) (filter (λ (p : Posting). is_moved p.amount) t.postings)) (transaction-rows gs ts)

pub columns-row : IsRow columns
columns-row = omega arith
