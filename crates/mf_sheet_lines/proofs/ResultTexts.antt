-- The texts of results.
use Rattle.std.proofs.Common.{◌≡◌, ◌<◌, ◌≤◌, ◌+◌, ◌-◌, ℕ, zero, suc, false, List, [], ◌∷◌, ◌++◌, get_or, length, take}
use Rattle.std.proofs.Common.{Some, None, codes, refl, sym, ap, ◌∙◌, append_assoc, arith, map}
use Rattle.std.proofs.lemmas.List.{append-nil, length-append, length-map, get_or-map, take_at}
use Rattle.csv.specs.Records.{Row, field_at, fields_of}
use Rattle.csv.specs.Writing.{default_writer, field_text, fields_text, is_blank, row_text, needs_quotes}
use Rattle.csv.proofs.WriteFacts.{fields-snoc}
use Rattle.mf_base.specs.declared.fault.Fault.{Fault}
use Rattle.mf_base.specs.declared.fault.Fault.TheVariants.{F1, F2, F3, F4, F5, F6, F7, F8, F9, F10, F11, F12, F13, F14}
use Rattle.mf_base.specs.declared.fault.Fault.TheVariants.{F15, F16, F17, F18, F19, F20}
use Rattle.mf_wire_lines.specs.Replies.{fault_name}
use Rattle.mf_sheet_lines.specs.declared.results.SheetResult.{SheetResult}
use Rattle.mf_sheet_lines.specs.declared.results.SheetResult.TheVariants.{Entered, Repeated, Refused}
use Rattle.mf_sheet_lines.specs.Results.{begun_text, first_four, heading, record_text, records_text, result_name}

-- a field by its place
pub field_is : (fields : List (List ℕ)) (place : ℕ) (field : List ℕ) → Some field ≡ field_at fields place
    → field ≡ get_or fields place []
unfolding field_at
field_is [] place field is = absurd (cc is)
field_is (f ∷ fs) zero field is = cc
field_is (f ∷ fs) (suc place) field is = field_is fs place field is

pub no_field_is : (fields : List (List ℕ)) (place : ℕ) → None ≡ field_at fields place → [] ≡ get_or fields place []
unfolding field_at
no_field_is [] place is = refl
no_field_is (f ∷ fs) zero is = absurd (cc is)
no_field_is (f ∷ fs) (suc place) is = no_field_is fs place is

-- a refusal's number is written without quotes
fault_is_plain : (fault : Fault) → needs_quotes default_writer (fault_name fault) ≡ false
fault_is_plain F1 = refl
fault_is_plain F2 = refl
fault_is_plain F3 = refl
fault_is_plain F4 = refl
fault_is_plain F5 = refl
fault_is_plain F6 = refl
fault_is_plain F7 = refl
fault_is_plain F8 = refl
fault_is_plain F9 = refl
fault_is_plain F10 = refl
fault_is_plain F11 = refl
fault_is_plain F12 = refl
fault_is_plain F13 = refl
fault_is_plain F14 = refl
fault_is_plain F15 = refl
fault_is_plain F16 = refl
fault_is_plain F17 = refl
fault_is_plain F18 = refl
fault_is_plain F19 = refl
fault_is_plain F20 = refl

-- and so is every result
result_is_plain : (result : SheetResult) → needs_quotes default_writer (result_name result) ≡ false
result_is_plain Entered = refl
result_is_plain Repeated = refl
result_is_plain (Refused fault) = fault_is_plain fault

-- a record whose last field is written without quotes, cut before that field
cut : (first : List ℕ) (more : List (List ℕ)) (last : List ℕ) → needs_quotes default_writer last ≡ false
    → (field_text default_writer first ++ fields_text default_writer (more ++ (last ∷ []))) ++ (10 ∷ [])
    ≡ (field_text default_writer first ++ fields_text default_writer (more ++ ([] ∷ []))) ++ (last ++ 10 ∷ [])
cut first more last plain = rw (fields-snoc default_writer more last, fields-snoc default_writer more [], plain)
    (simp append_assoc)

record_cut : (fields : List (List ℕ)) (last : List ℕ) → needs_quotes default_writer last ≡ false
    → row_text default_writer (first_four fields ++ last ∷ []) ≡ begun_text fields ++ (last ++ 10 ∷ [])
unfolding is_blank begun_text
record_cut fields last plain = cut (get_or fields 0 []) (get_or fields 1 [] ∷ get_or fields 2 [] ∷ get_or fields 3 []
    ∷ []) last plain

-- a record is what was begun, its result and its end
pub record_is : (fields : List (List ℕ)) (result : SheetResult) → record_text fields result ≡ begun_text fields
    ++ (result_name result ++ 10 ∷ [])
unfolding record_text
record_is fields result = record_cut fields (result_name result) (result_is_plain result)

-- a record without a result is what was begun, and its end
pub begun_is : (fields : List (List ℕ)) (a b c d : List ℕ) → a ≡ get_or fields 0 [] → b ≡ get_or fields 1 []
    → c ≡ get_or fields 2 [] → d ≡ get_or fields 3 []
    → row_text default_writer (a ∷ b ∷ c ∷ d ∷ [] ∷ []) ≡ begun_text fields ++ (10 ∷ [])
begun_is fields a b c d e f g h = rw (e, f, g, h) (record_cut fields [] refl)

-- without its end
pub without_end : (text old new : List ℕ) → old ≡ text ++ (10 ∷ []) → new ≡ take (length old - 1) old → new ≡ text
without_end text old new is taken =
    taken ∙ rw is (let short : length text ≡ length (text ++ (10 ∷ [])) - 1 = omega (
      arith,
      length-append text (10 ∷ []),
    ) in take_at text (10 ∷ []) _ short)

-- one more record
pub one_more : (rows : List (List (List ℕ))) (results : List SheetResult) (place : ℕ) (result : SheetResult)
    → place < length results → length results ≤ length rows
    → records_text rows (take (place + 1) results) ≡ records_text rows (take place results)
    ++ record_text (get_or rows place []) (get_or results place result)
one_more [] results place result below enough = absurd (omega arith)
one_more (row ∷ rows) [] place result below enough = absurd (omega arith)
one_more (row ∷ rows) (r ∷ rs) zero result below enough = append-nil (record_text row r)
one_more (row ∷ rows) (r ∷ rs) (suc place) result below enough =
    let next : suc place + 1 ≡ suc (place + 1) = omega arith in
    let more = one_more rows rs place result (omega arith) (omega arith) in
    rw (next, more) (sym (append_assoc (record_text row r) _ _))

-- a text of records grows by the next one
pub grown : (rows : List Row) (results : List SheetResult) (place : ℕ) (head text more : List ℕ) (row : Row)
    (result : SheetResult) → place < length results → length results ≤ length rows
    → row ≡ get_or rows place row → text ≡ head ++ records_text (map fields_of rows) (take place results)
    → more ≡ record_text (fields_of row) (get_or results place result)
    → text ++ more ≡ head ++ records_text (map fields_of rows) (take (place + 1) results)
grown rows results place head text more row result below enough there so_far next =
    let field : get_or (map fields_of rows) place [] ≡ fields_of row =
    get_or-map fields_of rows place row [] (omega arith) ∙ ap fields_of (sym there) in
    let room : length results ≤ length (map fields_of rows) = rw length-map enough in
    let longer = one_more (map fields_of rows) results place result below room in
    rw (so_far, next, longer, field) (append_assoc head _ _)

-- the names of the columns, as they are written
pub heading_is : codes "receipt,loan,date,amount,result\n" ≡ heading
unfolding heading fields_text is_blank
heading_is = refl
