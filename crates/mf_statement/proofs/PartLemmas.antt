-- The parts of each entry, one part more at a time.
use Rattle.std.proofs.Common.{◌≡◌, ◌≢◌, ℕ, zero, suc, ◌+◌, ◌-◌, ◌^◌, ◌<◌, ◌≤◌, Bool, eqb, List, [], ◌∷◌, ◌++◌, length}
use Rattle.std.proofs.Common.{get_or, map, set, take, arith, refl, ◌∙◌, ap, sym}
use Rattle.std.specs.Prelude.{filter, sum_by}
use Rattle.std.specs.List.{range_with_len, zip}
use Rattle.std.proofs.lemmas.Bool.{cond_both, cond-true, cond-false, eq-eqb, ne_eqb}
use Rattle.std.proofs.lemmas.List.{append-nil, take_more}
use Rattle.std.proofs.lemmas.List.Elements.{filter-append}
use Rattle.std.proofs.lemmas.List.FromFn.{get_or-map-range_with_len, length-map-range_with_len, map-range_with_len_more}
use Rattle.std.proofs.lemmas.List.Sums.{sum_by-append, sum_by_more, sum_by-take-le}
use Rattle.mf_alloc.specs.declared.row.Share.{Share}
use Rattle.mf_account.specs.declared.entry.Entry.{Entry}
use Rattle.mf_account.specs.declared.settled.How.{How}
use Rattle.mf_account.specs.declared.settled.How.TheVariants.{Paid, Waived, WrittenOff}
use Rattle.mf_account.specs.declared.settled.SettledPart.{SettledPart}
use Rattle.mf_account.specs.Account.{share_of}
use Rattle.mf_account.specs.Standing.{entry_at}
use Rattle.mf_account.specs.Told.{settled_amount, IsNumberedTo, AreNumbered}
use Rattle.mf_statement.specs.declared.entries.EntryParts.{EntryParts}
use Rattle.mf_statement.specs.declared.lines.EntryLine.{EntryLine}
use Rattle.mf_statement.specs.Lines.{cleared_by_part, cleared_by, cleared_in, line_among}
use Rattle.mf_statement.specs.Parts.{no_parts, parts_in, with_part, table, line_with}

abbrev is_of : ℕ → SettledPart → Bool
is_of seq s = eqb s.seq seq

abbrev sum_up : List SettledPart → EntryParts
sum_up own = record { cleared = sum_by cleared_by_part own; shares = map share_of own }

filter-own : (seq : ℕ) (settled : List SettledPart) (s : SettledPart) → s.seq ≡ seq
    → filter (is_of seq) (settled ++ s ∷ [])
    ≡ filter (is_of seq) settled ++ s ∷ []
filter-own seq settled s is =
    filter-append (is_of seq) settled (s ∷ [])
    ∙ ap (λ (x : List SettledPart). filter (is_of seq) settled ++ x) (cond-true (eqb s.seq seq)
    (s ∷ []) [] (eq-eqb s.seq seq is))

filter-other : (seq : ℕ) (settled : List SettledPart) (s : SettledPart) → s.seq ≢ seq
    → filter (is_of seq) (settled ++ s ∷ [])
    ≡ filter (is_of seq) settled
filter-other seq settled s other =
    filter-append (is_of seq) settled (s ∷ [])
    ∙ ap (λ (x : List SettledPart). filter (is_of seq) settled ++ x) (cond-false (eqb s.seq seq)
    (s ∷ []) [] (ne_eqb s.seq seq other))
    ∙ append-nil (filter (is_of seq) settled)

map-snoc : (own : List SettledPart) (s : SettledPart) → map share_of (own ++ s ∷ []) ≡ map share_of own ++ share_of s
    ∷ []
map-snoc [] s = refl
map-snoc (first ∷ own) s = ap (λ (x : List Share). share_of first ∷ x) (map-snoc own s)

sum_up-snoc : (own : List SettledPart) (s : SettledPart) → sum_up (own ++ s ∷ []) ≡ with_part (sum_up own) s
sum_up-snoc own s =
    let amount : sum_by cleared_by_part (own ++ s ∷ []) ≡ sum_by cleared_by_part own + cleared_by_part s = let all =
    sum_by-append cleared_by_part own (s ∷ []) in omega (arith, all) in
    let at : ℕ → List Share → EntryParts = λ n xs. record { cleared = n; shares = xs } in
    ap (λ (n : ℕ). at n (map share_of (own ++ s ∷ []))) amount
    ∙ ap (at (sum_by cleared_by_part own + cleared_by_part s)) (map-snoc own s)

part-own : (seq : ℕ) (settled : List SettledPart) (s : SettledPart) → s.seq ≡ seq → parts_in seq (settled ++ s ∷ [])
    ≡ with_part (parts_in seq settled) s
part-own seq settled s is = ap sum_up (filter-own seq settled s is) ∙ sum_up-snoc (filter (is_of seq) settled) s

part-other : (seq : ℕ) (settled : List SettledPart) (s : SettledPart) → s.seq ≢ seq → parts_in seq (settled ++ s ∷ [])
    ≡ parts_in seq settled
part-other seq settled s other = ap sum_up (filter-other seq settled s other)

-- the entries from a on
abbrev table_from : ℕ → ℕ → List SettledPart → List EntryParts
table_from a n settled = map (λ seq. parts_in seq settled) (range_with_len a n)

others-same : (a n : ℕ) (settled : List SettledPart) (s : SettledPart) → s.seq < a → table_from a n (settled ++ s ∷ [])
    ≡ table_from a n settled
others-same a zero settled s below = refl
others-same a (suc n) settled s below =
    ap (λ (x : EntryParts). x ∷ table_from (a + 1) n (settled ++ s ∷ []))
    (part-other a settled s (λ is. absurd (omega arith)))
    ∙ ap (λ (x : List EntryParts). parts_in a settled ∷ x) (others-same (a + 1) n settled s (omega arith))

added-from : (i a n : ℕ) (settled : List SettledPart) (s : SettledPart) → a + i ≡ s.seq → i < n
    → table_from a n (settled ++ s
    ∷ []) ≡ set (table_from a n settled) i (with_part (get_or (table_from a n settled) i no_parts) s)
added-from i a zero settled s at within = absurd (omega arith)
added-from zero a (suc n) settled s at within =
    ap (λ (x : EntryParts). x ∷ table_from (a + 1) n (settled ++ s ∷ [])) (part-own a settled s (omega arith))
    ∙ ap (λ (x : List EntryParts). with_part (parts_in a settled) s ∷ x) (others-same (a + 1) n settled s (omega arith))
added-from (suc i) a (suc n) settled s at within =
    ap (λ (x : EntryParts). x ∷ table_from (a + 1) n (settled ++ s ∷ []))
    (part-other a settled s (λ is. absurd (omega arith)))
    ∙ ap (λ (x : List EntryParts). parts_in a settled ∷ x) (added-from i (a + 1) n settled s (omega arith)
    (omega arith))

-- one part more is added to its entry's
pub table-more : (n i : ℕ) (parts : List SettledPart) (part : SettledPart) (default : SettledPart)
    (before after : List EntryParts)
    → i < length parts → part ≡ get_or parts i default → IsNumberedTo n part → before ≡ table (take i parts) n
    → after ≡ set before (part.seq - 1) (with_part (get_or before (part.seq - 1) no_parts) part)
    → after ≡ table (take (i + 1) parts) n
table-more n i parts part default before after within is number so_far step =
    step
    ∙ ap (λ (x : List EntryParts). set x (part.seq - 1) (with_part (get_or x (part.seq - 1) no_parts) part)) so_far
    ∙ sym (added-from (part.seq - 1) 1 n (take i parts) part (omega (arith, number.0))
    (omega (arith, number.0, number.1)))
    ∙ ap (λ (x : SettledPart). table (take i parts ++ x ∷ []) n) is
    ∙ ap (λ (x : List SettledPart). table x n) (sym (take_more parts i default within))

-- what is cleared is at most the amounts
cleared-most : (how : How) (amount : ℕ) → cleared_by how amount ≤ amount
cleared-most Paid amount = omega arith
cleared-most Waived amount = omega arith
cleared-most WrittenOff amount = omega arith

cleared-le : (seq : ℕ) (settled : List SettledPart) → cleared_in seq settled ≤ settled_amount settled
cleared-le seq [] = omega arith
cleared-le seq (s ∷ settled) =
    let rest = cleared-le seq settled in
    let own = cleared-most s.how s.amount in
    let all = sum_by-append (λ (x : SettledPart). x.amount) (s ∷ []) settled in
    let first = sum_by-append cleared_by_part (s ∷ []) (filter (is_of seq) settled) in
    cond_both (is_of seq s) (s ∷ filter (is_of seq) settled) (filter (is_of seq) settled)
    (λ (x : List SettledPart). sum_by cleared_by_part x ≤ settled_amount (s ∷ settled))
    (λ _. omega (arith, rest, own, all, first)) (λ _. omega (arith, rest, all))

-- so there is room for one part more
pub part-room : (n i : ℕ) (parts : List SettledPart) (part default : SettledPart) (before : List EntryParts)
    → i < length parts
    → part ≡ get_or parts i default → IsNumberedTo n part → before ≡ table (take i parts) n → settled_amount parts
    < 2 ^ 64 → (get_or before (part.seq - 1) no_parts).cleared + part.amount < 2 ^ 64
part-room n i parts part default before within is number so_far small =
    let here : get_or before (part.seq - 1) no_parts ≡ parts_in part.seq (take i parts) =
    ap (λ (x : List EntryParts). get_or x (part.seq - 1) no_parts) so_far
    ∙ get_or-map-range_with_len (λ seq. parts_in seq (take i parts)) 1 n (part.seq - 1) part.seq no_parts
    (omega (arith, number.0, number.1)) (omega (arith, number.0)) in
    let own = ap (λ (x : EntryParts). x.cleared) here in
    let least = cleared-le part.seq (take i parts) in
    let more = sum_by_more (λ (x : SettledPart). x.amount) parts i default within in
    let amount = ap (λ (x : SettledPart). x.amount) is in
    let most = sum_by-take-le (λ (x : SettledPart). x.amount) parts (i + 1) in
    omega (arith, own, least, more, amount, most, small)

pub length-table : (n : ℕ) (settled : List SettledPart) → length (table settled n) ≡ n
length-table n settled = length-map-range_with_len (λ seq. parts_in seq settled) 1 n

-- one entry more without parts
pub none-more : (n : ℕ) (shares items : List Share) (before after : List EntryParts) → items ≡ [] → shares ≡ items
    → before ≡ table [] n → after ≡ before ++ record { cleared = 0; shares = shares } ∷ [] → after ≡ table [] (n + 1)
none-more n shares items before after none is so_far step =
    step
    ∙ ap (λ (x : List EntryParts). x ++ record { cleared = 0; shares = shares } ∷ []) so_far
    ∙ ap (λ (x : List Share). table [] n ++ record { cleared = 0; shares = x } ∷ []) (is ∙ none)
    ∙ sym (map-range_with_len_more (λ seq. parts_in seq []) 1 n (1 + n) refl)

-- the lines of numbered entries
lines-from : (a refunded n : ℕ) (settled : List SettledPart) (entries : List Entry) → length entries ≡ n
    → ((i : ℕ) → i < length entries → (entry_at entries i).seq ≡ i + a) → map (λ (both : Entry × EntryParts). line_with
    refunded both.0 both.1) (zip entries (table_from a n settled)) ≡ map (line_among settled refunded) entries
lines-from a refunded zero settled [] size numbers = refl
lines-from a refunded (suc n) settled [] size numbers = refl
lines-from a refunded zero settled (e ∷ entries) size numbers = absurd (omega (arith, size))
lines-from a refunded (suc n) settled (e ∷ entries) size numbers =
    let own : e.seq ≡ a = let first = numbers 0 (omega arith) in omega (arith, first) in
    ap (λ (x : ℕ). line_with refunded e (parts_in x settled) ∷ map (λ (both : Entry × EntryParts). line_with refunded
    both.0 both.1) (zip entries (table_from (a + 1) n settled))) (sym own)
    ∙ ap (λ (x : List EntryLine). line_among settled refunded e ∷ x)
    (lines-from (a + 1) refunded n settled entries (omega (arith, size)) (λ i within. let next = numbers (suc i)
    (omega arith) in omega (arith, next)))

pub lines-are : (refunded n : ℕ) (settled : List SettledPart) (entries : List Entry) (parts : List EntryParts)
    (lines : List EntryLine) → length entries ≡ n → AreNumbered entries → parts ≡ table settled n
    → lines ≡ map (λ (both : Entry × EntryParts). line_with refunded both.0 both.1) (zip entries parts)
    → lines ≡ map (line_among settled refunded) entries
lines-are refunded n settled entries parts lines size numbers is lined =
    lined
    ∙ ap (λ (x : List EntryParts). map (λ (both : Entry × EntryParts). line_with refunded both.0 both.1)
    (zip entries x)) is
    ∙ lines-from 1 refunded n settled entries size numbers
