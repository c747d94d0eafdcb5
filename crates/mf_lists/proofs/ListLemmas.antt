-- Pages that follow one another give the whole list once, in order; and counts by client add up.
use Rattle.std.proofs.Common.{◌≡◌, ℕ, zero, suc, ◌+◌, ◌*◌, ◌<◌, ◌≤◌, Bool, true, false, List, [], ◌∷◌, ◌++◌, length}
use Rattle.std.proofs.Common.{take, drop, map, inl, inr, refl, sym, ap, subst, ◌∙◌, arith, Option, Some, None}
use Rattle.std.proofs.Common.{Err}
use Rattle.std.specs.Prelude.{Result, fold, sum}
use Rattle.std.specs.List.{list_any}
use Rattle.std.specs.Option.{unwrap_or}
use Rattle.mf_alloc.specs.Sums.{Instalment, is_open, open_at, row_outstanding}
use Rattle.mf_arrears.specs.Ageing.{earlier, earliest_due}
use Rattle.mf_lists.specs.declared.lines.DueLine.{DueLine}
use Rattle.mf_lists.specs.Lists.{instalments_due_by, due_line, due_lines, is_active, is_due, rows_in}
use Rattle.std.specs.Prelude.{cond, ◌&&◌, ◌||◌, ◌==◌, nat_le, nat_lt, filter, is_some, slice_get, sum_by}
use Rattle.std.specs.List.{AllByRecursion, count_by, enumerate_from}
use Rattle.std.proofs.lemmas.Bool.{cases_Bool, cases_lt, cases_order, cond-true, cond-false, lt-ltb, le-ltb, le-leb}
use Rattle.std.proofs.lemmas.Bool.{lt-leb, leb-true}
use Rattle.std.proofs.lemmas.Bool.{eq-eqb, eqb-true, ne_eqb}
use Rattle.std.proofs.lemmas.List.{take_all}
use Rattle.std.proofs.lemmas.List.Sums.{sum_by-cons}
use Rattle.std.proofs.lemmas.Option.{slice_get_within}
use Rattle.mf_base.specs.declared.fault.Fault.{Fault}
use Rattle.mf_base.specs.declared.fault.Fault.TheVariants.{F2, F4}
use Rattle.mf_office.specs.declared.caller.Caller.{Caller}
use Rattle.mf_office.specs.Tree.{is_at_or_below}
use Rattle.mf_model.specs.Desk.{staff_at}
use Rattle.mf_model.specs.Institution.{Catalogue, Institution, Ledger, Office, Rows, Staff, item_numbered, office_at}
use Rattle.mf_model.specs.Outcomes.{where_found, with_value}
use Rattle.mf_model.specs.Sound.{IsSoundLoan, IsSoundRows}
use Rattle.mf_model.specs.Tree.{parent_of}
use Rattle.mf_model.proofs.Growing.{numbered_suc}
use Rattle.mf_model.proofs.Views.{staff_at_view}
use Rattle.mf_lists.specs.Changes.{view_with_lines}
use Rattle.mf_lists.proofs.ChangeLemmas.{by_view}
use Rattle.mf_lists.specs.declared.lines.ClientLine.{ClientLine}
use Rattle.mf_lists.specs.Lists.{begins_with, counted_client, clients_of, has_part, is_of_client, lines_where}
use Rattle.mf_lists.specs.Lists.{loans_that, page}
use Rattle.mf_lists.specs.declared.request.ListAsked.{ListAsked}
use Rattle.mf_lists.specs.declared.request.ListRequest.{ListRequest}
use Rattle.mf_lists.specs.declared.request.ListRequest.TheVariants.{OfOffice, Preview}
use Rattle.mf_lists.specs.declared.answer.ListAnswer.{ListAnswer}
use Rattle.mf_lists.specs.declared.answer.ListAnswer.TheVariants.{Listed}
use Rattle.mf_lists.specs.declared.answer.ListTold.{ListTold}
use Rattle.mf_lists.specs.Readings.{last_number, list_for, list_reply, office_list, list_seen, pages}
use Rattle.mf_lists.proofs.RateLemmas.{both, both-first, both-second}

-- ---- lists by number

module _ {Y : Type 0} (number : Y → ℕ) where
  -- each number is above the one before it, and the first above this one
  abbrev pub Ascends : ℕ → List Y → Type 0
  Ascends after [] = Unit {0}
  Ascends after (y ∷ ys) = (after < number y) × Ascends (number y) ys

  -- the lines with a number above this one
  abbrev above : ℕ → List Y → List Y
  above after ys = filter (λ y. nat_lt after (number y)) ys

  above-head : (after : ℕ) (y : Y) (ys : List Y) → after < number y → above after (y ∷ ys) ≡ y ∷ above after ys
  above-head after y ys less =
      cond-true (nat_lt after (number y)) (y ∷ above after ys) (above after ys) (lt-ltb after (number y) less)

  above-skip : (after : ℕ) (y : Y) (ys : List Y) → number y ≤ after → above after (y ∷ ys) ≡ above after ys
  above-skip after y ys more =
      cond-false (nat_lt after (number y)) (y ∷ above after ys) (above after ys) (le-ltb after (number y) more)

  -- all are above what is not above their beginning
  above-all : (before after : ℕ) (ys : List Y) → before ≤ after → Ascends after ys → above before ys ≡ ys
  above-all before after [] le up = refl
  above-all before after (y ∷ ys) le up =
      above-head before y ys (omega (arith, up.0))
      ∙ ap (λ (zs : List Y). y ∷ zs) (above-all before (number y) ys (omega (arith, up.0)) up.1)

  -- those above a number ascend from it
  above-ascends : (start after : ℕ) (ys : List Y) → Ascends start ys → Ascends after (above after ys)
  above-ascends start after [] up = tt
  above-ascends start after (y ∷ ys) up =
      elim (cases_lt after (number y)) [
        | inl less ↦
            subst (Ascends after) (sym (above-head after y ys less))
            (less, subst (Ascends (number y)) (sym (above-all after (number y) ys (omega arith) up.1)) up.1)
        | inr more ↦
            subst (Ascends after) (sym (above-skip after y ys more)) (above-ascends (number y) after ys up.1)
      ]

  -- those above a number, among those above a lower one
  above-above : (low high : ℕ) (ys : List Y) → low ≤ high → above high (above low ys) ≡ above high ys
  above-above low high [] le = refl
  above-above low high (y ∷ ys) le =
      elim (cases_lt low (number y)) [
        | inl less ↦
            ap (above high) (above-head low y ys less)
            ∙ elim (cases_lt high (number y)) [
              | inl over ↦
                  above-head high y (above low ys) over
                  ∙ ap (λ (zs : List Y). y ∷ zs) (above-above low high ys le) ∙ sym (above-head high y ys over)
              | inr under ↦
                  above-skip high y (above low ys) under ∙ above-above low high ys le
                  ∙ sym (above-skip high y ys under)
            ]
        | inr more ↦
            ap (above high) (above-skip low y ys more) ∙ above-above low high ys le
            ∙ sym (above-skip high y ys (omega arith))
      ]

  -- the last number of some of them is no lower than where they begin
  last-ge : (n after : ℕ) (ys : List Y) → Ascends after ys → after ≤ last_number number after (take n ys)
  last-ge zero after ys up = omega arith
  last-ge (suc n) after [] up = omega arith
  last-ge (suc n) after (y ∷ ys) up = omega (arith, up.0, last-ge n (number y) ys up.1)

  -- what is above the last number of the first ones is what follows them
  above-last : (n after : ℕ) (ys : List Y) → Ascends after ys
      → above (last_number number after (take n ys)) ys ≡ drop n ys
  above-last zero after ys up = above-all after after ys (omega arith) up
  above-last (suc n) after [] up = refl
  above-last (suc n) after (y ∷ ys) up =
      above-skip (last_number number (number y) (take n ys)) y ys (last-ge n (number y) ys up.1)
      ∙ above-last n (number y) ys up.1

-- the first ones, and so many of those that follow
take-then : {Y : Type 0} (n m : ℕ) (ys : List Y) → take n ys ++ take m (drop n ys) ≡ take (n + m) ys
take-then zero m ys = ap (λ (k : ℕ). take k ys) (omega arith)
take-then (suc n) m [] =
    take_all m [] (omega arith) ∙ sym (take_all (suc n + m) [] (omega arith))
take-then (suc n) m (y ∷ ys) =
    let on : suc n + m ≡ suc (n + m) = omega arith in
    ap (λ zs. y ∷ zs) (take-then n m ys) ∙ sym (ap (λ k. take k (y ∷ ys)) on)

-- so many pages that follow one another are the first ones above a number
pub pages-are : {Y : Type 0} (number : Y → ℕ) (most start : ℕ) (lines : List Y) → Ascends number start lines
    → (turns after : ℕ)
    → pages number (λ a. page number most a lines) turns after
    ≡ take (most * turns) (filter (λ y. nat_lt after (number y)) lines)
pages-are number most start lines up zero after =
    let none : 0 ≡ most * 0 = omega arith in
    ap (λ (k : ℕ). take k (filter (λ y. nat_lt after (number y)) lines)) none
pages-are {Y = Y} number most start lines up (suc turns) after =
    let rest : List Y = filter (λ y. nat_lt after (number y)) lines in
    let last : ℕ = last_number number after (take most rest) in
    let rises = above-ascends number start after lines up in
    let later = last-ge number most after rest rises in
    let follows : filter (λ y. nat_lt last (number y)) lines ≡ drop most rest =
    sym (above-above number after last lines later) ∙ above-last number most after rest rises in
    let all : most + most * turns ≡ most * suc turns = omega arith in
    ap (λ (zs : List Y). take most rest ++ zs)
    (pages-are number most start lines up turns last ∙ ap (take (most * turns)) follows)
    ∙ take-then most (most * turns) rest
    ∙ ap (λ (k : ℕ). take k rest) all

-- enough of them are the whole
pub pages-whole : {Y : Type 0} (number : Y → ℕ) (most turns : ℕ) (lines : List Y) → Ascends number 0 lines
    → length lines ≤ most * turns
    → pages number (λ a. page number most a lines) turns 0 ≡ lines
pages-whole number most turns lines up few =
    pages-are number most 0 lines up turns 0
    ∙ ap (take (most * turns)) (above-all number 0 0 lines (omega arith) up)
    ∙ take_all (most * turns) lines few

-- ---- lists of what is chosen

module _ {X Y : Type 0} (number : Y → ℕ) (line : ℕ × X → Y) (is : (c : ℕ × X) → number (line c) ≡ c.0)
    (chosen : ℕ × X → Bool) where
  rises-from : (before n : ℕ) (xs : List X) → before < n
      → Ascends number before (map line (filter chosen (enumerate_from n xs)))
  rises-from before n [] less = tt
  rises-from before n (x ∷ xs) less =
      elim (cases_Bool (chosen (n, x))) [
        | inl takes ↦
            let own = is (n, x) in
            subst (λ (cs : List (ℕ × X)). Ascends number before (map line cs))
            (sym (cond-true (chosen (n, x)) ((n, x) ∷ filter chosen (enumerate_from (n + 1) xs))
            (filter chosen (enumerate_from (n + 1) xs)) takes))
            (omega (arith, own), rises-from (number (line (n, x))) (n + 1) xs (omega (arith, own)))
        | inr leaves ↦
            subst (λ (cs : List (ℕ × X)). Ascends number before (map line cs))
            (sym (cond-false (chosen (n, x)) ((n, x) ∷ filter chosen (enumerate_from (n + 1) xs))
            (filter chosen (enumerate_from (n + 1) xs)) leaves))
            (rises-from before (n + 1) xs (omega arith))
      ]

  -- they ascend by their numbers
  pub lines-ascend : (xs : List X) → Ascends number 0 (lines_where chosen line xs)
  lines-ascend xs = rises-from 0 1 xs (omega arith)

  -- and pages of them give them all
  pub lines-by_pages : (most turns : ℕ) (xs : List X) → length (lines_where chosen line xs) ≤ most * turns
      → pages number (λ a. page number most a (lines_where chosen line xs)) turns 0 ≡ lines_where chosen line xs
  lines-by_pages most turns xs few =
      pages-whole number most turns (lines_where chosen line xs) (lines-ascend xs) few

-- ---- counts by client

-- one that passes
abbrev one_if : Bool → ℕ
one_if b = cond b 1 0

-- a number lies from one to before another
abbrev lies : ℕ → ℕ → ℕ → Bool
lies from before n = nat_le from n && nat_lt n before

-- the first of some numbers, and the others
lies-split : (n before c : ℕ) → n < before → one_if (c == n) + one_if (lies (n + 1) before c) ≡ one_if (lies n before c)
lies-split n before c less =
    elim (cases_order c n) [
      | inl same ↦
          let is = eq-eqb c n same in
          let out : nat_le (n + 1) c ≡ false = lt-leb (n + 1) c (omega arith) in
          let from = le-leb n c (omega arith) in
          let to = lt-ltb c before (omega arith) in
          rw (is, out, from, to) refl
      | inr other ↦ elim other [
        | inl below ↦
            let isnt = ne_eqb c n (λ e. omega (arith, e)) in
            let out : nat_le (n + 1) c ≡ false = lt-leb (n + 1) c (omega arith) in
            let under : nat_le n c ≡ false = lt-leb n c (omega arith) in
            rw (isnt, out, under) refl
        | inr beyond ↦
            let isnt = ne_eqb c n (λ e. omega (arith, e)) in
            let from = le-leb (n + 1) c (omega arith) in
            let also = le-leb n c (omega arith) in
            rw (isnt, from, also) (omega arith)
      ]
    ]

-- the same of what passes
passes-split : (p : Bool) (n before c : ℕ) → n < before
    → one_if (p && (c == n)) + one_if (p && lies (n + 1) before c) ≡ one_if (p && lies n before c)
passes-split true n before c less = lies-split n before c less
passes-split false n before c less = refl

module _ (passes : Ledger → Bool) where
  -- those that pass, of clients from one to before another
  abbrev between : ℕ → ℕ → List Ledger → ℕ
  between from before loans = count_by (λ (l : Ledger). passes l && lies from before l.loan.client) loans

  -- those that pass, of one client
  abbrev of_one : ℕ → List Ledger → ℕ
  of_one client loans = count_by (λ (l : Ledger). passes l && is_of_client client l) loans

  between-split : (n before : ℕ) (loans : List Ledger) → n < before
      → of_one n loans + between (n + 1) before loans ≡ between n before loans
  between-split n before [] less = refl
  between-split n before (l ∷ loans) less =
      omega (
        arith,
        between-split n before loans less,
        passes-split (passes l) n before l.loan.client less,
        sum_by-cons (λ (x : Ledger). one_if (passes x && is_of_client n x)) l loans,
        sum_by-cons (λ (x : Ledger). one_if (passes x && lies (n + 1) before x.loan.client)) l loans,
        sum_by-cons (λ (x : Ledger). one_if (passes x && lies n before x.loan.client)) l loans,
      )

  lies-none : (n c : ℕ) → lies n n c ≡ false
  lies-none n c =
      elim (cases_lt c n) [
        | inl below ↦ let out = lt-leb n c below in rw out refl
        | inr from ↦ let ins = le-leb n c from in let out = le-ltb c n from in rw (ins, out) refl
      ]

  none-between : (n : ℕ) (loans : List Ledger) → between n n loans ≡ 0
  none-between n [] = refl
  none-between n (l ∷ loans) =
      let out : one_if (passes l && lies n n l.loan.client) ≡ 0 = none (passes l) in
      omega (
        arith,
        out,
        none-between n loans,
        sum_by-cons (λ (x : Ledger). one_if (passes x && lies n n x.loan.client)) l loans,
      )
    where
      none : (p : Bool) → one_if (p && lies n n l.loan.client) ≡ 0
      none true = ap one_if (lies-none n l.loan.client)
      none false = refl

  -- clients one after the other
  clients-sum : (loans : List Ledger) (n : ℕ) (names : List (List ℕ))
      → sum_by (λ (c : ℕ × List ℕ). of_one c.0 loans) (enumerate_from n names) ≡ between n (n + length names) loans
  clients-sum loans n [] =
      let none : n ≡ n + length {A = List ℕ} [] = omega arith in
      sym (none-between n loans) ∙ ap (λ (b : ℕ). between n b loans) none
  clients-sum loans n (name ∷ names) =
      let before : n + 1 + length names ≡ n + length (name ∷ names) = omega arith in
      let more = sum_by-cons (λ (c : ℕ × List ℕ). of_one c.0 loans) (n, name) (enumerate_from (n + 1) names) in
      more
      ∙ ap (λ (x : ℕ). of_one n loans + x)
      (clients-sum loans (n + 1) names ∙ ap (λ (b : ℕ). between (n + 1) b loans) before)
      ∙ between-split n (n + length (name ∷ names)) loans (omega arith)

  -- where each loan's client is there, all that pass are of one of them
  all-between : (before : ℕ) (loans : List Ledger)
      → AllByRecursion (λ (l : Ledger). (1 ≤ l.loan.client) × (l.loan.client < before)) loans
      → between 1 before loans ≡ count_by passes loans
  all-between before [] there = refl
  all-between before (l ∷ loans) there =
      let ins : lies 1 before l.loan.client ≡ true =
      let from = le-leb 1 l.loan.client there.0.0 in
      let to = lt-ltb l.loan.client before there.0.1 in
      rw (from, to) refl in
      omega (
        arith,
        same (passes l) ins,
        all-between before loans there.1,
        sum_by-cons (λ (x : Ledger). one_if (passes x && lies 1 before x.loan.client)) l loans,
        sum_by-cons (λ (x : Ledger). one_if (passes x)) l loans,
      )
    where
      same : (p : Bool) → lies 1 before l.loan.client ≡ true → one_if (p && lies 1 before l.loan.client) ≡ one_if p
      same true e = ap one_if e
      same false e = refl

-- a client that is there has a number from 1 to theirs
client-there : (clients : List (List ℕ)) (c : ℕ) → is_some (item_numbered clients c) ≡ true
    → (1 ≤ c) × (c < 1 + length clients)
client-there clients zero there = absurd (cc)
client-there clients (suc c) there =
    found (slice_get clients c) refl (ap is_some (sym (numbered_suc clients c)) ∙ there)
  where
    found : (o : Option (List ℕ)) → slice_get clients c ≡ o → is_some (slice_get clients c) ≡ true
        → (1 ≤ suc c) × (suc c < 1 + length clients)
    found None e h = let none : is_some (slice_get clients c) ≡ false = ap is_some e in absurd (cc)
    found (Some name) e h =
        let within = slice_get_within clients c name e in (omega arith, omega (arith, within))

clients-there : (k : Catalogue) (staffed : Caller → Bool) (clients : List (List ℕ)) (loans : List Ledger)
    → AllByRecursion (IsSoundLoan k staffed clients) loans
    → AllByRecursion (λ (l : Ledger). (1 ≤ l.loan.client) × (l.loan.client < 1 + length clients)) loans
clients-there k staffed clients [] sound = tt
clients-there k staffed clients (l ∷ loans) sound =
    (client-there clients l.loan.client sound.0.client, clients-there k staffed clients loans sound.1)

-- nothing is left out
keeps-all : {X : Type 0} (xs : List X) → filter (λ x. true) xs ≡ xs
keeps-all [] = refl
keeps-all (x ∷ xs) = ap (λ ys. x ∷ ys) (keeps-all xs)

-- a sum over what is made of things
sum-made : {X Y : Type 0} (read : Y → ℕ) (make : X → Y) (xs : List X)
    → sum_by read (map make xs) ≡ sum_by (λ x. read (make x)) xs
sum-made read make [] = refl
sum-made read make (x ∷ xs) =
    sum_by-cons read (make x) (map make xs)
    ∙ ap (λ n. read (make x) + n) (sum-made read make xs)
    ∙ sym (sum_by-cons (λ y. read (make y)) x xs)

-- what is counted by client comes to what is counted of all
pub counts-add_up : (k : Catalogue) (staffed : Caller → Bool) (rows : Rows) (passes : Ledger → Bool)
    (read : ClientLine → ℕ)
    → ((c : ℕ × List ℕ) → read (counted_client k rows c) ≡ loans_that passes c.0 rows) → IsSoundRows k staffed rows
    → sum_by read (clients_of k rows) ≡ count_by passes rows.loans
counts-add_up k staffed rows passes read is sound =
    ap (λ (cs : List (ℕ × List ℕ)). sum_by read (map (counted_client k rows) cs))
    (keeps-all (enumerate_from 1 rows.clients))
    ∙ sum-made read (counted_client k rows) (enumerate_from 1 rows.clients)
    ∙ each (enumerate_from 1 rows.clients)
    ∙ clients-sum passes rows.loans 1 rows.clients
    ∙ all-between passes (1 + length rows.clients) rows.loans
    (clients-there k staffed rows.clients rows.loans sound.loans)
  where
    each : (cs : List (ℕ × List ℕ))
        → sum_by (λ (c : ℕ × List ℕ). read (counted_client k rows c)) cs
        ≡ sum_by (λ (c : ℕ × List ℕ). loans_that passes c.0 rows) cs
    each [] = refl
    each (c ∷ cs) =
        sum_by-cons (λ (x : ℕ × List ℕ). read (counted_client k rows x)) c cs
        ∙ omega (arith, is c, each cs)
        ∙ sym (sum_by-cons (λ (x : ℕ × List ℕ). loans_that passes x.0 rows) c cs)

-- ---- parts of texts

begins : (part text : List ℕ) → begins_with part text ≡ true → (rest : List ℕ) × (text ≡ part ++ rest)
begins [] text h = (text, refl)
begins (x ∷ xs) [] h = absurd (cc)
begins (x ∷ xs) (y ∷ ys) h =
    let same : x ≡ y = eqb-true x y (both-first (x == y) (begins_with xs ys) h) in
    let rest = begins xs ys (both-second (x == y) (begins_with xs ys) h) in
    (rest.0, ap (λ (z : ℕ). z ∷ ys) (sym same) ∙ ap (λ (zs : List ℕ). x ∷ zs) rest.1)

-- a part that is found stands somewhere
pub part-stands : (part text : List ℕ) → has_part part text ≡ true
    → (before : List ℕ) × ((rest : List ℕ) × (text ≡ before ++ (part ++ rest)))
part-stands part [] h = let rest = begins part [] h in ([], (rest.0, rest.1))
part-stands part (y ∷ ys) h =
    elim (cases_Bool (begins_with part (y ∷ ys))) [
      | inl here ↦ let rest = begins part (y ∷ ys) here in ([], (rest.0, rest.1))
      | inr later ↦
          let found : has_part part ys ≡ true = sym (ap (λ (b : Bool). b || has_part part ys) later) ∙ h in
          let rest = part-stands part ys found in
          (y ∷ rest.0, (rest.1.0, ap (λ (zs : List ℕ). y ∷ zs) rest.1.1))
    ]

begins-own : (part rest : List ℕ) → begins_with part (part ++ rest) ≡ true
begins-own [] rest = refl
begins-own (x ∷ xs) rest = both (x == x) (begins_with xs (xs ++ rest)) (eq-eqb x x refl) (begins-own xs rest)

either-second : (a b : Bool) → b ≡ true → a || b ≡ true
either-second true b h = refl
either-second false b h = h

starts-part : (part text : List ℕ) → begins_with part text ≡ true → has_part part text ≡ true
starts-part part [] h = h
starts-part part (y ∷ ys) h = ap (λ (b : Bool). b || has_part part ys) h

-- and one that stands somewhere is found
pub part-found : (before part rest : List ℕ) → has_part part (before ++ (part ++ rest)) ≡ true
part-found [] part rest = starts-part part (part ++ rest) (begins-own part rest)
part-found (y ∷ before) part rest =
    either-second (begins_with part (y ∷ (before ++ (part ++ rest)))) (has_part part (before ++ (part ++ rest)))
    (part-found before part rest)

-- ---- what is seen

pub unseen : (folded : List ℕ → List ℕ) (asked : ListAsked) (o x : ℕ) (i : Institution)
    → is_at_or_below (parent_of i.offices) x o ≡ false → list_seen folded asked o x i ≡ Err F4
unseen folded asked o x i h =
    ap (λ (f : Option Office). where_found f (λ f. office_list folded asked x i.journal i.catalogue f.rows))
    (cond-false (is_at_or_below (parent_of i.offices) x o) (office_at x i.offices) None h)

for_view : (folded : List ℕ → List ℕ) (request : ListRequest) (o : ℕ) (i : Institution)
    → list_for folded request o (view_with_lines o i) ≡ list_for folded request o i
for_view folded (OfOffice x asked) o i =
    ap (λ (r : Result ListTold Fault). with_value r (λ told. Listed x told)) (by_view folded asked o x i)
for_view folded (Preview product principal periods day) o i = refl

-- what a caller is told is read off the view
pub reply-by_view : (folded : List ℕ → List ℕ) (c : Caller) (request : ListRequest) (i : Institution)
    → list_reply folded c request (view_with_lines c.office i) ≡ list_reply folded c request i
reply-by_view folded c request i =
    ap (λ (s : Option Staff). cond (is_some s) (list_for folded request c.office (view_with_lines c.office i)) (Err F2))
    (staff_at_view c.office i c refl)
    ∙ ap (λ (r : Result ListAnswer Fault). cond (is_some (staff_at i c)) r (Err F2))
    (for_view folded request c.office i)

-- what a caller is told who is there, or isn't
pub reply-known : (folded : List ℕ → List ℕ) (c : Caller) (s : Staff) (request : ListRequest) (i : Institution)
    → staff_at i c ≡ Some s → list_reply folded c request i ≡ list_for folded request c.office i
reply-known folded c s request i h =
    ap (λ (f : Option Staff). cond (is_some f) (list_for folded request c.office i) (Err F2)) h

pub reply-unknown : (folded : List ℕ → List ℕ) (c : Caller) (request : ListRequest) (i : Institution)
    → staff_at i c ≡ None → list_reply folded c request i ≡ Err F2
reply-unknown folded c request i h =
    ap (λ (f : Option Staff). cond (is_some f) (list_for folded request c.office i) (Err F2)) h

-- ---- what is due

-- there is a day, and it is no later than this one
abbrev NoLater : ℕ → Option ℕ → Type 0
NoLater day None = ⊥
NoLater day (Some due) = due ≤ day

earlier-keeps : (day : ℕ) (found : Option ℕ) (due : ℕ) → NoLater day found → NoLater day (earlier found due)
earlier-keeps day None due h = absurd h
earlier-keeps day (Some first) due h = omega (arith, h)

earlier-takes : (day : ℕ) (found : Option ℕ) (due : ℕ) → due ≤ day → NoLater day (earlier found due)
earlier-takes day None due h = h
earlier-takes day (Some first) due h = omega (arith, h)

earliest-keeps : (day : ℕ) (found : Option ℕ) (days : List ℕ) → NoLater day found
    → NoLater day (fold earlier found days)
earliest-keeps day found [] h = h
earliest-keeps day found (due ∷ days) h = earliest-keeps day (earlier found due) days (earlier-keeps day found due h)

-- where an open instalment is due by the day, so is the earliest of those that are open
earliest-of : (day : ℕ) (found : Option ℕ) (rows : List Instalment)
    → list_any is_open (filter (λ (row : Instalment). nat_le row.due day) rows) ≡ true
    → NoLater day (fold earlier found (map (λ (row : Instalment). row.due) (filter is_open rows)))
earliest-of day found [] h = absurd (cc)
earliest-of day found (row ∷ rows) h =
    elim (cases_Bool (is_open row)) [
      | inl opens ↦
          subst (λ (rs : List Instalment). NoLater day (fold earlier found (map (λ (r : Instalment). r.due) rs)))
          (sym (cond-true (is_open row) (row ∷ filter is_open rows) (filter is_open rows) opens))
          (elim (cases_Bool (nat_le row.due day)) [
            | inl due ↦
                earliest-keeps day (earlier found row.due) (map (λ (r : Instalment). r.due) (filter is_open rows))
                (earlier-takes day found row.due (leb-true row.due day due))
            | inr later ↦ earliest-of day (earlier found row.due) rows (sym (not_due later) ∙ h)
          ])
      | inr settled ↦
          subst (λ (rs : List Instalment). NoLater day (fold earlier found (map (λ (r : Instalment). r.due) rs)))
          (sym (cond-false (is_open row) (row ∷ filter is_open rows) (filter is_open rows) settled))
          (earliest-of day found rows (elim (cases_Bool (nat_le row.due day)) [
            | inl due ↦ sym (not_open due settled) ∙ h
            | inr later ↦ sym (not_due later) ∙ h
          ]))
    ]
  where
    rest : List Instalment
    rest = filter (λ (r : Instalment). nat_le r.due day) rows

    not_due : nat_le row.due day ≡ false
        → list_any is_open (filter (λ (r : Instalment). nat_le r.due day) (row ∷ rows)) ≡ list_any is_open rest
    not_due later = ap (list_any is_open) (cond-false (nat_le row.due day) (row ∷ rest) rest later)

    not_open : nat_le row.due day ≡ true → is_open row ≡ false
        → list_any is_open (filter (λ (r : Instalment). nat_le r.due day) (row ∷ rows)) ≡ list_any is_open rest
    not_open due settled =
        ap (list_any is_open) (cond-true (nat_le row.due day) (row ∷ rest) rest due)
        ∙ ap (λ (b : Bool). b || list_any is_open rest) settled

no_later-value : (day : ℕ) (found : Option ℕ) → NoLater day found → unwrap_or found 0 ≤ day
no_later-value day None h = absurd h
no_later-value day (Some due) h = h

-- what some instalments come to, of what all come to
sum-of_some : (f : Instalment → ℕ) (passes : Instalment → Bool) (rows : List Instalment)
    → sum_by f (filter passes rows) ≤ sum_by f rows
sum-of_some f passes [] = omega arith
sum-of_some f passes (row ∷ rows) =
    let all = sum_by-cons f row rows in
    elim (cases_Bool (passes row)) [
      | inl takes ↦
          let is = ap (sum_by f) (cond-true (passes row) (row ∷ filter passes rows) (filter passes rows) takes) in
          omega (arith, all, is, sum_by-cons f row (filter passes rows), sum-of_some f passes rows)
      | inr leaves ↦
          let is = ap (sum_by f) (cond-false (passes row) (row ∷ filter passes rows) (filter passes rows) leaves) in
          omega (arith, all, is, sum-of_some f passes rows)
    ]

-- the four portions come to the whole
portions : (rows : List Instalment)
    → sum_by (λ (r : Instalment). open_at r 0) rows + sum_by (λ (r : Instalment). open_at r 1) rows
    + sum_by (λ (r : Instalment). open_at r 2) rows + sum_by (λ (r : Instalment). open_at r 3) rows
    ≡ sum_by row_outstanding rows
portions [] = refl
portions (row ∷ rows) =
    omega (
      arith,
      portions rows,
      sum_by-cons (λ (r : Instalment). open_at r 0) row rows,
      sum_by-cons (λ (r : Instalment). open_at r 1) row rows,
      sum_by-cons (λ (r : Instalment). open_at r 2) row rows,
      sum_by-cons (λ (r : Instalment). open_at r 3) row rows,
      sum_by-cons row_outstanding row rows,
    )

-- what holds of each line of what is chosen
all-lines : {X Y : Type 0} (P : Y → Type 0) (chosen : ℕ × X → Bool) (line : ℕ × X → Y)
    → ((c : ℕ × X) → chosen c ≡ true → P (line c)) → (cs : List (ℕ × X))
    → AllByRecursion P (map line (filter chosen cs))
all-lines P chosen line each [] = tt
all-lines {X = X} P chosen line each (c ∷ cs) =
    elim (cases_Bool (chosen c)) [
      | inl takes ↦
          subst (λ (ds : List (ℕ × X)). AllByRecursion P (map line ds))
          (sym (cond-true (chosen c) (c ∷ filter chosen cs) (filter chosen cs) takes))
          (each c takes, all-lines P chosen line each cs)
      | inr leaves ↦
          subst (λ (ds : List (ℕ × X)). AllByRecursion P (map line ds))
          (sym (cond-false (chosen c) (c ∷ filter chosen cs) (filter chosen cs) leaves))
          (all-lines P chosen line each cs)
    ]

pub due-by_day : (k : Catalogue) (rows : Rows) (day : ℕ)
    → AllByRecursion (λ (d : DueLine). (d.oldest ≤ day) × (sum d.due ≤ d.left)) (due_lines day k rows)
due-by_day k rows day =
    all-lines (λ (d : DueLine). (d.oldest ≤ day) × (sum d.due ≤ d.left)) (λ l. is_due day k l.1) (due_line day k rows)
    (λ l due.
    let opens : list_any is_open (instalments_due_by day k l.1) ≡ true =
    both-second (is_active k l.1) (list_any is_open (instalments_due_by day k l.1)) due in
    let first = no_later-value day (earliest_due (rows_in k l.1)) (earliest-of day None (rows_in k l.1) opens) in
    let whole = portions (instalments_due_by day k l.1) in
    let some = sum-of_some row_outstanding (λ (row : Instalment). nat_le row.due day) (rows_in k l.1) in
    (first, omega (arith, whole, some)))
    (enumerate_from 1 rows.loans)
