-- A state that comes to no more than is kept stays so as entries are taken back, but for what they settled.
use Rattle.std.proofs.Common.{◌≡◌, ℕ, ◌+◌, ◌-◌, ◌<◌, ◌≤◌, List, [], ◌∷◌, length, get_or, map, take, drop, arith, refl}
use Rattle.std.proofs.Common.{◌∙◌, ap, sym, subst, inl, inr}
use Rattle.std.specs.Prelude.{sum_by}
use Rattle.std.proofs.lemmas.Bool.{cases_lt, cases_eq}
use Rattle.std.proofs.lemmas.List.{length-set, get_or-set_same, get_or-set_other, set_past, get_or_past, get_or_default}
use Rattle.std.proofs.lemmas.List.{take-take, drop-take}
use Rattle.std.proofs.lemmas.List.Elements.{All-head, All-tail, All-set}
use Rattle.std.proofs.lemmas.List.Sums.{sum_by-append, sum_by-take-drop, sum_by-take-le}
use Rattle.mf_alloc.specs.Sums.{Instalment, IsWhole, AreWhole, IsRowWithin, AreWithin}
use Rattle.mf_alloc.specs.Rows.{no_row, row_at, rows_changed_at, minus_at, place_in_row}
use Rattle.mf_account.specs.declared.entry.Entry.{Entry}
use Rattle.mf_account.specs.declared.entry.Kind.{Kind}
use Rattle.mf_account.specs.declared.entry.Kind.TheVariants.{Repay, Fee, Penalty, Waive, WriteOff, Refund}
use Rattle.mf_account.specs.declared.settled.SettledPart.{SettledPart}
use Rattle.mf_account.specs.declared.settled.How.{How}
use Rattle.mf_account.specs.declared.settled.How.TheVariants.{Paid, Waived, WrittenOff}
use Rattle.mf_account.specs.Effect.{State, Part}
use Rattle.mf_account.specs.Account.{part_of, sum_at}
use Rattle.mf_account.specs.Undo.{unsettle_row, unowe_row, unsettle, without_settled, without_charge, paid_by, paid_in}
use Rattle.mf_account.specs.Undo.{before_entry}
use Rattle.mf_account.specs.Safe.{IsShaped, IsBounded}
use Rattle.mf_account.specs.Told.{settled_amount}
use Rattle.mf_account.proofs.GoodLemmas.{whole-changed, sum-changed, owed_at}

whole-unsettle_row : (how : How) (p amount : ℕ) (row : Instalment) → IsWhole row
    → IsWhole (unsettle_row how p amount row)
whole-unsettle_row Paid p amount row is = record {
  owed = is.owed;
  paid = length-set row.paid p
      (get_or row.paid p 0 - amount) ∙ is.paid;
  waived = is.waived;
  written_off = is.written_off;
}
whole-unsettle_row Waived p amount row is = record {
  owed = is.owed;
  paid = is.paid;
  waived = length-set row.waived p (get_or row.waived p 0 - amount) ∙ is.waived;
  written_off = is.written_off;
}
whole-unsettle_row WrittenOff p amount row is = record {
  owed = is.owed;
  paid = is.paid;
  waived = is.waived;
  written_off = length-set row.written_off p (get_or row.written_off p 0 - amount) ∙ is.written_off;
}

whole-unowe_row : (p amount : ℕ) (row : Instalment) → IsWhole row → IsWhole (unowe_row p amount row)
whole-unowe_row p amount row is = record {
  owed = length-set row.owed p (get_or row.owed p 0 - amount) ∙ is.owed;
  paid = is.paid;
  waived = is.waived;
  written_off = is.written_off;
}

whole-unsettle : (rows : List Instalment) (part : Part) → AreWhole rows → AreWhole (unsettle rows part)
whole-unsettle rows part whole =
    whole-changed rows part.cell.instalment (unsettle_row part.how (place_in_row part.cell.portion) part.amount)
    (whole-unsettle_row part.how (place_in_row part.cell.portion) part.amount) whole

whole-without_settled : (rows : List Instalment) (parts : List Part) → AreWhole rows
    → AreWhole (without_settled rows parts)
whole-without_settled rows [] whole = whole
whole-without_settled rows (part ∷ parts) whole =
    whole-unsettle (without_settled rows parts) part (whole-without_settled rows parts whole)

whole-without_charge : (kind : Kind) (entry : Entry) (rows : List Instalment) → AreWhole rows
    → AreWhole (without_charge kind entry rows)
whole-without_charge Fee entry rows whole =
    whole-changed rows entry.instalment (unowe_row 1 entry.amount) (whole-unowe_row 1 entry.amount) whole
whole-without_charge Penalty entry rows whole =
    whole-changed rows entry.instalment (unowe_row 0 entry.amount) (whole-unowe_row 0 entry.amount) whole
whole-without_charge Repay entry rows whole = whole
whole-without_charge Waive entry rows whole = whole
whole-without_charge WriteOff entry rows whole = whole
whole-without_charge Refund entry rows whole = whole

pub length-without_settled : (rows : List Instalment) (parts : List Part) → length (without_settled rows parts)
    ≡ length rows
length-without_settled rows [] = refl
length-without_settled rows (part ∷ parts) =
    length-set (without_settled rows parts) (part.cell.instalment - 1)
    (unsettle_row part.how (place_in_row part.cell.portion) part.amount (row_at (without_settled rows parts)
    part.cell.instalment))
    ∙ length-without_settled rows parts

pub length-without_charge : (kind : Kind) (entry : Entry) (rows : List Instalment)
    → length (without_charge kind entry rows)
    ≡ length rows
length-without_charge Fee entry rows =
    length-set rows (entry.instalment - 1) (unowe_row 1 entry.amount (row_at rows entry.instalment))
length-without_charge Penalty entry rows =
    length-set rows (entry.instalment - 1) (unowe_row 0 entry.amount (row_at rows entry.instalment))
length-without_charge Repay entry rows = refl
length-without_charge Waive entry rows = refl
length-without_charge WriteOff entry rows = refl
length-without_charge Refund entry rows = refl

lowered : (sums : List ℕ) (p amount q : ℕ) → get_or (minus_at sums p amount) q 0 ≤ get_or sums q 0
lowered sums p amount q =
    elim (cases_lt p (length sums)) [
      | inl within ↦ elim (cases_eq q p) [
        | inl here ↦
            let same : get_or (minus_at sums p amount) q 0 ≡ get_or sums q 0 - amount =
            ap (λ x. get_or (minus_at sums p amount) x 0) here ∙ get_or-set_same sums p (get_or sums p 0 - amount) 0
            within ∙ ap (λ x. get_or sums x 0 - amount) (sym here) in
            omega (arith, same)
        | inr other ↦ let same = get_or-set_other sums p q (get_or sums p 0 - amount) 0 other in omega (arith, same)
      ]
      | inr past ↦ let same : get_or (minus_at sums p amount) q 0 ≡ get_or sums q 0 =
          ap (λ x. get_or x q 0) (set_past sums p (get_or sums p 0 - amount) past) in omega (arith, same)
    ]

within-unsettle_row : (how : How) (p amount : ℕ) (row : Instalment) → IsRowWithin row
    → IsRowWithin (unsettle_row how p amount row)
within-unsettle_row Paid p amount row within q small = let was = within q small in let less =
    lowered row.paid p amount q in omega (arith, was, less)
within-unsettle_row Waived p amount row within q small = let was = within q small in let less =
    lowered row.waived p amount q in omega (arith, was, less)
within-unsettle_row WrittenOff p amount row within q small = let was = within q small in let less =
    lowered row.written_off p amount q in omega (arith, was, less)

-- what is settled no more is still at most what is owed
pub within-without_settled : (rows : List Instalment) (parts : List Part) → AreWithin rows
    → AreWithin (without_settled rows parts)
within-without_settled rows [] within = within
within-without_settled rows (part ∷ parts) within =
    let others : List Instalment = without_settled rows parts in
    let still : AreWithin others = within-without_settled rows parts within in
    let i : ℕ = part.cell.instalment - 1 in
    let p : ℕ = place_in_row part.cell.portion in
    elim (cases_lt i (length others)) [
      | inl here ↦ All-set IsRowWithin others i (unsettle_row part.how p part.amount
          (row_at others part.cell.instalment)) (within-unsettle_row part.how p part.amount
          (row_at others part.cell.instalment) (still i no_row here)) still
      | inr past ↦ subst AreWithin
          (sym (set_past others i (unsettle_row part.how p part.amount (row_at others part.cell.instalment)) past))
          still
    ]

-- nor where less is owed of one instalment, if not more is settled of it
pub within-lowered : (rows : List Instalment) (instalment p amount : ℕ) (default : Instalment) → instalment - 1
    < length rows
    → IsRowWithin (unowe_row p amount (get_or rows (instalment - 1) default)) → AreWithin rows
    → AreWithin (rows_changed_at rows instalment (unowe_row p amount))
within-lowered rows instalment p amount default here own within =
    All-set IsRowWithin rows (instalment - 1) (unowe_row p amount (row_at rows instalment))
    (subst (λ (r : Instalment). IsRowWithin (unowe_row p amount r))
    (get_or_default rows (instalment - 1) default no_row here)
    own) within

owed-unsettle_row : (how : How) (p amount q : ℕ) (row : Instalment) → owed_at q (unsettle_row how p amount row)
    ≤ owed_at q row + 0
owed-unsettle_row Paid p amount q row = omega arith
owed-unsettle_row Waived p amount q row = omega arith
owed-unsettle_row WrittenOff p amount q row = omega arith

owed-unowe_row : (p amount q : ℕ) (row : Instalment) → owed_at q (unowe_row p amount row) ≤ owed_at q row + 0
owed-unowe_row p amount q row = let less = lowered row.owed p amount q in omega (arith, less)

owed-without_settled : (q : ℕ) (rows : List Instalment) (parts : List Part)
    → sum_by (owed_at q) (without_settled rows parts)
    ≤ sum_by (owed_at q) rows
owed-without_settled q rows [] = omega arith
owed-without_settled q rows (part ∷ parts) =
    let p : ℕ = place_in_row part.cell.portion in
    let rest = owed-without_settled q rows parts in
    let one = sum-changed (owed_at q) (without_settled rows parts) part.cell.instalment 0
    (unsettle_row part.how p part.amount) (owed-unsettle_row part.how p part.amount q) in
    omega (arith, rest, one)

owed-without_charge : (kind : Kind) (entry : Entry) (q : ℕ) (rows : List Instalment) → sum_by (owed_at q)
    (without_charge kind entry rows) ≤ sum_by (owed_at q) rows
owed-without_charge Fee entry q rows = let one = sum-changed (owed_at q) rows entry.instalment 0
    (unowe_row 1 entry.amount) (owed-unowe_row 1 entry.amount q) in omega (arith, one)
owed-without_charge Penalty entry q rows = let one = sum-changed (owed_at q) rows entry.instalment 0
    (unowe_row 0 entry.amount) (owed-unowe_row 0 entry.amount q) in omega (arith, one)
owed-without_charge Repay entry q rows = omega arith
owed-without_charge Waive entry q rows = omega arith
owed-without_charge WriteOff entry q rows = omega arith
owed-without_charge Refund entry q rows = omega arith

paid_by-le : (how : How) (amount : ℕ) → paid_by how amount ≤ amount
paid_by-le Paid amount = omega arith
paid_by-le Waived amount = omega arith
paid_by-le WrittenOff amount = omega arith

-- what parts paid is at most what they come to
pub paid-amount : (settled : List SettledPart) → paid_in (map part_of settled) ≤ settled_amount settled
paid-amount [] = omega arith
paid-amount (s ∷ settled) =
    let rest = paid-amount settled in
    let own = paid_by-le s.how s.amount in
    let left = sum_by-append (λ (part : Part). paid_by part.how part.amount) (part_of s ∷ []) (map part_of settled) in
    let right = sum_by-append (λ (x : SettledPart). x.amount) (s ∷ []) settled in
    omega (arith, rest, own, left, right)

-- the parts up to a place, and those from there to another
pub amount-upto : (settled : List SettledPart) (start k : ℕ) → start ≤ k → k ≤ length settled
    → settled_amount (take start settled) + settled_amount (take (k - start) (drop start settled))
    ≡ settled_amount (take k settled)
amount-upto settled start k below within =
    let whole : start + (k - start) ≡ k = omega arith in
    let parted = sum_by-take-drop (λ (s : SettledPart). s.amount) (take k settled) start in
    let front : settled_amount (take start (take k settled)) ≡ settled_amount (take start settled) =
    ap settled_amount (take-take start k settled below) in
    let rest : settled_amount (drop start (take k settled)) ≡ settled_amount (take (k - start) (drop start settled)) =
    ap settled_amount (ap (λ n. drop start (take n settled)) (sym whole) ∙ drop-take start (k - start) settled) in
    omega (arith, parted, front, rest)

-- with a higher bound
pub bounded-weaker : (n most more : ℕ) (state : State) → most ≤ more → IsBounded n most state → IsBounded n more state
bounded-weaker n most more state le is = record {
  size = is.size;
  whole = is.whole;
  within = is.within;
  owed = λ p. let owed = is.owed p in omega (arith, owed, le);
  money = omega (arith, is.money, le);
}

-- four portions and no more
owed-beyond : (p : ℕ) (rows : List Instalment) → 4 ≤ p → AreWhole rows → sum_by (owed_at p) rows ≡ 0
owed-beyond p [] past whole = refl
owed-beyond p (row ∷ rows) past whole =
    let none = get_or_past row.owed p 0 (let size = (All-head IsWhole row rows whole).owed in omega (
      arith,
      past,
      size,
    )) in
    let rest = owed-beyond p rows past (All-tail IsWhole row rows whole) in
    let all = sum_by-append (owed_at p) (row ∷ []) rows in
    omega (arith, none, rest, all)

-- bounds of four portions bound a state
pub bounded-from : (n most : ℕ) (state : State) → IsShaped n state
    → ((p : ℕ) → p < 4 → sum_at (λ (row : Instalment). row.owed) p state.rows ≤ most) → state.overpaid + state.refunded
    ≤ most
    → IsBounded n most state
bounded-from n most state is owed money = record {
  size = is.size;
  whole = is.whole;
  within = is.within;
  owed = λ p. elim (cases_lt p 4) [
    | inl small ↦ owed p small
    | inr past ↦ let none = owed-beyond p state.rows past
        is.whole in omega (arith, none)
  ];
  money = money;
}

pub length-before_entry : (entry : Entry) (own : List Part) (now : State) → length (before_entry entry own now).rows
    ≡ length now.rows
length-before_entry entry own now = length-without_charge entry.kind entry (without_settled now.rows own)
    ∙ length-without_settled now.rows own

-- an entry taken back by what it settled
pub bounded-back : (n most : ℕ) (entry : Entry) (own : List Part) (now : State) → IsBounded n most now
    → AreWithin (without_charge entry.kind entry (without_settled now.rows own)) → IsBounded n (most + paid_in own)
    (before_entry entry own now)
bounded-back n most entry own now is within =
    let rows : List Instalment = without_settled now.rows own in
    record {
      size = length-without_charge entry.kind entry rows ∙ length-without_settled now.rows own ∙ is.size;
      whole = whole-without_charge entry.kind entry rows (whole-without_settled now.rows own is.whole);
      within = within;
      owed = λ q.
          let charge = owed-without_charge entry.kind entry q rows in
          let settled = owed-without_settled q now.rows own in
          let was = is.owed q in
          omega (arith, charge, settled, was);
      money = omega (arith, is.money);
    }

-- one step back, beside what is left of the parts
pub step-money : (settled : List SettledPart) (start k all : ℕ) (entry : Entry) (now next : State) → start ≤ k
    → k ≤ length settled → now.overpaid + now.refunded + settled_amount (take k settled) ≤ all
    → next ≡ before_entry entry (map part_of (take (k - start) (drop start settled))) now → next.overpaid
    + next.refunded + settled_amount (take start settled) ≤ all
step-money settled start k all entry now next below within money is =
    let own : List SettledPart = take (k - start) (drop start settled) in
    let upto = amount-upto settled start k below within in
    let paid = paid-amount own in
    let overpaid = ap (λ (x : State). x.overpaid) is in
    let refunded = ap (λ (x : State). x.refunded) is in
    omega (arith, money, upto, paid, overpaid, refunded)

pub step-bounded : (settled : List SettledPart) (start k n most : ℕ) (entry : Entry) (now next : State) → start ≤ k
    → k ≤ length settled → IsBounded n (most + (settled_amount settled - settled_amount (take k settled))) now
    → AreWithin (without_charge entry.kind entry
    (without_settled now.rows (map part_of (take (k - start) (drop start settled)))))
    → next ≡ before_entry entry (map part_of (take (k - start) (drop start settled))) now
    → IsBounded n (most + (settled_amount settled - settled_amount (take start settled))) next
step-bounded settled start k n most entry now next below within bounded apart is =
    let own : List SettledPart = take (k - start) (drop start settled) in
    let upto = amount-upto settled start k below within in
    let paid = paid-amount own in
    let all = sum_by-take-le (λ (s : SettledPart). s.amount) settled k in
    let used : ℕ = most + (settled_amount settled - settled_amount (take k settled)) in
    let more : ℕ = most + (settled_amount settled - settled_amount (take start settled)) in
    subst (IsBounded n more) (sym is)
    (bounded-weaker n (used + paid_in (map part_of own)) more (before_entry entry (map part_of own) now)
    (omega (arith, upto, paid, all))
    (bounded-back n used entry (map part_of own) now bounded apart))
