-- Two payments after each other pay what their sum pays at once.
use Rattle.std.proofs.Common.{◌≡◌, ◌≢◌, ℕ, ◌+◌, ◌-◌, List, [], ◌∷◌, length, map, get_or, set, inl, inr, arith, refl}
use Rattle.std.proofs.Common.{◌∙◌, ap, subst, sym}
use Rattle.std.specs.Prelude.{filter}
use Rattle.std.proofs.lemmas.Bool.{cases_lt, cases_eq, cond_both, ltb-false}
use Rattle.std.proofs.lemmas.List.{get_or-set_same, get_or-set_other, set-set, set-get_or, set_past, set_comm}
use Rattle.mf_alloc.specs.declared.row.Cell.{Cell}
use Rattle.mf_alloc.specs.declared.row.Share.{Share}
use Rattle.mf_alloc.specs.Sums.{Instalment}
use Rattle.mf_alloc.specs.Rows.{no_row, pay_row, pay_into, with_paid, place_in_row}
use Rattle.mf_alloc.specs.Payment.{is_some_share}

-- one element changed
abbrev pub edit : {X : Type 0} → X → List X → ℕ → (X → X) → List X
edit d xs i f = set xs i (f (get_or xs i d))

pub edit-twice : {X : Type 0} (d : X) (xs : List X) (i : ℕ) (f g : X → X) → edit d (edit d xs i f) i g
    ≡ edit d xs i (λ x. g (f x))
edit-twice d xs i f g =
    elim (cases_lt i (length xs)) [
      | inl within ↦ set-set xs i _ _ ∙ ap (λ x. set xs i (g x)) (get_or-set_same xs i (f (get_or xs i d)) d within)
      | inr past ↦ set-set xs i _ _ ∙ set_past xs i _ past ∙ sym (set_past xs i _ past)
    ]

edit-apart : {X : Type 0} (d : X) (xs : List X) (i j : ℕ) (f g : X → X) → i ≢ j → edit d (edit d xs i f) j g
    ≡ edit d (edit d xs j g) i f
edit-apart d xs i j f g apart =
    ap (λ x. set (set xs i (f (get_or xs i d))) j (g x)) (get_or-set_other xs i j (f (get_or xs i d)) d
    (λ e. apart (sym e)))
    ∙ set_comm xs i j (f (get_or xs i d)) (g (get_or xs j d)) apart
    ∙ sym (ap (λ x. set (set xs j (g (get_or xs j d))) i (f x)) (get_or-set_other xs j i (g (get_or xs j d)) d apart))

pub edit-commute : {X : Type 0} (d : X) (xs : List X) (i j : ℕ) (f g : X → X) → ((x : X) → g (f x) ≡ f (g x))
    → edit d (edit d xs i f) j g ≡ edit d (edit d xs j g) i f
edit-commute {X} d xs i j f g same =
    elim (cases_eq i j) [
      | inl e ↦
          subst (λ (k : ℕ). edit d (edit d xs i f) k g ≡ edit d (edit d xs k g) i f) e
          (edit-twice d xs i f g ∙ ap (set xs i) (same (get_or xs i d)) ∙ sym (edit-twice d xs i g f))
      | inr apart ↦ edit-apart d xs i j f g apart
    ]

pay_row-commute : (p q a b : ℕ) (row : Instalment) → pay_row q b (pay_row p a row) ≡ pay_row p a (pay_row q b row)
pay_row-commute p q a b row =
    ap (λ (sums : List ℕ). record row { paid = sums }) (edit-commute 0 row.paid p q (λ x. x + a) (λ x. x + b)
    (λ x. omega arith))

pay_row-twice : (p a b : ℕ) (row : Instalment) → pay_row p b (pay_row p a row) ≡ pay_row p (a + b) row
pay_row-twice p a b row =
    let sum : get_or row.paid p 0 + a + b ≡ get_or row.paid p 0 + (a + b) = omega arith in
    ap (λ (sums : List ℕ). record row { paid = sums }) (edit-twice 0 row.paid p (λ x. x + a) (λ x. x + b)
    ∙ ap (set row.paid p) sum)

pay_row-none : (p : ℕ) (row : Instalment) → pay_row p 0 row ≡ row
pay_row-none p row =
    let same : get_or row.paid p 0 + 0 ≡ get_or row.paid p 0 = omega arith in
    ap (λ (sums : List ℕ). record row { paid = sums }) (ap (set row.paid p) same ∙ set-get_or row.paid p 0)

pay_into-commute : (rows : List Instalment) (a b : Share) → pay_into (pay_into rows a) b ≡ pay_into (pay_into rows b) a
pay_into-commute rows a b =
    edit-commute no_row rows (a.cell.instalment - 1) (b.cell.instalment - 1)
    (pay_row (place_in_row a.cell.portion) a.amount) (pay_row (place_in_row b.cell.portion) b.amount)
    (λ row. pay_row-commute (place_in_row a.cell.portion) (place_in_row b.cell.portion) a.amount b.amount row)

-- a share of a cell
abbrev pub share_in : Cell → ℕ → Share
share_in cell amount = record { cell = cell; amount = amount }

pay_into-twice : (rows : List Instalment) (cell : Cell) (a b : ℕ) → pay_into (pay_into rows (share_in cell a))
    (share_in cell b) ≡ pay_into rows (share_in cell (a + b))
pay_into-twice rows cell a b =
    let i : ℕ = cell.instalment - 1 in
    let p : ℕ = place_in_row cell.portion in
    edit-twice no_row rows i (pay_row p a) (pay_row p b) ∙ ap (set rows i) (pay_row-twice p a b (get_or rows i no_row))

pub pay_into-none : (rows : List Instalment) (share : Share) → share.amount ≡ 0 → pay_into rows share ≡ rows
pay_into-none rows share none =
    let i : ℕ = share.cell.instalment - 1 in
    let p : ℕ = place_in_row share.cell.portion in
    ap (λ a. set rows i (pay_row p a (get_or rows i no_row))) none
    ∙ ap (set rows i) (pay_row-none p (get_or rows i no_row)) ∙ set-get_or rows i no_row

-- zero shares pay nothing
pub with_paid-some : (rows : List Instalment) (shares : List Share) → with_paid rows (filter is_some_share shares)
    ≡ with_paid rows shares
with_paid-some rows [] = refl
with_paid-some rows (share ∷ shares) =
    cond_both (is_some_share share) (share ∷ filter is_some_share shares) (filter is_some_share shares)
    (λ x. with_paid rows x ≡ with_paid (pay_into rows share) shares)
    (λ _. with_paid-some (pay_into rows share) shares)
    (λ none.
    let zero_amount : share.amount ≡ 0 = let low = ltb-false 0 share.amount none in omega arith in
    with_paid-some rows shares ∙ ap (λ x. with_paid x shares) (sym (pay_into-none rows share zero_amount)))

-- a share paid first or last
with_paid-move : (rows : List Instalment) (share : Share) (shares : List Share) → pay_into (with_paid rows shares) share
    ≡ with_paid (pay_into rows share) shares
with_paid-move rows share [] = refl
with_paid-move rows share (first ∷ shares) =
    with_paid-move (pay_into rows first) share shares ∙ ap (λ x. with_paid x shares) (pay_into-commute rows first share)

-- the shares of places
abbrev pub shares_by : (ℕ → Cell) → (ℕ → ℕ) → List ℕ → List Share
shares_by order amounts places = map (λ k. share_in (order k) (amounts k)) places

pub with_paid-twice : (order : ℕ → Cell) (first later : ℕ → ℕ) (places : List ℕ) (rows : List Instalment)
    → with_paid (with_paid rows (shares_by order first places)) (shares_by order later places)
    ≡ with_paid rows (shares_by order (λ k. first k + later k) places)
with_paid-twice order first later [] rows = refl
with_paid-twice order first later (k ∷ places) rows =
    let paid : List Instalment = pay_into rows (share_in (order k) (first k)) in
    ap (λ x. with_paid x (shares_by order later places)) (with_paid-move paid (share_in (order k) (later k))
    (shares_by order first places))
    ∙ with_paid-twice order first later places (pay_into paid (share_in (order k) (later k)))
    ∙ ap (λ x. with_paid x (shares_by order (λ j. first j + later j) places)) (pay_into-twice rows (order k) (first k)
    (later k))
