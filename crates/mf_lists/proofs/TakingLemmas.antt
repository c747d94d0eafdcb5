-- A movement more in the takings.
use Rattle.std.proofs.Common.{◌≡◌, ℕ, ◌+◌, Bool, true, false, true≢false, cond, List, [], ◌∷◌, ◌++◌, map, filter}
use Rattle.std.proofs.Common.{length}
use Rattle.std.proofs.Common.{refl, sym, ap, ap₂, ◌∙◌, subst, arith, inl, inr}
use Rattle.std.specs.Prelude.{◌&&◌, ◌||◌, ◌==◌, fold, sum_by}
use Rattle.std.specs.List.{list_any}
use Rattle.std.proofs.lemmas.Bool.{cases_Bool, eq-eqb, eqb-true}
use Rattle.std.proofs.lemmas.List.{append-nil, length-append, map-append}
use Rattle.std.proofs.lemmas.List.Elements.{filter-append}
use Rattle.std.proofs.lemmas.List.Folds.{list_any-append}
use Rattle.std.proofs.lemmas.List.Sums.{fold-append, sum_by-append, sum_by-cons}
use Rattle.mf_office.specs.declared.caller.Caller.{Caller}
use Rattle.mf_lists.specs.declared.takings.Counted.{Counted}
use Rattle.mf_lists.specs.declared.takings.Movement.{Movement}
use Rattle.mf_lists.specs.declared.takings.Taking.{Taking}
use Rattle.mf_lists.specs.declared.takings.Way.{Way}
use Rattle.mf_lists.specs.declared.takings.Way.TheVariants.{PaidIn, PaidOut, InReversed, OutReversed}
use Rattle.mf_lists.specs.Takings.{counted, is_same, is_way, moved_by, one_more, senders, taking_of, taking_with}
use Rattle.mf_lists.specs.Takings.{takings_of, those, with_movement, with_own, with_sender}

-- ---- members of staff

first_holds : (a b : Bool) → (a && b) ≡ true → a ≡ true
first_holds true b e = refl
first_holds false b e = absurd (true≢false (sym e))

second_holds : (a b : Bool) → (a && b) ≡ true → b ≡ true
second_holds true b e = e
second_holds false b e = absurd (true≢false (sym e))

same_are : (a b : Caller) → is_same a b ≡ true → a ≡ b
same_are a b is =
    let office = eqb-true a.office b.office (first_holds (a.office == b.office) (a.staff == b.staff) is) in
    let staff = eqb-true a.staff b.staff (second_holds (a.office == b.office) (a.staff == b.staff) is) in
    λ t. record { office = office t; staff = staff t }

pub same_self : (a : Caller) → is_same a a ≡ true
same_self a = ap₂ ◌&&◌ (eq-eqb a.office a.office refl) (eq-eqb a.staff a.staff refl)

others_too : (a b : Caller) → is_same a b ≡ false → is_same b a ≡ false
others_too a b apart = elim (cases_Bool (is_same b a)) [
  | inl same ↦ absurd (true≢false (sym (same_self a)
      ∙ subst (λ (c : Caller). is_same a c ≡ false) (same_are b a same) apart))
  | inr other ↦ other
]

-- ---- somebody's movements

abbrev count_of : List Movement → Counted
count_of ms = record { count = length ms; sum = sum_by (λ (m : Movement). m.amount) ms }

one_counted : (b : Bool) (ms : List Movement) (m : Movement)
    → count_of (ms ++ cond b (m ∷ []) []) ≡ one_more b m.amount (count_of ms)
one_counted true ms m =
    let size = length-append ms (m ∷ []) in
    let both = sum_by-append (λ (n : Movement). n.amount) ms (m ∷ []) in
    let one = sum_by-cons (λ (n : Movement). n.amount) m [] in
    let count : length (ms ++ m ∷ []) ≡ length ms + 1 = omega (arith, size) in
    let sum : sum_by (λ (n : Movement). n.amount) (ms ++ m ∷ []) ≡ sum_by (λ (n : Movement). n.amount) ms + m.amount =
    omega (arith, both, one) in
    λ t. record { count = count t; sum = sum t }
one_counted false ms m = ap count_of (append-nil ms)

counted_more : (way : Way) (ms : List Movement) (m : Movement)
    → counted way (ms ++ m ∷ []) ≡ one_more (is_way way m.way) m.amount (counted way ms)
counted_more way ms m =
    ap count_of (filter-append (λ (x : Movement). is_way way x.way) ms (m ∷ []))
    ∙ one_counted (is_way way m.way) (those way ms) m

with_more : (who : Caller) (b : Bool) (own : List Movement) (m : Movement)
    → taking_with who (own ++ cond b (m ∷ []) [])
    ≡ cond b (with_movement m (taking_with who own)) (taking_with who own)
with_more who true own m = λ t. record {
  staff = who;
  paid_in = counted_more PaidIn own m t;
  paid_out = counted_more PaidOut own m t;
  in_reversed = counted_more InReversed own m t;
  out_reversed = counted_more OutReversed own m t;
}
with_more who false own m = ap (taking_with who) (append-nil own)

moved_more : (b : Bool) (c : Caller) (m : Movement) (l : List (Caller × Movement))
    → map (λ (x : Caller × Movement). x.1) (l ++ cond b ((c, m) ∷ []) [])
    ≡ map (λ (x : Caller × Movement). x.1) l ++ cond b (m ∷ []) []
moved_more true c m l = map-append (λ (x : Caller × Movement). x.1) l ((c, m) ∷ [])
moved_more false c m l =
    ap (map (λ (x : Caller × Movement). x.1)) (append-nil l)
    ∙ sym (append-nil (map (λ (x : Caller × Movement). x.1) l))

module _ (moves : List (Caller × Movement)) (c : Caller) (m : Movement) where
  abbrev more : List (Caller × Movement)
  more = moves ++ (c, m) ∷ []

  -- the takings of each, with a movement more
  taking_more : (who : Caller) → taking_of who more ≡ with_own c m (taking_of who moves)
  taking_more who =
      ap (taking_with who) (ap (map (λ (x : Caller × Movement). x.1))
      (filter-append (λ (x : Caller × Movement). is_same x.0 who) moves ((c, m) ∷ []))
      ∙ moved_more (is_same c who) c m (filter (λ (x : Caller × Movement). is_same x.0 who) moves))
      ∙ with_more who (is_same c who) (moved_by who moves) m

  own_all : (people : List Caller)
      → map (with_own c m) (map (λ who. taking_of who moves) people) ≡ map (λ who. taking_of who more) people
  own_all [] = refl
  own_all (who ∷ people) = ap₂ ◌∷◌ (sym (taking_more who)) (own_all people)

  any_all : (people : List Caller)
      → list_any (λ (t : Taking). is_same c t.staff) (map (λ who. taking_of who moves) people)
      ≡ list_any (is_same c) people
  any_all [] = refl
  any_all (who ∷ people) = ap (λ b. is_same c who || b) (any_all people)

  senders_more : senders more ≡ with_sender (senders moves) c
  senders_more =
      fold-append (λ (before : List Caller) (x : Caller × Movement). with_sender before x.0) [] moves ((c, m) ∷ [])

  -- the takings hold somebody just where they moved something
  any_is : (takings : List Taking) (has : Bool) → takings ≡ takings_of moves
      → has ≡ list_any (λ (t : Taking). is_same c t.staff) takings → list_any (is_same c) (senders moves) ≡ has
  any_is takings has are is = sym (is ∙ ap (list_any (λ (t : Taking). is_same c t.staff)) are ∙ any_all (senders moves))

  pub known_more : (takings : List Taking) → takings ≡ takings_of moves
      → true ≡ list_any (λ (t : Taking). is_same c t.staff) takings
      → map (with_own c m) takings ≡ takings_of more
  known_more takings are is =
      ap (map (with_own c m)) are ∙ own_all (senders moves)
      ∙ ap (map (λ who. taking_of who more)) (sym (senders_more
      ∙ ap (λ b. cond b (senders moves) (senders moves ++ c ∷ [])) (any_is takings true are is)))

-- whoever isn't among the senders moved nothing
any_with : (c : Caller) (before : List Caller) (who : Caller) → list_any (is_same c) (with_sender before who) ≡ false
    → (list_any (is_same c) before ≡ false) × (is_same who c ≡ false)
any_with c before who none = elim (cases_Bool (list_any (is_same who) before)) [
  | inl there ↦
      let none_before : list_any (is_same c) before ≡ false =
      sym (ap (λ b. list_any (is_same c) (cond b before (before ++ who ∷ []))) there) ∙ none in (
        none_before,
        elim (cases_Bool (is_same who c)) [
          | inl same ↦ absurd (true≢false (sym there
              ∙ subst (λ (d : Caller). list_any (is_same d) before ≡ false) (sym (same_are who c same)) none_before))
          | inr other ↦ other
        ],
      )
  | inr new ↦
      let none_more : (list_any (is_same c) before || (is_same c who || false)) ≡ false =
      sym (list_any-append (is_same c) before (who ∷ []))
      ∙ sym (ap (λ b. list_any (is_same c) (cond b before (before ++ who ∷ []))) new) ∙ none in
      let parts = neither (list_any (is_same c) before) (is_same c who) none_more in
      (parts.0, others_too c who parts.1)
]
  where
    neither : (a b : Bool) → (a || (b || false)) ≡ false → (a ≡ false) × (b ≡ false)
    neither true b e = absurd (true≢false e)
    neither false true e = absurd (true≢false e)
    neither false false e = (refl, refl)

unmoved : (c : Caller) (before : List Caller) (moves : List (Caller × Movement))
    → list_any (is_same c) (fold (λ (b : List Caller) (x : Caller × Movement). with_sender b x.0) before moves) ≡ false
    → (list_any (is_same c) before ≡ false) × (filter (λ (x : Caller × Movement). is_same x.0 c) moves ≡ [])
unmoved c before [] none = (none, refl)
unmoved c before (x ∷ moves) none =
    let later = unmoved c (with_sender before x.0) moves none in
    let here = any_with c before x.0 later.0 in (
      here.0,
      ap (λ b. cond b (x ∷ filter (λ (y : Caller × Movement). is_same y.0 c) moves)
          (filter (λ (y : Caller × Movement). is_same y.0 c) moves)) here.1 ∙ later.1,
    )

-- the takings of one who moved nothing before
pub new_more : (moves : List (Caller × Movement)) (c : Caller) (m : Movement) (takings : List Taking)
    → takings ≡ takings_of moves → false ≡ list_any (λ (t : Taking). is_same c t.staff) takings
    → map (with_own c m) takings ++ with_movement m (taking_of c []) ∷ [] ≡ takings_of (moves ++ (c, m) ∷ [])
new_more moves c m takings are is =
    let none = any_is moves c m takings false are is in
    let own : moved_by c moves ≡ [] =
    ap (map (λ (x : Caller × Movement). x.1)) (unmoved c [] moves none).1 in
    let first : taking_of c (moves ++ (c, m) ∷ []) ≡ with_movement m (taking_of c []) =
    taking_more moves c m c
    ∙ ap (λ b. cond b (with_movement m (taking_of c moves)) (taking_of c moves)) (same_self c)
    ∙ ap (λ l. with_movement m (taking_with c l)) own in
    ap₂ ◌++◌ (ap (map (with_own c m)) are ∙ own_all moves c m (senders moves)) (ap (λ t. t ∷ []) (sym first))
    ∙ sym (map-append (λ who. taking_of who (moves ++ (c, m) ∷ [])) (senders moves) (c ∷ []))
    ∙ ap (map (λ who. taking_of who (moves ++ (c, m) ∷ []))) (sym (senders_more moves c m
    ∙ ap (λ b. cond b (senders moves) (senders moves ++ c ∷ [])) none))
