-- That the standing entries are the one ascending list of those not reversed.
use Rattle.std.proofs.Common.{◌≡◌, ◌≢◌, ℕ, suc, ◌+◌, ◌<◌, ◌⊎◌, Bool, true, false, ◌&&◌, ◌||◌, eqb, ltb, true≢false}
use Rattle.std.proofs.Common.{List, [], ◌∷◌, length, inl, inr, arith, refl, ◌∙◌, ap, subst, sym}
use Rattle.std.specs.Prelude.{fold}
use Rattle.std.proofs.lemmas.Bool.{cases_lt, cases_Bool, cond_both, ltb-true, eqb-true, and_parts}
use Rattle.mf_account.specs.declared.entry.Entry.{Entry}
use Rattle.mf_account.specs.Standing.{is_before, order_with, with_entry, standing_entries, entry_at}
use Rattle.mf_account.specs.StandingLaw.{IsAmong, Precedes, Ascends, IsStandingOf, StandingIsOne}
use Rattle.mf_account.proofs.SoundLemmas.{before-from}

or_parts : (a b : Bool) → (a || b) ≡ true → (a ≡ true) ⊎ (b ≡ true)
or_parts true b h = inl refl
or_parts false b h = inr h

-- what coming before means
pub before-parts : (a b : Entry) → is_before a b ≡ true → (a.day < b.day) ⊎ ((a.day ≡ b.day) × (a.seq < b.seq))
before-parts a b is =
    elim (or_parts (ltb a.day b.day) (eqb a.day b.day && ltb a.seq b.seq) is) [
      | inl less ↦ inl (ltb-true a.day b.day less)
      | inr tie ↦
          let both = and_parts (eqb a.day b.day) (ltb a.seq b.seq) tie in
          inr (eqb-true a.day b.day both.0, ltb-true a.seq b.seq both.1)
    ]

pub before-again : (a b : Entry) → (a.day < b.day) ⊎ ((a.day ≡ b.day) × (a.seq < b.seq)) → is_before a b ≡ true
before-again a b (inl less) =
    ap (λ x. x || (eqb a.day b.day && ltb a.seq b.seq)) (Rattle.std.proofs.lemmas.Bool.lt-ltb a.day b.day less)
before-again a b (inr tie) = before-from a b (omega (arith, tie.0)) tie.1

pub before-asym : (a b : Entry) → is_before a b ≡ true → is_before b a ≡ true → ⊥
before-asym a b one other =
    elim (before-parts a b one) [
      | inl less ↦ elim (before-parts b a other) [
        | inl more ↦ omega (arith, less, more)
        | inr tie ↦ omega (
          arith,
          less,
          tie.0,
        )
      ]
      | inr tie ↦ elim (before-parts b a other) [
        | inl more ↦ omega (arith, tie.0, more)
        | inr tie2 ↦ omega (
          arith,
          tie.1,
          tie2.1,
        )
      ]
    ]

pub before-trans : (a b c : Entry) → is_before a b ≡ true → is_before b c ≡ true → is_before a c ≡ true
before-trans a b c one other =
    before-again a c
    (elim (before-parts a b one) [
      | inl less ↦ elim (before-parts b c other) [
        | inl more ↦ inl (omega (arith, less, more))
        | inr tie ↦ inl
            (omega (arith, less, tie.0))
      ]
      | inr tie ↦ elim (before-parts b c other) [
        | inl more ↦ inl (omega (arith, tie.0, more))
        | inr tie2 ↦ inr
            (omega (arith, tie.0, tie2.0), omega (arith, tie.1, tie2.1))
      ]
    ])

-- of two entries with numbers apart one comes before the other
before-other : (a b : Entry) → is_before a b ≡ false → a.seq ≢ b.seq → is_before b a ≡ true
before-other a b not_before apart =
    elim (cases_lt b.day a.day) [
      | inl less ↦ before-again b a (inl less)
      | inr more ↦
          elim (cases_lt a.day b.day) [
            | inl earlier ↦ absurd (true≢false (sym (before-again a b (inl earlier)) ∙ not_before))
            | inr same ↦
                elim (cases_lt a.seq b.seq) [
                  | inl first ↦ absurd (true≢false (sym (before-again a b (inr (omega arith, first))) ∙ not_before))
                  | inr last ↦ before-again b a (inr (omega arith, omega (arith, last, apart)))
                ]
          ]
    ]

pub precedes-among : (a x : Entry) (xs : List Entry) → Precedes a xs → IsAmong x xs → is_before a x ≡ true
precedes-among a x [] before among = absurd among
precedes-among a x (y ∷ ys) before (inl is) = ap (is_before a) is ∙ before.0
precedes-among a x (y ∷ ys) before (inr later) = precedes-among a x ys before.1 later

-- two ascending lists of the same entries are one
ascending-unique : (xs ys : List Entry) → Ascends xs → Ascends ys → ((e : Entry) → IsAmong e xs → IsAmong e ys)
    → ((e : Entry) → IsAmong e ys → IsAmong e xs) → xs ≡ ys
ascending-unique [] [] up_x up_y to from = refl
ascending-unique [] (y ∷ ys) up_x up_y to from = absurd (from y (inl refl))
ascending-unique (x ∷ xs) [] up_x up_y to from = absurd (to x (inl refl))
ascending-unique (x ∷ xs) (y ∷ ys) up_x up_y to from =
    let head : x ≡ y =
    elim (to x (inl refl)) [
      | inl is ↦ is
      | inr in_ys ↦
          elim (from y (inl refl)) [
            | inl is ↦ sym is
            | inr in_xs ↦ absurd (before-asym y x (precedes-among y x ys up_y.0 in_ys)
                (precedes-among x y xs up_x.0 in_xs))
          ]
    ] in
    let tail : xs ≡ ys =
    ascending-unique xs ys up_x.1 up_y.1
    (λ e among. elim (to e (inr among)) [
      | inl is ↦ let own : is_before x x ≡ true =
          ap (is_before x) (head ∙ sym is) ∙ precedes-among x e xs up_x.0 among in absurd (before-asym x x own own)
      | inr later ↦ later
    ])
    (λ e among. elim (from e (inr among)) [
      | inl is ↦ let own : is_before y y ≡ true =
          ap (is_before y) (sym head ∙ sym is) ∙ precedes-among y e ys up_y.0 among in absurd (before-asym y y own own)
      | inr later ↦ later
    ]) in
    ap (λ z. z ∷ xs) head ∙ ap (λ zs. y ∷ zs) tail

-- an entry put into its place
among-placed : (e x : Entry) (xs : List Entry) → IsAmong e (order_with x xs) → (e ≡ x) ⊎ IsAmong e xs
among-placed e x [] among = among
among-placed e x (y ∷ ys) among =
    cond_both (is_before x y) (x ∷ y ∷ ys) (y ∷ order_with x ys) (λ l. IsAmong e l → (e ≡ x) ⊎ IsAmong e (y ∷ ys))
    (λ _ among. among)
    (λ _ among. elim among [
      | inl is ↦ inr (inl is)
      | inr later ↦ elim (among-placed e x ys later) [ inl is ↦ inl is | inr rest ↦ inr (inr rest) ]
    ]) among

placed-among : (e x : Entry) (xs : List Entry) → (e ≡ x) ⊎ IsAmong e xs → IsAmong e (order_with x xs)
placed-among e x [] among = among
placed-among e x (y ∷ ys) among =
    cond_both (is_before x y) (x ∷ y ∷ ys) (y ∷ order_with x ys) (IsAmong e)
    (λ _. among)
    (λ _. elim among [
      | inl is ↦ inr (placed-among e x ys (inl is))
      | inr rest ↦ elim rest [ inl is ↦ inl is | inr later ↦ inr (placed-among e x ys (inr later)) ]
    ])

precedes-all : (a b : Entry) (xs : List Entry) → is_before a b ≡ true → Precedes b xs → Precedes a xs
precedes-all a b [] one all = tt
precedes-all a b (x ∷ xs) one all = (before-trans a b x one all.0, precedes-all a b xs one all.1)

precedes-placed : (a x : Entry) (xs : List Entry) → is_before a x ≡ true → Precedes a xs → Precedes a (order_with x xs)
precedes-placed a x [] one all = (one, tt)
precedes-placed a x (y ∷ ys) one all =
    cond_both (is_before x y) (x ∷ y ∷ ys) (y ∷ order_with x ys) (Precedes a)
    (λ _. (one, all)) (λ _. (all.0, precedes-placed a x ys one all.1))

ascends-placed : (x : Entry) (xs : List Entry) → Ascends xs → ((e : Entry) → IsAmong e xs → e.seq < x.seq)
    → Ascends (order_with x xs)
ascends-placed x [] up earlier = (tt, tt)
ascends-placed x (y ∷ ys) up earlier =
    let number = earlier y (inl refl) in
    cond_both (is_before x y) (x ∷ y ∷ ys) (y ∷ order_with x ys) Ascends
    (λ first. ((first, precedes-all x y ys first up.0), up))
    (λ later. (
      precedes-placed y x ys (before-other x y later (λ same. omega (arith, number, same))) up.0,
      ascends-placed x ys up.1 (λ e among. earlier e (inr among)),
    ))

-- numbered from k in order
abbrev Numbered : ℕ → List Entry → Type 0
Numbered k [] = Unit {0}
Numbered k (x ∷ xs) = (x.seq ≡ k) × Numbered (k + 1) xs

numbered-from : (k : ℕ) (entries : List Entry) → ((i : ℕ) → i < length entries → (entry_at entries i).seq ≡ k + i)
    → Numbered k entries
numbered-from k [] numbers = tt
numbered-from k (x ∷ xs) numbers = (
  let first = numbers 0 (omega arith) in omega (arith, first),
  numbered-from (k + 1) xs (λ i within. let next = numbers (suc i) (omega arith) in omega (arith, next)),
)

-- what a fold over entries has placed: in order, and those placed before with those not reversed
record IsPlaced (order xs done : List Entry) : Type 0 where
  up : Ascends done
  from : (e : Entry) → IsAmong e done → IsAmong e order ⊎ (IsAmong e xs × (e.reversed ≡ false))
  kept : (e : Entry) → IsAmong e order → IsAmong e done
  to : (e : Entry) → IsAmong e xs → e.reversed ≡ false → IsAmong e done

fold-placed : (k : ℕ) (order xs : List Entry) → Ascends order → ((e : Entry) → IsAmong e order → e.seq < k)
    → Numbered k xs → IsPlaced order xs (fold with_entry order xs)
fold-placed k order [] up earlier numbers = record {
  up = up;
  from = λ e among. inl among;
  kept = λ e among. among;
  to = λ e among stands. absurd among;
}
fold-placed k order (x ∷ xs) up earlier numbers =
    elim (cases_Bool x.reversed) [
      | inl reversed ↦
          let same : with_entry order x ≡ order =
          Rattle.std.proofs.lemmas.Bool.cond-true x.reversed order (order_with x order) reversed in
          let rest : IsPlaced order xs (fold with_entry order xs) =
          fold-placed (k + 1) order xs up (λ e among. let less = earlier e among in omega (arith, less)) numbers.1 in
          subst (λ (o : List Entry). IsPlaced order (x ∷ xs) (fold with_entry o xs)) (sym same)
          (record {
            up = rest.up;
            from = λ e among. elim (rest.from e among) [
              | inl before ↦ inl before
              | inr later ↦ inr (
                inr later.0,
                later.1,
              )
            ];
            kept = rest.kept;
            to = λ e among stands. elim among [
              | inl is ↦ absurd (true≢false (sym reversed ∙ ap (λ (y : Entry). y.reversed) (sym is) ∙ stands))
              | inr later ↦ rest.to e later stands
            ];
          })
      | inr stands_x ↦
          let same : with_entry order x ≡ order_with x order =
          Rattle.std.proofs.lemmas.Bool.cond-false x.reversed order (order_with x order) stands_x in
          let rest : IsPlaced (order_with x order) xs (fold with_entry (order_with x order) xs) =
          fold-placed (k + 1) (order_with x order) xs (ascends-placed x order up (λ e among. let less = earlier e
          among in omega (arith, less, numbers.0)))
          (λ e among. elim (among-placed e x order among) [
            | inl is ↦ let own : e.seq ≡ x.seq = ap (λ (y : Entry). y.seq) is in omega (arith, own, numbers.0)
            | inr before ↦ let less = earlier e before in omega (arith, less)
          ]) numbers.1 in
          subst (λ (o : List Entry). IsPlaced order (x ∷ xs) (fold with_entry o xs)) (sym same)
          (record {
            up = rest.up;
            from = λ e among. elim (rest.from e among) [
              | inl placed_before ↦ elim (among-placed e x order placed_before) [
                | inl is ↦ inr (inl is, ap (λ (y : Entry). y.reversed) is ∙ stands_x)
                | inr before ↦ inl before
              ]
              | inr later ↦ inr (inr later.0, later.1)
            ];
            kept = λ e among. rest.kept e (placed-among e x order (inr among));
            to = λ e among stands. elim among [
              | inl is ↦ rest.kept e (placed-among e x order (inl is))
              | inr later ↦ rest.to e later stands
            ];
          })
    ]

standing-placed : (entries : List Entry) → ((i : ℕ) → i < length entries → (entry_at entries i).seq ≡ i + 1)
    → IsStandingOf entries (standing_entries entries)
standing-placed entries numbers =
    let all : IsPlaced [] entries (standing_entries entries) =
    fold-placed 1 [] entries tt (λ e among. absurd among)
    (numbered-from 1 entries (λ i within. let number = numbers i within in omega (arith, number))) in
    record {
      ascends = all.up;
      from = λ e among. elim (all.from e among) [ inl before ↦ absurd before | inr later ↦ later ];
      to = all.to;
    }

pub standing-alone : (entries : List Entry) → ((i : ℕ) → i < length entries → (entry_at entries i).seq ≡ i + 1)
    → (others : List Entry) → IsStandingOf entries others → others ≡ standing_entries entries
standing-alone entries numbers others is =
    let own = standing-placed entries numbers in
    ascending-unique others (standing_entries entries) is.ascends own.ascends
    (λ e among. let both = is.from e among in own.to e both.0 both.1)
    (λ e among. let both = own.from e among in is.to e both.0 both.1)

pub standing-is-one : StandingIsOne
standing-is-one n day entries are = (standing-placed entries are.numbers, standing-alone entries are.numbers)
