-- The day that a text names, among the days that may be entered.
use Rattle.std.proofs.Common.{◌≡◌, inl, inr, ℕ, zero, suc, ◌+◌, ◌≤◌, ◌<◌, Bool, true, false, cond, List, Option, Some}
use Rattle.std.proofs.Common.{None, refl, sym, ap, ◌∙◌, arith}
use Rattle.std.specs.Prelude.{IfSome}
use Rattle.std.specs.List.{find, range_with_len}
use Rattle.std.specs.Str.{bytes_eq}
use Rattle.std.proofs.Math.Nat.{eq-or-lt_of_le}
use Rattle.std.proofs.lemmas.Slice.Eq.{bytes_eq-Decides}
use Rattle.mf_base.specs.DayText.{day_text}
use Rattle.mf_wire_requests.specs.Bodies.{day_among}

-- what is found of numbers from a on passes, and is one of them
found_step : (p : ℕ → Bool) (n a d : ℕ) (b : Bool) (rest : Option ℕ) → (rest ≡ Some d → (p d ≡ true)
    × (d < (a + 1) + n)) → p a ≡ b → cond b (Some a) rest ≡ Some d → (p d ≡ true) × (d < a + suc n)
found_step p n a d true rest more t h = let same : a ≡ d = cc in (ap p (sym same) ∙ t, omega arith)
found_step p n a d false rest more t h = let m = more h in (m.0, omega (arith, m.1))

found_passes : (p : ℕ → Bool) (n a d : ℕ) → find p (range_with_len a n) ≡ Some d → (p d ≡ true) × (d < a + n)
found_passes p zero a d e = absurd (cc)
found_passes p (suc n) a d e = found_step p n a d (p a) (find p (range_with_len (a + 1) n)) (found_passes p n (a + 1) d)
    refl e

-- where nothing is found, none of them passes
none_step : (p : ℕ → Bool) (n a d : ℕ) (b : Bool) (rest : Option ℕ) → (rest ≡ None → a + 1 ≤ d → d < (a + 1) + n
    → p d ≡ false) → p a ≡ b → a ≤ d → d < a + suc n → cond b (Some a) rest ≡ None → p d ≡ false
none_step p n a d true rest more t low high h = absurd (cc)
none_step p n a d false rest more t low high h = elim (eq-or-lt_of_le low) [
  | inl same ↦ ap p (sym same) ∙ t
  | inr above ↦ more h (omega (arith, above)) (omega arith)
]

none_passes : (p : ℕ → Bool) (n a d : ℕ) → find p (range_with_len a n) ≡ None → a ≤ d → d < a + n → p d ≡ false
none_passes p zero a d e low high = absurd (omega arith)
none_passes p (suc n) a d e low high = none_step p n a d (p a) (find p (range_with_len (a + 1) n))
    (λ none l h. none_passes p n (a + 1) d none l h) refl low high e

-- a reader that finds each of the days by its text, and nothing else, reads that day
pub day_among_is : (count : ℕ) (text : List ℕ) (r : Option ℕ) → IfSome r (λ day. (day < count) × (text ≡ day_text day))
    → ((day : ℕ) → day < count → text ≡ day_text day → r ≡ Some day) → r ≡ day_among count text
unfolding day_among
day_among_is count text r some every = step (find (λ day. bytes_eq text (day_text day)) (range_with_len 0 count)) refl
  where
    read : (o : Option ℕ) → r ≡ o → find (λ day. bytes_eq text (day_text day)) (range_with_len 0 count) ≡ None
        → IfSome o (λ day. (day < count) × (text ≡ day_text day)) → o ≡ None
    read None e none s = refl
    read (Some day) e none s =
        let no = none_passes (λ day. bytes_eq text (day_text day)) count 0 day none (omega arith)
        (omega (arith, s.0)) in
        let yes = (bytes_eq-Decides text (day_text day)).1 s.1 in
        absurd (cc (no, yes))

    step : (o : Option ℕ) → find (λ day. bytes_eq text (day_text day)) (range_with_len 0 count) ≡ o → r ≡ o
    step None e = read r refl e some
    step (Some day) e =
        let f = found_passes (λ day. bytes_eq text (day_text day)) count 0 day e in
        every day (omega (arith, f.1)) ((bytes_eq-Decides text (day_text day)).0 f.0)

-- so a day that is found is among them
pub day_among_below : (count : ℕ) (text : List ℕ) → IfSome (day_among count text) (λ day. day < count)
unfolding day_among
day_among_below count text = step (find (λ day. bytes_eq text (day_text day)) (range_with_len 0 count)) refl
  where
    step : (o : Option ℕ) → find (λ day. bytes_eq text (day_text day)) (range_with_len 0 count) ≡ o
        → IfSome o (λ day. day < count)
    step None e = tt
    step (Some day) e = let found = found_passes (λ day. bytes_eq text (day_text day)) count 0 day e in
        omega (arith, found.1)
