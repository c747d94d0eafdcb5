-- Lines play one after the other.
use Rattle.std.proofs.Common.{◌≡◌, ◌⊎◌, inl, inr, ℕ, zero, suc, List, [], ◌∷◌, ◌++◌, Some, None, refl, sym}
use Rattle.std.proofs.Common.{ap, ◌∙◌, subst}
use Rattle.mf_model.specs.Institution.{Institution, JournalLine}
use Rattle.mf_play.specs.declared.stop.Stop.{Stop}
use Rattle.mf_play.specs.Play.{IsPlayed, StopsFor, PlaysTo, StopsAt}
use Rattle.mf_play.proofs.OneLine.{one_stop, not_both, one_next, judged}

-- to one institution
pub one_play : (i j k : Institution) (lines : List JournalLine) → PlaysTo i lines j → PlaysTo i lines k → j ≡ k
one_play i j k [] p q = p ∙ sym q
one_play i j k (l ∷ ls) p q =
    one_play q.0 j k ls (subst (λ m. PlaysTo m ls j) (one_next i p.0 q.0 l p.1 q.1) p.2) q.2

-- what stops further on
abbrev pub StopsOn : Institution → List JournalLine → ℕ → Stop → Type 0
StopsOn i [] place why = ⊥
StopsOn i (l ∷ ls) zero why = StopsFor i l why
StopsOn i (l ∷ ls) (suc place) why = (mid : Institution) × IsPlayed i l mid × StopsOn mid ls place why

pub stops_on : (i : Institution) (lines : List JournalLine) (place : ℕ) (why : Stop) → StopsAt i lines place why
    → StopsOn i lines place why
stops_on i [] place why s = let none : None ≡ Some s.line = s.there in absurd (cc)
stops_on i (l ∷ ls) zero why s =
    let there : Some l ≡ Some s.line = s.there in
    let same : s.line ≡ l = cc in
    subst (λ m. StopsFor m l why) s.before (subst (λ x. StopsFor s.reached x why) same s.stops)
stops_on i (l ∷ ls) (suc place) why s = (
  s.before.0,
  s.before.1,
  stops_on s.before.0 ls place why (record {
    reached = s.reached;
    before = s.before.2;
    line = s.line;
    there = s.there;
    stops = s.stops;
  }),
)

pub stops_at : (i : Institution) (lines : List JournalLine) (place : ℕ) (why : Stop) → StopsOn i lines place why
    → StopsAt i lines place why
stops_at i [] place why s = absurd s
stops_at i (l ∷ ls) zero why s = record { reached = i; before = refl; line = l; there = refl; stops = s }
stops_at i (l ∷ ls) (suc place) why s =
    let rest = stops_at s.0 ls place why s.2 in
    record {
      reached = rest.reached;
      before = (s.0, s.1, rest.before);
      line = rest.line;
      there = rest.there;
      stops = rest.stops;
    }

-- at one place and for one thing
one_place_on : (i : Institution) (lines : List JournalLine) (place other : ℕ) (why because : Stop)
    → StopsOn i lines place why → StopsOn i lines other because → (place ≡ other) × (why ≡ because)
one_place_on i [] place other why because s t = absurd s
one_place_on i (l ∷ ls) zero zero why because s t = (refl, one_stop i l why because s t)
one_place_on i (l ∷ ls) zero (suc other) why because s t = absurd (not_both i t.0 l why t.1 s)
one_place_on i (l ∷ ls) (suc place) zero why because s t = absurd (not_both i s.0 l because s.1 t)
one_place_on i (l ∷ ls) (suc place) (suc other) why because s t =
    let rest = one_place_on t.0 ls place other why because
    (subst (λ m. StopsOn m ls place why) (one_next i s.0 t.0 l s.1 t.1) s.2) t.2 in
    (ap suc rest.0, rest.1)

pub one_place : (i : Institution) (lines : List JournalLine) (place other : ℕ) (why because : Stop)
    → StopsAt i lines place why → StopsAt i lines other because → (place ≡ other) × (why ≡ because)
one_place i lines place other why because s t =
    one_place_on i lines place other why because (stops_on i lines place why s) (stops_on i lines other because t)

apart_on : (i j : Institution) (lines : List JournalLine) (place : ℕ) (why : Stop) → PlaysTo i lines j
    → StopsOn i lines place why → ⊥
apart_on i j [] place why p s = s
apart_on i j (l ∷ ls) zero why p s = not_both i p.0 l why p.1 s
apart_on i j (l ∷ ls) (suc place) why p s =
    apart_on s.0 j ls place why (subst (λ m. PlaysTo m ls j) (one_next i p.0 s.0 l p.1 s.1) p.2) s.2

-- what plays doesn't stop
pub apart : (i j : Institution) (lines : List JournalLine) (place : ℕ) (why : Stop) → PlaysTo i lines j
    → StopsAt i lines place why → ⊥
apart i j lines place why p s = apart_on i j lines place why p (stops_on i lines place why s)

-- what plays or stops
pub either : (i : Institution) (lines : List JournalLine)
    → ((j : Institution) × PlaysTo i lines j) ⊎ ((place : ℕ) × (why : Stop) × StopsAt i lines place why)
either i [] = inl (i, refl)
either i (l ∷ ls) = elim (judged i l) [
  | inl p ↦ elim (either p.0 ls) [
    | inl q ↦ inl (q.0, (p.0, p.1, q.1))
    | inr s ↦ inr (suc s.0, s.1, stops_at i (l ∷ ls) (suc s.0) s.1 (p.0, p.1, stops_on p.0 ls s.0 s.1 s.2))
  ]
  | inr s ↦ inr (0, s.0, stops_at i (l ∷ ls) 0 s.0 s.1)
]

-- in parts
pub joined : (i j k : Institution) (lines more : List JournalLine) → PlaysTo i lines j → PlaysTo j more k
    → PlaysTo i (lines ++ more) k
joined i j k [] more p q = subst (λ m. PlaysTo m more k) p q
joined i j k (l ∷ ls) more p q = (p.0, p.1, joined p.0 j k ls more p.2 q)

pub parted : (i k : Institution) (lines more : List JournalLine) → PlaysTo i (lines ++ more) k
    → (j : Institution) × PlaysTo i lines j × PlaysTo j more k
parted i k [] more p = (i, refl, p)
parted i k (l ∷ ls) more p =
    let rest = parted p.0 k ls more p.2 in
    (rest.0, (p.0, p.1, rest.1), rest.2)
