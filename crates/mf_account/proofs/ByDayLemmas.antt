-- The standing entries sorted by day, those of one day by number, are the standing entries in order.
use Rattle.std.proofs.Common.{◌≡◌, ℕ, zero, suc, ◌+◌, ◌<◌, ◌≤◌, Bool, true, false, cond, ◌==◌, true≢false, List, []}
use Rattle.std.proofs.Common.{◌∷◌, ◌++◌, map, filter, length, get_or, take, inl, inr, arith, refl, ◌∙◌, ap, sym, subst}
use Rattle.std.specs.List.{AllByRecursion, All}
use Rattle.std.specs.Ordering.{is_lt, nat_cmp}
use Rattle.std.specs.List.Sorted.{IsNonDecreasingBy, IsPermutation, IsStableByKey, ties}
use Rattle.std.proofs.lemmas.Bool.Decides.{nat_tests}
use Rattle.std.proofs.lemmas.List.{length-take-le, take_more, append-nil}
use Rattle.std.proofs.lemmas.List.Elements.{All-from_recursion, recursion_from_All}
use Rattle.std.proofs.lemmas.List.Sorted.{All-permutation, IsPermutation-sym}
use Rattle.mf_account.specs.declared.entry.Entry.{Entry}
use Rattle.mf_account.specs.declared.replay.Place.{Place}
use Rattle.mf_account.specs.Standing.{standing_entries, no_entry, entry_at, entries_at, places_from}
use Rattle.mf_account.specs.StandingLaw.{IsAmong, Precedes, Ascends, IsStandingOf}
use Rattle.mf_account.proofs.StandingIsOne.{before-again, standing-alone}

-- ---- what is known of the places

-- the places of entries that are there and stand, f reading the entries
abbrev IsPlaceIn : (ℕ → Entry) → ℕ → ℕ → Place → Type 0
IsPlaceIn f low high p = (low ≤ p.at) × (p.at < high) × ((f p.at).day ≡ p.day) × ((f p.at).reversed ≡ false)

wider : (f : ℕ → Entry) (low high : ℕ) (ps : List Place) → AllByRecursion (IsPlaceIn f (low + 1) high) ps
    → AllByRecursion (IsPlaceIn f low high) ps
wider f low high [] all = tt
wider f low high (p ∷ ps) all = (
  (
    let above : low + 1 ≤ p.at = all.0.0 in omega (arith, above),
    all.0.1,
    all.0.2,
    all.0.3,
  ),
  wider f low high ps all.1,
)

-- f reads these entries from the place k on
abbrev Reads : (ℕ → Entry) → ℕ → List Entry → Type 0
Reads f k es = (i : ℕ) → i < length es → f (k + i) ≡ get_or es i no_entry

reads_rest : (f : ℕ → Entry) (k : ℕ) (e : Entry) (es : List Entry) → Reads f k (e ∷ es) → Reads f (k + 1) es
reads_rest f k e es reads i within = let at : k + 1 + i ≡ k + suc i =
    omega arith in ap f at ∙ reads (suc i) (omega (arith, within))

reads_first : (f : ℕ → Entry) (k : ℕ) (e : Entry) (es : List Entry) → Reads f k (e ∷ es) → f k ≡ e
reads_first f k e es reads = let at : k ≡ k + 0 = omega arith in ap f at ∙ reads 0 (omega arith)

places_are : (f : ℕ → Entry) (k n : ℕ) (es : List Entry) → k + length es ≡ n → Reads f k es
    → AllByRecursion (IsPlaceIn f k n) (places_from k es)
places_are f k n [] size reads = tt
places_are f k n (e ∷ es) size reads = go e.reversed refl (wider f k n (places_from (k + 1) es)
    (places_are f (k + 1) n es (omega (arith, size)) (reads_rest f k e es reads)))
  where
    go : (b : Bool) → e.reversed ≡ b → AllByRecursion (IsPlaceIn f k n) (places_from (k + 1) es)
        → AllByRecursion (IsPlaceIn f k n) (cond b (places_from (k + 1) es) (record { day = e.day; at = k }
        ∷ places_from (k + 1) es))
    go true is rest = rest
    go false is rest =
        let own = reads_first f k e es reads in (
          (omega arith, omega (arith, size), ap (λ (x : Entry). x.day) own, ap (λ (x : Entry). x.reversed) own ∙ is),
          rest,
        )

-- each place is before all later ones
abbrev AtsRise : List Place → Type 0
AtsRise [] = Unit {0}
AtsRise (p ∷ ps) = AllByRecursion (λ (q : Place). p.at < q.at) ps × AtsRise ps

above : (f : ℕ → Entry) (k n : ℕ) (p : Place) (ps : List Place) → p.at ≡ k → AllByRecursion (IsPlaceIn f (k + 1) n) ps
    → AllByRecursion (λ (q : Place). p.at < q.at) ps
above f k n p [] is all = tt
above f k n p (q ∷ qs) is all = (let low : k + 1 ≤ q.at = all.0.0 in omega (arith, is, low), above f k n p qs is all.1)

places_rise : (f : ℕ → Entry) (k n : ℕ) (es : List Entry) → k + length es ≡ n → Reads f k es
    → AtsRise (places_from k es)
places_rise f k n [] size reads = tt
places_rise f k n (e ∷ es) size reads =
    let more = reads_rest f k e es reads in
    go e.reversed (places_are f (k + 1) n es (omega (arith, size)) more)
    (places_rise f (k + 1) n es (omega (arith, size)) more)
  where
    go : (b : Bool) → AllByRecursion (IsPlaceIn f (k + 1) n) (places_from (k + 1) es) → AtsRise (places_from (k + 1) es)
        → AtsRise (cond b (places_from (k + 1) es) (record { day = e.day; at = k } ∷ places_from (k + 1) es))
    go true all rest = rest
    go false all rest = (above f k n (record { day = e.day; at = k }) (places_from (k + 1) es) refl all, rest)

all_filter : (P : Place → Type 0) (b : Place → Bool) (ps : List Place) → AllByRecursion P ps
    → AllByRecursion P (filter b ps)
all_filter P b [] all = tt
all_filter P b (p ∷ ps) all = go (b p) (all_filter P b ps all.1)
  where
    go : (c : Bool) → AllByRecursion P (filter b ps) → AllByRecursion P (cond c (p ∷ filter b ps) (filter b ps))
    go true rest = (all.0, rest)
    go false rest = rest

filter_rises : (b : Place → Bool) (ps : List Place) → AtsRise ps → AtsRise (filter b ps)
filter_rises b [] rise = tt
filter_rises b (p ∷ ps) rise = go (b p) (all_filter (λ (q : Place). p.at < q.at) b ps rise.0) (filter_rises b ps rise.1)
  where
    go : (c : Bool) → AllByRecursion (λ (q : Place). p.at < q.at) (filter b ps) → AtsRise (filter b ps)
        → AtsRise (cond c (p ∷ filter b ps) (filter b ps))
    go true all rest = (all, rest)
    go false all rest = rest

-- ---- sorted by day

abbrev DaysRise : List Place → Type 0
DaysRise [] = Unit {0}
DaysRise (p ∷ ps) = AllByRecursion (λ (q : Place). p.day ≤ q.day) ps × DaysRise ps

all_later : (p : Place) (ps : List Place) → ((k : ℕ) (d : Place) → k < length ps → p.day ≤ (get_or ps k d).day)
    → AllByRecursion (λ (q : Place). p.day ≤ q.day) ps
all_later p [] each = tt
all_later p (q ∷ qs) each =
    (each 0 q (omega arith), all_later p qs (λ k d below. each (suc k) d (omega (arith, below))))

days_rise : (ps : List Place) → IsNonDecreasingBy (λ (p : Place). p.day) ps → DaysRise ps
days_rise [] sorted = tt
days_rise (p ∷ ps) sorted = (
  all_later p ps (λ k d below. sorted 0 (suc k) d (omega arith) (omega (arith, below))),
  days_rise ps (λ i j d le below. sorted (suc i) (suc j) d (omega (arith, le)) (omega (arith, below))),
)

-- those of one day stand by place
abbrev TiesRise : List Place → Type 0
TiesRise ps = (day : ℕ) → AtsRise (filter (λ (p : Place). p.day == day) ps)

abbrev of_day : ℕ → Place
of_day day = record { day = day; at = 0 }

tied : (day : ℕ) (p : Place) → ties (λ (a b : Place). is_lt (nat_cmp a.day b.day)) (of_day day) p ≡ (p.day == day)
tied day p = grind (arith, nat_tests)

filter_same : (a b : Place → Bool) → ((p : Place) → a p ≡ b p) → (ps : List Place) → filter a ps ≡ filter b ps
filter_same a b same [] = refl
filter_same a b same (p ∷ ps) = (λ t. cond (same p t) (p ∷ filter_same a b same ps t) (filter_same a b same ps t))

ties_rise : (ps sorted : List Place) → IsStableByKey (λ (p : Place). p.day) nat_cmp ps sorted → AtsRise ps
    → TiesRise sorted
ties_rise ps sorted stable rise day =
    let test = ties (λ (a b : Place). is_lt (nat_cmp a.day b.day)) (of_day day) in
    let same : filter (λ (p : Place). p.day == day) sorted ≡ filter test ps =
    sym (filter_same test (λ (p : Place). p.day == day) (tied day) sorted) ∙ stable (of_day day) in
    subst AtsRise (sym same) (filter_rises test ps rise)

ties_rest : (p : Place) (ps : List Place) → TiesRise (p ∷ ps) → TiesRise ps
ties_rest p ps rise day = go (p.day == day) (rise day)
  where
    go : (c : Bool) → AtsRise (cond c (p ∷ filter (λ (q : Place). q.day == day) ps)
        (filter (λ (q : Place). q.day == day) ps)) → AtsRise (filter (λ (q : Place). q.day == day) ps)
    go true up = up.1
    go false up = up

ties_first : (p : Place) (ps : List Place) → TiesRise (p ∷ ps) → AllByRecursion (λ (q : Place). p.at < q.at)
    (filter (λ (q : Place). q.day == p.day) ps)
ties_first p ps rise =
    let own : (p.day == p.day) ≡ true = grind (arith, nat_tests) in
    (subst (λ b. AtsRise (cond b (p ∷ filter (λ (q : Place). q.day == p.day) ps)
    (filter (λ (q : Place). q.day == p.day) ps))) own (rise p.day)).0

-- ---- the entries at such places

abbrev entries_of : (ℕ → Entry) → List Place → List Entry
entries_of f ps = map (λ (p : Place). f p.at) ps

abbrev Numbered : (ℕ → Entry) → ℕ → Type 0
Numbered f n = (i : ℕ) → i < n → (f i).seq ≡ i + 1

precedes_all : (f : ℕ → Entry) (n : ℕ) (p : Place) (ps : List Place) → Numbered f n → IsPlaceIn f 0 n p
    → AllByRecursion (IsPlaceIn f 0 n) ps → AllByRecursion (λ (q : Place). p.day ≤ q.day) ps
    → AllByRecursion (λ (q : Place). p.at < q.at) (filter (λ (q : Place). q.day == p.day) ps) → Precedes (f p.at)
    (entries_of f ps)
precedes_all f n p [] numbers own all days up = tt
precedes_all f n p (q ∷ qs) numbers own all days up =
    go (q.day == p.day) refl up (precedes_all f n p qs numbers own all.1 days.1)
  where
    go : (c : Bool) → (q.day == p.day) ≡ c → AllByRecursion (λ (r : Place). p.at < r.at)
        (cond c (q ∷ filter (λ (r : Place). r.day == p.day) qs) (filter (λ (r : Place). r.day == p.day) qs))
        → (AllByRecursion (λ (r : Place). p.at < r.at) (filter (λ (r : Place). r.day == p.day) qs) → Precedes (f p.at)
        (entries_of f qs)) → Precedes (f p.at) (entries_of f (q ∷ qs))
    go true same up rest =
        let tie : q.day ≡ p.day = grind (arith, nat_tests) in
        let less : p.at < q.at = up.0 in
        let own_number : (f p.at).seq ≡ p.at + 1 = numbers p.at own.1 in
        let number : (f q.at).seq ≡ q.at + 1 = numbers q.at all.0.1 in
        let days_same : (f p.at).day ≡ (f q.at).day = own.2 ∙ sym tie ∙ sym all.0.2 in
        (before-again (f p.at) (f q.at) (inr (days_same, omega (arith, own_number, number, less))), rest up.1)
    go false apart up rest =
        let le : p.day ≤ q.day = days.0 in
        let other : p.day < q.day = grind (arith, nat_tests) in
        let day_p : (f p.at).day ≡ p.day = own.2 in
        let day_q : (f q.at).day ≡ q.day = all.0.2 in
        let less : (f p.at).day < (f q.at).day = omega (arith, day_p, day_q, other) in
        (before-again (f p.at) (f q.at) (inl less), rest up)

ascends : (f : ℕ → Entry) (n : ℕ) (ps : List Place) → Numbered f n → AllByRecursion (IsPlaceIn f 0 n) ps → DaysRise ps
    → TiesRise ps → Ascends (entries_of f ps)
ascends f n [] numbers all days tie = tt
ascends f n (p ∷ ps) numbers all days tie = (
  precedes_all f n p ps numbers all.0 all.1 days.0 (ties_first p ps tie),
  ascends f n ps numbers all.1 days.1 (ties_rest p ps tie),
)

among_at : (es : List Entry) (i : ℕ) → i < length es → IsAmong (get_or es i no_entry) es
among_at [] i within = absurd (omega (arith, within))
among_at (e ∷ es) zero within = inl refl
among_at (e ∷ es) (suc i) within = inr (among_at es i (omega (arith, within)))

from_places : (es : List Entry) (ps : List Place) → AllByRecursion (IsPlaceIn (entry_at es) 0 (length es)) ps
    → (e : Entry) → IsAmong e (entries_of (entry_at es) ps) → IsAmong e es × (e.reversed ≡ false)
from_places es [] all e among = absurd among
from_places es (p ∷ ps) all e (inl is) = (
  subst (λ (x : Entry). IsAmong x es) (sym is) (among_at es p.at all.0.1),
  ap (λ (x : Entry). x.reversed) is
      ∙ all.0.3,
)
from_places es (p ∷ ps) all e (inr later) = from_places es ps all.1 e later

-- each standing entry has a place
to_places : (f : ℕ → Entry) (k : ℕ) (es : List Entry) → Reads f k es → (e : Entry) → IsAmong e es → e.reversed ≡ false
    → IsAmong e (entries_of f (places_from k es))
to_places f k [] reads e among stands = absurd among
to_places f k (x ∷ es) reads e among stands =
    go x.reversed refl among (λ later. to_places f (k + 1) es (reads_rest f k x es reads) e later stands)
  where
    go : (b : Bool) → x.reversed ≡ b → IsAmong e (x ∷ es)
        → (IsAmong e es → IsAmong e (entries_of f (places_from (k + 1) es)))
        → IsAmong e (entries_of f (cond b (places_from (k + 1) es) (record { day = x.day; at = k }
        ∷ places_from (k + 1) es)))
    go true is (inl same) rest = absurd (true≢false (sym is ∙ ap (λ (y : Entry). y.reversed) (sym same) ∙ stands))
    go true is (inr later) rest = rest later
    go false is (inl same) rest = inl (same ∙ sym (reads_first f k x es reads))
    go false is (inr later) rest = inr (rest later)

all_among : (f : ℕ → Entry) (P : Entry → Type 0) (ps : List Place) → ((e : Entry) → IsAmong e (entries_of f ps) → P e)
    → AllByRecursion (λ (q : Place). P (f q.at)) ps
all_among f P [] into = tt
all_among f P (q ∷ qs) into = (into (f q.at) (inl refl), all_among f P qs (λ e later. into e (inr later)))

among_of_all : (f : ℕ → Entry) (P : Entry → Type 0) (ps : List Place) → AllByRecursion (λ (q : Place). P (f q.at)) ps
    → (e : Entry) → IsAmong e (entries_of f ps) → P e
among_of_all f P [] all e among = absurd among
among_of_all f P (p ∷ ps) all e (inl is) = subst P (sym is) all.0
among_of_all f P (p ∷ ps) all e (inr later) = among_of_all f P ps all.1 e later

same_entries : (f : ℕ → Entry) (ps sorted : List Place) → IsPermutation ps sorted → (e : Entry)
    → IsAmong e (entries_of f ps) → IsAmong e (entries_of f sorted)
same_entries f ps sorted moved e among =
    let P : Place → Type 0 = λ q. IsAmong (f q.at) (entries_of f sorted) in
    let all : AllByRecursion P ps = recursion_from_All P ps (All-permutation P sorted ps (IsPermutation-sym ps sorted
    moved) (All-from_recursion P sorted (all_among f (λ (x : Entry). IsAmong x (entries_of f sorted)) sorted
    (λ x own. own)))) in
    among_of_all f (λ (x : Entry). IsAmong x (entries_of f sorted)) ps all e among

-- ---- the whole

read_all : (es : List Entry) → Reads (entry_at es) 0 es
read_all es i within = let same : 0 + i ≡ i = omega arith in ap (entry_at es) same

all_moved : (P : Place → Type 0) (ps sorted : List Place) → IsPermutation ps sorted → AllByRecursion P ps
    → AllByRecursion P sorted
all_moved P ps sorted moved all =
    recursion_from_All P sorted (All-permutation P ps sorted moved (All-from_recursion P ps all))

map_twice : (f : ℕ → Entry) (ps : List Place) → map f (map (λ (p : Place). p.at) ps) ≡ entries_of f ps
map_twice f [] = refl
map_twice f (p ∷ ps) = ap (λ l. f p.at ∷ l) (map_twice f ps)

pub sorted-standing : (es : List Entry) (sorted : List Place) → ((i : ℕ) → i < length es → (entry_at es i).seq ≡ i + 1)
    → IsPermutation (places_from 0 es) sorted → IsNonDecreasingBy (λ (p : Place). p.day) sorted
    → IsStableByKey (λ (p : Place). p.day) nat_cmp (places_from 0 es) sorted
    → entries_at es (map (λ (p : Place). p.at) sorted) ≡ standing_entries es
sorted-standing es sorted numbers moved days stable =
    let f = entry_at es in
    let all : AllByRecursion (IsPlaceIn f 0 (length es)) sorted = all_moved (IsPlaceIn f 0 (length es))
    (places_from 0 es) sorted moved (places_are f 0 (length es) es (omega arith) (read_all es)) in
    let own : IsStandingOf es (entries_of f sorted) = record {
      ascends = ascends f (length es) sorted numbers all (days_rise sorted days)
          (ties_rise (places_from 0 es) sorted stable (places_rise f 0 (length es) es (omega arith) (read_all es)));
      from = from_places es sorted all;
      to = λ e among stands. same_entries f (places_from 0 es) sorted moved e (to_places f 0 es (read_all es) e among
          stands);
    } in
    map_twice f sorted ∙ standing-alone es numbers (entries_of f sorted) own

within_places : (es : List Entry) (ps : List Place) → AllByRecursion (IsPlaceIn (entry_at es) 0 (length es)) ps
    → AllByRecursion (λ i. i < length es) (map (λ (p : Place). p.at) ps)
within_places es [] all = tt
within_places es (p ∷ ps) all = (all.0.1, within_places es ps all.1)

pub sorted-within : (es : List Entry) (sorted : List Place) → IsPermutation (places_from 0 es) sorted
    → All (λ i. i < length es) (map (λ (p : Place). p.at) sorted)
sorted-within es sorted moved =
    All-from_recursion (λ i. i < length es) (map (λ (p : Place). p.at) sorted)
    (within_places es sorted (all_moved (IsPlaceIn (entry_at es) 0 (length es)) (places_from 0 es) sorted moved
    (places_are (entry_at es) 0 (length es) es (omega arith) (read_all es))))

abbrev place_of : ℕ → Entry → Place
place_of k e = record { day = e.day; at = k }

-- one entry more
pub places_more : (k : ℕ) (es : List Entry) (e : Entry) → places_from k (es ++ e ∷ []) ≡ places_from k es
    ++ cond e.reversed [] (place_of (k + length es) e ∷ [])
places_more k [] e = go e.reversed
  where
    go : (b : Bool) → cond b [] (place_of k e ∷ []) ≡ cond b [] (place_of (k + 0) e ∷ [])
    go true = refl
    go false = let same : k ≡ k + 0 = omega arith in ap (λ n. place_of n e ∷ []) same
places_more k (x ∷ es) e =
    let size : k + 1 + length es ≡ k + suc (length es) = omega arith in
    go x.reversed (places_more (k + 1) es e ∙ ap (λ n. places_from (k + 1) es ++ cond e.reversed [] (place_of n e ∷ []))
    size)
  where
    go : (b : Bool) → places_from (k + 1) (es ++ e ∷ []) ≡ places_from (k + 1) es
        ++ cond e.reversed [] (place_of (k + suc (length es)) e ∷ [])
        → cond b (places_from (k + 1) (es ++ e ∷ [])) (record { day = x.day; at = k } ∷ places_from (k + 1)
        (es ++ e ∷ []))
        ≡ cond b (places_from (k + 1) es) (record { day = x.day; at = k } ∷ places_from (k + 1) es)
        ++ cond e.reversed [] (place_of (k + suc (length es)) e ∷ [])
    go true rest = rest
    go false rest = ap (λ l. record { day = x.day; at = k } ∷ l) rest

places_next : (es : List Entry) (k : ℕ) (e : Entry) → k < length es → get_or es k no_entry ≡ e
    → places_from 0 (take (k + 1) es) ≡ places_from 0 (take k es) ++ cond e.reversed [] (place_of k e ∷ [])
places_next es k e within is =
    let size : 0 + length (take k es) ≡ k =
    (let long = length-take-le k es (omega (arith, within)) in omega (arith, long)) in
    ap (places_from 0) (take_more es k no_entry within ∙ ap (λ x. take k es ++ x ∷ []) is) ∙ places_more 0 (take k es) e
    ∙ ap (λ n. places_from 0 (take k es) ++ cond e.reversed [] (place_of n e ∷ [])) size

pub places_with : (es : List Entry) (k : ℕ) (e : Entry) (before after : List Place) → before ≡ places_from 0 (take k es)
    → k < length es → get_or es k no_entry ≡ e → e.reversed ≡ false → after ≡ before ++ place_of k e ∷ []
    → after ≡ places_from 0 (take (k + 1) es)
places_with es k e before after so_far within is stands are =
    are ∙ ap (λ l. l ++ place_of k e ∷ []) so_far ∙ sym (places_next es k e within is
    ∙ ap (λ b. places_from 0 (take k es) ++ cond b [] (place_of k e ∷ [])) stands)

pub places_without : (es : List Entry) (k : ℕ) (e : Entry) (before after : List Place)
    → before ≡ places_from 0 (take k es) → k < length es → get_or es k no_entry ≡ e → e.reversed ≡ true → after ≡ before
    → after ≡ places_from 0 (take (k + 1) es)
places_without es k e before after so_far within is reversed are =
    are ∙ so_far ∙ sym (places_next es k e within is ∙ ap (λ b. places_from 0 (take k es) ++ cond b [] (place_of k e
    ∷ [])) reversed ∙ append-nil (places_from 0 (take k es)))
