-- The calendar: dates in order have numbers in order, and date and number give each other back.
use Rattle.std.proofs.Common.{◌≡◌, ℕ, zero, suc, ◌+◌, ◌-◌, ◌<◌, ◌≤◌, ◌⊎◌, inl, inr, arith, refl, sym, ap, ◌∙◌, subst}
use Rattle.std.proofs.Common.{ltb}
use Rattle.std.specs.Prelude.{sum_by}
use Rattle.std.specs.List.{range_with_len}
use Rattle.std.proofs.lemmas.Bool.{cases_order, cond_both, ltb-true, ltb-false}
use Rattle.std.proofs.lemmas.List.Sums.{sum-map}
use Rattle.std.proofs.lemmas.List.FromFn.{sum_by-map-range_with_len_more}
use Rattle.mf_base.specs.Calendar.{CalendarDate, IsDate, year_length, month_length, years_before, months_before, day_of}
use Rattle.mf_base.specs.Calendar.{next_date, date_of}

-- a sum over one number more
sum_by-range_more : (f : ℕ → ℕ) (first count : ℕ) → sum_by f (range_with_len first (count + 1))
    ≡ sum_by f (range_with_len first count) + f (first + count)
sum_by-range_more f first count =
    sym (sum-map f (range_with_len first (count + 1)))
    ∙ sum_by-map-range_with_len_more (λ (x : ℕ). x) f first count (first + count) refl
    ∙ ap (λ s. s + f (first + count)) (sum-map f (range_with_len first count))

pub years_before_more : (year : ℕ) → 2000 ≤ year → years_before (year + 1) ≡ years_before year + year_length year
years_before_more year low =
    let count : year + 1 - 2000 ≡ year - 2000 + 1 = omega arith in
    let last : 2000 + (year - 2000) ≡ year = omega arith in
    ap (λ n. sum_by year_length (range_with_len 2000 n)) count ∙ sum_by-range_more year_length 2000 (year - 2000)
    ∙ ap (λ y. years_before year + year_length y) last

pub months_before_more : (year month : ℕ) → 1 ≤ month → months_before year (month + 1) ≡ months_before year month
    + month_length year month
months_before_more year month low =
    let count : month + 1 - 1 ≡ month - 1 + 1 = omega arith in
    let last : 1 + (month - 1) ≡ month = omega arith in
    ap (λ n. sum_by (month_length year) (range_with_len 1 n)) count ∙ sum_by-range_more (month_length year) 1
    (month - 1) ∙ ap (λ m. months_before year month + month_length year m) last

months_before_none : (year : ℕ) → months_before year 1 ≡ 0
months_before_none year = refl

pub month_length_bounds : (year month : ℕ) → (28 ≤ month_length year month) × (month_length year month ≤ 31)
month_length_bounds year month = grind arith

-- the twelve months are the year
months_before_all : (year : ℕ) → months_before year 13 ≡ year_length year
months_before_all year = grind arith

months_before_mono_by : (year month count : ℕ) → 1 ≤ month → months_before year month ≤ months_before year (month
    + count)
months_before_mono_by year month zero low = let same : month + 0 ≡ month = omega arith in rw same (omega arith)
months_before_mono_by year month (suc count) low =
    let next : month + suc count ≡ month + count + 1 = omega arith in
    rw next (omega (
      arith,
      months_before_mono_by year month count low,
      months_before_more year (month + count)
          (omega arith),
    ))

months_before_mono : (year month later : ℕ) → 1 ≤ month → month ≤ later → months_before year month
    ≤ months_before year later
months_before_mono year month later low le =
    let there : month + (later - month) ≡ later = omega arith in
    subst (λ (x : ℕ). months_before year month ≤ months_before year x) there (months_before_mono_by year month
    (later - month) low)

years_before_mono_by : (year count : ℕ) → 2000 ≤ year → years_before year ≤ years_before (year + count)
years_before_mono_by year zero low = let same : year + 0 ≡ year = omega arith in rw same (omega arith)
years_before_mono_by year (suc count) low =
    let next : year + suc count ≡ year + count + 1 = omega arith in
    rw next (omega (arith, years_before_mono_by year count low, years_before_more (year + count) (omega arith)))

years_before_mono : (year later : ℕ) → 2000 ≤ year → year ≤ later → years_before year ≤ years_before later
years_before_mono year later low le =
    let there : year + (later - year) ≡ later = omega arith in
    subst (λ (x : ℕ). years_before year ≤ years_before x) there (years_before_mono_by year (later - year) low)

-- a date lies before each later month, and before each later year
day_of-lt_month : (date : CalendarDate) (month : ℕ) → IsDate date → date.month < month
    → day_of date < years_before date.year
    + months_before date.year month
unfolding day_of
day_of-lt_month date month is later =
    omega (
      arith,
      months_before_more date.year date.month is.first_month,
      months_before_mono date.year (date.month + 1)
          month (omega arith) (omega arith),
      is.first_day,
      is.last_day,
    )

pub day_of-lt_year : (date : CalendarDate) (year : ℕ) → IsDate date → date.year < year → day_of date < years_before year
day_of-lt_year date year is later =
    omega (
      arith,
      day_of-lt_month date 13 is (omega (arith, is.last_month)),
      months_before_all date.year,
      years_before_more date.year is.year,
      years_before_mono (date.year + 1) year (omega (arith, is.year))
          (omega arith),
    )

-- and not before its own
pub years_before-le-day_of : (date : CalendarDate) (year : ℕ) → 2000 ≤ year → year ≤ date.year → years_before year
    ≤ day_of date
unfolding day_of
years_before-le-day_of date year low le = omega (arith, years_before_mono year date.year low le)

-- in the order of year, month and day
abbrev pub IsEarlier : CalendarDate → CalendarDate → Type 0
IsEarlier a b =
    (a.year < b.year) ⊎ ((a.year ≡ b.year) × ((a.month < b.month) ⊎ ((a.month ≡ b.month) × (a.day < b.day))))

pub day_of-lt : (a b : CalendarDate) → IsDate a → IsDate b → IsEarlier a b → day_of a < day_of b
unfolding day_of
day_of-lt a b first second (inl year) = omega (arith, day_of-lt_year a b.year first year)
day_of-lt a b first second (inr (year, inl month)) =
    omega (arith, day_of-lt_month a b.month first month, ap years_before year, ap (λ y. months_before y b.month) year)
day_of-lt a b first second (inr (year, inr day)) = rw (year, day.0) (omega (arith, day.1, first.first_day))

-- of two dates one is earlier, or they are the same
cases_date : (a b : CalendarDate) → IsEarlier a b ⊎ (IsEarlier b a ⊎ (a ≡ b))
cases_date a b =
    elim (cases_order a.year b.year) [
      | inr (inl lt) ↦ inl (inl lt)
      | inr (inr gt) ↦ inr (inl (inl gt))
      | inl year ↦ elim (cases_order a.month b.month) [
        | inr (inl lt) ↦ inl (inr (year, inl lt))
        | inr (inr gt) ↦ inr (inl (inr (sym year, inl gt)))
        | inl month ↦ elim (cases_order a.day b.day) [
          | inr (inl lt) ↦ inl (inr (year, inr (month, lt)))
          | inr (inr gt) ↦ inr (inl (inr (sym year, inr (sym month, gt))))
          | inl day ↦ inr (inr (λ i. record { year = year i; month = month i; day = day i }))
        ]
      ]
    ]

-- no two dates have one number
pub day_of-injective : (a b : CalendarDate) → IsDate a → IsDate b → day_of a ≡ day_of b → a ≡ b
day_of-injective a b first second same =
    elim (cases_date a b) [
      | inl lt ↦ absurd (omega (arith, same, day_of-lt a b first second lt))
      | inr (inl gt) ↦ absurd (omega (arith, same, day_of-lt b a second first gt))
      | inr (inr e) ↦ e
    ]

-- the date after is a date, and its number is the next
next_date-step : (date : CalendarDate) → IsDate date → IsDate (next_date date)
    × (day_of (next_date date) ≡ suc (day_of date))
unfolding day_of
next_date-step date is =
    let january = months_before_none (date.year + 1) in
    cond_both (ltb date.day (month_length date.year date.month)) _ _ (λ later. IsDate later
    × (day_of later ≡ suc (day_of date)))
    (λ inside. let short : date.day < month_length date.year date.month = ltb-true _ _ inside in (
      record {
        year = is.year;
        first_month = is.first_month;
        last_month = is.last_month;
        first_day = omega arith;
        last_day = omega (arith, short);
      },
      omega (arith, is.first_day),
    ))
    (λ last. let end : month_length date.year date.month ≤ date.day = ltb-false _ _ last in
    cond_both (ltb date.month 12) _ _ (λ later. IsDate later × (day_of later ≡ suc (day_of date)))
    (λ inside. let short : date.month < 12 = ltb-true _ _ inside in (
      record {
        year = is.year;
        first_month = omega arith;
        last_month = omega (arith, short);
        first_day = omega arith;
        last_day = omega (arith, month_length_bounds date.year (date.month + 1));
      },
      omega (arith, end, is.first_day, is.last_day, months_before_more date.year date.month is.first_month),
    ))
    (λ december. let twelve : date.month ≡ 12 = omega (arith, is.last_month, ltb-false date.month 12 december) in (
      record {
        year = omega (arith, is.year);
        first_month = omega arith;
        last_month = omega arith;
        first_day = omega arith;
        last_day = omega (arith, month_length_bounds (date.year + 1) 1);
      },
      omega (
        arith,
        january,
        end,
        is.first_day,
        is.last_day,
        years_before_more date.year is.year,
        months_before_all date.year,
        months_before_more date.year date.month is.first_month,
        ap (λ m. months_before date.year (m + 1)) twelve,
      ),
    )))

pub date_of-step : (day : ℕ) → IsDate (date_of day) × (day_of (date_of day) ≡ day)
unfolding date_of day_of
date_of-step zero = (
  record {
    year = omega arith;
    first_month = omega arith;
    last_month = omega arith;
    first_day = omega arith;
    last_day = omega arith;
  },
  refl,
)
date_of-step (suc day) = let so_far = date_of-step day in let step =
    next_date-step (date_of day) so_far.0 in (step.0, step.1 ∙ ap suc so_far.1)

pub IsDate-date_of : (day : ℕ) → IsDate (date_of day)
IsDate-date_of day = (date_of-step day).0

pub day_of-date_of : (day : ℕ) → day_of (date_of day) ≡ day
day_of-date_of day = (date_of-step day).1

pub date_of-day_of : (date : CalendarDate) → IsDate date → date_of (day_of date) ≡ date
date_of-day_of date is = day_of-injective _ date (IsDate-date_of (day_of date)) is (day_of-date_of (day_of date))
