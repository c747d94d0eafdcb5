-- One answer alone is right.
use Rattle.std.proofs.Common.{◌≡◌, ◌<◌, ◌+◌, ◌⊎◌, inl, inr, ℕ, zero, suc, List, [], ◌∷◌, take, slice_get, Option, Some}
use Rattle.std.proofs.Common.{refl, sym, ap, ap₂, ◌∙◌, subst, arith}
use Rattle.sqlite.proofs.MarkLemmas.{slice_get-take}
use Rattle.mf_journal.specs.declared.following.Head.{Head}
use Rattle.mf_model.specs.Institution.{Institution, JournalLine}
use Rattle.mf_play.specs.Play.{PlaysTo, StopsAt}
use Rattle.mf_play.proofs.Lines.{one_play, one_place, apart}
use Rattle.mf_store_journal.specs.Rows.{head_with_all}
use Rattle.mf_store_noted.specs.Kept.{journaled}
use Rattle.mf_store_schema.specs.Rows.{Lists}
use Rattle.mf_store_schema.specs.declared.versions.Version.TheVariants.{Third}
use Rattle.mf_store_sound.specs.Held.{AllTrue}
use Rattle.mf_store_sound.specs.Schemas.{tables_at}
use Rattle.mf_store_played.specs.Played.{DiffersAt, DiffersIn, IsFirstDifference, IsFounding, founded, order_of, sames}
use Rattle.mf_store_played.specs.Answer.{IsAnswer, IsAnswerOver, IsCopy, IsCopyAnswer, IsDifference}
use Rattle.mf_store_played.specs.declared.played.Difference.{Difference}
use Rattle.mf_store_played.specs.declared.played.Played.{Played}
use Rattle.mf_store_played.specs.declared.played.Played.TheVariants.{Leads, NoFounding, Stops, Differs, OtherCopy}
use Rattle.mf_store_played.specs.declared.played.Played.TheVariants.{Lacks}
use Rattle.mf_store_played.specs.declared.played.PlayedTable.{PlayedTable}
use Rattle.mf_store_played.specs.declared.played.PlayedTable.TheVariants.{Meta, Offices, Staff, Clients, Charges}
use Rattle.mf_store_played.specs.declared.played.PlayedTable.TheVariants.{Products, Loans, Entries, Receipts}
use Rattle.mf_store_played.specs.declared.played.PlayedTable.TheVariants.{Instalments, Shares}

-- ---- one place of a list

same_before : {A : Type 0} (xs ys : List A) (m n : ℕ) → m < n → take n xs ≡ take n ys
    → slice_get xs m ≡ slice_get ys m
same_before xs ys m n low same =
    sym (slice_get-take n xs m low) ∙ ap (λ l. slice_get l m) same ∙ slice_get-take n ys m low

neither_less : (m n : ℕ) → (m < n → ⊥) → (n < m → ⊥) → m ≡ n
neither_less m n over under = omega (arith, over, under)

one_row : {A : Type 0} (xs ys : List A) (m n : ℕ) → DiffersAt xs ys m → DiffersAt xs ys n → m ≡ n
one_row xs ys m n here there = neither_less m n
    (λ low. here.there (same_before xs ys m n low there.before))
    (λ low. there.there (same_before xs ys n m low here.before))

one_row_in : (table : PlayedTable) (a b : Lists) (m n : ℕ) → DiffersIn table a b m → DiffersIn table a b n → m ≡ n
one_row_in Meta a b m n here there = one_row a.meta b.meta m n here there
one_row_in Offices a b m n here there = one_row a.offices b.offices m n here there
one_row_in Staff a b m n here there = one_row a.staff b.staff m n here there
one_row_in Clients a b m n here there = one_row a.clients b.clients m n here there
one_row_in Charges a b m n here there = one_row a.charges b.charges m n here there
one_row_in Products a b m n here there = one_row a.products b.products m n here there
one_row_in Loans a b m n here there = one_row a.loans b.loans m n here there
one_row_in Entries a b m n here there = one_row a.entries b.entries m n here there
one_row_in Receipts a b m n here there = one_row a.receipts b.receipts m n here there
one_row_in Instalments a b m n here there = one_row a.instalments b.instalments m n here there
one_row_in Shares a b m n here there = one_row a.shares b.shares m n here there

-- ---- one table

abbrev fact_at : ℕ → List (Type 0) → Type 0
fact_at k [] = Unit {0}
fact_at zero (P ∷ Ps) = P
fact_at (suc k) (P ∷ Ps) = fact_at k Ps

holds_at : (Ps : List (Type 0)) (n k : ℕ) → k < n → AllTrue (take n Ps) → fact_at k Ps
holds_at [] n k low all = tt
holds_at (P ∷ Ps) zero k low all = absurd (omega (arith, low))
holds_at (P ∷ Ps) (suc n) zero low all = all.0
holds_at (P ∷ Ps) (suc n) (suc k) low all = holds_at Ps n k (omega (arith, low)) all.1

not_same_in : (table : PlayedTable) (a b : Lists) (row : ℕ) → DiffersIn table a b row
    → fact_at (order_of table) (sames a b) → ⊥
not_same_in Meta a b row differ same = differ.there (ap (λ l. slice_get l row) same)
not_same_in Offices a b row differ same = differ.there (ap (λ l. slice_get l row) same)
not_same_in Staff a b row differ same = differ.there (ap (λ l. slice_get l row) same)
not_same_in Clients a b row differ same = differ.there (ap (λ l. slice_get l row) same)
not_same_in Charges a b row differ same = differ.there (ap (λ l. slice_get l row) same)
not_same_in Products a b row differ same = differ.there (ap (λ l. slice_get l row) same)
not_same_in Loans a b row differ same = differ.there (ap (λ l. slice_get l row) same)
not_same_in Entries a b row differ same = differ.there (ap (λ l. slice_get l row) same)
not_same_in Receipts a b row differ same = differ.there (ap (λ l. slice_get l row) same)
not_same_in Instalments a b row differ same = differ.there (ap (λ l. slice_get l row) same)
not_same_in Shares a b row differ same = differ.there (ap (λ l. slice_get l row) same)

abbrev tables : List PlayedTable
tables = Meta ∷ Offices ∷ Staff ∷ Clients ∷ Charges ∷ Products ∷ Loans ∷ Entries ∷ Receipts ∷ Instalments ∷ Shares ∷ []

abbrev table_at : ℕ → Option PlayedTable
table_at n = slice_get tables n

table_back : (table : PlayedTable) → table_at (order_of table) ≡ Some table
table_back Meta = refl
table_back Offices = refl
table_back Staff = refl
table_back Clients = refl
table_back Charges = refl
table_back Products = refl
table_back Loans = refl
table_back Entries = refl
table_back Receipts = refl
table_back Instalments = refl
table_back Shares = refl

abbrev made : PlayedTable → ℕ → Lists → Lists → Difference
made t r h p = record { table = t; row = r; here = h; played = p }

same_parts : (t u : PlayedTable) (r s : ℕ) (h k p q : Lists) → t ≡ u → r ≡ s → h ≡ k → p ≡ q
    → made t r h p ≡ made u s k q
same_parts t u r s h k p q tables rows heres playeds = cc

module _ (a b : Lists) where
  not_earlier : (table other : PlayedTable) (row place : ℕ) → IsFirstDifference table row a b
      → IsFirstDifference other place a b → order_of table < order_of other → ⊥
  not_earlier table other row place here there low =
      not_same_in table a b row here.there
      (holds_at (sames a b) (order_of other) (order_of table) low there.before)

  one_table : (table other : PlayedTable) (row place : ℕ) → IsFirstDifference table row a b
      → IsFirstDifference other place a b → table ≡ other
  one_table table other row place here there =
      let same : Some table ≡ Some other = sym (table_back table)
      ∙ ap table_at (neither_less (order_of table) (order_of other) (not_earlier table other row place here there)
      (not_earlier other table place row there here))
      ∙ table_back other in
      cc

  one_difference : (d e : Difference) → IsDifference d a b → IsDifference e a b → d ≡ e
  one_difference d e here there =
      let same = one_table d.table e.table d.row e.row here.first there.first in
      let row = one_row_in e.table a b d.row e.row (subst (λ t. DiffersIn t a b d.row) same here.first.there)
      there.first.there in
      same_parts d.table e.table d.row e.row d.here e.here d.played e.played same row
      (here.here_is ∙ sym there.here_is) (here.played_is ∙ sym there.played_is)

-- ---- one answer

one_day : (begins : Head) (day other : ℕ) → IsFounding begins day → IsFounding begins other → other ≡ day
one_day begins day other here there = ap (λ (h : Head). h.day) (sym there.is ∙ here.is)

module _ (begins : Head) (lines : List JournalLine) (i : Institution) where
  pub one_answer : (a b : Played) → IsAnswer begins lines i a → IsAnswer begins lines i b → a ≡ b
  one_answer (Leads h) (Leads k) a b = ap Leads (a.3 ∙ sym b.3)
  one_answer (Leads h) (NoFounding k) a b = absurd (b.0 a.0 a.1)
  one_answer (Leads h) (OtherCopy k) a b = absurd b
  one_answer (Leads h) (Lacks g) a b = absurd b
  one_answer (Leads h) (Stops n why) a b =
      absurd (apart (founded a.0) i lines b.2 why a.2
      (subst (λ day. StopsAt (founded day) lines b.2 why) (one_day begins a.0 b.0 a.1 b.1) b.4))
  one_answer (Leads h) (Differs d) a b =
      absurd (b.5 (subst (λ day. PlaysTo (founded day) lines i) (one_day begins b.0 a.0 b.1 a.1) a.2))
  one_answer (NoFounding k) (OtherCopy h) a b = absurd b
  one_answer (NoFounding k) (Lacks g) a b = absurd b
  one_answer (NoFounding k) (Leads h) a b = absurd (a.0 b.0 b.1)
  one_answer (NoFounding h) (NoFounding k) a b = ap NoFounding (a.1 ∙ sym b.1)
  one_answer (NoFounding k) (Stops n why) a b = absurd (a.0 b.0 b.1)
  one_answer (NoFounding k) (Differs d) a b = absurd (a.0 b.0 b.1)
  one_answer (Stops n why) (Leads h) a b =
      absurd (apart (founded b.0) i lines a.2 why b.2
      (subst (λ day. StopsAt (founded day) lines a.2 why) (one_day begins b.0 a.0 b.1 a.1) a.4))
  one_answer (Stops n why) (NoFounding k) a b = absurd (b.0 a.0 a.1)
  one_answer (Stops n why) (OtherCopy k) a b = absurd b
  one_answer (Stops n why) (Lacks g) a b = absurd b
  one_answer (Stops n why) (Stops m because) a b =
      let same = one_place (founded a.0) lines a.2 b.2 why because a.4
      (subst (λ day. StopsAt (founded day) lines b.2 because) (one_day begins a.0 b.0 a.1 b.1) b.4) in
      ap₂ Stops (a.3 ∙ ap (λ p. p + 1) same.0 ∙ sym b.3) same.1
  one_answer (Stops n why) (Differs d) a b =
      absurd (apart (founded b.0) b.2 lines a.2 why b.3
      (subst (λ day. StopsAt (founded day) lines a.2 why) (one_day begins b.0 a.0 b.1 a.1) a.4))
  one_answer (Differs d) (Leads h) a b =
      absurd (a.5 (subst (λ day. PlaysTo (founded day) lines i) (one_day begins a.0 b.0 a.1 b.1) b.2))
  one_answer (Differs d) (NoFounding k) a b = absurd (b.0 a.0 a.1)
  one_answer (Differs d) (OtherCopy k) a b = absurd b
  one_answer (Differs d) (Lacks g) a b = absurd b
  one_answer (OtherCopy h) (Leads k) a b = absurd a
  one_answer (OtherCopy h) (NoFounding k) a b = absurd a
  one_answer (OtherCopy h) (Stops n why) a b = absurd a
  one_answer (OtherCopy h) (Differs d) a b = absurd a
  one_answer (OtherCopy h) (OtherCopy k) a b = absurd a
  one_answer (OtherCopy h) (Lacks g) a b = absurd a
  one_answer (Lacks g) other a b = absurd a
  one_answer (Differs d) (Stops n why) a b =
      absurd (apart (founded a.0) a.2 lines b.2 why a.3
      (subst (λ day. StopsAt (founded day) lines b.2 why) (one_day begins a.0 b.0 a.1 b.1) b.4))
  one_answer (Differs d) (Differs e) a b =
      let same = one_play (founded a.0) b.2 a.2 lines
      (subst (λ day. PlaysTo (founded day) lines b.2) (one_day begins a.0 b.0 a.1 b.1) b.3) a.3 in
      ap Differs (one_difference (tables_at Third i) (tables_at Third a.2) d e a.4
      (subst (λ k. IsDifference e (tables_at Third i) (tables_at Third k)) same b.4))

-- ---- one answer over a beginning, and from a copy

module _ (start : Institution) (begins : Head) (lines : List JournalLine) (i : Institution) where
  one_over : (a b : Played) → IsAnswerOver start begins lines i a → IsAnswerOver start begins lines i b → a ≡ b
  one_over (Leads h) (Leads k) a b = ap Leads (a.1 ∙ sym b.1)
  one_over (Leads h) (Stops n why) a b = absurd (apart start i lines b.0 why a.0 b.2)
  one_over (Leads h) (Differs d) a b = absurd (b.3 a.0)
  one_over (Leads h) (NoFounding k) a b = absurd b
  one_over (Leads h) (OtherCopy k) a b = absurd b
  one_over (Leads h) (Lacks g) a b = absurd b
  one_over (Stops n why) (Leads h) a b = absurd (apart start i lines a.0 why b.0 a.2)
  one_over (Stops n why) (Stops m because) a b =
      let same = one_place start lines a.0 b.0 why because a.2 b.2 in
      ap₂ Stops (a.1 ∙ ap (λ p. begins.number + p + 1) same.0 ∙ sym b.1) same.1
  one_over (Stops n why) (Differs d) a b = absurd (apart start b.0 lines a.0 why b.1 a.2)
  one_over (Stops n why) (NoFounding k) a b = absurd b
  one_over (Stops n why) (OtherCopy k) a b = absurd b
  one_over (Stops n why) (Lacks g) a b = absurd b
  one_over (Differs d) (Leads h) a b = absurd (a.3 b.0)
  one_over (Differs d) (Stops n why) a b = absurd (apart start a.0 lines b.0 why a.1 b.2)
  one_over (Differs d) (Differs e) a b =
      let same = one_play start b.0 a.0 lines b.1 a.1 in
      ap Differs (one_difference (tables_at Third i) (tables_at Third a.0) d e a.2
      (subst (λ k. IsDifference e (tables_at Third i) (tables_at Third k)) same b.2))
  one_over (Differs d) (NoFounding k) a b = absurd b
  one_over (Differs d) (OtherCopy k) a b = absurd b
  one_over (Differs d) (Lacks g) a b = absurd b
  one_over (NoFounding h) b told other = absurd told
  one_over (OtherCopy h) b told other = absurd told
  one_over (Lacks g) b told other = absurd told

module _ (copied : Institution) (begins : Head) (lines : List JournalLine) (i : Institution) where
  -- the journal was begun over another, or was played
  abbrev Two : Played → Type 0
  Two p = ((h : Head) × (p ≡ OtherCopy h) × (¬ IsCopy copied begins) × (h ≡ head_with_all begins lines))
      ⊎ (IsCopy copied begins × IsAnswerOver (journaled copied) begins lines i p)

  either : (p : Played) → IsCopyAnswer copied begins lines i p → Two p
  either (Leads h) told = inr told
  either (Stops n why) told = inr told
  either (Differs d) told = inr told
  either (NoFounding h) told = inr told
  either (OtherCopy h) told = inl (h, refl, told.0, told.1)
  either (Lacks g) told = inr told

  both : (a b : Played) → Two a → Two b → a ≡ b
  both a b (inl x) (inl y) = x.1 ∙ ap OtherCopy (x.3 ∙ sym y.3) ∙ sym y.1
  both a b (inl x) (inr y) = absurd (x.2 y.0)
  both a b (inr x) (inl y) = absurd (y.2 x.0)
  both a b (inr x) (inr y) = one_over (journaled copied) begins lines i a b x.1 y.1

  pub one_copy_answer : (a b : Played) → IsCopyAnswer copied begins lines i a → IsCopyAnswer copied begins lines i b
      → a ≡ b
  one_copy_answer a b here there = both a b (either a here) (either b there)
