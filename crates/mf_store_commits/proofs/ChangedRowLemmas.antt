-- What the writes of a change make of the rows that are kept of its loan.
use Rattle.std.proofs.Common.{◌≡◌, ◌<◌, ◌≤◌, ◌+◌, ℕ, zero, suc, List, [], ◌∷◌, ◌++◌, map, length, Some, refl, sym, ap}
use Rattle.std.proofs.Common.{◌∙◌, subst, arith, inl, inr, cond, ◌==◌, get_or, true, Option}
use Rattle.std.proofs.lemmas.List.Elements.{All-contains}
use Rattle.std.specs.List.{AllByRecursion}
use mathlib.Core.HLevel.{Discrete}
use mathlib.Core.List.{List-discrete}
use mathlib.Core.Logic.{dite}
use native.Mathlib.Decide.{ℕ_discrete, map_dec}
use Rattle.sqlite_keyed.proofs.ListLemmas.{all-append, all-map, all-flat_map, all_of}
use Rattle.mf_alloc.specs.Rows.{row_at}
use Rattle.mf_alloc.specs.Sums.{Instalment}
use Rattle.mf_account.proofs.ChangeLemmas.{none-in}
use Rattle.mf_account.proofs.SoundLemmas.{good-sound}
use Rattle.mf_account.proofs.ToldLemmas.{parts-numbered}
use Rattle.mf_account.specs.Change.{KeptAccount, ChangedNumbers, HasOtherRow, HasOtherParts, IsChange, settled_in}
use Rattle.mf_account.specs.Loan.{DisbursedLoan, IsSoundDisbursed, state_of_loan, settled_of_loan}
use Rattle.mf_account.specs.declared.settled.How.{How}
use Rattle.mf_account.specs.declared.settled.How.TheVariants.{Paid, Waived, WrittenOff}
use Rattle.mf_account.specs.declared.settled.SettledPart.{SettledPart}
use Rattle.mf_store_sql.specs.Writes.{AllFit, after_all}
use Rattle.mf_store_schema.specs.Rows.{Lists, by_instalment, by_share}
use Rattle.mf_store_schema.specs.Writes.{FitsLists, after_write}
use Rattle.mf_store_schema.specs.declared.instalments.InstalmentRow.{InstalmentRow}
use Rattle.mf_store_schema.specs.declared.shares.ShareRow.{ShareRow}
use Rattle.mf_store_schema.specs.declared.writes.StoreWrite.{StoreWrite}
use Rattle.mf_store_schema.specs.declared.writes.StoreWrite.TheVariants.{PutInstalment, PutShare}
use Rattle.mf_store_values.proofs.BlockLemmas.{AroundAt}
use Rattle.mf_store_values.proofs.FlatLemmas.{portion_at, portion_read}
use Rattle.mf_store_values.proofs.PutLemmas.{put_all}
use Rattle.mf_store_values.specs.Flat.{how_number, portion_number, instalment_in, share_in, placed_parts, parts_from}
use Rattle.mf_store_values.specs.Flat.{instalments_kept, shares_kept}
use Rattle.mf_store_commits.proofs.StepLemmas.{all_steps, loan_place, instalment_step, instalments_put_around}
use Rattle.mf_store_commits.proofs.StepLemmas.{share_place, share_step, shares_replaced_around}
use Rattle.mf_store_commits.specs.Becoming.{SpareMeta, spares_meta}
use Rattle.mf_store_commits.specs.ChangeWrites.{schedule_put, instalments_put, shares_replaced, shares_put}
use Rattle.mf_store_commits.specs.ChangeWrites.{change_writes}
use Rattle.mf_store_commits.specs.Suiting.{SuitsRows, Suits, AllSuit}

-- ---- two things are the same or not

-- where one is read back from the other
decided_by : {A B : Type 0} (f : A → B) (g : B → A) → ((a : A) → g (f a) ≡ a) → Discrete B → Discrete A
decided_by f g back d a b = map_dec (λ h. sym (back a) ∙ ap g h ∙ back b) (ap f) (d (f a) (f b))

-- a row as a list of lists, and a part as a list
decided_rows : Discrete Instalment
decided_rows = decided_by
    (λ (s : Instalment). (s.due ∷ []) ∷ s.owed ∷ s.paid ∷ s.waived ∷ s.written_off ∷ []) (λ t. record {
      due = get_or (get_or t 0 []) 0 0;
      owed = get_or t 1 [];
      paid = get_or t 2 [];
      waived = get_or t 3 [];
      written_off = get_or t 4 [];
    }) (λ s. refl) (List-discrete (List-discrete ℕ_discrete))

abbrev how_at : ℕ → How
how_at n = cond (n == 1) Paid (cond (n == 2) Waived WrittenOff)

how_read : (h : How) → how_at (how_number h) ≡ h
how_read Paid = refl
how_read Waived = refl
how_read WrittenOff = refl

decided_part : Discrete SettledPart
decided_part = decided_by (λ (s : SettledPart). s.seq ∷ s.place ∷ s.cell.instalment ∷ portion_number s.cell.portion
    ∷ how_number s.how ∷ s.amount ∷ []) (λ t. record {
      seq = get_or t 0 0;
      place = get_or t 1 0;
      cell = record { instalment = get_or t 2 0; portion = portion_at (get_or t 3 0) };
      how = how_at (get_or t 4 0);
      amount = get_or t 5 0;
    }) (λ s t. record s {
      cell = record { instalment = s.cell.instalment; portion = portion_read s.cell.portion t };
      how = how_read s.how t;
    }) (List-discrete ℕ_discrete)

-- ---- a loan's instalments

pub instalments_changed : (x n : ℕ) (before after_write : DisbursedLoan) (change : ChangedNumbers)
    → IsSoundDisbursed before → IsSoundDisbursed after_write
    → before.periods ≡ after_write.periods → IsChange before after_write change → {all other : List InstalmentRow}
    → AroundAt (loan_place x n) all other (map (instalment_in x n) (instalments_kept before))
    (map (instalment_in x n) (instalments_kept after_write))
    → all_steps (instalment_step x n (state_of_loan after_write).rows) change.rows all ≡ other
instalments_changed x n before after_write change sound then same is w =
    let was = (good-sound before sound).size in
    let now = (good-sound after_write then).size in
    let old = (state_of_loan before).rows in
    let new = (state_of_loan after_write).rows in
    instalments_put_around x n old new change.rows (was ∙ same ∙ sym now) (λ k least most.
    dite (decided_rows (row_at old k) (row_at new k)) (λ alike. inl alike)
    (λ apart. inr (is.rows.all k least (omega (arith, most, was, same)) apart)))
    (λ k has. let all = All-contains (λ i. (1 ≤ i) × (i ≤ after_write.periods)
    × HasOtherRow old new i) change.rows k is.rows.each has in (all.0, omega (arith, all, now))) w

-- ---- what its entries settle

-- entries that settle nothing make no difference
parts_longer : (f : ℕ → List SettledPart) (m a c : ℕ) → a ≤ c → ((k : ℕ) → m + a ≤ k → f k ≡ [])
    → parts_from f m a ≡ parts_from f m c
parts_longer f m zero zero low none = refl
parts_longer f m zero (suc c) low none = rw (none m (omega arith))
    (parts_longer f (m + 1) zero c (omega arith) (λ k high. none k (omega (arith, high))))
parts_longer f m (suc a) zero low none = absurd (omega (arith, low))
parts_longer f m (suc a) (suc c) low none = ap (λ rest. placed_parts m (f m) ++ rest)
    (parts_longer f (m + 1) a c (omega (arith, low)) (λ k high. none k (omega (arith, high))))

-- no entry past the last settles anything
none_settled : (a : DisbursedLoan) (k : ℕ) → IsSoundDisbursed a → length a.entries < k
    → settled_in k (settled_of_loan a) ≡ []
none_settled a k sound past = none-in k (settled_of_loan a) (λ i d within. let is = parts-numbered a sound i d within in
    let most = is.1 in λ same. absurd (omega (arith, past, most, same)))

pub shares_changed : (x n : ℕ) (before after_write : DisbursedLoan) (change : ChangedNumbers) → IsSoundDisbursed before
    → length before.entries ≤ length after_write.entries → IsChange before after_write change
    → {all other : List ShareRow}
    → AroundAt (share_place x n) all other (map (share_in x n) (shares_kept before))
    (map (share_in x n) (shares_kept after_write))
    → all_steps (share_step x n (λ s. settled_in s (settled_of_loan after_write))) change.seqs all ≡ other
shares_changed x n before after_write change sound more is {all} {other} w =
    let c = length after_write.entries in
    let old : ℕ → List SettledPart = λ s. settled_in s (settled_of_loan before) in
    let new : ℕ → List SettledPart = λ s. settled_in s (settled_of_loan after_write) in
    shares_replaced_around x n c old new change.seqs
    (λ s has. let all = All-contains (λ i. (1 ≤ i) × (i ≤ c) × HasOtherParts (settled_of_loan before)
    (settled_of_loan after_write) i) change.seqs s is.seqs.each has in (all.0, all.1))
    (λ k first last. dite (List-discrete decided_part (old k) (new k)) (λ alike. inl alike)
    (λ apart. inr (is.seqs.all k first last apart)))
    (rw (parts_longer old 1 (length before.entries) c more (λ k low. none_settled before k sound (omega (arith, low))))
    at w)

-- ---- the writes

-- two lists of writes, one after the other
pub after_both : (us ws : List StoreWrite) (lists : _) → after_all after_write (us ++ ws) lists
    ≡ after_all after_write ws (after_all after_write us lists)
after_both [] ws lists = refl
after_both (u ∷ us) ws lists = after_both us ws (after_write u lists)

pub instalments_written : (x n : ℕ) (rows : List Instalment) (ks : List ℕ) (lists : Lists)
    → after_all after_write (instalments_put x n rows ks) (Some lists)
    ≡ Some (record lists { instalments = all_steps (instalment_step x n rows) ks lists.instalments })
instalments_written x n rows [] lists = refl
instalments_written x n rows (k ∷ ks) lists = instalments_written x n rows ks _

parts_written : (x n : ℕ) (placed : List (ℕ × (ℕ × SettledPart))) (lists : Lists)
    → after_all after_write (map (λ (p : ℕ × (ℕ × SettledPart)). PutShare (share_in x n p)) placed) (Some lists)
    ≡ Some (record lists { shares = put_all by_share (map (share_in x n) placed) lists.shares })
parts_written x n [] lists = refl
parts_written x n (p ∷ placed) lists = parts_written x n placed _

pub shares_written : (x n : ℕ) (settled : List SettledPart) (ss : List ℕ) (lists : Lists)
    → after_all after_write (shares_put x n settled ss) (Some lists)
    ≡ Some (record lists { shares = all_steps (share_step x n (λ s. settled_in s settled)) ss lists.shares })
shares_written x n settled [] lists = refl
shares_written x n settled (s ∷ ss) lists =
    rw (after_both (shares_replaced x n settled s), parts_written x n (placed_parts s (settled_in s settled)))
    (shares_written x n settled ss _)

pub schedule_written : (x n : ℕ) (numbered : List (ℕ × Instalment)) (lists : Lists)
    → after_all after_write (schedule_put x n numbered) (Some lists) ≡ Some
    (record lists { instalments = put_all by_instalment (map (instalment_in x n) numbered) lists.instalments })
schedule_written x n [] lists = refl
schedule_written x n (item ∷ numbered) lists = schedule_written x n numbered _

-- ---- they fit and suit any tables that are there

pub fit_both : (Fit : StoreWrite → Option Lists → Type 0) (us ws : List StoreWrite) (lists : _)
    → AllFit after_write Fit us lists → AllFit after_write Fit ws (after_all after_write us lists)
    → AllFit after_write Fit (us ++ ws) lists
fit_both Fit [] ws lists first then = then
fit_both Fit (u ∷ us) ws lists first then = (first.0, fit_both Fit us ws (after_write u lists) first.1 then)

-- the write puts or removes rows in any tables, whatever they hold
abbrev pub IsPlain : StoreWrite → Type 0
IsPlain w = (lists : Lists) → (next : Lists) × (after_write w (Some lists) ≡ Some next) × FitsLists w (Some lists)
    × SuitsRows lists w

pub all_plain : (Fit : StoreWrite → Option Lists → Type 0)
    → ((w : StoreWrite) (lists : Lists) → FitsLists w (Some lists) → SuitsRows lists w → Fit w (Some lists))
    → (ws : List StoreWrite) → AllByRecursion IsPlain ws → (lists : Lists) → AllFit after_write Fit ws (Some lists)
all_plain Fit fit [] plain lists = tt
all_plain Fit fit (w ∷ ws) plain lists =
    let is = plain.0 lists in
    (fit w lists is.2 is.3, subst (AllFit after_write Fit ws) (sym is.1) (all_plain Fit fit ws plain.1 is.0))

-- so they fit, and suit
pub all_fit : (ws : List StoreWrite) → AllByRecursion IsPlain ws → (lists : Lists)
    → AllFit after_write FitsLists ws (Some lists)
all_fit = all_plain FitsLists (λ w lists fits suits. fits)

pub all_suit : (ws : List StoreWrite) → AllByRecursion IsPlain ws → (lists : Lists) → AllSuit ws lists
all_suit = all_plain Suits (λ w lists fits suits. suits)

pub schedule_plain : (x n : ℕ) (numbered : List (ℕ × Instalment)) → AllByRecursion IsPlain (schedule_put x n numbered)
schedule_plain x n numbered =
    all-map IsPlain (λ item. PutInstalment (instalment_in x n item)) (λ item lists. (_, refl, refl, tt)) numbered

pub change_plain : (x n : ℕ) (a : KeptAccount) → AllByRecursion IsPlain (change_writes x n a)
change_plain x n a =
    let rows = a.state.rows in
    let put : (s : ℕ) → AllByRecursion IsPlain (shares_replaced x n a.settled s) = λ s. (
      (λ lists. (_, refl, refl, tt)),
      all-map IsPlain (λ placed. PutShare (share_in x n placed)) (λ placed lists. (_, refl, refl, tt)) _,
    ) in
    all-append IsPlain (instalments_put x n rows a.change.rows) (shares_put x n a.settled a.change.seqs)
    (all-map IsPlain (λ k. PutInstalment (instalment_in x n (k, row_at rows k))) (λ k lists. (_, refl, refl, tt))
    a.change.rows) (all-flat_map IsPlain (shares_replaced x n a.settled) a.change.seqs
    (all_of (λ s. AllByRecursion IsPlain (shares_replaced x n a.settled s)) put a.change.seqs))

-- they leave the row of meta
pub schedule_spares : (x n : ℕ) (numbered : List (ℕ × Instalment)) → SpareMeta (schedule_put x n numbered)
schedule_spares x n numbered =
    all-map (λ w. spares_meta w ≡ true) (λ item. PutInstalment (instalment_in x n item)) (λ item. refl) numbered

pub change_spares : (x n : ℕ) (a : KeptAccount) → SpareMeta (change_writes x n a)
change_spares x n a =
    let Spares : StoreWrite → Type 0 = λ w. spares_meta w ≡ true in
    let rows = a.state.rows in
    let put : (s : ℕ) → AllByRecursion Spares (shares_replaced x n a.settled s) =
    λ s. (refl, all-map Spares (λ placed. PutShare (share_in x n placed)) (λ placed. refl) _) in
    all-append Spares (instalments_put x n rows a.change.rows) (shares_put x n a.settled a.change.seqs)
    (all-map Spares (λ k. PutInstalment (instalment_in x n (k, row_at rows k))) (λ k. refl) a.change.rows)
    (all-flat_map Spares (shares_replaced x n a.settled) a.change.seqs
    (all_of (λ s. AllByRecursion Spares (shares_replaced x n a.settled s)) put a.change.seqs))
