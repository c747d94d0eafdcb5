-- A loan as the report counts it, and offices' lines in turn.
use Rattle.std.proofs.Common.{◌≡◌, ◌<◌, ◌+◌, ℕ, true, false, cond, ◌==◌, List, [], ◌∷◌, ◌++◌, map, length, take}
use Rattle.std.proofs.Common.{get_or, Option, Some, None, refl, sym, ap, ap₂, ◌∙◌, subst, arith}
use Rattle.std.specs.List.{AllByRecursion, list_any}
use Rattle.std.proofs.lemmas.Bool.Decides.{nat_tests}
use Rattle.std.proofs.lemmas.List.{map_more}
use Rattle.sqlite_keyed.proofs.ListLemmas.{all-filter}
use Rattle.mf_office.specs.declared.office.Office.{Office as OfficeShown}
use Rattle.mf_arrears.specs.Line.{OfficeLine, line_of_loans}
use Rattle.mf_alloc.specs.Sums.{Instalment, is_open}
use Rattle.mf_model.specs.Accounts.{account_in, of_account, status_in}
use Rattle.mf_model.specs.Stages.{stage_number}
use Rattle.mf_model.specs.Arrears.{aged_loan, active_in, arrears_line, arrears_seen, if_active}
use Rattle.mf_model.specs.Desk.{office_shown}
use Rattle.mf_model.specs.Institution.{Institution, Catalogue, Office, Ledger, office_at}
use Rattle.mf_account.specs.Loan.{DisbursedLoan, IsSoundDisbursed, state_of_loan, status_of_loan}
use Rattle.mf_account.proofs.ActiveLemmas.{active-where_open}
use Rattle.mf_model.specs.Store.{rows_of}
use Rattle.mf_model.specs.Tree.{seen_by, parent_of, Above, Ascending}
use Rattle.mf_office.specs.Tree.{is_at_or_below}
use Rattle.mf_store_values.specs.Arrears.{aged_rows, line_at}

-- ---- one loan

-- an account's instalments as they stand
abbrev pub rows_of_account : DisbursedLoan → List Instalment
rows_of_account a = (state_of_loan a).rows

-- a loan counts by the instalments that are kept as by its account
pub aged_told : (today : ℕ) (o : Option DisbursedLoan) → ((a : DisbursedLoan) → o ≡ Some a → IsSoundDisbursed a)
    → aged_rows today (of_account [] rows_of_account o) ≡ if_active today o
aged_told today None sound = refl
aged_told today (Some a) sound = ap (λ b. cond b (aged_loan today a ∷ []) []) (sym (active-where_open a (sound a refl)))

-- where something is outstanding its status is 300
pub active_status : (k : Catalogue) (l : Ledger) → ((a : DisbursedLoan) → account_in k l ≡ Some a → IsSoundDisbursed a)
    → list_any is_open (of_account [] rows_of_account (account_in k l)) ≡ true → 300 ≡ status_in k l
active_status k l sound open_is = go (account_in k l) refl open_is
  where
    go : (o : Option DisbursedLoan) → account_in k l ≡ o → list_any is_open (of_account [] rows_of_account o) ≡ true
        → 300 ≡ of_account (stage_number l.loan.stage) status_of_loan o
    go None e h = absurd (let never : false ≡ true = h in cc)
    go (Some a) e h = let is : (status_of_loan a == 300) ≡ true =
        active-where_open a (sound a e) ∙ h in grind (arith, nat_tests)

-- ---- office by office

-- one more office is added up
pub mapped_office : {L : Type 0} (line : OfficeShown → L) (offices : List OfficeShown) (n : ℕ) (item : OfficeShown)
    (x : L) (xs ys : List L) → n < length offices → item ≡ get_or offices n item → ys ≡ xs ++ x ∷ [] → x ≡ line item
    → xs ≡ map line (take n offices) → ys ≡ map line (take (n + 1) offices)
mapped_office line offices n item x xs ys low is more here before =
    more ∙ ap₂ ◌++◌ before (ap (λ y. y ∷ []) (here ∙ ap line is)) ∙ sym (map_more line offices n item low)

-- each office is found by its number
abbrev pub IsFoundIn : List Office → Office → Type 0
IsFoundIn fs g = office_at g.number fs ≡ Some g

found_past : (f : Office) (fs gs : List Office) → Above f.number gs → AllByRecursion (IsFoundIn fs) gs
    → AllByRecursion (IsFoundIn (f ∷ fs)) gs
found_past f fs [] up all = tt
found_past f fs (g ∷ gs) up all = (
  (let low : f.number < g.number = up.0 in let apart : (f.number == g.number) ≡ false = grind (arith, nat_tests) in
      ap (λ b. cond b (Some f) (office_at g.number fs)) apart ∙ all.0),
  found_past f fs gs up.1 all.1,
)

pub found_there : (fs : List Office) → Ascending fs → AllByRecursion (IsFoundIn fs) fs
found_there [] up = tt
found_there (f ∷ fs) up = (
  (let own : (f.number == f.number) ≡ true = grind (arith, nat_tests) in
      ap (λ b. cond b (Some f) (office_at f.number fs)) own),
  found_past f fs fs up.0 (found_there fs up.1),
)

lines_kept : (i : Institution) (gs : List Office) → AllByRecursion (IsFoundIn i.offices) gs
    → map (line_at i) (map office_shown gs) ≡ map (arrears_line i.catalogue) gs
lines_kept i [] all = refl
lines_kept i (g ∷ gs) all = ap₂ ◌∷◌ (ap (λ o. line_of_loans g.number (active_in i.catalogue (rows_of o).loans)) all.0)
    (lines_kept i gs all.1)

-- the lines of the offices that are seen, as these are shown, are the arrears that are seen
lines_seen : (to : ℕ) (i : Institution) → Ascending i.offices
    → map (line_at i) (map office_shown (seen_by to i.offices))
    ≡ arrears_seen to i
lines_seen to i up = lines_kept i (seen_by to i.offices) (all-filter (IsFoundIn i.offices) (λ (g : Office).
    is_at_or_below (parent_of i.offices) g.number to) i.offices (found_there i.offices up))

-- the same of offices that were read
pub lines_told : (to : ℕ) (i : Institution) (offices : List OfficeShown) (lines : List OfficeLine)
    → Ascending i.offices → offices ≡ map office_shown (seen_by to i.offices) → lines ≡ map (line_at i) offices
    → lines ≡ arrears_seen to i
lines_told to i offices lines up are is = subst (λ (all : List OfficeLine). lines ≡ all) (lines_seen to i up)
    (subst (λ (shown : List OfficeShown). lines ≡ map (line_at i) shown) are is)
