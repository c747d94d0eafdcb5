-- What is owed in a line is paid, waived, written off or outstanding.
use Rattle.std.proofs.Common.{◌≡◌, ◌<◌, ◌+◌, ℕ, zero, suc, Bool, true, false, cond, List, [], ◌∷◌, ◌++◌, map, get_or}
use Rattle.std.proofs.Common.{Option, Some, None, refl, arith}
use Rattle.std.specs.Prelude.{◌==◌, filter, sum_by}
use Rattle.std.specs.List.{AllByRecursion, flat_map}
use Rattle.std.proofs.lemmas.List.Sums.{sum_by-cons}
use Rattle.mf_account.specs.Balance.{balances_of}
use Rattle.mf_account.specs.Loan.{DisbursedLoan, fee_of_loan, state_of_loan}
use Rattle.mf_account.specs.declared.balances.Balances.{Balances}
use Rattle.mf_account.proofs.ConserveLemmas.{balances_by-whole}
use Rattle.mf_account.proofs.SoundLemmas.{good-sound}
use Rattle.mf_ledger.specs.Opening.{product_numbers}
use Rattle.mf_model.specs.Accounts.{account_in, balances_in, no_balances, of_account}
use Rattle.mf_model.specs.Institution.{Institution, Catalogue, Ledger, Office}
use Rattle.mf_model.specs.Sound.{IsSound, IsSoundCatalogue, IsSoundLoan, IsSoundOffice, is_staff}
use Rattle.mf_model.proofs.AccountLemmas.{account_sound}
use Rattle.mf_office.specs.declared.caller.Caller.{Caller}
use Rattle.mf_portions.specs.Portions.{balances_of_product, figure, lines_of_some, office_lines, portion_lines}
use Rattle.mf_portions.specs.Ties.{AddsUp}
use Rattle.mf_portions.specs.declared.lines.Column.TheVariants.{Owed, Paid, Waived, WrittenOff, Outstanding}
use Rattle.mf_portions.specs.declared.lines.Heading.{Heading}
use Rattle.mf_portions.specs.declared.lines.Heading.TheVariants.{Penalties, Fees, Interest, Principal, Kept}
use Rattle.mf_portions.specs.declared.lines.PortionLine.{PortionLine}

-- ---- of a loan

-- in each portion what is owed is paid, waived, written off or outstanding
abbrev IsWhole : Balances → Type 0
IsWhole b = (p : ℕ) → p < 4
    → get_or b.paid p 0 + get_or b.waived p 0 + get_or b.written_off p 0 + get_or b.outstanding p 0 ≡ get_or b.owed p 0

none_whole : IsWhole no_balances
none_whole zero small = refl
none_whole (suc zero) small = refl
none_whole (suc (suc zero)) small = refl
none_whole (suc (suc (suc zero))) small = refl
none_whole (suc (suc (suc (suc p)))) small = absurd (omega arith)

loan_whole : (k : Catalogue) (staffed : Caller → Bool) (clients : List (List ℕ)) (l : Ledger) → IsSoundCatalogue k
    → IsSoundLoan k staffed clients l → IsWhole (balances_in k l)
loan_whole k staffed clients l sound its = go (account_in k l) refl
  where
    go : (o : Option DisbursedLoan) → account_in k l ≡ o → IsWhole (of_account no_balances balances_of o)
    go None is = none_whole
    go (Some a) is =
        let held = account_sound k staffed clients l a sound its is in
        balances_by-whole (fee_of_loan a) (state_of_loan a) (good-sound a held).within

-- ---- of loans

loans_whole : (k : Catalogue) (staffed : Caller → Bool) (clients : List (List ℕ)) (product : ℕ) (ls : List Ledger)
    → IsSoundCatalogue k → AllByRecursion (IsSoundLoan k staffed clients) ls
    → AllByRecursion IsWhole (balances_of_product k product ls)
loans_whole k staffed clients product [] sound each = tt
loans_whole k staffed clients product (l ∷ ls) sound each =
    go (l.loan.product == product) (loan_whole k staffed clients l sound each.0)
    (loans_whole k staffed clients product ls sound each.1)
  where
    go : (b : Bool) → IsWhole (balances_in k l) → AllByRecursion IsWhole (balances_of_product k product ls)
        → AllByRecursion IsWhole (map (balances_in k) (cond b
        (l ∷ filter (λ (x : Ledger). x.loan.product == product) ls)
        (filter (λ (x : Ledger). x.loan.product == product) ls)))
    go true one rest = (one, rest)
    go false one rest = rest

-- of one loan under a heading
figures_whole : (h : Heading) (b : Balances) → IsWhole b
    → figure h Paid b + figure h Waived b + figure h WrittenOff b + figure h Outstanding b ≡ figure h Owed b
figures_whole Penalties b whole = whole 0 (omega arith)
figures_whole Fees b whole = whole 1 (omega arith)
figures_whole Interest b whole = whole 2 (omega arith)
figures_whole Principal b whole = whole 3 (omega arith)
figures_whole Kept b whole = omega arith

-- of loans under a heading
sums_whole : (h : Heading) (loans : List Balances) → AllByRecursion IsWhole loans
    → sum_by (figure h Owed) loans ≡ sum_by (figure h Paid) loans + sum_by (figure h Waived) loans
    + sum_by (figure h WrittenOff) loans + sum_by (figure h Outstanding) loans
sums_whole h [] each = refl
sums_whole h (b ∷ loans) each =
    let one = figures_whole h b each.0 in
    let rest = sums_whole h loans each.1 in
    let owed = sum_by-cons (figure h Owed) b loans in
    let paid = sum_by-cons (figure h Paid) b loans in
    let waived = sum_by-cons (figure h Waived) b loans in
    let lost = sum_by-cons (figure h WrittenOff) b loans in
    let left = sum_by-cons (figure h Outstanding) b loans in
    omega (arith, one, rest, owed, paid, waived, lost, left)

-- ---- of lines

lines_add : (office product : ℕ) (loans : List Balances) → AllByRecursion IsWhole loans
    → AllByRecursion AddsUp (lines_of_some office product loans)
lines_add office product [] each = tt
lines_add office product (b ∷ loans) each =
    let all = λ (h : Heading). sums_whole h (b ∷ loans) each in
    (all Penalties, (all Fees, (all Interest, (all Principal, (all Kept, tt)))))

all_both : (xs ys : List PortionLine) → AllByRecursion AddsUp xs → AllByRecursion AddsUp ys
    → AllByRecursion AddsUp (xs ++ ys)
all_both [] ys first more = more
all_both (x ∷ xs) ys first more = (first.0, all_both xs ys first.1 more)

office_adds : (k : Catalogue) (staffed : Caller → Bool) (f : Office) → IsSoundCatalogue k
    → IsSoundOffice k staffed f → (products : List ℕ) → AllByRecursion AddsUp (flat_map
    (λ product. lines_of_some f.number product (balances_of_product k product f.rows.loans)) products)
office_adds k staffed f sound its [] = tt
office_adds k staffed f sound its (product ∷ products) =
    all_both (lines_of_some f.number product (balances_of_product k product f.rows.loans)) (flat_map
    (λ product. lines_of_some f.number product (balances_of_product k product f.rows.loans)) products)
    (lines_add f.number product (balances_of_product k product f.rows.loans)
    (loans_whole k staffed f.rows.clients product f.rows.loans sound (its.rows).loans))
    (office_adds k staffed f sound its products)

offices_add : (k : Catalogue) (staffed : Caller → Bool) → IsSoundCatalogue k → (fs : List Office)
    → AllByRecursion (IsSoundOffice k staffed) fs → AllByRecursion AddsUp (flat_map (office_lines k) fs)
offices_add k staffed sound [] each = tt
offices_add k staffed sound (f ∷ fs) each =
    all_both (office_lines k f) (flat_map (office_lines k) fs)
    (office_adds k staffed f sound each.0 (product_numbers k)) (offices_add k staffed sound fs each.1)

pub lines_add_up : (i : Institution) → IsSound i → AllByRecursion AddsUp (portion_lines i)
lines_add_up i sound = offices_add i.catalogue (is_staff i.offices) sound.catalogue i.offices sound.each
