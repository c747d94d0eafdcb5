-- The loans of a status.
use Rattle.std.proofs.Common.{◌≡◌, ℕ, Bool, true, false, cond, not, ◌&&◌, ◌==◌, nat_lt}
use Rattle.std.proofs.Common.{filter, map, take, Option, None, Some, refl, sym, ap, ◌∙◌}
use Rattle.std.specs.List.{flat_map, enumerate_from, list_any}
use Rattle.sqlite_keyed.proofs.ListLemmas.{filter-map}
use Rattle.mf_alloc.specs.Sums.{is_open}
use Rattle.mf_account.specs.declared.entry.Entry.{Entry}
use Rattle.mf_account.specs.Kinds.{is_write_off}
use Rattle.mf_account.specs.Loan.{DisbursedLoan, state_of_loan, status_of_loan}
use Rattle.mf_lists.specs.declared.lines.StageLine.{StageLine}
use Rattle.mf_lists.specs.Lists.{stage_line, stages_after}
use Rattle.mf_model.specs.declared.loan.Stage.{Stage}
use Rattle.mf_model.specs.declared.loan.Stage.TheVariants.{Submitted, Approved, Disbursed, Withdrawn, Rejected}
use Rattle.mf_model.specs.Accounts.{account_in, of_account, status_in}
use Rattle.mf_model.specs.Institution.{Catalogue, Ledger, Rows}
use Rattle.mf_model.specs.Stages.{disbursed_on, stage_number}
use Rattle.mf_store_lists.specs.Told.{is_of_disbursed, stage_told}
use Rattle.mf_store_lists.proofs.ToldLemmas.{told_chosen, both_chosen}

-- the lines that are told are those of the definition
pub stages_told : (status after : ℕ) (k : Catalogue) (rows : Rows)
    → take 200 (flat_map (stage_told status after k rows) (enumerate_from 1 rows.loans))
    ≡ stages_after status after k rows
stages_told status after k rows =
    let has : ℕ × Ledger → Bool = λ l. status_in k l.1 == status in
    let later : ℕ × Ledger → Bool = λ l. nat_lt after l.0 in
    let all = enumerate_from 1 rows.loans in
    ap (take 200) (told_chosen (λ l. later l && has l) (stage_line rows) all
    ∙ ap (map (stage_line rows)) (both_chosen later has all)
    ∙ sym (filter-map (λ (s : StageLine). nat_lt after s.loan) (stage_line rows) (filter has all)))

disbursed_number : (s : Stage) (day : ℕ) → disbursed_on s ≡ Some day → is_of_disbursed (stage_number s) ≡ true
disbursed_number Submitted day is = absurd (let never : None ≡ Some day = is in cc)
disbursed_number (Approved on) day is = absurd (let never : None ≡ Some day = is in cc)
disbursed_number (Disbursed approved on) day is = refl
disbursed_number Withdrawn day is = absurd (let never : None ≡ Some day = is in cc)
disbursed_number Rejected day is = absurd (let never : None ≡ Some day = is in cc)

account_number : (written left over : Bool)
    → is_of_disbursed (cond written 601 (cond left 300 (cond over 700 600))) ≡ true
account_number true left over = refl
account_number false true over = refl
account_number false false true = refl
account_number false false false = refl

-- the status of a loan that was disbursed is one of four
pub status_number : (k : Catalogue) (l : Ledger) (day : ℕ) → disbursed_on l.loan.stage ≡ Some day
    → is_of_disbursed (status_in k l) ≡ true
status_number k l day is = go (account_in k l)
  where
    go : (o : Option DisbursedLoan) → is_of_disbursed (of_account (stage_number l.loan.stage) status_of_loan o) ≡ true
    go None = disbursed_number l.loan.stage day is
    go (Some a) = account_number (list_any (λ (e : Entry). not e.reversed && is_write_off e.kind) a.entries)
        (list_any is_open (state_of_loan a).rows) (nat_lt 0 (state_of_loan a).overpaid)
