-- What is told of the lists of an office to somebody of an office that sees it, and of a loan before it is submitted.
use Rattle.std.specs.Prelude.{ℕ, ◌≤◌, zero, suc, cond, List, [], ◌++◌, fold, is_some, Option, Result, Ok, Err}
use Rattle.mf_base.specs.DayText.{last_entered_day}
use Rattle.mf_base.specs.declared.fault.Fault.{Fault}
use Rattle.mf_base.specs.declared.fault.Fault.TheVariants.{F2}
use Rattle.mf_office.specs.declared.caller.Caller.{Caller}
use Rattle.mf_model.specs.Desk.{staff_at}
use Rattle.mf_model.specs.Institution.{Catalogue, Institution, JournalLine, Rows, item_numbered}
use Rattle.mf_model.specs.Outcomes.{with_found, with_value, where_found}
use Rattle.mf_model.specs.Tree.{seen_office}
use Rattle.mf_lists.specs.declared.answer.ListAnswer.{ListAnswer}
use Rattle.mf_lists.specs.declared.answer.ListAnswer.TheVariants.{Listed, Previewed}
use Rattle.mf_lists.specs.declared.answer.ListTold.{ListTold}
use Rattle.mf_lists.specs.declared.answer.ListTold.TheVariants.{ClientLines, ClientLoans, DueLines, StageLines}
use Rattle.mf_lists.specs.declared.answer.ListTold.TheVariants.{StaffLines, ChangeLines, TakingLines}
use Rattle.mf_lists.specs.declared.request.ListAsked.{ListAsked}
use Rattle.mf_lists.specs.declared.request.ListAsked.TheVariants.{Clients, LoansOf, DueBy, AtStatus, StaffOf, Find}
use Rattle.mf_lists.specs.declared.request.ListAsked.TheVariants.{ChangesOf, Changes, TakingsOn}
use Rattle.mf_lists.specs.Changes.{changes_after, changes_of_loan}
use Rattle.mf_lists.specs.declared.request.ListRequest.{ListRequest}
use Rattle.mf_lists.specs.declared.request.ListRequest.TheVariants.{OfOffice, Preview}
use Rattle.mf_lists.specs.Lists.{clients_after, due_after, find_clients, loans_of_client, stages_after, staff_of}
use Rattle.mf_lists.specs.Preview.{preview_in}
use Rattle.mf_lists.specs.Takings.{takings_on}

-- what is told of a loan's changes; F4 where the loan isn't there
abbrev pub loan_changes : ℕ → ℕ → Rows → List JournalLine → Result ListTold Fault
loan_changes x loan rows lines =
    with_found (item_numbered rows.loans loan) (λ l. ChangeLines (changes_of_loan x loan lines))

-- The list that is asked for of an office, by the journal, the catalogue and its rows. F4 where its client or its loan
-- isn't there, and where changes or takings are asked for and no journal is kept.
abbrev pub office_list : (List ℕ → List ℕ) → ListAsked → ℕ → Option (List JournalLine) → Catalogue → Rows
    → Result ListTold Fault
office_list folded (Clients after) x journal k rows = Ok (ClientLines (clients_after after k rows))
office_list folded (LoansOf client) x journal k rows =
    with_found (item_numbered rows.clients client) (λ name. ClientLoans (loans_of_client client k rows))
office_list folded (DueBy day after) x journal k rows = Ok (DueLines (due_after day after k rows))
office_list folded (AtStatus status after) x journal k rows = Ok (StageLines (stages_after status after k rows))
office_list folded StaffOf x journal k rows = Ok (StaffLines (staff_of rows))
office_list folded (Find part) x journal k rows = Ok (ClientLines (find_clients folded x part k rows))
office_list folded (ChangesOf loan) x journal k rows = where_found journal (loan_changes x loan rows)
office_list folded (Changes after) x journal k rows =
    with_found journal (λ lines. ChangeLines (changes_after x after lines))
office_list folded (TakingsOn day) x journal k rows =
    with_found journal (λ lines. TakingLines (takings_on x day k rows lines))

-- what somebody of office o is told of office x; F4 where it isn't at or below o
abbrev pub list_seen : (List ℕ → List ℕ) → ListAsked → ℕ → ℕ → Institution → Result ListTold Fault
list_seen folded asked o x i =
    where_found (seen_office o x i) (λ f. office_list folded asked x i.journal i.catalogue f.rows)

-- what somebody of office o is told who asks for a list or for a preview
abbrev pub list_for : (List ℕ → List ℕ) → ListRequest → ℕ → Institution → Result ListAnswer Fault
list_for folded (OfOffice x asked) o i = with_value (list_seen folded asked o x i) (λ told. Listed x told)
list_for folded (Preview product principal periods day) o i =
    with_value (preview_in i.catalogue product principal periods day) (λ shown. Previewed shown)

-- what a caller is told; F2 where there is no such member of staff. Each that there is may ask
abbrev pub list_reply : (List ℕ → List ℕ) → Caller → ListRequest → Institution → Result ListAnswer Fault
list_reply folded c request i = cond (is_some (staff_at i c)) (list_for folded request c.office i) (Err F2)

-- the day that a request names to be paid out on, if it names one, is one that may be entered
abbrev pub IsAskedInDays : ListRequest → Type 0
IsAskedInDays (OfOffice office asked) = Unit {0}
IsAskedInDays (Preview product principal periods day) = day ≤ last_entered_day

-- ---- page by page

-- the number of the last line, or this one where there is none
abbrev pub last_number : {Y : Type 0} → (Y → ℕ) → ℕ → List Y → ℕ
last_number number after lines = fold (λ n y. number y) after lines

-- so many pages one behind the other, each after the last number of the one before it
abbrev pub pages : {Y : Type 0} → (Y → ℕ) → (ℕ → List Y) → ℕ → ℕ → List Y
pages number page_after zero after = []
pages number page_after (suc turns) after =
    let lines = page_after after in lines ++ pages number page_after turns (last_number number after lines)
