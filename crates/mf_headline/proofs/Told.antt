-- What a line that shows a loan is told.
use Rattle.std.proofs.Common.{◌≡◌, Bool, true, false, cond, List, Option, Some, None, Ok, Err, refl, sym, ap}
use Rattle.std.proofs.Common.{◌∙◌}
use Rattle.std.proofs.Common.{subst}
use Rattle.mf_base.specs.declared.fault.Fault.TheVariants.{F3, F20}
use Rattle.mf_office.specs.declared.account.Account.{Account}
use Rattle.mf_office.specs.declared.caller.Caller.{Caller}
use Rattle.mf_office.specs.Tree.{is_at_or_below}
use Rattle.mf_model.specs.declared.request.LoanRequest.{LoanRequest}
use Rattle.mf_model.specs.declared.request.LoanRequest.TheVariants.{Show, ShowInstalments, ShowEntries, Take, Repay}
use Rattle.mf_model.specs.declared.request.LoanRequest.TheVariants.{ChargeFee, Post, Reverse}
use Rattle.mf_model.specs.declared.request.Request.{Request}
use Rattle.mf_model.specs.declared.request.Request.TheVariants as request
use Rattle.mf_model.specs.Desk.{Plan, On_office, plan, need, meets, of_office, in_office, where_permitted, sent_by}
use Rattle.mf_model.specs.Desk.{staff_at, reply_in}
use Rattle.mf_model.specs.Institution.{Institution, Ledger, Office, Staff, office_at, item_numbered}
use Rattle.mf_model.specs.Loans.{on_loan, in_loan, of_loan}
use Rattle.mf_model.specs.Outcomes.{where_found}
use Rattle.mf_model.specs.Run.{Line, answer, last}
use Rattle.mf_model.specs.Store.{ledger_at, rows_of}
use Rattle.mf_model.specs.Tree.{parent_of, seen_office}
use Rattle.mf_histories.proofs.Whole.{ledger_after}
use Rattle.mf_headline.specs.Replays.{IsReading, told_of, IsReplay}

seen_there : (b : Bool) (o : Option Office) (f : Office) → cond b o None ≡ Some f → o ≡ Some f
seen_there true o f h = h
seen_there false o f h = absurd (cc)

module _ (loan : Account) (asked : LoanRequest) (reads : IsReading asked) (before : List Line) (i : Institution) where
  abbrev now : Institution
  now = last before i

  -- the loan is shown as it stands, which is the replay
  shown : (c : Caller) (f : Office) (asked : LoanRequest) → IsReading asked → (l : Ledger) → ledger_at loan now ≡ Some l
      → IsReplay loan asked before i (reply_in (of_office loan.office (of_loan loan f.rows
      (on_loan asked c now.catalogue f.rows loan.number l))))
  shown c f Show reads l there =
      (l, _, there, ap (told_of Show now.catalogue) (sym (ledger_after loan before i l there)), refl)
  shown c f ShowInstalments reads l there =
      (l, _, there, ap (told_of ShowInstalments now.catalogue) (sym (ledger_after loan before i l there)), refl)
  shown c f ShowEntries reads l there =
      (l, _, there, ap (told_of ShowEntries now.catalogue) (sym (ledger_after loan before i l there)), refl)
  shown c f (Take step) reads l there = absurd reads
  shown c f (Repay repayment) reads l there = absurd reads
  shown c f (ChargeFee charge due) reads l there = absurd reads
  shown c f (Post posting) reads l there = absurd reads
  shown c f (Reverse seq) reads l there = absurd reads

  found : (c : Caller) (f : Office) → office_at loan.office now.offices ≡ Some f → (o : Option Ledger)
      → item_numbered f.rows.loans loan.number ≡ o
      → IsReplay loan asked before i (reply_in (of_office loan.office (where_found o (λ l. of_loan loan f.rows
      (on_loan asked c now.catalogue f.rows loan.number l)))))
  found c f there None e = tt
  found c f there (Some l) e = shown c f asked reads l
      (ap (λ o. item_numbered (rows_of o).loans loan.number) there ∙ e)

  seen : (c : Caller) (o : Option Office) → seen_office c.office loan.office now ≡ o
      → IsReplay loan asked before i (reply_in (in_office loan.office
      (λ k f. in_loan loan (on_loan asked c k f.rows loan.number) f.rows) now.catalogue o))
  seen c None e = tt
  seen c (Some f) e = found c f
      (seen_there (is_at_or_below (parent_of now.offices) loan.office c.office) (office_at loan.office now.offices) f e)
      (item_numbered f.rows.loans loan.number) refl

  abbrev its_plan : Plan
  its_plan = On_office loan.office (λ caller k f. in_loan loan (on_loan asked caller k f.rows loan.number) f.rows)

  permitted : (c : Caller) (staff : Option Staff) → IsReplay loan asked before i
      (reply_in (where_permitted c (request.Loan loan asked) its_plan staff now))
  permitted c None = tt
  permitted c (Some s) = may (meets (need (request.Loan loan asked)) s.role c.office)
    where
      may : (b : Bool) → IsReplay loan asked before i (reply_in (cond b (in_office loan.office
          (λ k f. in_loan loan (on_loan asked c k f.rows loan.number) f.rows) now.catalogue
          (seen_office c.office loan.office now)) (Err F3)))
      may true = seen c (seen_office c.office loan.office now) refl
      may false = tt

  sent : (caller : Option Caller) → IsReplay loan asked before i
      (reply_in (sent_by caller (request.Loan loan asked) (Ok its_plan) now))
  sent None = tt
  sent (Some c) = permitted c (staff_at now c)

  -- a line that asks for it, given up or not
  pub told_replay : (l : Line) → l.call.request ≡ request.Loan loan asked → IsReplay loan asked before i (answer l now)
  told_replay l e = by l.given_up
    where
      by : (g : Bool) → IsReplay loan asked before i
          (cond g (Err F20) (reply_in (sent_by l.call.caller l.call.request (plan l.call.request) now)))
      by true = tt
      by false = subst (λ (r : Request). IsReplay loan asked before i
          (reply_in (sent_by l.call.caller r (plan r) now))) (sym e) (sent l.call.caller)
