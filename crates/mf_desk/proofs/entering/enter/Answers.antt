use Rattle.std.proofs.Common.{◌≡◌, ℕ, ◌∷◌, [], ◌++◌, Option, Some, None, Err, inl, inr, refl, sym, subst, ap, ◌∙◌}
use Rattle.std.proofs.Common.{rules}
use Rattle.mf_base.specs.declared.fault.Fault.{Fault}
use Rattle.mf_office.specs.declared.caller.Caller.{Caller}
use Rattle.mf_account.specs.declared.entry.Entry.{Entry}
use Rattle.mf_account.specs.Loan.{DisbursedLoan}
use Rattle.mf_account.specs.Refusals.{refusal_of, HasForm}
use Rattle.mf_model.specs.Loans.{fault_or}
use Rattle.mf_model.specs.declared.commit.Commit.TheVariants.{AddEntry}
use Rattle.mf_model.specs.declared.reply.LoanReply.TheVariants.{Entered}
use Rattle.mf_model.specs.declared.reply.Reply.TheVariants as reply
use Rattle.mf_model.proofs.SoundLemmas.{IsNext, posting_is_next}
use Rattle.mf_desk.specs.declared.entries.Asked.{Asked}
use Rattle.mf_desk.specs.declared.entries.Asked.TheVariants.{Repayment, Posting, Fee}
use Rattle.mf_desk.specs.Entries.{IsAskedInRange, first_of, entry_of}
use Rattle.mf_desk.proofs.LoanLemmas.{then_entered, then_refused}
use Rattle.mf_desk.proofs.entering.enter.Goals as goal

is_next : (asked : Asked) (staff : Caller) (today : ℕ) (a : DisbursedLoan) → IsAskedInRange asked
    → IsNext a today (entry_of asked staff today a)
is_next (Repayment asked) staff today a h = record { next = refl; stands = refl; form = (h.0.0, h.0.1, refl, refl) }
is_next (Posting asked) staff today a h = posting_is_next asked staff today a
is_next (Fee charge due) staff today a h = record { next = refl; stands = refl; form = (refl, refl, refl) }

-- where nothing refuses an entry beforehand, its account alone may
by_account : (first next : Option Fault) → first ≡ None → fault_or first next ≡ next
by_account first next h = ap (λ o. fault_or o next) h

pub with_entry-requires-clause-next : goal.with_entry-requires-clause-next
with_entry-requires-clause-next g c = ap (λ (x : Entry). x.seq) c.in_ok-entry.ensures.made
    ∙ (is_next c.args.asked c.args.caller c.in_ok-today.today c.in_ok-account.account.loan c.requires.in_range).next

pub with_entry-requires-clause-stands : goal.with_entry-requires-clause-stands
with_entry-requires-clause-stands g c = ap (λ (x : Entry). x.reversed) c.in_ok-entry.ensures.made
    ∙ (is_next c.args.asked c.args.caller c.in_ok-today.today c.in_ok-account.account.loan c.requires.in_range).stands

pub with_entry-requires-clause-form : goal.with_entry-requires-clause-form
with_entry-requires-clause-form g c = subst (λ (x : Entry). HasForm x.kind c.in_ok-today.today x)
    (sym c.in_ok-entry.ensures.made) (is_next c.args.asked c.args.caller c.in_ok-today.today
    c.in_ok-account.account.loan c.requires.in_range).form

pub returns-in_err-entry-clause-decides : goal.returns-in_err-entry-clause-decides
returns-in_err-entry-clause-decides g c =
    let s = g.S.InstitutionStore in
    let account = c.in_ok-account.account in
    let today = c.in_ok-today.today in
    let make = entry_of c.args.asked c.args.caller in
    let fault = c.in_err-entry.field-0.0 in
    let e : c.from_residual-in_err-entry.result ≡ Err fault = search rules in
    rw e (then_refused s c.args.loan (first_of c.args.asked) make account today fault c.args.store.now
    c.find_account.new.store c.business_day.new.self c.in_ok-account.ensures.asks c.in_ok-today.ensures
    (λ replayed. elim (c.in_err-entry.ensures.refused replayed) [
      | inl given_up ↦ inl given_up
      | inr refused ↦ inr (ap (λ o. fault_or o (refusal_of account.loan (make today account.loan) today)) refused)
    ]))

pub returns-in_err-account-2-clause-decides : goal.returns-in_err-account-2-clause-decides
returns-in_err-account-2-clause-decides g c =
    let s = g.S.InstitutionStore in
    let account = c.in_ok-account.account in
    let today = c.in_ok-today.today in
    let first = first_of c.args.asked in
    let make = entry_of c.args.asked c.args.caller in
    let fault = c.in_err-account-2.field-0.0 in
    let e : c.from_residual-in_err-account-2.result ≡ Err fault = search rules in
    rw e (then_refused s c.args.loan first make account today fault c.args.store.now c.find_account.new.store
    c.business_day.new.self c.in_ok-account.ensures.asks c.in_ok-today.ensures
    (λ replayed. elim (c.in_err-account-2.ensures.refused replayed) [
      | inl given_up ↦ inl given_up
      | inr refused ↦ inr (by_account (first account.loan) (refusal_of account.loan (make today account.loan) today)
          (c.in_ok-entry.ensures.first replayed) ∙ ap (λ (x : Entry). refusal_of account.loan x today)
          (sym c.in_ok-entry.ensures.made) ∙ refused)
    ]))

pub returns-clause-decides : goal.returns-clause-decides
returns-clause-decides g c =
    let s = g.S.InstitutionStore in
    let account = c.in_ok-account.account in
    let today = c.in_ok-today.today in
    let first = first_of c.args.asked in
    let make = entry_of c.args.asked c.args.caller in
    let after = c.in_ok-account-2.account in
    let made : c.in_ok-entry.entry ≡ make today account.loan = c.in_ok-entry.ensures.made in
    let is : c.change.result ≡ record {
      reply = reply.Loan c.args.loan (Entered (make today account.loan).seq);
      commit = Some (AddEntry c.args.loan after);
    } =
    c.change.ensures ∙ ap (λ (x : Entry). record {
      reply = reply.Loan c.args.loan (Entered x.seq);
      commit = Some (AddEntry c.args.loan after);
    }) made
    in
    rw is (then_entered s c.args.loan first make account after today c.args.store.now c.find_account.new.store
    c.business_day.new.self c.in_ok-account.ensures.asks c.in_ok-today.ensures
    (λ replayed. by_account (first account.loan) (refusal_of account.loan (make today account.loan) today)
    (c.in_ok-entry.ensures.first replayed) ∙ ap (λ (x : Entry). refusal_of account.loan x today) (sym made)
    ∙ c.in_ok-account-2.ensures.accepted replayed)
    (c.in_ok-account-2.ensures.loan ∙ ap (λ (x : Entry). record account.loan {
      entries = account.loan.entries ++ x
          ∷ [];
    }) made) c.in_ok-account-2.ensures.kept c.in_ok-account-2.ensures.change)
