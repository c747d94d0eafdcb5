-- Why an entry is refused with F18, and why it isn't refused.
use Rattle.std.proofs.Common.{◌≡◌, ◌≤◌, ◌<◌, ℕ, Bool, true, false, length, Option, Some, None, nat_le, refl}
use Rattle.std.specs.Prelude.{◌≢◌, if◌then◌else◌}
use Rattle.std.proofs.lemmas.Bool.{leb-true, leb-false}
use Rattle.mf_base.specs.declared.fault.Fault.{Fault}
use Rattle.mf_base.specs.declared.fault.Fault.TheVariants.{F8, F9, F10, F11, F14, F18}
use Rattle.mf_account.specs.declared.entry.Entry.{Entry}
use Rattle.mf_account.specs.Loan.{DisbursedLoan}
use Rattle.mf_account.specs.Refusals.{refusal_of}

-- a reason that isn't the one that is told doesn't hold
pass : (b : Bool) (x : Fault) (rest told : Option Fault) → Some x ≢ told → (if b then Some x else rest) ≡ told
    → rest ≡ told
pass true x rest told other h = absurd (other h)
pass false x rest told other h = h

-- the last reason, where F18 is told, and where nothing is
full : (b : Bool) → (if b then Some F18 else None) ≡ Some F18 → b ≡ true
full true h = refl
full false h = absurd (cc)

room : (b : Bool) → (if b then Some F18 else None) ≡ None → b ≡ false
room true h = absurd (cc)
room false h = refl

pub refused_when_full : (loan : DisbursedLoan) (entry : Entry) (day : ℕ) → refusal_of loan entry day ≡ Some F18
    → 9999 ≤ length loan.entries
refused_when_full loan entry day h =
    leb-true 9999 (length loan.entries) (full _
    (pass _ F8 _ _ (λ e. cc) (pass _ F14 _ _ (λ e. cc) (pass _ F10 _ _ (λ e. cc) (pass _ F9 _ _ (λ e. cc)
    (pass _ F11 _ _ (λ e. cc) h))))))

pub room_when_taken : (loan : DisbursedLoan) (entry : Entry) (day : ℕ) → refusal_of loan entry day ≡ None
    → length loan.entries < 9999
room_when_taken loan entry day h =
    leb-false 9999 (length loan.entries) (room _
    (pass _ F8 _ _ (λ e. cc) (pass _ F14 _ _ (λ e. cc) (pass _ F10 _ _ (λ e. cc) (pass _ F9 _ _ (λ e. cc)
    (pass _ F11 _ _ (λ e. cc) h))))))
