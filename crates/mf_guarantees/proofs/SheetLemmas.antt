-- What a run of repayments with receipts leaves of a loan.
use Rattle.std.proofs.Common.{◌≡◌, ◌≢◌, ◌⊎◌, ℕ, zero, suc, Bool, true, false, cond, List, [], ◌∷◌, ◌++◌, map}
use Rattle.std.proofs.Common.{Option, Some, None, inl, inr, refl, sym, ap, ◌∙◌, subst, arith, append_assoc}
use Rattle.std.specs.Prelude.{is_some, option_map}
use Rattle.std.specs.List.{AllByRecursion, Contains}
use Rattle.std.proofs.lemmas.List.{append-nil}
use Rattle.mf_office.specs.declared.account.Account.{Account}
use Rattle.mf_alloc.specs.declared.row.Portion.TheVariants.{Principal}
use Rattle.mf_account.specs.declared.entry.Entry.{Entry}
use Rattle.mf_account.specs.declared.entry.Kind.TheVariants as kind
use Rattle.mf_model.specs.declared.request.LoanRequest.TheVariants.{Repay}
use Rattle.mf_model.specs.declared.request.Repayment.{Repayment}
use Rattle.mf_model.specs.declared.request.Request.{Request}
use Rattle.mf_model.specs.declared.request.Request.TheVariants as request
use Rattle.mf_model.specs.Institution.{Institution, Office, Ledger, Change, Rows_become, office_at, with_rows, after}
use Rattle.mf_model.specs.Institution.{after_line}
use Rattle.mf_model.specs.Loans.{loan_changed, with_new_entry, repayment}
use Rattle.mf_model.specs.Receipts.{Use, uses_from, first_use}
use Rattle.mf_model.specs.Run.{Line, answer, change_of_line, next, noted_of, last}
use Rattle.mf_model.specs.Sound.{IsSound, AreInRange}
use Rattle.mf_model.specs.Store.{rows_of, use_at, ledger_at}
use Rattle.mf_model.proofs.Confined.{others_stay}
use Rattle.mf_model.proofs.Growing.{all_map}
use Rattle.mf_model.proofs.Lasting.{known_last}
use Rattle.mf_model.proofs.SoundLemmas.{next_sound}
use Rattle.mf_model.proofs.StaffLemmas.{rows_found}
use Rattle.std.proofs.lemmas.Bool.{cases_eq}
use Rattle.mf_guarantees.specs.Sheets.{OnlyReceipts, is_entry_told, taken_in}
use Rattle.mf_guarantees.proofs.EnteredLemmas.{LedgersAfter, ledgers_after, same_account}
use Rattle.mf_guarantees.proofs.ReceiptSteps.{use_now, used_now, used_only, Enters, line_enters, told_so, IsOf}
use Rattle.mf_guarantees.proofs.ReceiptSteps.{is_of}
use Rattle.mf_guarantees.proofs.ShuffleLemmas.{IsAmong, EachOnce}

-- ---- one of a list

contains_cases : {X : Type 0} (x y : X) (xs : List X) → Contains (x ∷ xs) y → (x ≡ y) ⊎ Contains xs y
contains_cases x y xs (zero, within, is) = inl is
contains_cases x y xs (suc k, within, is) = inr (k, omega (arith, within), is)

contains_first : {X : Type 0} (x : X) (xs : List X) → Contains (x ∷ xs) x
contains_first x xs = (0, omega arith, refl)

contains_more : {X : Type 0} (x y : X) (xs : List X) → Contains xs y → Contains (x ∷ xs) y
contains_more x y xs (k, within, is) = (suc k, omega (arith, within), is)

-- ---- which requests were taken

abbrev pub IsTaken : Account → Repayment → List Line → Institution → Type 0
IsTaken loan asked ls i = Contains (taken_in ls i) (request.Loan loan (Repay asked))

pub none_taken : (loan : Account) (asked : Repayment) (i : Institution) → IsTaken loan asked [] i → ⊥
none_taken loan asked i (k, within, is) = omega (arith, within)

module _ (l : Line) (ls : List Line) (i : Institution) (r : Request) where
  pub taken_cases : Contains (taken_in (l ∷ ls) i) r
      → ((is_entry_told (answer l i) ≡ true) × (l.call.request ≡ r)) ⊎ Contains (taken_in ls (next l i)) r
  taken_cases taken = go (is_entry_told (answer l i)) refl taken
    where
      go : (b : Bool) → is_entry_told (answer l i) ≡ b
          → Contains (cond b (l.call.request ∷ taken_in ls (next l i)) (taken_in ls (next l i))) r
          → ((is_entry_told (answer l i) ≡ true) × (l.call.request ≡ r)) ⊎ Contains (taken_in ls (next l i)) r
      go true e taken = elim (contains_cases l.call.request r (taken_in ls (next l i)) taken) [
        | inl is ↦ inl (e, is)
        | inr more ↦ inr more
      ]
      go false e taken = inr taken

  taken_more : Contains (taken_in ls (next l i)) r → Contains (taken_in (l ∷ ls) i) r
  taken_more more = go (is_entry_told (answer l i))
    where
      go : (b : Bool) → Contains (cond b (l.call.request ∷ taken_in ls (next l i)) (taken_in ls (next l i))) r
      go true = contains_more l.call.request r (taken_in ls (next l i)) more
      go false = more

  taken_first : is_entry_told (answer l i) ≡ true → l.call.request ≡ r → Contains (taken_in (l ∷ ls) i) r
  taken_first told is =
      subst (λ b. Contains (cond b (l.call.request ∷ taken_in ls (next l i)) (taken_in ls (next l i))) r) (sym told)
      (subst (λ (x : Request). Contains (x ∷ taken_in ls (next l i)) r) (sym is)
      (contains_first r (taken_in ls (next l i))))

-- ---- what a run leaves of a loan

-- an entry but for its number and who made it
abbrev pub bare : Entry → Entry
bare e = record e { seq = 0; staff = record { office = 1; staff = 1 } }

-- the entry that a repayment makes, so
abbrev pub bare_of : Repayment → Entry
bare_of asked = record {
  seq = 0;
  kind = kind.Repay;
  day = asked.day;
  amount = asked.amount;
  instalment = 0;
  portion = Principal;
  receipt = asked.receipt;
  staff = record { office = 1; staff = 1 };
  reversed = false;
}

-- the entry was made by a repayment that was taken, whose receipt was not known before
pub record IsCollected (loan : Account) (ls : List Line) (i : Institution) (e : Entry) : Type 0 where
  pub asked : Repayment
  pub receipt : List ℕ
  pub taken : IsTaken loan asked ls i
  pub receipt_is : asked.receipt ≡ Some receipt
  pub free : use_at loan.office receipt i ≡ None
  pub entry_is : bare e ≡ bare_of asked

abbrev pub with_more : List Entry → Ledger → Ledger
with_more news l = record l { entries = l.entries ++ news }

-- A loan has got an entry for each repayment that was taken with a receipt that was not known before, and no other.
pub record Collects (loan : Account) (ls : List Line) (i : Institution) : Type 0 where
  pub catalogue : (last ls i).catalogue ≡ i.catalogue
  pub news : List Entry
  pub ledger : ledger_at loan (last ls i) ≡ option_map (with_more news) (ledger_at loan i)
  pub each : AllByRecursion (IsCollected loan ls i) news
  pub all : (asked : Repayment) (receipt : List ℕ) → IsTaken loan asked ls i → asked.receipt ≡ Some receipt
      → use_at loan.office receipt i ≡ None → IsAmong (bare_of asked) (map bare news)
  pub once : EachOnce (map bare news)

no_more : (o : Option Ledger) → o ≡ option_map (with_more []) o
no_more None = refl
no_more (Some l) = ap (λ (es : List Entry). Some (record l { entries = es })) (sym (append-nil l.entries))

collects_none : (loan : Account) (i : Institution) → Collects loan [] i
collects_none loan i = record {
  catalogue = refl;
  news = [];
  ledger = no_more (ledger_at loan i);
  each = tt;
  all = λ asked receipt taken has free. absurd (none_taken loan asked i taken);
  once = tt;
}

-- which of them one is
record IsOne (P : Entry → Type 0) (x : Entry) : Type 0 where
  entry : Entry
  so : P entry
  is : x ≡ bare entry

pub one_of : (P : Entry → Type 0) (x : Entry) (es : List Entry) → AllByRecursion P es → IsAmong x (map bare es)
    → (e : Entry) × P e × (x ≡ bare e)
one_of P x [] all among = absurd among
one_of P x (e ∷ es) all (inl is) = (e, all.0, is)
one_of P x (e ∷ es) all (inr among) = one_of P x es all.1 among

-- ---- receipts stay known

pub some_none : {A : Type 0} (o : Option A) (x : A) → o ≡ Some x → o ≡ None → ⊥
some_none o x is none = cc

module _ (l : Line) (i : Institution) (s : IsSound i) (range : AreInRange (l ∷ [])) where
  -- a receipt that is not known after a line was not known before
  earlier : (x : ℕ) (r : List ℕ) → use_at x r (next l i) ≡ None → use_at x r i ≡ None
  earlier x r free = go (use_at x r i) refl
    where
      go : (o : Option Use) → use_at x r i ≡ o → o ≡ None
      go None e = refl
      go (Some u) e = absurd (some_none (use_at x r (next l i)) u (known_last (l ∷ []) i s range x r u e) free)

-- a repayment that is taken while its receipt is known is of the loan, the amount and the day of the entry
taken_as_known : (loan : Account) (asked : Repayment) (r : List ℕ) (u : Use) (ls : List Line) (i : Institution)
    → IsSound i → AreInRange ls → asked.receipt ≡ Some r → use_at loan.office r i ≡ Some u
    → IsTaken loan asked ls i → IsOf loan.number asked.amount asked.day u.by
taken_as_known loan asked r u [] i s range has used taken = absurd (none_taken loan asked i taken)
taken_as_known loan asked r u (l ∷ ls) i s range has used taken =
    elim (taken_cases l ls i (request.Loan loan (Repay asked)) taken) [
      | inl here ↦ elim (told_so l i loan asked r here.1 has here.0) [
        | inl known ↦
            let same : Some known.used ≡ Some u = sym known.used_is ∙ used in
            let is : known.used ≡ u = cc in
            subst (λ (v : Use). IsOf loan.number asked.amount asked.day v.by) is
            (is_of loan.number asked.amount asked.day known.seq known.used.by known.same)
        | inr new ↦ absurd (some_none (use_at loan.office r i) u used new.0)
      ]
      | inr more ↦ taken_as_known loan asked r u ls (next l i) (next_sound l i s range.0) range.1 has
          (known_last (l ∷ []) i s (range.0, tt) loan.office r u used) more
    ]

-- ---- one line that leaves the loan as it was

module _ (loan : Account) (l : Line) (ls : List Line) (i : Institution) where
  record LeavesIt : Type 0 where
    catalogue : (next l i).catalogue ≡ i.catalogue
    ledger : ledger_at loan (next l i) ≡ ledger_at loan i
    before : (r : List ℕ) → use_at loan.office r (next l i) ≡ None → use_at loan.office r i ≡ None
    later : (asked : Repayment) (r : List ℕ) → IsTaken loan asked ls (next l i) → asked.receipt ≡ Some r
        → use_at loan.office r i ≡ None → use_at loan.office r (next l i) ≡ None
    not_this : (asked : Repayment) (r : List ℕ) → is_entry_told (answer l i) ≡ true
        → l.call.request ≡ request.Loan loan (Repay asked) → asked.receipt ≡ Some r
        → use_at loan.office r i ≡ None → ⊥

  still : (before : (r : List ℕ) → use_at loan.office r (next l i) ≡ None → use_at loan.office r i ≡ None)
      (e : Entry) → IsCollected loan ls (next l i) e → IsCollected loan (l ∷ ls) i e
  still before e w = record {
    asked = w.asked;
    receipt = w.receipt;
    taken = taken_more l ls i (request.Loan loan (Repay w.asked)) w.taken;
    receipt_is = w.receipt_is;
    free = before w.receipt w.free;
    entry_is = w.entry_is;
  }

  left : LeavesIt → Collects loan ls (next l i) → Collects loan (l ∷ ls) i
  left it c = record {
    catalogue = c.catalogue ∙ it.catalogue;
    news = c.news;
    ledger = c.ledger ∙ ap (option_map (with_more c.news)) it.ledger;
    each = all_map (IsCollected loan ls (next l i)) (IsCollected loan (l ∷ ls) i) c.news (still it.before) c.each;
    all = λ asked r taken has free. elim (taken_cases l ls i (request.Loan loan (Repay asked)) taken) [
      | inl here ↦ absurd (it.not_this asked r here.0 here.1 has free)
      | inr more ↦ c.all asked r more has (it.later asked r more has free)
    ];
    once = c.once;
  }

  by_nothing : change_of_line l i ≡ None → LeavesIt
  by_nothing none =
      let same : next l i ≡ i = ap (λ (c : Option Change). after_line (noted_of l.call i) c i) none in
      record {
        catalogue = ap (λ (j : Institution). j.catalogue) same;
        ledger = ap (ledger_at loan) same;
        before = λ r free. sym (ap (use_at loan.office r) same) ∙ free;
        later = λ asked r taken has free. ap (use_at loan.office r) same ∙ free;
        not_this = λ asked r told is has free. elim (told_so l i loan asked r is has told) [
          | inl known ↦ some_none (use_at loan.office r i) known.used known.used_is free
          | inr new ↦ nothing (change_of_line l i) none new.1
        ];
      }
    where
      nothing : (o : Option Change) → o ≡ None → is_some o ≡ true → ⊥
      nothing None none some = cc
      nothing (Some c) none some = cc

-- ---- one line that enters a repayment

module _ (l : Line) (i : Institution) (w : Enters l i) where
  abbrev made : Entry
  made = repayment w.asked w.caller w.account

  abbrev loans_now : List Ledger
  loans_now = (loan_changed w.loan.number (with_new_entry made) w.office.rows).loans

  ledgers : LedgersAfter w.loan w.ledger (with_new_entry made w.ledger) i
      (after (Rows_become w.loan.office (loan_changed w.loan.number (with_new_entry made) w.office.rows)) i)
  ledgers = ledgers_after w.loan i w.office w.ledger (with_new_entry made) w.office_is w.ledger_is

  use_before : (r : List ℕ) → use_at w.loan.office r i ≡ first_use r (uses_from 1 w.office.rows.loans)
  use_before r = ap (λ (o : Option Office). first_use r (uses_from 1 (rows_of o).loans)) w.office_is

  use_after : (r : List ℕ) → use_at w.loan.office r (next l i) ≡ first_use r (uses_from 1 loans_now)
  use_after r =
      let x : ℕ = w.loan.office in
      let new = loan_changed w.loan.number (with_new_entry made) w.office.rows in
      let here : office_at x (with_rows x new i.offices) ≡ Some (record w.office { rows = new }) =
      rows_found x new i.offices ∙ ap (option_map (λ (g : Office). record g { rows = new })) w.office_is in
      ap (use_at x r) w.next_is ∙ ap (λ (o : Option Office). first_use r (uses_from 1 (rows_of o).loans)) here

  pub own_use : use_at w.loan.office w.receipt (next l i) ≡ Some (use_now w.receipt w.loan.number made)
  own_use = use_after w.receipt
      ∙ used_now w.loan.number made w.receipt w.office.rows.loans w.ledger w.receipt_is w.ledger_is w.free

  record IsThis (x : ℕ) (r : List ℕ) (u : Use) : Type 0 where
    office : x ≡ w.loan.office
    use_is : u ≡ use_now w.receipt w.loan.number made
    receipt : w.receipt ≡ r

  -- no other receipt has become known
  only_use : (x : ℕ) (r : List ℕ) (u : Use) → use_at x r i ≡ None → use_at x r (next l i) ≡ Some u → IsThis x r u
  only_use x r u free used = elim (cases_eq x w.loan.office) [
    | inl same ↦
        let none = sym (use_before r) ∙ ap (λ y. use_at y r i) (sym same) ∙ free in
        let some = sym (use_after r) ∙ ap (λ y. use_at y r (next l i)) (sym same) ∙ used in
        let is = used_only w.loan.number made w.receipt w.office.rows.loans w.ledger w.receipt_is w.ledger_is r u none
        some in
        record { office = same; use_is = is.0; receipt = is.1 }
    | inr other ↦
        let new = loan_changed w.loan.number (with_new_entry made) w.office.rows in
        let stays : use_at x r (next l i) ≡ use_at x r i =
        ap (use_at x r) w.next_is
        ∙ ap (λ (o : Option Office). first_use r (uses_from 1 (rows_of o).loans))
        (others_stay w.loan.office x new i.offices other) in
        absurd (some_none (use_at x r i) u (sym stays ∙ used) free)
  ]

  module _ (ls : List Line) (s : IsSound i) (range : AreInRange (l ∷ ls)) where
    before_too : (x : ℕ) (r : List ℕ) → use_at x r (next l i) ≡ None → use_at x r i ≡ None
    before_too = earlier l i s (range.0, tt)

    -- what is taken later with a receipt that has become known is just this repayment
    taken_again : (loan : Account) (asked : Repayment) (r : List ℕ) (u : Use) → IsTaken loan asked ls (next l i)
        → asked.receipt ≡ Some r → use_at loan.office r (next l i) ≡ Some u
        → IsOf loan.number asked.amount asked.day u.by
    taken_again loan asked r u taken has used =
        taken_as_known loan asked r u ls (next l i) (next_sound l i s range.0) range.1 has used taken

    elsewhere : (loan : Account) → loan ≢ w.loan → LeavesIt loan l ls i
    elsewhere loan apart = record {
      catalogue = ap (λ (j : Institution). j.catalogue) w.next_is;
      ledger = ap (ledger_at loan) w.next_is ∙ ledgers.others loan apart;
      before = before_too loan.office;
      later = λ asked r taken has free. go asked r taken has free (use_at loan.office r (next l i)) refl;
      not_this = λ asked r told is has free.
          let same : w.loan ≡ loan =
          let both : request.Loan w.loan (Repay w.asked) ≡ request.Loan loan (Repay asked) = sym w.request_is ∙ is in
          cc in
          apart (sym same);
    }
      where
        go : (asked : Repayment) (r : List ℕ) → IsTaken loan asked ls (next l i) → asked.receipt ≡ Some r
            → use_at loan.office r i ≡ None → (o : Option Use) → use_at loan.office r (next l i) ≡ o → o ≡ None
        go asked r taken has free None e = refl
        go asked r taken has free (Some u) e =
            let this = only_use loan.office r u free e in
            let of = taken_again loan asked r u taken has e in
            let number : loan.number ≡ w.loan.number = sym of.loan_is ∙ ap (λ (v : Use). v.by.loan) this.use_is in
            absurd (apart (λ t. record { office = this.office t; number = number t }))

    abbrev Own : List Line → Institution → Type 0
    Own = Collects w.loan

    entered_too : Own ls (next l i) → Own (l ∷ ls) i
    entered_too c = record {
      catalogue = c.catalogue ∙ ap (λ (j : Institution). j.catalogue) w.next_is;
      news = made ∷ c.news;
      ledger = c.ledger
          ∙ ap (option_map (with_more c.news)) (ap (ledger_at w.loan) w.next_is ∙ ledgers.now)
          ∙ ap (λ (es : List Entry). Some (record w.ledger { entries = es }))
          (append_assoc w.ledger.entries (made ∷ []) c.news)
          ∙ sym (ap (option_map (with_more (made ∷ c.news))) ledgers.before);
      each = (
        first,
        all_map (IsCollected w.loan ls (next l i)) (IsCollected w.loan (l ∷ ls) i) c.news
            (still w.loan l ls i (before_too w.loan.office)) c.each,
      );
      all = λ asked r taken has free. elim (taken_cases l ls i (request.Loan w.loan (Repay asked)) taken) [
        | inl here ↦ inl (ap bare_of (sym (this_one asked here.1)))
        | inr more ↦ go asked r more has free (use_at w.loan.office r (next l i)) refl
      ];
      once = (apart, c.once);
    }
      where
        first : IsCollected w.loan (l ∷ ls) i made
        first = record {
          asked = w.asked;
          receipt = w.receipt;
          taken = taken_first l ls i (request.Loan w.loan (Repay w.asked)) w.told w.request_is;
          receipt_is = w.receipt_is;
          free = use_before w.receipt ∙ w.free;
          entry_is = refl;
        }

        this_one : (asked : Repayment) → l.call.request ≡ request.Loan w.loan (Repay asked) → w.asked ≡ asked
        this_one asked is =
            let both : request.Loan w.loan (Repay w.asked) ≡ request.Loan w.loan (Repay asked) =
            sym w.request_is ∙ is in
            cc

        go : (asked : Repayment) (r : List ℕ) → IsTaken w.loan asked ls (next l i) → asked.receipt ≡ Some r
            → use_at w.loan.office r i ≡ None → (o : Option Use) → use_at w.loan.office r (next l i) ≡ o
            → IsAmong (bare_of asked) (bare made ∷ map bare c.news)
        go asked r taken has free None e = inr (c.all asked r taken has e)
        go asked r taken has free (Some u) e =
            let this = only_use w.loan.office r u free e in
            let of = taken_again w.loan asked r u taken has e in
            let amount : asked.amount ≡ w.asked.amount =
            sym of.amount_is ∙ ap (λ (v : Use). v.by.amount) this.use_is in
            let day : asked.day ≡ w.asked.day = sym of.day_is ∙ ap (λ (v : Use). v.by.day) this.use_is in
            let receipt : asked.receipt ≡ w.asked.receipt = has ∙ ap Some (sym this.receipt) ∙ sym w.receipt_is in
            inl (ap bare_of (λ t. record { amount = amount t; day = day t; receipt = receipt t }))

        apart : IsAmong (bare made) (map bare c.news) → ⊥
        apart among =
            let one = one_of (IsCollected w.loan ls (next l i)) (bare made) c.news c.each among in
            let other = one.1 in
            let same : Some w.receipt ≡ Some other.receipt =
            sym w.receipt_is ∙ ap (λ (e : Entry). e.receipt) (one.2 ∙ other.entry_is) ∙ other.receipt_is in
            let is : w.receipt ≡ other.receipt = cc in
            some_none (use_at w.loan.office w.receipt (next l i)) (use_now w.receipt w.loan.number made) own_use
            (ap (λ r. use_at w.loan.office r (next l i)) is ∙ other.free)

-- ---- a run

pub collects : (loan : Account) (ls : List Line) (i : Institution) → IsSound i → AreInRange ls → OnlyReceipts ls i
    → Collects loan ls i
collects loan [] i s range only = collects_none loan i
collects loan (l ∷ ls) i s range only =
    let rest = collects loan ls (next l i) (next_sound l i s range.0) range.1 only.1 in
    elim (line_enters l i only.0) [
      | inl none ↦ left loan l ls i (by_nothing loan l ls i none) rest
      | inr w ↦ elim (same_account loan w.loan) [
        | inl same ↦
            subst (λ (a : Account). Collects a (l ∷ ls) i) (sym same)
            (entered_too l i w ls s range (subst (λ (a : Account). Collects a ls (next l i)) same rest))
        | inr apart ↦ left loan l ls i (elsewhere l i w ls s range loan apart) rest
      ]
    ]
