-- What comes of playing lines on the institution that a store stands for, and writing their transactions behind a text.
use Rattle.std.specs.Prelude.{◌≡◌, ℕ, List, [], ◌∷◌, ◌++◌, map, Some, Result, Ok, Err}
use Rattle.mf_ledger.specs.Accrual.{adjusting_of}
use Rattle.mf_ledger.specs.Basis.{booked}
use Rattle.mf_ledger.specs.Runs.{transactions_of}
use Rattle.mf_ledger.specs.declared.basis.Basis.{Basis}
use Rattle.mf_ledger.specs.declared.basis.Basis.TheVariants.{Cash, Accrual}
use Rattle.mf_ledger.specs.declared.books.Transaction.{Transaction}
use Rattle.mf_model.specs.Institution.{Institution, JournalLine, Ledger}
use Rattle.mf_model.specs.Store.{ledger_at}
use Rattle.mf_model.specs.declared.request.Request.{Request}
use Rattle.mf_model.specs.declared.store.InstitutionStore.{Ghosts}
use Rattle.mf_play.specs.Play.{PlaysTo, StopsAt, IsPlayed, StopsFor}
use Rattle.mf_play.specs.declared.stop.Stop.{Stop}
use Rattle.mf_office.specs.declared.account.Account.{Account}
use Rattle.mf_ledger_play.specs.Due.{held_of, passed_of}
use Rattle.mf_ledger_play.specs.Told.{run_told, span_text, state_at}
use Rattle.mf_ledger_play.specs.declared.form.BooksAsked.{BooksAsked}
use Rattle.mf_ledger_play.specs.declared.held.HeldLoan.{HeldLoan}
use Rattle.mf_ledger_play.specs.declared.line.Booking.{Booking}
use Rattle.mf_ledger_play.specs.declared.line.LoanMoved.{LoanMoved}

module _ {S : Type 0} (store : Ghosts S) (b : Booking) where
  -- the line played, the store stands for what follows, and this was read of its loan before and after; or it doesn't
  -- play, for this
  abbrev pub CameToMoved : Institution → JournalLine → S → Result LoanMoved Stop → Type 0
  CameToMoved i l new (Ok m) = (j : Institution) × IsPlayed i l j × store.stands new j
      × (m.before ≡ state_at b.day b.loan i) × (m.after ≡ state_at b.day b.loan j)
  CameToMoved i l new (Err why) = StopsFor i l why

  -- the same of each institution that the store stood for, as long as the disk returns what was written
  pub record MovesLine (l : JournalLine) (old new : S) (result : Result LoanMoved Stop) : Type 0 where
    pub premise : store.clean new → store.clean old
    pub came : store.clean new → (i : Institution) → store.stands old i → CameToMoved i l new result

-- the transactions of a line but for those of the passing of days: of its request, where it is on a loan
abbrev pub own_of : Basis → ℕ → Request → Institution → Institution → List Transaction
own_of Cash n r i j = transactions_of n r i j
own_of Accrual n r i j = transactions_of n r i j ++ adjusting_of n r i j

module _ {S : Type 0} (store : Ghosts S) (asked : BooksAsked) (number day : ℕ) where
  -- The line played, and the store stands for what follows. Where it comes on this business day, the transactions of
  -- its request are written. Or it doesn't play, for this.
  abbrev pub CameToOwn : Institution → JournalLine → S → List ℕ → List ℕ → Result (Unit {0}) Stop → Type 0
  CameToOwn i l new was now (Ok done) = (j : Institution) × (p : IsPlayed i l j) × store.stands new j
      × (day ≡ i.catalogue.day → now ≡ was ++ span_text asked (own_of asked.basis number p.call.request i j))
  CameToOwn i l new was now (Err why) = StopsFor i l why

  -- the same of each institution that the store stood for, as long as the disk returns what was written
  pub record OwnLine (l : JournalLine) (was now : List ℕ) (old new : S) (result : Result (Unit {0}) Stop) : Type 0 where
    pub premise : store.clean new → store.clean old
    pub came : store.clean new → (i : Institution) → store.stands old i → CameToOwn i l new was now result

  -- the store stands for what it stood for, and what the days since this one add is written
  pub record AddsPassed (was now : List ℕ) (old new : S) : Type 0 where
    pub premise : store.clean new → store.clean old
    pub same : store.clean new → (i : Institution) → store.stands old i → store.stands new i
    pub text : store.clean new → (i : Institution) → store.stands old i
        → now ≡ was ++ span_text asked (passed_of asked.basis number day i)

module _ {S : Type 0} (store : Ghosts S) where
  -- the store stands for what it stood for, and these are held beside those that were
  pub record Holds (loans : Institution → List (Account × Ledger)) (was now : List HeldLoan) (old new : S)
      : Type 0 where
    pub premise : store.clean new → store.clean old
    pub same : store.clean new → (i : Institution) → store.stands old i → store.stands new i
    pub held : store.clean new → (i : Institution) → store.stands old i
        → now ≡ was ++ map (held_of i.catalogue) (loans i)

  -- the same of this loan alone, if it is there
  pub record HoldsAt (loan : Account) (was now : List HeldLoan) (old new : S) : Type 0 where
    pub premise : store.clean new → store.clean old
    pub same : store.clean new → (i : Institution) → store.stands old i → store.stands new i
    pub held : store.clean new → (i : Institution) → store.stands old i → (l : Ledger) → ledger_at loan i ≡ Some l
        → now ≡ was ++ held_of i.catalogue (loan, l) ∷ []

-- the text has the transactions of these lines behind what it had, where so many lines of the journal came before them
pub record IsBooked (asked : BooksAsked) (n : ℕ) (lines : List JournalLine) (i : Institution) (was now : List ℕ)
    : Type 0 where
  pub text : now ≡ was ++ span_text asked (booked asked.basis n (run_told lines) i)

module _ {S : Type 0} (store : Ghosts S) (asked : BooksAsked) (n : ℕ) where
  -- the line played, the store stands for what follows, and its transaction is written; or it doesn't play, for this
  abbrev pub CameTo : Institution → JournalLine → S → List ℕ → List ℕ → Result (Unit {0}) Stop → Type 0
  CameTo i l new was now (Ok done) =
      (j : Institution) × IsPlayed i l j × store.stands new j × IsBooked asked n (l ∷ []) i was now
  CameTo i l new was now (Err why) = StopsFor i l why

  -- the same of each institution that the store stood for, as long as the disk returns what was written
  pub record BooksLine (l : JournalLine) (was now : List ℕ) (old new : S) (result : Result (Unit {0}) Stop)
      : Type 0 where
    pub premise : store.clean new → store.clean old
    pub came : store.clean new → (i : Institution) → store.stands old i → CameTo i l new was now result

  -- The lines played, the store stands for what follows, and their transactions are written; or they stop at a place,
  -- for this.
  abbrev pub CameToOnLines : Institution → List JournalLine → S → List ℕ → List ℕ → Result (Unit {0}) (ℕ × Stop)
      → Type 0
  CameToOnLines i lines new was now (Ok done) =
      (j : Institution) × PlaysTo i lines j × store.stands new j × IsBooked asked n lines i was now
  CameToOnLines i lines new was now (Err found) = StopsAt i lines found.0 found.1

  -- the same of each institution that the store stood for, as long as the disk returns what was written
  pub record BooksLines (lines : List JournalLine) (was now : List ℕ) (old new : S)
      (result : Result (Unit {0}) (ℕ × Stop)) : Type 0 where
    pub premise : store.clean new → store.clean old
    pub came : store.clean new → (i : Institution) → store.stands old i → CameToOnLines i lines new was now result
