-- Lines that play, and the text of their transactions.
use Rattle.std.proofs.Common.{◌≡◌, ℕ, zero, suc, ◌+◌, true, false, List, [], ◌∷◌, ◌++◌, map, take, length, Some}
use Rattle.std.proofs.Common.{None, Result, Ok, Err, refl, sym, ap, ap₂, ◌∙◌, subst, arith, append-nil, append_assoc}
use Rattle.std.specs.Prelude.{◌&&◌, nat_le, slice_get, option_map, IfOk}
use Rattle.std.specs.List.{flat_map}
use Rattle.std.proofs.Math.Seq.{take-length}
use Rattle.std.proofs.lemmas.List.{length-map}
use Rattle.std.proofs.lemmas.Option.{slice_get-map}
use Rattle.mf_base.specs.declared.fault.Fault.{Fault}
use Rattle.mf_journal.specs.Chain.{line_of_row}
use Rattle.mf_journal.specs.declared.chain.JournalRow.{JournalRow}
use Rattle.mf_ledger.specs.Basis.{booked, booked_of}
use Rattle.mf_ledger.specs.declared.basis.Basis.TheVariants.{Accrual}
use Rattle.mf_ledger.specs.declared.books.Posting.{Posting}
use Rattle.mf_ledger.specs.declared.occasion.Occasion.{Occasion}
use Rattle.mf_ledger.specs.Runs.{between}
use Rattle.mf_model.specs.Institution.{Institution, JournalLine}
use Rattle.mf_model.specs.Store.{Reads}
use Rattle.mf_model.specs.declared.store.InstitutionStore.{Ghosts}
use Rattle.mf_play.specs.Play.{IsPlayed, PlaysTo}
use Rattle.mf_play.specs.Playing.{PlaysLine}
use Rattle.mf_play.specs.declared.stop.Stop.{Stop}
use Rattle.mf_ledger_play.specs.Due.{passed_of}
use Rattle.mf_ledger_play.specs.Told.{adjusted_postings, form_booked, form_text, loan_told, moved, moved_postings}
use Rattle.mf_ledger_play.specs.Told.{run_told, span_text, state_at}
use Rattle.mf_ledger_play.specs.Playing.{AddsPassed, BooksLine, BooksLines, IsBooked, MovesLine, OwnLine, own_of}
use Rattle.mf_ledger_play.specs.declared.form.BooksAsked.{BooksAsked}
use Rattle.mf_ledger_play.specs.declared.line.Booking.{Booking}
use Rattle.mf_ledger_play.specs.declared.line.LoanMoved.{LoanMoved}
use Rattle.mf_ledger_play.specs.declared.loans.LoanState.{LoanState}
use Rattle.mf_ledger_play.proofs.RunLemmas.{booked_alone, booked_by_parts, booked_parted, moved_within, named_told}
use Rattle.mf_ledger_play.proofs.RunLemmas.{of_line, own_moved, own_none, own_outside, read_in, span_text_parted}

-- ---- what is written

-- lines behind lines
pub more_booked : (asked : BooksAsked) (n m : ℕ) (lines more : List JournalLine) (i j : Institution)
    (was mid now : List ℕ) → m ≡ n + length lines → PlaysTo i lines j → IsBooked asked n lines i was mid
    → IsBooked asked m more j mid now → IsBooked asked n (lines ++ more) i was now
more_booked asked n m lines more i j was mid now number plays first second = record {
  text = second.text
      ∙ ap₂ (λ text k. text ++ span_text asked (booked asked.basis k (run_told more) j)) first.text number
      ∙ append_assoc was (span_text asked (booked asked.basis n (run_told lines) i))
      (span_text asked (booked asked.basis (n + length lines) (run_told more) j))
      ∙ ap (λ text. was ++ text) (sym (ap (span_text asked) (booked_parted asked.basis n i j lines more plays)
      ∙ span_text_parted asked (booked asked.basis n (run_told lines) i)
      (booked asked.basis (n + length lines) (run_told more) j)));
}

pub no_lines_booked : (asked : BooksAsked) (n : ℕ) (i : Institution) (text : List ℕ) → IsBooked asked n [] i text text
no_lines_booked asked n i text = record { text = sym (append-nil text) }

-- what a line on a loan is of
abbrev pub occasion_of_line : Booking → Occasion
occasion_of_line b = record { day = b.day; number = b.number; loan = Some b.loan }

-- the transaction of a line on a loan, and its adjusting one behind it
pub both_written : (asked : BooksAsked) (b : Booking) (m : LoanMoved) (cash added : List Posting) (was mid now : List ℕ)
    → cash ≡ moved_postings b m → added ≡ adjusted_postings b m
    → mid ≡ was ++ form_booked asked.form asked.names (occasion_of_line b) cash
    → now ≡ mid ++ form_booked asked.form asked.names (occasion_of_line b) added
    → now ≡ was ++ flat_map (form_text asked.form asked.names) (moved Accrual b m)
both_written asked b m cash added was mid now cash_is added_is first second =
    let write : List Posting → List ℕ = form_booked asked.form asked.names (occasion_of_line b) in
    let one = write (moved_postings b m) in
    let two = write (adjusted_postings b m) in
    second ∙ ap₂ (λ text ps. text ++ write ps) (first ∙ ap (λ ps. was ++ write ps) cash_is) added_is
    ∙ append_assoc was one two ∙ ap (λ text. was ++ (one ++ text)) (sym (append-nil two))

-- ---- a line

-- what was read before and after
abbrev pair : LoanState → LoanState → LoanMoved
pair before after = record { before = before; after = after }

module _ {S : Type 0} (store : Ghosts S) where
  -- its loan was read before it and after it
  pub line_moved : (l : JournalLine) (b : Booking) (m : LoanMoved) (old mid late new : S)
      → Reads store.stands store.clean store.leaves (state_at b.day b.loan) old mid (Ok m.before)
      → PlaysLine store l mid late (Ok (Ok tt))
      → Reads store.stands store.clean store.leaves (state_at b.day b.loan) late new (Ok m.after)
      → MovesLine store b l old new (Ok m)
  line_moved l b m old mid late new first plays second = record {
    premise = λ k. first.premise (plays.premise (second.premise k));
    came = λ k i s.
        let k-late = second.premise k in
        let k-mid = plays.premise k-late in
        let went = plays.came k-late i (first.same k-mid i s) in
        let j = went.0 in (
          j,
          went.1,
          second.same k j went.2,
          first.value_is k-mid i s,
          second.value_is k j went.2,
        );
  }

  -- it doesn't play
  pub line_stopped : (l : JournalLine) (b : Booking) (before : LoanState) (why : Stop) (old mid new : S)
      → Reads store.stands store.clean store.leaves (state_at b.day b.loan) old mid (Ok before)
      → PlaysLine store l mid new (Ok (Err why)) → MovesLine store b l old new (Err why)
  line_stopped l b before why old mid new first plays = record {
    premise = λ k. first.premise (plays.premise k);
    came = λ k i s. (plays.came k i (first.same (plays.premise k) i s)).0;
  }

  module _ (asked : BooksAsked) (number day : ℕ) (l : JournalLine) where
    -- nothing is to be written of its request
    unwritten : (text : List ℕ) (old new : S) (result : Result (Result (Unit {0}) Stop) Fault)
        → ((i j : Institution) (p : IsPlayed i l j) → day ≡ i.catalogue.day
        → between asked.first asked.last (own_of asked.basis number p.call.request i j) ≡ [])
        → PlaysLine store l old new result → IfOk result (OwnLine store asked number day l text text old new)
    unwritten text old new (Ok (Ok done)) none plays = record {
      premise = plays.premise;
      came = λ k i s. let went = plays.came k i s in (
        went.0,
        went.1,
        went.2,
        λ today. sym (append-nil text) ∙ ap (λ ts. text ++ flat_map (form_text asked.form asked.names) ts)
            (sym (none i went.0 went.1 today)),
      );
    }
    unwritten text old new (Ok (Err why)) none plays = record {
      premise = plays.premise;
      came = λ k i s. (plays.came k i s).0;
    }
    unwritten text old new (Err fault) none plays = tt

    -- its day isn't asked for
    pub outside_written : (text : List ℕ) (old new : S) (result : Result (Result (Unit {0}) Stop) Fault)
        → (nat_le asked.first day && nat_le day asked.last) ≡ false → PlaysLine store l old new result
        → IfOk result (OwnLine store asked number day l text text old new)
    outside_written text old new result outside plays =
        unwritten text old new result (λ i j p is. own_outside asked.basis asked.first asked.last number
        p.call.request i j (ap (λ d. nat_le asked.first d && nat_le d asked.last) (sym is) ∙ outside)) plays

    -- it is on no loan
    pub none_written : (text : List ℕ) (old new : S) (result : Result (Result (Unit {0}) Stop) Fault)
        → loan_told l ≡ None → PlaysLine store l old new result
        → IfOk result (OwnLine store asked number day l text text old new)
    none_written text old new result none plays =
        unwritten text old new result (λ i j p is. ap (between asked.first asked.last)
        (own_none asked.basis p.call.request number i j (named_told i j l p ∙ none))) plays

    module _ (b : Booking) (its : b ≡ of_line number day b.loan) (on : loan_told l ≡ Some b.loan) where
      -- it is on a loan
      pub loan_written : (m : LoanMoved) (was now : List ℕ) (old new : S)
          → (nat_le asked.first day && nat_le day asked.last) ≡ true → MovesLine store b l old new (Ok m)
          → now ≡ was ++ flat_map (form_text asked.form asked.names) (moved asked.basis b m)
          → OwnLine store asked number day l was now old new (Ok tt)
      loan_written m was now old new within moves written = record {
        premise = moves.premise;
        came = λ k i s. let went = moves.came k i s in (
          went.0,
          went.1,
          went.2,
          λ today.
              let j = went.0 in
              let dated : b.day ≡ i.catalogue.day = ap (λ (x : Booking). x.day) its ∙ today in
              let own = own_moved asked.basis went.1.call.request b.loan number i j (named_told i j l went.1 ∙ on) in
              let same : moved asked.basis b m
              ≡ moved asked.basis (of_line number i.catalogue.day b.loan) (read_in i.catalogue.day b.loan i j) =
              ap₂ (moved asked.basis) (its ∙ ap (λ d. of_line number d b.loan) today)
              (ap₂ pair went.3 went.4
              ∙ ap (λ d. read_in d b.loan i j) dated) in
              written ∙ ap (λ ts. was ++ flat_map (form_text asked.form asked.names) ts) (
              sym (moved_within asked.basis asked.first asked.last b m
              (ap (λ (x : Booking). nat_le asked.first x.day && nat_le x.day asked.last) its ∙ within))
              ∙ ap (between asked.first asked.last) (same ∙ sym own)),
        );
      }

      -- it doesn't play
      pub loan_stopped : (why : Stop) (was now : List ℕ) (old new : S) → MovesLine store b l old new (Err why)
          → OwnLine store asked number day l was now old new (Err why)
      loan_stopped why was now old new moves = record { premise = moves.premise; came = moves.came }

  module _ (asked : BooksAsked) (n number day : ℕ) (l : JournalLine) (is : number ≡ n + 1) (old mid : S)
      (today : Reads store.stands store.clean store.leaves (λ i. i.catalogue.day) old mid (Ok day)) where
    -- the transactions of its request are written, and those of the days that pass
    pub line_booked : (was text now : List ℕ) (late new : S)
        → OwnLine store asked number day l was text mid late (Ok tt)
        → AddsPassed store asked number day text now late new → BooksLine store asked n l was now old new (Ok tt)
    line_booked was text now late new own adds = record {
      premise = λ k. today.premise (own.premise (adds.premise k));
      came = λ k i s.
          let k-late = adds.premise k in
          let k-mid = own.premise k-late in
          let went = own.came k-late i (today.same k-mid i s) in
          let dated = today.value_is k-mid i s in
          let j = went.0 in
          let r = went.1.call.request in
          let first = own_of asked.basis number r i j in
          let later = passed_of asked.basis number day j in (
            j,
            went.1,
            adds.same k j went.2,
            record {
              text = adds.text k j went.2 ∙ ap (λ t. t ++ span_text asked later) (went.3 dated)
                  ∙ append_assoc was (span_text asked first) (span_text asked later)
                  ∙ ap (λ t. was ++ t) (sym (span_text_parted asked first later)
                  ∙ ap (λ d. span_text asked (first ++ passed_of asked.basis number d j)) dated
                  ∙ ap (span_text asked) (sym (booked_by_parts asked.basis number r i j))
                  ∙ ap (λ m. span_text asked (booked_of asked.basis m r i j)) is
                  ∙ ap (span_text asked) (sym (booked_alone asked.basis n i j l went.1)));
            },
          );
    }

    -- it doesn't play
    pub line_unplayed : (why : Stop) (was text now : List ℕ) (new : S)
        → OwnLine store asked number day l was text mid new (Err why)
        → BooksLine store asked n l was now old new (Err why)
    line_unplayed why was text now new own = record {
      premise = λ k. today.premise (own.premise k);
      came = λ k i s. own.came k i (today.same (own.premise k) i s);
    }

-- ---- line by line

-- one line more
one_more : (i j k : Institution) (lines : List JournalLine) (place : ℕ) (l : JournalLine)
    → slice_get lines place ≡ Some l → PlaysTo i (take place lines) j → IsPlayed j l k
    → PlaysTo i (take (suc place) lines) k
one_more i j k [] place l there p one = cc
one_more i j k (x ∷ xs) zero l there p one =
    let same : x ≡ l = cc in
    (k, subst (λ y. IsPlayed i y k) (sym same) (subst (λ m. IsPlayed m l k) p one), refl)
one_more i j k (x ∷ xs) (suc place) l there p one = (p.0, p.1, one_more p.0 j k xs place l there p.2 one)

-- the first lines with the next
next_taken : (lines : List JournalLine) (place : ℕ) (l : JournalLine) → slice_get lines place ≡ Some l
    → take place lines ++ l ∷ [] ≡ take (suc place) lines
next_taken [] place l there = cc
next_taken (x ∷ xs) zero l there = let same : x ≡ l = cc in ap (λ y. y ∷ []) (sym same)
next_taken (x ∷ xs) (suc place) l there = ap (λ ls. x ∷ ls) (next_taken xs place l there)

-- how many there are
taken_size : (lines : List JournalLine) (place : ℕ) (l : JournalLine) → slice_get lines place ≡ Some l
    → length (take place lines) ≡ place
taken_size [] place l there = cc
taken_size (x ∷ xs) zero l there = refl
taken_size (x ∷ xs) (suc place) l there = ap suc (taken_size xs place l there)

-- the line at a row's place
line_there : (rows : List JournalRow) (place : ℕ) (row : JournalRow) → slice_get rows place ≡ Some row
    → slice_get (map line_of_row rows) place ≡ Some (line_of_row row)
line_there rows place row there = slice_get-map line_of_row rows place ∙ ap (option_map line_of_row) there

module _ {S : Type 0} (store : Ghosts S) (asked : BooksAsked) (n : ℕ) where
  -- the rows before a place played, and the store stands for what was reached
  pub record HaveBooked (rows : List JournalRow) (place : ℕ) (was text : List ℕ) (old now : S) : Type 0 where
    pub premise : store.clean now → store.clean old
    pub reached : store.clean now → (i : Institution) → store.stands old i → (j : Institution)
        × PlaysTo i (take place (map line_of_row rows)) j × store.stands now j
        × IsBooked asked n (take place (map line_of_row rows)) i was text

  none_taken : (rows : List JournalRow) → take 0 (map line_of_row rows) ≡ []
  none_taken [] = refl
  none_taken (r ∷ rs) = refl

  pub none_yet : (rows : List JournalRow) (text : List ℕ) (old : S) → HaveBooked rows 0 text text old old
  none_yet rows text old = record {
    premise = λ k. k;
    reached = λ k i s. (
      i,
      subst (λ ls. PlaysTo i ls i) (sym (none_taken rows)) refl,
      s,
      subst (λ ls. IsBooked asked n ls i text text) (sym (none_taken rows)) (no_lines_booked asked n i text),
    );
  }

  pub booked_more : (rows : List JournalRow) (place m : ℕ) (row : JournalRow) (was text next : List ℕ)
      (old now new : S) → slice_get rows place ≡ Some row → m ≡ n + place → HaveBooked rows place was text old now
      → BooksLine store asked m (line_of_row row) text next now new (Ok tt)
      → HaveBooked rows (place + 1) was next old new
  booked_more rows place m row was text next old now new there number so one =
      let lines = map line_of_row rows in
      let l = line_of_row row in
      let here = line_there rows place row there in
      let size = taken_size lines place l here in
      let step : suc place ≡ place + 1 = omega arith in
      subst (λ p. HaveBooked rows p was next old new) step (record {
        premise = λ k. so.premise (one.premise k);
        reached = λ k i s.
            let before = so.reached (one.premise k) i s in
            let after = one.came k before.0 before.2 in (
              after.0,
              one_more i before.0 after.0 lines place l here before.1 after.1,
              after.2,
              subst (λ ls. IsBooked asked n ls i was next) (next_taken lines place l here)
                  (more_booked asked n m (take place lines) (l ∷ []) i before.0 was text next
                  (number ∙ ap (λ p. n + p) (sym size)) before.1 before.3 after.3),
            );
      })

  pub stopped_there : (rows : List JournalRow) (place m : ℕ) (row : JournalRow) (why : Stop)
      (was text next other : List ℕ) (old now new : S) → slice_get rows place ≡ Some row
      → HaveBooked rows place was text old now
      → BooksLine store asked m (line_of_row row) text next now new (Err why)
      → BooksLines store asked n (map line_of_row rows) was other old new (Err (place, why))
  stopped_there rows place m row why was text next other old now new there so one = record {
    premise = λ k. so.premise (one.premise k);
    came = λ k i s.
        let before = so.reached (one.premise k) i s in
        record {
          reached = before.0;
          before = before.1;
          line = line_of_row row;
          there = line_there rows place row there;
          stops = one.came k before.0 before.2;
        };
  }

  pub all_booked : (rows : List JournalRow) (place : ℕ) (was text : List ℕ) (old new : S) → length rows ≡ place
      → HaveBooked rows place was text old new
      → BooksLines store asked n (map line_of_row rows) was text old new (Ok tt)
  all_booked rows place was text old new all so =
      let lines = map line_of_row rows in
      let whole : take place lines ≡ lines =
      ap (λ p. take p lines) (sym (length-map rows line_of_row ∙ all)) ∙ take-length lines in
      record {
        premise = so.premise;
        came = λ k i s. let to = so.reached k i s in (
          to.0,
          subst (λ ls. PlaysTo i ls to.0) whole to.1,
          to.2,
          subst (λ ls. IsBooked asked n ls i was text) whole to.3,
        );
      }
