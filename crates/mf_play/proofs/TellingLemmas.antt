-- Lines that tell requests.
use Rattle.std.proofs.Common.{◌≡◌, ◌≤◌, ℕ, zero, suc, ◌+◌, List, [], ◌∷◌, map, take, length, Some, None}
use Rattle.std.proofs.Common.{sym, ap, ◌∙◌, subst, arith}
use Rattle.std.specs.Prelude.{slice_get, option_map}
use Rattle.std.proofs.lemmas.List.{length-map, take_all}
use Rattle.std.proofs.lemmas.Option.{slice_get-map}
use Rattle.mf_journal.specs.Chain.{line_of_row}
use Rattle.mf_journal.specs.declared.chain.JournalRow.{JournalRow}
use Rattle.mf_model.specs.Calls.{Call}
use Rattle.mf_model.specs.Desk.{outcome, change_in}
use Rattle.mf_model.specs.Institution.{Institution, Change, JournalLine, noted_line}
use Rattle.mf_model.specs.Run.{noted_of}
use Rattle.mf_play.specs.Play.{PlaysTo, IsAsReceived, TellsRequest, AllTellRequests, IsFirstUntold, call_told}
use Rattle.mf_play.proofs.Runs.{call_plays}

-- lines that play
pub all_told : (i j : Institution) (lines : List JournalLine) → PlaysTo i lines j → AllTellRequests lines
all_told i j [] plays = tt
all_told i j (l ∷ ls) plays = ((plays.1.call, plays.1.told), all_told plays.0 j ls plays.2)

-- what is noted of a request that changes something
pub noted_tells : (call : Call) (i : Institution) (change : Change) → IsAsReceived call
    → change_in (outcome call i) ≡ Some change → TellsRequest (noted_line i.catalogue.day (noted_of call i))
noted_tells call i change is made =
    let plays = call_plays call.caller call.request call.received i change is made in (plays.call, plays.told)

-- ---- rows, one after the other

abbrev pub TellSoFar : List JournalRow → ℕ → Type 0
TellSoFar rows place = AllTellRequests (take place (map line_of_row rows))

pub told_none : (rows : List JournalRow) → TellSoFar rows 0
told_none [] = tt
told_none (row ∷ rows) = tt

told_next : (rows : List JournalRow) (place : ℕ) (row : JournalRow) → slice_get rows place ≡ Some row
    → TellsRequest (line_of_row row) → TellSoFar rows place → TellSoFar rows (suc place)
told_next [] place row there one far = absurd (cc)
told_next (r ∷ rs) zero row there one far =
    let same : r ≡ row = cc in (subst (λ x. TellsRequest (line_of_row x)) (sym same) one, tt)
told_next (r ∷ rs) (suc place) row there one far = (far.0, told_next rs place row there one far.1)

pub told_more : (rows : List JournalRow) (place : ℕ) (row : JournalRow) → slice_get rows place ≡ Some row
    → TellsRequest (line_of_row row) → TellSoFar rows place → TellSoFar rows (place + 1)
told_more rows place row there one far =
    let next : suc place ≡ place + 1 = omega arith in
    subst (TellSoFar rows) next (told_next rows place row there one far)

pub told_all : (rows : List JournalRow) (place : ℕ) → length rows ≤ place → TellSoFar rows place
    → AllTellRequests (map line_of_row rows)
told_all rows place past far =
    let size = length-map rows line_of_row in
    subst AllTellRequests (take_all place (map line_of_row rows) (omega (arith, past, size))) far

pub untold : (rows : List JournalRow) (place : ℕ) (row : JournalRow) → slice_get rows place ≡ Some row
    → call_told (line_of_row row) ≡ None → TellSoFar rows place → IsFirstUntold (map line_of_row rows) place
untold rows place row there none far = record {
  before = far;
  line = line_of_row row;
  there = slice_get-map line_of_row rows place ∙ ap (option_map line_of_row) there;
  none = none;
}
