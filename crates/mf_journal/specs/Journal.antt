-- The journal of an institution: one line for each request that was accepted and changed something.
use Rattle.std.specs.Prelude.{◌≡◌, ℕ, cond, List, [], ◌∷◌, ◌++◌, map, is_some, Option, option_map, Result}
use Rattle.mf_base.specs.declared.fault.Fault.{Fault}
use Rattle.mf_model.specs.Calls.{Call}
use Rattle.mf_model.specs.declared.reply.Reply.{Reply}
use Rattle.mf_model.specs.Institution.{Institution, JournalLine, noted_line}
use Rattle.mf_model.specs.Run.{Line, change_of_line, answer, named_by, next, last}
use Rattle.mf_model.specs.Answering.{all_answered}

-- a write that was accepted: the business day on which the request came, the request, and what it was told
pub record AcceptedWrite : Type 0 where
  pub day : ℕ
  pub call : Call
  pub told : Result Reply Fault

-- the write that a line of a run is, if it changes something
abbrev pub write_of : Line → Institution → AcceptedWrite
write_of l i = record { day = i.catalogue.day; call = l.call; told = answer l i }

-- the accepted writes of a run, in order
abbrev pub writes_of : List Line → Institution → List AcceptedWrite
writes_of [] i = []
writes_of (l ∷ ls) i =
    cond (is_some (change_of_line l i)) (write_of l i ∷ writes_of ls (next l i)) (writes_of ls (next l i))

-- the line of the journal that notes a write
abbrev pub line_of_write : AcceptedWrite → JournalLine
line_of_write w =
    noted_line w.day (record { caller = w.call.caller; received = w.call.received; names = named_by w.told })

-- a journal with lines more, where one is kept
abbrev pub with_lines : List JournalLine → Option (List JournalLine) → Option (List JournalLine)
with_lines more journal = option_map (λ lines. lines ++ more) journal

-- the institution with another journal
abbrev pub with_other_journal : Option (List JournalLine) → Institution → Institution
with_other_journal journal i = record i { journal = journal }

-- the run of the writes' requests, none of them given up
abbrev pub replay : List AcceptedWrite → List Line
replay writes = all_answered (map (λ w. w.call) writes)

-- The institution is the play of these writes from a first one: each of them is accepted in turn, on its day and with
-- its reply, and in the end the institution is this one.
pub record IsPlayOf (writes : List AcceptedWrite) (first i : Institution) : Type 0 where
  pub each : writes_of (replay writes) first ≡ writes
  pub last_is : last (replay writes) first ≡ i
