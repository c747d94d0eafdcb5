-- The lines of a journal that are read for the takings of an office on a day.
use Rattle.std.specs.Prelude.{ℕ, None, Some}
use Rattle.mf_model.specs.Institution.{JournalLine}
use Rattle.mf_model.specs.declared.request.Request.{Request}
use Rattle.mf_store_journal.specs.declared.index.Sought.{Sought}
use Rattle.mf_wire_requests.specs.Requests.{request_of}

-- what a line's text asks
abbrev pub asked_in : JournalLine → Request
asked_in l = request_of l.method l.path l.body

-- what is sought of the journal
abbrev pub sought_on : ℕ → ℕ → Sought
sought_on office day = record { office = office; loan = None; day = Some day }
