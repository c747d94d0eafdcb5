-- What is told of how a run ends, by one relation of runs, is told of it by a weaker one.
use Rattle.std.proofs.Common.{inl, inr, ℕ, List, Option, Result, Ok, Err}
use Rattle.mf_base.specs.declared.fault.Cause.{Cause}
use Rattle.mf_base.specs.declared.fault.Cause.TheVariants.{Read, Write, Memory}
use Rattle.mf_base.specs.declared.fault.StreamFault.{StreamFault}
use Rattle.mf_wire_lines.specs.Run.{Answered, Broken}
use Rattle.mf_wire_lines.specs.Streams.{Streams}
use Rattle.mf_wire_lines.specs.Ends.{Ends, EndsBy}

module _ {S : Type 0} (P Q : S → List (List ℕ) → List (List ℕ) → S → Type 0)
    (weaker : (old : S) (lines texts : List (List ℕ)) (new : S) → P old lines texts new → Q old lines texts new) where
  answered : (old new : S) (lines : List (List ℕ)) (before after : Option (List ℕ)) (n : ℕ)
      → Answered P old new lines before after n → Answered Q old new lines before after n
  answered old new lines before after n a =
      record { texts = a.texts; ran = weaker old lines a.texts new a.ran; written = a.written; counted = a.counted }

  broken : (old new : S) (lines : List (List ℕ)) (before after : Option (List ℕ)) (n : ℕ)
      → Broken P old new lines before after n → Broken Q old new lines before after n
  broken old new lines before after n b = record {
    done = b.done;
    line = b.line;
    rest = b.rest;
    among = b.among;
    texts = b.texts;
    text = b.text;
    ran = weaker old _ _ new b.ran;
    part = b.part;
    short = b.short;
    written = b.written;
    counted = b.counted;
  }

  pub ends : (old new : S) (streams : Streams) (r : Result ℕ StreamFault) → Ends P old new streams r
      → Ends Q old new streams r
  ends old new streams (Ok count) e = record {
    bytes = e.bytes;
    consumed = e.consumed;
    ended = e.ended;
    answered = answered old new _ _ _ count e.answered;
    source = e.source;
    sink = e.sink;
  }
  ends old new streams (Err fault) e = by fault.cause e
    where
      by : (cause : Cause) → EndsBy P old new streams cause fault.answered
          → EndsBy Q old new streams cause fault.answered
      by Read e = record {
        bytes = e.bytes;
        consumed = e.consumed;
        answered = answered old new _ _ _ fault.answered
            e.answered;
        failed = e.failed;
        sink = e.sink;
      }
      by Write e = record {
        bytes = e.bytes;
        consumed = e.consumed;
        broken = elim e.broken [
          | inl b ↦ inl (broken old new _ _ _ fault.answered b)
          | inr b ↦ inr (
            b.0,
            broken old new _ _ _ fault.answered b.1,
          )
        ];
        source = e.source;
        sink = e.sink;
      }
      by Memory e = record { none = e.none; same = e.same }
