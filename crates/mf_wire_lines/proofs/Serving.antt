-- A stream, piece by piece.
use Rattle.std.proofs.Common.{◌≡◌, ◌≢◌, ℕ, ◌+◌, ◌≤◌, inl, inr, List, [], ◌++◌, length, length-append, take, sym}
use Rattle.std.proofs.Common.{ap, ◌∙◌, subst, arith, append-nil, refl, Option}
use Rattle.std.specs.Io.KnownBytes.{Consumes, IsAtEnd}
use Rattle.std.proofs.KnownBytes.{Consumes-nil, Consumes-trans}
use Rattle.mf_wire_lines.specs.Cut.{request, ended_lines, begun_line, request_lines}
use Rattle.mf_wire_lines.specs.Reading.{ended_from, begun_from}
use Rattle.mf_wire_lines.specs.Run.{Run, Answered, Half, Broken}
use Rattle.mf_wire_lines.specs.Streams.{Streams}
use Rattle.mf_wire_lines.specs.Ends.{EndsWhole, EndsWriting}
use Rattle.mf_wire_lines.proofs.Pieces.{held_alike, ended_lines-append, begun_line-append}
use Rattle.mf_wire_lines.proofs.RunLemmas.{Answered-nil, Answered-append, Answered-alike, Half-alike, Broken-append}
use Rattle.mf_wire_lines.proofs.RunLemmas.{Broken-half}

-- so far, this many bytes were read, the buffer has the line that has begun, and the lines that ended are answered
pub record Going {S : Type 0} (step : S → List ℕ → List ℕ → S → Type 0) (old now : S) (unread left : Option (List ℕ))
    (held : List ℕ) (before after : Option (List ℕ)) (n size : ℕ) : Type 0 where
  pub bytes : List ℕ
  pub read : Consumes unread left bytes
  pub holds : held ≡ take 65538 (begun_line bytes)
  pub answered : Answered (Run step) old now (ended_lines bytes) before after n
  pub sized : length bytes ≡ size

pub Going-start : {S : Type 0} (step : S → List ℕ → List ℕ → S → Type 0) (old : S) (unread : Option (List ℕ))
    (held : List ℕ) (before : Option (List ℕ)) → held ≡ [] → Going step old old unread unread held before before 0 0
unfolding ended_lines begun_line
Going-start step old unread held before e =
    record { bytes = []; read = Consumes-nil unread; holds = e; answered = Answered-nil step old before; sized = refl }

pub Going-more : {S : Type 0} (step : S → List ℕ → List ℕ → S → Type 0) (old now new : S)
    (unread mid left : Option (List ℕ)) (held held' piece : List ℕ) (before between after : Option (List ℕ))
    (n m size more : ℕ)
    → Consumes mid left piece → length piece ≡ more
    → ((begun : List ℕ) → held ≡ take 65538 begun → (m ≤ length piece) × (held' ≡ take 65538 (begun_from begun piece))
    × Answered (Run step) now new (ended_from begun piece) between after m)
    → Going step old now unread mid held before between n size → Going step old new unread left held' before after
    (n + m) (size + more)
Going-more step old now new unread mid left held held' piece before between after n m size more ate long fed t =
    let one = fed (begun_line t.bytes) t.holds in record {
      bytes = t.bytes ++ piece;
      read = Consumes-trans unread mid left t.bytes piece t.read ate;
      holds = one.1 ∙ ap (take 65538) (sym (begun_line-append t.bytes piece));
      answered = subst (λ ls. Answered (Run step) old new ls before after (n + m))
          (sym (ended_lines-append t.bytes piece)) (Answered-append step old now new (ended_lines t.bytes)
          (ended_from (begun_line t.bytes) piece) before between after n m t.answered one.2);
      sized = omega (arith, t.sized, long, length-append t.bytes piece);
    }

-- How a run ends, from where it stood: the streams' faults aside, what was read and answered.
module _ {S : Type 0} (step : S → List ℕ → List ℕ → S → Type 0) (old now : S) (streams : Streams) where
  to_the_end : (bytes : List ℕ) (mid : Option (List ℕ)) → Consumes streams.source.before mid bytes
      → Consumes mid streams.source.after [] → Consumes streams.source.before streams.source.after bytes
  to_the_end bytes mid read none = subst (Consumes streams.source.before streams.source.after) (append-nil bytes)
      (Consumes-trans streams.source.before mid streams.source.after bytes [] read none)

  pub ends_whole : (new : S) (mid between : Option (List ℕ)) (held : List ℕ) (n m size : ℕ)
      → Consumes mid streams.source.after [] → IsAtEnd streams.source.after
      → streams.source.faults_after ≡ streams.source.faults_before → streams.sink.faults_after
      ≡ streams.sink.faults_before
      → Answered (Run step) now new (request held) between streams.sink.after m
      → Going step old now streams.source.before mid held streams.sink.before between n size
      → EndsWhole (Run step) old new streams (n + m)
  ends_whole new mid between held n m size none end source sink one t = record {
    bytes = t.bytes;
    consumed = to_the_end t.bytes mid t.read none;
    ended = end;
    answered = Answered-append step old now new (ended_lines t.bytes) (request (begun_line t.bytes)) streams.sink.before
        between streams.sink.after n m t.answered
        (Answered-alike step now new (take 65538 (begun_line t.bytes)) (begun_line t.bytes) between streams.sink.after m
        (held_alike (begun_line t.bytes))
        (subst (λ h. Answered (Run step) now new (request h) between streams.sink.after m) t.holds one));
    source = source;
    sink = sink;
  }

  pub ends_writing_last : (new : S) (mid between : Option (List ℕ)) (held : List ℕ) (n size : ℕ)
      → Consumes mid streams.source.after [] → IsAtEnd streams.source.after
      → streams.source.faults_after ≡ streams.source.faults_before → streams.sink.faults_after
      ≢ streams.sink.faults_before
      → Half step now new held between streams.sink.after
      → Going step old now streams.source.before mid held streams.sink.before between n size
      → EndsWriting (Run step) old new streams n
  ends_writing_last new mid between held n size none end source sink half t = record {
    bytes = t.bytes;
    consumed = to_the_end t.bytes mid t.read none;
    broken = inr (
      end,
      Broken-half step old now new (ended_lines t.bytes) [] (request_lines t.bytes) (begun_line t.bytes)
          streams.sink.before between streams.sink.after n t.answered
          (Half-alike step now new (take 65538 (begun_line t.bytes)) (begun_line t.bytes) between streams.sink.after
          (held_alike (begun_line t.bytes))
          (subst (λ h. Half step now new h between streams.sink.after) t.holds half))
          (sym (append-nil (request_lines t.bytes))),
    );
    source = source;
    sink = sink;
  }

  pub ends_writing : (new : S) (mid between : Option (List ℕ)) (held piece : List ℕ) (n m size : ℕ)
      → Consumes mid streams.source.after piece
      → streams.source.faults_after ≡ streams.source.faults_before → streams.sink.faults_after
      ≢ streams.sink.faults_before
      → ((begun : List ℕ) → held ≡ take 65538 begun → (m ≤ length piece)
      × Broken (Run step) now new (ended_from begun piece) between streams.sink.after m)
      → Going step old now streams.source.before mid held streams.sink.before between n size
      → EndsWriting (Run step) old new streams (n + m)
  ends_writing new mid between held piece n m size ate source sink fed t =
      let one = (fed (begun_line t.bytes) t.holds).1 in record {
        bytes = t.bytes ++ piece;
        consumed = Consumes-trans streams.source.before mid streams.source.after t.bytes piece t.read ate;
        broken = inl (subst (λ ls. Broken (Run step) old new ls streams.sink.before streams.sink.after (n + m))
            (sym (ended_lines-append t.bytes piece))
            (Broken-append step old now new (ended_lines t.bytes) (ended_from (begun_line t.bytes) piece)
            streams.sink.before between streams.sink.after n m t.answered one));
        source = source;
        sink = sink;
      }
