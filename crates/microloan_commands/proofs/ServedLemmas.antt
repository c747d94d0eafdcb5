-- Messages answered one after another, put together.
use Rattle.std.proofs.Common.{◌≡◌, inl, inr, ℕ, ◌+◌, ◌≤◌, Bool, true, false, List, [], ◌∷◌, ◌++◌, length}
use Rattle.std.proofs.Common.{length-append, subst, sym, ap, ◌∙◌, arith, refl, Option, Some, None}
use Rattle.std.specs.Prelude.{Result, Ok, Err, take}
use Rattle.std.specs.Io.KnownBytes.{Appends, Consumes}
use Rattle.std.proofs.lemmas.List.{append-nil, append_assoc}
use Rattle.mf_base.specs.declared.fault.Cause.{Cause}
use Rattle.mf_base.specs.declared.fault.Cause.TheVariants.{Read, Write, Memory}
use Rattle.mf_base.specs.declared.fault.StreamFault.{StreamFault}
use Rattle.mf_model.specs.declared.store.InstitutionStore.{Ghosts}
use Rattle.mf_lists_runs.specs.Choice.{Choice}
use Rattle.mf_lists_runs.specs.Exchanges.{ListsAnswerAll}
use Rattle.mf_lists_runs.specs.Serving.{ListsAnswerMessage}
use Rattle.mf_wire.specs.Exchanges.{Exchange}
use Rattle.mf_wire.specs.Serving.{EndsMessage, EndsMessageBy}
use Rattle.mf_wire_lines.specs.Streams.{Streams}
use Rattle.mf_wire_messages.specs.Arrivals.{bytes_left}
use Rattle.microloan_commands.specs.Traffic.{Traffic, Begins, Adds, Takes, GoTo}
use Rattle.microloan_commands.specs.Served.{ServesConnections, whole_of}

-- what was written to a connection, where nothing had been
appended_first : (first last : Option (List ℕ)) (text : List ℕ) → first ≡ Some [] → Appends first last text
    → last ≡ Some text
appended_first None last text e h = absurd (cc)
appended_first (Some xs) None text e h = absurd h
appended_first (Some xs) (Some ys) text e h =
    let none : xs ≡ [] = cc in ap Some (h ∙ ap (λ (x : List ℕ). x ++ text) none)

-- what a client sends is what was read and what is left
whole_stream : (unread left : Option (List ℕ)) (read bytes : List ℕ) → Consumes unread left read → unread ≡ Some bytes
    → bytes ≡ read ++ bytes_left left
whole_stream None left read bytes h e = absurd (cc)
whole_stream (Some xs) None read bytes h e = absurd h
whole_stream (Some xs) (Some ys) read bytes h e = let same : bytes ≡ xs = cc in same ∙ h

-- nothing more was written
appends_nothing : (first last : Option (List ℕ)) → last ≡ first → Appends first last []
appends_nothing None last e = tt
appends_nothing (Some xs) None e = absurd (cc)
appends_nothing (Some xs) (Some ys) e = let same : ys ≡ xs = cc in same ∙ sym (append-nil xs)

-- one more connection
adds_one : (before after : Option (List Traffic)) (heard unread first last : Option (List ℕ)) (bytes text : List ℕ)
    → Begins before heard unread first → Appends first last text → Adds before heard last after
    → ((xs : List ℕ) → unread ≡ Some xs → xs ≡ bytes)
    → Takes before after (record { bytes = bytes; text = text } ∷ [])
adds_one None after heard unread first last bytes text begun written added same = tt
adds_one (Some ended) after heard unread first last bytes text begun written added same =
    let last_is : last ≡ Some text = appended_first first last text begun.3 written in
    let after_is : after ≡ Some (ended ++ record { bytes = begun.0; text = text } ∷ []) =
    added begun.0 text begun.1 last_is in
    subst (λ a. Takes (Some ended) a (record { bytes = bytes; text = text } ∷ [])) (sym after_is)
    (ap (λ (b : List ℕ). ended ++ record { bytes = b; text = text } ∷ []) (same begun.0 begun.2))

-- the same of values that are equal
pub begun_on : (before b : Option (List Traffic)) (heard u v w x : Option (List ℕ)) → b ≡ before → v ≡ u → x ≡ w
    → Begins b heard u w → Begins before heard v x
begun_on before b heard u v w x e f g h = subst (λ (o : Option (List Traffic)). Begins o heard v x) e
    (subst (λ (y : Option (List ℕ)). Begins b heard y x) (sym f)
    (subst (λ (y : Option (List ℕ)). Begins b heard u y) (sym g) h))

pub added_on : (before b after : Option (List Traffic)) (heard w x : Option (List ℕ)) → b ≡ before → x ≡ w
    → Adds b heard x after → Adds before heard w after
added_on before b after heard w x e f h = subst (λ (o : Option (List Traffic)). Adds o heard w after) e
    (subst (λ (y : Option (List ℕ)). Adds b heard y after) f h)

takes_none : (before after : Option (List Traffic)) → after ≡ before → Takes before after []
takes_none None after e = tt
takes_none (Some xs) None e = absurd (cc)
takes_none (Some xs) (Some ys) e = let same : ys ≡ xs = cc in same ∙ sym (append-nil xs)

takes_both : (a b c : Option (List Traffic)) (ts us : List Traffic) → Takes a b ts → Takes b c us → Takes a c (ts ++ us)
takes_both None b c ts us h k = tt
takes_both (Some xs) None c ts us h k = absurd h
takes_both (Some xs) (Some ys) None ts us h k = absurd k
takes_both (Some xs) (Some ys) (Some zs) ts us h k =
    k ∙ ap (λ (x : List Traffic). x ++ us) h ∙ append_assoc xs ts us

-- the exchanges of more connections after those of some
go_both : (ts us : List Traffic) (es fs : List Exchange) (whole more : ℕ) → GoTo ts es whole → GoTo us fs more
    → GoTo (ts ++ us) (es ++ fs) (whole + more)
go_both [] us [] fs whole more g h = let same : more ≡ whole + more = omega (arith, g) in subst (GoTo us fs) same h
go_both [] us (e ∷ es) fs whole more g h = absurd g
go_both (t ∷ ts) us [] [] whole more g h = (g.0, go_both ts us [] [] whole more g.1 h)
go_both (t ∷ ts) us [] (f ∷ fs) whole more g h = inl (g.0, go_both ts us [] (f ∷ fs) whole more g.1 h)
go_both (t ∷ ts) us (e ∷ es) fs whole more g h = elim g [
  | inl s ↦ inl (s.0, go_both ts us (e ∷ es) fs whole more s.1 h)
  | inr s ↦ inr (
    s.0,
    elim s.1 [
      | inl w ↦ inl (w.0, w.1 + more, omega (arith, w.2), go_both ts us es fs w.1 more w.3 h)
      | inr c ↦ inr (c.0, go_both ts us es fs whole more c.1 h)
    ],
  )
]

module _ {S : Type 0} (store : Ghosts S) (choice : Choice) (told : Bool) where
  -- one list of messages after another
  both : (es fs : List Exchange) (old mid new : S) → ListsAnswerAll store choice told old es mid
      → ListsAnswerAll store choice told mid fs new
      → ListsAnswerAll store choice told old (es ++ fs) new
  both [] fs old mid new first second = subst (λ s. ListsAnswerAll store choice told s fs new) first second
  both (e ∷ es) fs old mid new (next, one, rest) second = (next, one, both es fs next mid new rest second)

  -- no connection
  pub serves_nothing : (n : ℕ) (before after : Option (List Traffic)) (old new : S) → after ≡ before → new ≡ old
      → ServesConnections store choice told n before after old new 0
  serves_nothing n before after old new kept same = record {
    exchanges = [];
    answered = same;
    each = omega arith;
    counted = omega arith;
    traffic = [];
    taken = takes_none before after kept;
    ended = omega arith;
    by_connections = refl;
  }

  module _ (before after : Option (List Traffic)) (heard : Option (List ℕ)) (streams : Streams)
      (begun : Begins before heard streams.source.before streams.sink.before)
      (added : Adds before heard streams.sink.after after) where
    -- a connection without a message
    serves_silence : (old new : S) → new ≡ old → streams.sink.after ≡ streams.sink.before
        → ServesConnections store choice told 1 before after old new 0
    serves_silence old new same unwritten = record {
      exchanges = [];
      answered = same;
      each = omega arith;
      counted = omega arith;
      traffic = record { bytes = bytes_left streams.source.before; text = [] } ∷ [];
      taken = adds_one before after heard streams.source.before streams.sink.before streams.sink.after
          (bytes_left streams.source.before) [] begun (appends_nothing streams.sink.before streams.sink.after unwritten)
          added (λ xs e. sym (ap bytes_left e));
      ended = omega arith;
      by_connections = (refl, refl);
    }

    -- a connection with a message, to which the response was written, or a beginning of it
    serves_message : (count : ℕ) (read text written : List ℕ) (old new : S) → count ≤ 1
        → Consumes streams.source.before streams.source.after read
        → ListsAnswerMessage store choice told (read ++ bytes_left streams.source.after) old text new
        → Appends streams.sink.before streams.sink.after written
        → GoTo (record { bytes = read ++ bytes_left streams.source.after; text = written } ∷ [])
        (record { bytes = read ++ bytes_left streams.source.after; text = text } ∷ []) count
        → ServesConnections store choice told 1 before after old new count
    serves_message count read text written old new most consumed answered put gone = record {
      exchanges = record { bytes = read ++ bytes_left streams.source.after; text = text } ∷ [];
      answered = (new, answered, refl);
      each = omega arith;
      counted = omega (arith, most);
      traffic = record { bytes = read ++ bytes_left streams.source.after; text = written } ∷ [];
      taken = adds_one before after heard streams.source.before streams.sink.before streams.sink.after
          (read ++ bytes_left streams.source.after) written begun put added
          (λ xs e. whole_stream streams.source.before streams.source.after read xs consumed e);
      ended = omega arith;
      by_connections = gone;
    }

    served_by : (cause : Cause) (count : ℕ) (old new : S)
        → EndsMessageBy (ListsAnswerMessage store choice told) old new streams cause count
        → ServesConnections store choice told 1 before after old new 0
    served_by Read count old new ended = serves_silence old new ended.untouched.same ended.untouched.unwritten
    served_by Write count old new ended =
        serves_message 0 ended.read ended.text (take ended.cut.0 ended.text) old new (omega arith) ended.consumed
        ended.answered ended.cut.2 (inr (refl, inr ((ended.cut.0, ended.cut.1, refl), refl)))
    served_by Memory count old new ended = serves_silence old new ended.untouched.same ended.untouched.unwritten

    -- what serving one message leaves
    pub served_one : (result : Result Bool StreamFault) (old new : S)
        → EndsMessage (ListsAnswerMessage store choice told) old new streams result
        → ServesConnections store choice told 1 before after old new (whole_of result)
    served_one (Ok true) old new ended =
        serves_message 1 ended.read ended.text ended.text old new (omega arith) ended.consumed ended.answered
        ended.written (inr (refl, inl (refl, 0, refl, refl)))
    served_one (Ok false) old new ended = serves_silence old new ended.untouched.same ended.untouched.unwritten
    served_one (Err fault) old new ended = served_by fault.cause fault.answered old new ended

  -- one more connection
  pub serves_more : (n count more : ℕ) (before between after : Option (List Traffic)) (old mid new : S)
      → ServesConnections store choice told n before between old mid count
      → ServesConnections store choice told 1 between after mid new more
      → ServesConnections store choice told (n + 1) before after old new (count + more)
  serves_more n count more before between after old mid new first second =
      let long : length (first.exchanges ++ second.exchanges) ≡ length first.exchanges + length second.exchanges =
      length-append first.exchanges second.exchanges in
      let all : length (first.traffic ++ second.traffic) ≡ length first.traffic + length second.traffic =
      length-append first.traffic second.traffic in record {
        exchanges = first.exchanges ++ second.exchanges;
        answered = both first.exchanges second.exchanges old mid new first.answered second.answered;
        each = omega (arith, long, first.each, second.each);
        counted = omega (arith, long, first.counted, second.counted);
        traffic = first.traffic ++ second.traffic;
        taken = takes_both before between after first.traffic second.traffic first.taken second.taken;
        ended = omega (arith, all, first.ended, second.ended);
        by_connections = go_both first.traffic second.traffic first.exchanges second.exchanges count more
            first.by_connections second.by_connections;
      }
