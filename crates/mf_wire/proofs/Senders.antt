-- Lines by the bytes of their senders are the lines of a run by its callers.
use Rattle.std.proofs.Common.{◌≡◌, ◌≢◌, ℕ, Bool, true, false, cond, List, [], ◌∷◌, map, Option, Some, None, Result, Err}
use Rattle.std.proofs.Common.{refl, sym, ap, ap₂, ◌∙◌, arith}
use Rattle.std.specs.Prelude.{◌==◌, ◌&&◌, option_map, option_and_then}
use Rattle.std.specs.Str.{bytes_eq}
use Rattle.std.proofs.lemmas.Bool.Decides.{nat_tests}
use Rattle.std.proofs.lemmas.Slice.Eq.{bytes_eq-Decides}
use Rattle.mf_base.specs.declared.fault.Fault.{Fault}
use Rattle.mf_base.specs.declared.fault.Fault.TheVariants.{F20}
use Rattle.mf_office.specs.declared.caller.Caller.{Caller}
use Rattle.mf_office.specs.Texts.{IsCaller, caller_of}
use Rattle.mf_office.specs.Written.{caller_text}
use Rattle.mf_office.proofs.ReadLemmas.{caller_exact}
use Rattle.mf_model.specs.Calls.{Call}
use Rattle.mf_model.specs.declared.reply.Reply.{Reply}
use Rattle.mf_model.specs.Institution.{Institution}
use Rattle.mf_model.specs.Run as model
use Rattle.mf_model.specs.Run.{Line, answer, next, from_office, from_caller, replies_to, given_up, but_given_up}
use Rattle.mf_model.specs.Answering.{all_answered}
use Rattle.mf_wire_lines.specs.Replies.{fault_line}
use Rattle.mf_wire_replies.specs.Shown.{shown_line}
use Rattle.mf_wire_requests.specs.RequestLine.{split_space, line_in}
use Rattle.mf_wire_requests.specs.Requests.{call_in}
use Rattle.mf_wire.specs.Senders.{sender_of, is_text, is_sent_by, is_sent_from, texts_for, NoTextIsF20}
use Rattle.mf_wire.specs.Runs.{texts_of, lines_in}

both_ways : (a b : Bool) → (a ≡ true → b ≡ true) → (b ≡ true → a ≡ true) → a ≡ b
both_ways true true h k = refl
both_ways true false h k = sym (h refl)
both_ways false true h k = k refl
both_ways false false h k = refl

-- a caller is known by its numbers
is_by_itself : (c d : Caller) → d ≡ c → ((d.office == c.office) && (d.staff == c.staff)) ≡ true
is_by_itself c d e =
    let office : d.office ≡ c.office = ap (λ (x : Caller). x.office) e in
    let staff : d.staff ≡ c.staff = ap (λ (x : Caller). x.staff) e in
    grind (arith, nat_tests)

same_caller : (c d : Caller) → ((d.office == c.office) && (d.staff == c.staff)) ≡ true → d ≡ c
same_caller c d h =
    let office : d.office ≡ c.office = grind (arith, nat_tests) in
    let staff : d.staff ≡ c.staff = grind (arith, nat_tests) in
    ap₂ (λ x y. let k : Caller = record { office = x; staff = y } in k) office staff

by_caller : (c : Caller) (named : Option Caller) → named ≡ Some c → model.is_by c named ≡ true
by_caller c named e = ap (model.is_by c) e ∙ is_by_itself c c refl

caller_by : (c : Caller) (named : Option Caller) → model.is_by c named ≡ true → named ≡ Some c
caller_by c None h = absurd (cc)
caller_by c (Some d) h = ap Some (same_caller c d h)

-- the bytes are a caller's text where they name that caller
named_by : (c : Caller) → IsCaller c → (sender : Option (List ℕ)) → is_text (caller_text c.office c.staff) sender
    ≡ model.is_by c (option_and_then caller_of sender)
named_by c range None = refl
named_by c range (Some bytes) =
    both_ways (bytes_eq bytes (caller_text c.office c.staff)) (model.is_by c (caller_of bytes))
    (λ h. by_caller c (caller_of bytes) ((caller_exact bytes (caller_of bytes) refl c range).1
    ((bytes_eq-Decides bytes (caller_text c.office c.staff)).0 h)))
    (λ h. (bytes_eq-Decides bytes (caller_text c.office c.staff)).1
    ((caller_exact bytes (caller_of bytes) refl c range).0 (caller_by c (caller_of bytes) h)))

caller_of_sender : (first : Option (List ℕ × List ℕ)) → option_and_then caller_of (option_map (λ p. p.0) first)
    ≡ option_and_then (λ p. caller_of p.0) first
caller_of_sender None = refl
caller_of_sender (Some p) = refl

pub sent_by_is : (told : Bool) (c : Caller) → IsCaller c → (line : List ℕ)
    → is_sent_by (caller_text c.office c.staff) (line_in told line) ≡ from_caller c (call_in told line)
sent_by_is told c range line = named_by c range (sender_of (line_in told line))
    ∙ ap (model.is_by c) (caller_of_sender (split_space (line_in told line)))

pub sent_from_is : (told : Bool) (o : ℕ) (line : List ℕ) → is_sent_from o (line_in told line)
    ≡ from_office o (call_in told line)
sent_from_is told o line = ap (model.is_of o) (caller_of_sender (split_space (line_in told line)))

-- lines without what is told of them pass as they do with it
texts_for-map : (passes : List ℕ → Bool) (f : List ℕ → List ℕ) (lines texts : List (List ℕ))
    → texts_for passes (map f lines) texts ≡ texts_for (λ line. passes (f line)) lines texts
texts_for-map passes f [] texts = refl
texts_for-map passes f (line ∷ lines) [] = refl
texts_for-map passes f (line ∷ lines) (text ∷ texts) =
    ap (λ ts. cond (passes (f line)) (text ∷ ts) ts) (texts_for-map passes f lines texts)

pub texts_for-in : (told : Bool) (passes : List ℕ → Bool) (lines texts : List (List ℕ))
    → texts_for passes (lines_in told lines) texts ≡ texts_for (λ line. passes (line_in told line)) lines texts
texts_for-in false passes lines texts = refl
texts_for-in true passes lines texts = texts_for-map passes (line_in true) lines texts

-- the texts for the lines that pass are those told to the calls that are meant
pub texts_for-told : (told : Bool) (passes : List ℕ → Bool) (meant : Call → Bool)
    → ((line : List ℕ) → passes line ≡ meant (call_in told line)) → (run : List Line) (lines texts : List (List ℕ))
    → map (λ l. l.call) run ≡ map (call_in told) lines → texts_for passes lines texts ≡ replies_to meant run texts
texts_for-told told passes meant same [] [] texts e = refl
texts_for-told told passes meant same [] (line ∷ lines) texts e = absurd (cc)
texts_for-told told passes meant same (l ∷ run) [] texts e = absurd (cc)
texts_for-told told passes meant same (l ∷ run) (line ∷ lines) [] e = refl
texts_for-told told passes meant same (l ∷ run) (line ∷ lines) (text ∷ texts) e =
    let first : l.call ≡ call_in told line = cc in
    let rest : map (λ (k : Line). k.call) run ≡ map (call_in told) lines = cc in
    let test : passes line ≡ meant l.call = same line ∙ ap meant (sym first) in
    let more : texts_for passes lines texts ≡ replies_to meant run texts =
    texts_for-told told passes meant same run lines texts rest in
    ap (λ b. cond b (text ∷ texts_for passes lines texts) (texts_for passes lines texts)) test
    ∙ ap (λ ts. cond (meant l.call) (text ∷ ts) ts) more

-- where a text isn't F20's, its line was not given up
not_given_up : (l : Line) (i : Institution) → shown_line (answer l i) ≢ fault_line F20 → l.given_up ≡ false
not_given_up l i other = at l.given_up (λ e.
    other (ap (λ b. shown_line (cond b (Err F20) (model.answer (record { call = l.call; given_up = false }) i))) e))
  where
    at : (b : Bool) → (b ≡ true → ⊥) → b ≡ false
    at true h = absurd (h refl)
    at false h = refl

-- where none of the texts that are told is F20's, none of their lines was given up
pub all_told : (meant : Call → Bool) (run : List Line) (i : Institution) (rs : List (Result Reply Fault))
    → NoTextIsF20 (replies_to meant run (texts_of run i)) → but_given_up (given_up meant run) rs ≡ rs
all_told meant [] i rs h = refl
all_told meant (l ∷ run) i rs h = step (meant l.call) rs h (λ qs k. all_told meant run (next l i) qs k)
  where
    step : (own : Bool) (rs : List (Result Reply Fault)) → NoTextIsF20 (cond own (shown_line (answer l i)
        ∷ replies_to meant run (texts_of run (next l i))) (replies_to meant run (texts_of run (next l i))))
        → ((qs : List (Result Reply Fault)) → NoTextIsF20 (replies_to meant run (texts_of run (next l i)))
        → but_given_up (given_up meant run) qs ≡ qs)
        → but_given_up (cond own (l.given_up ∷ given_up meant run) (given_up meant run)) rs ≡ rs
    step false rs h more = more rs h
    step true [] h more = refl
    step true (r ∷ rs) h more = ap (λ g. cond g (Err F20) r ∷ but_given_up (given_up meant run) rs)
        (not_given_up l i h.0) ∙ ap (λ qs. r ∷ qs) (more rs h.1)

-- where no text is F20's, nothing was given up
pub all_answered_run : (told : Bool) (run : List Line) (lines : List (List ℕ)) (i : Institution)
    → map (λ l. l.call) run ≡ map (call_in told) lines → NoTextIsF20 (texts_of run i)
    → run ≡ all_answered (map (call_in told) lines)
all_answered_run told [] [] i e h = refl
all_answered_run told [] (line ∷ lines) i e h = absurd (cc)
all_answered_run told (l ∷ run) [] i e h = absurd (cc)
all_answered_run told (l ∷ run) (line ∷ lines) i e h =
    let first : l.call ≡ call_in told line = cc in
    let rest : map (λ (k : Line). k.call) run ≡ map (call_in told) lines = cc in
    let this : l ≡ record { call = call_in told line; given_up = false } =
    ap₂ (λ c g. let k : Line = record { call = c; given_up = g } in k) first (not_given_up l i h.0) in
    ap₂ (λ (k : Line) (ks : List Line). k ∷ ks) this (all_answered_run told run lines (next l i) rest h.1)
