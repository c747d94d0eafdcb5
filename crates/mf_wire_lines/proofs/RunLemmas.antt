-- Runs one after another.
use Rattle.std.proofs.Common.{◌≡◌, ℕ, ◌+◌, ◌<◌, inl, inr, List, [], ◌∷◌, ◌++◌, length, refl, sym, ap, ◌∙◌, subst, arith}
use Rattle.std.proofs.Common.{append_assoc, append-nil, length-append, take, Option}
use Rattle.std.proofs.lemmas.Bool.{lt-leb}
use Rattle.std.specs.Io.KnownBytes.{Appends}
use Rattle.std.proofs.KnownBytes.{Appends-trans, Appends-nil}
use Rattle.mf_wire_lines.specs.Cut.{request}
use Rattle.std.specs.List.{concat}
use Rattle.std.proofs.lemmas.List.Folds.{concat-append}
use Rattle.mf_wire_lines.specs.Run.{LineStep, Run, Answered, Half, Broken}
use Rattle.mf_wire_lines.proofs.Pieces.{Alike}

pub Run-append : {S : Type 0} (step : S → List ℕ → List ℕ → S → Type 0) (old mid new : S) (ls ts ms us : List (List ℕ))
    → Run step old ls ts mid → Run step mid ms us new → Run step old (ls ++ ms) (ts ++ us) new
Run-append step old mid new [] [] ms us p q = subst (λ s. Run step s ms us new) p q
Run-append step old mid new [] (t ∷ ts) ms us p q = absurd p
Run-append step old mid new (l ∷ ls) [] ms us p q = absurd p
Run-append step old mid new (l ∷ ls) (t ∷ ts) ms us p q = (p.0, p.1, Run-append step p.0 mid new ls ts ms us p.2 q)

pub Answered-nil : {S : Type 0} (step : S → List ℕ → List ℕ → S → Type 0) (old : S) (before : Option (List ℕ))
    → Answered (Run step) old old [] before before 0
Answered-nil step old before = record { texts = []; ran = refl; written = Appends-nil before; counted = refl }

pub Answered-append : {S : Type 0} (step : S → List ℕ → List ℕ → S → Type 0) (a b c : S) (ls ms : List (List ℕ))
    (before between after : Option (List ℕ)) (n m : ℕ)
    → Answered (Run step) a b ls before between n → Answered (Run step) b c ms between after m
    → Answered (Run step) a c (ls ++ ms) before after (n + m)
Answered-append step a b c ls ms before between after n m p q = record {
  texts = p.texts ++ q.texts;
  ran = Run-append step a b c ls p.texts ms q.texts p.ran q.ran;
  written = subst (Appends before after) (sym (concat-append p.texts q.texts))
      (Appends-trans before between after _ _ p.written q.written);
  counted = omega (arith, p.counted, q.counted, length-append p.texts q.texts);
}

pub Broken-append : {S : Type 0} (step : S → List ℕ → List ℕ → S → Type 0) (a b c : S) (ls ms : List (List ℕ))
    (before between after : Option (List ℕ)) (n m : ℕ)
    → Answered (Run step) a b ls before between n → Broken (Run step) b c ms between after m
    → Broken (Run step) a c (ls ++ ms) before after (n + m)
Broken-append step a b c ls ms before between after n m p q = record {
  done = ls ++ q.done;
  line = q.line;
  rest = q.rest;
  among = ap (λ l. ls ++ l) q.among ∙ sym (append_assoc ls q.done (q.line ∷ q.rest));
  texts = p.texts ++ q.texts;
  text = q.text;
  ran = rw (append_assoc ls q.done (q.line ∷ []), append_assoc p.texts q.texts (q.text ∷ []))
      (Run-append step a b c ls p.texts (q.done ++ q.line ∷ []) (q.texts ++ q.text ∷ []) p.ran q.ran);
  part = q.part;
  short = q.short;
  written = rw (concat-append p.texts q.texts, append_assoc (concat p.texts) (concat q.texts) (take q.part q.text))
      (Appends-trans before between after (concat p.texts) (concat q.texts ++ take q.part q.text) p.written q.written);
  counted = omega (arith, p.counted, q.counted, length-append p.texts q.texts);
}

pub request_some : (line : List ℕ) → 0 < length line → request line ≡ line ∷ []
request_some [] h = absurd (omega arith)
request_some (b ∷ bs) h = refl

pub Answered-one : {S : Type 0} (step : S → List ℕ → List ℕ → S → Type 0) (old new : S) (line text : List ℕ)
    (before after : Option (List ℕ)) → 0 < length line
    → LineStep step old line text new → Appends before after text → Answered (Run step) old new (request line) before
    after 1
Answered-one step old new line text before after some s w = rw (request_some line some) (record {
  texts = text ∷ [];
  ran = (new, s, refl);
  written = subst (Appends before after) (sym (append-nil text)) w;
  counted = refl;
})

pub LineStep-alike : {S : Type 0} (step : S → List ℕ → List ℕ → S → Type 0) (old new : S) (line other text : List ℕ)
    → Alike line other → LineStep step old line text new → LineStep step old other text new
LineStep-alike step old new line other text a s = elim a [
  | inl e ↦ subst (λ l. LineStep step old l text new) e s
  | inr h ↦ rw (lt-leb (length other) 65536 h.1) (rw (lt-leb (length line) 65536 h.0) at s)
]

pub Half-alike : {S : Type 0} (step : S → List ℕ → List ℕ → S → Type 0) (old new : S) (line other : List ℕ)
    (before after : Option (List ℕ)) → Alike line other
    → Half step old new line before after → Half step old new other before after
Half-alike step old new line other before after a h = record {
  asks = elim a [
    | inl e ↦ subst (λ l. request l ≡ l ∷ []) e h.asks
    | inr long ↦ request_some other (omega arith)
  ];
  text = h.text;
  stepped = LineStep-alike step old new line other h.text a h.stepped;
  part = h.part;
  short = h.short;
  begun = h.begun;
}

Run-alike : {S : Type 0} (step : S → List ℕ → List ℕ → S → Type 0) (old new : S) (line other : List ℕ)
    (texts : List (List ℕ)) → Alike line other → Run step old (line ∷ []) texts new
    → Run step old (other ∷ []) texts new
Run-alike step old new line other [] a r = r
Run-alike step old new line other (t ∷ ts) a r = (r.0, LineStep-alike step old r.0 line other t a r.1, r.2)

requests-alike : {S : Type 0} (step : S → List ℕ → List ℕ → S → Type 0) (old new : S) (line other : List ℕ)
    (texts : List (List ℕ)) → Alike line other → Run step old (request line) texts new
    → Run step old (request other) texts new
requests-alike step old new line other texts a r = elim a [
  | inl e ↦ subst (λ l. Run step old (request l) texts new) e r
  | inr h ↦ rw (request_some other (omega (arith, h.1))) (Run-alike step old new line other texts (inr h)
      (rw (request_some line (omega (arith, h.0))) at r))
]

pub Answered-alike : {S : Type 0} (step : S → List ℕ → List ℕ → S → Type 0) (old new : S) (line other : List ℕ)
    (before after : Option (List ℕ)) (n : ℕ) → Alike line other
    → Answered (Run step) old new (request line) before after n → Answered (Run step) old new (request other) before
    after n
Answered-alike step old new line other before after n a p = record {
  texts = p.texts;
  ran = requests-alike step old new line other p.texts a p.ran;
  written = p.written;
  counted = p.counted;
}

-- some lines answered, the next one by half, and others not run
pub Broken-half : {S : Type 0} (step : S → List ℕ → List ℕ → S → Type 0) (a b c : S) (ls rest all : List (List ℕ))
    (line : List ℕ) (before between after : Option (List ℕ)) (n : ℕ)
    → Answered (Run step) a b ls before between n → Half step b c line between after → all ≡ (ls ++ request line)
    ++ rest → Broken (Run step) a c all before after n
Broken-half step a b c ls rest all line before between after n p h e = record {
  done = ls;
  line = line;
  rest = rest;
  among = e ∙ append_assoc ls (request line) rest ∙ ap (λ r. ls ++ (r ++ rest)) h.asks;
  texts = p.texts;
  text = h.text;
  ran = Run-append step a b c ls p.texts (line ∷ []) (h.text ∷ []) p.ran (c, h.stepped, refl);
  part = h.part;
  short = h.short;
  written = Appends-trans before between after (concat p.texts) (take h.part h.text) p.written h.begun;
  counted = p.counted;
}
