-- Each reply's text is one line.
use Rattle.std.proofs.Common.{◌≡◌, ◌≢◌, ℕ, zero, suc, ◌+◌, ◌/◌, ◌%◌, Bool, true, false, cond, List, [], ◌∷◌, ◌++◌}
use Rattle.std.proofs.Common.{Result, Ok, Err, refl, sym, ap, ap₂, ◌∙◌, arith, append_assoc}
use Rattle.std.specs.Prelude.{◌==◌, ◌&&◌, ◌||◌, not, nat_lt, decimal, pos, negsuc, if◌then◌else◌}
use Rattle.std.specs.Fmt.{digits, digits_onto, digit_glyph}
use Rattle.std.specs.List.{AllByRecursion, concat, list_all}
use Rattle.std.proofs.lemmas.Bool.Decides.{nat_tests}
use Rattle.std.specs.Char.{digit_char}
use Rattle.json.specs.Print.{escape_byte, escape_letter, escape, quoted}
use Rattle.serde_json.specs.Data.{Num, unsigned, negative, float, Data, null, boolean, number, string, array, object}
use Rattle.serde_json.specs.Data.{Items, no_items, item, Members, no_members, member}
use Rattle.serde_json.specs.Written.{number_text, compact_text, items_text, members_text, comma_if}
use Rattle.mf_base.specs.declared.fault.Fault.{Fault}
use Rattle.mf_base.specs.declared.fault.Fault.TheVariants.{F1, F2, F3, F4, F5, F6, F7, F8, F9, F10, F11, F12, F13, F14}
use Rattle.mf_base.specs.declared.fault.Fault.TheVariants.{F15, F16, F17, F18, F19, F20}
use Rattle.mf_model.specs.declared.reply.Reply.{Reply}
use Rattle.mf_model.specs.Institution.{Institution}
use Rattle.mf_model.specs.Run.{Line, answer, next}
use Rattle.mf_wire_lines.specs.Replies.{fault_status, fault_body, reply_line}
use Rattle.mf_wire_replies.specs.Shown.{reply_status, reply_body, reply_data, shown_line}
use Rattle.mf_wire.specs.Senders.{HasNoLineFeed, IsOneLine}
use Rattle.mf_wire.specs.Runs.{texts_of}

joined : (xs ys : List ℕ) → HasNoLineFeed xs → HasNoLineFeed ys → HasNoLineFeed (xs ++ ys)
joined [] ys h k = k
joined (x ∷ xs) ys h k = (h.0, joined xs ys h.1 k)

no_feed : (x : ℕ) → (x == 10) ≡ false → x ≢ 10
no_feed x h e = grind (arith, nat_tests)

-- the same by a test
feedless : (bytes : List ℕ) → list_all (λ b. not (b == 10)) bytes ≡ true → HasNoLineFeed bytes
feedless [] h = tt
feedless (b ∷ bytes) h = at (b == 10) refl h (λ k. feedless bytes k)
  where
    at : (t : Bool) → (b == 10) ≡ t → (not t && list_all (λ x. not (x == 10)) bytes) ≡ true
        → (list_all (λ x. not (x == 10)) bytes ≡ true → HasNoLineFeed bytes) → HasNoLineFeed (b ∷ bytes)
    at true e k more = absurd (cc)
    at false e k more = (no_feed b e, more k)

-- digits
glyph_is : (d : ℕ) → digit_glyph false d ≢ 10
glyph_is d e = at (nat_lt d 10) e
  where
    at : (b : Bool) → (if b then 48 + d else 87 + d) ≡ 10 → ⊥
    at true e = omega arith
    at false e = omega arith

either : (b : Bool) (xs ys : List ℕ) → HasNoLineFeed xs → HasNoLineFeed ys → HasNoLineFeed (if b then xs else ys)
either true xs ys h k = h
either false xs ys h k = k

digits_are : (k n : ℕ) (acc : List ℕ) → HasNoLineFeed acc → HasNoLineFeed (digits_onto k 10 false n acc)
digits_are zero n acc h = h
digits_are (suc k) n acc h =
    either (n / 10 == 0) (digit_glyph false (n % 10) ∷ acc) (digits_onto k 10 false (n / 10) (digit_glyph false (n % 10)
    ∷ acc))
    (glyph_is (n % 10), h) (digits_are k (n / 10) (digit_glyph false (n % 10) ∷ acc) (glyph_is (n % 10), h))

decimal_is : (n : ℕ) → HasNoLineFeed (decimal n)
unfolding digits
decimal_is n = digits_are 64 n [] tt

-- texts of JSON
char_is : (d : ℕ) → digit_char d ≢ 10
char_is d e = at (nat_lt d 10) e
  where
    at : (b : Bool) → cond b (48 + d) (87 + d) ≡ 10 → ⊥
    at true e = omega arith
    at false e = omega arith

letter_at : (x : ℕ) (mark back form feed return tab : Bool) → (mark ≡ true → x ≢ 10)
    → cond mark x (cond back 98 (cond form 102 (cond feed 110 (cond return 114 (cond tab 116 0))))) ≢ 10
letter_at x true back form feed return tab h e = h refl e
letter_at x false true form feed return tab h e = no_feed 98 refl e
letter_at x false false true feed return tab h e = no_feed 102 refl e
letter_at x false false false true return tab h e = no_feed 110 refl e
letter_at x false false false false true tab h e = no_feed 114 refl e
letter_at x false false false false false true h e = no_feed 116 refl e
letter_at x false false false false false false h e = no_feed 0 refl e

letter_is : (x : ℕ) → escape_letter x ≢ 10
letter_is x = letter_at x ((x == 34) || (x == 92)) (x == 8) (x == 12) (x == 10) (x == 13) (x == 9)
    (λ mark e. let other : ((x == 34) || (x == 92)) ≡ false = ap (λ (y : ℕ). (y == 34) || (y == 92)) e in absurd (cc))

-- a byte as it stands in a string: a line feed is escaped
escaped : (x : ℕ) → HasNoLineFeed (escape_byte x)
unfolding escape_byte
escaped x = at (nat_lt 0 (escape_letter x)) refl
  where
    other : (b : Bool) → nat_lt x 32 ≡ b → HasNoLineFeed (cond b (92 ∷ 117 ∷ 48 ∷ 48 ∷ digit_char (x / 16)
        ∷ digit_char (x % 16) ∷ []) (x ∷ []))
    other true e = (
      no_feed 92 refl,
      (no_feed 117 refl, (no_feed 48 refl, (no_feed 48 refl, (char_is (x / 16), (char_is (x % 16), tt))))),
    )
    other false e = ((λ z. let low : nat_lt x 32 ≡ true = ap (λ (y : ℕ). nat_lt y 32) z in absurd (cc)), tt)

    at : (b : Bool) → nat_lt 0 (escape_letter x) ≡ b → HasNoLineFeed (cond b (92 ∷ escape_letter x ∷ [])
        (cond (nat_lt x 32) (92 ∷ 117 ∷ 48 ∷ 48 ∷ digit_char (x / 16) ∷ digit_char (x % 16) ∷ []) (x ∷ [])))
    at true e = (no_feed 92 refl, (letter_is x, tt))
    at false e = other (nat_lt x 32) refl

escaped_text : (s : List ℕ) → HasNoLineFeed (escape s)
escaped_text [] = tt
escaped_text (x ∷ s) = joined (escape_byte x) (escape s) (escaped x) (escaped_text s)

quoted_is : (s : List ℕ) → HasNoLineFeed (quoted s)
quoted_is s = (no_feed 34 refl, joined (escape s) (34 ∷ []) (escaped_text s) (no_feed 34 refl, tt))

number_is : (n : Num) → HasNoLineFeed (number_text n)
number_is (unsigned n) = decimal_is n
number_is (negative (pos n)) = decimal_is n
number_is (negative (negsuc n)) = (no_feed 45 refl, decimal_is (suc n))
number_is (float x) = tt

comma_is : (later : Bool) → HasNoLineFeed (comma_if later)
comma_is true = (no_feed 44 refl, tt)
comma_is false = tt

mutual
  data_is : (d : Data) → HasNoLineFeed (compact_text d)
  data_is null = (no_feed 110 refl, (no_feed 117 refl, (no_feed 108 refl, (no_feed 108 refl, tt))))
  data_is (boolean true) = (no_feed 116 refl, (no_feed 114 refl, (no_feed 117 refl, (no_feed 101 refl, tt))))
  data_is (boolean false) =
      (no_feed 102 refl, (no_feed 97 refl, (no_feed 108 refl, (no_feed 115 refl, (no_feed 101 refl, tt)))))
  data_is (number n) = number_is n
  data_is (string s) = quoted_is s
  data_is (array ds) = (no_feed 91 refl, items_are false ds)
  data_is (object ms) = (no_feed 123 refl, members_are false ms)

  items_are : (later : Bool) (ds : Items) → HasNoLineFeed (items_text later ds)
  items_are later no_items = (no_feed 93 refl, tt)
  items_are later (item d ds) =
      joined (comma_if later) _ (comma_is later) (joined (compact_text d) _ (data_is d) (items_are true ds))

  members_are : (later : Bool) (ms : Members) → HasNoLineFeed (members_text later ms)
  members_are later no_members = (no_feed 125 refl, tt)
  members_are later (member k d ms) = joined (comma_if later) _ (comma_is later) (joined (quoted k) _ (quoted_is k)
      (no_feed 58 refl, joined (compact_text d) _ (data_is d) (members_are true ms)))

-- a reply's line
line_is : (status : ℕ) (body : List ℕ) → HasNoLineFeed body → IsOneLine (reply_line status body)
line_is status body h = record {
  front = decimal status ++ 32 ∷ body;
  whole = sym (append_assoc (decimal status) (32 ∷ body) (10 ∷ []));
  only = joined (decimal status) (32 ∷ body) (decimal_is status) (no_feed 32 refl, h);
}

fault_is : (fault : Fault) → HasNoLineFeed (fault_body fault)
fault_is F1 = feedless (fault_body F1) refl
fault_is F2 = feedless (fault_body F2) refl
fault_is F3 = feedless (fault_body F3) refl
fault_is F4 = feedless (fault_body F4) refl
fault_is F5 = feedless (fault_body F5) refl
fault_is F6 = feedless (fault_body F6) refl
fault_is F7 = feedless (fault_body F7) refl
fault_is F8 = feedless (fault_body F8) refl
fault_is F9 = feedless (fault_body F9) refl
fault_is F10 = feedless (fault_body F10) refl
fault_is F11 = feedless (fault_body F11) refl
fault_is F12 = feedless (fault_body F12) refl
fault_is F13 = feedless (fault_body F13) refl
fault_is F14 = feedless (fault_body F14) refl
fault_is F15 = feedless (fault_body F15) refl
fault_is F16 = feedless (fault_body F16) refl
fault_is F17 = feedless (fault_body F17) refl
fault_is F18 = feedless (fault_body F18) refl
fault_is F19 = feedless (fault_body F19) refl
fault_is F20 = feedless (fault_body F20) refl

pub one_line : (r : Result Reply Fault) → IsOneLine (shown_line r)
one_line (Ok reply) = line_is (reply_status reply) (reply_body reply) (data_is (reply_data reply))
one_line (Err fault) = line_is (fault_status fault) (fault_body fault) (fault_is fault)

pub texts_are_lines : (run : List Line) (i : Institution) → AllByRecursion IsOneLine (texts_of run i)
texts_are_lines [] i = tt
texts_are_lines (l ∷ run) i = (one_line (answer l i), texts_are_lines run (next l i))

-- what two lines begin with is the same
record Halves (f g xs ys : List ℕ) : Type 0 where
  pub first : f ≡ g
  pub rest : xs ≡ ys

halves : (f g xs ys : List ℕ) → HasNoLineFeed f → HasNoLineFeed g → f ++ 10 ∷ xs ≡ g ++ 10 ∷ ys → Halves f g xs ys
halves [] [] xs ys h k e = let r : xs ≡ ys = cc in record { first = refl; rest = r }
halves [] (y ∷ g) xs ys h k e = let b : y ≡ 10 = cc in absurd (k.0 b)
halves (x ∷ f) [] xs ys h k e = let b : x ≡ 10 = cc in absurd (h.0 b)
halves (x ∷ f) (y ∷ g) xs ys h k e =
    let same : x ≡ y = cc in
    let more : f ++ 10 ∷ xs ≡ g ++ 10 ∷ ys = cc in
    let rest = halves f g xs ys h.1 k.1 more in
    record { first = ap₂ (λ (b : ℕ) (bs : List ℕ). b ∷ bs) same rest.first; rest = rest.rest }

not_none : (f rest : List ℕ) → f ++ 10 ∷ rest ≡ [] → ⊥
not_none [] rest e = absurd (cc)
not_none (x ∷ f) rest e = absurd (cc)

ended_by : (f rest : List ℕ) → (f ++ 10 ∷ []) ++ rest ≡ f ++ 10 ∷ rest
ended_by f rest = append_assoc f (10 ∷ []) rest

pub lines_by_bytes : (ts us : List (List ℕ)) → AllByRecursion IsOneLine ts → AllByRecursion IsOneLine us
    → concat ts ≡ concat us → ts ≡ us
lines_by_bytes [] [] h k e = refl
lines_by_bytes [] (u ∷ us) h k e = absurd (not_none k.0.front (concat us) (sym (e ∙ ap (λ t. t ++ concat us) k.0.whole
    ∙ ended_by k.0.front (concat us))))
lines_by_bytes (t ∷ ts) [] h k e = absurd (not_none h.0.front (concat ts) (sym (ended_by h.0.front (concat ts))
    ∙ ap (λ u. u ++ concat ts) (sym h.0.whole) ∙ e))
lines_by_bytes (t ∷ ts) (u ∷ us) h k e =
    let both : h.0.front ++ 10 ∷ concat ts ≡ k.0.front ++ 10 ∷ concat us =
    sym (ap (λ x. x ++ concat ts) h.0.whole ∙ ended_by h.0.front (concat ts)) ∙ e ∙ ap (λ x. x ++ concat us) k.0.whole
    ∙ ended_by k.0.front (concat us) in
    let halved = halves h.0.front k.0.front (concat ts) (concat us) h.0.only k.0.only both in
    let this : t ≡ u = h.0.whole ∙ ap (λ f. f ++ 10 ∷ []) halved.first ∙ sym k.0.whole in
    ap₂ (λ (x : List ℕ) (xs : List (List ℕ)). x ∷ xs) this (lines_by_bytes ts us h.1 k.1 halved.rest)
