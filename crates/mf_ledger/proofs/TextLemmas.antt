-- What the code's formats write.
use Rattle.std.proofs.Common.{◌≡◌, ℕ, ◌-◌, ◌^◌, List, [], ◌++◌, length, ap, ◌∙◌, arith, append_assoc}
use Rattle.std.specs.Prelude.{codes, decimal, replicate}
use Rattle.std.specs.Fmt.{padded_integral, char_count, styled_decimal, format_spec}
use Rattle.std.proofs.lemmas.List.{append-nil}
use Rattle.mf_base.specs.Texts.{right}
use Rattle.mf_office.specs.Written.{zero_padded}

zeros_then : (k j : ℕ) (text : List ℕ) → k ≡ j → replicate k 48 ++ (text ++ []) ≡ replicate j 48 ++ text
zeros_then k j text e = ap (λ t. replicate k 48 ++ t) (append-nil text) ∙ ap (λ (z : ℕ). replicate z 48 ++ text) e

pub three_digits : (n : ℕ) → styled_decimal (format_spec 32 0 4 3 (2 ^ 64 - 1)) n ≡ zero_padded 3 n
unfolding padded_integral char_count
three_digits n = zeros_then _ (3 - length (decimal n)) (decimal n) (omega arith)

-- five pieces behind a text
five-behind : (t s a w m e : List ℕ) → ((((t ++ s) ++ a) ++ w) ++ m) ++ e ≡ t ++ (s ++ (a ++ (w ++ (m ++ e))))
five-behind t s a w m e =
    append_assoc (((t ++ s) ++ a) ++ w) m e
    ∙ append_assoc ((t ++ s) ++ a) w (m ++ e)
    ∙ append_assoc (t ++ s) a (w ++ (m ++ e))
    ∙ append_assoc t s (a ++ (w ++ (m ++ e)))

-- parts in turn, each of which is another
pub three-parts : (a b c p q r : List ℕ) → a ≡ p → b ≡ q → c ≡ r → a ++ (b ++ c) ≡ p ++ (q ++ r)
three-parts a b c p q r x y z = cc

pub four-parts : (a b c d e p q r s t : List ℕ) → a ≡ p → b ≡ q → c ≡ r → d ≡ s → e ≡ t
    → a ++ (b ++ (c ++ (d ++ e))) ≡ p ++ (q ++ (r ++ (s ++ t)))
four-parts a b c d e p q r s t u v x y z = cc

-- the line of a posting, piece by piece behind a text
pub line-is : (t0 t1 t2 t3 t4 t5 name own word written end : List ℕ) → name ≡ own → word ≡ written
    → t1 ≡ t0 ++ codes "    " → t2 ≡ t1 ++ name → t3 ≡ t2 ++ codes "  " → t4 ≡ t3 ++ right (66 - length name) word
    → t5 ≡ t4 ++ end
    → t5 ≡ t0 ++ (codes "    " ++ (own ++ (codes "  " ++ (right (66 - length own) written ++ end))))
line-is t0 t1 t2 t3 t4 t5 name own word written end a w e1 e2 e3 e4 e5 =
    e5 ∙ ap (λ (t : List ℕ). t ++ end) (e4
    ∙ ap (λ (t : List ℕ). t ++ right (66 - length name) word) (e3
    ∙ ap (λ (t : List ℕ). t ++ codes "  ") (e2 ∙ ap (λ (t : List ℕ). t ++ name) e1)))
    ∙ five-behind t0 (codes "    ") name (codes "  ") (right (66 - length name) word) end
    ∙ ap (λ (n : List ℕ). t0 ++ (codes "    " ++ (n ++ (codes "  " ++ (right (66 - length n) word ++ end))))) a
    ∙ ap (λ (v : List ℕ). t0 ++ (codes "    " ++ (own ++ (codes "  " ++ (right (66 - length own) v ++ end))))) w
