-- Texts that are gathered one behind another.
use Rattle.std.proofs.Common.{ℕ, List, [], ◌++◌, sym, ap, ◌∙◌, subst, append_assoc, Option}
use Rattle.std.specs.Io.KnownBytes.{Appends}
use Rattle.std.proofs.KnownBytes.{Appends-trans}
use Rattle.mf_wire_lines.proofs.Writes.{part_first, part_second}
use Rattle.mf_wire_messages.specs.Responses.{Gathers, IsCut}

-- two texts one behind the other
pub gathers_both : (a b c : Option (List ℕ)) (held one first two second : List ℕ) → Gathers a b held first one
    → Gathers b c one second two
    → Gathers a c held (first ++ second) two
gathers_both a b c held one first two second p q = record {
  out = p.out ++ q.out;
  written = Appends-trans a b c p.out q.out p.written q.written;
  together =
      append_assoc p.out q.out two
      ∙ ap (λ l. p.out ++ l) q.together
      ∙ sym (append_assoc p.out one second)
      ∙ ap (λ l. l ++ second) p.together
      ∙ append_assoc held first second;
}

-- a beginning of the first text is a beginning of both
pub cut_first : (a b : Option (List ℕ)) (held first second : List ℕ) → IsCut a b (held ++ first)
    → IsCut a b (held ++ (first ++ second))
cut_first a b held first second p =
    subst (IsCut a b) (append_assoc held first second) (part_first a b (held ++ first) second p)

-- a beginning of the second text behind the first
pub cut_second : (a b c : Option (List ℕ)) (held one first second : List ℕ) → Gathers a b held first one
    → IsCut b c (one ++ second)
    → IsCut a c (held ++ (first ++ second))
cut_second a b c held one first second p q =
    subst (IsCut a c)
    (sym (append_assoc p.out one second) ∙ ap (λ l. l ++ second) p.together ∙ append_assoc held first second)
    (part_second a b c p.out (one ++ second) p.written q)

-- what is left is written too
pub gathered : (a b c : Option (List ℕ)) (text left : List ℕ) → Gathers a b [] text left → Appends b c left
    → Appends a c text
gathered a b c text left p q = subst (Appends a c) p.together (Appends-trans a b c p.out left p.written q)

-- of what is left a beginning is written
pub gathered_cut : (a b c : Option (List ℕ)) (text left : List ℕ) → Gathers a b [] text left → IsCut b c left
    → IsCut a c text
gathered_cut a b c text left p q = subst (IsCut a c) p.together (part_second a b c p.out left p.written q)
