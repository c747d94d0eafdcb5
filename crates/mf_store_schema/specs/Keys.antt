-- The order of keys, in numbers and texts, is that of first columns.
use Rattle.std.specs.Prelude.{◌≡◌, ℕ, pos, List}
use Rattle.std.specs.declared.cmp.Ordering.TheVariants.{Equal}
use Rattle.std.specs.Ordering.{nat_cmp, ordering_then}
use Rattle.std.specs.Cmp.Lexicographic.{slice_cmp}
use Rattle.std.proofs.Common.{sym, ap₂, ◌∙◌}
use Rattle.sqlite.specs.declared.types.Value.TheVariants.{Int, Text as Words}
use Rattle.sqlite.specs.Order.{value_cmp}
use Rattle.sqlite_value.proofs.OrderLemmas.{then-Equal, value_cmp-Text}
use Rattle.mf_store_sql.proofs.CompareLemmas.{int_cmp-pos}

pub one_number : (a b : ℕ) → nat_cmp a b ≡ ordering_then (value_cmp (Int (pos a)) (Int (pos b))) Equal
one_number a b = sym (then-Equal _ ∙ int_cmp-pos a b)

pub two_numbers : (a b c d : ℕ) → ordering_then (nat_cmp a c) (nat_cmp b d)
    ≡ ordering_then (value_cmp (Int (pos a)) (Int (pos c)))
    (ordering_then (value_cmp (Int (pos b)) (Int (pos d))) Equal)
two_numbers a b c d = ap₂ ordering_then (sym (int_cmp-pos a c)) (one_number b d)

pub three_numbers : (a b c d e f : ℕ) → ordering_then (nat_cmp a d) (ordering_then (nat_cmp b e) (nat_cmp c f))
    ≡ ordering_then (value_cmp (Int (pos a)) (Int (pos d)))
    (ordering_then (value_cmp (Int (pos b)) (Int (pos e)))
    (ordering_then (value_cmp (Int (pos c)) (Int (pos f))) Equal))
three_numbers a b c d e f = ap₂ ordering_then (sym (int_cmp-pos a d)) (two_numbers b c e f)

pub four_numbers : (a b c d e f g h : ℕ) → ordering_then (nat_cmp a e) (ordering_then (nat_cmp b f)
    (ordering_then (nat_cmp c g) (nat_cmp d h))) ≡ ordering_then (value_cmp (Int (pos a)) (Int (pos e)))
    (ordering_then (value_cmp (Int (pos b)) (Int (pos f)))
    (ordering_then (value_cmp (Int (pos c)) (Int (pos g)))
    (ordering_then (value_cmp (Int (pos d)) (Int (pos h))) Equal)))
four_numbers a b c d e f g h = ap₂ ordering_then (sym (int_cmp-pos a e)) (three_numbers b c d f g h)

pub number_and_text : (a : ℕ) (s : List ℕ) (b : ℕ) (t : List ℕ) → ordering_then (nat_cmp a b) (slice_cmp nat_cmp s t)
    ≡ ordering_then (value_cmp (Int (pos a)) (Int (pos b))) (ordering_then (value_cmp (Words s) (Words t)) Equal)
number_and_text a s b t = ap₂ ordering_then (sym (int_cmp-pos a b)) (sym (then-Equal _ ∙ value_cmp-Text s t))
