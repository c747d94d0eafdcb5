-- An option of the words that reads as a value, or doesn't.
use Rattle.std.proofs.Common.{◌≡◌, ◌∙◌, ℕ, true, false, Option, Some, IfSome, List, ap, sym, subst, codes}
use Rattle.std.specs.Prelude.{is_some}
use Rattle.clap.specs.Words.{Row, first_of}
use Rattle.mf_base.specs.Choices.{frequency_name}
use Rattle.mf_base.specs.declared.day.Freq.{Freq}
use Rattle.mf_catalog.specs.Limits.{longest_step}
use Rattle.microloan_words.specs.Asked.{IsNumberAt}
use Rattle.microloan_words.specs.Wrong.{IsRight}
use Rattle.microloan_words.specs.declared.reading.Wrong.TheVariants.{Every}

-- what reads isn't refused
pub read : {X : Type 0} {P : Type 0} (r : Option X) (v : X) → false ≡ is_some r → r ≡ Some v → P
read r v none some = let there : is_some r ≡ true = ap is_some some in cc

-- what reads is right
pub right : {X : Type 0} (P : X → Type 0) (r : Option X) (x : X) → r ≡ Some x → IfSome r P → (v : X) × P v
right P r x was reads = (x, subst (λ o. IfSome o P) was reads)

-- what doesn't is wrong
pub unread : {X : Type 0} (P : X → Type 0) (r : Option X) → false ≡ is_some r → ((x : X) → P x → r ≡ Some x)
    → ((v : X) × P v) → ⊥
unread P r none every given = read r given.0 none (every given.0 given.1)

-- the same of the number of a period's units, of which the unit says the most
pub right_every : (unit : Freq) (most : ℕ) (rows : List Row) (units : Option Freq) (r : Option ℕ) (x : ℕ)
    → most ≡ longest_step unit → units ≡ Some unit → IfSome units (λ u. first_of (codes "frequency") rows
    ≡ Some (frequency_name u))
    → r ≡ Some x → IfSome r (λ n. IsNumberAt rows (codes "every") 1 most n) → IsRight rows Every
right_every unit most rows units r x greatest unit_was unit_reads was reads =
    let unit_is : first_of (codes "frequency") rows ≡ Some (frequency_name unit) =
    subst (λ o. IfSome o (λ u. first_of (codes "frequency") rows ≡ Some (frequency_name u))) unit_was unit_reads in
    (unit, unit_is, right _ r x was (subst (λ n. IfSome r (λ v. IsNumberAt rows (codes "every") 1 n v)) greatest reads))

pub unread_every : (unit : Freq) (most : ℕ) (rows : List Row) (units : Option Freq) (r : Option ℕ)
    → most ≡ longest_step unit → units ≡ Some unit → ((u : Freq) → first_of (codes "frequency") rows
    ≡ Some (frequency_name u) → units ≡ Some u)
    → false ≡ is_some r → ((n : ℕ) → IsNumberAt rows (codes "every") 1 most n → r ≡ Some n) → IsRight rows Every → ⊥
unread_every unit most rows units r greatest unit_was unit_every none every given =
    let there : units ≡ Some given.0 = unit_every given.0 given.1 in
    let same : given.0 ≡ unit = cc in
    let steps : longest_step given.0 ≡ most = ap longest_step same ∙ sym greatest in
    read r given.2.0 none (every given.2.0 (subst (λ n. IsNumberAt rows (codes "every") 1 n given.2.0) steps given.2.1))
