-- Rows that follow on up to a place, and one more.
use Rattle.std.proofs.Common.{◌≡◌, ◌⊎◌, ℕ, suc, zero, ◌+◌, ◌≤◌, List, [], ◌∷◌, Some, refl, take, map, length}
use Rattle.std.proofs.Common.{sym, ap, subst, ◌∙◌, arith}
use Rattle.std.specs.Prelude.{slice_get}
use Rattle.std.proofs.lemmas.List.{length-map}
use Rattle.mf_journal.specs.declared.following.Head.{Head}
use Rattle.mf_journal.specs.declared.following.KeptRow.{KeptRow}
use Rattle.mf_journal.specs.Chain.{AreJournalLines, IsCollision, chain_after}
use Rattle.mf_journal.specs.Following.{Follows, FollowOn, BreaksFirst, IsBroken, head_of, head_after, line_of}
use Rattle.mf_journal.proofs.ChainLemmas.{one_chain}
use Rattle.mf_journal.specs.declared.following.Break.{Break}

-- the rows before a place follow on, and the journal stands there after them
pub record FollowTo (h : Head) (rows : List KeptRow) (place : ℕ) (now : Head) : Type 0 where
  pub before : FollowOn h (take place rows)
  pub stands : now ≡ head_after h (take place rows)

-- with one more row
pub one_more : (h : Head) (rows : List KeptRow) (place : ℕ) (k : KeptRow) → slice_get rows place ≡ Some k
    → FollowOn h (take place rows) → Follows (head_after h (take place rows)) k
    → FollowOn h (take (suc place) rows) × (head_of k ≡ head_after h (take (suc place) rows))
one_more h (r ∷ rows) zero k there before follows =
    let same : r ≡ k = cc in
    ((subst (Follows h) (sym same) follows, _), ap head_of (sym same))
one_more h (r ∷ rows) (suc place) k there before follows =
    let rest = one_more (head_of r) rows place k there before.1 follows in
    ((before.0, rest.0), rest.1)
one_more h [] place k there before follows = cc

-- the same of where the journal stands
pub one_more_to : (h : Head) (rows : List KeptRow) (place : ℕ) (now : Head) (k : KeptRow) (next : Head)
    → slice_get rows place ≡ Some k → FollowTo h rows place now → Follows now k → next ≡ head_of k
    → FollowTo h rows (place + 1) next
one_more_to h rows place now k next there to follows is =
    let more = one_more h rows place k there to.before (subst (λ x. Follows x k) to.stands follows) in
    let one : suc place ≡ place + 1 = omega arith in
    subst (λ n. FollowTo h rows n next) one (record { before = more.0; stands = is ∙ more.1 })

-- the place of a row that breaks a condition
pub broken_there : (h : Head) (rows : List KeptRow) (place : ℕ) (now : Head) (k : KeptRow) (flaw : Break)
    → slice_get rows place ≡ Some k → FollowTo h rows place now → BreaksFirst now k flaw → IsBroken h rows place flaw
broken_there h rows place now k flaw there to breaks =
    record { before = to.before; row = k; there = there; breaks = subst (λ x. BreaksFirst x k flaw) to.stands breaks }

-- what rows that follow on come to: the chain over their lines, a number for each, and no earlier day
pub record ComeTo (h : Head) (rows : List KeptRow) : Type 0 where
  pub chain : (head_after h rows).chain ≡ chain_after h.chain (map line_of rows)
  pub number : (head_after h rows).number ≡ h.number + length rows
  pub day : h.day ≤ (head_after h rows).day

pub come_to : (h : Head) (rows : List KeptRow) → FollowOn h rows → ComeTo h rows
come_to h [] on = record { chain = refl; number = omega arith; day = omega arith }
come_to h (k ∷ ks) on =
    let rest = come_to (head_of k) ks on.1 in
    let number : k.number ≡ suc h.number = on.0.0 in
    let later : h.day ≤ k.row.day = on.0.1 in
    record {
      chain = rest.chain ∙ ap (λ c. chain_after c (map line_of ks)) on.0.2;
      number = rest.number ∙ omega (arith, number);
      day = omega (arith, later, rest.day);
    }

-- two journals with one head have one list of lines, or two texts with one digest are found
pub one_head : (h g : Head) (xs ys : List KeptRow) → length h.chain ≡ length g.chain
    → AreJournalLines (map line_of xs) → AreJournalLines (map line_of ys) → FollowOn h xs → FollowOn g ys
    → h.number ≡ g.number → head_after h xs ≡ head_after g ys
    → ((h.chain ≡ g.chain) × (map line_of xs ≡ map line_of ys)) ⊎ ((s : List ℕ) × (t : List ℕ) × IsCollision s t)
one_head h g xs ys size are others on along first same =
    let x = come_to h xs on in
    let y = come_to g ys along in
    let number : (head_after h xs).number ≡ (head_after g ys).number = ap (λ (e : Head). e.number) same in
    let count : length xs ≡ length ys = omega (arith, x.number, y.number, first, number) in
    let lines : length (map line_of xs) ≡ length (map line_of ys) = length-map xs line_of ∙ count
    ∙ sym (length-map ys line_of) in
    one_chain h.chain g.chain (map line_of xs) (map line_of ys) size are others lines
    (sym x.chain ∙ ap (λ (e : Head). e.chain) same ∙ y.chain)
