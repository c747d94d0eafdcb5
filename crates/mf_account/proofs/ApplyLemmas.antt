-- Entries applied so far, from any state.
use Rattle.std.proofs.Common.{◌≡◌, ℕ, List, [], ◌∷◌, ◌++◌, length, refl, ◌∙◌, ap, sym, subst, append_assoc}
use Rattle.mf_alloc.specs.declared.row.Cell.{Cell}
use Rattle.mf_alloc.specs.Order.{dues_of}
use Rattle.mf_account.specs.declared.entry.Entry.{Entry}
use Rattle.mf_account.specs.declared.settled.SettledPart.{SettledPart}
use Rattle.mf_account.specs.Effect.{State, after_entry, parts_of}
use Rattle.mf_account.specs.Account.{Orders, orders_by, after_entries, settled_by, parts_numbered}
use Rattle.mf_account.specs.Applicable.{AreApplicable}
use Rattle.mf_account.proofs.ReplayLemmas.{length-after}
use Rattle.mf_account.proofs.DueLemmas.{dues-after, orders-same}

-- what is left leads from the state and the list so far to those of all
pub record IsApplied (orders : Orders) (base : State) (all rest : List Entry) (now : State)
    (settled : List SettledPart) : Type 0 where
  pub size : length now.rows ≡ length base.rows
  pub dues : dues_of now.rows ≡ dues_of base.rows
  pub fits : AreApplicable orders rest now
  pub state : after_entries orders rest now ≡ after_entries orders all base
  pub settled_all : settled ++ settled_by orders rest now ≡ settled_by orders all base

pub applied-none : (orders : Orders) (base : State) (all rest : List Entry) (now : State) (settled : List SettledPart)
    → now
    ≡ base → rest ≡ all → settled ≡ [] → AreApplicable orders all base → IsApplied orders base all rest now settled
applied-none orders base all rest now settled first whole empty fits =
    let begin : IsApplied orders base all all base [] = record {
      size = refl;
      dues = refl;
      fits = fits;
      state = refl;
      settled_all = refl;
    } in
    subst (λ (x : List SettledPart). IsApplied orders base all rest now x) (sym empty)
    (subst (λ (x : List Entry). IsApplied orders base all x now []) (sym whole)
    (subst (λ (x : State). IsApplied orders base all all x []) (sym first) begin))

pub applied-more : (orders : Orders) (base : State) (all rest left : List Entry) (entry : Entry) (now next : State)
    (settled parts more : List SettledPart) → IsApplied orders base all rest now settled → rest ≡ entry ∷ left
    → next ≡ after_entry (orders entry) entry now
    → parts ≡ parts_numbered entry.seq 1 (parts_of (orders entry) entry now)
    → more ≡ settled ++ parts → IsApplied orders base all left next more
applied-more orders base all rest left entry now next settled parts more so_far splits applied own joined =
    let here : IsApplied orders base all (entry ∷ left) now settled =
    subst (λ (x : List Entry). IsApplied orders base all x now settled) splits so_far in
    let then : State = after_entry (orders entry) entry now in
    let own_parts : List SettledPart = parts_numbered entry.seq 1 (parts_of (orders entry) entry now) in
    let exact : IsApplied orders base all left then (settled ++ own_parts) = record {
      size = length-after orders entry now ∙ here.size;
      dues = dues-after (orders entry) entry now ∙ here.dues;
      fits = here.fits.1;
      state = here.state;
      settled_all = append_assoc settled own_parts (settled_by orders left then) ∙ here.settled_all;
    } in
    subst (λ (x : State). IsApplied orders base all left x more) (sym applied)
    (subst (λ (x : List SettledPart). IsApplied orders base all left then x) (sym (joined ∙ ap (λ x. settled ++ x) own))
    exact)

-- the orders over the rows after an entry are those over the rows before it
pub orders-after : (cells : ℕ → ℕ → ℕ → Cell) (entry : Entry) (before next : State) → next
    ≡ after_entry (orders_by cells before.rows entry) entry before → orders_by cells next.rows
    ≡ orders_by cells before.rows
orders-after cells entry before next is =
    orders-same cells next.rows before.rows (ap (λ (s : State). dues_of s.rows) is
    ∙ dues-after (orders_by cells before.rows entry) entry before)
