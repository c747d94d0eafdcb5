-- Messages answered one after another, where lists may be asked for, are a run.
use Rattle.std.proofs.Common.{◌≡◌, ℕ, Bool, List, [], ◌∷◌, map, refl, sym, ap, ap₂, subst}
use Rattle.mf_model.specs.Institution.{Institution}
use Rattle.mf_model.specs.Tree.{IsTree}
use Rattle.mf_model.specs.Desk.{outcome, change_in}
use Rattle.mf_model.specs.Run.{Line, answer, answers, next, last, noted_of, from_office, from_caller}
use Rattle.mf_model.specs.Sound.{AreInRange}
use Rattle.mf_model.specs.Store.{left_by, left_after}
use Rattle.mf_model.specs.declared.store.InstitutionStore.{Ghosts}
use Rattle.mf_model.proofs.Runs.{isolated_view, isolated_replies, office_from, caller_from}
use Rattle.mf_wire.specs.OneCall.{line_of_call}
use Rattle.mf_wire.specs.Serving.{call_of_message, shown_response}
use Rattle.mf_wire.specs.Exchanges.{Exchange, AreLinesOf, responses}
use Rattle.mf_lists_runs.specs.Choice.{Choice, all_told}
use Rattle.mf_lists_runs.specs.Exchanges.{ListsAnswerAll, ListsServeOn, told_responses}
use Rattle.mf_lists_runs.proofs.Views.{read_by_views}

module _ {S : Type 0} (store : Ghosts S) (choice : Choice) (told : Bool) where
  premise : (old : S) (es : List Exchange) (new : S) → ListsAnswerAll store choice told old es new → store.clean new
      → store.clean old
  premise old [] new h c = subst store.clean h c
  premise old (e ∷ es) new h c = h.1.answered.premise (premise h.0 es new h.2 c)

  -- the run, without what is isolated
  record RanOn (i : Institution) (es : List Exchange) (old new : S) : Type 0 where
    pub without : List Exchange
    pub same_bytes : map (λ (e : Exchange). e.bytes) without ≡ map (λ (e : Exchange). e.bytes) es
    pub run : List Line
    pub to_heads : List Bool
    pub calls : AreLinesOf told without run to_heads
    pub in_range : AreInRange run
    pub plain : map (λ (e : Exchange). e.text) without ≡ responses to_heads (answers run i)
    pub replied : map (λ (e : Exchange). e.text) es ≡ told_responses to_heads (all_told choice run i)
    pub follows : store.stands new (last run i)
    pub stop : (is : List Institution) → store.leaves old is → store.leaves new (left_after run i is)

  ran : (old : S) (es : List Exchange) (new : S) (i : Institution) → ListsAnswerAll store choice told old es new
      → store.clean new → store.stands old i → RanOn i es old new
  ran old [] new i h c s = subst (λ (n : S). RanOn i [] old n) (sym h) (record {
    without = [];
    same_bytes = refl;
    run = [];
    to_heads = [];
    calls = tt;
    in_range = tt;
    plain = refl;
    replied = refl;
    follows = s;
    stop = λ is l. l;
  })
  ran old (e ∷ es) new i h c s =
      let one = h.1 in
      let w = one.answered.answered (premise h.0 es new h.2 c) i s in
      let l = line_of_call (call_of_message told one.message) w.0 in
      let r = ran h.0 es new (next l i) h.2 c w.1.follows in record {
        without = record { bytes = e.bytes; text = shown_response one.to_head (answer l i) } ∷ r.without;
        same_bytes = ap (λ (texts : List (List ℕ)). e.bytes ∷ texts) r.same_bytes;
        run = l ∷ r.run;
        to_heads = one.to_head ∷ r.to_heads;
        calls = ((one.message, one.is, refl), r.calls);
        in_range = (one.in_range, r.in_range);
        plain = ap (λ (texts : List (List ℕ)). shown_response one.to_head (answer l i) ∷ texts) r.plain;
        replied = ap₂ (λ (text : List ℕ) (texts : List (List ℕ)). text ∷ texts) w.1.replied r.replied;
        follows = r.follows;
        stop = λ is k. r.stop (left_by (noted_of l.call i) (change_in (outcome l.call i)) w.0 i is) (w.1.stop is k);
      }

  pub serves_on : (old : S) (es : List Exchange) (new : S) (i : Institution) → IsTree i.offices
      → ListsAnswerAll store choice told old es new → store.clean new → store.stands old i
      → ListsServeOn store choice told i es old new
  serves_on old es new i tree h c s =
      let r = ran old es new i h c s in record {
        without = r.without;
        same_bytes = r.same_bytes;
        served = record {
          run = r.run;
          to_heads = r.to_heads;
          calls = r.calls;
          in_range = r.in_range;
          replied = r.plain;
          follows = r.follows;
          views = λ o. isolated_view o r.run i tree;
          replies = λ o. isolated_replies o (from_office o) (office_from o) r.run i tree;
          own_replies = λ c. isolated_replies c.office (from_caller c) (caller_from c) r.run i tree;
          stop = r.stop;
        };
        replied = r.replied;
        by_views = read_by_views choice r.run i tree;
      }
