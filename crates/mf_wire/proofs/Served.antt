-- Messages answered one after another are a run.
use Rattle.std.proofs.Common.{◌≡◌, ℕ, Bool, List, [], ◌∷◌, map, refl, sym, ap₂, subst}
use Rattle.mf_model.specs.Institution.{Institution}
use Rattle.mf_model.specs.Tree.{IsTree}
use Rattle.mf_model.specs.Desk.{outcome, change_in}
use Rattle.mf_model.specs.Run.{Line, next, answers, last, noted_of}
use Rattle.mf_model.specs.Sound.{AreInRange}
use Rattle.mf_model.specs.Store.{left_by, left_after}
use Rattle.mf_model.specs.declared.store.InstitutionStore.{Ghosts}
use Rattle.mf_wire.specs.OneCall.{line_of_call}
use Rattle.mf_wire.specs.Serving.{call_of_message}
use Rattle.mf_wire.specs.Exchanges.{Exchange, AreLinesOf, responses, AnswersAll, ServesOn}
use Rattle.mf_wire.proofs.Ran.{IsolationLaw}

module _ {S : Type 0} (store : Ghosts S) (told : Bool) where
  premise : (old : S) (es : List Exchange) (new : S) → AnswersAll store told old es new → store.clean new
      → store.clean old
  premise old [] new h c = subst store.clean h c
  premise old (e ∷ es) new h c = h.1.answered.premise (premise h.0 es new h.2 c)

  -- the run, without what is isolated
  record RanOn (i : Institution) (es : List Exchange) (old new : S) : Type 0 where
    pub run : List Line
    pub to_heads : List Bool
    pub calls : AreLinesOf told es run to_heads
    pub in_range : AreInRange run
    pub replied : map (λ (e : Exchange). e.text) es ≡ responses to_heads (answers run i)
    pub follows : store.stands new (last run i)
    pub stop : (is : List Institution) → store.leaves old is → store.leaves new (left_after run i is)

  ran : (old : S) (es : List Exchange) (new : S) (i : Institution) → AnswersAll store told old es new → store.clean new
      → store.stands old i → RanOn i es old new
  ran old [] new i h c s = subst (λ (n : S). RanOn i [] old n) (sym h) (record {
    run = [];
    to_heads = [];
    calls = tt;
    in_range = tt;
    replied = refl;
    follows = s;
    stop = λ is l. l;
  })
  ran old (e ∷ es) new i h c s =
      let one = h.1 in
      let w = one.answered.answered (premise h.0 es new h.2 c) i s in
      let l = line_of_call (call_of_message told one.message) w.0 in
      let r = ran h.0 es new (next l i) h.2 c w.1.follows in record {
        run = l ∷ r.run;
        to_heads = one.to_head ∷ r.to_heads;
        calls = ((one.message, one.is, refl), r.calls);
        in_range = (one.in_range, r.in_range);
        replied = ap₂ (λ (text : List ℕ) (texts : List (List ℕ)). text ∷ texts) w.1.replied r.replied;
        follows = r.follows;
        stop = λ is k. r.stop (left_by (noted_of l.call i) (change_in (outcome l.call i)) w.0 i is) (w.1.stop is k);
      }

  pub serves_on : IsolationLaw → (old : S) (es : List Exchange) (new : S) (i : Institution) → IsTree i.offices
      → AnswersAll store told old es new → store.clean new → store.stands old i → ServesOn store told i es old new
  serves_on law old es new i tree h c s =
      let r = ran old es new i h c s in record {
        run = r.run;
        to_heads = r.to_heads;
        calls = r.calls;
        in_range = r.in_range;
        replied = r.replied;
        follows = r.follows;
        views = law.views i r.run tree;
        replies = law.replies i r.run tree;
        own_replies = law.own_replies i r.run tree;
        stop = r.stop;
      }
