-- Messages answered one after another over a store, as by a server, where lists may be asked for or may not.
use Rattle.std.specs.Prelude.{◌≡◌, ℕ, Bool, List, [], ◌∷◌, map}
use Rattle.mf_model.specs.Institution.{Institution}
use Rattle.mf_model.specs.declared.store.InstitutionStore.{Ghosts}
use Rattle.mf_wire.specs.Exchanges.{Exchange, ServesOn}
use Rattle.mf_lists_runs.specs.Choice.{Choice, Told, IsReadByViews, all_told, told_response}
use Rattle.mf_lists_runs.specs.Serving.{ListsAnswerMessage}

-- the responses of what is told
abbrev pub told_responses : List Bool → List Told → List (List ℕ)
told_responses (to_head ∷ others) (t ∷ ts) = told_response to_head t ∷ told_responses others ts
told_responses _ _ = []

module _ {S : Type 0} (store : Ghosts S) (choice : Choice) (told : Bool) where
  -- the store answered these messages one after another
  abbrev pub ListsAnswerAll : S → List Exchange → S → Type 0
  ListsAnswerAll old [] new = new ≡ old
  ListsAnswerAll old (e ∷ es) new =
      (mid : S) × ListsAnswerMessage store choice told e.bytes old e.text mid × ListsAnswerAll mid es new

  -- The messages were answered as a run on the institution. Without the lists it is that of `mf_wire`, with other
  -- responses where a list was asked for: what it makes of the institution, what is isolated and what a stop leaves is
  -- told there. With them the responses are those of what its lines are told, lists too, and read off the views.
  pub record ListsServeOn (i : Institution) (es : List Exchange) (old new : S) : Type 0 where
    pub without : List Exchange
    pub same_bytes : map (λ e. e.bytes) without ≡ map (λ e. e.bytes) es
    pub served : ServesOn store told i without old new
    pub replied : map (λ e. e.text) es ≡ told_responses served.to_heads (all_told choice served.run i)
    pub by_views : IsReadByViews choice i served.run
