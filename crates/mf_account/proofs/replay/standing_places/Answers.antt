use Rattle.std.proofs.Common.{ℕ, ◌≡◌, ◌∙◌, ap, sym, get_or, List, Vec, Global, [], ◌∷◌, ◌++◌}
use Rattle.mf_account.specs.declared.entry.Entry.{Entry}
use Rattle.mf_account.specs.declared.replay.Place.{Place}
use Rattle.mf_account.specs.Standing.{no_entry}
use Rattle.mf_account.proofs.StandingLemmas.{read_at}
use Rattle.mf_account.proofs.ByDayLemmas.{places_with, places_without}
use Rattle.mf_account.proofs.replay.standing_places.Goals as goal
use Rattle.mf_account.proofs.replay.standing_places.Goals.{then-not-entries-k+in_ok-push, else-not-entries-k}

pub loop-k-preserved : goal.loop-k-preserved
loop-k-preserved c =
    let entries : List Entry = c.args.entries.now in
    let k : ℕ = c.loop-k.k in
    let first : get_or entries k no_entry ≡ c.index-entries-k.result =
    read_at entries k c.index-entries-k.result c.loop-k-test.true c.index-entries-k.is in
    elim c.if-not-entries-k.branch [
      | then-not-entries-k+in_ok-push w ↦
          let e : Entry = w.index-entries-k-then-not-entries-k.result in
          let second : get_or entries k no_entry ≡ e =
          read_at entries k e c.loop-k-test.true w.index-entries-k-then-not-entries-k.is in
          places_with entries k e c.loop-k.places.items c.if-not-entries-k.places.items c.loop-k.invariant
          c.loop-k-test.true second
          (ap (λ (x : Entry). x.reversed) (sym second ∙ first ∙ c.index-entries-k.is) ∙ w.if-not-entries-k.true)
          (ap (λ (v : Vec Place Global). v.items) w.places-is ∙ w.in_ok-push.ensures.items
          ∙ ap (λ (x : Entry). c.loop-k.places.items ++ record { day = x.day; at = k } ∷ [])
          (sym w.index-entries-k-then-not-entries-k.is))
      | else-not-entries-k w ↦
          places_without entries k c.index-entries-k.result c.loop-k.places.items c.if-not-entries-k.places.items
          c.loop-k.invariant c.loop-k-test.true first
          (ap (λ (x : Entry). x.reversed) c.index-entries-k.is ∙ w.if-not-entries-k.false)
          (ap (λ (v : Vec Place Global). v.items) w.places-is)
    ]
