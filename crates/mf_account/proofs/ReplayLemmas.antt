-- A replay so far.
use Rattle.std.proofs.Common.{◌≡◌, ℕ, suc, ◌+◌, ◌<◌, List, ◌∷◌, length, get_or, drop, ◌∙◌, ap, sym, add-one, drop-cons}
use Rattle.std.proofs.lemmas.List.{get_or_default}
use Rattle.mf_account.specs.declared.entry.Entry.{Entry}
use Rattle.mf_account.specs.Effect.{State, after_entry, parts_of}
use Rattle.mf_account.specs.AtOnce.{rows_charged}
use Rattle.mf_account.proofs.OnceLemmas.{rows-after}
use Rattle.mf_account.specs.Account.{Orders}
use Rattle.mf_account.specs.Standing.{entries_at, no_entry}
use Rattle.mf_account.proofs.EffectLemmas.{length-with_settled, length-with_charge}

pub length-after : (orders : Orders) (entry : Entry) (now : State) → length (after_entry (orders entry) entry now).rows
    ≡ length now.rows
length-after orders entry now =
    ap length (rows-after (orders entry) entry now)
    ∙ length-with_settled (rows_charged entry now) (parts_of (orders entry) entry now)
    ∙ length-with_charge entry.kind entry now.rows

-- the next entry
pub rest-cons : (entries : List Entry) (order : List ℕ) (k i : ℕ) (e : Entry) → k < length order → i ≡ get_or order k i
    → i < length entries → e ≡ get_or entries i e → entries_at entries (drop k order) ≡ e
    ∷ entries_at entries (drop (k + 1) order)
rest-cons entries order k i e within at there is =
    ap (entries_at entries) (drop-cons order k i within ∙ ap (λ x. x ∷ drop (suc k) order) (sym at))
    ∙ ap (λ x. x ∷ entries_at entries (drop (suc k) order)) (get_or_default entries i no_entry e there ∙ sym is)
    ∙ ap (λ n. e ∷ entries_at entries (drop n order)) (sym (add-one k))
