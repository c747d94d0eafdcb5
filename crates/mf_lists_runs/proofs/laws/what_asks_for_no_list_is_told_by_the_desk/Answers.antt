use Rattle.std.proofs.Common.{◌≡◌, ℕ, zero, suc, Bool, false, List, [], ◌∷◌, map, Some, sym, ap, ◌∙◌}
use Rattle.std.specs.Prelude.{slice_get}
use Rattle.mf_model.specs.Institution.{Institution}
use Rattle.mf_model.specs.Run.{Line, answer, next}
use Rattle.mf_wire.specs.Runs.{texts_of}
use Rattle.mf_wire_requests.specs.Requests.{call_in}
use Rattle.mf_lists_runs.specs.Choice.{Choice, Told, all_told, asks_list, told_line}
use Rattle.mf_lists_runs.proofs.Calling.{asks_where, plain_is}
use Rattle.mf_lists_runs.proofs.laws.what_asks_for_no_list_is_told_by_the_desk.Goals as goal

at_place : (choice : Choice) (told : Bool) (run : List Line) (lines : List (List ℕ)) (i : Institution) (place : ℕ)
    (line : List ℕ) → map (λ l. l.call) run ≡ map (call_in told) lines → slice_get lines place ≡ Some line
    → asks_list (call_in told line) ≡ false
    → slice_get (map told_line (all_told choice run i)) place ≡ slice_get (texts_of run i) place
at_place choice told [] [] i place line e h n = absurd (cc)
at_place choice told [] (other ∷ lines) i place line e h n = absurd (cc)
at_place choice told (l ∷ run) [] i place line e h n = absurd (cc)
at_place choice told (l ∷ run) (other ∷ lines) i zero line e h n =
    let first : l.call ≡ call_in told other = cc in
    let same : Some other ≡ Some line = h in
    let it : other ≡ line = cc in
    ap (λ (t : Told). Some (told_line t)) (plain_is choice l.call l.given_up i (answer l i)
    (asks_where choice l.call (ap asks_list (first ∙ ap (call_in told) it) ∙ n)))
at_place choice told (l ∷ run) (other ∷ lines) i (suc place) line e h n =
    let rest : map (λ (k : Line). k.call) run ≡ map (call_in told) lines = cc in
    at_place choice told run lines (next l i) place line rest h n

pub returns : goal.returns
returns g c = λ choice told i lines texts old new ran place line h n.
    ap (λ (ts : List (List ℕ)). slice_get ts place) ran.replied
    ∙ at_place choice told ran.ran.run lines i place line ran.ran.calls h n
    ∙ sym (ap (λ (ts : List (List ℕ)). slice_get ts place) ran.ran.replied)
