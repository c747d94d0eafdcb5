-- The line of a run and what it was told, at a place.
use Rattle.std.proofs.Common.{◌≡◌, ℕ, zero, suc, List, [], ◌∷◌, map, take, Some, sym, ap, ◌∙◌, subst}
use Rattle.std.specs.Prelude.{Bool, slice_get}
use Rattle.mf_model.specs.Institution.{Institution}
use Rattle.mf_model.specs.Run.{Line, answer, next, answers, last}
use Rattle.mf_wire_replies.specs.Shown.{shown_line}
use Rattle.mf_wire_requests.specs.Requests.{call_in}
use Rattle.mf_wire.specs.Exchanges.{Exchange, IsLineOfMessage, AreLinesOf, responses}
use Rattle.mf_wire.specs.Serving.{shown_response}

-- the line at a place is that of its bytes, and its text is that of its answer
pub record IsAt (told : Bool) (run : List Line) (i : Institution) (place : ℕ) (line text : List ℕ) : Type 0 where
  pub line_is : Line
  pub call : line_is.call ≡ call_in told line
  pub said : text ≡ shown_line (answer line_is (last (take place run) i))

pub at_place : (told : Bool) (run : List Line) (lines : List (List ℕ)) (i : Institution) (place : ℕ)
    (line text : List ℕ)
    → map (λ l. l.call) run ≡ map (call_in told) lines → slice_get lines place ≡ Some line
    → slice_get (map shown_line (answers run i)) place ≡ Some text → IsAt told run i place line text
at_place told [] [] i place line text e h t = absurd (cc)
at_place told [] (other ∷ lines) i place line text e h t = absurd (cc)
at_place told (l ∷ run) [] i place line text e h t = absurd (cc)
at_place told (l ∷ run) (other ∷ lines) i zero line text e h t =
    let first : l.call ≡ call_in told other = cc in
    let same : Some other ≡ Some line = h in
    let it : other ≡ line = cc in
    let said : Some (shown_line (answer l i)) ≡ Some text = t in
    let words : text ≡ shown_line (answer l i) = cc in
    record { line_is = l; call = first ∙ ap (call_in told) it; said = words }
at_place told (l ∷ run) (other ∷ lines) i (suc place) line text e h t =
    let rest : map (λ (k : Line). k.call) run ≡ map (call_in told) lines = cc in
    let it = at_place told run lines (next l i) place line text rest h t in
    record { line_is = it.line_is; call = it.call; said = it.said }

-- the same of a message
pub record IsExchanged (told : Bool) (run : List Line) (i : Institution) (place : ℕ) (e : Exchange) : Type 0 where
  pub line_is : Line
  pub to_head : Bool
  pub of_message : IsLineOfMessage told e.bytes line_is to_head
  pub said : e.text ≡ shown_response to_head (answer line_is (last (take place run) i))

pub exchanged_at : (told : Bool) (es : List Exchange) (run : List Line) (to_heads : List Bool) (i : Institution)
    (place : ℕ)
    (e : Exchange) → AreLinesOf told es run to_heads → map (λ e. e.text) es ≡ responses to_heads (answers run i)
    → slice_get es place ≡ Some e → IsExchanged told run i place e
exchanged_at told [] run to_heads i place e are same h = absurd (cc)
exchanged_at told (x ∷ es) [] to_heads i place e are same h = absurd are
exchanged_at told (x ∷ es) (l ∷ run) [] i place e are same h = absurd are
exchanged_at told (x ∷ es) (l ∷ run) (to_head ∷ others) i zero e are same h =
    let it : Some x ≡ Some e = h in
    let is : x ≡ e = cc in
    let first : x.text ≡ shown_response to_head (answer l i) = cc in
    record {
      line_is = l;
      to_head = to_head;
      of_message = subst (λ (y : Exchange). IsLineOfMessage told y.bytes l to_head) is are.0;
      said = sym (ap (λ (y : Exchange). y.text) is) ∙ first;
    }
exchanged_at told (x ∷ es) (l ∷ run) (to_head ∷ others) i (suc place) e are same h =
    let rest : map (λ (y : Exchange). y.text) es ≡ responses others (answers run (next l i)) = cc in
    let it = exchanged_at told es run others (next l i) place e are.1 rest h in
    record { line_is = it.line_is; to_head = it.to_head; of_message = it.of_message; said = it.said }
