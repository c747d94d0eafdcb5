use Rattle.std.proofs.Common.{◌≡◌, ℕ, List, ◌++◌, ◌∷◌, [], decimal, subst, ap, ◌∙◌, append_assoc}
use Rattle.std.proofs.lemmas.Result.{on_err_weaker}
use Rattle.std.specs.Io.KnownBytes.{Appends}
use Rattle.mf_wire_lines.specs.Replies.{fault_status, fault_body, reply_line}
use Rattle.mf_wire_lines.proofs.Writes.{Part, part_first, part_second}
use Rattle.mf_wire_lines.proofs.writing.put_refusal.Goals as goal

abbrev head : ℕ → List ℕ
head status = decimal status ++ 32 ∷ []

whole : (status : ℕ) (body : List ℕ) → head status ++ (body ++ 10 ∷ []) ≡ reply_line status body
whole status body = append_assoc (decimal status) (32 ∷ []) (body ++ 10 ∷ [])

pub returns-in_default-put-clause-err : goal.returns-in_default-put-clause-err
returns-in_default-put-clause-err g c =
    let s = fault_status c.args.fault in
    let b = fault_body c.args.fault in
    let first = c.as_slice.ensures ∙ c.status_text.ensures ∙ ap head c.fault_text-status.ensures.status in
    let second = c.as_bytes.ensures.value ∙ c.fault_text-status.ensures.body in
    subst (Part _ _) (whole s b)
    (part_second _ _ _ (head s) (b ++ 10 ∷ []) (subst (Appends _ _) first c.in-Ok.ensures.ok)
    (part_first _ _ b (10 ∷ []) (subst (Part _ _) second c.in_default-put.ensures.err)))

pub returns-clause-err : goal.returns-clause-err
returns-clause-err g c =
    let s = fault_status c.args.fault in
    let b = fault_body c.args.fault in
    let first = c.as_slice.ensures ∙ c.status_text.ensures ∙ ap head c.fault_text-status.ensures.status in
    let second = c.as_bytes.ensures.value ∙ c.fault_text-status.ensures.body in
    on_err_weaker c.put-3.result (λ p. subst (Part _ _) (whole s b)
    (part_second _ _ _ (head s) (b ++ 10 ∷ []) (subst (Appends _ _) first c.in-Ok.ensures.ok)
    (part_second _ _ _ b (10 ∷ []) (subst (Appends _ _) second c.in-Ok-put.ensures.ok) p))) c.put-3.ensures.err
