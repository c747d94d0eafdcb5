use Rattle.std.proofs.Common.{◌≡◌, ℕ, ◌+◌, List, ◌++◌, codes, get_or, take, ap, sym, ◌∙◌, arith, append_assoc}
use Rattle.std.proofs.lemmas.List.{take_all}
use Rattle.std.proofs.lemmas.List.Sums.{sum_by_more}
use Rattle.mf_schedule.specs.declared.instalment.FreshInstalment.{FreshInstalment}
use Rattle.mf_schedule.specs.Fresh.{total_interest, total_principal}
use Rattle.mf_schedule.specs.ScheduleText.{amounts_text, row_line, row_lines}
use Rattle.mf_schedule.proofs.TextLemmas.{row_lines-more}
use Rattle.mf_schedule.proofs.text.schedule_text.Goals as goal

pub loop-place-preserved : goal.loop-place-preserved
loop-place-preserved c =
    let rows = c.args.rows.now in
    let place = c.loop-place.place in
    let row = c.index-rows-place.result in
    let here : row ≡ get_or rows place row = c.index-rows-place.is in
    let principals = sum_by_more (λ (r : FreshInstalment). r.principal) rows place row (omega arith) in
    let interests = sum_by_more (λ (r : FreshInstalment). r.interest) rows place row (omega arith) in
    record {
      written = c.in_ok-push_row.ensures.ok
          ∙ ap (λ (x : List ℕ). x ++ row_line (place + 1) row) c.loop-place.invariant.written
          ∙ sym (row_lines-more rows place row (omega arith) here);
      principals =
          omega (arith, principals, ap (λ (r : FreshInstalment). r.principal) here, c.loop-place.invariant.principals);
      interests = omega (
        arith,
        interests,
        ap (λ (r : FreshInstalment). r.interest) here,
        c.loop-place.invariant.interests,
      );
      little_principal = omega arith;
      little_interest = omega arith;
    }

pub returns-clause-ok : goal.returns-clause-ok
returns-clause-ok c =
    let rows = c.args.rows.now in
    let all : take c.loop-place.place rows ≡ rows = take_all c.loop-place.place rows (omega arith) in
    let principal : c.loop-place.principal ≡ total_principal rows =
    c.loop-place.invariant.principals ∙ ap total_principal all in
    let interest : c.loop-place.interest ≡ total_interest rows =
    c.loop-place.invariant.interests ∙ ap total_interest all in
    c.in_ok-push_amounts.ensures.ok
    ∙ ap (λ (x : List ℕ). x ++ amounts_text c.loop-place.principal c.loop-place.interest)
    (c.in_ok-push_str.ensures.bytes ∙ ap (λ (x : List ℕ). x ++ codes "sum           ")
    (c.loop-place.invariant.written ∙ ap row_lines all))
    ∙ append_assoc (row_lines rows) (codes "sum           ") (amounts_text c.loop-place.principal c.loop-place.interest)
    ∙ ap (λ (x : ℕ). row_lines rows ++ (codes "sum           " ++ amounts_text x c.loop-place.interest)) principal
    ∙ ap (λ (x : ℕ). row_lines rows ++ (codes "sum           " ++ amounts_text (total_principal rows) x)) interest
