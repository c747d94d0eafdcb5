use Rattle.std.proofs.Common.{◌≡◌, ◌∙◌, sym, rules}
use Rattle.mf_base.proofs.DayTextLemmas.{day_text-injective}
use Rattle.std.proofs.lemmas.Option.{same_Some}
use Rattle.mf_store_values.proofs.kept_entries.entry_columns.Goals as goal

pub returns-clause-only : goal.returns-clause-only
returns-clause-only c office loan e in_range is =
    let kind : c.in_ok-from_number.field-0 ≡ e.kind = same_Some _ _ (c.in_ok-from_number.ensures.every
    e.kind (sym (λ t. (is t).kind))) in
    let portion : c.in_ok-from_number-2.field-0 ≡ e.portion = same_Some _ _ (c.in_ok-from_number-2.ensures.every
    e.portion (sym (λ t. (is t).portion))) in
    let reversed : c.in_ok-flag_from.field-0 ≡ e.reversed = same_Some _ _ (c.in_ok-flag_from.ensures.every e.reversed
    (λ t. (is t).reversed)) in
    let amount : c.in_ok-amount_from.field-0 ≡ e.amount = same_Some _ _ (c.in_ok-amount_from.ensures.every e.amount
    (search rules)) in
    let day : c.in_ok-parse.field-0 ≡ e.day = day_text-injective c.in_ok-parse.field-0 e.day
    (sym c.in_ok-parse.ensures.some.1 ∙ c.as_bytes.ensures.value ∙ c.as_str.ensures ∙ sym (λ t. (is t).day)) in
    let staff : c.in_ok-parse-2.field-0 ≡ e.staff = same_Some _ _ ((c.in_ok-parse-2.ensures.exact e.staff in_range).1
    (c.as_bytes-2.ensures.value ∙ c.as_str-2.ensures ∙ sym (λ t. (is t).staff))) in
    λ k. record {
      kind = kind k;
      portion = portion k;
      reversed = reversed k;
      amount = amount k;
      day = day k;
      staff = staff k;
    }
