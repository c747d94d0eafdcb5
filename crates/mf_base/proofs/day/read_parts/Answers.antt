use Rattle.std.proofs.Common.{◌≡◌, ℕ, ◌+◌, ◌*◌, ◌/◌, ◌%◌, ◌<◌, arith, ap, sym, ◌∙◌}
use Rattle.std.proofs.lemmas.Slice.Eq.{text_from_reads}
use Rattle.mf_base.proofs.day.read_parts.Goals as goal

century_and_year : (a b : ℕ) → b < 100 → ((a * 100 + b) / 100 ≡ a) × ((a * 100 + b) % 100 ≡ b)
century_and_year a b small = (omega arith, omega arith)

pub returns-clause-some : goal.returns-clause-some
returns-clause-some c =
    let century = c.in_ok-century.ensures.some in
    let year = c.in_ok-year.ensures.some in
    let month = c.in_ok-month.ensures.some in
    let day = c.in_ok-day.ensures.some in
    let years : c.from-2.result < 100 = omega (arith, c.from-2.ensures, year.0) in
    let parts = century_and_year c.from.result c.from-2.result years in
    let front = parts.0 ∙ c.from.ensures in
    let back = parts.1 ∙ c.from-2.ensures in (
      omega (arith, c.from.ensures, century.0, years),
      month.0,
      day.0,
      text_from_reads c.args.text.now _ (omega arith) (
        century.1 ∙ sym (ap (λ k. 48 + k / 10) front),
        (
          century.2 ∙ sym (ap (λ k. 48 + k % 10) front),
          (
            year.1 ∙ sym (ap (λ k. 48 + k / 10) back),
            (
              year.2 ∙ sym (ap (λ k. 48 + k % 10) back),
              (omega arith, (month.1, (month.2, (omega arith, (day.1, (day.2, tt)))))),
            ),
          ),
        ),
      ),
    )
