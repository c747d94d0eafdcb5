use Rattle.std.proofs.Common.{◌≡◌, ℕ, List, Option, map, take}
use Rattle.mf_model.specs.Institution.{Office}
use Rattle.mf_model.specs.Desk.{office_shown}
use Rattle.mf_store_schema.specs.Rows.{office_row}
use Rattle.mf_store_values.specs.Flat.{office_under}
use Rattle.mf_store_values.proofs.offices.offices_from.Given as goal

abbrev pub invariant-loop-row : goal.invariant-loop-row
invariant-loop-row l = (parents : ℕ → Option ℕ) (fs : List Office)
    → l.rows ≡ map (λ f. office_row (office_under parents f)) fs → l.offices.items
    ≡ map office_shown (take l.row-index fs)
