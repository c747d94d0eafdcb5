use Rattle.std.proofs.Common.{IsTrue, ◌∙◌, sym}
use Rattle.mf_store_schema.proofs.DescribedLemmas.{table_is, rules_are, keys_are}
use Rattle.mf_store_schema.proofs.described.is_table.Goals as goal

pub returns-then-not-has_keys : goal.returns-then-not-has_keys
returns-then-not-has_keys c = let found = c.args.found.now in let w = c.args.wanted.now in (
  λ t. absurd (cc),
  λ is. let told : IsTrue c.has_keys.result = c.has_keys.ensures.1 (keys_are w found is) in cc,
)

pub returns : goal.returns
returns c = let found = c.args.found.now in let w = c.args.wanted.now in (
  λ plain.
      let placed = c.is_placed.ensures.0 c.if-not-is_placed.false in
      let columns = c.are_columns.ensures.0 c.if-not-are_columns.false in
      table_is w found placed.0 placed.1 (sym c.as_slice.ensures ∙ columns)
      (c.has_keys.ensures.0 c.if-not-has_keys.false) (c.has_no_rules.ensures.0 plain),
  λ is. c.has_no_rules.ensures.1 (rules_are w found is),
)
