use Rattle.std.proofs.Common.{subst}
use Rattle.mf_store_schema.proofs.ReadLemmas.{at_some}
use Rattle.mf_store_schema.specs.declared.versions.Version.TheVariants.{Third}
use Rattle.mf_store_sound.specs.Schemas.{tables_at}
use Rattle.mf_store_played.specs.Answer.{IsCompared}
use Rattle.mf_store_played.proofs.playing.compare_rows.Goals as goal

pub returns-in-Ok-clause-answer : goal.returns-in-Ok-clause-answer
returns-in-Ok-clause-answer g c clean its i j holds stands some =
    let here = at_some c.in-Ok-Some.field-0 _ c.in-Ok-Some.found c.in-Ok-Some.field-0-is
    (c.in-Ok-Some.ensures.only clean its) (tables_at Third i) holds in
    let there = c.in-Ok.ensures.rows j stands some in
    subst (λ l. IsCompared c.args.head l (tables_at Third j) c.compared.result) here
    (subst (λ l. IsCompared c.args.head c.in-Ok-Some.found l c.compared.result) there c.compared.ensures)
