use Rattle.std.proofs.Common.{refl}
use Rattle.sqlite.specs.Files.{over_files}
use Rattle.mf_store_schema.proofs.ReadLemmas.{at_some}
use Rattle.mf_store_sql.proofs.OpenLemmas.{always_clean}
use Rattle.mf_store_sound.specs.Schemas.{tables_at}
use Rattle.mf_store_schema.specs.declared.versions.Version.TheVariants.{Third}
use Rattle.mf_store_played.proofs.HeldLemmas.{is_third, holds_rows}
use Rattle.mf_store_played.proofs.playing.rows_in_memory.Goals as goal

pub returns-in-Ok-Some-clause-rows : goal.returns-in-Ok-Some-clause-rows
returns-in-Ok-Some-clause-rows c i stands some =
    let h = c.release-connection.result in
    let clean = always_clean (λ _. refl) c.read_tables.new.connection in
    let tabled = c.release-connection.ensures.holds i stands in
    let live = (c.read_tables.ensures.kept).was_open clean (c.in-Ok-Some.ensures.open clean) in
    at_some c.in-Ok-Some.field-0 _ c.in-Ok-Some.tables c.in-Ok-Some.field-0-is
    (c.in-Ok-Some.ensures.only clean (is_third over_files h _ i tabled some live)) (tables_at Third i)
    (holds_rows over_files h _ i tabled some live)
