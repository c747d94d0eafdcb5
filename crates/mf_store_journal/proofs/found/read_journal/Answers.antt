use Rattle.std.proofs.Common.{subst}
use Rattle.sqlite.specs.Held.{state}
use Rattle.sqlite.specs.Schema.{Schema}
use Rattle.sqlite_catalog.specs.Listing.{IsSound}
use Rattle.mf_store_journal.proofs.StrangerLemmas.{keeps_some_lines}
use Rattle.mf_store_journal.proofs.WrittenLemmas.{keeps_to, only_journal, no_other}
use Rattle.mf_store_journal.proofs.found.read_journal.Goals as goal

pub returns-in-Whole-clause-some : goal.returns-in-Whole-clause-some
returns-in-Whole-clause-some g c clean its rowids =
    let old = state g.S.Store c.args.connection.now in
    let live = (c.in_ok-journal.ensures.kept).was_open clean (c.in_ok-journal.ensures.open clean) in
    let sound = subst (λ (k : Schema). IsSound k (old.now).trees) its (c.schema-schema.ensures.live live).0 in
    let found = keeps_some_lines (old.now).trees sound rowids.1.1.1.1.1.1.1.1.1.1.1.0 in
    keeps_to (old.now).trees found.0 c.in-Whole.journal found.1
    (rw c.in-Whole.is at (c.in_ok-journal.ensures.found clean found.0
    (λ up. record { schema_is = its; keeps = found.1 })))

pub returns-in-Whole-clause-only : goal.returns-in-Whole-clause-only
returns-in-Whole-clause-only g c clean its begins lines keeps =
    only_journal begins lines c.in-Whole.journal
    (rw c.in-Whole.is at (c.in_ok-journal.ensures.found clean _
    (λ up. record { schema_is = its; keeps = keeps.keeps })))

pub returns-in-Nothing-clause-none : goal.returns-in-Nothing-clause-none
returns-in-Nothing-clause-none g c clean its begins lines keeps =
    no_other begins lines keeps.lines_can_be c.in_ok-journal.field-0 c.in-Nothing.is
    (c.in_ok-journal.ensures.found clean _ (λ up. record { schema_is = its; keeps = keeps.keeps }))
