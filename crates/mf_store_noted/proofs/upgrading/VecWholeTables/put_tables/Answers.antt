use Rattle.std.proofs.Common.{◌≡◌, ◌∙◌, [], ap, map, refl, subst, true}
use Rattle.sqlite.specs.Held.{state}
use Rattle.mf_store_sql.specs.Queries.{Answers}
use Rattle.mf_store_schema.specs.Calls.{IsKeeping}
use Rattle.mf_store_schema.specs.Rows.{Lists}
use Rattle.mf_store_schema.proofs.PutLemmas.{showing}
use Rattle.sqlite.specs.State.{HasCleanDisk}
use Rattle.mf_store_noted.specs.Fitting.{FitsRows}
use Rattle.mf_store_noted.specs.Upgrading.{table_text}
use Rattle.mf_store_noted.proofs.UpgradingLemmas.{filter_true, takes_same}
use Rattle.mf_store_noted.proofs.upgrading.VecWholeTables.put_tables.Goals as goal

pub returns-clause-takes_in : goal.returns-clause-takes_in
returns-clause-takes_in g c =
    let t = g.T.Table in
    let laws = g.met.T.Table in
    let s = state g.S.Store c.args.connection.now in
    let items = c.in_ok-rows.rows.items in
    let are : HasCleanDisk (state g.S.Store c.ask.new.connection) → (lists : Lists) → IsKeeping s lists
    → c.deref.result.now ≡ map t.stored (t.list lists) = λ clean lists keeping.
    let shows = c.in_ok-rows.ensures.shows clean in
    c.deref.ensures.value ∙ showing t.columns t.place t.tree t.stored t.by t.list t.put laws.ordered laws.fits
    laws.kept laws.held laws.changes laws.spared 0 (λ journaled. (laws.kept journaled).shows) refl [] tt
    (λ x. true) (λ x. refl) lists s.now items (keeping shows.is_open)
    (subst (λ sql. Answers sql [] s.now items) c.every_text.ensures shows.answers)
    ∙ ap (map t.stored) (filter_true (t.list lists)) in
    record {
      kept = c.ask.ensures.kept;
      gives_up = tt;
      is_open = λ clean. c.in_ok-rows.ensures.open clean;
      takes_in = λ clean lists keeping. takes_same c.args.hasher.now c.put_rows.new.hasher
          (table_text c.deref.result.now) (table_text (map t.stored (t.list lists)))
          (ap table_text (are clean lists keeping)) c.put_rows.ensures.takes_in;
      fits = λ clean lists keeping. subst FitsRows (are clean lists keeping) c.put_rows.ensures.fits;
    }
