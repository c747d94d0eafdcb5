use Rattle.std.proofs.Common.{◌≡◌, ◌⊎◌, ◌∷◌, Some, sym, ap, ◌∙◌, subst}
use Rattle.std.specs.Vec.Iter.{into_iter_items}
use Rattle.std.proofs.lemmas.Result.{on_ok_weaker}
use Rattle.sqlite.specs.Held.{state}
use Rattle.mf_store_schema.specs.Rows.{Lists}
use Rattle.mf_store_schema.specs.Writes.{Holds}
use Rattle.mf_store_schema.specs.Upgraded.{IsUpgradedTo}
use Rattle.mf_store_schema.specs.declared.versions.Version.TheVariants.{First}
use Rattle.mf_store_sound.specs.Schemas.{tables_at}
use Rattle.mf_store_files.proofs.UpgradedLemmas.{meta_is, can_upgrade, upgraded_is}
use Rattle.mf_store_files.proofs.upgraded.bring_up_first.Goals as goal

pub returns-clause-made : goal.returns-clause-made
returns-clause-made g c clean =
    on_ok_weaker c.upgrade.result (λ made i sound are keeping.
    let rows = c.in-Ok.ensures.next i sound are in
    let first : c.in-Ok.today.meta ≡ c.in-Some.meta ∷ into_iter_items c.next.new.self =
    ap (λ (l : Lists). l.meta) (sym c.today.view_is) ∙ sym c.into_iter.ensures.rest ∙ c.in-Some.ensures.items in
    let meta = meta_is i c.in-Ok.today c.in-Some.meta (into_iter_items c.next.new.self) rows first in
    let kept = ap (λ (l : Lists). l.instalments) (c.today.view_is ∙ rows) in
    let more = ap (λ (l : Lists). l.shares) (c.today.view_is ∙ rows) in
    let up = subst (IsUpgradedTo (state g.S.Store c.upgrade.new.connection))
    (upgraded_is i c.in-Some.meta _ _ meta kept more)
    (made (tables_at First i) (can_upgrade i c.in-Some.meta _ _ meta kept more sound) keeping) in
    λ live. up.serves) (c.upgrade.ensures.made clean)

pub returns-clause-stop : goal.returns-clause-stop
returns-clause-stop g c clean i sound are keeping trees may =
    let rows = c.in-Ok.ensures.next i sound are in
    let first : c.in-Ok.today.meta ≡ c.in-Some.meta ∷ into_iter_items c.next.new.self =
    ap (λ (l : Lists). l.meta) (sym c.today.view_is) ∙ sym c.into_iter.ensures.rest ∙ c.in-Some.ensures.items in
    let meta = meta_is i c.in-Ok.today c.in-Some.meta (into_iter_items c.next.new.self) rows first in
    let kept = ap (λ (l : Lists). l.instalments) (c.today.view_is ∙ rows) in
    let more = ap (λ (l : Lists). l.shares) (c.today.view_is ∙ rows) in
    subst (λ l. (state g.S.Store c.args.connection.now).may_leave trees ⊎ Holds trees (Some l))
    (upgraded_is i c.in-Some.meta _ _ meta kept more)
    (c.upgrade.ensures.stop clean (tables_at First i) (can_upgrade i c.in-Some.meta _ _ meta kept more sound) keeping
    trees may)
