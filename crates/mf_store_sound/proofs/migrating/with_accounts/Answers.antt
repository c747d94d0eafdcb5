use Rattle.std.proofs.Common.{◌≡◌, [], ◌∷◌, sym, ap, ◌∙◌, rules}
use Rattle.std.specs.Vec.Iter.{into_iter_items}
use Rattle.mf_store_schema.specs.Rows.{Lists}
use Rattle.mf_store_sound.specs.Schemas.{without_accounts}
use Rattle.mf_store_sound.proofs.MigrateLemmas.{meta_migrated, migrated}
use Rattle.mf_store_sound.proofs.migrating.with_accounts.Goals as goal

pub returns-clause-next : goal.returns-clause-next
returns-clause-next c i sound are =
    let rows = (c.in_ok-instalments.ensures {u = tt}).under 1 i sound (ap without_accounts are) in
    let old = c.in-Some.old in
    let first : c.args.tables.meta ≡ old ∷ into_iter_items c.next.new.self =
    ap (λ (l : Lists). l.meta) (sym c.tables.view_is) ∙ sym c.into_iter.ensures.rest ∙ c.in-Some.ensures.items in
    let items : c.push.new.self.items ≡ record old { schema = c.number.result } ∷ [] = search rules in
    let meta = items ∙ ap (λ n. record old { schema = n } ∷ []) c.number.ensures
    ∙ meta_migrated i c.args.tables are old (into_iter_items c.next.new.self) first in
    (λ z. record (c.tables.view_is z) {
      meta = c.push.new.self.items;
      instalments = c.in_ok-instalments.instalments.items;
      shares = c.in_ok-instalments.shares.items;
    }) ∙ migrated i c.args.tables are _ _ _ meta rows.0 rows.1
