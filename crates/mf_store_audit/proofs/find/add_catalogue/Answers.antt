use Rattle.std.proofs.Common.{◌≡◌, ◌∙◌, ℕ, true, [], ◌∷◌, ◌++◌, ap, subst}
use Rattle.std.proofs.lemmas.Result.{on_ok_weaker}
use Rattle.mf_store_schema.specs.Rows.{Lists}
use Rattle.mf_store_schema.specs.Versions.{number_of}
use Rattle.mf_store_sound.specs.Held.{DoRise}
use Rattle.mf_store_audit.specs.Catalogue.{BreaksCharge, BreaksMeta, BreaksProduct}
use Rattle.mf_store_audit.specs.Findings.{Adds, Breaks, told_of_meta}
use Rattle.mf_store_audit.specs.Kinds.{charge_flaws, meta_flaws, product_flaws}
use Rattle.mf_store_audit.specs.Places.{AreFoundIn, IsAt}
use Rattle.mf_store_audit.specs.declared.finding.Finding.TheVariants as finding
use Rattle.mf_store_audit.proofs.AddLemmas.{AddsOf, Parts, adds_found, adds_then, adds_told, meta_told}
use Rattle.mf_store_audit.proofs.find.add_catalogue.Goals as goal

pub returns-clause-added : goal.returns-clause-added
returns-clause-added c = on_ok_weaker c.add_found-3.result (λ last today.
    let v = c.args.version in
    let lists = c.args.tables.now in
    let meta = c.as_slice.result.now in
    let charges = c.as_slice-charges.result.now in
    let products = c.as_slice-2.result.now in
    let meta_is : meta ≡ lists.meta = c.as_slice.ensures.value ∙ ap (λ (l : Lists). l.meta) c.tables.view_is in
    let charges_are : charges ≡ lists.charges =
    c.as_slice-charges.ensures.value ∙ ap (λ (l : Lists). l.charges) c.tables.view_is in
    let products_are : products ≡ lists.products =
    c.as_slice-2.ensures.value ∙ ap (λ (l : Lists). l.products) c.tables.view_is in
    let given : Lists = record lists { meta = meta; charges = charges; products = products } in
    let same : given ≡ lists =
    λ t. record lists { meta = meta_is t; charges = charges_are t; products = products_are t } in
    let Is = Breaks v today given in
    let All : Type 0 = c.args.all ≡ true in
    let InOrder = DoRise given in
    let start = c.args.findings.now.items in
    let told = c.add_meta_rows.new.findings.items in
    let first = c.add_found.new.findings.items in
    let second = c.add_found-2.new.findings.items in
    let third = c.add_found-3.new.findings.items in
    let number : c.number.result ≡ number_of v = c.number.ensures in
    let of_meta = subst (λ (n : ℕ). AddsOf Is All InOrder (AreFoundIn meta_flaws (λ flaw before. BreaksMeta n flaw)
    finding.Meta meta ∷ []) told first) number (adds_found Is All InOrder meta_flaws (λ flaw before. BreaksMeta
    c.number.result flaw) finding.Meta meta (Unit {0}) told first (c.in_ok-add_found.ensures {u = tt}).added
    (λ place flaw at. subst (λ (n : ℕ). IsAt (λ before. BreaksMeta n flaw) place meta) number at) (λ up. tt)) in
    let of_charges = adds_found Is All InOrder charge_flaws BreaksCharge finding.Charge charges (Unit {0}) first second
    (c.in_ok-add_found-2.ensures {u = tt}).added (λ place flaw at. at) (λ up. tt) in
    let of_products = adds_found Is All InOrder product_flaws (BreaksProduct charges) finding.Product products
    (Unit {0}) second third last (λ place flaw at. at) (λ up. tt) in
    let metas : Parts =
    AreFoundIn meta_flaws (λ flaw before. BreaksMeta (number_of v) flaw) finding.Meta meta ∷ [] in
    let charged : Parts = AreFoundIn charge_flaws BreaksCharge finding.Charge charges ∷ [] in
    let offered : Parts = AreFoundIn product_flaws (BreaksProduct charges) finding.Product products ∷ [] in
    let rest = adds_then Is All InOrder metas (charged ++ offered) told first third of_meta
    (adds_then Is All InOrder charged offered first second third of_charges of_products) in
    let told_of : Parts = (λ found. found ≡ told_of_meta lists.meta) ∷ [] in
    let others : Parts = AreFoundIn meta_flaws (λ flaw before. BreaksMeta (number_of v) flaw) finding.Meta lists.meta
    ∷ AreFoundIn charge_flaws BreaksCharge finding.Charge lists.charges
    ∷ AreFoundIn product_flaws (BreaksProduct lists.charges) finding.Product lists.products ∷ [] in
    adds_then (Breaks v today lists) All (DoRise lists) told_of others start told third
    (adds_told (Breaks v today lists) All (DoRise lists) (told_of_meta lists.meta) start told c.requires
    (c.in_ok-add_meta_rows.ensures {u = tt}).told (meta_told v today lists))
    (subst (λ (l : Lists). Adds v today l c.args.all (AreFoundIn meta_flaws (λ flaw before. BreaksMeta (number_of v)
    flaw) finding.Meta l.meta ∷ AreFoundIn charge_flaws BreaksCharge finding.Charge l.charges
    ∷ AreFoundIn product_flaws (BreaksProduct l.charges) finding.Product l.products ∷ []) told third) same rest))
    c.add_found-3.ensures.added
