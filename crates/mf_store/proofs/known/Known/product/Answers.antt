use Rattle.std.proofs.Common.{Some, sym, ap, ◌∙◌}
use Rattle.std.proofs.lemmas.Option.{IfSome_then}
use Rattle.mf_store.proofs.known.Known.product.Goals as goal

pub returns-in-Some : goal.returns-in-Some
returns-in-Some c = rw (← c.self.view_is) (λ i known. IfSome_then c.copied_product.result c.copied_product.ensures
    (λ copy is. known.products c.args.number copy (sym c.in-Some.ensures ∙ ap Some (sym is))))
