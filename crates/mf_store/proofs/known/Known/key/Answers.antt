use Rattle.std.proofs.Common.{Some, sym, ap, ◌∙◌}
use Rattle.std.proofs.lemmas.Option.{IfSome_then}
use Rattle.mf_store.proofs.known.Known.key.Goals as goal

pub returns-in-Some : goal.returns-in-Some
returns-in-Some c = rw (← c.self.view_is) (λ i known. IfSome_then c.copy_key.result c.copy_key.ensures (λ copy is.
    known.keys c.args.office copy (sym c.in-Some.ensures ∙ ap Some (sym is))))
