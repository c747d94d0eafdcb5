use Rattle.std.proofs.Common.{◌∙◌, Some, sym, ap}
use Rattle.std.proofs.lemmas.Result.{on_ok_weaker}
use Rattle.mf_store_schema.specs.declared.writes.StoreWrite.TheVariants.{PutMeta}
use Rattle.mf_store_noted.specs.Kept.{meta_kept}
use Rattle.mf_store_noted.proofs.beginning.begin_journal.Goals as goal

pub returns-clause-made : goal.returns-clause-made
returns-clause-made g c clean = on_ok_weaker c.begin_with.result (λ made i s today. made i s
    (c.in_ok-meta.ensures.write c.args.begins ∙ ap (λ d. PutMeta (meta_kept (Some c.args.begins) d)) (sym today)))
    (c.begin_with.ensures.made clean)

pub returns-clause-left : goal.returns-clause-left
returns-clause-left g c clean = on_ok_weaker c.begin_with.result (λ left i s today. left i s
    (c.in_ok-meta.ensures.write c.args.begins ∙ ap (λ d. PutMeta (meta_kept (Some c.args.begins) d)) (sym today)))
    (c.begin_with.ensures.left clean)

pub returns-clause-stop : goal.returns-clause-stop
returns-clause-stop g c clean i s today = c.begin_with.ensures.stop clean i s
    (c.in_ok-meta.ensures.write c.args.begins ∙ ap (λ d. PutMeta (meta_kept (Some c.args.begins) d)) (sym today))
