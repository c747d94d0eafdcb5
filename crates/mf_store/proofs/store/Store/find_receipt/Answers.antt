use Rattle.std.proofs.Common.{◌∙◌}
use Rattle.std.proofs.lemmas.Result.{IfOk-weaker}
use Rattle.mf_store_commits.proofs.ReceiptRowLemmas.{receipt_found}
use Rattle.mf_store.proofs.KeptLemmas.{known_asks}
use Rattle.mf_store.proofs.store.Store.find_receipt.Goals as goal

pub returns-clause-asks : goal.returns-clause-asks
returns-clause-asks g c =
    rw (← c.self.view_is) (known_asks g.S.Store _ _ _ _ _ c.find_receipt.ensures.kept c.find_receipt.ensures.gives_up
    c.find_receipt.ensures.open)

pub returns-clause-value : goal.returns-clause-value
returns-clause-value g c =
    rw (← c.self.view_is) (λ clean i s. IfOk-weaker c.find_receipt.result _ _ (λ x is. is ∙ receipt_found c.args.office
    c.args.receipt.now i s.sound) (c.find_receipt.ensures.row clean _ s.serves))
