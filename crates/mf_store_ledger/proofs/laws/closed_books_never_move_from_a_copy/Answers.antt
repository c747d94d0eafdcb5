use Rattle.std.proofs.Common.{ap, ◌++◌, subst}
use Rattle.mf_ledger_play.proofs.RunLemmas.{closed_text, last_told}
use Rattle.mf_ledger_play.specs.Opening.{opening_text}
use Rattle.mf_ledger_play.specs.Told.{form_head, run_told}
use Rattle.mf_model.proofs.Runs.{IsTree_last}
use Rattle.mf_model.specs.Institution.{Institution}
use Rattle.mf_model.specs.Tree.{IsTree}
use Rattle.mf_store_noted.specs.Kept.{journaled}
use Rattle.mf_store_ledger.proofs.laws.closed_books_never_move_from_a_copy.Goals as goal

pub returns : goal.returns
returns c asked copied lines more i sound plays low =
    let tree : IsTree i.offices =
    subst (λ (j : Institution). IsTree j.offices) (last_told (journaled copied) i lines plays)
    (IsTree_last (run_told lines) (journaled copied) sound.tree) in
    ap (λ text. form_head asked.form ++ (opening_text asked copied ++ text))
    (closed_text asked 0 (journaled copied) i lines more tree plays low)
