use Rattle.std.proofs.Common.{ap, ◌++◌, subst}
use Rattle.mf_ledger_play.proofs.RunLemmas.{closed_text, last_told}
use Rattle.mf_ledger_play.specs.Told.{form_head, run_told}
use Rattle.mf_model.proofs.Confined.{IsTree_new}
use Rattle.mf_model.proofs.Runs.{IsTree_last}
use Rattle.mf_model.specs.Institution.{Institution}
use Rattle.mf_model.specs.Tree.{IsTree}
use Rattle.mf_store_played.specs.Played.{founded}
use Rattle.mf_store_ledger.proofs.laws.closed_books_never_move.Goals as goal

pub returns : goal.returns
returns c asked day lines more i plays low =
    let tree : IsTree i.offices =
    subst (λ (j : Institution). IsTree j.offices) (last_told (founded day) i lines plays)
    (IsTree_last (run_told lines) (founded day) (IsTree_new day)) in
    ap (λ text. form_head asked.form ++ text) (closed_text asked 0 (founded day) i lines more tree plays low)
