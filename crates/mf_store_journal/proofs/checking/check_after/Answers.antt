use Rattle.std.proofs.Common.{◌∙◌, ◌∷◌, ap, sym}
use Rattle.std.proofs.lemmas.Result.{IfOk-weaker}
use Rattle.sqlite.specs.Held.{state}
use Rattle.mf_store_journal.specs.Rows.{filed_beginning}
use Rattle.mf_store_journal.proofs.CheckLemmas.{shown_once}
use Rattle.mf_store_journal.proofs.GoingLemmas.{first_line, found_no_beginning, unchanged_itself}
use Rattle.mf_store_journal.proofs.checking.check_after.Goals as goal

pub returns-in-None-clause-kept : goal.returns-in-None-clause-kept
returns-in-None-clause-kept g c = unchanged_itself (state g.S.Store c.args.connection.now)

pub returns-in-None-clause-found : goal.returns-in-None-clause-found
returns-in-None-clause-found g c clean lines keeps is =
    found_no_beginning lines c.args.first.now is c.in-None.ensures.none

pub returns-in-Some-clause-found : goal.returns-in-Some-clause-found
returns-in-Some-clause-found g c clean lines keeps is =
    let first = first_line lines c.args.first.now is in
    let same = shown_once first.0 (filed_beginning c.in-Some.beginning)
    (first.3 ∙ sym c.in-Some.ensures.some) in
    let are = first.2 ∙ ap (λ f. f ∷ first.1) same in
    IfOk-weaker c.follow_from.result _ _ (λ found h. h c.in-Some.ensures.can first.1 are)
    (c.follow_from.ensures.found clean lines keeps)
