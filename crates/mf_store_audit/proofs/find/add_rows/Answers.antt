use Rattle.std.proofs.Common.{◌≡◌, ◌++◌, ℕ, true, sym, subst}
use Rattle.std.proofs.lemmas.Result.{on_ok_weaker}
use Rattle.mf_store_sound.specs.Held.{DoRise}
use Rattle.mf_store_audit.specs.Findings.{Adds, Breaks, found_in_catalogue, found_in_loans, found_in_offices}
use Rattle.mf_store_audit.proofs.AddLemmas.{adds_then}
use Rattle.mf_store_audit.proofs.find.add_rows.Goals as goal

pub returns-clause-added : goal.returns-clause-added
returns-clause-added c = on_ok_weaker c.add_loans.result (λ last today is.
    let v = c.args.version in
    let lists = c.args.tables.now in
    let Is = Breaks v today lists in
    let All : Type 0 = c.args.all ≡ true in
    let first = c.add_catalogue.new.findings.items in
    let second = c.add_offices.new.findings.items in
    let third = c.add_loans.new.findings.items in
    let of_loans = subst (λ (day : ℕ). Adds v day lists c.args.all (found_in_loans day lists) second third)
    (sym (c.today_of.ensures.only today is)) (last v) in
    adds_then Is All (DoRise lists) (found_in_catalogue v lists) (found_in_offices lists ++ found_in_loans today lists)
    c.args.findings.now.items first third ((c.in_ok-add_catalogue.ensures {u = tt}).added today)
    (adds_then Is All (DoRise lists) (found_in_offices lists) (found_in_loans today lists) first second third
    ((c.in_ok-add_offices.ensures {u = tt}).added v today) of_loans))
    c.add_loans.ensures.added
