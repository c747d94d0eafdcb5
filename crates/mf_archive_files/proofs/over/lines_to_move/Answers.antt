use Rattle.std.proofs.Common.{ℕ, [], ◌∷◌, subst}
use Rattle.mf_archive_files.specs.Finding.{IsFoundFor}
use Rattle.mf_archive_files.proofs.OverLemmas.{good_at, leaves_at, leaves_then, tabled_at, tabled_then}
use Rattle.mf_archive_files.proofs.over.lines_to_move.Goals as goal

pub returns-in-Err-clause-tabled : goal.returns-in-Err-clause-tabled
returns-in-Err-clause-tabled g c =
    tabled_at g.S.Store c.args.store c.business_day.new.self c.in-Err.ensures.asks.kept c.release-in-Err.result
    c.release-in-Err.ensures.same

pub returns-in-Err-clause-leaves : goal.returns-in-Err-clause-leaves
returns-in-Err-clause-leaves g c clean journal is i s =
    leaves_at g.S.Store c.args.store c.business_day.new.self c.in-Err.ensures.asks.kept c.release-in-Err.result
    c.release-in-Err.ensures.same clean (i ∷ [])

pub returns-clause-tabled : goal.returns-clause-tabled
returns-clause-tabled g c =
    tabled_then g.S.Store c.args.store c.business_day.new.self c.in-Ok.ensures.asks.kept c.release-file.result
    c.release-file.ensures.same c.first_lines-found.new.file c.first_lines-found.ensures.kept

pub returns-clause-leaves : goal.returns-clause-leaves
returns-clause-leaves g c =
    leaves_then g.S.Store c.args.store c.business_day.new.self c.in-Ok.ensures.asks.kept c.release-file.result
    c.release-file.ensures.same c.first_lines-found.new.file c.first_lines-found.ensures.kept

pub returns-clause-found : goal.returns-clause-found
returns-clause-found g c clean journal i lines is s are =
    let stays = c.in-Ok.ensures.asks.kept in
    let same = c.release-file.ensures.same in
    let good = c.first_lines-found.ensures.kept.premise clean in
    subst (λ (d : ℕ). IsFoundFor c.args.day d journal lines c.first_lines-found.result)
    (c.in-Ok.ensures.value (good_at g.S.Store c.args.store c.business_day.new.self stays c.release-file.result same
    good) i s)
    (c.first_lines-found.ensures.found clean journal i lines
    (tabled_at g.S.Store c.args.store c.business_day.new.self stays c.release-file.result same good journal is i s) are)
