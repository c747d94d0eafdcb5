use Rattle.std.proofs.Common.{◌≡◌, [], Some, sym, ap, ◌∙◌, subst, rules}
use Rattle.std.proofs.lemmas.Option.{slice_get-get_or}
use Rattle.mf_store_archived.specs.Joining.{EndsAt}
use Rattle.mf_store_archived.specs.declared.archive.Archive.{Archive}
use Rattle.mf_store_archived.proofs.JoinLemmas.{Going, going_first, going_on, same_some}
use Rattle.mf_store_archived.proofs.joining.join.Goals as goal

pub back-init : goal.back-init
back-init c all =
    let none : c.new-places.result.items ≡ [] = search rules in
    going_first c.args.archives.now c.args.to c.new-places.result.items none

pub back-preserved : goal.back-preserved
back-preserved c all =
    let found = c.in-Some.ensures.there in
    let a = c.index-archives-place.result in
    let got = slice_get-get_or c.args.archives.now c.in-Some.place a c.in-Some.ensures.within
    ∙ ap Some (sym c.index-archives-place.is) in
    let same = same_some found.0 a (sym found.1 ∙ got) in
    subst (λ (b : Archive). Going c.args.archives.now c.args.to b.begins c.put_first.new.places.items)
    c.index-archives-place.is (
    going_on c.args.archives.now c.args.to c.back.begins c.back.places.items c.put_first.new.places.items
    c.in-Some.place a all got (subst (λ (b : Archive). EndsAt c.back.begins b) same found.2) c.in-Some.ensures.some
    c.in_ok-put_first-in-Some.ensures.first (c.back.invariant all))

pub returns-in-None-clause-joined : goal.returns-in-None-clause-joined
returns-in-None-clause-joined c all =
    let was = c.back.invariant all in record {
      lines = was.lines;
      reaches = record { chosen = was.chosen; back = was.back; last = c.in-None.ensures.none };
      leads = was.leads;
    }
