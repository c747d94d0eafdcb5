use Rattle.std.proofs.Common.{◌∙◌, not, List, length, sym, ap, arith}
use Rattle.std.specs.Prelude.{filter}
use Rattle.std.proofs.lemmas.List.{take_all}
use Rattle.mf_account.specs.declared.entry.Entry.{Entry}
use Rattle.mf_model.specs.Institution.{Ledger}
use Rattle.mf_store_audit.proofs.AddedLemmas.{alone}
use Rattle.mf_store_audit.proofs.LoanLemmas.{counted_more}
use Rattle.mf_store_audit.proofs.sums_by_loan.count_entries.Goals as goal

pub loop-entry-preserved : goal.loop-entry-preserved
loop-entry-preserved c =
    let l = c.loop-entry in
    let standing = counted_more (λ (e : Entry). not e.reversed) c.args.entries.now l.entry-index c.entry-item.result
    c.loop-entry-test.true c.entry-item.is in
    let reversed = counted_more (λ (e : Entry). e.reversed) c.args.entries.now l.entry-index c.entry-item.result
    c.loop-entry-test.true c.entry-item.is in
    record {
      standing = omega (arith, standing, l.invariant.standing, c.one_if-standing.ensures.value);
      reversed = omega (arith, reversed, l.invariant.reversed, c.one_if-reversed.ensures.value);
      most_standing = omega (arith, l.invariant.most_standing, c.one_if-standing.ensures.most);
      most_reversed = omega (arith, l.invariant.most_reversed, c.one_if-reversed.ensures.most);
    }

pub returns : goal.returns
returns c m is =
    let l = c.loop-entry in
    let all = take_all l.entry-index c.args.entries.now c.loop-entry-test.false ∙ sym is in
    λ t. record {
      standing = alone (λ (x : Ledger). length (filter (λ (e : Entry). not e.reversed) x.entries)) m l.standing
          (sym (l.invariant.standing ∙ ap (λ (es : List Entry). length (filter (λ (e : Entry). not e.reversed) es))
          all)) t;
      reversed = alone (λ (x : Ledger). length (filter (λ (e : Entry). e.reversed) x.entries)) m l.reversed
          (sym (l.invariant.reversed ∙ ap (λ (es : List Entry). length (filter (λ (e : Entry). e.reversed) es)) all)) t;
    }
