use Rattle.std.proofs.Common.{ℕ, subst, sym}
use Rattle.std.proofs.lemmas.List.Elements.{All-push, All-nil}
use Rattle.mf_alloc.specs.Sums.{Instalment, IsWhole, IsRowWithin, AreWhole, AreWithin}
use Rattle.mf_store_schema.specs.Rows.{instalment_row}
use Rattle.mf_store_values.specs.Flat.{instalment_in}
use Rattle.mf_store_values.proofs.ReadLemmas.{next_read, all_read}
use Rattle.mf_store_values.proofs.instalments.instalments_from.Goals as goal

pub loop-row-init : goal.loop-row-init
loop-row-init c = record {
  rows = λ office loan all whole are. c.new-instalments.ensures.items;
  whole = subst AreWhole (sym c.new-instalments.ensures.items) (All-nil IsWhole);
  within = subst AreWithin (sym c.new-instalments.ensures.items) (All-nil IsRowWithin);
}

pub loop-row-preserved : goal.loop-row-preserved
loop-row-preserved c =
    let before = c.loop-row.instalments.items in
    let found = c.in_ok-instalment_in_row.field-0 in
    let fits = c.in_ok-instalment_in_row.ensures.within in
    record {
      rows = λ office loan all whole are. next_read (λ (item : ℕ × Instalment). IsWhole item.1)
          (λ item. instalment_row (instalment_in office loan item)) (λ item. item.1) all c.args.rows.now
          c.loop-row.row-index found are whole c.loop-row-test.true c.row-item.is c.in_ok-push.ensures.items
          (c.loop-row.invariant.rows office loan all whole are)
          (λ item four. c.in_ok-instalment_in_row.ensures.row office loan item.0 item.1 four);
      whole = subst AreWhole (sym c.in_ok-push.ensures.items) (All-push IsWhole before found
          c.loop-row.invariant.whole fits.0);
      within = subst AreWithin (sym c.in_ok-push.ensures.items) (All-push IsRowWithin before found
          c.loop-row.invariant.within fits.1);
    }

pub returns-clause-rows : goal.returns-clause-rows
returns-clause-rows c office loan all whole are =
    all_read (λ item. instalment_row (instalment_in office loan item)) (λ item. item.1) all c.args.rows.now
    c.loop-row.row-index are c.loop-row-test.false (c.loop-row.invariant.rows office loan all whole are)
