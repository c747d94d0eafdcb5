use Rattle.std.proofs.Common.{◌≡◌, [], ◌++◌, take, drop, arith, length, ap, sym, subst, ◌∙◌}
use Rattle.std.proofs.Math.Seq.{take-append_seam}
use Rattle.mf_account.specs.Told.{AreNumberedTo}
use Rattle.mf_statement.specs.Parts.{table}
use Rattle.mf_statement.proofs.PartLemmas.{length-table}
use Rattle.mf_statement.proofs.entries.parts_by_entry.Goals as goal

pub add_parts-requires-clause-none : goal.add_parts-requires-clause-none
add_parts-requires-clause-none c =
    let all : c.deref_mut.result.now ≡ table [] c.args.count = c.deref_mut.ensures.value ∙ c.in_ok-all.ensures.each in
    let size : length c.deref_mut.result.now ≡ c.args.count = ap length all ∙ length-table c.args.count [] in
    all ∙ ap (table []) (sym size)

pub add_parts-requires-clause-numbers : goal.add_parts-requires-clause-numbers
add_parts-requires-clause-numbers c =
    let all : c.deref_mut.result.now ≡ table [] c.args.count = c.deref_mut.ensures.value ∙ c.in_ok-all.ensures.each in
    let size : length c.deref_mut.result.now ≡ c.args.count = ap length all ∙ length-table c.args.count [] in
    subst (λ n. AreNumberedTo n c.args.parts.now) (sym size) c.requires.numbers

pub returns-clause-each : goal.returns-clause-each
returns-clause-each c =
    let all : c.deref_mut.result.now ≡ table [] c.args.count = c.deref_mut.ensures.value ∙ c.in_ok-all.ensures.each in
    let size : length c.deref_mut.result.now ≡ c.args.count = ap length all ∙ length-table c.args.count [] in
    let added : c.add_parts.new.all ≡ table c.args.parts.now c.args.count =
    c.in_ok-add_parts.ensures.added ∙ ap (table c.args.parts.now) size in
    let len = c.deref_mut.ensures.len in
    let same : length c.add_parts.new.all ≡ length c.deref_mut.result.now =
    ap length added ∙ length-table c.args.count c.args.parts.now ∙ sym size in
    let room : c.in_ok-all.all.len ≡ length c.add_parts.new.all = omega (arith, len, same) in
    ap (λ n. take n (c.add_parts.new.all ++ drop (length c.add_parts.new.all) c.in_ok-all.all.items)) room
    ∙ take-append_seam c.add_parts.new.all (drop (length c.add_parts.new.all) c.in_ok-all.all.items)
    ∙ added
