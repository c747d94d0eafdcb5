use Rattle.std.proofs.Common.{◌<◌, length, get_or, refl, arith}
use Rattle.mf_account.specs.declared.settled.SettledPart.{SettledPart}
use Rattle.mf_account.specs.Applicable.{no_settled}
use Rattle.mf_statement.proofs.PartLemmas.{table-more, part-room}
use Rattle.mf_statement.proofs.entries.add_parts.Goals as goal

pub add_part-requires-clause-small : goal.add_part-requires-clause-small
add_part-requires-clause-small c =
    let i = c.loop-part.part-index in
    let within : i < length c.args.parts.now = omega arith in
    let part : SettledPart = get_or c.args.parts.now i no_settled in
    part-room (length c.args.all.now) i c.args.parts.now part no_settled c.loop-part.all within refl
    (c.requires.numbers i no_settled within) c.loop-part.invariant c.requires.small

pub loop-part-preserved : goal.loop-part-preserved
loop-part-preserved c =
    let i = c.loop-part.part-index in
    let within : i < length c.args.parts.now = omega arith in
    let part : SettledPart = get_or c.args.parts.now i no_settled in
    table-more (length c.args.all.now) i c.args.parts.now part no_settled c.loop-part.all c.add_part.new.all within refl
    (c.requires.numbers i no_settled within) c.loop-part.invariant c.in_ok-add_part.ensures.added
