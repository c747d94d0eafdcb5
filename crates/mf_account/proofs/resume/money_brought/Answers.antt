use Rattle.std.proofs.Common.{arith}
use Rattle.mf_account.proofs.ResumeLemmas.{brought-step}
use Rattle.mf_account.proofs.resume.money_brought.Goals as goal

pub overflow_add-money : goal.overflow_add-money
overflow_add-money c =
    let step = brought-step c.args.entries.now c.args.order.now c.loop-k.k c.index-entries-order.result
    c.loop-k-test.true (c.requires.within c.loop-k.k 0 c.loop-k-test.true) c.index-entries-order.is in
    omega (arith, step, c.loop-k.invariant.money, c.money_in-money.ensures, c.requires.room)
