use Rattle.std.proofs.Common.{◌≡◌, length, drop, ap, sym, ◌∙◌, subst, arith}
use Rattle.mf_store_journal.specs.Index.{IsNext, index_of, unsought}
use Rattle.mf_store_journal.proofs.IndexLemmas.{next_is}
use Rattle.mf_store.proofs.store.Store.next_stretch.Goals as goal

pub returns-clause-next : goal.returns-clause-next
returns-clause-next g c i done rest s are at =
    let first = s.knows.index in
    let count = c.in_ok-from.ensures.count in
    let size : c.in_ok-from.from ≡ length done = omega (arith, count, at) in
    let after = c.in_ok-after.ensures.number in
    let next = c.next_sought-next.ensures in
    let skip : unsought c.args.sought.now (drop c.in_ok-from.from c.index.result.now)
    ≡ unsought c.args.sought.now (drop (length done) c.args.self.now.known.index) =
    λ t. unsought c.args.sought.now (drop (size t) (c.index.ensures t)) in
    subst (IsNext c.args.sought.now rest c.args.number) (omega (arith, after, next, skip, count))
    (next_is c.args.sought.now c.args.self.now.known.index first.0 done rest c.args.number
    (ap index_of (sym are) ∙ first.1))
