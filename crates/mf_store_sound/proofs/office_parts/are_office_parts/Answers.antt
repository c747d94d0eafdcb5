use Rattle.mf_store_sound.specs.declared.office_parts.Belongings.{Belongings}
use Rattle.mf_store_values.proofs.AnswerLemmas.{refuses, no_answer}
use Rattle.mf_store_sound.proofs.OfficePartLemmas.{Four, AreParts, rising, first_and_others, no_offices}
use Rattle.mf_store_sound.proofs.StoredLemmas.{passed, refused, ended}
use Rattle.mf_store_sound.proofs.office_parts.are_office_parts.Goals as goal

abbrev four : Belongings → Four
four b = (b.staff.now, b.clients.now, b.loans.now, b.entries.now)

pub returns-then-not-is_office_part : goal.returns-then-not-is_office_part
returns-then-not-is_office_part c k d e up =
    let l = c.loop-office in
    let so_far = l.invariant k d e up in
    no_answer (refused c.args.offices.now l.office-index (λ os. AreParts k os (four l.left)) so_far.1 _
    c.loop-office-test.true c.office-item.is
    (refuses c.is_office_part.result c.if-not-is_office_part.true (c.is_office_part.ensures k d e))
    (λ all. ((first_and_others k _ _ _ c.loop-office-test.true c.office-item.is so_far.0 _ (four c.split.result.0)
    (four c.split.result.1) c.split.ensures.own c.split.ensures.later).0 all).0))

pub loop-office-preserved : goal.loop-office-preserved
loop-office-preserved c k d e up =
    let l = c.loop-office in
    let so_far = l.invariant k d e up in (
      (rising k _ _ _ c.loop-office-test.true c.office-item.is so_far.0).1,
      passed c.args.offices.now l.office-index (λ os. AreParts k os (four l.left)) so_far.1 _
          c.loop-office-test.true c.office-item.is ((c.is_office_part.ensures k d e).0 c.if-not-is_office_part.false)
          (first_and_others k _ _ _ c.loop-office-test.true c.office-item.is so_far.0 _ (four c.split.result.0)
          (four c.split.result.1) c.split.ensures.own c.split.ensures.later),
    )

pub returns : goal.returns
returns c k d e up =
    let l = c.loop-office in
    let all = ended c.args.offices.now l.office-index (λ os. AreParts k os (four l.left)) (l.invariant k d e up).1
    c.loop-office-test.false in
    let none = no_offices k (four l.left) in
    (λ yes. all.1 (none.1 (c.is_empty.ensures.0 yes)), λ are. c.is_empty.ensures.1 (none.0 (all.0 are)))
