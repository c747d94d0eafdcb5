use Rattle.std.proofs.Common.{arith, rules}
use Rattle.mf_store_sound.specs.Sound.{AreLoanParts}
use Rattle.mf_store_sound.proofs.LoanPartLemmas.{loan_of, first_and_others, no_loans}
use Rattle.mf_store_values.proofs.AnswerLemmas.{refuses, no_answer}
use Rattle.mf_store_sound.proofs.StoredLemmas.{nothing_is, passed, refused, ended}
use Rattle.mf_store_sound.proofs.loan_parts.are_loans.Goals as goal

pub returns-then-not-is_loan_part : goal.returns-then-not-is_loan_part
returns-then-not-is_loan_part c k d e names many =
    let l = c.loop-row in
    no_answer (λ are. refused c.args.loans.now l.row-index
    (λ rs. AreLoanParts k names c.args.lender.now.office l.number rs l.entries_left.now)
    (l.invariant.1 k d e names many) _ c.loop-row-test.true c.row-item.is
    (refuses c.is_loan_part.result c.if-not-is_loan_part.true (c.is_loan_part.ensures k d e names many))
    (λ h. ((first_and_others k names _ _ _ _ _ _ _ (c.split_by_owner.ensures.own loan_of (λ row n called. search rules))
    (c.split_by_owner.ensures.later loan_of (λ row n called. search rules))).0 h).0) are.1)

pub loop-row-preserved : goal.loop-row-preserved
loop-row-preserved c =
    let l = c.loop-row in (
      omega arith,
      λ k d e names many. passed c.args.loans.now l.row-index
          (λ rs. AreLoanParts k names c.args.lender.now.office l.number rs l.entries_left.now)
          (l.invariant.1 k d e names many) _ c.loop-row-test.true c.row-item.is
          ((c.is_loan_part.ensures k d e names many).0 c.if-not-is_loan_part.false)
          (first_and_others k names _ _ _ _ _ _ _ (c.split_by_owner.ensures.own loan_of (λ row n called. search rules))
          (c.split_by_owner.ensures.later loan_of (λ row n called. search rules))),
    )

pub returns : goal.returns
returns c k d e names many =
    let l = c.loop-row in
    let x = c.args.lender.now.office in
    let all = ended c.args.loans.now l.row-index (λ rs. AreLoanParts k names x l.number rs l.entries_left.now)
    (l.invariant.1 k d e names many) c.loop-row-test.false in
    let none = no_loans k names x l.number l.entries_left.now in
    let nothing = nothing_is l.entries_left.now c.is_empty.result c.is_empty.ensures in (
      λ yes. (omega arith, all.1 (none.1 (nothing.0 yes))),
      λ are. nothing.1 (none.0 (all.0 are.1)),
    )
