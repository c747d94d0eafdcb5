use Rattle.std.proofs.Common.{◌≡◌, Some}
use Rattle.mf_model.specs.declared.commit.Commit.TheVariants.{ReverseEntry}
use Rattle.mf_model.specs.declared.reply.LoanReply.TheVariants.{Reversed}
use Rattle.mf_model.specs.declared.reply.Reply.TheVariants as reply
use Rattle.mf_desk.proofs.LoanLemmas.{then_reversed}
use Rattle.mf_desk.proofs.reversing.reverse.Goals as goal

pub returns-clause-decides : goal.returns-clause-decides
returns-clause-decides g c =
    let s = g.S.InstitutionStore in
    let loan = c.args.loan in
    let after = c.in_ok-account-2.account in
    let is : c.change.result ≡ record {
      reply = reply.Loan loan (Reversed c.args.seq);
      commit = Some (ReverseEntry loan c.args.seq after);
    } = c.change.ensures in
    λ caller. rw is (then_reversed s loan c.args.seq c.in_ok-account.account after c.args.store.now
    c.find_account.new.store c.in_ok-account.ensures.asks c.in_ok-account-2.ensures.accepted
    c.in_ok-account-2.ensures.loan c.in_ok-account-2.ensures.kept c.in_ok-account-2.ensures.change)
