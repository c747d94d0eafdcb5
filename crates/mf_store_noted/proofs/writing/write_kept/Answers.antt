use Rattle.mf_store_noted.proofs.writing.write_kept.Goals as goal

pub returns-in_default-clause-makes : goal.returns-in_default-clause-makes
returns-in_default-clause-makes g c = rw c.in_default.is (c.write_alone.ensures.makes _)

pub returns-in-Repayment-clause-makes : goal.returns-in-Repayment-clause-makes
returns-in-Repayment-clause-makes g c = rw (c.in-Some.is, c.in-Repayment.is) c.write_repayment.ensures.makes
