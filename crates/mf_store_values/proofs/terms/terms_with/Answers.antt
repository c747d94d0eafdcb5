use Rattle.mf_store_values.proofs.terms.terms_with.Goals as goal

pub returns-in_err-columns : goal.returns-in_err-columns
returns-in_err-columns c k number p is d i o = absurd (let never = c.in_err-columns.ensures.every number p is in cc)
