use Rattle.mf_store_values.proofs.terms.charge_def.Goals as goal

pub returns-in-None-clause-charge : goal.returns-in-None-clause-charge
returns-in-None-clause-charge c charge is =
    absurd (let never = (c.in-None.ensures {u = tt}).every c.args.number charge is in cc)
