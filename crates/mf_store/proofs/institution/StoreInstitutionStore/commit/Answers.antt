use Rattle.mf_store.proofs.institution.StoreInstitutionStore.commit.Goals as goal

pub returns : goal.returns
returns g c = c.make_commit.ensures.commits
