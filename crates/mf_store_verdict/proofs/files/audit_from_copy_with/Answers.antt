use Rattle.std.proofs.Common.{refl}
use Rattle.mf_store_sql.proofs.OpenLemmas.{always_clean}
use Rattle.mf_store_verdict.proofs.files.audit_from_copy_with.Goals as goal

pub returns-in-Ok-audit_over_with-clause-exact : goal.returns-in-Ok-audit_over_with-clause-exact
returns-in-Ok-audit_over_with-clause-exact g c clean v trees holds held =
    c.in-Ok-audit_over_with.ensures.exact clean held.institution
    (c.in-Ok.ensures.copies.stands (always_clean (λ _. refl) c.in-Ok.copy.connection) v trees holds held)

pub returns-in-Ok-audit_over_with-clause-every : goal.returns-in-Ok-audit_over_with-clause-every
returns-in-Ok-audit_over_with-clause-every g c whole clean v trees holds held =
    c.in-Ok-audit_over_with.ensures.every whole clean held.institution
    (c.in-Ok.ensures.copies.stands (always_clean (λ _. refl) c.in-Ok.copy.connection) v trees holds held)
