use Rattle.std.proofs.Common.{◌≡◌, ℕ, List, map, refl, subst, sym}
use Rattle.std.specs.List.{AllByRecursion}
use Rattle.std.proofs.lemmas.Result.{IfOk-weaker}
use Rattle.mf_model.specs.Institution.{Institution}
use Rattle.mf_model.specs.Sound.{IsSound}
use Rattle.mf_store_sound.specs.Schemas.{tables_under, without_accounts}
use Rattle.mf_store_sound.proofs.TableLemmas.{of_parts}
use Rattle.mf_store_audit.specs.declared.totals.OfficeSums.{OfficeSums}
use Rattle.mf_store_audit.specs.Sums.{sums_of_office, sums_of_all, Fit, IsBalanced}
use Rattle.mf_store_audit.proofs.BalancedLemmas.{all_balanced}
use Rattle.mf_store_audit.proofs.LimitLemmas.{sound_fits}
use Rattle.mf_store_audit.proofs.TableLemmas.{Told, told_at}
use Rattle.mf_store_audit.proofs.sums_by_office.office_sums.Goals as goal

pub returns-clause-sums : goal.returns-clause-sums
returns-clause-sums c =
    IfOk-weaker c.sums_of_offices.result _ (λ found. (schema : ℕ) (i : Institution) → IsSound i → tables_under schema i
    ≡ without_accounts c.args.tables.now → found.items ≡ map (sums_of_office i.catalogue) i.offices) (λ found told.
    told_at (λ k fs. found.items ≡ map (sums_of_office k) fs) c.args.tables.now
    (
    of_parts (Told (λ k fs. found.items ≡ map (sums_of_office k) fs)) c.args.tables.now _ c.tables.view_is
    _ c.deref-3.result.now _ c.deref-4.result.now c.deref.result.now c.deref-2.result.now c.deref-5.result.now
    c.deref-6.result.now _ _ _
    refl c.deref-3.ensures.value refl c.deref-4.ensures.value c.deref.ensures.value c.deref-2.ensures.value
    c.deref-5.ensures.value c.deref-6.ensures.value refl refl refl told
    )) c.sums_of_offices.ensures.sums

pub returns-clause-balanced : goal.returns-clause-balanced
returns-clause-balanced c =
    IfOk-weaker c.sums_of_offices.result _ (λ found. (schema : ℕ) (i : Institution) → IsSound i → tables_under schema i
    ≡ without_accounts c.args.tables.now → AllByRecursion (λ (o : OfficeSums). IsBalanced o.sums) found.items)
    (λ found are schema i sound is. subst (AllByRecursion (λ (o : OfficeSums). IsBalanced o.sums)) (sym (are schema i
    sound is)) (all_balanced i sound)) (returns-clause-sums c)

pub returns-clause-fit : goal.returns-clause-fit
returns-clause-fit c =
    IfOk-weaker c.sums_of_offices.result _ (λ found. (schema : ℕ) (i : Institution) → IsSound i → tables_under schema i
    ≡ without_accounts c.args.tables.now → Fit (sums_of_all found.items)) (λ found are schema i sound is.
    subst (λ (os : List OfficeSums). Fit (sums_of_all os)) (sym (are schema i sound is)) (sound_fits i sound))
    (returns-clause-sums c)
