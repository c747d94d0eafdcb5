use Rattle.std.proofs.Common.{◌≡◌, Bool, true, false, cond, List, Ok, Err, refl, ap, ◌∙◌, rules}
use Rattle.std.specs.Prelude.{Result, MatchResult}
use Rattle.mf_base.specs.declared.fault.Fault.{Fault}
use Rattle.mf_base.specs.declared.fault.Fault.TheVariants.{F8}
use Rattle.mf_catalog.specs.declared.charge.ChargeDef.{ChargeDef}
use Rattle.mf_catalog.specs.Product.{charge_at, is_consistent}
use Rattle.mf_desk.proofs.ChargeLemmas.{then_missing, then_made, then_inconsistent}
use Rattle.mf_desk.proofs.products.add_product.Goals as goal

checked : (r : Result (Unit {0}) Fault) (b : Bool) → r ≡ cond b (Ok tt) (Err F8) → MatchResult r (λ u. b ≡ true)
    (λ fault. (fault ≡ F8) × (b ≡ false))
checked r true e = rw e refl
checked r false e = rw e (refl, refl)

pub returns-in_err-overdue-clause-decides : goal.returns-in_err-overdue-clause-decides
returns-in_err-overdue-clause-decides g c =
    let s = g.S.InstitutionStore in
    let e : c.from_residual-in_err-overdue.result ≡ Err c.in_err-overdue.field-0.0 = search rules in
    rw e (then_missing s c.args.members c.in_ok-disbursement.disbursement c.in_ok-instalment.instalment
    c.args.store.now c.find_charge.new.store c.find_charge-2.new.store c.find_charge-3.new.store
    c.in_ok-disbursement.ensures.found c.in_ok-instalment.ensures.found c.in_err-overdue.field-0.0
    c.in_err-overdue.ensures.found)

pub returns-in_err-check_product-clause-decides : goal.returns-in_err-check_product-clause-decides
returns-in_err-check_product-clause-decides g c =
    let s = g.S.InstitutionStore in
    let fault = c.in_err-check_product.field-0.0 in
    let e : c.from_residual-in_err-check_product.result ≡ Err fault = search rules in
    let why = checked (Err fault) _ (c.in_err-check_product.ensures
    ∙ ap (λ (xs : List ChargeDef). cond (is_consistent (charge_at xs) c.args.members) (Ok tt) (Err F8))
    (c.as_slice.ensures.value ∙ c.in_ok-charges.ensures.ok)) in
    rw (e ∙ ap (λ (x : Fault). Err x) why.0) (then_inconsistent s c.args.members c.in_ok-disbursement.disbursement
    c.in_ok-instalment.instalment c.in_ok-overdue.overdue
    c.args.store.now c.find_charge.new.store c.find_charge-2.new.store c.find_charge-3.new.store
    c.in_ok-disbursement.ensures.numbered c.in_ok-instalment.ensures.numbered c.in_ok-overdue.ensures.numbered
    c.in_ok-disbursement.ensures.found c.in_ok-instalment.ensures.found c.in_ok-overdue.ensures.found why.1)

pub returns-clause-decides : goal.returns-clause-decides
returns-clause-decides g c =
    let s = g.S.InstitutionStore in
    let consistent = checked (Ok c.in_ok-check_product.field-0) _ (c.in_ok-check_product.ensures
    ∙ ap (λ (xs : List ChargeDef). cond (is_consistent (charge_at xs) c.args.members) (Ok tt) (Err F8))
    (c.as_slice.ensures.value ∙ c.in_ok-charges.ensures.ok)) in
    then_made s c.args.members c.in_ok-disbursement.disbursement c.in_ok-instalment.instalment c.in_ok-overdue.overdue
    c.args.store.now c.find_charge.new.store c.find_charge-2.new.store c.find_charge-3.new.store
    c.in_ok-disbursement.ensures.numbered c.in_ok-instalment.ensures.numbered c.in_ok-overdue.ensures.numbered
    c.in_ok-disbursement.ensures.found c.in_ok-instalment.ensures.found c.in_ok-overdue.ensures.found
    c.make_product.new.store c.make_product.result consistent c.make_product.ensures.decides
