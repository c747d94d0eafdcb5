use Rattle.std.proofs.Common.{◌≡◌, ℕ, Bool, true, false, cond, List, [], ◌∷◌, Option, Some, None, Ok, Err, inr, refl}
use Rattle.std.proofs.Common.{sym, ap, ◌∙◌, arith}
use Rattle.std.specs.Prelude.{◌==◌, is_some}
use Rattle.std.specs.List.{AllByRecursion}
use Rattle.std.proofs.lemmas.Bool.Decides.{nat_tests}
use Rattle.mf_base.specs.declared.fault.Fault.TheVariants.{F4}
use Rattle.mf_office.specs.declared.caller.Caller.{Caller}
use Rattle.mf_office.specs.Numbers.{IsNumberUpTo, number_up_to}
use Rattle.mf_office.specs.Tree.{is_at_or_below}
use Rattle.mf_model.specs.Institution.{Catalogue, Office, office_at}
use Rattle.mf_model.specs.Tree.{parent_of}
use Rattle.mf_model.specs.Sound.{is_staff, IsSoundOffice}
use Rattle.mf_lists_desk.proofs.sight.find_office.Goals as goal

-- nothing is there where nothing can be
none_there : {X : Type 0} (o : Option X) → ((x : X) → o ≡ Some x → ⊥) → o ≡ None
none_there None never = refl
none_there (Some x) never = absurd (never x refl)

another_number : (n x : ℕ) → IsNumberUpTo 9999 n → number_up_to 9999 x ≡ None → (n == x) ≡ false
another_number n x b e = grind (arith, nat_tests, b.0, b.1)

no_such_office : (k : Catalogue) (staffed : Caller → Bool) (x : ℕ) (fs : List Office)
    → AllByRecursion (IsSoundOffice k staffed) fs → number_up_to 9999 x ≡ None → office_at x fs ≡ None
no_such_office k staffed x [] a e = refl
no_such_office k staffed x (f ∷ fs) a e = ap (λ b. cond b (Some f) (office_at x fs))
    (another_number f.number x a.0.number e) ∙ no_such_office k staffed x fs a.1 e

unseen : (b : Bool) (f : Option Office) → f ≡ None → cond b f None ≡ None
unseen true f e = e
unseen false f e = refl

pub returns-in_default-clause-told : goal.returns-in_default-clause-told
returns-in_default-clause-told g c =
    let o = c.args.to in
    let x = c.args.office in
    record {
      premise = λ k. k;
      same = λ k i s. s;
      gives = λ k i s. tt;
      refuses = λ k i s. inr (ap (λ f. cond (is_some f) (Ok x) (Err F4))
          (unseen (is_at_or_below (parent_of i.offices) x o) (office_at x i.offices)
          (no_such_office i.catalogue (is_staff i.offices) x i.offices (g.met.S.InstitutionStore.sound c.args.store.now
          i s).each (sym c.new.ensures ∙ none_there c.new.result c.in_default.not-Some))));
      stop = λ k is l. l;
    }

pub returns-in_default-clause-refusal : goal.returns-in_default-clause-refusal
returns-in_default-clause-refusal g c = λ e. absurd (cc)
