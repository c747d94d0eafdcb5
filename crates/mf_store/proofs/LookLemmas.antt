-- Numbers without gaps.
use Rattle.std.proofs.Common.{◌≡◌, ◌≤◌, ◌↔◌, ℕ, Bool, IsTrue, List, length, Result, IfOk, sym, ◌∙◌, subst, arith}
use Rattle.std.specs.Option.{option_map, is_some}
use Rattle.std.proofs.lemmas.Result.{IfOk-weaker}
use Rattle.sqlite_keyed.proofs.SliceLemmas.{is_some-map}
use Rattle.mf_model.specs.Institution.{Institution, item_numbered}
use Rattle.mf_model.specs.Sound.{IsSound, is_staff}
use Rattle.mf_store.specs.Counts.{count_of}
use Rattle.mf_store.specs.declared.counts.Kind.{Kind}
use Rattle.mf_store.specs.declared.counts.Kind.TheVariants.{Staff, Clients, Loans, Charges, Products}
use Rattle.mf_store_values.proofs.SoundLemmas.{office_sound, has_number}

-- whether a row is found under a number tells whether it is one of those that there are
pub told_by : {X Y E : Type 0} (f : X → Y) (xs : List X) (n : ℕ) (r : Result Bool E) → IfOk r (λ there. there
    ≡ is_some (option_map f (item_numbered xs n))) → IfOk r (λ there. IsTrue there ↔ ((1 ≤ n) × (n ≤ length xs)))
told_by f xs n r = IfOk-weaker r _ _ (λ there is. subst (λ b. IsTrue b ↔ ((1 ≤ n) × (n ≤ length xs)))
    (sym (is ∙ is_some-map f (item_numbered xs n))) (has_number xs n))

-- there are no more than the limits allow
pub count_limit : (kind : Kind) (i : Institution) → IsSound i → count_of kind i ≤ 999999
count_limit (Staff x) i sound = let most =
    (office_sound i.catalogue (is_staff i.offices) x i.offices sound.each).staff_limit in omega arith
count_limit (Clients x) i sound = (office_sound i.catalogue (is_staff i.offices) x i.offices sound.each).client_limit
count_limit (Loans x) i sound = (office_sound i.catalogue (is_staff i.offices) x i.offices sound.each).loan_limit
count_limit Charges i sound = let most = sound.catalogue.charge_limit in omega arith
count_limit Products i sound = let most = sound.catalogue.product_limit in omega arith
