-- The charges that a product names are the same in the list of them as in the catalogue.
use Rattle.std.proofs.Common.{◌≡◌, ℕ, Bool, true, false, cond, List, [], Option, Some, None, Ok, Err, refl, sym, ap}
use Rattle.std.proofs.Common.{◌∙◌, subst, inl, inr}
use Rattle.std.specs.Prelude.{◌==◌, ◌&&◌, Result, is_some}
use Rattle.std.proofs.lemmas.Bool.{eq-eqb, eqb-true}
use Rattle.mf_base.specs.declared.fault.Fault.{Fault}
use Rattle.mf_base.specs.declared.fault.Fault.TheVariants.{F4, F8}
use Rattle.mf_catalog.specs.declared.charge.ChargeDef.{ChargeDef}
use Rattle.mf_catalog.specs.declared.charge.ChargeKind.{ChargeKind}
use Rattle.mf_catalog.specs.declared.charge.ChargeKind.TheVariants.{Disbursement, Instalment, Overdue}
use Rattle.mf_catalog.specs.declared.product.ProductMembers.{ProductMembers}
use Rattle.mf_catalog.specs.Product.{charge_at, is_charge_there, has_kind, is_of_kind, charges_there, limits_agree}
use Rattle.mf_catalog.specs.Product.{is_consistent}
use Rattle.mf_model.specs.Institution.{Institution, charge_in}
use Rattle.mf_model.specs.Outcomes.{with_found}
use Rattle.mf_model.specs.Catalogue.{make_product, add_product}
use Rattle.mf_model.specs.Desk.{of_catalogue}
use Rattle.mf_model.specs.declared.store.InstitutionStore.{Ghosts}
use Rattle.mf_desk.specs.declared.decision.Decision.{Decision}
use Rattle.mf_desk.specs.Answers.{Asks, Decides, in_catalogue}
use Rattle.mf_desk.specs.Charges.{number_of, charge_named, charge_before, list_of}
use Rattle.mf_desk.proofs.Decisions.{Learns, learns, learns_both, learned_decides, learned_refuses}

-- a charge is found where it stands first, and where it stands later
there_first : (charge : Option ChargeDef) (others : List ChargeDef)
    → is_charge_there (charge_at (charge_before charge others))
    (number_of charge) ≡ true
there_first None others = refl
there_first (Some c) others =
    ap (λ b. is_some (cond b (Some c) (charge_at others c.number))) (eq-eqb c.number c.number refl)

there_later : (charge : Option ChargeDef) (others : List ChargeDef) (named : Option ℕ)
    → is_charge_there (charge_at others) named ≡ true → is_charge_there (charge_at (charge_before charge others)) named
    ≡ true
there_later None others named h = h
there_later (Some c) others None h = refl
there_later (Some c) others (Some n) h = either (c.number == n)
  where
    either : (b : Bool) → is_some (cond b (Some c) (charge_at others n)) ≡ true
    either true = refl
    either false = h

all_three : (a b c : Bool) → a ≡ true → b ≡ true → c ≡ true → (a && (b && c)) ≡ true
all_three a b c x y z = rw (x, y, z)

pub there_listed : (d i o : Option ChargeDef) (p : ProductMembers) → number_of d ≡ p.disbursement_charge → number_of i
    ≡ p.instalment_charge → number_of o ≡ p.overdue_charge → charges_there (charge_at (list_of d i o)) p ≡ true
there_listed d i o p hd hi ho = all_three _ _ _
    (subst (λ (n : Option ℕ). is_charge_there (charge_at (list_of d i o)) n ≡ true) hd
    (there_first d (charge_before i (charge_before o []))))
    (subst (λ (n : Option ℕ). is_charge_there (charge_at (list_of d i o)) n ≡ true) hi
    (there_later d (charge_before i (charge_before o [])) (number_of i) (there_first i (charge_before o []))))
    (subst (λ (n : Option ℕ). is_charge_there (charge_at (list_of d i o)) n ≡ true) ho
    (there_later d (charge_before i (charge_before o [])) (number_of o) (there_later i (charge_before o [])
    (number_of o) (there_first o []))))

-- a charge is the catalogue's, if there is one
abbrev pub IsOf : (ℕ → Option ChargeDef) → Option ChargeDef → Type 0
IsOf charges None = Unit {0}
IsOf charges (Some c) = charges c.number ≡ Some c

-- what the list has is what the catalogue has
abbrev Agree : (ℕ → Option ChargeDef) → List ChargeDef → Type 0
Agree charges xs = (n : ℕ) → is_some (charge_at xs n) ≡ true → charge_at xs n ≡ charges n

agree_at : (charges : ℕ → Option ChargeDef) (c : ChargeDef) (found : Option ChargeDef) (n : ℕ) (b : Bool)
    → charges c.number ≡ Some c → (is_some found ≡ true → found ≡ charges n) → (b ≡ true → c.number ≡ n)
    → is_some (cond b (Some c) found) ≡ true → cond b (Some c) found ≡ charges n
agree_at charges c found n true h a e t = sym h ∙ ap charges (e refl)
agree_at charges c found n false h a e t = a t

agree_before : (charges : ℕ → Option ChargeDef) (d : Option ChargeDef) (xs : List ChargeDef) → IsOf charges d
    → Agree charges xs → Agree charges (charge_before d xs)
agree_before charges None xs h a = a
agree_before charges (Some c) xs h a = λ n t. agree_at charges c (charge_at xs n) n (c.number == n) h (a n)
    (eqb-true c.number n) t

agree_none : (charges : ℕ → Option ChargeDef) → Agree charges []
agree_none charges n t = absurd (cc)

agree_listed : (charges : ℕ → Option ChargeDef) (d i o : Option ChargeDef) → IsOf charges d → IsOf charges i
    → IsOf charges o → Agree charges (list_of d i o)
agree_listed charges d i o hd hi ho = agree_before charges d (charge_before i (charge_before o [])) hd
    (agree_before charges i (charge_before o []) hi (agree_before charges o [] ho (agree_none charges)))

same_kinds : (charges : ℕ → Option ChargeDef) (xs : List ChargeDef) → Agree charges xs → (kind : ChargeKind)
    (named : Option ℕ) → is_charge_there (charge_at xs) named ≡ true → is_of_kind (charge_at xs) kind named
    ≡ is_of_kind charges kind named
same_kinds charges xs a kind None t = refl
same_kinds charges xs a kind (Some n) t = ap (has_kind kind) (a n t)

first_of : (a b c : Bool) → (a && (b && c)) ≡ true → a ≡ true
first_of true b c h = refl
first_of false b c h = h

second_of : (a b c : Bool) → (a && (b && c)) ≡ true → b ≡ true
second_of true true c h = refl
second_of true false c h = h
second_of false b c h = absurd (cc)

third_of : (a b c : Bool) → (a && (b && c)) ≡ true → c ≡ true
third_of true true c h = h
third_of true false c h = absurd (cc)
third_of false b c h = absurd (cc)

alike : (l a b c x y z : Bool) → a ≡ x → b ≡ y → c ≡ z → (l && (a && (b && c))) ≡ (l && (x && (y && z)))
alike l a b c x y z p q r = rw (p, q, r)

consistent_listed : (charges : ℕ → Option ChargeDef) (d i o : Option ChargeDef) (p : ProductMembers) → IsOf charges d
    → IsOf charges i → IsOf charges o → charges_there (charge_at (list_of d i o)) p ≡ true
    → is_consistent (charge_at (list_of d i o)) p ≡ is_consistent charges p
consistent_listed charges d i o p hd hi ho t =
    let a = agree_listed charges d i o hd hi ho in
    let f = charge_at (list_of d i o) in
    let u = is_charge_there f p.disbursement_charge in
    let v = is_charge_there f p.instalment_charge in
    let w = is_charge_there f p.overdue_charge in
    alike (limits_agree p) _ _ _ _ _ _
    (same_kinds charges (list_of d i o) a Disbursement p.disbursement_charge (first_of u v w t))
    (same_kinds charges (list_of d i o) a Instalment p.instalment_charge (second_of u v w t))
    (same_kinds charges (list_of d i o) a Overdue p.overdue_charge (third_of u v w t))

there_in : (charges : ℕ → Option ChargeDef) (d : Option ChargeDef) (named : Option ℕ) → number_of d ≡ named
    → IsOf charges d → is_charge_there charges named ≡ true
there_in charges d named n h = subst (λ (m : Option ℕ). is_charge_there charges m ≡ true) n (either d h)
  where
    either : (x : Option ChargeDef) → IsOf charges x → is_charge_there charges (number_of x) ≡ true
    either None k = refl
    either (Some c) k = ap (λ (r : Option ChargeDef). is_some r) k

read_as : (charges : ℕ → Option ChargeDef) (x : ℕ) (c : ChargeDef) (r : Option ChargeDef) → charges x ≡ r → c.number ≡ x
    → with_found r (λ c. Some c) ≡ Ok (Some c) → charges c.number ≡ Some c
read_as charges x c None e n h = absurd (cc)
read_as charges x c (Some y) e n h = let same : y ≡ c = cc in ap charges n ∙ e ∙ ap (λ (z : ChargeDef). Some z) same

pub is_read : (named : Option ℕ) (d : Option ChargeDef) (i : Institution) → number_of d ≡ named → charge_named named i
    ≡ Ok d → IsOf (charge_in i.catalogue) d
is_read named None i n h = tt
is_read None (Some c) i n h = absurd (cc)
is_read (Some x) (Some c) i n h = let m : c.number ≡ x =
    cc in read_as (charge_in i.catalogue) x c (charge_in i.catalogue x) refl m h

-- what is told where each is there
pub told_there : (d m o : Option ChargeDef) (p : ProductMembers) (i : Institution) (b : Bool)
    → number_of d ≡ p.disbursement_charge → number_of m ≡ p.instalment_charge → number_of o ≡ p.overdue_charge
    → charge_named p.disbursement_charge i ≡ Ok d → charge_named p.instalment_charge i ≡ Ok m
    → charge_named p.overdue_charge i ≡ Ok o → is_consistent (charge_at (list_of d m o)) p ≡ b
    → in_catalogue (add_product p) i ≡ cond b (in_catalogue (make_product p) i) (Err F8)
told_there d m o p i b d_is m_is o_is rd rm ro e =
    let f = charge_in i.catalogue in
    let hd = is_read p.disbursement_charge d i d_is rd in
    let hm = is_read p.instalment_charge m i m_is rm in
    let ho = is_read p.overdue_charge o i o_is ro in
    let made = make_product p i.catalogue in
    ap (λ t. of_catalogue (cond t (cond (is_consistent f p) made (Err F8)) (Err F4)))
    (all_three _ _ _ (there_in f d p.disbursement_charge d_is hd) (there_in f m p.instalment_charge m_is hm)
    (there_in f o p.overdue_charge o_is ho))
    ∙ ap (λ t. of_catalogue (cond t made (Err F8)))
    (sym (consistent_listed f d m o p hd hm ho (there_listed d m o p d_is m_is o_is)) ∙ e)
    ∙ either b
  where
    either : (t : Bool) → of_catalogue (cond t (make_product p i.catalogue) (Err F8))
        ≡ cond t (in_catalogue (make_product p) i) (Err F8)
    either true = refl
    either false = refl

-- a charge that is missing is told before all else
not_named : (named : Option ℕ) (i : Institution) (fault : Fault) → charge_named named i ≡ Err fault → (fault ≡ F4)
    × (is_charge_there (charge_in i.catalogue) named ≡ false)
not_named None i fault h = absurd (cc)
not_named (Some n) i fault h = either (charge_in i.catalogue n) h
  where
    either : (c : Option ChargeDef) → with_found c (λ c. Some c) ≡ Err fault → (fault ≡ F4) × (is_some c ≡ false)
    either None h = (cc, refl)
    either (Some c) h = absurd (cc)

last_missing : (a b c : Bool) → c ≡ false → (a && (b && c)) ≡ false
last_missing true true c e = e
last_missing true false c e = refl
last_missing false b c e = refl

told_missing : (p : ProductMembers) (i : Institution) (fault : Fault) → charge_named p.overdue_charge i ≡ Err fault
    → in_catalogue (add_product p) i ≡ Err fault
told_missing p i fault h =
    let f = charge_in i.catalogue in
    let n = not_named p.overdue_charge i fault h in
    ap (λ t. of_catalogue (cond t (cond (is_consistent f p) (make_product p i.catalogue) (Err F8)) (Err F4)))
    (last_missing (is_charge_there f p.disbursement_charge) (is_charge_there f p.instalment_charge)
    (is_charge_there f p.overdue_charge)
    n.1)
    ∙ ap (λ (x : Fault). Err x) (sym n.0)

module _ {S : Type 0} (store : Ghosts S) where
  -- each charge that the product names was read
  abbrev AllRead : ProductMembers → Option ChargeDef → Option ChargeDef → Option ChargeDef → Institution → Type 0
  AllRead p d m o i = ((charge_named p.disbursement_charge i ≡ Ok d) × (charge_named p.instalment_charge i ≡ Ok m))
      × (charge_named p.overdue_charge i ≡ Ok o)

  all_read : (p : ProductMembers) (d m o : Option ChargeDef) (old one two new : S)
      → Asks store (charge_named p.disbursement_charge) old one (Ok d) → Asks store (charge_named p.instalment_charge)
      one two (Ok m) → Asks store (charge_named p.overdue_charge) two new (Ok o) → Learns store (AllRead p d m o) old
      new
  all_read p d m o old one two new rd rm ro =
      learns_both store (λ i. (charge_named p.disbursement_charge i ≡ Ok d)
      × (charge_named p.instalment_charge i ≡ Ok m)) (λ i. charge_named p.overdue_charge i ≡ Ok o) old two new
      (learns_both store (λ i. charge_named p.disbursement_charge i ≡ Ok d) (λ i. charge_named p.instalment_charge i
      ≡ Ok m) old one two (learns store (charge_named p.disbursement_charge) old one d rd)
      (learns store (charge_named p.instalment_charge) one two m rm))
      (learns store (charge_named p.overdue_charge) two new o ro)

  -- the last charge is missing
  pub then_missing : (p : ProductMembers) (d m : Option ChargeDef) (old one two new : S)
      → Asks store (charge_named p.disbursement_charge) old one (Ok d) → Asks store (charge_named p.instalment_charge)
      one two (Ok m) → (fault : Fault) → Asks store (charge_named p.overdue_charge) two new (Err fault)
      → Decides store (in_catalogue (add_product p)) old new (Err fault)
  then_missing p d m old one two new rd rm fault ro = record {
    premise = λ k. rd.premise (rm.premise (ro.premise k));
    same = λ k i s. ro.same k i (rm.same (ro.premise k) i (rd.same (rm.premise (ro.premise k)) i s));
    decides = λ k i s. tt;
    refuses = λ k i s. elim (ro.refuses k i (rm.same (ro.premise k) i (rd.same (rm.premise (ro.premise k)) i s)))
        [ inl f ↦ inl f | inr e ↦ inr (told_missing p i fault e) ];
    handed = λ k i s. tt;
    stop = λ k is l. ro.stop k is (rm.stop (ro.premise k) is (rd.stop (rm.premise (ro.premise k)) is l));
  }

  -- a consistent product is made
  pub then_made : (p : ProductMembers) (d m o : Option ChargeDef) (old one two mid : S)
      → number_of d ≡ p.disbursement_charge → number_of m ≡ p.instalment_charge → number_of o ≡ p.overdue_charge
      → Asks store (charge_named p.disbursement_charge) old one (Ok d) → Asks store (charge_named p.instalment_charge)
      one two (Ok m) → Asks store (charge_named p.overdue_charge) two mid (Ok o)
      → (new : S) (result : Result Decision Fault) → is_consistent (charge_at (list_of d m o)) p ≡ true
      → Decides store (in_catalogue (make_product p)) mid new result → Decides store (in_catalogue (add_product p)) old
      new result
  then_made p d m o old one two mid d_is m_is o_is rd rm ro new result e next =
      learned_decides store (AllRead p d m o) (in_catalogue (add_product p)) (in_catalogue (make_product p)) old mid new
      result (all_read p d m o old one two mid rd rm ro)
      (λ i h. told_there d m o p i true d_is m_is o_is h.0.0 h.0.1 h.1 e) next

  -- another is refused
  pub then_inconsistent : (p : ProductMembers) (d m o : Option ChargeDef) (old one two new : S)
      → number_of d ≡ p.disbursement_charge → number_of m ≡ p.instalment_charge → number_of o ≡ p.overdue_charge
      → Asks store (charge_named p.disbursement_charge) old one (Ok d) → Asks store (charge_named p.instalment_charge)
      one two (Ok m) → Asks store (charge_named p.overdue_charge) two new (Ok o)
      → is_consistent (charge_at (list_of d m o)) p ≡ false → Decides store (in_catalogue (add_product p)) old new
      (Err F8)
  then_inconsistent p d m o old one two new d_is m_is o_is rd rm ro e =
      learned_refuses store (AllRead p d m o) (in_catalogue (add_product p)) old new F8 (all_read p d m o old one two
      new rd rm ro)
      (λ i h. inr (told_there d m o p i false d_is m_is o_is h.0.0 h.0.1 h.1 e))
