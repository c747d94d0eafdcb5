-- The loans of an institution, read once each and held.
use Rattle.std.proofs.Common.{◌≡◌, ◌<◌, ℕ, zero, suc, ◌+◌, ◌-◌, Bool, true, false, cond, List, [], ◌∷◌, ◌++◌, map}
use Rattle.std.proofs.Common.{take, length}
use Rattle.std.proofs.Common.{Option, Some, None, Ok, refl, sym, ap, ap₂, ◌∙◌, subst, arith, append-nil, append_assoc}
use Rattle.std.specs.Prelude.{◌==◌, slice_get, option_map}
use Rattle.std.specs.List.{flat_map}
use Rattle.std.proofs.Math.Seq.{take-length}
use Rattle.std.proofs.lemmas.Bool.Decides.{nat_tests}
use Rattle.std.proofs.lemmas.Grind.{flat_map-append}
use Rattle.std.proofs.lemmas.List.{length-map, map-append}
use Rattle.mf_account.specs.Change.{KeptAccount}
use Rattle.mf_office.specs.declared.account.Account.{Account}
use Rattle.mf_office.specs.Numbers.{number_up_to, is_number_up_to}
use Rattle.mf_model.proofs.Views.{seen_by_head}
use Rattle.mf_model.specs.Desk.{office_shown}
use Rattle.mf_model.specs.Institution.{Institution, Ledger, Office, office_at, item_numbered}
use Rattle.mf_model.specs.Sound.{IsSound}
use Rattle.mf_model.specs.Store.{Reads, counts_at, loan_with_account_at, rows_at, rows_of, with_account}
use Rattle.mf_model.specs.Tree.{Above, Ascending, seen_by}
use Rattle.mf_model.specs.declared.loan.Loan.{Loan}
use Rattle.mf_model.specs.declared.store.Counts.{Counts}
use Rattle.mf_model.specs.declared.store.InstitutionStore.{Ghosts}
use Rattle.mf_office.specs.declared.office.Office as shown
use Rattle.mf_ledger_play.specs.Due.{all_loans, held_of, numbered}
use Rattle.mf_ledger_play.specs.Playing.{Holds, HoldsAt}
use Rattle.mf_ledger_play.specs.declared.held.HeldLoan.{HeldLoan}

some_same : {A : Type 0} (x y : A) → Some x ≡ Some y → x ≡ y
some_same x y h = cc

-- ---- one loan

-- a loan that was read, as it is held
abbrev made : Account → Loan × Option KeptAccount → HeldLoan
made loan found = record { loan = loan; product = found.0.product; account = found.1 }

pub loan_held : {S : Type 0} (store : Ghosts S) (loan : Account) (found : Loan) (account : Option KeptAccount)
    (was now : List HeldLoan) (old new : S)
    → Reads store.stands store.clean store.leaves (loan_with_account_at loan) old new (Ok (Some (found, account)))
    → now ≡ was ++ made loan (found, account) ∷ [] → HoldsAt store loan was now old new
loan_held store loan found account was now old new reads more = record {
  premise = reads.premise;
  same = reads.same;
  held = λ k i s l there.
      let one : (found, account) ≡ with_account i.catalogue l =
      some_same (found, account) (with_account i.catalogue l)
      (reads.value_is k i s ∙ ap (option_map (with_account i.catalogue)) there) in
      more ∙ ap (λ p. was ++ made loan p ∷ []) one;
}

-- ---- the loans of an office

abbrev account : ℕ → ℕ → Account
account office number = record { office = office; number = number }

-- one more of them
numbered_next : (office m : ℕ) (ls : List Ledger) (place : ℕ) (l : Ledger) → slice_get ls place ≡ Some l
    → take (suc place) (numbered office m ls)
    ≡ take place (numbered office m ls) ++ (account office (m + place), l) ∷ []
numbered_next office m [] place l there = cc
numbered_next office m (x ∷ xs) zero l there =
    let same : x ≡ l = cc in
    let first : m ≡ m + zero = omega arith in
    ap₂ (λ n y. (account office n, y) ∷ []) first same
numbered_next office m (x ∷ xs) (suc place) l there =
    let number : (m + 1) + place ≡ m + suc place = omega arith in
    ap (λ ys. (account office m, x) ∷ ys) (numbered_next office (m + 1) xs place l there
    ∙ ap (λ n. take place (numbered office (m + 1) xs) ++ (account office n, l) ∷ []) number)

numbered_size : (office m : ℕ) (ls : List Ledger) → length (numbered office m ls) ≡ length ls
numbered_size office m [] = refl
numbered_size office m (x ∷ xs) = ap suc (numbered_size office (m + 1) xs)

-- the loan at a place has the next number
pub at_number : (ls : List Ledger) (place : ℕ) (l : Ledger) → slice_get ls place ≡ Some l
    → item_numbered ls (place + 1) ≡ Some l
at_number ls place l there =
    let some : (place + 1 == 0) ≡ false = grind (arith, nat_tests) in
    let back : place + 1 - 1 ≡ place = omega arith in
    ap₂ (λ b n. cond b None (slice_get ls n)) some back ∙ there

pub there_at : (ls : List Ledger) (place : ℕ) → place < length ls → (l : Ledger) × (slice_get ls place ≡ Some l)
there_at [] place low = absurd (omega (arith, low))
there_at (x ∷ xs) zero low = (x, refl)
there_at (x ∷ xs) (suc place) low = there_at xs place (omega (arith, low))

-- a number that was made is that
pub number_made : (limit n m : ℕ) → Some m ≡ number_up_to limit n → m ≡ n
number_made limit n m made = go (is_number_up_to limit n) made
  where
    go : (b : Bool) → Some m ≡ cond b (Some n) None → m ≡ n
    go true h = some_same m n h
    go false h = cc

module _ {S : Type 0} (store : Ghosts S) (office loans : ℕ) where
  -- the first loans of an office, as many as this, are held
  pub record HoldsSome (place : ℕ) (was there : List HeldLoan) (old now : S) : Type 0 where
    pub premise : store.clean now → store.clean old
    pub same : store.clean now → (i : Institution) → store.stands old i → store.stands now i
    pub count : store.clean now → (i : Institution) → store.stands old i → loans ≡ length (rows_at office i).loans
    pub held : store.clean now → (i : Institution) → store.stands old i
        → there ≡ was ++ map (held_of i.catalogue) (take place (numbered office 1 (rows_at office i).loans))

  pub holds_none : (counts : Counts) (was : List HeldLoan) (old now : S) → loans ≡ counts.loans
      → Reads store.stands store.clean store.leaves (counts_at office) old now (Ok counts)
      → HoldsSome 0 was was old now
  holds_none counts was old now are reads = record {
    premise = reads.premise;
    same = reads.same;
    count = λ k i s. are ∙ ap (λ (c : Counts). c.loans) (reads.value_is k i s);
    held = λ k i s. sym (append-nil was)
        ∙ ap (λ xs. was ++ map (held_of i.catalogue) xs) (sym (none (numbered office 1 (rows_at office i).loans)));
  }
    where
      none : (xs : List (Account × Ledger)) → take 0 xs ≡ []
      none [] = refl
      none (x ∷ xs) = refl

  pub holds_more : (place number : ℕ) (was held next : List HeldLoan) (old now new : S) → place < loans
      → number ≡ place + 1 → HoldsSome place was held old now
      → HoldsAt store (account office number) held next now new → HoldsSome (place + 1) was next old new
  holds_more place number was held next old now new low is so one =
      let step : suc place ≡ place + 1 = omega arith in
      subst (λ p. HoldsSome p was next old new) step (record {
        premise = λ k. so.premise (one.premise k);
        same = λ k i s. one.same k i (so.same (one.premise k) i s);
        count = λ k i s. so.count (one.premise k) i s;
        held = λ k i s.
            let early = one.premise k in
            let ls = (rows_at office i).loans in
            let count = so.count early i s in
            let at = there_at ls place (omega (arith, low, count)) in
            let before = take place (numbered office 1 ls) in
            let number_is : number ≡ 1 + place = omega (arith, is) in
            let read = one.held k i (so.same early i s) at.0
            (ap (item_numbered ls) is ∙ at_number ls place at.0 at.1) in
            read ∙ ap₂ (λ xs n. xs ++ held_of i.catalogue (account office n, at.0) ∷ []) (so.held early i s) number_is
            ∙ append_assoc was (map (held_of i.catalogue) before)
            (held_of i.catalogue (account office (1 + place), at.0) ∷ [])
            ∙ ap (λ xs. was ++ xs) (sym (map-append (held_of i.catalogue) before
            ((account office (1 + place), at.0) ∷ [])))
            ∙ ap (λ xs. was ++ map (held_of i.catalogue) xs) (sym (numbered_next office 1 ls place at.0 at.1));
      })

  pub holds_all : (place : ℕ) (was held : List HeldLoan) (old now : S) → loans ≡ place
      → HoldsSome place was held old now
      → Holds store (λ i. numbered office 1 (rows_at office i).loans) was held old now
  holds_all place was held old now all so = record {
    premise = so.premise;
    same = so.same;
    held = λ k i s.
        let ls = (rows_at office i).loans in
        let size = numbered_size office 1 ls in
        so.held k i s ∙ ap (λ xs. was ++ map (held_of i.catalogue) xs)
        (ap (λ p. take p (numbered office 1 ls)) (sym all ∙ so.count k i s ∙ sym size)
        ∙ take-length (numbered office 1 ls));
  }

-- ---- the loans of all offices

-- of an office
abbrev loans_in : Office → List (Account × Ledger)
loans_in f = numbered f.number 1 f.rows.loans

above_at : (n : ℕ) (fs : List Office) (place : ℕ) (f : Office) → Above n fs → slice_get fs place ≡ Some f → n < f.number
above_at n [] place f up there = cc
above_at n (x ∷ xs) zero f up there = let same : x ≡ f = cc in subst (λ (g : Office). n < g.number) same up.0
above_at n (x ∷ xs) (suc place) f up there = above_at n xs place f up.1 there

-- each is found by its number
pub found_at : (fs : List Office) (place : ℕ) (f : Office) → Ascending fs → slice_get fs place ≡ Some f
    → office_at f.number fs ≡ Some f
found_at [] place f up there = cc
found_at (x ∷ xs) zero f up there =
    let same : x ≡ f = cc in
    let own : (f.number == f.number) ≡ true = grind (arith, nat_tests) in
    ap (λ (g : Office). cond (g.number == f.number) (Some g) (office_at f.number xs)) same
    ∙ ap (λ b. cond b (Some f) (office_at f.number xs)) own
found_at (x ∷ xs) (suc place) f up there =
    let low = above_at x.number xs place f up.0 there in
    let apart : (x.number == f.number) ≡ false = grind (arith, nat_tests, low) in
    ap (λ b. cond b (Some x) (office_at f.number xs)) apart ∙ found_at xs place f up.1 there

-- the office that is shown at a place
pub shown_at : (fs : List Office) (place : ℕ) (o : shown.Office) → slice_get (map office_shown fs) place ≡ Some o
    → (f : Office) × (slice_get fs place ≡ Some f) × (f.number ≡ o.number)
shown_at [] place o there = cc
shown_at (x ∷ xs) zero o there =
    let same : office_shown x ≡ o = cc in (x, refl, ap (λ (y : shown.Office). y.number) same)
shown_at (x ∷ xs) (suc place) o there = shown_at xs place o there

-- the first offices with the next
pub office_taken : (fs : List Office) (place : ℕ) (f : Office) → slice_get fs place ≡ Some f
    → take place fs ++ f ∷ [] ≡ take (suc place) fs
office_taken [] place f there = cc
office_taken (x ∷ xs) zero f there = let same : x ≡ f = cc in ap (λ y. y ∷ []) (sym same)
office_taken (x ∷ xs) (suc place) f there = ap (λ fs. x ∷ fs) (office_taken xs place f there)

module _ {S : Type 0} (store : Ghosts S) (offices : List shown.Office) where
  -- the loans of the first offices, as many as this, are held
  pub record HoldsOffices (place : ℕ) (there : List HeldLoan) (old now : S) : Type 0 where
    pub premise : store.clean now → store.clean old
    pub same : store.clean now → (i : Institution) → store.stands old i → store.stands now i
    pub listed : store.clean now → (i : Institution) → store.stands old i → offices ≡ map office_shown i.offices
    pub sound : (i : Institution) → store.stands old i → IsSound i
    pub held : store.clean now → (i : Institution) → store.stands old i
        → there ≡ map (held_of i.catalogue) (flat_map loans_in (take place i.offices))

  pub offices_none : (old now : S) → ((i : Institution) → store.stands old i → IsSound i) → (head : ℕ)
      → Some head ≡ number_up_to 9999 1
      → Reads store.stands store.clean store.leaves (λ i. map office_shown (seen_by head i.offices)) old now
      (Ok offices) → HoldsOffices 0 [] old now
  offices_none old now sound head is reads = record {
    premise = reads.premise;
    same = reads.same;
    listed = λ k i s. reads.value_is k i s
        ∙ ap (map office_shown) (seen_by_head head i.offices (sound i s).tree (number_made 9999 1 head is));
    sound = sound;
    held = λ k i s. ap (λ fs. map (held_of i.catalogue) (flat_map loans_in fs)) (sym (none i.offices));
  }
    where
      none : (xs : List Office) → take 0 xs ≡ []
      none [] = refl
      none (x ∷ xs) = refl

  pub offices_more : (place : ℕ) (o : shown.Office) (held next : List HeldLoan) (old now new : S)
      → slice_get offices place ≡ Some o → HoldsOffices place held old now
      → Holds store (λ i. numbered o.number 1 (rows_at o.number i).loans) held next now new
      → HoldsOffices (place + 1) next old new
  offices_more place o held next old now new there so one =
      let step : suc place ≡ place + 1 = omega arith in
      subst (λ p. HoldsOffices p next old new) step (record {
        premise = λ k. so.premise (one.premise k);
        same = λ k i s. one.same k i (so.same (one.premise k) i s);
        listed = λ k i s. so.listed (one.premise k) i s;
        sound = so.sound;
        held = λ k i s.
            let early = one.premise k in
            let listed = so.listed early i s in
            let at = shown_at i.offices place o (ap (λ os. slice_get os place) (sym listed) ∙ there) in
            let f = at.0 in
            let found = found_at i.offices place f ((so.sound i s).tree).ascending at.1 in
            let theirs : numbered o.number 1 (rows_at o.number i).loans ≡ loans_in f =
            ap (λ n. numbered n 1 (rows_at n i).loans) (sym at.2)
            ∙ ap (λ g. numbered f.number 1 (rows_of g).loans) found in
            let first = take place i.offices in
            one.held k i (so.same early i s)
            ∙ ap₂ (λ xs ys. xs ++ map (held_of i.catalogue) ys) (so.held early i s) theirs
            ∙ sym (map-append (held_of i.catalogue) (flat_map loans_in first) (loans_in f))
            ∙ ap (λ ys. map (held_of i.catalogue) (flat_map loans_in first ++ ys)) (sym (append-nil (loans_in f)))
            ∙ ap (map (held_of i.catalogue)) (sym (flat_map-append loans_in first (f ∷ [])))
            ∙ ap (λ fs. map (held_of i.catalogue) (flat_map loans_in fs)) (office_taken i.offices place f at.1);
      })

  pub offices_all : (place : ℕ) (held : List HeldLoan) (old now : S) → length offices ≡ place
      → HoldsOffices place held old now → Holds store all_loans [] held old now
  offices_all place held old now all so = record {
    premise = so.premise;
    same = so.same;
    held = λ k i s.
        let size = ap length (so.listed k i s) ∙ length-map i.offices office_shown in
        so.held k i s ∙ ap (λ fs. map (held_of i.catalogue) (flat_map loans_in fs))
        (ap (λ p. take p i.offices) (sym all ∙ size) ∙ take-length i.offices);
  }
