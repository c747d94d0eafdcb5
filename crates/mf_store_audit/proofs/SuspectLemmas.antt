-- The staff who entered entries: the steps up from an office, and who may enter what.
use Rattle.std.proofs.Common.{◌≡◌, ◌≢◌, ◌∙◌, ◌+◌, ◌-◌, ◌<◌, ◌==◌, ℕ, zero, suc, Bool, true, false, List, refl, sym, ap}
use Rattle.std.proofs.Common.{◌↔◌, subst, arith, inl, inr, Bor, Less, None, Option, Some, true≢false}
use Rattle.std.specs.Prelude.{◌||◌, IsTrue, not}
use Rattle.std.specs.List.{Contains, list_any}
use Rattle.std.specs.Option.{IfSome, IsNone, option_copied}
use Rattle.std.proofs.lemmas.Bool.{ne_eqb}
use Rattle.std.proofs.lemmas.Bool.Decides.{eqb_tells, nat_tests}
use Rattle.std.proofs.lemmas.List.Folds.{list_any_at}
use Rattle.mf_account.specs.declared.entry.Kind.{Kind}
use Rattle.mf_account.specs.declared.entry.Kind.TheVariants as kind
use Rattle.mf_model.specs.Desk.{is_manager, is_officer, loan_need, meets}
use Rattle.mf_model.specs.declared.request.LoanRequest.{LoanRequest}
use Rattle.mf_model.specs.declared.request.LoanRequest.TheVariants.{Show, ShowInstalments, ShowEntries, Take, Repay}
use Rattle.mf_model.specs.declared.request.LoanRequest.TheVariants.{ChargeFee, Post, Reverse}
use Rattle.mf_model.specs.declared.request.Posting.TheVariants.{Penalty, Waiver, WriteOff, Refund}
use Rattle.mf_model.specs.declared.waivable.Waivable.TheVariants as waivable
use Rattle.mf_office.specs.Roles.{role_number}
use Rattle.mf_office.specs.Tree.{is_within, option_any}
use Rattle.mf_office.specs.declared.caller.Caller.{Caller}
use Rattle.mf_office.specs.declared.staff.Role.{Role}
use Rattle.mf_store_schema.specs.Rows.{by_staff}
use Rattle.mf_store_schema.specs.declared.entries.EntryRow.{EntryRow}
use Rattle.mf_store_schema.specs.declared.staff.StaffRow.{StaffRow}
use Rattle.mf_store_sound.specs.Held.{Rises}
use Rattle.mf_store_values.specs.Flat.{entry_kind_number}
use Rattle.mf_store_audit.specs.Keys.{is_at}
use Rattle.mf_store_audit.specs.Suspects.{IsBeyondRole, is_named, kind_entered, may_enter, MayNotEnter}
use Rattle.mf_store_audit.proofs.DifferenceLemmas.{one_there}

-- ---- steps up from an office

either_true : (a b : Bool) → a ≡ true → (a || b) ≡ true
either_true true b is = refl
either_true false b is = absurd (cc is)

or_rest : (a b : Bool) → a ≡ false → (a || b) ≡ b
or_rest true b is = absurd (cc is)
or_rest false b is = refl

are_equal : (x y : ℕ) → x ≡ y → (x == y) ≡ true
are_equal x y same = elim (eqb_tells x y) [
  | inl is ↦ is.0
  | inr not ↦ absurd (not.1 same)
]

module _ (parents : ℕ → Option ℕ) (x y : ℕ) where
  -- an office is within any number of steps of itself
  pub within_itself : (n : ℕ) → x ≡ y → is_within n parents x y ≡ true
  unfolding is_within
  within_itself zero same = are_equal x y same
  within_itself (suc n) same = either_true (x == y) (option_any (parents x) (λ p. is_within n parents p y))
      (are_equal x y same)

  -- one without a parent is within steps of itself alone
  pub within_alone : (n : ℕ) → (x ≡ y → ⊥) → parents x ≡ None → is_within n parents x y ≡ false
  unfolding is_within
  within_alone zero apart none = ne_eqb x y apart
  within_alone (suc n) apart none = or_rest (x == y) (option_any (parents x) (λ p. is_within n parents p y))
      (ne_eqb x y apart) ∙ ap (λ o. option_any o (λ p. is_within n parents p y)) none

  next_within : (n p : ℕ) → (x ≡ y → ⊥) → parents x ≡ Some p
      → is_within (suc n) parents x y ≡ is_within n parents p y
  unfolding is_within
  next_within n p apart up = or_rest (x == y) (option_any (parents x) (λ p. is_within n parents p y))
      (ne_eqb x y apart) ∙ ap (λ o. option_any o (λ p. is_within n parents p y)) up

  -- another is within what is left of five steps where its parent is within one step fewer
  pub within_next : (i p : ℕ) → i < 5 → (x ≡ y → ⊥) → parents x ≡ Some p
      → is_within (5 - i) parents x y ≡ is_within (5 - (i + 1)) parents p y
  within_next i p left apart up =
      let one : 5 - i ≡ suc (5 - (i + 1)) = omega (arith, left) in
      ap (λ n. is_within n parents x y) one ∙ next_within (5 - (i + 1)) p apart up

-- ---- a member of staff by their office and number

module _ (c : Caller) (office number : ℕ) (office_is : office ≡ c.office) (number_is : number ≡ c.staff) where
  -- the row at their key
  abbrev pub is_theirs : StaffRow → Bool
  is_theirs = is_at (λ (s : StaffRow). (s.office, 0, s.number)) (office, 0, number)

  not_before : (a b : StaffRow) → is_theirs a ≡ true → is_named (Some c) b ≡ true → by_staff a b ≢ Less
  not_before a b at own less = absurd (grind (arith, nat_tests))

  not_after : (a b : StaffRow) → is_theirs a ≡ true → is_named (Some c) b ≡ true → by_staff b a ≢ Less
  not_after a b at own less = absurd (grind (arith, nat_tests))

  -- a look-up by their key finds their one row, where rows rise
  pub one_member : (staff : List StaffRow) (found : Option (Bor StaffRow)) (s : StaffRow)
      → IfSome found (λ l. Contains staff l.now × (is_theirs l.now ≡ true))
      → (IsNone found → list_any is_theirs staff ≡ false) → Rises by_staff staff → Contains staff s
      → is_named (Some c) s ≡ true → option_copied found ≡ Some s
  one_member staff (Some l) s its none up there own =
      ap Some (one_there by_staff staff l.now s up its.0 there (not_before l.now s its.1 own)
      (not_after l.now s its.1 own))
  one_member staff None s its none up there own =
      let is : is_theirs s ≡ true = grind (arith, nat_tests) in
      absurd (true≢false (sym (list_any_at is_theirs staff there.0 s there.1 (ap is_theirs there.2 ∙ is))
      ∙ none refl))

-- ---- who may enter what

module _ (role : Role) (office : ℕ) where
  -- whether an entry that a request makes, if it makes one, is one of those
  may_make : Option Kind → Bool
  may_make None = true
  may_make (Some kind) = may_enter kind role

  none_may : (asked : LoanRequest) → may_make (kind_entered asked) ≡ false → meets (loan_need asked) role office ≡ false
  unfolding may_make
  none_may Show no_ = absurd (true≢false no_)
  none_may ShowInstalments no_ = absurd (true≢false no_)
  none_may ShowEntries no_ = absurd (true≢false no_)
  none_may (Take step) no_ = absurd (true≢false no_)
  none_may (Repay repayment) no_ = no_
  none_may (ChargeFee charge due) no_ = no_
  none_may (Post (Penalty instalment)) no_ = no_
  none_may (Post (Waiver instalment portion)) no_ = no_
  none_may (Post WriteOff) no_ = no_
  none_may (Post Refund) no_ = no_
  none_may (Reverse entry) no_ = absurd (true≢false no_)

  never : (kind : Kind) → MayNotEnter kind role office → may_enter kind role ≡ false
  never kind.Repay none = none (Repay (record { amount = 0; day = 0; receipt = None })) refl
  never kind.Fee none = none (ChargeFee 0 0) refl
  never kind.Penalty none = none (Post (Penalty 0)) refl
  never kind.Waive none = none (Post (Waiver 0 waivable.Interest)) refl
  never kind.WriteOff none = none (Post WriteOff) refl
  never kind.Refund none = none (Post Refund) refl

  -- a kind that a role may not enter is one that no request makes which it may send
  pub may_not : (kind : Kind) (may : Bool) → may ≡ may_enter kind role → (may ≡ false) ↔ MayNotEnter kind role office
  unfolding may_make
  may_not kind may is = (
    λ no_ asked makes. none_may asked (ap may_make makes ∙ sym is ∙ no_),
    λ none. is ∙ never kind none,
  )

-- whether a member of staff may not enter an entry of a row's kind, by what the numbers stand for
pub beyond_role : (row : EntryRow) (s : StaffRow) (kind : Kind) (role : Role) (read_kind : Option Kind)
    (read_role : Option Role) (may : Bool) → read_kind ≡ Some kind → read_role ≡ Some role
    → row.kind ≡ entry_kind_number kind → s.role ≡ role_number role
    → ((k : Kind) → row.kind ≡ entry_kind_number k → read_kind ≡ Some k)
    → ((r : Role) → s.role ≡ role_number r → read_role ≡ Some r) → may ≡ may_enter kind role
    → IsTrue (not may) ↔ IsBeyondRole row s
beyond_role row s kind role read_kind read_role may is_kind is_role kind_is role_is every_kind every_role is = (
  λ no_. record {
    kind = kind;
    kind_is = sym kind_is;
    role = role;
    role_is = sym role_is;
    beyond = (may_not role s.office kind may is).0 (fails may no_);
  },
  λ b.
      let of_kind : Some b.kind ≡ Some kind = sym (every_kind b.kind (sym b.kind_is)) ∙ is_kind in
      let of_role : Some b.role ≡ Some role = sym (every_role b.role (sym b.role_is)) ∙ is_role in
      let same_kind : b.kind ≡ kind = cc in
      let same_role : b.role ≡ role = cc in
      ap not ((may_not role s.office kind may is).1 (subst (λ k. MayNotEnter k role s.office) same_kind
      (subst (λ r. MayNotEnter b.kind r s.office) same_role b.beyond))),
)
  where
    fails : (b : Bool) → IsTrue (not b) → b ≡ false
    fails true no_ = absurd (cc no_)
    fails false no_ = refl
