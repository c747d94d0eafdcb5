-- A sound institution is the only one with its rows: each value is read back off its row, and what stands under each
-- number is found among the rows.
use Rattle.std.proofs.Common.{◌≡◌, ◌∙◌, ℕ, suc, List, [], ◌∷◌, map, find, filter, slice_get, Option}
use Rattle.std.proofs.Common.{None, Some, refl, sym, ap}
use Rattle.std.specs.List.{AllByRecursion}
use Rattle.std.specs.Option.{option_map}
use Rattle.mf_base.specs.Choices.{choice_numbered, frequencies, frequency_number}
use Rattle.mf_base.specs.DayText.{day_text}
use Rattle.mf_base.specs.contracts.frequency.FreqChoice.TheImpl.Laws as freq
use Rattle.mf_catalog.specs.Names.{kinds, kind_number, calcs, calc_number, methods, method_number, strategies}
use Rattle.mf_catalog.specs.Names.{strategy_number}
use Rattle.mf_catalog.specs.contracts.names.ChargeKindChoice.TheImpl.Laws as charge_kind
use Rattle.mf_catalog.specs.contracts.names.CalcChoice.TheImpl.Laws as calc
use Rattle.mf_catalog.specs.contracts.names.MethodChoice.TheImpl.Laws as method
use Rattle.mf_catalog.specs.contracts.names.StrategyNameChoice.TheImpl.Laws as strategy
use Rattle.mf_office.specs.Roles.{roles, role_number}
use Rattle.mf_office.specs.contracts.roles.RoleChoice.TheImpl.Laws as role
use Rattle.mf_account.specs.Names.{entry_kinds}
use Rattle.mf_account.specs.declared.entry.Entry.{Entry}
use Rattle.mf_account.specs.contracts.names.KindChoice.TheImpl.Laws as entry_kind
use Rattle.mf_office.specs.Texts.{IsCaller}
use Rattle.mf_office.specs.Written.{caller_text}
use Rattle.mf_office.specs.declared.caller.Caller.{Caller}
use Rattle.mf_office.proofs.ReadLemmas.{caller_of-text}
use Rattle.mf_model.specs.Institution.{Institution, ListedCharge, Ledger, ListedProduct, Office, Staff, item_numbered}
use Rattle.mf_model.specs.Institution.{office_at}
use Rattle.mf_model.specs.Sound.{IsSound}
use Rattle.mf_model.specs.Store.{rows_of, rows_at}
use Rattle.mf_model.specs.Tree.{parent_of}
use Rattle.mf_model.specs.declared.loan.Loan.{Loan}
use Rattle.mf_store_schema.specs.declared.meta.MetaRow.{MetaRow}
use Rattle.mf_store_schema.specs.Rows.{Lists, is_row_of_staff, is_row_of_client, is_row_of_charge, is_row_of_product}
use Rattle.mf_store_schema.specs.Rows.{is_row_of_loan}
use Rattle.mf_store_schema.specs.Rows.{is_entry_of}
use Rattle.mf_store_values.proofs.FlatLemmas.{numbered-suc, portion_same}
use Rattle.mf_store_commits.proofs.EnteredLemmas.{HaveCallers, loan_called}
use Rattle.mf_store_values.proofs.LoanRowLemmas.{loan_shown}
use Rattle.mf_store_commits.proofs.LoanLemmas.{loan_of, numbered_loan}
use Rattle.mf_store_values.specs.Flat.{entry_kind_number, meta_on, staff_in, client_in, charge_as, product_as}
use Rattle.mf_store_values.specs.Flat.{loan_in, entry_in, own_entries, ledger_entries, tables_of}
use Rattle.mf_store_values.specs.Parts.{office_of, bare}
use Rattle.mf_store_values.proofs.PartLemmas.{heads_of}
use Rattle.mf_store_values.proofs.CatalogueLemmas.{flag_is, amount_is}
use Rattle.mf_store_values.proofs.LoanLemmas.{stage_is}
use Rattle.mf_store.proofs.ArrearsLemmas.{IsFoundIn, found_there}
use Rattle.mf_store.proofs.CatalogueLemmas.{some_is}
use Rattle.mf_store.specs.Looks.{staff_by_key, client_by_key, charge_by_key, product_by_key, loan_by_key}

-- ---- numbers that stand for choices

-- a number stands for one choice
choice_same : {A : Type 0} {Named : A → Type 0} (choices : List A) (number : A → ℕ) → ((x : A) → Named x
    × (choice_numbered number choices (number x) ≡ Some x)) → (a b : A) → number a ≡ number b → a ≡ b
choice_same choices number told a b e =
    some_is (sym (told b).1 ∙ ap (choice_numbered number choices) (sym e) ∙ (told a).1)

-- ---- values, by their rows

staff_same : (x n : ℕ) (a b : Staff) → staff_in x n a ≡ staff_in x n b → a ≡ b
staff_same x n a b e = λ t. record {
  name = (e t).name;
  role = choice_same roles role_number role.told_apart-law a.role b.role (λ k. (e k).role) t;
}

client_same : (x n : ℕ) (a b : List ℕ) → client_in x n a ≡ client_in x n b → a ≡ b
client_same x n a b e = λ t. (e t).name

charge_same : (n : ℕ) (a b : ListedCharge) → charge_as n a ≡ charge_as n b → a ≡ b
charge_same n a b e = λ t. record {
  name = (e t).name;
  kind = choice_same kinds kind_number charge_kind.told_apart-law a.kind b.kind (λ k. (e k).kind) t;
  calc = choice_same calcs calc_number calc.told_apart-law a.calc b.calc (λ k. (e k).calc) t;
  value = amount_is a.value b.value (λ k. (e k).value) t;
}

product_same : (n : ℕ) (a b : ListedProduct) → product_as n a ≡ product_as n b → a ≡ b
product_same n a b e = λ t. record {
  members = record {
    name = (e t).name;
    method = choice_same methods method_number method.told_apart-law a.members.method b.members.method (λ k.
        (e k).method) t;
    rate = (e t).rate;
    freq = choice_same frequencies frequency_number freq.told_apart-law a.members.freq b.members.freq (λ k.
        (e k).frequency) t;
    every = (e t).every;
    principal_grace = (e t).principal_grace;
    interest_grace = (e t).interest_grace;
    min_principal =
        amount_is a.members.min_principal b.members.min_principal (λ k. (e k).min_principal) t;
    max_principal =
        amount_is a.members.max_principal b.members.max_principal (λ k. (e k).max_principal) t;
    min_periods = (e t).min_periods;
    max_periods = (e t).max_periods;
    strategy = choice_same strategies strategy_number strategy.told_apart-law a.members.strategy b.members.strategy
        (λ k. (e k).strategy) t;
    disbursement_charge = (e t).disbursement_charge;
    instalment_charge = (e t).instalment_charge;
    overdue_charge = (e t).overdue_charge;
  };
  retired = flag_is a.retired b.retired (λ k. (e k).retired) t;
}

-- ---- lists

-- lists that have the same under each number are the same
by_number : {A : Type 0} (xs ys : List A) → ((n : ℕ) → item_numbered xs n ≡ item_numbered ys n) → xs ≡ ys
by_number {A} xs ys same = by_place xs ys (λ k. sym (numbered-suc xs k) ∙ same (suc k) ∙ numbered-suc ys k)
  where
    by_place : (xs ys : List A) → ((k : ℕ) → slice_get xs k ≡ slice_get ys k) → xs ≡ ys
    by_place [] [] same = refl
    by_place [] (y ∷ ys) same = absurd (let k : None ≡ Some y = same 0 in cc)
    by_place (x ∷ xs) [] same = absurd (let k : Some x ≡ None = same 0 in cc)
    by_place (x ∷ xs) (y ∷ ys) same = let first = some_is (same 0) in λ t. sym first t ∷ by_place xs ys (λ k. same
        (suc k)) t

-- what is found is the same where its rows are
found_same : {A R : Type 0} (make : A → R) → ((a b : A) → make a ≡ make b → a ≡ b) → (o p : Option A)
    → option_map make o ≡ option_map make p → o ≡ p
found_same make same None None e = refl
found_same make same None (Some b) e = absurd (let k : None ≡ Some (make b) = e in cc)
found_same make same (Some a) None e = absurd (let k : Some (make a) ≡ None = e in cc)
found_same make same (Some a) (Some b) e = ap Some (same a b (sym (some_is e)))

-- offices are the same where their heads are and the rows that are found under their numbers
offices_same : (i j : List Office) → ((x : ℕ) → rows_of (office_at x i) ≡ rows_of (office_at x j)) → (fs gs : List
    Office) → AllByRecursion (IsFoundIn i) fs → AllByRecursion (IsFoundIn j) gs → map bare fs ≡ map bare gs → fs ≡ gs
offices_same i j rows [] [] p q h = refl
offices_same i j rows [] (g ∷ gs) p q h = absurd (cc)
offices_same i j rows (f ∷ fs) [] p q h = absurd (cc)
offices_same i j rows (f ∷ fs) (g ∷ gs) p q h =
    let head : bare f ≡ bare g = cc in
    let heads : map bare fs ≡ map bare gs = cc in
    let own : f.rows ≡ g.rows = sym (ap rows_of p.0) ∙ rows f.number ∙ (λ t. rows_of (office_at (head t).number j))
    ∙ ap rows_of q.0 in
    λ t. record {
      number = (head t).number;
      parent = (head t).parent;
      name = (head t).name;
      rows = own t;
    } ∷ offices_same i j rows fs gs p.1 q.1 heads t

-- ---- entries

caller_same : (a b : Caller) → IsCaller a → IsCaller b → caller_text a.office a.staff ≡ caller_text b.office b.staff
    → a ≡ b
caller_same a b p q e = let one : Some a ≡ Some b = sym (caller_of-text (caller_text b.office b.staff) a p (sym e))
    ∙ caller_of-text (caller_text b.office b.staff) b q refl in cc

module _ (apart : (d e : ℕ) → day_text d ≡ day_text e → d ≡ e) where
  loan_same : (x n : ℕ) (a b : Loan) → loan_in x n a ≡ loan_in x n b → a ≡ b
  loan_same x n a b e =
      let stage : a.stage ≡ b.stage = stage_is apart a.stage b.stage (λ k. (e k).stage)
      (λ k. (e k).approved) (λ k. (e k).disbursed) in
      λ t. record {
        client = (e t).client;
        product = (e t).product;
        principal = amount_is a.principal b.principal
            (λ k. (e k).principal) t;
        periods = (e t).periods;
        stage = stage t;
      }

  entry_same : (x n : ℕ) (a b : Entry) → IsCaller a.staff → IsCaller b.staff → entry_in x n a ≡ entry_in x n b → a ≡ b
  entry_same x n a b p q e = λ t. record {
    seq = (e t).seq;
    kind = choice_same entry_kinds entry_kind_number entry_kind.told_apart-law a.kind b.kind (λ k. (e k).kind) t;
    day = apart a.day b.day (λ k. (e k).day) t;
    amount = amount_is a.amount b.amount (λ k. (e k).amount) t;
    instalment = (e t).instalment;
    portion = portion_same a.portion b.portion (λ k. (e k).portion) t;
    receipt = (e t).receipt;
    staff = caller_same a.staff b.staff p q (λ k. (e k).staff) t;
    reversed = flag_is a.reversed b.reversed (λ k. (e k).reversed) t;
  }

  entries_same : (x n : ℕ) (ds bs : List Entry) → HaveCallers ds → HaveCallers bs → map (entry_in x n) ds
      ≡ map (entry_in x n) bs → ds ≡ bs
  entries_same x n [] [] p q e = refl
  entries_same x n [] (b ∷ bs) p q e = absurd (cc)
  entries_same x n (a ∷ ds) [] p q e = absurd (cc)
  entries_same x n (a ∷ ds) (b ∷ bs) p q e =
      let k : entry_in x n a ∷ map (entry_in x n) ds ≡ entry_in x n b ∷ map (entry_in x n) bs = e in
      let first : entry_in x n a ≡ entry_in x n b = cc in
      let rest : map (entry_in x n) ds ≡ map (entry_in x n) bs = cc in
      λ t. entry_same x n a b p.0 q.0 first t ∷ entries_same x n ds bs p.1 q.1 rest t

  ledger_same : (x n : ℕ) (o p : Option Ledger) → HaveCallers (ledger_entries o) → HaveCallers (ledger_entries p)
      → option_map loan_of o ≡ option_map loan_of p → map (entry_in x n) (ledger_entries o)
      ≡ map (entry_in x n) (ledger_entries p) → o ≡ p
  ledger_same x n None None c d l e = refl
  ledger_same x n None (Some b) c d l e = absurd (let k : None ≡ Some b.loan = l in cc)
  ledger_same x n (Some a) None c d l e = absurd (let k : Some a.loan ≡ None = l in cc)
  ledger_same x n (Some a) (Some b) c d l e =
      let loan = some_is l in
      let entries = entries_same x n a.entries b.entries c d e in
      λ t. Some (record { loan = sym loan t; entries = entries t })

  pub one_institution : (i j : Institution) → IsSound i → IsSound j → i.journal ≡ j.journal → tables_of i ≡ tables_of j
      → i ≡ j
  one_institution i j s r same e = λ t. record {
    catalogue = record { day = day t; charges = charges t; products = products t };
    offices = offices_same i.offices j.offices rows i.offices j.offices (found_there i.offices s.tree.ascending)
        (found_there j.offices r.tree.ascending) heads t;
    journal = same t;
  }
    where
      heads : map bare i.offices ≡ map bare j.offices
      heads = sym (heads_of (parent_of i.offices) i.offices) ∙ (λ t. map office_of (e t).offices)
          ∙ heads_of (parent_of j.offices) j.offices

      day : i.catalogue.day ≡ j.catalogue.day
      day =
          let metas : meta_on i.catalogue.day ∷ [] ≡ meta_on j.catalogue.day ∷ [] = ap (λ (l : Lists). l.meta) e in
          let one : meta_on i.catalogue.day ≡ meta_on j.catalogue.day = cc in
          apart i.catalogue.day j.catalogue.day (ap (λ (m : MetaRow). m.day) one)

      charges : i.catalogue.charges ≡ j.catalogue.charges
      charges = by_number i.catalogue.charges j.catalogue.charges (λ n. found_same (charge_as n) (charge_same n) _ _
          (sym (charge_by_key n i s) ∙ (λ t. find (is_row_of_charge n) (e t).charges) ∙ charge_by_key n j r))

      products : i.catalogue.products ≡ j.catalogue.products
      products = by_number i.catalogue.products j.catalogue.products (λ n. found_same (product_as n) (product_same n) _
          _ (sym (product_by_key n i s) ∙ (λ t. find (is_row_of_product n) (e t).products) ∙ product_by_key n j r))

      ledgers : (x n : ℕ) → item_numbered (rows_at x i).loans n ≡ item_numbered (rows_at x j).loans n
      ledgers x n =
          let loan = found_same (loan_in x n) (loan_same x n) _ _ (sym (loan_by_key (x, n) i s)
          ∙ (λ t. find (is_row_of_loan x n) (e t).loans) ∙ loan_by_key (x, n) j r) in
          let shown = loan_shown entry_in own_entries is_entry_of (λ x n y m a. refl) x n in
          ledger_same x n _ _ (loan_called x n i s) (loan_called x n j r)
          (sym (numbered_loan (rows_at x i).loans n) ∙ loan ∙ numbered_loan (rows_at x j).loans n)
          (sym (shown i.offices s.tree.ascending) ∙ (λ t. filter (is_entry_of x n) (e t).entries)
          ∙ shown j.offices r.tree.ascending)

      rows : (x : ℕ) → rows_at x i ≡ rows_at x j
      rows x =
          let staff = by_number (rows_at x i).staff (rows_at x j).staff (λ n. found_same (staff_in x n)
          (staff_same x n) _ _ (sym (staff_by_key (x, n) i s) ∙ (λ t. find (is_row_of_staff x n) (e t).staff)
          ∙ staff_by_key (x, n) j r)) in
          let clients = by_number (rows_at x i).clients (rows_at x j).clients (λ n. found_same (client_in x n)
          (client_same x n) _ _ (sym (client_by_key (x, n) i s) ∙ (λ t. find (is_row_of_client x n) (e t).clients)
          ∙ client_by_key (x, n) j r)) in
          let loans = by_number (rows_at x i).loans (rows_at x j).loans (ledgers x) in
          λ t. record { staff = staff t; clients = clients t; loans = loans t }
