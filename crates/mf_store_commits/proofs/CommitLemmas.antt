-- Commits in the words of the institution: from the writes to the change.
use Rattle.std.proofs.Common.{◌≡◌, ◌<◌, ◌+◌, ℕ, zero, suc, Bool, true, false, cond, List, [], ◌∷◌, map, length, Option}
use Rattle.std.proofs.Common.{None, Some, refl, sym, ap, ◌∙◌, arith, ◌==◌, nat_lt, true≢false, Less, Greater, nat_cmp}
use Rattle.std.proofs.Common.{inl, inr}
use Rattle.std.proofs.lemmas.Bool.{cases_Bool, eqb-true, ltb-true, false_from_ne_true}
use Rattle.std.proofs.lemmas.Bool.Decides.{nat_tests}
use Rattle.std.specs.List.{AllByRecursion}
use Rattle.std.specs.Option.{is_some, option_map}
use Rattle.mf_office.proofs.KeyLemmas.{key_of-child}
use Rattle.mf_office.specs.Keys.{key_of, key_within, key_under, child_key}
use Rattle.mf_office.specs.Tree.{IsTreeOf}
use Rattle.mf_office.specs.declared.staff.Role.{Role}
use Rattle.mf_model.proofs.Offices.{parent_of_with_rows, parent_of_with_office, is_there_with_office}
use Rattle.mf_model.specs.Desk.{staff_added, client_added}
use Rattle.mf_model.specs.Institution.{Institution, Ledger, Office, Rows, office_at, with_rows, with_office, new_office}
use Rattle.mf_model.specs.Receipts.{uses_from}
use Rattle.mf_model.specs.Sound.{IsSound}
use Rattle.mf_model.specs.Store.{after_commit, rows_at}
use Rattle.mf_model.specs.Tree.{parent_of, is_there, Above, Ascending}
use Rattle.mf_model.specs.declared.commit.Commit.TheVariants.{AddOffice, AddStaff, AddClient}
use Rattle.mf_store_sql.specs.Keep.{put_item}
use Rattle.mf_store_schema.specs.Rows.{Lists, by_office, by_staff, by_client}
use Rattle.mf_store_schema.specs.declared.clients.ClientRow.{ClientRow}
use Rattle.mf_store_schema.specs.declared.entries.EntryRow.{EntryRow}
use Rattle.mf_store_schema.specs.declared.instalments.InstalmentRow.{InstalmentRow}
use Rattle.mf_store_schema.specs.declared.loans.LoanRow.{LoanRow}
use Rattle.mf_store_schema.specs.declared.offices.OfficeRow.{OfficeRow}
use Rattle.mf_store_schema.specs.declared.receipts.ReceiptRow.{ReceiptRow}
use Rattle.mf_store_schema.specs.declared.shares.ShareRow.{ShareRow}
use Rattle.mf_store_schema.specs.declared.staff.StaffRow.{StaffRow}
use Rattle.mf_store_schema.specs.declared.writes.StoreWrite.TheVariants.{PutOffice, PutStaff, PutClient}
use Rattle.mf_store_values.proofs.FlatLemmas.{put_row_of, same_rows_of, no_rows_of}
use Rattle.mf_store_values.proofs.LoanRowLemmas.{same_by_loan, none_in_office}
use Rattle.mf_store_values.proofs.PutLemmas.{put_first, put_past}
use Rattle.mf_store_values.specs.Flat.{tables_of, office_under, key_at, staff_in, client_in, loan_in, loans_of}
use Rattle.mf_store_values.specs.Flat.{entry_in, own_entries, all_rows, rows_of_loans, kept_of, instalments_kept}
use Rattle.mf_store_values.specs.Flat.{shares_kept, instalment_in, share_in, entry_rows, instalment_rows, share_rows}
use Rattle.mf_store_values.specs.ReceiptRows.{receipt_rows}
use Rattle.mf_store_commits.proofs.ReceiptRowLemmas.{same_receipts_of, no_receipts_in}
use Rattle.mf_store_commits.specs.Becoming.{Becomes}

-- ---- one more row of an office

under-with_rows : (ps : ℕ → Option ℕ) (x : ℕ) (new : Rows) (fs : List Office) → map (office_under ps) fs
    ≡ map (office_under ps) (with_rows x new fs)
under-with_rows ps x new [] = refl
under-with_rows ps x new (f ∷ fs) = ap (λ l. office_under ps f ∷ l) (under-with_rows ps x new fs)

pub offices-with_rows : (x : ℕ) (new : Rows) (fs : List Office) → map (office_under (parent_of fs)) fs
    ≡ map (office_under (parent_of (with_rows x new fs))) (with_rows x new fs)
offices-with_rows x new fs = under-with_rows (parent_of fs) x new fs
    ∙ (λ k. map (office_under (λ y. sym (parent_of_with_rows x new fs y) k)) (with_rows x new fs))

-- where one office has other rows, of which some tables say nothing
module _ (x : ℕ) (new : Rows) (i : Institution) (before : IsSound i) where
  abbrev now : List Office
  now = with_rows x new i.offices

  abbrev up : Ascending i.offices
  up = before.tree.ascending

  -- other staff or clients: the loans are the same
  people_become : {s : List StaffRow} {c : List ClientRow} → new.loans ≡ (rows_at x i).loans
      → s ≡ all_rows staff_in (λ rows. rows.staff) now → c ≡ all_rows client_in (λ rows. rows.clients) now
      → ◌≡◌ {A = Lists} (record (tables_of i) { staff = s; clients = c }) (tables_of (record i { offices = now }))
  people_become loans staff clients = λ t. record (tables_of i) {
    offices = offices-with_rows x new i.offices t;
    staff = staff t;
    clients = clients t;
    loans = same_rows_of loan_in loans_of refl x new i.offices up (ap (map (λ (l : Ledger). l.loan)) loans) t;
    entries = same_by_loan entry_in own_entries x new i.offices up
        (λ y n. ap (rows_of_loans entry_in own_entries y n) loans) t;
    receipts = same_receipts_of x new i.offices up (ap (uses_from 1) loans) t;
    instalments = same_by_loan instalment_in (kept_of instalments_kept i.catalogue) x new i.offices up
        (λ y n. ap (rows_of_loans instalment_in (kept_of instalments_kept i.catalogue) y n) loans) t;
    shares = same_by_loan share_in (kept_of shares_kept i.catalogue) x new i.offices up
        (λ y n. ap (rows_of_loans share_in (kept_of shares_kept i.catalogue) y n) loans) t;
  }

  -- other loans: staff and clients are the same
  pub loans_become : {l : List LoanRow} {e : List EntryRow} {q : List ReceiptRow} {v : List InstalmentRow}
      {y : List ShareRow} → new.staff ≡ (rows_at x i).staff → new.clients ≡ (rows_at x i).clients
      → l ≡ all_rows loan_in loans_of now → e ≡ entry_rows now → q ≡ receipt_rows now
      → v ≡ instalment_rows i.catalogue now → y ≡ share_rows i.catalogue now
      → ◌≡◌ {A = Lists} (record (tables_of i) {
        loans = l;
        entries = e;
        receipts = q;
        instalments = v;
        shares = y;
      }) (tables_of (record i { offices = now }))
  loans_become staff clients loans entries receipts instalments shares = λ t. record (tables_of i) {
    offices = offices-with_rows x new i.offices t;
    staff = same_rows_of staff_in (λ rows. rows.staff) refl x new i.offices up staff t;
    clients = same_rows_of client_in (λ rows. rows.clients) refl x new i.offices up clients t;
    loans = loans t;
    entries = entries t;
    receipts = receipts t;
    instalments = instalments t;
    shares = shares t;
  }

pub client_becomes : (x : ℕ) (name : List ℕ) (i : Institution) (c : ClientRow) → IsSound i
    → IsSound (after_commit (AddClient x name) i) → is_there i.offices x ≡ true
    → c ≡ client_in x (length (rows_at x i).clients + 1) name
    → Becomes (PutClient c ∷ []) i (after_commit (AddClient x name) i)
client_becomes x name i c before sound there is =
    let new = client_added name (rows_at x i) in
    let up = before.tree.ascending in
    rw is (record {
      sound = sound;
      fits = (refl, tt);
      is = ap Some (people_become x new i before refl
          (same_rows_of staff_in (λ rows. rows.staff) refl x new i.offices up refl)
          (put_row_of client_in (λ rows. rows.clients) refl by_client (λ x n y m a b. refl) x name new i.offices up
          there refl));
    })

pub staff_becomes : (x : ℕ) (name : List ℕ) (role : Role) (i : Institution) (s : StaffRow) → IsSound i
    → IsSound (after_commit (AddStaff x name role) i) → is_there i.offices x ≡ true
    → s ≡ staff_in x (length (rows_at x i).staff + 1) (record { name = name; role = role })
    → Becomes (PutStaff s ∷ []) i (after_commit (AddStaff x name role) i)
staff_becomes x name role i s before sound there is =
    let new = staff_added name role (rows_at x i) in
    let up = before.tree.ascending in
    rw is (record {
      sound = sound;
      fits = (refl, tt);
      is = ap Some (people_become x new i before refl
          (put_row_of staff_in (λ rows. rows.staff) refl by_staff (λ x n y m a b. refl) x _ new i.offices up there refl)
          (same_rows_of client_in (λ rows. rows.clients) refl x new i.offices up refl));
    })

-- ---- a new office

-- no office below a new one has another key
key_kept : (n : ℕ) (ps qs : ℕ → Option ℕ) (there : ℕ → Bool) → ((x p : ℕ) → there x ≡ true → ps x ≡ Some p
    → there p ≡ true) → ((x : ℕ) → there x ≡ true → qs x ≡ ps x) → (x : ℕ) → there x ≡ true → key_within n qs x
    ≡ key_within n ps x
unfolding key_within
key_kept zero ps qs there closed alike x h = refl
key_kept (suc n) ps qs there closed alike x h = ap (λ o. key_under o (λ p. key_within n qs p) x) (alike x h)
    ∙ go (ps x) (λ p e. key_kept n ps qs there closed alike p (closed x p h e))
  where
    go : (o : Option ℕ) → ((p : ℕ) → o ≡ Some p → key_within n qs p ≡ key_within n ps p)
        → key_under o (λ p. key_within n qs p) x ≡ key_under o (λ p. key_within n ps p) x
    go None more = refl
    go (Some p) more = ap (λ k. child_key k x) (more p refl)

-- what stands of a new office, and of the others
module _ (new : Office) (fs : List Office) (free : office_at new.number fs ≡ None) where
  parent_of-other : (y : ℕ) → (new.number == y) ≡ false → parent_of (with_office new fs) y ≡ parent_of fs y
  parent_of-other y h = grind (arith, nat_tests, parent_of_with_office new fs y (ap is_some free))

  parent_of-new : parent_of (with_office new fs) new.number ≡ new.parent
  parent_of-new = grind (arith, nat_tests, parent_of_with_office new fs new.number (ap is_some free))

  new_there : is_there (with_office new fs) new.number ≡ true
  new_there = grind (arith, nat_tests, is_there_with_office new fs new.number (ap is_some free))

-- an office that is there is another than one that isn't
apart : (x y : ℕ) (fs : List Office) → office_at x fs ≡ None → is_there fs y ≡ true → (x == y) ≡ false
apart x y fs none there = false_from_ne_true (x == y) (λ e. true≢false (sym there
    ∙ ap (λ z. is_some (office_at z fs)) (sym (eqb-true x y e)) ∙ ap is_some none))

-- offices whose keys are the same under both
under_alike : (ps qs : ℕ → Option ℕ) (fs : List Office) → AllByRecursion (λ (f : Office). key_of qs f.number
    ≡ key_of ps f.number) fs → map (office_under ps) fs ≡ map (office_under qs) fs
under_alike ps qs [] all = refl
under_alike ps qs (f ∷ fs) all = ap (λ k. record { number = f.number; parent = f.parent; hkey = k; name = f.name }
    ∷ map (office_under ps) fs) (sym all.0) ∙ ap (λ l. office_under qs f ∷ l) (under_alike ps qs fs all.1)

office_put : (ps : ℕ → Option ℕ) (new : Office) (fs : List Office) → Ascending fs → office_at new.number fs ≡ None
    → put_item by_office (office_under ps new) (map (office_under ps) fs) ≡ map (office_under ps) (with_office new fs)
office_put ps new [] up none = refl
office_put ps new (f ∷ fs) up none = elim (cases_Bool (f.number == new.number)) [
  | inl e ↦ absurd (let k = rw e at none in cc)
  | inr e ↦ elim (cases_Bool (nat_lt new.number f.number)) [
    | inl l ↦
        let low : new.number < f.number = ltb-true new.number f.number l in
        let less : nat_cmp new.number f.number ≡ Less = grind (arith, nat_tests) in
        put_first by_office (office_under ps new) (map (office_under ps) (f ∷ fs)) (less, above f.number fs low up.0)
        ∙ ap placed (sym l)
    | inr l ↦
        let high : nat_cmp new.number f.number ≡ Greater = grind (arith, nat_tests) in
        put_past by_office (office_under ps new) (office_under ps f) (map (office_under ps) fs) high
        ∙ ap (λ l. office_under ps f ∷ l) (office_put ps new fs up.1 (rw e at none)) ∙ ap placed (sym l)
  ]
]
  where
    placed : Bool → List OfficeRow
    placed b = map (office_under ps) (cond b (new ∷ f ∷ fs) (f ∷ with_office new fs))

    above : (n : ℕ) (gs : List Office) → new.number < n → Above n gs
        → AllByRecursion (λ y. by_office (office_under ps new) y ≡ Less) (map (office_under ps) gs)
    above n [] low h = tt
    above n (h ∷ hs) low up = (
      (let high = up.0 in let less : nat_cmp new.number h.number ≡ Less = grind (arith, nat_tests, low, high) in less),
      above n hs low up.1,
    )

pub all_there : (fs gs : List Office) (P : Office → Type 0) → Ascending gs → ((f : Office) → is_there gs f.number ≡ true
    → P f) → AllByRecursion P gs
all_there fs [] P up each = tt
all_there fs (f ∷ gs) P up each = (
  each f (let same : (f.number == f.number) ≡ true = grind (arith, nat_tests) in
      rw same),
  all_there fs gs P up.1 (λ h there. each h (elim (cases_Bool (f.number == h.number)) [
    | inl e ↦ rw e
    | inr e ↦ rw e there
  ])),
)

-- an office that was there keeps its key when another is added
pub office_key_kept : (x parent : ℕ) (name : List ℕ) (i : Institution) → IsSound i → office_at x i.offices ≡ None
    → (y : ℕ) → is_there i.offices y ≡ true
    → key_of (parent_of (with_office (new_office x parent name) i.offices)) y ≡ key_of (parent_of i.offices) y
unfolding key_of
office_key_kept x parent name i before free y here =
    let fs = i.offices in
    let new = new_office x parent name in
    key_kept 5 (parent_of fs) (parent_of (with_office new fs)) (is_there fs) (λ z p h e. before.tree.parents_there z p
    e) (λ z h. parent_of-other new fs free z (apart x z fs free h)) y here

pub office_becomes : (x parent : ℕ) (name key : List ℕ) (i : Institution) (o : OfficeRow) → IsSound i
    → IsSound (after_commit (AddOffice x parent name) i) → ((j : Institution) → IsSound j
    → IsTreeOf (is_there j.offices) (parent_of j.offices))
    → office_at x i.offices ≡ None → is_there i.offices parent ≡ true → key ≡ key_of (parent_of i.offices) parent
    → o ≡ record { number = x; parent = Some parent; hkey = child_key key x; name = name }
    → Becomes (PutOffice o ∷ []) i (after_commit (AddOffice x parent name) i)
unfolding key_of
office_becomes x parent name key i o before sound trees free there key_is is =
    let fs = i.offices in
    let new = new_office x parent name in
    let ps = parent_of fs in
    let qs = parent_of (with_office new fs) in
    let kept : (y : ℕ) → is_there fs y ≡ true → key_of qs y ≡ key_of ps y =
    office_key_kept x parent name i before free in
    let key_new : child_key key x ≡ key_of qs x = ap (λ k. child_key k x) (key_is ∙ sym (kept parent there))
    ∙ sym (key_of-child (is_there (with_office new fs)) qs (trees (after_commit (AddOffice x parent name) i) sound)
    x parent (new_there new fs free) (parent_of-new new fs free)) in
    let offices : put_item by_office o (map (office_under ps) fs) ≡ map (office_under qs) (with_office new fs) =
    ap (λ r. put_item by_office r (map (office_under ps) fs)) (is
    ∙ ap (λ k. record { number = x; parent = Some parent; hkey = k; name = name }) key_new)
    ∙ ap (put_item by_office (office_under qs new)) (under_alike ps qs fs (all_there fs fs (λ f. key_of qs f.number
    ≡ key_of ps f.number) before.tree.ascending (λ f here. kept f.number here)))
    ∙ office_put qs new fs before.tree.ascending free in
    record {
      sound = sound;
      fits = (refl, tt);
      is = λ t. Some (record (tables_of i) {
        offices = offices t;
        staff = no_rows_of staff_in (λ rows. rows.staff) refl new fs refl t;
        clients = no_rows_of client_in (λ rows. rows.clients) refl new fs refl t;
        loans = no_rows_of loan_in loans_of refl new fs refl t;
        entries = none_in_office entry_in own_entries new fs refl t;
        receipts = no_receipts_in new fs refl t;
        instalments = none_in_office instalment_in (kept_of instalments_kept i.catalogue) new fs refl t;
        shares = none_in_office share_in (kept_of shares_kept i.catalogue) new fs refl t;
      });
    }

-- ---- the rows that the code makes

pub same_client : (a x l n : ℕ) (b m : List ℕ) → a ≡ x → l ≡ n → b ≡ m
    → ◌≡◌ {A = ClientRow} (record { office = a; number = l + 1; name = b }) (client_in x (n + 1) m)
same_client a x l n b m p q r = cc

pub same_staff : (a x l n r t : ℕ) (b m : List ℕ) → a ≡ x → l ≡ n → r ≡ t → b ≡ m
    → ◌≡◌ {A = StaffRow} (record { office = a; number = l + 1; name = b; role = r })
    (record { office = x; number = n + 1; name = m; role = t })
same_staff a x l n r t b m p q o e = cc

pub same_office : (a x p q : ℕ) (b m k l : List ℕ) → a ≡ x → p ≡ q → k ≡ l → b ≡ m
    → ◌≡◌ {A = OfficeRow} (record { number = a; parent = Some p; hkey = k; name = b })
    (record { number = x; parent = Some q; hkey = l; name = m })
same_office a x p q b m k l e f h j = cc

pub none_there : {A : Type 0} (o : Option A) → is_some o ≡ false → o ≡ None
none_there None h = refl
none_there (Some x) h = absurd (true≢false h)

pub number_at : (x : ℕ) (fs : List Office) → (f : Office) → office_at x fs ≡ Some f → f.number ≡ x
number_at x [] f h = absurd (let k : None ≡ Some f = h in cc)
number_at x (e ∷ fs) f h = elim (cases_Bool (e.number == x)) [
  | inl same ↦ let k : Some e ≡ Some f = rw same at h in let is : e ≡ f = cc in
      ap (λ (o : Office). o.number) (sym is) ∙ eqb-true e.number x same
  | inr other ↦ number_at x fs f (rw other at h)
]

pub office_known : (found : Option (List ℕ)) (key : List ℕ) (x : ℕ) (i : Institution) → found ≡ Some key
    → found ≡ key_at x i → (is_there i.offices x ≡ true) × (key ≡ key_of (parent_of i.offices) x)
office_known found key x i is h = go (office_at x i.offices) refl (sym is ∙ h)
  where
    go : (at : Option Office) → office_at x i.offices ≡ at → Some key ≡ option_map (λ (f : Office). key_of
        (parent_of i.offices) f.number) at → (is_there i.offices x ≡ true) × (key ≡ key_of (parent_of i.offices) x)
    go None e h = absurd (let k : Some key ≡ None = h in cc)
    go (Some f) e h =
        let k : Some key ≡ Some (key_of (parent_of i.offices) f.number) = h in
        let same : key ≡ key_of (parent_of i.offices) f.number = cc in
        (ap is_some e, same ∙ ap (key_of (parent_of i.offices)) (number_at x i.offices f e))
