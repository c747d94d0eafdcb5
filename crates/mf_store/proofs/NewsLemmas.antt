-- What each commit tells of what may be known.
use Rattle.std.proofs.Common.{◌≡◌, ◌≢◌, ◌+◌, ℕ, map, find, Bool, true, false, cond, List, [], ◌∷◌, ◌++◌}
use Rattle.std.proofs.Common.{length, length-append, Option, None, Some, refl, sym, ap, ◌∙◌, subst, arith, ◌==◌}
use Rattle.std.proofs.Common.{true≢false, not}
use Rattle.std.specs.Option.{is_some, option_map}
use Rattle.std.proofs.lemmas.Bool.Decides.{nat_tests}
use Rattle.mf_office.specs.declared.staff.Role.{Role}
use Rattle.mf_office.specs.Keys.{key_of}
use Rattle.mf_office.specs.declared.caller.Caller.{Caller}
use Rattle.mf_office.specs.declared.account.Account.{Account}
use Rattle.mf_catalog.specs.declared.product.ProductMembers.{ProductMembers}
use Rattle.mf_catalog.specs.declared.product.Product.{Product}
use Rattle.mf_model.specs.declared.loan.Loan.{Loan}
use Rattle.mf_model.specs.declared.loan.Stage.{Stage}
use Rattle.mf_model.specs.declared.store.Counts.{Counts}
use Rattle.mf_model.specs.declared.store.CatalogueCounts.{CatalogueCounts}
use Rattle.mf_model.specs.declared.commit.Commit.TheVariants.{AddOffice, AddStaff, AddClient, SetDay, AddCharge}
use Rattle.mf_model.specs.declared.commit.Commit.TheVariants.{AddProduct, RetireProduct, AddLoan, SetStage, AddEntry}
use Rattle.mf_model.specs.declared.commit.Commit.TheVariants.{ReverseEntry}
use Rattle.mf_model.specs.Institution.{Institution, Catalogue, ListedCharge, Ledger, ListedProduct, Office, Rows, Staff}
use Rattle.mf_model.specs.Institution.{item_numbered, product_in, product_of, office_at, with_rows, with_office}
use Rattle.mf_model.specs.Institution.{new_office, after, Catalogue_becomes, Rows_become, no_rows}
use Rattle.mf_model.specs.Catalogue.{charge_added, day_set, product_added, product_retired}
use Rattle.mf_model.specs.Desk.{staff_added, client_added, loan_added}
use Rattle.mf_account.specs.Change.{KeptAccount}
use Rattle.mf_model.specs.Loans.{loan_changed, with_stage, with_entries}
use Rattle.mf_model.specs.Store.{after_commit, rows_of, rows_at, counts_at, catalogue_counts, role_of}
use Rattle.mf_model.specs.Sound.{IsSound}
use Rattle.mf_model.specs.Tree.{is_there, parent_of}
use Rattle.mf_model.proofs.Confined.{others_stay, old_stay}
use Rattle.mf_model.proofs.Growing.{length_with, numbered_push, numbered_with, terms_charge, terms_push, terms_with}
use Rattle.mf_model.proofs.Offices.{is_there_with_rows}
use Rattle.mf_store_schema.specs.declared.offices.OfficeRow.{OfficeRow}
use Rattle.mf_store_schema.specs.Rows.{is_row_of_office}
use Rattle.mf_store_values.specs.Flat.{key_at, office_under}
use Rattle.mf_store.specs.Facts.{account_key, same_key}
use Rattle.mf_store.specs.Learning.{Tells, account_stays, catalogue_told, counts_told, day_told, products_stay}
use Rattle.mf_store.specs.declared.known.News.{News}
use Rattle.mf_store.specs.declared.known.News.TheVariants.{Nothing, OfficeCounts, BusinessDay, Retirement}
use Rattle.mf_store.specs.declared.known.News.TheVariants as news
use Rattle.mf_store_commits.proofs.AccountCommitLemmas.{TermsStand}
use Rattle.mf_store_commits.proofs.CommitLemmas.{none_there, number_at, offices-with_rows, office_key_kept}
use Rattle.mf_store.proofs.AccountLemmas.{account_kept, others_numbered}
use Rattle.mf_store.proofs.CatalogueLemmas.{mapped, none_numbered}
use Rattle.mf_store.specs.Looks.{office_by_number}
use Rattle.mf_store_values.proofs.SoundLemmas.{own_rows}

abbrev counts_in : Rows → Counts
counts_in rows = record { staff = length rows.staff; clients = length rows.clients; loans = length rows.loans }

one_more : {A : Type 0} (xs : List A) (x : A) → length xs + 1 ≡ length (xs ++ x ∷ [])
one_more xs x = grind (arith, length-append xs (x ∷ []))

-- what holds of the rows of an office holds after those of one office became others
rows_after : (x : ℕ) (new : Rows) (i : Institution) (y : ℕ) (P : Rows → Type 0) → P (rows_at y i) → (x ≡ y → P new)
    → P (rows_at y (after (Rows_become x new) i))
rows_after x new i y P was is = go (x == y) refl
  where
    at : Institution
    at = after (Rows_become x new) i

    own : (b : Bool) → is_there i.offices x ≡ b → x ≡ y → P (rows_at x at)
    own true there same = subst P (sym (own_rows x new i.offices there)) (is same)
    own false there same = subst P (sym (ap rows_of (none_there (office_at x (with_rows x new i.offices))
        (is_there_with_rows x new i.offices x ∙ there)) ∙ sym (ap rows_of (none_there (office_at x i.offices) there))))
        (subst (λ z. P (rows_at z i)) (sym same) was)

    go : (b : Bool) → (x == y) ≡ b → P (rows_at y at)
    go true h = let same : x ≡ y = grind (arith, nat_tests) in
        subst (λ z. P (rows_at z at)) same (own (is_there i.offices x) refl same)
    go false h = let ne : y ≢ x = grind (arith, nat_tests) in
        subst P (sym (ap rows_of (others_stay x y new i.offices ne))) was

-- a caller's role, by their office's rows
role_in : Rows → ℕ → Option Role
role_in rows n = option_map (λ (s : Staff). s.role) (item_numbered rows.staff n)

role_numbered : (c : Caller) (i : Institution) → role_of c i ≡ role_in (rows_at c.office i) c.staff
unfolding role_in
role_numbered c i = go (office_at c.office i.offices)
  where
    go : (o : Option Office) → option_map (λ (s : Staff). s.role)
        (elim o [ None ↦ None | Some f ↦ item_numbered f.rows.staff c.staff ]) ≡ option_map (λ (s : Staff). s.role)
        (item_numbered (rows_of o).staff c.staff)
    go None = sym (ap (option_map (λ (s : Staff). s.role)) (none_numbered c.staff))
    go (Some f) = refl

roles_kept : (x : ℕ) (new : Rows) (i : Institution) → ((n : ℕ) (s : Staff) → item_numbered (rows_at x i).staff n
    ≡ Some s → item_numbered new.staff n ≡ Some s) → (c : Caller) (r : Role) → role_of c i ≡ Some r
    → role_of c (after (Rows_become x new) i) ≡ Some r
unfolding role_in
roles_kept x new i keeps c r h = role_numbered c (after (Rows_become x new) i)
    ∙ rows_after x new i c.office (λ rows. role_in rows c.staff ≡ Some r) was found
  where
    was : role_in (rows_at c.office i) c.staff ≡ Some r
    was = sym (role_numbered c i) ∙ h

    found : x ≡ c.office → role_in new c.staff ≡ Some r
    found same =
        let of = mapped (λ (s : Staff). s.role) (item_numbered (rows_at x i).staff c.staff) r
        (ap (λ z. role_in (rows_at z i) c.staff) same ∙ was) in
        ap (option_map (λ (s : Staff). s.role)) (keeps c.staff of.0 of.1) ∙ ap Some (sym of.2)

-- an office's key, by the rows of the offices
key_in : ℕ → List OfficeRow → Option (List ℕ)
key_in x rows = option_map (λ (r : OfficeRow). r.hkey) (find (is_row_of_office x) rows)

key_by_rows : (x : ℕ) (i : Institution) → key_at x i ≡ key_in x (map (office_under (parent_of i.offices)) i.offices)
unfolding key_in
key_by_rows x i = go (office_at x i.offices) ∙ sym (ap (option_map (λ (r : OfficeRow). r.hkey))
    (office_by_number x (parent_of i.offices) i.offices))
  where
    go : (o : Option Office) → option_map (λ (f : Office). key_of (parent_of i.offices) f.number) o
        ≡ option_map (λ (r : OfficeRow). r.hkey) (option_map (office_under (parent_of i.offices)) o)
    go None = refl
    go (Some f) = refl

keys_kept : (x : ℕ) (new : Rows) (i : Institution) (y : ℕ) (k : List ℕ) → key_at y i ≡ Some k
    → key_at y (after (Rows_become x new) i) ≡ Some k
keys_kept x new i y k h = key_by_rows y (after (Rows_become x new) i)
    ∙ sym (ap (key_in y) (offices-with_rows x new i.offices)) ∙ sym (key_by_rows y i) ∙ h

-- the rows of an office become others
rows_tell : (n : News) (x : ℕ) (new : Rows) (i : Institution) → ((y : ℕ)
    → counts_at y (after (Rows_become x new) i) ≡ counts_told n y (counts_at y i)) → catalogue_counts i
    ≡ catalogue_told n (catalogue_counts i) → i.catalogue.day ≡ day_told n i.catalogue.day → ((m : ℕ) (s : Staff)
    → item_numbered (rows_at x i).staff m ≡ Some s → item_numbered new.staff m ≡ Some s) → ((m : ℕ) (l : Ledger)
    → account_stays n (record { office = x; number = m }) ≡ true → item_numbered (rows_at x i).loans m ≡ Some l
    → item_numbered new.loans m ≡ Some l) → Tells n i (after (Rows_become x new) i)
rows_tell n x new i counts catalogue day keeps loans = record {
  counts = counts;
  catalogue = catalogue;
  day = day;
  roles = roles_kept x new i keeps;
  keys = keys_kept x new i;
  products = λ t m p h. h;
  accounts = λ a account t. account_kept a i (after (Rows_become x new) i) (λ m t h. h) (λ l h. rows_after x new i
      a.office (λ rows. item_numbered rows.loans a.number ≡ Some l) h (λ same. loans a.number l
      (subst (λ z. account_stays n (record { office = z; number = a.number }) ≡ true) (sym same) t)
      (ap (λ z. item_numbered (rows_at z i).loans a.number) same ∙ h))) account;
  journal = refl;
}

-- those of an office that is there become so many
counts_tell : (a x : ℕ) (new : Rows) (k : Counts) (i : Institution) → a ≡ x → is_there i.offices x ≡ true
    → k ≡ counts_in new → ((n : ℕ) (s : Staff) → item_numbered (rows_at x i).staff n ≡ Some s
    → item_numbered new.staff n ≡ Some s)
    → ((n : ℕ) (l : Ledger) → item_numbered (rows_at x i).loans n ≡ Some l → item_numbered new.loans n ≡ Some l)
    → Tells (OfficeCounts a k) i (after (Rows_become x new) i)
counts_tell a x new k i e there is keeps loans =
    rows_tell (OfficeCounts a k) x new i (λ y. go y (a == y) refl) refl refl keeps (λ m l t. loans m l)
  where
    go : (y : ℕ) (b : Bool) → (a == y) ≡ b → counts_in (rows_of (office_at y (with_rows x new i.offices)))
        ≡ cond b k (counts_at y i)
    go y true h =
        let same : x ≡ y = grind (arith, nat_tests) in
        ap (λ z. counts_in (rows_of (office_at z (with_rows x new i.offices)))) (sym same)
        ∙ ap counts_in (own_rows x new i.offices there) ∙ sym is
    go y false h = let ne : y ≢ x =
        grind (arith, nat_tests) in ap (λ o. counts_in (rows_of o)) (others_stay x y new i.offices ne)

-- a loan becomes another
loan_tell : (loan : Account) (change : Ledger → Ledger) (i : Institution) → Tells (news.Account loan) i
    (after (Rows_become loan.office (loan_changed loan.number change (rows_at loan.office i))) i)
loan_tell loan change i = rows_tell (news.Account loan) loan.office new i (λ y. rows_after loan.office new i y (λ rows.
    counts_in rows ≡ counts_at y i) refl (λ same. (λ t. record (counts_in (rows_at loan.office i)) {
      loans = length_with loan.number change (rows_at loan.office i).loans t;
    }) ∙ ap (λ z. counts_at z i) same)) refl refl (λ n s h. h) (λ m l t h. others_numbered loan.number m change
    (rows_at loan.office i).loans l h (another m t))
  where
    new : Rows
    new = loan_changed loan.number change (rows_at loan.office i)

    another : (m : ℕ) → not (same_key (account_key loan) (loan.office, m)) ≡ true → m ≢ loan.number
    another m t e =
        let is : same_key (account_key loan) (loan.office, m) ≡ true = grind (arith, nat_tests) in
        true≢false (sym t ∙ ap not is)

pub staff_tells : (a x : ℕ) (name : List ℕ) (role : Role) (i : Institution) (k : Counts) → a ≡ x → is_there i.offices x
    ≡ true → k ≡ counts_at a i
    → Tells (OfficeCounts a (record { staff = k.staff + 1; clients = k.clients; loans = k.loans })) i
    (after_commit (AddStaff x name role) i)
staff_tells a x name role i k e there is =
    let was = is ∙ ap (λ y. counts_at y i) e in
    let member : Staff = record { name = name; role = role } in
    counts_tell a x (staff_added name role (rows_at x i)) _ i e there
    (λ t. record {
      staff = (ap (λ (c : Counts). c.staff + 1) was ∙ one_more (rows_at x i).staff member) t;
      clients = (was t).clients;
      loans = (was t).loans;
    })
    (λ n s h. numbered_push (rows_at x i).staff member n s h) (λ n l h. h)

pub client_tells : (a x : ℕ) (name : List ℕ) (i : Institution) (k : Counts) → a ≡ x → is_there i.offices x ≡ true
    → k ≡ counts_at a i
    → Tells (OfficeCounts a (record { staff = k.staff; clients = k.clients + 1; loans = k.loans })) i
    (after_commit (AddClient x name) i)
client_tells a x name i k e there is =
    let was = is ∙ ap (λ y. counts_at y i) e in
    counts_tell a x (client_added name (rows_at x i)) _ i e there
    (λ t. record {
      staff = (was t).staff;
      clients = (ap (λ (c : Counts). c.clients + 1) was ∙ one_more (rows_at x i).clients name) t;
      loans = (was t).loans;
    })
    (λ n s h. h) (λ n l h. h)

pub loan_tells : (a x : ℕ) (l : Loan) (i : Institution) (k : Counts) → a ≡ x → is_there i.offices x ≡ true
    → k ≡ counts_at a i
    → Tells (OfficeCounts a (record { staff = k.staff; clients = k.clients; loans = k.loans + 1 })) i
    (after_commit (AddLoan x l) i)
loan_tells a x l i k e there is =
    let was = is ∙ ap (λ y. counts_at y i) e in
    let lent : Ledger = record { loan = l; entries = [] } in
    counts_tell a x (loan_added l (rows_at x i)) _ i e there
    (λ t. record {
      staff = (was t).staff;
      clients = (was t).clients;
      loans = (ap (λ (c : Counts). c.loans + 1) was ∙ one_more (rows_at x i).loans lent) t;
    })
    (λ n s h. h) (λ n a h. numbered_push (rows_at x i).loans lent n a h)

pub stage_tells : (loan : Account) (stage : Stage) (i : Institution)
    → Tells (news.Account loan) i (after_commit (SetStage loan stage) i)
stage_tells loan stage i = loan_tell loan (with_stage stage) i

pub entry_tells : (loan : Account) (account : KeptAccount) (i : Institution)
    → Tells (news.Account loan) i (after_commit (AddEntry loan account) i)
entry_tells loan account i = loan_tell loan (with_entries account.loan.entries) i

-- a reversal changes the same rows
pub reversal_tells : (loan : Account) (seq : ℕ) (account : KeptAccount) (i : Institution)
    → Tells (news.Account loan) i (after_commit (ReverseEntry loan seq account) i)
reversal_tells loan seq account i = entry_tells loan account i

-- a new office has no rows, so that those of each office stay
rows_with : (new : Office) (y : ℕ) (fs : List Office) → office_at new.number fs ≡ None → new.rows ≡ no_rows
    → rows_of (office_at y (with_office new fs)) ≡ rows_of (office_at y fs)
rows_with new y [] none is = grind (arith, nat_tests, is)
rows_with new y (f ∷ fs) none is = grind (arith, nat_tests, is, rows_with new y fs)

pub office_tells : (x parent : ℕ) (name : List ℕ) (i : Institution) → IsSound i → office_at x i.offices ≡ None
    → Tells Nothing i (after_commit (AddOffice x parent name) i)
office_tells x parent name i sound none = record {
  counts = λ y. ap counts_in (rows y);
  catalogue = refl;
  day = refl;
  roles = λ c r h. role_numbered c at ∙ ap (λ rs. role_in rs c.staff) (rows c.office) ∙ sym (role_numbered c i) ∙ h;
  keys = keys;
  products = λ t n p h. h;
  accounts = λ a account t. account_kept a i at (λ n t h. h) (λ l h. ap (λ (rs : Rows). item_numbered rs.loans a.number)
      (rows a.office) ∙ h) account;
  journal = refl;
}
  where
    new : Office
    new = new_office x parent name

    at : Institution
    at = after_commit (AddOffice x parent name) i

    rows : (y : ℕ) → rows_at y at ≡ rows_at y i
    rows y = rows_with new y i.offices none refl

    keys : (y : ℕ) (k : List ℕ) → key_at y i ≡ Some k → key_at y at ≡ Some k
    keys y k h =
        let of = mapped (λ (f : Office). key_of ps f.number) (office_at y i.offices) k h in
        let number : of.0.number ≡ y = number_at y i.offices of.0 of.1 in
        let there : is_there i.offices y ≡ true = ap is_some of.1 in
        let ne : y ≢ x = λ same. true≢false (sym there ∙ ap (λ z. is_some (office_at z i.offices)) same
        ∙ ap is_some none) in
        ap (option_map (λ (f : Office). key_of qs f.number)) (old_stay new y i.offices ne ∙ of.1)
        ∙ ap (λ z. Some (key_of qs z)) number ∙ ap Some (office_key_kept x parent name i sound none y there)
        ∙ ap (λ z. Some (key_of ps z)) (sym number) ∙ ap Some (sym of.2)
      where
        ps : ℕ → Option ℕ
        ps = parent_of i.offices

        qs : ℕ → Option ℕ
        qs = parent_of (with_office new i.offices)

-- the catalogue becomes another
catalogue_tell : (n : News) (k : Catalogue) (i : Institution) → ((y : ℕ) → counts_at y i ≡ counts_told n y
    (counts_at y i)) → catalogue_counts (after (Catalogue_becomes k) i) ≡ catalogue_told n (catalogue_counts i) → k.day
    ≡ day_told n i.catalogue.day → (products_stay n ≡ true → (m : ℕ) (p : Product) → product_in i.catalogue m ≡ Some p
    → product_in k m ≡ Some p) → TermsStand i.catalogue k → Tells n i (after (Catalogue_becomes k) i)
catalogue_tell n k i counts catalogue day products stand = record {
  counts = counts;
  catalogue = catalogue;
  day = day;
  roles = λ c r h. h;
  keys = λ x l h. h;
  products = products;
  accounts = λ a account t. account_kept a i (after (Catalogue_becomes k) i) stand (λ l h. h) account;
  journal = refl;
}

pub charge_tells : (c : ListedCharge) (i : Institution) (k : CatalogueCounts) → IsSound i → k ≡ catalogue_counts i
    → Tells (news.Catalogue (record { charges = k.charges + 1; products = k.products })) i
    (after_commit (AddCharge c.name c.kind c.calc c.value) i)
charge_tells c i k sound is = catalogue_tell _ (charge_added c i.catalogue) i (λ y. refl)
    (sym (λ t. record {
      charges = (ap (λ (k : CatalogueCounts). k.charges + 1) is ∙ one_more i.catalogue.charges c) t;
      products = (is t).products;
    })) refl (λ t n p h. h) (λ n t. terms_charge i.catalogue c n t sound.catalogue.products)

product_stays : (products : List ListedProduct) (new : ListedProduct) (n : ℕ) (p : Product) → option_map (product_of n)
    (item_numbered products n) ≡ Some p → option_map (product_of n) (item_numbered (products ++ new ∷ []) n) ≡ Some p
product_stays products new n p h = let of = mapped (product_of n) (item_numbered products n) p h in
    ap (option_map (product_of n)) (numbered_push products new n of.0 of.1) ∙ ap Some (sym of.2)

pub product_tells : (members : ProductMembers) (i : Institution) (k : CatalogueCounts) → k ≡ catalogue_counts i
    → Tells (news.Catalogue (record { charges = k.charges; products = k.products + 1 })) i (after_commit
    (AddProduct members)
    i)
product_tells members i k is =
    let new : ListedProduct = record { members = members; retired = false } in
    catalogue_tell _ (product_added members i.catalogue) i (λ y. refl)
    (sym (λ t. record {
      charges = (is t).charges;
      products = (ap (λ (k : CatalogueCounts). k.products + 1) is ∙ one_more i.catalogue.products new) t;
    })) refl (λ t. product_stays i.catalogue.products new) (terms_push i.catalogue new)

pub retired_tells : (n : ℕ) (i : Institution) → Tells Retirement i (after_commit (RetireProduct n) i)
retired_tells n i =
    let retire = λ (p : ListedProduct). record p { retired = true } in
    catalogue_tell Retirement (product_retired n i.catalogue) i (λ y. refl)
    (λ t. record {
      charges = length i.catalogue.charges;
      products = length_with n retire i.catalogue.products t;
    }) refl (λ t. absurd (true≢false (sym t)))
    (λ m t. terms_with i.catalogue (product_retired n i.catalogue).products m t
    (numbered_with (λ (p : ListedProduct). p.members) n retire i.catalogue.products (λ p. refl) m))

pub day_tells : (day : ℕ) (i : Institution) → Tells (BusinessDay day) i (after_commit (SetDay day) i)
day_tells day i = catalogue_tell (BusinessDay day) (day_set day i.catalogue) i (λ y. refl) refl refl (λ t n p h. h)
    (λ n t h. h)
