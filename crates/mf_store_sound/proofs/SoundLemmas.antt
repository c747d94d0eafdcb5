-- The parts of a sound institution's rows, apart and together.
use Rattle.std.proofs.Common.{◌≡◌, ◌↔◌, ◌<◌, ◌≤◌, ◌+◌, ◌∙◌, ℕ, true, false, cond, List, [], ◌∷◌, map}
use Rattle.std.proofs.Common.{length, Option, Some, None, refl, sym, ap, subst, arith, ◌==◌}
use Rattle.std.specs.List.{AllByRecursion, list_all}
use Rattle.std.specs.Option.{is_some}
use Rattle.sqlite_keyed.proofs.ListLemmas.{all_weaker, all_both, all_map, all_unmap, all-append, all-flat_map}
use Rattle.sqlite_keyed.proofs.ListLemmas.{all_from_test, test_from_all, ascending-map, ascending_from_map, map-map}
use Rattle.sqlite_keyed.specs.Lists.{sort_by}
use Rattle.mf_base.specs.DayText.{last_entered_day}
use Rattle.mf_office.specs.Numbers.{IsNumberUpTo}
use Rattle.mf_office.specs.Texts.{IsCaller}
use Rattle.mf_office.specs.Tree.{is_at_or_below}
use Rattle.mf_office.specs.Written.{caller_text}
use Rattle.mf_office.specs.declared.caller.Caller.{Caller}
use Rattle.mf_office.proofs.ReadLemmas.{caller_of-text}
use Rattle.mf_account.specs.declared.entry.Entry.{Entry}
use Rattle.mf_model.specs.Institution.{Catalogue, Ledger, Office, charge_in, office_at}
use Rattle.mf_model.specs.Sound.{IsName, IsSoundCatalogue, IsSoundCharge, IsSoundOffer, IsSoundOffice}
use Rattle.mf_model.specs.Sound.{IsSoundLoan, AreEntriesBy, is_staff}
use Rattle.mf_model.specs.Stages.{disbursed_on}
use Rattle.mf_model.specs.Tree.{Ascending, IsTree, parent_of, is_there}
use Rattle.mf_model.proofs.StaffLemmas.{staff_are_callers}
use Rattle.mf_store_schema.specs.Rows.{Lists, by_receipt, AreReceiptsInOrder}
use Rattle.mf_store_schema.specs.declared.entries.EntryRow.{EntryRow}
use Rattle.mf_store_schema.specs.declared.offices.OfficeRow.{OfficeRow}
use Rattle.mf_store_values.specs.Accounts.{all_placed, AreLoansOf}
use Rattle.mf_store_sound.specs.Callers.{is_named_staff, is_by_staff}
use Rattle.mf_store_values.specs.Flat.{charge_as, product_as, office_under, numbered_from, all_rows, staff_in}
use Rattle.mf_store_values.specs.Flat.{entry_in, own_entries, rows_of_loans, entry_rows}
use Rattle.mf_store_sound.specs.Offices.{IsNumberedAndNamed, AreOffices}
use Rattle.mf_store_values.specs.Parts.{office_of, bare}
use Rattle.mf_store_values.proofs.PartLemmas.{heads_of}
use Rattle.mf_store_values.specs.ReceiptRows.{carried_by, receipt_rows, AreReceiptsOf}
use Rattle.mf_store_values.specs.Ledgers.{AreEntriesIn, IsPlainLoan}
use Rattle.mf_store_values.proofs.ReceiptLemmas.{AreAllApart, receipts_apart}
use Rattle.mf_store_sound.specs.Schemas.{meta_under}
use Rattle.mf_store_sound.specs.Sound.{IsPlainRows, AreOfficeParts, AreUnder}
use Rattle.mf_store_sound.specs.Stored.{IsRowOf, AllFrom}
use Rattle.mf_store_sound.proofs.AllLoanLemmas.{all_rows_of, all_loan_rows, all_apart, all_plain}
use Rattle.mf_store_sound.proofs.ReceiptLemmas.{carried_is, in_order_apart, apart_in_order}
use Rattle.mf_store_sound.proofs.StoredLemmas.{all_parts, values_of, rows_of}

-- ---- who is there

module _ (fs : List Office) where
  abbrev Names : EntryRow → Type 0
  Names r = is_by_staff fs r ≡ true

  named_is : (x m : ℕ) (e : Entry) → IsCaller e.staff → is_by_staff fs (entry_in x m e) ≡ is_staff fs e.staff
  named_is x m e caller =
      ap (is_named_staff fs) (caller_of-text (caller_text e.staff.office e.staff.staff) e.staff caller refl)

  module _ (k : Catalogue) where
    -- entries that are right, whose rows name members of staff
    sound_entries : (x m n : ℕ) (o : Option ℕ) (es : List Entry) → AreEntriesIn k.day n o es
        → AllByRecursion Names (map (entry_in x m) es) → AreEntriesBy k.day (is_staff fs) n o es
    sound_entries x m n None es are named = are
    sound_entries x m n (Some day) es are named = record {
      lawful = are.0;
      each = all_both _ _ _ (λ e h is. record {
        day = h.entered;
        staff = sym (named_is x m e h.readable.1) ∙ is;
        receipt = h.receipt;
      }) es are.1 (all_unmap Names (entry_in x m) es named);
    }

    sound_loans : (clients : List (List ℕ)) (x m : ℕ) (ls : List Ledger) → AllByRecursion (IsPlainLoan k clients) ls
        → AllByRecursion Names (rows_of_loans entry_in own_entries x m ls)
        → AllByRecursion (IsSoundLoan k (is_staff fs) clients) ls
    sound_loans clients x m [] plain named = tt
    sound_loans clients x m (l ∷ ls) plain named =
        let both = all_parts Names (map (entry_in x m) l.entries) _ named in (
          record {
            client = plain.0.own.client;
            product = plain.0.own.product;
            stage = plain.0.own.stage;
            entries = sound_entries x m l.loan.periods (disbursed_on l.loan.stage) l.entries plain.0.entries both.0;
          },
          sound_loans clients x (m + 1) ls plain.1 both.1,
        )

    abbrev ArePlain : List Office → Type 0
    ArePlain gs = AllByRecursion (λ (f : Office). IsPlainRows k f.rows) gs

    abbrev HasHead : Office → Type 0
    HasHead f = IsNumberUpTo 9999 f.number × IsName f.name

    sound_offices : (gs : List Office) → AllByRecursion HasHead gs → ArePlain gs → AllByRecursion Names (entry_rows gs)
        → AreAllApart gs → AllByRecursion (IsSoundOffice k (is_staff fs)) gs
    sound_offices [] heads plain named apart = tt
    sound_offices (f ∷ gs) heads plain named apart =
        let both = all_parts Names (rows_of_loans entry_in own_entries f.number 1 f.rows.loans) (entry_rows gs) named in
        let p = plain.0 in (
          record {
            number = heads.0.0;
            name = heads.0.1;
            rows = record {
              staff_limit = p.staff_limit;
              staff_names = p.staff_names;
              client_limit = p.client_limit;
              client_names = p.client_names;
              loan_limit = p.loan_limit;
              loans = sound_loans f.rows.clients f.number 1 f.rows.loans p.loans both.0;
              receipts = apart.0;
            };
          },
          sound_offices gs heads.1 plain.1 both.1 apart.1,
        )

    -- and back
    module _ (late : k.day ≤ last_entered_day) (sound : AllByRecursion (IsSoundOffice k (is_staff fs)) fs) where
      callers : (c : Caller) → is_staff fs c ≡ true → IsCaller c
      callers = staff_are_callers k (is_staff fs) fs sound

      named_entries : (x m n : ℕ) (o : Option ℕ) (es : List Entry) → AreEntriesBy k.day (is_staff fs) n o es
          → AllByRecursion Names (map (entry_in x m) es)
      named_entries x m n None es are = subst (λ es. AllByRecursion Names (map (entry_in x m) es)) (sym are) tt
      named_entries x m n (Some day) es are = all_map Names (entry_in x m) es (all_weaker _ _
          (λ e by. named_is x m e (callers e.staff by.staff) ∙ by.staff) es are.each)

      named_loans : (clients : List (List ℕ)) (x m : ℕ) (ls : List Ledger)
          → AllByRecursion (IsSoundLoan k (is_staff fs) clients) ls
          → AllByRecursion Names (rows_of_loans entry_in own_entries x m ls)
      named_loans clients x m [] sound = tt
      named_loans clients x m (l ∷ ls) sound = all-append Names _ _
          (named_entries x m l.loan.periods (disbursed_on l.loan.stage) l.entries sound.0.entries)
          (named_loans clients x (m + 1) ls sound.1)

      named_offices : AllByRecursion Names (entry_rows fs)
      named_offices =
          all-flat_map Names _ fs (all_weaker _ _ (λ f s. named_loans f.rows.clients f.number 1 f.rows.loans
          s.rows.loans) fs sound)

      plain_entries : (n : ℕ) (o : Option ℕ) (es : List Entry) → AreEntriesBy k.day (is_staff fs) n o es
          → AreEntriesIn k.day n o es
      plain_entries n None es are = are
      plain_entries n (Some day) es are = (
        are.lawful,
        all_weaker _ _ (λ e by. record {
          readable = ((let on = by.day in omega (arith, on, late)), callers e.staff by.staff);
          entered = by.day;
          receipt = by.receipt;
        }) es are.each,
      )

      plain_offices : ArePlain fs
      plain_offices =
          all_weaker _ _ (λ f s. record {
            staff_limit = s.rows.staff_limit;
            staff_names = s.rows.staff_names;
            client_limit = s.rows.client_limit;
            client_names = s.rows.client_names;
            loan_limit = s.rows.loan_limit;
            loans = all_weaker _ _ (λ l h. record {
              own = record { client = h.client; product = h.product; stage = h.stage };
              entries = plain_entries l.loan.periods (disbursed_on l.loan.stage) l.entries h.entries;
            }) f.rows.loans s.rows.loans;
          }) fs sound

-- ---- offices and their own rows

bare_parent : (fs : List Office) (x : ℕ) → parent_of (map bare fs) x ≡ parent_of fs x
bare_parent [] x = refl
bare_parent (f ∷ fs) x = ap (cond (f.number == x) f.parent) (bare_parent fs x)

bare_there : (fs : List Office) (x : ℕ) → is_there (map bare fs) x ≡ is_there fs x
bare_there [] x = refl
bare_there (f ∷ fs) x =
    elim (f.number == x) as (λ b. is_some (cond b (Some (bare f)) (office_at x (map bare fs)))
    ≡ is_some (cond b (Some f) (office_at x fs))) [ true ↦ refl | false ↦ bare_there fs x ]

-- two lists of offices with the same numbers and parents are trees alike
same_tree : (fs gs : List Office) → (Ascending fs → Ascending gs) → ((x : ℕ) → parent_of fs x ≡ parent_of gs x)
    → ((x : ℕ) → is_there fs x ≡ is_there gs x) → IsTree fs → IsTree gs
same_tree fs gs rises parent there h = record {
  ascending = rises h.ascending;
  head = sym (parent 1) ∙ h.head;
  head_there = sym (there 1) ∙ h.head_there;
  parents_there = λ x p e. sym (there p) ∙ h.parents_there x p (parent x ∙ e);
  all_below = λ x e. (λ t. is_at_or_below (λ y. sym (parent y) t) x 1) ∙ h.all_below x (there x ∙ e);
}

-- the rows that the parents give, by the rows' own parents
own_rows : (fs : List Office) (rows : List OfficeRow) → map bare fs ≡ map office_of rows
    → map (office_under (parent_of (map office_of rows))) (map office_of rows) ≡ map (office_under (parent_of fs)) fs
own_rows fs rows theirs =
    (λ t. map (office_under (parent_of (sym theirs t))) (sym theirs t))
    ∙ (λ t. map (office_under (λ x. bare_parent fs x t)) (map bare fs))
    ∙ map-map (office_under (parent_of fs)) bare fs

-- ---- apart

module _ (schema : ℕ) (t : Lists) (h : AreUnder schema t) where
  abbrev k : Catalogue
  k = h.institution.catalogue

  abbrev fs : List Office
  fs = h.institution.offices

  pub charges_are : numbered_from charge_as 1 k.charges ≡ t.charges
  charges_are = ap (λ (l : Lists). l.charges) h.rows_are

  pub charges_part : (length t.charges ≤ 999) × AllFrom (IsRowOf charge_as IsSoundCharge) 1 t.charges
  charges_part = rows_of charge_as IsSoundCharge 999 k.charges t.charges h.sound.catalogue.charge_limit
      h.sound.catalogue.charges charges_are

  pub products_are : numbered_from product_as 1 k.products ≡ t.products
  products_are = ap (λ (l : Lists). l.products) h.rows_are

  pub products_part : (length t.products ≤ 999)
      × AllFrom (IsRowOf product_as (IsSoundOffer (charge_in k))) 1 t.products
  products_part = rows_of product_as (IsSoundOffer (charge_in k)) 999 k.products t.products
      h.sound.catalogue.product_limit h.sound.catalogue.products products_are

  offices_are : map (office_under (parent_of fs)) fs ≡ t.offices
  offices_are = ap (λ (l : Lists). l.offices) h.rows_are

  theirs : map bare fs ≡ map office_of t.offices
  theirs = sym (heads_of (parent_of fs) fs) ∙ ap (map office_of) offices_are

  pub offices_part : AreOffices t.offices
  offices_part = record {
    each = subst (AllByRecursion IsNumberedAndNamed) offices_are (all_map _ (office_under (parent_of fs)) fs
        (all_weaker _ _ (λ f s. record { number = s.number; name = s.name }) fs h.sound.each));
    tree = subst IsTree theirs (same_tree fs (map bare fs)
        (ascending-map (λ (f g : Office). f.number < g.number) bare fs) (λ x. sym (bare_parent fs x))
        (λ x. sym (bare_there fs x)) h.sound.tree);
    keys = own_rows fs t.offices theirs ∙ offices_are;
  }

  pub staff_are : all_rows staff_in (λ own. own.staff) fs ≡ t.staff
  staff_are = ap (λ (l : Lists). l.staff) h.rows_are

  entries_are : entry_rows fs ≡ t.entries
  entries_are = ap (λ (l : Lists). l.entries) h.rows_are

  pub offices_parts : AreOfficeParts k t.offices t.staff t.clients t.loans t.entries
  offices_parts = record {
    offices = fs;
    theirs = theirs;
    plain = plain_offices fs k h.sound.catalogue.day h.sound.each;
    staff_are = staff_are;
    clients_are = ap (λ (l : Lists). l.clients) h.rows_are;
    loans_are = ap (λ (l : Lists). l.loans) h.rows_are;
    entries_are = entries_are;
  }

  pub callers_part : list_all (is_by_staff fs) t.entries ≡ true
  callers_part = test_from_all (is_by_staff fs) t.entries (subst (AllByRecursion (Names fs)) entries_are
      (named_offices fs k h.sound.catalogue.day h.sound.each))

  pub receipts_part : AreReceiptsOf t.receipts t.entries
  receipts_part =
      let rows = ap (λ (l : Lists). l.receipts) h.rows_are in
      record {
        in_order = subst AreReceiptsInOrder rows (in_order_apart fs h.sound.tree.ascending
            (receipts_apart h.institution h.sound));
        rows_are = (λ z. sort_by by_receipt (carried_by (sym entries_are z)))
            ∙ (λ z. sort_by by_receipt (sym (carried_is fs) z)) ∙ rows;
      }

-- ---- together

all_of : (schema : ℕ) (t : Lists) (k : Catalogue) → IsSoundCatalogue k → meta_under schema k.day ∷ [] ≡ t.meta
    → numbered_from charge_as 1 k.charges ≡ t.charges → numbered_from product_as 1 k.products ≡ t.products
    → AreOffices t.offices → (s : AreOfficeParts k t.offices t.staff t.clients t.loans t.entries) → IsTree s.offices
    → list_all (is_by_staff s.offices) t.entries ≡ true → AreReceiptsOf t.receipts t.entries → AreUnder schema t
all_of schema t k catalogue meta charges products o s tree named r =
    let fs = s.offices in
    let receipts : receipt_rows s.offices ≡ t.receipts = (λ z. sort_by by_receipt (carried_is s.offices z))
    ∙ (λ z. sort_by by_receipt (carried_by (s.entries_are z))) ∙ r.rows_are in
    record {
      institution = record { catalogue = k; offices = fs; journal = None };
      sound = record {
        catalogue = catalogue;
        tree = tree;
        each = sound_offices fs k fs
            (all_unmap (HasHead fs k) bare fs (subst (AllByRecursion (HasHead fs k)) (sym s.theirs)
            (all_map _ office_of t.offices (all_weaker _ _ (λ q own. (own.number, own.name)) t.offices o.each))))
            s.plain
            (subst (AllByRecursion (Names fs)) (sym s.entries_are) (all_from_test (is_by_staff fs) t.entries named))
            (apart_in_order fs (subst AreReceiptsInOrder (sym receipts) r.in_order));
      };
      rows_are = λ z. record {
        meta = meta z;
        offices = (sym (own_rows fs t.offices s.theirs) ∙ o.keys) z;
        staff = s.staff_are z;
        clients = s.clients_are z;
        charges = charges z;
        products = products z;
        loans = s.loans_are z;
        entries = s.entries_are z;
        receipts = receipts z;
        instalments = [];
        shares = [];
        journal = [];
      };
    }

-- ---- decided

-- the business day of an institution whose rows these are
pub day_of : (schema : ℕ) (t : Lists) (day : ℕ) (h : AreUnder schema t) → ((d : ℕ) → d ≤ last_entered_day
    → meta_under schema d ∷ [] ≡ t.meta → Some day ≡ Some d) → h.institution.catalogue.day ≡ day
day_of schema t day h only = let one : Some day ≡ Some h.institution.catalogue.day = only h.institution.catalogue.day
    h.sound.catalogue.day (ap (λ (l : Lists). l.meta) h.rows_are) in let same : h.institution.catalogue.day
    ≡ day = cc in same

pub under_is : (schema : ℕ) (t : Lists) (day : ℕ) (B : Type 0) → day ≤ last_entered_day → meta_under schema day
    ∷ [] ≡ t.meta
    → (length t.charges ≤ 999) × AllFrom (IsRowOf charge_as IsSoundCharge) 1 t.charges
    → ((of : (k : Catalogue) × (numbered_from charge_as 1 k.charges ≡ t.charges)) → (length t.products ≤ 999)
    × AllFrom (IsRowOf product_as (IsSoundOffer (charge_in of.0))) 1 t.products)
    → AreOffices t.offices
    → ((k : Catalogue) → k.day ≡ day → numbered_from product_as 1 k.products ≡ t.products
    → Ascending (map office_of t.offices) → AreOfficeParts k t.offices t.staff t.clients t.loans t.entries)
    → ((fs : List Office) → Ascending fs → all_rows staff_in (λ own. own.staff) fs ≡ t.staff
    → list_all (is_by_staff fs) t.entries ≡ true)
    → (B ↔ AreReceiptsOf t.receipts t.entries)
    → B ↔ AreUnder schema t
unfolding offices_parts
under_is schema t day B entered meta c_all p o parts named r = (
  λ told.
      let c = values_of charge_as IsSoundCharge 999 t.charges c_all in
      let some : Catalogue = record { day = day; charges = c.values; products = [] } in
      let q = values_of product_as (IsSoundOffer (charge_in some)) 999 t.products (p (some, c.rows_are)) in
      let k : Catalogue = record { day = day; charges = c.values; products = q.values } in
      let s = parts k refl q.rows_are o.tree.ascending in
      let tree = same_tree (map bare s.offices) s.offices
      (ascending_from_map (λ (f g : Office). f.number < g.number) bare s.offices) (bare_parent s.offices)
      (bare_there s.offices) (subst IsTree (sym s.theirs) o.tree) in
      all_of schema t k (record {
        day = entered;
        charge_limit = c.few;
        charges = c.pass;
        product_limit = q.few;
        products = q.pass;
      }) meta c.rows_are q.rows_are o s tree (named s.offices tree.ascending s.staff_are) (r.0 told),
  λ h. r.1 (receipts_part schema t h),
)

-- the loans of an institution whose rows these are
pub loans_under : (schema : ℕ) (t : Lists) (u : AreUnder schema t) → AreLoansOf u.institution.catalogue t.loans
    t.entries (all_placed u.institution.offices)
unfolding offices_parts
loans_under schema t u =
    let s = offices_parts schema t u in
    record {
      apart = all_apart s.offices u.sound.tree.ascending;
      plain = all_plain u.institution.catalogue s.offices s.plain;
      rows_are = all_loan_rows s.offices ∙ s.loans_are;
      entries_are = all_rows_of entry_in own_entries s.offices ∙ s.entries_are;
    }
