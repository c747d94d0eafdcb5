-- Findings name rows: none says only that no sound institution has them.
use Rattle.std.proofs.Common.{◌≡◌, ◌≢◌, ◌==◌, ◌+◌, ℕ, Bool, true, false, List, [], ◌∷◌, map, length, Option}
use Rattle.std.proofs.Common.{Some, None, refl, sym, subst, ap, ◌∙◌}
use Rattle.std.specs.Prelude.{if◌then◌else◌}
use Rattle.std.specs.List.{AllByRecursion, Contains}
use Rattle.sqlite_keyed.proofs.ListLemmas.{all-append}
use Rattle.mf_base.specs.DayText.{last_entered_day}
use Rattle.mf_base.proofs.DayTextLemmas.{day_text-injective}
use Rattle.mf_store_schema.specs.Rows.{Lists}
use Rattle.mf_store_schema.specs.Versions.{number_of}
use Rattle.mf_store_schema.specs.declared.meta.MetaRow.{MetaRow}
use Rattle.mf_store_schema.specs.declared.offices.OfficeRow.{OfficeRow}
use Rattle.mf_store_schema.specs.declared.versions.Version.{Version}
use Rattle.mf_store_schema.specs.declared.versions.Version.TheVariants.{First, Second, Third}
use Rattle.mf_store_sound.specs.Held.{DoRise}
use Rattle.mf_store_sound.specs.Schemas.{lists_at, meta_under}
use Rattle.mf_store_sound.specs.Sound.{AreOfSoundAt, AreUnder}
use Rattle.mf_store_sound.proofs.OfficeTreeLemmas.{KeysLaw}
use Rattle.mf_store_audit.specs.Catalogue.{BreaksMeta, BreaksCharge, BreaksProduct}
use Rattle.mf_store_audit.specs.Entries.{BreaksEntry, BreaksReceipt}
use Rattle.mf_store_audit.specs.Findings.{AreDiffering, AreFindings, AreOfAccounts, AreOfRest, IsToday}
use Rattle.mf_store_audit.specs.Findings.{found_in_rows, or_unsound, told_of_head, told_of_meta}
use Rattle.mf_store_audit.specs.Kinds.{charge_flaws, client_flaws, entry_flaws, loan_flaws, meta_flaws, office_flaws}
use Rattle.mf_store_audit.specs.Kinds.{product_flaws, receipt_flaws, staff_flaws}
use Rattle.mf_store_audit.specs.Loans.{BreaksLoan}
use Rattle.mf_store_audit.specs.Offices.{is_office, BreaksClient, BreaksOffice, BreaksStaff}
use Rattle.mf_store_audit.specs.Places.{AreFound, AreInTurn, told_at}
use Rattle.mf_store_audit.specs.declared.finding.Finding.{Finding}
use Rattle.mf_store_audit.specs.declared.finding.Finding.TheVariants as finding
use Rattle.mf_audit_laws.proofs.AccountLemmas.{none_differ}
use Rattle.mf_audit_laws.proofs.MemberLemmas.{each_at}
use Rattle.mf_audit_laws.proofs.RowLemmas.{none_broken}

-- ---- what is told of rows names one

-- a finding names a row, or a table that lacks one
abbrev Names : Finding → Type 0
Names f = f ≢ finding.Unsound

module _ {F R : Type 0} (flaws : List F) (breaks : F → Option R → R → Type 0) (name : ℕ → F → Finding)
    (named : (place : ℕ) (flaw : F) → Names (name place flaw)) where
  one_named : (place : ℕ) (first : Option F) → AllByRecursion Names (told_at name place first)
  one_named place None = tt
  one_named place (Some flaw) = (named place flaw, tt)

  all_named : (place : ℕ) (before : Option R) (rows : List R) (found : List Finding)
      → AreFound flaws breaks name place before rows found → AllByRecursion Names found
  all_named place before [] found are = subst (AllByRecursion Names) (sym are) tt
  all_named place before (row ∷ rows) found are = subst (AllByRecursion Names) (sym are.4)
      (all-append Names (told_at name place are.0) are.1 (one_named place are.0)
      (all_named (place + 1) (Some row) rows are.1 are.3))

-- what each part tells names a row
abbrev EachNames : List (List Finding → Type 0) → Type 0
EachNames [] = Unit {0}
EachNames (Part ∷ Parts) = ((found : List Finding) → Part found → AllByRecursion Names found) × EachNames Parts

turn_named : (Parts : List (List Finding → Type 0)) (found : List Finding) → EachNames Parts → AreInTurn Parts found
    → AllByRecursion Names found
turn_named [] found each turn = subst (AllByRecursion Names) (sym turn) tt
turn_named (Part ∷ Parts) found each turn = subst (AllByRecursion Names) (sym turn.4)
    (all-append Names turn.0 turn.1 (each.0 turn.0 turn.2) (turn_named Parts turn.1 each.1 turn.3))

meta_named : (rows : List MetaRow) → AllByRecursion Names (told_of_meta rows)
meta_named rows = go (length rows == 1)
  where
    go : (b : Bool) → AllByRecursion Names (if b then [] else finding.MetaRows ∷ [])
    go true = tt
    go false = (λ same. cc, tt)

head_named : (rows : List OfficeRow) → AllByRecursion Names (told_of_head rows)
head_named rows = go (is_office rows 1)
  where
    go : (b : Bool) → AllByRecursion Names (if b then [] else finding.NoHead ∷ [])
    go true = tt
    go false = (λ same. cc, tt)

each_names : (v : Version) (today : ℕ) (t : Lists) → EachNames (found_in_rows v today t)
each_names v today t = (
  λ found is. subst (AllByRecursion Names) (sym is) (meta_named t.meta),
  (
    all_named meta_flaws (λ flaw before. BreaksMeta (number_of v) flaw) finding.Meta (λ place flaw same. cc) 0 None
        t.meta,
    (
      all_named charge_flaws BreaksCharge finding.Charge (λ place flaw same. cc) 0 None t.charges,
      (
        all_named product_flaws (BreaksProduct t.charges) finding.Product (λ place flaw same. cc) 0 None t.products,
        (
          λ found is. subst (AllByRecursion Names) (sym is) (head_named t.offices),
          (
            all_named office_flaws (BreaksOffice t.offices) finding.Office (λ place flaw same. cc) 0 None t.offices,
            (
              all_named staff_flaws (BreaksStaff t.offices) finding.Staff (λ place flaw same. cc) 0 None t.staff,
              (
                all_named client_flaws (BreaksClient t.offices) finding.Client (λ place flaw same. cc) 0 None
                    t.clients,
                (
                  all_named loan_flaws (BreaksLoan today t.offices t.clients t.products) finding.Loan
                      (λ place flaw same. cc) 0 None t.loans,
                  (
                    all_named entry_flaws (BreaksEntry today t.loans t.staff t.receipts t.entries) finding.Entry
                        (λ place flaw same. cc) 0 None t.entries,
                    (
                      all_named receipt_flaws (BreaksReceipt t.entries) finding.Receipt (λ place flaw same. cc) 0 None
                          t.receipts,
                      tt,
                    ),
                  ),
                ),
              ),
            ),
          ),
        ),
      ),
    ),
  ),
)

-- and what is told of accounts
map_named : {A : Type 0} (name : A → Finding) → ((a : A) → Names (name a)) → (xs : List A)
    → AllByRecursion Names (map name xs)
map_named name named [] = tt
map_named name named (x ∷ xs) = (named x, map_named name named xs)

differing_named : (v : Version) (t : Lists) (found : List Finding) → AreDiffering v t found
    → AllByRecursion Names found
differing_named v t found h = subst (AllByRecursion Names) (sym h.found_are)
    (all-append Names (map finding.Instalment h.instalments) (map finding.Share h.shares)
    (map_named finding.Instalment (λ key same. cc) h.instalments)
    (map_named finding.Share (λ key same. cc) h.shares))

accounts_named : (v : Version) (t : Lists) (found : List Finding) → AreOfAccounts v t found
    → AllByRecursion Names found
accounts_named First t found are = subst (AllByRecursion Names) (sym are) tt
accounts_named Second t found are = differing_named Second t found are
accounts_named Third t found are = differing_named Third t found are

-- ---- the business day

-- there is always one by which rows are judged
some_today : (schema : ℕ) (rows : List MetaRow) → ¬ ¬ ((today : ℕ) × IsToday schema rows today)
some_today schema rows fails = fails (
  last_entered_day,
  record {
    told = λ day entered are. absurd (fails (
      day,
      record {
        told = λ other within also.
            let same : meta_under schema day ∷ [] ≡ meta_under schema other ∷ [] = are ∙ sym also in
            let rows_same : meta_under schema day ≡ meta_under schema other = cc in
            day_text-injective day other (ap (λ (r : MetaRow). r.day) rows_same);
        untold = λ none. absurd (none day entered are);
      },
    ));
    untold = λ none. refl;
  },
)

-- ---- a broken file names a row

-- a list whose items all name rows doesn't contain one that doesn't
not_among : (found : List Finding) → AllByRecursion Names found → ¬ Contains found finding.Unsound
not_among found each there = each_at Names found finding.Unsound each there refl

pub never_unsound : KeysLaw → (v : Version) (t : Lists) (found : List Finding) → DoRise t → lists_at v t ≡ t
    → ¬ AreOfSoundAt v t → AreFindings v t found → ¬ Contains found finding.Unsound
never_unsound law v t found rise at unsound are there =
    some_today (number_of v) t.meta (λ today.
    let all = are today.0 today.1 rise in
    go today.0 today.1 all.0 all.1 all.2)
  where
    rest : AreUnder (number_of v) t → (accounts : List Finding) → AreOfAccounts v t accounts
        → found ≡ or_unsound accounts → ⊥
    rest u [] of_accounts is = none_differ v t rise at u of_accounts unsound
    rest u (first ∷ later) of_accounts is =
        not_among (first ∷ later) (accounts_named v t (first ∷ later) of_accounts)
        (subst (λ fs. Contains fs finding.Unsound) is there)

    go : (today : ℕ) → IsToday (number_of v) t.meta today → (rows : List Finding)
        → AreInTurn (found_in_rows v today t) rows → AreOfRest v t rows found → ⊥
    go today is [] turn of_rest = none_broken law v today t is turn (λ u. rest u of_rest.0 of_rest.1 of_rest.2)
    go today is (first ∷ later) turn of_rest =
        not_among (first ∷ later) (turn_named (found_in_rows v today t) (first ∷ later) (each_names v today t) turn)
        (subst (λ fs. Contains fs finding.Unsound) of_rest there)
