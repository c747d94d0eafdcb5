-- Rows under a schema, and the rows of accounts beside them.
use Rattle.std.proofs.Common.{◌≡◌, ◌↔◌, ◌∙◌, ℕ, List, [], refl, sym, ap}
use Rattle.mf_model.specs.Institution.{Institution, Catalogue}
use Rattle.mf_model.specs.Sound.{IsSound, IsSoundCatalogue}
use Rattle.mf_store_schema.specs.Rows.{Lists}
use Rattle.mf_store_schema.specs.declared.charges.ChargeRow.{ChargeRow}
use Rattle.mf_store_schema.specs.declared.entries.EntryRow.{EntryRow}
use Rattle.mf_store_schema.specs.declared.instalments.InstalmentRow.{InstalmentRow}
use Rattle.mf_store_schema.specs.declared.loans.LoanRow.{LoanRow}
use Rattle.mf_store_schema.specs.declared.products.ProductRow.{ProductRow}
use Rattle.mf_store_schema.specs.declared.shares.ShareRow.{ShareRow}
use Rattle.mf_store_values.specs.Accounts.{account_instalments, account_shares, PlacedLoan, all_placed, AreLoansOf}
use Rattle.mf_store_values.specs.Accounts.{AreAccounts}
use Rattle.mf_store_values.specs.Flat.{charge_as, product_as, numbered_from, instalment_in, share_in, tables_of}
use Rattle.mf_store_sound.specs.Schemas.{HasAccounts, tables_at, tables_under, without_accounts}
use Rattle.mf_store_schema.specs.Versions.{number_of}
use Rattle.mf_store_schema.specs.declared.versions.Version.{Version}
use Rattle.mf_store_schema.specs.declared.versions.Version.TheVariants.{First, Second, Third}
use Rattle.mf_store_sound.specs.Sound.{AreOfSoundAt, AreUnder}
use Rattle.mf_store_sound.proofs.AllLoanLemmas.{all_rows_of}
use Rattle.mf_store_sound.proofs.TableLemmas.{of_parts}
use Rattle.mf_store_sound.proofs.SoundLemmas.{charges_are, products_are, loans_under}

-- what is told of rows of accounts, by the rows of the others
abbrev pub Told : (List InstalmentRow → List ShareRow → Catalogue → List PlacedLoan → Type 0) → Lists → Type 0
Told P t = (k : Catalogue) → IsSoundCatalogue k → numbered_from charge_as 1 k.charges ≡ t.charges
    → numbered_from product_as 1 k.products ≡ t.products → (ps : List PlacedLoan) → AreLoansOf k t.loans t.entries ps
    → P t.instalments t.shares k ps

pub told_of_parts : (P : List InstalmentRow → List ShareRow → Catalogue → List PlacedLoan → Type 0) (t inside : Lists)
    (view : inside ≡ t) (charges : List ChargeRow) (products : List ProductRow) (loans : List LoanRow)
    (entries : List EntryRow) (instalments : List InstalmentRow) (shares : List ShareRow)
    → charges ≡ inside.charges → products ≡ inside.products → loans ≡ inside.loans → entries ≡ inside.entries
    → instalments ≡ inside.instalments → shares ≡ inside.shares
    → Told P (record t {
      charges = charges;
      products = products;
      loans = loans;
      entries = entries;
      instalments = instalments;
      shares = shares;
    }) → Told P t
told_of_parts P t inside view charges products loans entries instalments shares c p l e i s told =
    of_parts (Told P) t inside view _ _ _ _ _ _ _ _ _ _ _ refl refl refl refl c p l e refl i s told

-- what is told, at the institution whose rows these are
told_at : (P : List InstalmentRow → List ShareRow → Catalogue → List PlacedLoan → Type 0) (schema : ℕ) (t : Lists)
    (u : AreUnder schema t) → Told P t → P t.instalments t.shares u.institution.catalogue
    (all_placed u.institution.offices)
told_at P schema t u told =
    told u.institution.catalogue u.sound.catalogue (charges_are schema t u) (products_are schema t u)
    (all_placed u.institution.offices) (loans_under schema t u)

-- rows of accounts that are those of an institution
abbrev HasRows : Institution → List InstalmentRow → List ShareRow → Type 0
HasRows i instalments shares = (instalments ≡ (tables_of i).instalments) × (shares ≡ (tables_of i).shares)

accounts_are : (i : Institution) (instalments : List InstalmentRow) (shares : List ShareRow)
    → AreAccounts i.catalogue (all_placed i.offices) instalments shares ↔ HasRows i instalments shares
accounts_are i instalments shares =
    let kept = all_rows_of instalment_in (account_instalments i.catalogue) i.offices in
    let parts = all_rows_of share_in (account_shares i.catalogue) i.offices in (
      λ a. (sym a.instalments_are ∙ kept, sym a.shares_are ∙ parts),
      λ has. record { instalments_are = kept ∙ sym has.0; shares_are = parts ∙ sym has.1 },
    )

-- ---- the rows of a version are those under its number, and those of accounts

pub bare_of : (v : Version) (t : Lists) (i : Institution) → tables_at v i ≡ t
    → tables_under (number_of v) i ≡ without_accounts t
bare_of First t i is = ap without_accounts is
bare_of Second t i is = ap without_accounts is
bare_of Third t i is = ap without_accounts is

pub under_of : (v : Version) (t : Lists) → AreOfSoundAt v t → AreUnder (number_of v) t
under_of v t h =
    record { institution = h.institution; sound = h.sound; rows_are = bare_of v t h.institution h.rows_are }

pub bare_is : (v : Version) → ¬ HasAccounts v → (t : Lists) (B : Type 0) → t.journal ≡ [] → AreUnder (number_of v) t
    → B ↔ ((t.instalments ≡ []) × (t.shares ≡ [])) → B ↔ AreOfSoundAt v t
bare_is First lacks t B none u empty = (
  λ yes.
      let both = empty.0 yes in
      record {
        institution = u.institution;
        sound = u.sound;
        rows_are = λ z. record (u.rows_are z) {
          instalments = sym both.0 z;
          shares = sym both.1 z;
          journal = sym none z;
        };
      },
  λ h. empty.1 (ap (λ (l : Lists). l.instalments) (sym h.rows_are), ap (λ (l : Lists). l.shares) (sym h.rows_are)),
)
bare_is Second lacks t B none u empty = absurd (lacks tt)
bare_is Third lacks t B none u empty = absurd (lacks tt)

-- the rows under the version's number, and those of accounts
abbrev with_accounts : Version → Institution → Lists
with_accounts v i = record (tables_under (number_of v) i) {
  instalments = (tables_of i).instalments;
  shares = (tables_of i).shares;
}

tables_are : (v : Version) → HasAccounts v → (i : Institution) → tables_at v i ≡ with_accounts v i
tables_are First has i = absurd has
tables_are Second has i = refl
tables_are Third has i = refl

pub whole_is : (v : Version) → HasAccounts v → (t : Lists) (B : Type 0) → t.journal ≡ [] → AreUnder (number_of v) t
    → Told (λ instalments shares k ps. B ↔ AreAccounts k ps instalments shares) t → B ↔ AreOfSoundAt v t
unfolding under_of
whole_is v has t B none u told =
    let at : (w : AreUnder (number_of v) t) → B ↔ AreAccounts w.institution.catalogue
    (all_placed w.institution.offices) t.instalments t.shares = λ w. told_at (λ instalments shares k ps. B
    ↔ AreAccounts k ps instalments shares) (number_of v) t w told in (
      λ yes.
          let kept = (accounts_are u.institution t.instalments t.shares).0 ((at u).0 yes) in
          record {
            institution = u.institution;
            sound = u.sound;
            rows_are = tables_are v has u.institution ∙ (λ z. record (u.rows_are z) {
              instalments = sym kept.0 z;
              shares = sym kept.1 z;
              journal = sym none z;
            });
          },
      λ h.
          let rows = sym h.rows_are ∙ tables_are v has h.institution in
          (at (under_of v t h)).1 ((accounts_are h.institution t.instalments t.shares).1 (
            ap (λ (l : Lists). l.instalments) rows,
            ap (λ (l : Lists). l.shares) rows,
          )),
    )

-- ---- rows of accounts that replaying gives

-- they are those of each sound institution that has the other rows
pub rows_under_are : (schema : ℕ) (t : Lists) (instalments : List InstalmentRow) (shares : List ShareRow)
    → Told (λ none other k ps. AreAccounts k ps instalments shares) t → (i : Institution) → IsSound i
    → tables_under schema i ≡ without_accounts t → HasRows i instalments shares
rows_under_are schema t instalments shares told i sound is =
    (accounts_are i instalments shares).0 (told_at (λ none other k ps. AreAccounts k ps instalments shares) schema t
    (record { institution = i; sound = sound; rows_are = is }) told)
