-- What a store knows beside its tables.
use Rattle.std.specs.Prelude.{◌≡◌, ◌&&◌, ℕ, Bool, List, [], Option, None, Some, nat_eq, refl}
use Rattle.std.specs.Map.{lookup}
use Rattle.std.specs.Coded.{Coded, code_by, coded×, coded_ℕ, coded_list, coded_option}
use Rattle.sqlite.specs.Held.{Held, held_code}
use Rattle.mf_office.specs.declared.staff.Role.{Role}
use Rattle.mf_office.specs.contracts.staff.Role as role_row
use Rattle.mf_office.specs.declared.caller.Caller.{Caller}
use Rattle.mf_office.specs.declared.account.Account.{Account}
use Rattle.mf_catalog.specs.declared.product.Product.{Product}
use Rattle.mf_catalog.specs.contracts.product.Product as product_row
use Rattle.mf_account.specs.Change.{KeptAccount}
use Rattle.mf_account.specs.contracts.account.LoanAccount as account_row
use Rattle.mf_model.specs.declared.store.Counts.{Counts}
use Rattle.mf_model.specs.declared.store.CatalogueCounts.{CatalogueCounts}
use Rattle.mf_model.specs.contracts.store.Counts as counts_row
use Rattle.mf_model.specs.contracts.store.CatalogueCounts as catalogue_row
use Rattle.mf_model.specs.Institution.{Institution, product_in}
use Rattle.mf_model.specs.Store.{counts_at, catalogue_counts, role_of, account_at}
use Rattle.mf_store_values.specs.Flat.{key_at}
use Rattle.mf_store_journal.specs.Index.{AreOfFirst}
use Rattle.mf_store_journal.specs.declared.index.IndexEntry.{IndexEntry}
use Rattle.mf_store_journal.specs.contracts.index.IndexEntry as index_row
use Rattle.mf_store_journal.specs.declared.journal.Journal.{Journal}
use Rattle.mf_store_journal.specs.contracts.journal.Journal as journal_row

-- the key of what is known of a caller: the office's number, and the staff number in it
abbrev pub caller_key : Caller → ℕ × ℕ
caller_key c = (c.office, c.staff)

-- the key of what is known of a loan: the office's number, and the loan's in it
abbrev pub account_key : Account → ℕ × ℕ
account_key a = (a.office, a.number)

-- two such keys are the same
abbrev pub same_key : ℕ × ℕ → ℕ × ℕ → Bool
same_key a b = nat_eq a.0 b.0 && nat_eq a.1 b.1

-- how many rows some of the offices have, by number; how many charges and products there are; the business day; the
-- roles of some callers; the hierarchy texts of some offices; some products, by number; the accounts of some loans; of
-- the first lines of the journal what they name
pub record Facts : Type 0 where
  pub counts : List (ℕ × Counts)
  pub catalogue : Option CatalogueCounts
  pub day : Option ℕ
  pub roles : List ((ℕ × ℕ) × Role)
  pub keys : List (ℕ × List ℕ)
  pub products : List (ℕ × Product)
  pub accounts : List ((ℕ × ℕ) × KeptAccount)
  pub index : List IndexEntry

-- no fact is known
abbrev pub nothing_known : Facts
nothing_known = record {
  counts = [];
  catalogue = None;
  day = None;
  roles = [];
  keys = [];
  products = [];
  accounts = [];
  index = [];
}

-- the facts, coded
abbrev pub facts_code : Coded Facts
facts_code =
    code_by (List (ℕ × Counts)
    × (Option CatalogueCounts × (Option ℕ × (List ((ℕ × ℕ) × Role) × (List (ℕ × List ℕ)
    × (List (ℕ × Product) × (List ((ℕ × ℕ) × KeptAccount) × List IndexEntry)))))))
    (coded× (coded_list (coded× coded_ℕ counts_row.the_row.coded)) (coded× (coded_option catalogue_row.the_row.coded)
    (coded× (coded_option coded_ℕ) (coded× (coded_list (coded× (coded× coded_ℕ coded_ℕ) role_row.the_row.coded))
    (coded× (coded_list (coded× coded_ℕ (coded_list coded_ℕ)))
    (coded× (coded_list (coded× coded_ℕ product_row.the_row.coded))
    (coded× (coded_list (coded× (coded× coded_ℕ coded_ℕ) account_row.the_row.coded))
    (coded_list index_row.the_row.coded))))))))
    (λ f. (f.counts, (f.catalogue, (f.day, (f.roles, (f.keys, (f.products, (f.accounts, f.index)))))))) (λ p. record {
      counts = p.0;
      catalogue = p.1.0;
      day = p.1.1.0;
      roles = p.1.1.1.0;
      keys = p.1.1.1.1.0;
      products = p.1.1.1.1.1.0;
      accounts = p.1.1.1.1.1.1.0;
      index = p.1.1.1.1.1.1.1;
    }) (λ _. refl)

-- a connection, what is known beside it, and the journal that is kept, if one is
pub record KnownStore (S : Type 0) : Type 0 where
  pub connection : Held S
  pub known : Facts
  pub journal : Option Journal

-- a store with its facts, coded
abbrev pub kept_code : {S : Type 0} → Coded S → Coded (KnownStore S)
kept_code {S} store = code_by (Held S × (Facts × Option Journal))
    (coded× (held_code store) (coded× facts_code (coded_option journal_row.the_row.coded)))
    (λ k. (k.connection, (k.known, k.journal)))
    (λ p. record { connection = p.0; known = p.1.0; journal = p.1.1 }) (λ _. refl)

-- what is known is so in this institution
pub record AreTrueOf (f : Facts) (i : Institution) : Type 0 where
  pub counts : (x : ℕ) (c : Counts) → lookup (nat_eq x) f.counts ≡ Some c → c ≡ counts_at x i
  pub catalogue : (c : CatalogueCounts) → f.catalogue ≡ Some c → c ≡ catalogue_counts i
  pub day : (d : ℕ) → f.day ≡ Some d → d ≡ i.catalogue.day
  pub roles : (c : Caller) (r : Role) → lookup (same_key (caller_key c)) f.roles ≡ Some r → role_of c i ≡ Some r
  pub keys : (x : ℕ) (k : List ℕ) → lookup (nat_eq x) f.keys ≡ Some k → key_at x i ≡ Some k
  pub products : (n : ℕ) (p : Product) → lookup (nat_eq n) f.products ≡ Some p → product_in i.catalogue n ≡ Some p
  pub accounts : (a : Account) (x : KeptAccount) → lookup (same_key (account_key a)) f.accounts ≡ Some x
      → account_at a i
      ≡ Some x
  pub index : AreOfFirst f.index i.journal
