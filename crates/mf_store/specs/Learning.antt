-- What a store learns as a read or a commit goes well.
use Rattle.std.specs.Prelude.{◌≡◌, ℕ, Bool, true, false, not, cond, ◌==◌, List, Some}
use Rattle.mf_office.specs.declared.staff.Role.{Role}
use Rattle.mf_office.specs.declared.caller.Caller.{Caller}
use Rattle.mf_office.specs.declared.account.Account.{Account}
use Rattle.mf_account.specs.Change.{KeptAccount}
use Rattle.mf_catalog.specs.declared.product.Product.{Product}
use Rattle.mf_model.specs.declared.store.Counts.{Counts}
use Rattle.mf_model.specs.declared.store.CatalogueCounts.{CatalogueCounts}
use Rattle.mf_model.specs.Institution.{Institution, product_in}
use Rattle.mf_model.specs.Store.{counts_at, catalogue_counts, role_of, account_at}
use Rattle.mf_store_values.specs.Flat.{key_at}
use Rattle.mf_store.specs.Facts.{account_key, same_key}
use Rattle.mf_store.specs.declared.known.News.{News}
use Rattle.mf_store.specs.declared.known.News.TheVariants as known_now
use Rattle.mf_store.specs.declared.known.News.TheVariants.{OfficeCounts, Catalogue, BusinessDay, Retirement}

-- how many rows office x has, after the news
abbrev pub counts_told : News → ℕ → Counts → Counts
counts_told (OfficeCounts office counts) x old = cond (office == x) counts old
counts_told _ x old = old

-- the counts of the catalogue after news
abbrev pub catalogue_told : News → CatalogueCounts → CatalogueCounts
catalogue_told (Catalogue counts) old = counts
catalogue_told _ old = old

-- the business day after news
abbrev pub day_told : News → ℕ → ℕ
day_told (BusinessDay day) old = day
day_told _ old = old

-- each product that was there is as it was
abbrev pub products_stay : News → Bool
products_stay Retirement = false
products_stay _ = true

-- a loan's account is as it was, where there is one
abbrev pub account_stays : News → Account → Bool
account_stays (known_now.Account loan) a = not (same_key (account_key loan) (account_key a))
account_stays _ a = true

-- Of what may be known, the news alone tells i and j apart. A member of staff keeps their role, an office its hierarchy
-- text, and a journal its lines.
pub record Tells (news : News) (i j : Institution) : Type 0 where
  pub counts : (x : ℕ) → counts_at x j ≡ counts_told news x (counts_at x i)
  pub catalogue : catalogue_counts j ≡ catalogue_told news (catalogue_counts i)
  pub day : j.catalogue.day ≡ day_told news i.catalogue.day
  pub roles : (c : Caller) (r : Role) → role_of c i ≡ Some r → role_of c j ≡ Some r
  pub keys : (x : ℕ) (k : List ℕ) → key_at x i ≡ Some k → key_at x j ≡ Some k
  pub products : products_stay news ≡ true → (n : ℕ) (p : Product) → product_in i.catalogue n ≡ Some p
      → product_in j.catalogue n ≡ Some p
  pub accounts : (a : Account) (x : KeptAccount) → account_stays news a ≡ true → account_at a i ≡ Some x
      → account_at a j
      ≡ Some x
  pub journal : j.journal ≡ i.journal
