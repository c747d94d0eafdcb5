-- The rows of a sound institution's tables, under either schema, are those of its offices.
use Rattle.std.proofs.Common.{◌≡◌, ◌+◌, ◌∙◌, ℕ, List, [], ◌∷◌, ◌++◌, map, sym, ap}
use Rattle.std.specs.List.{AllByRecursion}
use Rattle.mf_model.specs.Institution.{Catalogue, Institution, Ledger, Office}
use Rattle.mf_model.specs.Sound.{IsSound, IsSoundCatalogue}
use Rattle.mf_model.specs.Tree.{parent_of}
use Rattle.mf_store_schema.specs.Rows.{Lists}
use Rattle.mf_store_values.specs.Accounts.{PlacedLoan, placed_loans, all_placed, IsPlainPlaced}
use Rattle.mf_store_values.specs.Flat.{charge_as, product_as, numbered_from}
use Rattle.mf_store_values.specs.Parts.{office_of}
use Rattle.mf_store_values.proofs.PartLemmas.{heads_of}
use Rattle.mf_store_sound.specs.Schemas.{tables_under, without_accounts}
use Rattle.mf_store_sound.specs.Sound.{AreUnder}
use Rattle.mf_store_sound.proofs.SoundLemmas.{loans_under}
use Rattle.mf_store_audit.specs.OfficeSums.{IsPlain, AreRowsOfOffices}

module _ (k : Catalogue) where
  plain_placed : (x n : ℕ) (ls : List Ledger) (ps : List PlacedLoan) → AllByRecursion (IsPlainPlaced k)
      (placed_loans x n ls ++ ps) → AllByRecursion (IsPlain k) ls × AllByRecursion (IsPlainPlaced k) ps
  plain_placed x n [] ps all = (tt, all)
  plain_placed x n (l ∷ ls) ps all =
      let more = plain_placed x (n + 1) ls ps all.1 in
      ((record { names = all.0.clients; plain = all.0.plain }, more.0), more.1)

  plain_offices : (fs : List Office) → AllByRecursion (IsPlainPlaced k) (all_placed fs)
      → AllByRecursion (λ (f : Office). AllByRecursion (IsPlain k) f.rows.loans) fs
  plain_offices [] all = tt
  plain_offices (f ∷ fs) all = let both =
      plain_placed f.number 1 f.rows.loans (all_placed fs) all in (both.0, plain_offices fs both.1)

rows_of : (schema : ℕ) (t : Lists) (i : Institution) → IsSound i → tables_under schema i ≡ without_accounts t
    → AreRowsOfOffices i.catalogue t.offices t.clients t.loans t.entries i.offices
rows_of schema t i sound is =
    let under : AreUnder schema t = record { institution = i; sound = sound; rows_are = is } in
    record {
      ascending = sound.tree.ascending;
      theirs = sym (heads_of (parent_of i.offices) i.offices) ∙ (λ z. map office_of (is z).offices);
      plain = plain_offices i.catalogue i.offices (loans_under schema t under).plain;
      clients_are = ap (λ (l : Lists). l.clients) is;
      loans_are = ap (λ (l : Lists). l.loans) is;
      entries_are = ap (λ (l : Lists). l.entries) is;
    }

-- what is told of offices, by the rows of the tables
abbrev pub Told : (Catalogue → List Office → Type 0) → Lists → Type 0
Told P t = (k : Catalogue) → IsSoundCatalogue k → numbered_from charge_as 1 k.charges ≡ t.charges
    → numbered_from product_as 1 k.products ≡ t.products → (fs : List Office) → AreRowsOfOffices k t.offices t.clients
    t.loans t.entries fs → P k fs

-- what is told, at the institution whose rows these are
pub told_at : (P : Catalogue → List Office → Type 0) (t : Lists) → Told P t → (schema : ℕ) (i : Institution) → IsSound i
    → tables_under schema i ≡ without_accounts t → P i.catalogue i.offices
told_at P t told schema i sound is = told i.catalogue sound.catalogue (ap (λ (l : Lists). l.charges) is)
    (ap (λ (l : Lists). l.products) is) i.offices (rows_of schema t i sound is)
