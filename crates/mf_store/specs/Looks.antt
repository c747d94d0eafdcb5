-- What the look-ups by key find, in the words of the institution.
use Rattle.std.specs.Prelude.{◌≡◌, ℕ, List, [], ◌∷◌, map, find, Option, option_map}
use Rattle.std.proofs.Common.{refl, arith}
use Rattle.std.proofs.lemmas.Bool.Decides.{nat_tests}
use Rattle.mf_model.specs.Institution.{Institution, Office, office_at}
use Rattle.mf_model.specs.Sound.{IsSound}
use Rattle.mf_model.specs.Tree.{parent_of}
use Rattle.mf_store_schema.specs.Rows.{is_row_of_office, is_row_of_staff, is_row_of_client, is_row_of_charge}
use Rattle.mf_store_schema.specs.Rows.{is_row_of_product, is_row_of_loan}
use Rattle.mf_store_values.specs.Flat.{office_under, staff_in, client_in, charge_as, product_as, loan_in, loans_of}
use Rattle.mf_store_values.specs.Flat.{tables_of, office_row_at, staff_row_at, client_row_at, charge_row_at}
use Rattle.mf_store_values.specs.Flat.{product_row_at, loan_row_at}
use Rattle.mf_store_values.proofs.FlatLemmas.{find_row, find_listed}

-- an office's row is found by its number
pub office_by_number : (x : ℕ) (parents : ℕ → Option ℕ) (fs : List Office) → find (is_row_of_office x)
    (map (office_under parents) fs) ≡ option_map (office_under parents) (office_at x fs)
office_by_number x parents [] = refl
office_by_number x parents (f ∷ fs) = grind (arith, nat_tests, office_by_number x parents fs)

-- the same among the rows of an institution
pub office_by_key : (x : ℕ) (i : Institution) → IsSound i → find (is_row_of_office x) (tables_of i).offices
    ≡ office_row_at x i
office_by_key x i sound = office_by_number x (parent_of i.offices) i.offices

-- a member of staff's row is found by the office and the number
pub staff_by_key : (key : ℕ × ℕ) (i : Institution) → IsSound i → find (is_row_of_staff key.0 key.1) (tables_of i).staff
    ≡ staff_row_at key.0 key.1 i
staff_by_key key i sound = find_row staff_in (λ rows. rows.staff) refl is_row_of_staff (λ x k y m a. refl) key.0 key.1
    i.offices sound.tree.ascending

-- so is a client's
pub client_by_key : (key : ℕ × ℕ) (i : Institution) → IsSound i
    → find (is_row_of_client key.0 key.1) (tables_of i).clients ≡ client_row_at key.0 key.1 i
client_by_key key i sound = find_row client_in (λ rows. rows.clients) refl is_row_of_client (λ x k y m a. refl) key.0
    key.1 i.offices sound.tree.ascending

-- and a loan's
pub loan_by_key : (key : ℕ × ℕ) (i : Institution) → IsSound i → find (is_row_of_loan key.0 key.1) (tables_of i).loans
    ≡ loan_row_at key.0 key.1 i
loan_by_key key i sound =
    find_row loan_in loans_of refl is_row_of_loan (λ x k y m a. refl) key.0 key.1 i.offices sound.tree.ascending

-- a charge's row is found by its number
pub charge_by_key : (number : ℕ) (i : Institution) → IsSound i → find (is_row_of_charge number) (tables_of i).charges
    ≡ charge_row_at number i
charge_by_key number i sound = find_listed charge_as is_row_of_charge (λ k m a. refl) number i.catalogue.charges

-- and a product's
pub product_by_key : (number : ℕ) (i : Institution) → IsSound i
    → find (is_row_of_product number) (tables_of i).products ≡ product_row_at number i
product_by_key number i sound = find_listed product_as is_row_of_product (λ k m a. refl) number i.catalogue.products
