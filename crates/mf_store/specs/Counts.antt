-- What is numbered from 1: an office's staff, clients and loans, and the catalogue's charges and products.
use Rattle.std.specs.Prelude.{ℕ, length}
use Rattle.mf_model.specs.Institution.{Institution}
use Rattle.mf_model.specs.Store.{rows_at}
use Rattle.mf_store.specs.declared.counts.Kind.{Kind}
use Rattle.mf_store.specs.declared.counts.Kind.TheVariants.{Staff, Clients, Loans, Charges, Products}

-- how many of a kind there are
abbrev pub count_of : Kind → Institution → ℕ
count_of (Staff office) i = length (rows_at office i).staff
count_of (Clients office) i = length (rows_at office i).clients
count_of (Loans office) i = length (rows_at office i).loans
count_of Charges i = length i.catalogue.charges
count_of Products i = length i.catalogue.products
