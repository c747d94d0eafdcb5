-- What is asked of the catalogue: the business day, charges and products.
use Rattle.std.specs.Prelude.{ℕ, false, true, cond, [], ◌∷◌, ◌++◌, length, nat_lt, Option, Some, None, Result, Ok, Err}
use Rattle.mf_base.specs.declared.fault.Fault.{Fault}
use Rattle.mf_base.specs.declared.fault.Fault.TheVariants.{F4, F7, F8, F17}
use Rattle.mf_catalog.specs.declared.product.ProductMembers.{ProductMembers}
use Rattle.mf_catalog.specs.Product.{charges_there, is_consistent}
use Rattle.mf_model.specs.declared.request.CatalogueRequest.{CatalogueRequest}
use Rattle.mf_model.specs.declared.request.CatalogueRequest.TheVariants as asked
use Rattle.mf_model.specs.declared.reply.Reply.{Reply}
use Rattle.mf_model.specs.declared.reply.Reply.TheVariants.{DayShown, DaySet, ChargeMade, ChargeShown, ProductMade}
use Rattle.mf_model.specs.declared.reply.Reply.TheVariants.{ProductShown, ProductRetired}
use Rattle.mf_model.specs.Institution.{Catalogue, ListedCharge, with_numbered, charge_in, product_in}
use Rattle.mf_model.specs.Outcomes.{next_of, with_value, with_found, where_found}

-- the business day
abbrev pub show_day : Catalogue → Result (Reply × Option Catalogue) Fault
show_day k = Ok (DayShown k.day, None)

-- the catalogue on another business day
abbrev pub day_set : ℕ → Catalogue → Catalogue
day_set day k = record k { day = day }

-- a later business day; F17 where it isn't later
abbrev pub set_day : ℕ → Catalogue → Result (Reply × Option Catalogue) Fault
set_day day k = cond (nat_lt k.day day) (Ok (DaySet day, Some (day_set day k))) (Err F17)

-- the catalogue with one more charge
abbrev pub charge_added : ListedCharge → Catalogue → Catalogue
charge_added charge k = record k { charges = k.charges ++ charge ∷ [] }

-- a new charge, of at most 999
abbrev pub add_charge : ListedCharge → Catalogue → Result (Reply × Option Catalogue) Fault
add_charge charge k = with_value (next_of (length k.charges) 999) (λ n. (ChargeMade n, Some (charge_added charge k)))

-- a charge
abbrev pub show_charge : ℕ → Catalogue → Result (Reply × Option Catalogue) Fault
show_charge n k = with_found (charge_in k n) (λ charge. (ChargeShown charge, None))

-- the catalogue with one more product
abbrev pub product_added : ProductMembers → Catalogue → Catalogue
product_added members k = record k { products = k.products ++ record { members = members; retired = false } ∷ [] }

-- a new product, of at most 999, of members that are consistent
abbrev pub make_product : ProductMembers → Catalogue → Result (Reply × Option Catalogue) Fault
make_product members k =
    with_value (next_of (length k.products) 999) (λ n. (ProductMade n, Some (product_added members k)))

-- A new product. Each charge that it names must be there, it must be consistent, and then there must be room.
abbrev pub add_product : ProductMembers → Catalogue → Result (Reply × Option Catalogue) Fault
add_product members k =
    cond (charges_there (charge_in k) members)
    (cond (is_consistent (charge_in k) members) (make_product members k) (Err F8))
    (Err F4)

-- a product
abbrev pub show_product : ℕ → Catalogue → Result (Reply × Option Catalogue) Fault
show_product n k = with_found (product_in k n) (λ product. (ProductShown product, None))

-- the catalogue where a product lends no more
abbrev pub product_retired : ℕ → Catalogue → Catalogue
product_retired n k = record k { products = with_numbered n (λ p. record p { retired = true }) k.products }

-- a product lends no more; F7 where it doesn't already
abbrev pub retire_product : ℕ → Catalogue → Result (Reply × Option Catalogue) Fault
retire_product n k = where_found (product_in k n) (λ product. cond product.retired (Err F7)
    (Ok (ProductRetired n, Some (product_retired n k))))

-- what is done with the catalogue
abbrev pub on_catalogue : CatalogueRequest → Catalogue → Result (Reply × Option Catalogue) Fault
on_catalogue asked.ShowDay k = show_day k
on_catalogue (asked.SetDay day) k = set_day day k
on_catalogue (asked.AddCharge name kind calc value) k =
    add_charge (record { name = name; kind = kind; calc = calc; value = value }) k
on_catalogue (asked.ShowCharge charge) k = show_charge charge k
on_catalogue (asked.AddProduct members) k = add_product members k
on_catalogue (asked.ShowProduct product) k = show_product product k
on_catalogue (asked.RetireProduct product) k = retire_product product k
