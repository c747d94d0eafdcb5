use Rattle.std.proofs.Common.{◌≡◌, List, drop, map}
use Rattle.mf_model.specs.Institution.{Catalogue, Office}
use Rattle.mf_model.specs.Sound.{IsSoundCatalogue}
use Rattle.mf_store_values.specs.Flat.{charge_as, product_as, numbered_from}
use Rattle.mf_store_audit.specs.OfficeSums.{AreRowsOfOffices}
use Rattle.mf_store_audit.specs.Sums.{sums_of_office}
use Rattle.mf_store_audit.proofs.WalkLemmas.{AreLeft}
use Rattle.mf_store_audit.proofs.sums_by_office.sums_of_offices.Given as goal

abbrev pub invariant-loop-office : goal.invariant-loop-office
invariant-loop-office l =
    (k : Catalogue) → IsSoundCatalogue k → numbered_from charge_as 1 k.charges ≡ l.charges → numbered_from product_as 1
    k.products ≡ l.products → (fs : List Office) → AreRowsOfOffices k l.offices l.clients l.loans l.entries fs
    → AreLeft k (map (sums_of_office k) fs) (drop l.office-index l.offices) l.clients_left l.loans_left l.entries_left
    l.found.items
