use Rattle.std.proofs.Common.{◌≡◌, ◌↔◌, map, drop}
use Rattle.mf_model.specs.Institution.{Catalogue}
use Rattle.mf_model.specs.Tree.{Ascending}
use Rattle.mf_store_values.specs.Flat.{product_as, numbered_from}
use Rattle.mf_store_values.specs.Parts.{office_of}
use Rattle.mf_store_sound.specs.Sound.{AreOfficeParts}
use Rattle.mf_store_sound.proofs.office_parts.are_office_parts.Given as goal

abbrev pub invariant-loop-office : goal.invariant-loop-office
invariant-loop-office l =
    (k : Catalogue) → k.day ≡ l.today → numbered_from product_as 1 k.products ≡ l.products
    → Ascending (map office_of l.offices)
    → Ascending (map office_of (drop l.office-index l.offices))
    × (AreOfficeParts k l.offices l.all.staff.now l.all.clients.now l.all.loans.now l.all.entries.now
    ↔ AreOfficeParts k (drop l.office-index l.offices) l.left.staff.now l.left.clients.now l.left.loans.now
    l.left.entries.now)
