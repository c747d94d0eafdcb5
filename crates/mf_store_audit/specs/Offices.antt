-- What is wrong with rows of offices, of staff and of clients.
use Rattle.std.specs.Prelude.{◌≡◌, ◌≢◌, ℕ, ◌<◌, ◌==◌, Bool, true, false, List, Option, Some, None}
use Rattle.std.specs.List.{list_any}
use Rattle.mf_model.specs.Sound.{IsName}
use Rattle.mf_office.specs.Keys.{key_depth}
use Rattle.mf_office.specs.Numbers.{IsNumberUpTo}
use Rattle.mf_office.specs.Roles.{role_number}
use Rattle.mf_store_schema.specs.Rows.{by_office, by_staff, by_client}
use Rattle.mf_store_schema.specs.declared.clients.ClientRow.{ClientRow}
use Rattle.mf_store_schema.specs.declared.offices.OfficeRow.{OfficeRow}
use Rattle.mf_store_schema.specs.declared.staff.StaffRow.{StaffRow}
use Rattle.mf_store_sound.specs.Offices.{HasParentsText}
use Rattle.mf_store_audit.specs.Catalogue.{IsNoNumber}
use Rattle.mf_store_audit.specs.Places.{number_within, IsAfter}
use Rattle.mf_store_audit.specs.declared.finding.ClientFlaw.{ClientFlaw}
use Rattle.mf_store_audit.specs.declared.finding.ClientFlaw.TheVariants as client
use Rattle.mf_store_audit.specs.declared.finding.OfficeFlaw.{OfficeFlaw}
use Rattle.mf_store_audit.specs.declared.finding.OfficeFlaw.TheVariants as office
use Rattle.mf_store_audit.specs.declared.finding.StaffFlaw.{StaffFlaw}
use Rattle.mf_store_audit.specs.declared.finding.StaffFlaw.TheVariants as staff

-- an office of this number is there
abbrev pub is_office : List OfficeRow → ℕ → Bool
is_office offices number = list_any (λ (f : OfficeRow). f.number == number) offices

-- the head office alone has no parent, and each other's is there
abbrev pub HasParent : List OfficeRow → Option ℕ → OfficeRow → Type 0
HasParent offices None row = row.number ≡ 1
HasParent offices (Some parent) row = (row.number ≢ 1) × (is_office offices parent ≡ true)

-- a row of an office, after another, among all of them
abbrev pub BreaksOffice : List OfficeRow → OfficeFlaw → Option OfficeRow → OfficeRow → Type 0
BreaksOffice offices office.Order before row = ¬ IsAfter by_office before row
BreaksOffice offices office.Number before row = ¬ IsNumberUpTo 9999 row.number
BreaksOffice offices office.Name before row = ¬ IsName row.name
BreaksOffice offices office.Parent before row = ¬ HasParent offices row.parent row
BreaksOffice offices office.Text before row = ¬ HasParentsText offices row.parent row
BreaksOffice offices office.Depth before row = 6 < key_depth row.hkey

-- a row of a member of staff, after another, over these offices
abbrev pub BreaksStaff : List OfficeRow → StaffFlaw → Option StaffRow → StaffRow → Type 0
BreaksStaff offices staff.Order before row = ¬ IsAfter by_staff before row
BreaksStaff offices staff.Office before row = is_office offices row.office ≡ false
BreaksStaff offices staff.Number before row =
    row.number ≢ number_within (λ (s : StaffRow). s.office == row.office) (λ s. s.number) before
BreaksStaff offices staff.Limit before row = 9999 < row.number
BreaksStaff offices staff.Name before row = ¬ IsName row.name
BreaksStaff offices staff.Role before row = IsNoNumber role_number row.role

-- a row of a client, after another, over these offices
abbrev pub BreaksClient : List OfficeRow → ClientFlaw → Option ClientRow → ClientRow → Type 0
BreaksClient offices client.Order before row = ¬ IsAfter by_client before row
BreaksClient offices client.Office before row = is_office offices row.office ≡ false
BreaksClient offices client.Number before row =
    row.number ≢ number_within (λ (c : ClientRow). c.office == row.office) (λ c. c.number) before
BreaksClient offices client.Limit before row = 999999 < row.number
BreaksClient offices client.Name before row = ¬ IsName row.name
