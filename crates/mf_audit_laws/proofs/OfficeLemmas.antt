-- Rows of offices, of staff and of clients that keep all conditions.
use Rattle.std.proofs.Common.{◌≡◌, ◌<◌, ◌≤◌, ◌==◌, ◌∙◌, true, List, [], ◌∷◌}
use Rattle.std.proofs.Common.{Option, Some, None, refl, sym, arith, Less}
use Rattle.std.specs.List.{AllByRecursion}
use Rattle.std.specs.Prelude.{if◌then◌else◌}
use Rattle.std.proofs.lemmas.Bool.Decides.{nat_tests}
use Rattle.mf_model.specs.Institution.{Staff}
use Rattle.mf_model.specs.Sound.{IsName}
use Rattle.mf_office.specs.Keys.{key_depth}
use Rattle.mf_store_schema.specs.Rows.{by_office, by_staff, by_client}
use Rattle.mf_store_schema.specs.declared.clients.ClientRow.{ClientRow}
use Rattle.mf_store_schema.specs.declared.offices.OfficeRow.{OfficeRow}
use Rattle.mf_store_schema.specs.declared.staff.StaffRow.{StaffRow}
use Rattle.mf_store_values.specs.Flat.{staff_in, client_in}
use Rattle.mf_store_sound.specs.Offices.{AreOfficeRows, AscendFrom, IsOfficeRow}
use Rattle.mf_store_sound.specs.Stored.{IsRowOf}
use Rattle.mf_store_audit.specs.Findings.{told_of_head}
use Rattle.mf_store_audit.specs.Kinds.{client_flaws, office_flaws, staff_flaws}
use Rattle.mf_store_audit.specs.Offices.{is_office, BreaksOffice, BreaksStaff, BreaksClient}
use Rattle.mf_store_audit.specs.Places.{IsAfter}
use Rattle.mf_store_audit.specs.declared.finding.Finding.TheVariants as finding
use Rattle.mf_audit_laws.proofs.FoundLemmas.{Keeps}
use Rattle.mf_audit_laws.proofs.MemberLemmas.{found_of_any}
use Rattle.mf_audit_laws.proofs.NextLemmas.{AreStarted, IsNumbered, is_after, pairs_start}
use Rattle.mf_audit_laws.proofs.WalkLemmas.{Walk, all_stand, no_greater, passes, same_number, walk_each, walk_weaker}

-- ---- offices

office_is : (offices : List OfficeRow) (before : Option OfficeRow) (row : OfficeRow)
    → Keeps office_flaws (BreaksOffice offices) before row → ¬ ¬ IsOfficeRow offices row
office_is offices before row (order, (number, (name, (parent, (text, (depth, rest)))))) fails =
    number (λ within. name (λ named. text (λ of_parent. fails (record {
      own = record { number = within; name = named };
      text = of_parent;
      depth = no_greater (key_depth row.hkey) 6 depth;
    }))))

ascend : (before : OfficeRow) (rows : List OfficeRow) → Walk (IsAfter by_office) (Some before) rows
    → AscendFrom before.number rows
ascend before [] walk = tt
ascend before (r ∷ rs) walk =
    let less : by_office before r ≡ Less = walk.0 in
    ((let low : before.number < r.number = grind (arith, nat_tests) in low), ascend r rs walk.1)

ascend_all : (offices rows : List OfficeRow) → Walk (IsAfter by_office) None rows
    → AllByRecursion (IsOfficeRow offices) rows → AscendFrom 0 rows
ascend_all offices [] walk each = tt
ascend_all offices (r ∷ rs) walk each = (
  (let some : 1 ≤ r.number = each.0.own.number.0 in omega (arith, some)),
  ascend r rs walk.1,
)

head_there : (rows : List OfficeRow) → told_of_head rows ≡ [] → is_office rows 1 ≡ true
head_there rows told = passes (is_office rows 1) (λ none.
    let one : finding.NoHead ∷ [] ≡ [] = (λ t. if sym none t then [] else finding.NoHead ∷ []) ∙ told in cc)

pub office_rows_are : (rows : List OfficeRow) → told_of_head rows ≡ []
    → Walk (Keeps office_flaws (BreaksOffice rows)) None rows → ¬ ¬ AreOfficeRows rows
office_rows_are rows told walk fails =
    all_stand (IsOfficeRow rows) rows
    (walk_each (Keeps office_flaws (BreaksOffice rows)) _ (office_is rows) None rows walk)
    (λ each. fails (record {
      ascend = ascend_all rows rows (walk_weaker (Keeps office_flaws (BreaksOffice rows)) (IsAfter by_office)
          (λ b r keeps. is_after by_office b r keeps.0) None rows walk) each;
      each = each;
      head = found_of_any (λ (r : OfficeRow). r.number == 1) rows (head_there rows told);
    }))

-- ---- staff

-- a row of a member of staff of an office that is there
pub record IsStaffRow (offices : List OfficeRow) (row : StaffRow) : Type 0 where
  pub is_row : IsRowOf (staff_in row.office) (λ (s : Staff). IsName s.name) row.number row
  pub within : row.number ≤ 9999
  pub there : is_office offices row.office ≡ true

staff_is : (offices : List OfficeRow) (before : Option StaffRow) (row : StaffRow)
    → Keeps staff_flaws (BreaksStaff offices) before row → ¬ ¬ IsStaffRow offices row
staff_is offices before row (order, (office, (number, (limit, (name, (role, rest)))))) fails =
    name (λ named. role (λ r is_role. fails (record {
      is_row = record {
        value = record { name = row.name; role = r };
        passes = named;
        row_is = λ t. record row { role = is_role t };
      };
      within = no_greater row.number 9999 limit;
      there = passes (is_office offices row.office) office;
    })))

-- rows of staff, office by office
pub record AreStaffRows (offices : List OfficeRow) (rows : List StaffRow) : Type 0 where
  pub starts : AreStarted (λ (s : StaffRow). s.office) (λ s. s.number) rows
  pub each : AllByRecursion (IsStaffRow offices) rows

pub staff_are : (offices : List OfficeRow) (rows : List StaffRow)
    → Walk (Keeps staff_flaws (BreaksStaff offices)) None rows → ¬ ¬ AreStaffRows offices rows
staff_are offices rows walk fails =
    all_stand (IsStaffRow offices) rows
    (walk_each (Keeps staff_flaws (BreaksStaff offices)) _ (staff_is offices) None rows walk)
    (λ each. fails (record {
      starts = pairs_start (λ (s : StaffRow). s.office) (λ s. s.number) rows
          (walk_weaker (Keeps staff_flaws (BreaksStaff offices))
          (IsNumbered (λ (s : StaffRow). s.office) (λ s. s.number))
          (λ b r keeps. (is_after by_staff b r keeps.0, same_number r.number _ keeps.1.1.0)) None rows walk);
      each = each;
    }))

-- ---- clients

-- a row of a client of an office that is there
pub record IsClientRow (offices : List OfficeRow) (row : ClientRow) : Type 0 where
  pub is_row : IsRowOf (client_in row.office) IsName row.number row
  pub within : row.number ≤ 999999
  pub there : is_office offices row.office ≡ true

client_is : (offices : List OfficeRow) (before : Option ClientRow) (row : ClientRow)
    → Keeps client_flaws (BreaksClient offices) before row → ¬ ¬ IsClientRow offices row
client_is offices before row (order, (office, (number, (limit, (name, rest))))) fails =
    name (λ named. fails (record {
      is_row = record { value = row.name; passes = named; row_is = refl };
      within = no_greater row.number 999999 limit;
      there = passes (is_office offices row.office) office;
    }))

-- rows of clients, office by office
pub record AreClientRows (offices : List OfficeRow) (rows : List ClientRow) : Type 0 where
  pub starts : AreStarted (λ (c : ClientRow). c.office) (λ c. c.number) rows
  pub each : AllByRecursion (IsClientRow offices) rows

pub clients_are : (offices : List OfficeRow) (rows : List ClientRow)
    → Walk (Keeps client_flaws (BreaksClient offices)) None rows → ¬ ¬ AreClientRows offices rows
clients_are offices rows walk fails =
    all_stand (IsClientRow offices) rows
    (walk_each (Keeps client_flaws (BreaksClient offices)) _ (client_is offices) None rows walk)
    (λ each. fails (record {
      starts = pairs_start (λ (c : ClientRow). c.office) (λ c. c.number) rows
          (walk_weaker (Keeps client_flaws (BreaksClient offices))
          (IsNumbered (λ (c : ClientRow). c.office) (λ c. c.number))
          (λ b r keeps. (is_after by_client b r keeps.0, same_number r.number _ keeps.1.1.0)) None rows walk);
      each = each;
    }))
