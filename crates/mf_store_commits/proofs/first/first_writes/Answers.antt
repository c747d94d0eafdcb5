use Rattle.std.proofs.Common.{◌≡◌, ℕ, None, Some, List, [], ◌∷◌, codes, refl, ◌∙◌, arith}
use Rattle.mf_base.specs.DayText.{day_text}
use Rattle.mf_office.specs.Keys.{key_of, key_within}
use Rattle.mf_store_schema.specs.Rows.{empty_lists}
use Rattle.mf_store_schema.specs.declared.meta.MetaRow.{MetaRow}
use Rattle.mf_store_schema.specs.declared.offices.OfficeRow.{OfficeRow}
use Rattle.mf_store_schema.specs.declared.staff.StaffRow.{StaffRow}
use Rattle.mf_store_schema.specs.declared.writes.StoreWrite.{StoreWrite}
use Rattle.mf_store_schema.specs.declared.writes.StoreWrite.TheVariants.{MakeTables, PutMeta, PutOffice, PutStaff}
use Rattle.mf_store_commits.specs.Becoming.{Begins}
use Rattle.mf_store_commits.proofs.first.first_writes.Goals as goal

-- the rows of a new institution
abbrev meta : List ℕ → MetaRow
meta day = record { one = 1; schema = 2; day = day }

abbrev head : List ℕ → List ℕ → OfficeRow
head key name = record { number = 1; parent = None; hkey = key; name = name }

abbrev manager : List ℕ → StaffRow
manager name = record { office = 1; number = 1; name = name; role = 3 }

-- the tables, and these rows
abbrev writes : List ℕ → List ℕ → List ℕ → List ℕ → List StoreWrite
writes day key office staff =
    MakeTables ∷ PutMeta (meta day) ∷ PutOffice (head key office) ∷ PutStaff (manager staff) ∷ []

begins : (day : ℕ) (text key office staff : List ℕ) → text ≡ day_text day → key ≡ codes "."
    → office ≡ codes "Head Office" → staff ≡ codes "Head Manager" → Begins (writes text key office staff) day
unfolding key_of key_within
begins day text key office staff day_is key_is office_is staff_is = record {
  some = omega arith;
  fits = (refl, (refl, (refl, (refl, tt))));
  is = λ k. Some (record empty_lists {
    meta = meta (day_is k) ∷ [];
    offices = head (key_is k) (office_is k) ∷ [];
    staff = manager (staff_is k) ∷ [];
  });
}

pub returns-clause-writes : goal.returns-clause-writes
returns-clause-writes c =
    rw (c.in_ok-push-4.ensures.items, c.in_ok-push-3.ensures.items, c.in_ok-push-2.ensures.items)
    (rw (c.in_ok-push.ensures.items, c.new-writes.ensures.items) (begins c.args.day c.new.result c.new-2.result
    c.new-3.result c.new-4.result (c.new.ensures ∙ c.in_ok-text.ensures.ok)
    (c.new-2.ensures ∙ c.in_ok-from_str.ensures.ok) (c.new-3.ensures ∙ c.in_ok-from_str-2.ensures.ok)
    (c.new-4.ensures ∙ c.in_ok-from_str-3.ensures.ok)))
