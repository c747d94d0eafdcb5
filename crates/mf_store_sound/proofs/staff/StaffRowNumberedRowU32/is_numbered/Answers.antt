use Rattle.std.proofs.Common.{◌≡◌, sym, arith}
use Rattle.std.proofs.lemmas.Bool.Decides.{nat_tests}
use Rattle.mf_store_sound.proofs.RowLemmas.{member_is}
use Rattle.mf_store_sound.proofs.staff.StaffRowNumberedRowU32.is_numbered.Goals as goal
use Rattle.mf_store_sound.proofs.staff.StaffRowNumberedRowU32.is_numbered.Goals.{then-self-office, else-self-office}

pub returns-then-self-number : goal.returns-then-self-number
returns-then-self-number c of =
    let same : (c.args.self.now.office ≡ c.args.office) × (c.args.self.now.number ≡ c.args.number) =
    elim c.if-self-office.branch [
      | then-self-office w ↦ grind (arith, nat_tests)
      | else-self-office w ↦ grind
          (arith, nat_tests)
    ] in
    member_is c.args.office c.args.number c.args.self.now c.in-Some.field-0 c.as_str.result.now c.is_name.result same.0
    same.1 (sym c.in-Some.ensures.some) c.as_str.ensures c.is_name.ensures
