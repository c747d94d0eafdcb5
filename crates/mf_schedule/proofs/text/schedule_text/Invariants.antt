use Rattle.std.proofs.Common.{◌≡◌, ◌≤◌, ◌*◌, ◌^◌, take}
use Rattle.std.specs.String.{string_bytes}
use Rattle.mf_schedule.specs.Fresh.{total_interest, total_principal}
use Rattle.mf_schedule.specs.ScheduleText.{row_lines}
use Rattle.mf_schedule.proofs.text.schedule_text.Given as goal

abbrev pub invariant-loop-place : goal.invariant-loop-place
invariant-loop-place l = record {
  written : string_bytes l.text ≡ row_lines (take l.place l.rows);
  principals : l.principal ≡ total_principal (take l.place l.rows);
  interests : l.interest ≡ total_interest (take l.place l.rows);
  little_principal : l.principal ≤ 2 ^ 64 * l.place;
  little_interest : l.interest ≤ 2 ^ 64 * l.place;
}
