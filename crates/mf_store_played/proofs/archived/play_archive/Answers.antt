use Rattle.std.proofs.Common.{◌+◌, ap, ◌∙◌}
use Rattle.mf_store_played.proofs.archived.play_archive.Goals as goal

pub returns-in-Ok-Ok-clause-plays : goal.returns-in-Ok-Ok-clause-plays
returns-in-Ok-Ok-clause-plays g c ok lines part i stands =
    let plays = rw c.in-Ok-Ok.field-0-is at (c.in-Ok-Ok.ensures {u = tt}).plays in
    (plays c.args.archive.now.begins lines (c.rows_of_lines.ensures lines part)).came ok i stands

pub returns-in_ok-number-in-Ok-Err-clause-plays : goal.returns-in_ok-number-in-Ok-Err-clause-plays
returns-in_ok-number-in-Ok-Err-clause-plays g c ok lines part i stands =
    let plays = rw c.in-Ok-Err.field-0-is at (c.in-Ok-Err.ensures {u = tt}).plays in
    let stop = ((plays c.args.archive.now.begins lines (c.rows_of_lines.ensures lines part)).came ok i stands).0 in
    let place = c.in-Ok-Err.place in (
      place,
      c.in_ok-number-in-Ok-Err.ensures.number ∙ ap (λ n. n + place + 1) c.in_ok-begins.ensures.same,
      stop,
    )
