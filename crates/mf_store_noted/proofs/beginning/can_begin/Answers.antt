use Rattle.std.proofs.Common.{rules}
use Rattle.mf_store_noted.proofs.CanBeLemmas.{can_begin_by, has_place}
use Rattle.mf_store_noted.proofs.beginning.can_begin.Goals as goal

pub returns : goal.returns
returns c = (
  λ fits. can_begin_by c.args.begins c.beginning_row.result c.beginning_row.ensures (c.has_room.ensures.0 fits)
      (search rules),
  λ can. c.has_room.ensures.1 (has_place c.args.begins c.beginning_row.result c.beginning_row.ensures can),
)
