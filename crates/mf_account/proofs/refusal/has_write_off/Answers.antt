use Rattle.std.proofs.Common.{false, ◌∙◌, ap}
use Rattle.std.specs.Option.{option_map_or}
use Rattle.mf_account.specs.Kinds.{is_write_off}
use Rattle.mf_account.proofs.SealLemmas.{by-kind, written_off-by-last}
use Rattle.mf_account.proofs.refusal.has_write_off.Goals as goal

pub returns : goal.returns
returns c =
    by-kind is_write_off c.is_some_and.result c.last_kind.result c.is_some_and.ensures
    ∙ ap (λ last. option_map_or is_write_off last false) c.last_kind.ensures
    ∙ written_off-by-last c.requires.entries.0 c.requires.entries.1 c.args.entries.now c.requires.entries.2
