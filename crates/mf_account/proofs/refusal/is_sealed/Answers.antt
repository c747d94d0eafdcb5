use Rattle.std.proofs.Common.{false, ◌∙◌, ap}
use Rattle.std.specs.Option.{option_map_or}
use Rattle.mf_account.specs.Kinds.{is_seal}
use Rattle.mf_account.proofs.SealLemmas.{by-kind, sealed-by-last}
use Rattle.mf_account.proofs.refusal.is_sealed.Goals as goal

pub returns : goal.returns
returns c =
    by-kind is_seal c.is_some_and.result c.last_kind.result c.is_some_and.ensures
    ∙ ap (λ last. option_map_or is_seal last false) c.last_kind.ensures
    ∙ sealed-by-last c.requires.entries.0 c.requires.entries.1 c.args.entries.now c.requires.entries.2
