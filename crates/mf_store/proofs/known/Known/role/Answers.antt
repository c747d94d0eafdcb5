use Rattle.std.proofs.Common.{◌≡◌, Some, rules}
use Rattle.mf_office.specs.declared.staff.Role.{Role}
use Rattle.mf_model.specs.Store.{role_of}
use Rattle.mf_store.proofs.KeptLemmas.{found_true}
use Rattle.mf_store.proofs.known.Known.role.Goals as goal

pub returns : goal.returns
returns c = rw (← c.self.view_is) (λ i known. found_true (λ r. r) (λ (r : Role). role_of c.args.caller i ≡ Some r) _
    c.copied.result (search rules) (known.roles c.args.caller))
