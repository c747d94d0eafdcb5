use Rattle.std.proofs.Common.{◌≡◌, string_bytes, rules}
use Rattle.mf_office.specs.Written.{caller_text}
use Rattle.mf_office.specs.Texts.{IsCaller}
use Rattle.mf_office.proofs.ReadLemmas.{caller_of-text}
use Rattle.mf_office.proofs.caller.Caller.text.Goals as goal

pub returns-clause-reads_back : goal.returns-clause-reads_back
returns-clause-reads_back c =
    let range : IsCaller c.args.self = search rules in
    let text : string_bytes c.in_ok-text.text ≡ caller_text c.args.self.office c.args.self.staff = search rules in
    caller_of-text _ c.args.self range text
