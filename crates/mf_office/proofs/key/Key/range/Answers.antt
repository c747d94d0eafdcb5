use Rattle.std.proofs.Common.{◌≡◌, ◌++◌, length, string_bytes, string_len, rules, ◌∙◌, ap, lit<}
use Rattle.mf_office.specs.Keys.{EndsWithDot, with_last_raised}
use Rattle.mf_office.proofs.TextLemmas.{raised-popped}
use Rattle.mf_office.proofs.key.Key.range.Goals as goal

pub returns-clause-high : goal.returns-clause-high
returns-clause-high c =
    let high = string_bytes c.in_ok-high.high in
    let rest = string_bytes c.pop-dot.new.self in
    let same : high ≡ c.args.self.now = c.in_ok-high.ensures.ok ∙ c.as_str-2.ensures.text in
    let len : string_len c.in_ok-high.high ≡ length high = search rules in
    let dot : EndsWithDot high = rw c.in_ok-high.ensures.ok c.as_str-2.ensures.dot in
    c.in_ok-push.ensures.bytes
    ∙ ap (λ t. rest ++ t) (c.in_ok-push.ensures.ascii (lit< tt))
    ∙ raised-popped high rest (string_len c.in_ok-high.high) dot len c.pop-dot.ensures.ascii_bytes
    ∙ ap with_last_raised same
