use Rattle.std.proofs.Common.{◌≡◌, List, ℕ, map, length, ap, sym, ◌∙◌}
use Rattle.mf_account.specs.declared.balances.Balances.{Balances}
use Rattle.mf_account.specs.declared.settled.SettledPart.{SettledPart}
use Rattle.mf_statement.specs.Lines.{line_among}
use Rattle.mf_account.specs.Change.{KeptAccount}
use Rattle.mf_statement.proofs.PartLemmas.{lines-are}
use Rattle.mf_statement.proofs.entries.entry_lines.Goals as goal

pub returns-clause-lines : goal.returns-clause-lines
returns-clause-lines c =
    let account : KeptAccount = c.args.account in
    let refunded : c.balances-refunded.result.refunded ≡ account.state.refunded =
    ap (λ (b : Balances). b.refunded) c.balances-refunded.ensures.value in
    let size : length c.into_entries.result.items ≡ c.entry_count.result =
    ap length c.into_entries.ensures.entries ∙ sym c.entry_count.ensures.count in
    c.new.ensures
    ∙ lines-are c.balances-refunded.result.refunded c.entry_count.result c.settled_parts.result.now
    c.into_entries.result.items c.in_ok-parts.parts.items c.in_ok-lines.lines.items size
    c.into_entries.ensures.numbers c.in_ok-parts.ensures.each c.in_ok-lines.ensures.lines
    ∙ ap (map (line_among c.settled_parts.result.now c.balances-refunded.result.refunded))
    c.into_entries.ensures.entries
    ∙ ap (λ (x : List SettledPart). map (line_among x c.balances-refunded.result.refunded) account.loan.entries)
    c.settled_parts.ensures.parts
    ∙ ap (λ (x : ℕ). map (line_among account.settled x) account.loan.entries) refunded
