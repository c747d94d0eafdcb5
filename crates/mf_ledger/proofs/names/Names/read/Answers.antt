use Rattle.std.proofs.Common.{◌≡◌, ◌++◌, ◌∷◌, [], ℕ, List, Bor, map, ap, ◌∙◌, sym}
use Rattle.std.specs.List.{filter_map, cons_option}
use Rattle.std.proofs.lemmas.List.{map-append}
use Rattle.std.proofs.lemmas.List.Elements.{filter_map-append}
use Rattle.std.proofs.lemmas.Iterator.Splits.{YieldsList-from_lines}
use Rattle.std.proofs.lemmas.Iterator.Consumers.{YieldsList-end}
use Rattle.mf_ledger.specs.declared.names.GivenName.{GivenName}
use Rattle.mf_ledger.specs.Names.{name_in}
use Rattle.mf_ledger.proofs.names.Names.read.Goals as goal

-- the names of one line more
one_more : (before : List (Bor (List ℕ))) (line : Bor (List ℕ))
    → filter_map name_in (map (λ (x : Bor (List ℕ)). x.now) (before ++ line ∷ []))
    ≡ filter_map name_in (map (λ (x : Bor (List ℕ)). x.now) before) ++ cons_option (name_in line.now) []
one_more before line =
    ap (filter_map name_in) (map-append (λ (x : Bor (List ℕ)). x.now) before (line ∷ []))
    ∙ filter_map-append name_in (map (λ (x : Bor (List ℕ)). x.now) before) (line.now ∷ [])

pub loop-line-preserved : goal.loop-line-preserved
loop-line-preserved c =
    c.in_ok-push_name.ensures.names
    ∙ ap (λ (names : List GivenName). names ++ cons_option (name_in c.in-Some.line.now) []) c.loop-line.invariant
    ∙ sym (one_more c.loop-line.yielded c.in-Some.line)

pub returns-clause-names : goal.returns-clause-names
returns-clause-names c =
    let rest = ap (λ l. l.rest.now) c.into_iter-line-iterator.ensures.into_iter_gives
    ∙ c.lines-line-items.ensures.rest in
    let all = YieldsList-end (YieldsList-from_lines c.args.text.now rest) c.loop-line.yielded _ c.loop-line.yielded_by
    _ _ c.in-None.is c.next.ensures.steps in
    c.loop-line.invariant ∙ ap (filter_map name_in) all.0
