use Rattle.std.proofs.Common.{◌≡◌, ◌+◌, Bool, true, false, cond, List, [], ◌∷◌, length, ap, sym, refl, arith}
use Rattle.std.specs.Prelude.{not, ◌||◌, None, Some}
use Rattle.std.specs.List.{list_any, position_or_len, before_first, after_first}
use Rattle.mf_ledger.specs.Names.{is_equals_sign}
use Rattle.mf_ledger.proofs.names.name_in.Goals as goal

-- where the first that passes is the end, none passes
none_passes : {X : Type 0} (p : X → Bool) (xs : List X) → position_or_len p xs ≡ length xs → list_any p xs ≡ false
none_passes p [] h = refl
none_passes {X = X} p (x ∷ xs) h = go (p x) h (none_passes p xs)
  where
    go : (b : Bool) → cond (not b) (1 + position_or_len p xs) 0 ≡ length (x ∷ xs)
        → (position_or_len p xs ≡ length xs → list_any p xs ≡ false) → (b || list_any p xs) ≡ false
    go true h rest = absurd (omega (arith, h))
    go false h rest = rest (omega (arith, h))

pub returns-in-None-clause-name : goal.returns-in-None-clause-name
returns-in-None-clause-name c =
    let none : position_or_len is_equals_sign c.args.line.now ≡ length c.args.line.now =
    c.in-None.ensures.byte (omega arith) (λ w o x. x) in
    sym (ap (λ (b : Bool). cond b (Some (record {
      ours = before_first is_equals_sign c.args.line.now;
      theirs = after_first is_equals_sign c.args.line.now;
    })) None) (none_passes is_equals_sign c.args.line.now none))
