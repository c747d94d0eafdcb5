use Rattle.std.proofs.Common.{◌≡◌, true, map, string_bytes, sym, subst, refl}
use Rattle.std.proofs.lemmas.Result.{IfOk-weaker, IfErr-weaker}
use Rattle.std.specs.Prelude.{Result, Ok, Err, IfOk, IfErr, MatchResult}
use Rattle.clap.specs.Words.{HasMatchesOf, takes, fault_of, is_simple_and_free, FailsBy}
use Rattle.microloan_words.specs.Options.{microloan_app}
use Rattle.microloan_words.proofs.asking.matches_of.Goals as goal

pub returns-clause-ok : goal.returns-clause-ok
returns-clause-ok c = IfOk-weaker c.try_get_matches_from.result _ _
    (λ m h. (subst (λ a. HasMatchesOf a (map string_bytes c.args.words.now) m) c.in_ok-command.ensures.app h refl).1)
    c.try_get_matches_from.ensures.matches

pub returns-clause-err : goal.returns-clause-err
returns-clause-err c = IfErr-weaker c.try_get_matches_from.result _ _
    (λ e h k. h (subst (λ a. takes a (map string_bytes c.args.words.now) ≡ true) (sym c.in_ok-command.ensures.app) k))
    c.try_get_matches_from.ensures.passes

if_ok : {A E : Type 0} (r : Result A E) (P : A → Type 0) (Q : E → Type 0) → MatchResult r P Q → IfOk r P
if_ok (Ok x) P Q h = h
if_ok (Err e) P Q h = tt

if_err : {A E : Type 0} (r : Result A E) (P : A → Type 0) (Q : E → Type 0) → MatchResult r P Q → IfErr r Q
if_err (Ok x) P Q h = tt
if_err (Err e) P Q h = h

simple : is_simple_and_free microloan_app ≡ true
simple = refl

pub returns-clause-sound : goal.returns-clause-sound
returns-clause-sound c =
    let r = c.try_get_matches_from.result in
    let app = c.in_ok-command.ensures.app in
    let fails = c.try_get_matches_from.ensures.kinds (subst (λ a. is_simple_and_free a ≡ true) (sym app) simple) in
    if_ok r _ _ (subst (λ a. FailsBy (fault_of a (map string_bytes c.args.words.now)) r) app fails)

pub returns-clause-kinds : goal.returns-clause-kinds
returns-clause-kinds c =
    let r = c.try_get_matches_from.result in
    let app = c.in_ok-command.ensures.app in
    let fails = c.try_get_matches_from.ensures.kinds (subst (λ a. is_simple_and_free a ≡ true) (sym app) simple) in
    if_err r _ _ (subst (λ a. FailsBy (fault_of a (map string_bytes c.args.words.now)) r) app fails)
