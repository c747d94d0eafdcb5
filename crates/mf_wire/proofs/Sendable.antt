-- Parts of a request are those of the line that they make.
use Rattle.std.proofs.Common.{◌≡◌, ℕ, suc, ◌+◌, Bool, true, false, cond, List, [], ◌∷◌, ◌++◌, Some, None}
use Rattle.std.proofs.Common.{refl, ap, ap₂, ◌∙◌, arith, length, length-append, take, drop, append-nil}
use Rattle.std.specs.Prelude.{◌==◌, not, nat_lt, option_map, unwrap_or}
use Rattle.std.specs.List.{position, position_or_len}
use Rattle.std.proofs.lemmas.Bool.{ne_eqb}
use Rattle.std.proofs.lemmas.Bool.Decides.{nat_tests}
use Rattle.std.proofs.Math.Seq.{take-append_seam, drop-append-add}
use Rattle.mf_wire_requests.specs.RequestLine.{Parts, split_space, path_and_body, after_caller}
use Rattle.mf_wire_requests.specs.RequestLine.{parts_after, parts_of_line}
use Rattle.mf_wire_requests.specs.RequestLine.{with_told, behind_space, line_of_parts, fit_line}
use Rattle.mf_wire_requests.specs.Requests.{call_of, call_of_parts}
use Rattle.mf_wire.specs.Senders.{HasNoSpace}
use Rattle.mf_wire.proofs.Calling.{line_call}

abbrev is_space : ℕ → Bool
is_space b = b == 32

-- the first space of a text stands behind what has none
place_of : (xs ys : List ℕ) → HasNoSpace xs → position_or_len is_space (xs ++ 32 ∷ ys) ≡ length xs
place_of [] ys h = refl
place_of (x ∷ xs) ys h =
    let rest = place_of xs ys h.1 in
    let more : 1 + position_or_len is_space (xs ++ 32 ∷ ys) ≡ length (x ∷ xs) = omega (arith, rest) in
    ap (λ t. cond (not t) (1 + position_or_len is_space (xs ++ 32 ∷ ys)) 0) (ne_eqb x 32 h.0) ∙ more

no_place : (xs : List ℕ) → HasNoSpace xs → position_or_len is_space xs ≡ length xs
no_place [] h = refl
no_place (x ∷ xs) h =
    let rest = no_place xs h.1 in
    let more : 1 + position_or_len is_space xs ≡ length (x ∷ xs) = omega (arith, rest) in
    ap (λ t. cond (not t) (1 + position_or_len is_space xs) 0) (ne_eqb x 32 h.0) ∙ more

behind : (xs ys : List ℕ) → drop (length xs + 1) (xs ++ 32 ∷ ys) ≡ ys
behind xs ys = drop-append-add xs (32 ∷ ys) 1

is_before : (n m : ℕ) → nat_lt n (n + suc m) ≡ true
is_before n m = grind (arith, nat_tests)

not_before : (n : ℕ) → nat_lt n n ≡ false
not_before n = grind (arith, nat_tests)

split_there : (xs ys : List ℕ) → HasNoSpace xs → split_space (xs ++ 32 ∷ ys) ≡ Some (xs, ys)
split_there xs ys h =
    let text = xs ++ 32 ∷ ys in
    let long : length text ≡ length xs + suc (length ys) = length-append xs (32 ∷ ys) in
    let less : nat_lt (length xs) (length text) ≡ true =
    ap (nat_lt (length xs)) long ∙ is_before (length xs) (length ys) in
    let place : position is_space text ≡ Some (length xs) =
    ap (λ n. cond (nat_lt n (length text)) (Some n) None) (place_of xs ys h)
    ∙ ap (λ b. cond b (Some (length xs)) None) less in
    ap (option_map (λ at. (take at text, drop (at + 1) text))) place
    ∙ ap₂ (λ (x y : List ℕ). Some (x, y)) (take-append_seam xs (32 ∷ ys)) (behind xs ys)

split_nowhere : (xs : List ℕ) → HasNoSpace xs → split_space xs ≡ None
split_nowhere xs h =
    let place : position is_space xs ≡ None =
    ap (λ n. cond (nat_lt n (length xs)) (Some n) None) (no_place xs h)
    ∙ ap (λ b. cond b (Some (length xs)) None) (not_before (length xs)) in
    ap (option_map (λ at. (take at xs, drop (at + 1) xs))) place

path_then_body : (path body : List ℕ) → HasNoSpace path → path_and_body (path ++ behind_space body) ≡ (path, body)
path_then_body path [] h =
    let all : path ++ [] ≡ path = append-nil path in
    ap path_and_body all ∙ ap (λ o. unwrap_or o (path, [])) (split_nowhere path h)
path_then_body path (b ∷ body) h =
    ap (λ o. unwrap_or o (path ++ 32 ∷ b ∷ body, [])) (split_there path (b ∷ body) h)

parts_again : (p : Parts) → HasNoSpace p.caller → HasNoSpace p.method → HasNoSpace p.path
    → parts_of_line (line_of_parts p) ≡ Some (with_told [] p)
parts_again p caller method path =
    let rest = p.path ++ behind_space p.body in
    ap parts_after (split_there p.caller (p.method ++ 32 ∷ rest) caller)
    ∙ ap (option_map (after_caller (p.caller, p.method ++ 32 ∷ rest))) (split_there p.method rest method)
    ∙ ap (λ (q : List ℕ × List ℕ). Some (record {
      told = [];
      caller = p.caller;
      method = p.method;
      path = q.0;
      body = q.1;
    })) (path_then_body p.path p.body path)

-- so the line asks what they ask, where it isn't too long
pub parts_sent : (p : Parts) → HasNoSpace p.caller → HasNoSpace p.method → HasNoSpace p.path → fit_line p ≡ true
    → call_of (line_of_parts p) ≡ call_of_parts (with_told [] p)
parts_sent p caller method path fits =
    line_call false (line_of_parts p) (with_told [] p) fits (parts_again p caller method path)
