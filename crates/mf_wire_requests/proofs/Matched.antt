-- What a route's parameters take of a path of ASCII is text.
use Rattle.std.proofs.Common.{◌≡◌, ℕ, zero, suc, ◌-◌, ◌<◌, Bool, true, false, cond, List, [], ◌∷◌, Option, Some, None}
use Rattle.std.proofs.Common.{take, drop, length, refl, ap, sym, ◌∙◌, arith}
use Rattle.std.specs.Prelude.{◌==◌, ◌&&◌, nat_lt, ltb, leb, IfSome}
use Rattle.std.specs.Char.{is_ascii}
use Rattle.std.specs.List.{list_all}
use Rattle.std.specs.Str.{IsAscii, IsUtf8}
use Rattle.std.proofs.lemmas.Bool.{and_parts}
use Rattle.std.proofs.lemmas.Bool.Decides.{nat_tests}
use Rattle.std.proofs.lemmas.Str.{IsAscii-take, IsAscii-drop, IsUtf8-from_ascii}
use Rattle.std.proofs.lemmas.Str.Ascii.{IsAscii-nil}
use Rattle.matchit.specs.Params.{part_of, walk, AllText}
use Rattle.matchit.specs.Rows.{RowsOf, param_token, catch_all_token}
use Rattle.matchit.specs.Router.{RouteOf}
use Rattle.matchit.specs.Seek.{segment, has_slash, same_text, own, step, or_else, longest_suffix, with_suffix}
use Rattle.matchit.specs.Seek.{param_step, seek, first}
use Rattle.matchit.proofs.OnLiterals.{matchit_on_literals}
use Rattle.mf_wire_requests.specs.declared.routes.Methods.{Methods}
use Rattle.mf_wire_requests.specs.Routes.{with_route, desk_routes}

-- bytes of ASCII
head_ascii : (x : ℕ) (b : Bool) → (nat_lt x 128 && b) ≡ true → x < 128
head_ascii x b h = grind (arith, nat_tests)

more_ascii : (x : ℕ) (xs : List ℕ) → x < 128 → IsAscii xs → IsAscii (x ∷ xs)
more_ascii x xs h a zero = h
more_ascii x xs h a (suc i) = a i

pub ascii_bytes : (bs : List ℕ) → list_all is_ascii bs ≡ true → IsAscii bs
ascii_bytes [] h = IsAscii-nil
ascii_bytes (x ∷ xs) h = more_ascii x xs (head_ascii x (list_all is_ascii xs) h)
    (ascii_bytes xs (and_parts (nat_lt x 128) (list_all is_ascii xs) h).1)

part_text : (bs : List ℕ) (start end : ℕ) → IsAscii bs → IsUtf8 (part_of bs start end)
part_text bs start end h = IsUtf8-from_ascii (part_of bs start end) (either (leb start end && leb end (length bs)))
  where
    either : (b : Bool) → IsAscii (cond b (take (end - start) (drop start bs)) [])
    either true = IsAscii-take (drop start bs) (end - start) (IsAscii-drop bs start h)
    either false = IsAscii-nil

pub walk_text : (pattern text path : List ℕ) (names : List (ℕ × ℕ)) (token at : ℕ) → IsAscii text → IsAscii path
    → AllText (walk pattern text path names token at)
walk_text pattern text path [] token at t p = tt
walk_text pattern text path (name ∷ names) token at t p =
    (part_text text name.0 name.1 t, part_text path _ _ p, walk_text pattern text path names _ _ t p)

-- what holds of the key of each row
module _ {K : Type 0} (P : K → Type 0) where
  abbrev pub AllKeys : RowsOf K → Type 0
  AllKeys [] = Unit {0}
  AllKeys ((t, k) ∷ rest) = P k × AllKeys rest

  own_key : (rs : RowsOf K) → AllKeys rs → IfSome (own rs) P
  own_key [] a = tt
  own_key (([], k) ∷ rest) a = a.0
  own_key ((x ∷ t, k) ∷ rest) a = own_key rest a.1

  step_keys : (b : ℕ) (rs : RowsOf K) → AllKeys rs → AllKeys (step b rs)
  step_keys b [] a = tt
  step_keys b (([], k) ∷ rest) a = step_keys b rest a.1
  step_keys b ((x ∷ t, k) ∷ rest) a = either (x == b) (step_keys b rest a.1)
    where
      either : (c : Bool) → AllKeys (step b rest) → AllKeys (cond c ((t, k) ∷ step b rest) (step b rest))
      either true r = (a.0, r)
      either false r = r

  suffix_keys : (suffix : List ℕ) (rs : RowsOf K) → AllKeys rs → AllKeys (with_suffix suffix rs)
  suffix_keys suffix [] a = tt
  suffix_keys suffix ((t, k) ∷ rest) a = either (same_text (segment t) suffix) (suffix_keys suffix rest a.1)
    where
      either : (c : Bool) → AllKeys (with_suffix suffix rest) → AllKeys (cond c ((t, k) ∷ with_suffix suffix rest)
          (with_suffix suffix rest))
      either true r = (a.0, r)
      either false r = r

  abbrev ParamStep : Type 0
  ParamStep = ℕ × RowsOf K

  param_keys : (rs : RowsOf K) (path : List ℕ) → AllKeys rs → AllKeys (param_step rs path).1
  unfolding param_step
  param_keys rs path a = either (ltb 0 (length (longest_suffix (segment path) rs))) (has_slash path)
    where
      none : ParamStep
      none = (0, [])

      all : ParamStep
      all = (length path, rs)

      cut : ParamStep
      cut = (
        length (segment path) - length (longest_suffix (segment path) rs),
        with_suffix (longest_suffix (segment path) rs) rs,
      )

      either : (b c : Bool) → AllKeys (cond b cut (cond c none all)).1
      either true c = suffix_keys (longest_suffix (segment path) rs) rs a
      either false true = tt
      either false false = a

  either_key : (a b : Option K) → IfSome a P → IfSome b P → IfSome (or_else a b) P
  either_key None b h k = k
  either_key (Some x) b h k = h

  pub seek_key : (skip : ℕ) (rs : RowsOf K) (path : List ℕ) → AllKeys rs → IfSome (seek skip rs path) P
  unfolding seek
  seek_key skip rs [] a = own_key rs a
  seek_key (suc skip) rs (b ∷ path) a = seek_key skip rs path a
  seek_key zero rs (b ∷ path) a =
      either_key (seek 0 (step b rs) path) _ (seek_key 0 (step b rs) path (step_keys b rs a))
      (either_key (seek ((param_step (step param_token rs) (b ∷ path)).0 - 1) (param_step (step param_token rs)
      (b ∷ path)).1 path) (own (step catch_all_token rs))
      (seek_key ((param_step (step param_token rs) (b ∷ path)).0 - 1) (param_step (step param_token rs) (b ∷ path)).1
      path (param_keys (step param_token rs) (b ∷ path) (step_keys param_token rs a)))
      (own_key (step catch_all_token rs) (step_keys catch_all_token rs a)))

-- the texts of the desk's routes are of ASCII
abbrev IsAsciiRoute : RouteOf Methods → Type 0
IsAsciiRoute route = list_all is_ascii route.text ≡ true

keys_from : (rs : RowsOf (RouteOf Methods)) → list_all (λ row. list_all is_ascii row.1.text) rs ≡ true
    → AllKeys IsAsciiRoute rs
keys_from [] h = tt
keys_from ((t, route) ∷ rest) h = let both =
    and_parts (list_all is_ascii route.text) _ h in (both.0, keys_from rest both.1)

desk_keys : list_all (λ row. list_all is_ascii row.1.text) desk_routes ≡ true
unfolding desk_routes with_route matchit_on_literals
desk_keys = refl

pub desk_text : (path : List ℕ) (route : RouteOf Methods) → first desk_routes path ≡ Some route → IsAscii route.text
desk_text path route e = ascii_bytes route.text (at (first desk_routes path) e (seek_key IsAsciiRoute 0 desk_routes path
    (keys_from desk_routes desk_keys)))
  where
    at : (o : Option (RouteOf Methods)) → o ≡ Some route → IfSome o IsAsciiRoute → IsAsciiRoute route
    at None e h = absurd (cc)
    at (Some r) e h = let same : r ≡ route = cc in ap (λ (r : RouteOf Methods). list_all is_ascii r.text) (sym same) ∙ h
