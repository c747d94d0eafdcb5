-- The parts of a request line.
use Rattle.std.specs.Prelude.{ℕ, ◌==◌, Bool, true, false, ◌&&◌, ◌||◌, cond, List, [], ◌∷◌, ◌++◌, length, nat_le, nat_lt}
use Rattle.std.specs.Prelude.{codes, Option, None, option_map, option_and_then, unwrap_or}
use Rattle.std.specs.List.{list_any, list_all}
use Rattle.std.specs.Char.{is_ascii_alphanumeric}
use Rattle.mf_base.specs.Texts.{parts_round}
use Rattle.mf_wire_lines.specs.Cut.{longest_line}
use Rattle.mf_wire_lines.specs.Told.{may_be_told}
use Rattle.mf_wire_requests.specs.declared.request_line.LineParts.{LineParts}

-- the parts of a request, as bytes: what is told of it, and those of its line
pub record Parts : Type 0 where
  pub told : List ℕ
  pub caller : List ℕ
  pub method : List ℕ
  pub path : List ℕ
  pub body : List ℕ

-- the bytes of the parts
abbrev pub parts_now : LineParts → Parts
parts_now p = record {
  told = p.told.now;
  caller = p.caller.now;
  method = p.method.now;
  path = p.path.now;
  body = p.body.now;
}

-- what stands before and after the first space, where there is one
abbrev pub split_space : List ℕ → Option (List ℕ × List ℕ)
split_space text = parts_round 32 text

-- the path and the body; the path may be all
abbrev pub path_and_body : List ℕ → List ℕ × List ℕ
path_and_body text = unwrap_or (split_space text) (text, [])

-- the parts, where the caller and the method are cut off; nothing is told
abbrev pub after_caller : List ℕ × List ℕ → List ℕ × List ℕ → Parts
after_caller first second = record {
  told = [];
  caller = first.0;
  method = second.0;
  path = (path_and_body second.1).0;
  body = (path_and_body second.1).1;
}

-- the parts of a line whose caller is cut off, if there is a method
abbrev pub parts_after : Option (List ℕ × List ℕ) → Option Parts
parts_after first = option_and_then (λ f. option_map (after_caller f) (split_space f.1)) first

-- The caller, the method and the path, with a space after each of the first two. After a further space comes the body.
abbrev pub parts_of_line : List ℕ → Option Parts
parts_of_line line = parts_after (split_space line)

-- the first word of a line may be told of it: it is not empty
abbrev pub is_told_word : List ℕ → Bool
is_told_word word = nat_lt 0 (length word) && may_be_told word

-- the parts, of which this is told
abbrev pub with_told : List ℕ → Parts → Parts
with_told told p = record p { told = told }

-- the parts of the line behind a first word, which is told of it
abbrev pub parts_told : List ℕ × List ℕ → Option Parts
parts_told first = cond (is_told_word first.0) (option_map (with_told first.0) (parts_of_line first.1)) None

-- the parts of a line: where it is so, its first word is told of the line behind it
abbrev pub parts_in : Bool → List ℕ → Option Parts
parts_in false line = parts_of_line line
parts_in true line = option_and_then parts_told (split_space line)

-- the line without the word that is told of it, where its first word is
abbrev pub line_in : Bool → List ℕ → List ℕ
line_in false line = line
line_in true line = (unwrap_or (split_space line) (line, [])).1

-- a body with a space before it, where there is one
abbrev pub behind_space : List ℕ → List ℕ
behind_space [] = []
behind_space (b ∷ body) = 32 ∷ b ∷ body

-- the request line that these parts make, without what is told
abbrev pub line_of_parts : Parts → List ℕ
line_of_parts p = p.caller ++ 32 ∷ (p.method ++ 32 ∷ (p.path ++ behind_space p.body))

-- these parts make a request line that is no longer than one may be
abbrev pub fit_line : Parts → Bool
fit_line p = nat_le (length (line_of_parts p)) longest_line

-- a byte that a method may have
abbrev pub is_token_byte : ℕ → Bool
is_token_byte b = is_ascii_alphanumeric b || list_any (λ mark. mark == b) (codes "!#$%&'*+-.^_`|~")

-- the text is a token: some letters, digits and marks, and nothing else
abbrev pub is_token : List ℕ → Bool
is_token text = nat_lt 0 (length text) && list_all is_token_byte text
