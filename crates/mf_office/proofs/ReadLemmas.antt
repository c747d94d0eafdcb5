-- A text is read as the caller or the account whose text it is.
use Rattle.std.proofs.Common.{◌≡◌, ◌↔◌, ℕ, ◌-◌, ◌^◌, List, [], ◌∷◌, ◌++◌, length, Option, Some, None, refl, sym, ap}
use Rattle.std.proofs.Common.{◌∙◌, arith, lit<, lit≤}
use Rattle.std.specs.Prelude.{◌==◌, decimal, replicate, option_and_then}
use Rattle.std.specs.Option.{option_map}
use Rattle.std.specs.List.{before_first, after_first}
use Rattle.std.specs.Fmt.{padded_integral, char_count, styled_decimal, format_spec}
use Rattle.std.proofs.lemmas.List.{append-nil}
use Rattle.mf_office.specs.Written.{zero_padded, number_written, caller_text, account_text}
use Rattle.mf_office.specs.Texts.{IsCaller, caller_of, IsAccount, account_of}
use Rattle.mf_office.specs.declared.caller.Caller.{Caller}
use Rattle.mf_office.specs.declared.account.Account.{Account}
use Rattle.mf_office.proofs.WrittenLemmas.{written_of, decimal_writing, zero_padded_writing, before_separator}
use Rattle.mf_office.proofs.WrittenLemmas.{after_separator, written_round}

-- a caller
caller_read : (x y : Option ℕ) (office staff : ℕ) → x ≡ Some office → y ≡ Some staff
    → option_and_then (λ (a : ℕ). option_map (λ (b : ℕ). let c : Caller = record { office = a; staff = b } in c) y) x
    ≡ Some (record { office = office; staff = staff })
caller_read x y office staff e f =
    ap (λ (z : Option ℕ). option_and_then (λ (a : ℕ). option_map (λ (b : ℕ). let c : Caller = record {
      office = a;
      staff = b;
    } in c) y) z) e
    ∙ ap (λ (z : Option ℕ). option_map (λ (b : ℕ). let c : Caller = record { office = office; staff = b } in c) z) f

pub caller_of-text : (text : List ℕ) (caller : Caller) → IsCaller caller → text ≡ caller_text caller.office caller.staff
    → caller_of text ≡ Some caller
unfolding caller_of
caller_of-text text caller r e =
    let whole = decimal caller.office ++ (47 ∷ decimal caller.staff) in
    let digits = decimal_writing.digits caller.office r.0 in
    let first : number_written decimal 9999 (before_first (λ b. b == 47) whole) ≡ Some caller.office =
    written_of decimal 9999 (before_first (λ b. b == 47) whole) caller.office decimal_writing r.0
    (before_separator 47 (decimal caller.office) (decimal caller.staff) digits (lit≤ tt)) in
    let second : number_written decimal 9999 (after_first (λ b. b == 47) whole) ≡ Some caller.staff =
    written_of decimal 9999 (after_first (λ b. b == 47) whole) caller.staff decimal_writing r.1
    (after_separator 47 (decimal caller.office) (decimal caller.staff) digits (lit≤ tt)) in
    ap caller_of e ∙ caller_read _ _ caller.office caller.staff first second

caller_written : (text : List ℕ) (caller : Caller) (x y : Option ℕ)
    → number_written decimal 9999 (before_first (λ b. b == 47) text) ≡ x
    → number_written decimal 9999 (after_first (λ b. b == 47) text) ≡ y
    → option_and_then (λ (a : ℕ). option_map (λ (b : ℕ). let c : Caller = record { office = a; staff = b } in c) y) x
    ≡ Some caller → text ≡ caller_text caller.office caller.staff
caller_written text caller None y e f h = absurd (cc)
caller_written text caller (Some a) None e f h = absurd (cc)
caller_written text caller (Some a) (Some b) e f h =
    let c : Caller = record { office = a; staff = b } in
    let same : c ≡ caller = cc in
    written_round 47 decimal decimal 9999 9999 text a b e f ∙ ap (λ (k : Caller). caller_text k.office k.staff) same

pub caller_exact : (text : List ℕ) (r : Option Caller) → r ≡ caller_of text → (caller : Caller) → IsCaller caller
    → (r ≡ Some caller) ↔ (text ≡ caller_text caller.office caller.staff)
unfolding caller_of
caller_exact text r v caller range =
    (λ h. caller_written text caller _ _ refl refl (sym v ∙ h), λ e. v ∙ caller_of-text text caller range e)

-- an account
account_read : (x y : Option ℕ) (office number : ℕ) → x ≡ Some office → y ≡ Some number
    → option_and_then (λ (a : ℕ). option_map (λ (b : ℕ). let c : Account = record { office = a; number = b } in c) y) x
    ≡ Some (record { office = office; number = number })
account_read x y office number e f =
    ap (λ (z : Option ℕ). option_and_then (λ (a : ℕ). option_map (λ (b : ℕ). let c : Account = record {
      office = a;
      number = b;
    } in c) y) z) e
    ∙ ap (λ (z : Option ℕ). option_map (λ (b : ℕ). let c : Account = record { office = office; number = b } in c) z) f

pub account_of-text : (text : List ℕ) (account : Account) → IsAccount account → text ≡ account_text account.office
    account.number → account_of text ≡ Some account
unfolding account_of
account_of-text text account r e =
    let a = zero_padded 4 account.office in
    let b = zero_padded 6 account.number in
    let four = zero_padded_writing 4 9999 (lit< tt) in
    let six = zero_padded_writing 6 999999 (lit< tt) in
    let whole = a ++ (45 ∷ b) in
    let digits = four.digits account.office r.0 in
    let first : number_written (zero_padded 4) 9999 (before_first (λ c. c == 45) whole) ≡ Some account.office =
    written_of (zero_padded 4) 9999 (before_first (λ c. c == 45) whole) account.office four r.0
    (before_separator 45 a b digits (lit≤ tt)) in
    let second : number_written (zero_padded 6) 999999 (after_first (λ c. c == 45) whole) ≡ Some account.number =
    written_of (zero_padded 6) 999999 (after_first (λ c. c == 45) whole) account.number six r.1
    (after_separator 45 a b digits (lit≤ tt)) in
    ap account_of e ∙ account_read _ _ account.office account.number first second

account_written : (text : List ℕ) (account : Account) (x y : Option ℕ) → number_written (zero_padded 4) 9999
    (before_first (λ b. b == 45) text) ≡ x → number_written (zero_padded 6) 999999 (after_first (λ b. b == 45) text) ≡ y
    → option_and_then (λ (a : ℕ). option_map (λ (b : ℕ). let c : Account = record { office = a; number = b } in c) y) x
    ≡ Some account → text ≡ account_text account.office account.number
account_written text account None y e f h = absurd (cc)
account_written text account (Some a) None e f h = absurd (cc)
account_written text account (Some a) (Some b) e f h =
    let c : Account = record { office = a; number = b } in
    let same : c ≡ account = cc in
    written_round 45 (zero_padded 4) (zero_padded 6) 9999 999999 text a b e f
    ∙ ap (λ (k : Account). account_text k.office k.number) same

pub account_exact : (text : List ℕ) (r : Option Account) → r ≡ account_of text → (account : Account) → IsAccount account
    → (r ≡ Some account) ↔ (text ≡ account_text account.office account.number)
unfolding account_of
account_exact text r v account range =
    (λ h. account_written text account _ _ refl refl (sym v ∙ h), λ e. v ∙ account_of-text text account range e)

-- what the code's format writes
zeros_then : (k j : ℕ) (text : List ℕ) → k ≡ j → replicate k 48 ++ (text ++ []) ≡ replicate j 48 ++ text
zeros_then k j text e = ap (λ t. replicate k 48 ++ t) (append-nil text) ∙ ap (λ (z : ℕ). replicate z 48 ++ text) e

pub four_digits : (n : ℕ) → styled_decimal (format_spec 32 0 4 4 (2 ^ 64 - 1)) n ≡ zero_padded 4 n
unfolding padded_integral char_count
four_digits n = zeros_then _ (4 - length (decimal n)) (decimal n) (omega arith)

pub six_digits : (n : ℕ) → styled_decimal (format_spec 32 0 4 6 (2 ^ 64 - 1)) n ≡ zero_padded 6 n
unfolding padded_integral char_count
six_digits n = zeros_then _ (6 - length (decimal n)) (decimal n) (omega arith)
