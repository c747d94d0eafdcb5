-- Callers and accounts, and how they are read.
use Rattle.std.specs.Prelude.{ℕ, ◌==◌, List, Option, option_and_then, decimal}
use Rattle.std.specs.List.{before_first, after_first}
use Rattle.std.specs.Option.{option_map}
use Rattle.mf_office.specs.Numbers.{IsNumberUpTo}
use Rattle.mf_office.specs.Written.{zero_padded, number_written}
use Rattle.mf_office.specs.declared.caller.Caller.{Caller}
use Rattle.mf_office.specs.declared.account.Account.{Account}

-- a staff member of an office
abbrev pub IsCaller : Caller → Type 0
IsCaller caller = IsNumberUpTo 9999 caller.office × IsNumberUpTo 9999 caller.staff

-- the caller that a text names, by the numbers round its first slash
unfoldable pub caller_of : List ℕ → Option Caller
caller_of text = option_and_then
    (λ office. option_map (λ staff. record { office = office; staff = staff })
    (number_written decimal 9999 (after_first (λ b. b == 47) text)))
    (number_written decimal 9999 (before_first (λ b. b == 47) text))

-- a client or a loan of an office
abbrev pub IsAccount : Account → Type 0
IsAccount account = IsNumberUpTo 9999 account.office × IsNumberUpTo 999999 account.number

-- the account that a text names, by the numbers round its first dash
unfoldable pub account_of : List ℕ → Option Account
account_of text = option_and_then
    (λ office. option_map (λ number. record { office = office; number = number })
    (number_written (zero_padded 6) 999999 (after_first (λ b. b == 45) text)))
    (number_written (zero_padded 4) 9999 (before_first (λ b. b == 45) text))
