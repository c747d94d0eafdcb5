-- What a receipt is.
use Rattle.std.specs.Prelude.{◌≡◌, ℕ, ◌&&◌, Bool, true, nat_le, List, length}
use Rattle.std.specs.List.{list_all}

-- printable ASCII without space
abbrev pub is_printable : ℕ → Bool
is_printable byte = nat_le 33 byte && nat_le byte 126

-- a receipt has 1 to 40 such bytes
abbrev pub is_receipt : List ℕ → Bool
is_receipt text = nat_le 1 (length text) && nat_le (length text) 40 && list_all is_printable text

-- a text that may be a receipt
abbrev pub IsReceipt : List ℕ → Type 0
IsReceipt text = is_receipt text ≡ true
