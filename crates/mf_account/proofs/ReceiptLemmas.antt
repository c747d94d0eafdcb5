-- A receipt's bytes are text.
use Rattle.std.proofs.Common.{◌≡◌, ℕ, ◌<◌, zero, suc, true, List, [], ◌∷◌, arith}
use Rattle.std.specs.List.{list_all}
use Rattle.std.specs.Str.{IsAscii, IsUtf8}
use Rattle.std.proofs.lemmas.Str.{IsUtf8-from_ascii}
use Rattle.std.proofs.lemmas.Bool.{and_parts}
use Rattle.std.proofs.lemmas.Bool.Decides.{nat_tests}
use Rattle.mf_account.specs.Receipts.{is_printable, IsReceipt}

below_128 : (byte : ℕ) → is_printable byte ≡ true → byte < 128
below_128 byte printable = grind (arith, nat_tests)

ascii : (bytes : List ℕ) → list_all is_printable bytes ≡ true → IsAscii bytes
ascii [] printable i = omega arith
ascii (b ∷ bytes) printable zero = below_128 b (and_parts _ _ printable).0
ascii (b ∷ bytes) printable (suc i) = ascii bytes (and_parts _ _ printable).1 i

pub receipt_is_text : (text : List ℕ) → IsReceipt text → IsUtf8 text
receipt_is_text text is = IsUtf8-from_ascii text (ascii text (and_parts _ _ is).1)
