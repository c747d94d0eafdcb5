-- A body that is read piece by piece.
use Rattle.std.proofs.Common.{◌≡◌, ℕ, ◌+◌, ◌-◌, ◌<◌, ◌≤◌, List, ◌++◌, refl, sym, ap, ◌∙◌, subst, arith, length}
use Rattle.std.proofs.Common.{length-append, take, Option, Bool, true, false, nat_eq}
use Rattle.std.proofs.lemmas.Bool.{eqb-true}
use Rattle.std.proofs.lemmas.List.{take_all, length-take-le}
use Rattle.std.proofs.lemmas.Slice.{take-put_mid}
use borrow.Rule.Slice.PartMut.{mid_of, put_mid}
use Rattle.std.proofs.Math.Seq.{take-append_seam}
use Rattle.std.specs.Io.KnownBytes.{Consumes, IsAtEnd}
use Rattle.mf_wire_messages.specs.Arrivals.{TellsBody}
use Rattle.mf_wire_messages.proofs.HeadLemmas.{kept, piece_fits}

other_number : (n m : ℕ) → nat_eq n m ≡ false → n ≤ m → n < m
other_number n m e le = grind arith

told_either : (t : Bool) (a b : Option (List ℕ)) (n : ℕ) (begun piece : List ℕ)
    → nat_eq n (length (begun ++ piece) - length begun) ≡ t → n ≤ length piece
    → Consumes a b (take n piece) → (n < length piece → IsAtEnd b) → TellsBody a b begun (begun ++ piece) t
told_either true a b n begun piece e le ate end =
    let long : length (begun ++ piece) ≡ length begun + length piece = length-append begun piece in
    let same : n ≡ length piece = omega (arith, long, eqb-true n (length (begun ++ piece) - length begun) e) in
    let all : take n piece ≡ piece = take_all n piece (omega (arith, same)) in (
      take n piece,
      ate,
      (
        omega (arith, ap (λ l. length (begun ++ l)) all),
        sym (take_all (length (begun ++ piece)) (begun ++ piece) (omega arith))
            ∙ ap (λ l. take (length (begun ++ piece)) (begun ++ l)) (sym all),
      ),
    )
told_either false a b n begun piece e le ate end =
    let long : length (begun ++ piece) ≡ length begun + length piece = length-append begun piece in
    let less : n < length piece =
    omega (arith, long, other_number n (length (begun ++ piece) - length begun) e (omega (arith, long, le))) in (
      take n piece,
      ate,
      (omega (arith, long, less, length-append begun (take n piece), length-take-le n piece le), end less),
    )

rest_after : (a b : Option (List ℕ)) (n : ℕ) (begun tail piece : List ℕ)
    → length piece ≡ length (mid_of (length begun) (length (begun ++ tail) - length begun) (begun ++ tail))
    → n ≤ length piece
    → Consumes a b (take n piece) → (n < length piece → IsAtEnd b)
    → TellsBody a b begun (put_mid (length begun) (length (begun ++ tail) - length begun) (begun ++ tail) piece)
    (nat_eq n (length (put_mid (length begun) (length (begun ++ tail) - length begun) (begun ++ tail) piece) - length
    begun))
rest_after a b n begun tail piece e le ate end =
    let within : length begun ≤ length (begun ++ tail) = omega (arith, length-append begun tail) in
    let body = put_mid (length begun) (length (begun ++ tail) - length begun) (begun ++ tail) piece in
    let whole : length body ≡ length (begun ++ tail) = kept (length begun) (begun ++ tail) piece within e in
    let fits : length begun + length piece ≡ length (begun ++ tail) =
    piece_fits (length begun) (begun ++ tail) piece within e in
    let same : body ≡ begun ++ piece =
    sym (take_all (length begun + length piece) body (omega (arith, whole, fits)))
    ∙ take-put_mid (length begun) (length (begun ++ tail) - length begun) (begun ++ tail) piece (length begun
    + length piece) refl within
    ∙ ap (λ l. l ++ piece) (take-append_seam begun tail) in
    subst (λ l. TellsBody a b begun l (nat_eq n (length l - length begun))) (sym same)
    (told_either _ a b n begun piece refl le ate end)

-- a body whose front was copied and whose rest was read
pub rest_told : (a b : Option (List ℕ)) (n : ℕ) (begun front tail piece : List ℕ) → front ≡ begun
    → length piece ≡ length (mid_of (length begun) (length (front ++ tail) - length begun) (front ++ tail))
    → n ≤ length piece
    → Consumes a b (take n piece) → (n < length piece → IsAtEnd b)
    → TellsBody a b begun (put_mid (length begun) (length (front ++ tail) - length begun) (front ++ tail) piece)
    (nat_eq n (length (put_mid (length begun) (length (front ++ tail) - length begun) (front ++ tail) piece) - length
    begun))
rest_told a b n begun front tail piece same =
    subst (λ l. length piece ≡ length (mid_of (length begun) (length (l ++ tail) - length begun) (l ++ tail))
    → n ≤ length piece
    → Consumes a b (take n piece) → (n < length piece → IsAtEnd b)
    → TellsBody a b begun (put_mid (length begun) (length (l ++ tail) - length begun) (l ++ tail) piece)
    (nat_eq n (length (put_mid (length begun) (length (l ++ tail) - length begun) (l ++ tail) piece) - length begun)))
    (sym same) (rest_after a b n begun tail piece)
