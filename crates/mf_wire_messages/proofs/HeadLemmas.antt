-- A head that is read piece by piece.
use Rattle.std.proofs.Common.{◌≡◌, ◌≢◌, ◌==◌, ℕ, ◌+◌, ◌-◌, ◌<◌, ◌≤◌, List, [], ◌∷◌, ◌++◌, refl, sym, ap, ◌∙◌, subst}
use Rattle.std.proofs.Common.{arith, length, length-append, length-drop, take, drop, Option, None, Some}
use Rattle.std.proofs.Common.{take-append-drop, append-nil, if◌then◌else◌, Bool, true, false}
use Rattle.std.proofs.lemmas.Bool.{eqb-true}
use Rattle.std.proofs.lemmas.List.{take-append-le, length-take-le}
use borrow.Rule.Slice.PartMut.{mid_of, put_mid, same_len_mid}
use Rattle.std.proofs.Math.Seq.{take-append-add, take-append_seam}
use Rattle.std.specs.Io.KnownBytes.{Consumes, IsAtEnd}
use Rattle.std.proofs.KnownBytes.{Consumes-trans}
use Rattle.httparse.specs.Grammar.{print_request, ReadsRequest, HasNoRequest}
use Rattle.httparse.specs.Spans.{RequestOverflows}
use Rattle.httparse.specs.declared.spans.HeaderSpan.{HeaderSpan}
use Rattle.mf_wire_messages.specs.Heads.{HasNoHead}
use Rattle.mf_wire_messages.specs.Arrivals.{bytes_left, TellsHead}
use Rattle.mf_wire_messages.specs.declared.head.HeadRead.TheVariants.{Nothing, Refused}

-- a piece is read behind what is there
pub take_piece : (size n : ℕ) (room piece : List ℕ) → size ≤ length room → n ≤ length piece
    → take (size + n) (put_mid size (length room - size) room piece) ≡ take size room ++ take n piece
take_piece size n room piece within bound =
    let long : length (take size room) ≡ size = length-take-le size room within in
    let rest = drop (length room - size) (drop size room) in
    ap (λ k. take (k + n) (take size room ++ (piece ++ rest))) (sym long)
    ∙ take-append-add (take size room) (piece ++ rest) n
    ∙ ap (λ l. take size room ++ l) (take-append-le n piece rest bound)

pub read_more : (a b c : Option (List ℕ)) (size n : ℕ) (room piece : List ℕ) → size ≤ length room → n ≤ length piece
    → Consumes a b (take size room) → Consumes b c (take n piece)
    → Consumes a c (take (size + n) (put_mid size (length room - size) room piece))
read_more a b c size n room piece within bound p q =
    subst (Consumes a c) (sym (take_piece size n room piece within bound)) (Consumes-trans a b c _ _ p q)

-- the room is full, and no head was there
pub full : (bytes more : List ℕ) → 16384 ≤ length bytes → HasNoRequest bytes → HasNoHead (bytes ++ more)
full bytes more long none head rest r =
    let size = length (print_request head) in
    let front : take size bytes ≡ print_request head =
    sym (take-append-le size bytes more (omega (arith, r.short))) ∙ ap (take size) r.reads.1
    ∙ take-append_seam (print_request head) rest in
    none head (drop size bytes) (r.reads.0, sym (take-append-drop size bytes) ∙ ap (λ l. l ++ drop size bytes) front)

-- whatever follows, a head would have too many fields
pub overflows : (bytes more : List ℕ) (room : ℕ) → room ≡ 64 → RequestOverflows room bytes → HasNoHead (bytes ++ more)
overflows bytes more room e over head rest r = omega (arith, over more head rest r.reads, r.few)

pub none_follows : (left : Option (List ℕ)) → IsAtEnd left → bytes_left left ≡ []
none_follows None end = refl
none_follows (Some bytes) end = end

-- the stream ended, and no head was there
pub ended : (bytes : List ℕ) (left : Option (List ℕ)) → IsAtEnd left → HasNoRequest bytes
    → HasNoHead (bytes ++ bytes_left left)
ended bytes left end none head rest r =
    none head rest (subst (λ l. ReadsRequest l head rest) (ap (λ l. bytes ++ l) (none_follows left end)
    ∙ append-nil bytes) r.reads)

pub not_empty : (bytes : List ℕ) → 0 < length bytes → bytes ≢ []
not_empty [] lt e = absurd (omega (arith, lt))
not_empty (b ∷ bytes) lt e = absurd (omega (arith, ap length e))

-- a piece keeps the length of the room
pub kept : (size : ℕ) (room piece : List ℕ) → size ≤ length room → length piece ≡ length
    (mid_of size (length room - size) room) → length (put_mid size (length room - size) room piece) ≡ length room
kept size room piece within e = same_len_mid size (length room - size) room piece e

pub piece_fits : (size : ℕ) (room piece : List ℕ) → size ≤ length room → length piece
    ≡ length (mid_of size (length room - size) room) → size + length piece ≡ length room
piece_fits size room piece within e =
    let rest : length (drop size room) ≡ length room - size = length-drop size room in
    omega (arith, e, length-take-le (length room - size) (drop size room) (omega (arith, rest)))

pub some_taken : (size n : ℕ) (room piece : List ℕ) → size ≤ length room → n ≤ length piece → (n ≡ 0 → ⊥)
    → take (size + n) (put_mid size (length room - size) room piece) ≢ []
some_taken size n room piece within bound some =
    let long : length (take size room ++ take n piece) ≡ length (take size room) + length (take n piece) =
    length-append (take size room) (take n piece) in
    let pos : 0 < n = grind (arith, some) in
    λ e. not_empty (take size room ++ take n piece) (omega (arith, long, length-take-le n piece bound, pos))
    (sym (take_piece size n room piece within bound) ∙ e)

above : (n : ℕ) → (n == 0) ≡ false → 0 < n
above n e = grind arith

ended_either : (t : Bool) (a b c : Option (List ℕ)) (size n : ℕ) (room piece after : List ℕ) (fields : List HeaderSpan)
    → (size == 0) ≡ t → size ≤ length room → n ≡ 0 → 0 < length piece
    → Consumes a b (take size room) → Consumes b c (take n piece) → (n ≡ 0 → 0 < length piece → IsAtEnd c)
    → (0 < size → HasNoRequest (take size room))
    → TellsHead a c after fields (if t then Nothing else Refused)
ended_either true a b c size n room piece after fields h within e lt p q end none = (
  Consumes-trans a b c [] [] (subst (λ k. Consumes a b (take k room)) (eqb-true size 0 h) p)
      (subst (λ k. Consumes b c (take k piece)) e q),
  end e lt,
)
ended_either false a b c size n room piece after fields h within e lt p q end none = (
  take size room,
  subst (Consumes a c) (append-nil (take size room))
      (Consumes-trans a b c (take size room) [] p (subst (λ k. Consumes b c (take k piece)) e q)),
  not_empty (take size room) (omega (arith, length-take-le size room within, above size h)),
  ended (take size room) c (end e lt) (none (above size h)),
)
