-- One text, one line; and what two equal chains tell.
use Rattle.std.proofs.Common.{◌≡◌, ◌≢◌, ◌⊎◌, ℕ, ◌^◌, ◌<◌, List, [], ◌∷◌, ◌++◌, length, inl, inr, refl, sym, ap, ◌∙◌}
use Rattle.std.proofs.Common.{arith, codes}
use Rattle.std.proofs.Common.{append_assoc, take, drop}
use Rattle.std.specs.Int.{w64, from_be_bytes}
use Rattle.std.proofs.Math.Seq.{take-append_seam, drop-append_seam}
use Rattle.std.proofs.lemmas.Bool.{cases_eq}
use Rattle.std.proofs.lemmas.Nat.{from_be_bytes-to_be_bytes_8}
use Rattle.sha2.proofs.Facts256.{length-sha256}
use Rattle.mf_model.specs.Institution.{JournalLine}
use Rattle.mf_journal.specs.Chain.{IsJournalLine, AreJournalLines, IsCollision, number_text, bytes_text}
use Rattle.mf_journal.specs.Chain.{text_of_line, link, chain_after}
use Rattle.mf_journal.specs.Founding.{founding, founding_text}

-- two texts that are cut at one length
cut : (a b c d : List ℕ) → length a ≡ length c → a ++ b ≡ c ++ d → (a ≡ c) × (b ≡ d)
cut a b c d size e = (
  sym (take-append_seam a b) ∙ ap (take (length a)) e ∙ ap (λ n. take n (c ++ d)) size ∙ take-append_seam c d,
  sym (drop-append_seam a b) ∙ ap (drop (length a)) e ∙ ap (λ n. drop n (c ++ d)) size ∙ drop-append_seam c d,
)

one_number : (a b : ℕ) (r s : List ℕ) → a < 2 ^ 64 → b < 2 ^ 64 → number_text a ++ r ≡ number_text b ++ s
    → (a ≡ b) × (r ≡ s)
one_number a b r s small low e =
    let parts = cut (number_text a) r (number_text b) s refl e in (
      sym (from_be_bytes-to_be_bytes_8 a small) ∙ ap (from_be_bytes w64) parts.0 ∙ from_be_bytes-to_be_bytes_8 b low,
      parts.1,
    )

one_bytes : (a b r s : List ℕ) → length a < 2 ^ 64 → length b < 2 ^ 64 → bytes_text a ++ r ≡ bytes_text b ++ s
    → (a ≡ b) × (r ≡ s)
one_bytes a b r s small low e =
    let apart = sym (append_assoc (number_text (length a)) a r) ∙ e ∙ append_assoc (number_text (length b)) b s in
    let sizes = one_number (length a) (length b) (a ++ r) (b ++ s) small low apart in
    cut a r b s sizes.0 sizes.1

number_alone : (a b : ℕ) → a < 2 ^ 64 → b < 2 ^ 64 → number_text a ≡ number_text b → a ≡ b
number_alone a b small low e =
    sym (from_be_bytes-to_be_bytes_8 a small) ∙ ap (from_be_bytes w64) e ∙ from_be_bytes-to_be_bytes_8 b low

same_line : (a b : JournalLine) → a.day ≡ b.day → a.office ≡ b.office → a.staff ≡ b.staff → a.told ≡ b.told
    → a.method ≡ b.method → a.path ≡ b.path → a.body ≡ b.body → a.named_office ≡ b.named_office
    → a.named_loan ≡ b.named_loan → a ≡ b
same_line a b day office staff told method path body named_office named_loan =
    ap (λ x. record a { day = x }) day
    ∙ ap (λ x. record a { day = b.day; office = x }) office
    ∙ ap (λ x. record a { day = b.day; office = b.office; staff = x }) staff
    ∙ ap (λ x. record a { day = b.day; office = b.office; staff = b.staff; told = x }) told
    ∙ ap (λ x. record a { day = b.day; office = b.office; staff = b.staff; told = b.told; method = x }) method
    ∙ ap (λ x. record b { path = x; body = a.body; named_office = a.named_office; named_loan = a.named_loan }) path
    ∙ ap (λ x. record b { body = x; named_office = a.named_office; named_loan = a.named_loan }) body
    ∙ ap (λ x. record b { named_office = x; named_loan = a.named_loan }) named_office
    ∙ ap (λ x. record b { named_loan = x }) named_loan

-- no two lines have one text
pub one_text : (a b : JournalLine) → IsJournalLine a → IsJournalLine b → text_of_line a ≡ text_of_line b → a ≡ b
one_text a b x y e =
    let day = one_number a.day b.day _ _ x.day y.day e in
    let office = one_number a.office b.office _ _ x.office y.office day.1 in
    let staff = one_number a.staff b.staff _ _ x.staff y.staff office.1 in
    let told = one_bytes a.told b.told _ _ x.told y.told staff.1 in
    let method = one_bytes a.method b.method _ _ x.method y.method told.1 in
    let path = one_bytes a.path b.path _ _ x.path y.path method.1 in
    let body = one_bytes a.body b.body _ _ x.body y.body path.1 in
    let named = one_number a.named_office b.named_office _ _ x.named_office y.named_office body.1 in
    let loan = number_alone a.named_loan b.named_loan x.named_loan y.named_loan named.1 in
    same_line a b day.0 office.0 staff.0 told.0 method.0 path.0 body.0 named.0 loan

same_or_not : (xs ys : List ℕ) → (xs ≡ ys) ⊎ (xs ≢ ys)
same_or_not [] [] = inl refl
same_or_not [] (y ∷ ys) = inr (λ e. cc)
same_or_not (x ∷ xs) [] = inr (λ e. cc)
same_or_not (x ∷ xs) (y ∷ ys) = elim (cases_eq x y) [
  | inl first ↦ elim (same_or_not xs ys) [
    | inl rest ↦ inl (ap (λ z. z ∷ xs) first ∙ ap (λ zs. y ∷ zs) rest)
    | inr apart ↦ inr (λ e. let rest : xs ≡ ys = cc in apart rest)
  ]
  | inr apart ↦ inr (λ e. let first : x ≡ y = cc in apart first)
]

-- what two equal chains tell: the same beginning and the same lines, or two texts with one digest
pub one_chain : (f g : List ℕ) (xs ys : List JournalLine) → length f ≡ length g → AreJournalLines xs
    → AreJournalLines ys → length xs ≡ length ys → chain_after f xs ≡ chain_after g ys
    → ((f ≡ g) × (xs ≡ ys)) ⊎ ((s : List ℕ) × (t : List ℕ) × IsCollision s t)
one_chain f g [] [] size are others number e = inl (e, refl)
one_chain f g [] (y ∷ ys) size are others number e = absurd (omega (arith, number))
one_chain f g (x ∷ xs) [] size are others number e = absurd (omega (arith, number))
one_chain f g (x ∷ xs) (y ∷ ys) size are others number e =
    elim (one_chain (link f x) (link g y) xs ys
    (length-sha256 (f ++ text_of_line x) ∙ sym (length-sha256 (g ++ text_of_line y))) are.1 others.1
    (omega (arith, number)) e) [
      | inl both ↦ elim (same_or_not (f ++ text_of_line x) (g ++ text_of_line y)) [
        | inl text ↦
            let parts = cut f (text_of_line x) g (text_of_line y) size text in
            let first = one_text x y are.0 others.0 parts.1 in
            inl (parts.0, ap (λ l. l ∷ xs) first ∙ ap (λ ls. y ∷ ls) both.1)
        | inr apart ↦ inr (f ++ text_of_line x, g ++ text_of_line y, record { apart = apart; same = both.0 })
      ]
      | inr collision ↦ inr collision
    ]

-- pieces in turn are one text
pub pieces : (before a b c d e f g h i : List ℕ)
    → before ++ a ++ b ++ c ++ d ++ e ++ f ++ g ++ h ++ i
    ≡ before ++ (a ++ (b ++ (c ++ (d ++ (e ++ (f ++ (g ++ (h ++ i))))))))
pieces before a b c d e f g h i = simp append_assoc

-- what two equal chains of foundings tell: one schema and one day, or two texts with one digest
pub one_founding : (schema day number today : ℕ) → schema < 2 ^ 64 → day < 2 ^ 64 → number < 2 ^ 64 → today < 2 ^ 64
    → (founding schema day).chain ≡ (founding number today).chain
    → ((schema ≡ number) × (day ≡ today)) ⊎ ((s : List ℕ) × (t : List ℕ) × IsCollision s t)
one_founding schema day number today small low few less e =
    elim (same_or_not (founding_text schema day) (founding_text number today)) [
      | inl text ↦
          let rest = (cut (codes "microloan") (number_text schema ++ number_text day) (codes "microloan")
          (number_text number ++ number_text today) refl text).1 in
          let parts = one_number schema number (number_text day) (number_text today) small few rest in
          inl (parts.0, number_alone day today low less parts.1)
      | inr apart ↦ inr (founding_text schema day, founding_text number today, record { apart = apart; same = e })
    ]
