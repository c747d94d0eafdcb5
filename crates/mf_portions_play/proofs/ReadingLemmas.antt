-- The lines by portion that are read from a store.
use Rattle.std.proofs.Common.{◌≡◌, ◌<◌, ℕ, zero, suc, ◌+◌, Bool, true, false, cond, List, [], ◌∷◌, ◌++◌, map, take}
use Rattle.std.proofs.Common.{length}
use Rattle.std.proofs.Common.{Option, Some, None, Ok, refl, sym, ap, ap₂, ◌∙◌, subst, arith, append-nil, append_assoc}
use Rattle.std.specs.Prelude.{◌==◌, slice_get, filter, option_map}
use Rattle.std.specs.List.{flat_map, range_with_len}
use Rattle.std.proofs.Math.Seq.{take-length}
use Rattle.std.proofs.lemmas.Bool.Decides.{nat_tests}
use Rattle.std.proofs.lemmas.Grind.{flat_map-append}
use Rattle.std.proofs.lemmas.List.{length-map}
use Rattle.mf_account.specs.Balance.{balances_of}
use Rattle.mf_account.specs.Change.{account_by_replay}
use Rattle.mf_account.specs.Loan.{DisbursedLoan}
use Rattle.mf_account.specs.declared.balances.Balances.{Balances}
use Rattle.mf_office.specs.declared.office.Office as shown
use Rattle.mf_office.specs.Numbers.{number_up_to}
use Rattle.mf_ledger_play.specs.Due.{held_of, numbered}
use Rattle.mf_ledger_play.specs.Playing.{Holds}
use Rattle.mf_ledger_play.specs.declared.held.HeldLoan.{HeldLoan}
use Rattle.mf_ledger_play.proofs.HeldLemmas.{number_made}
use Rattle.mf_model.proofs.Views.{seen_by_head}
use Rattle.mf_model.specs.Accounts.{account_in, balances_in, no_balances, of_account}
use Rattle.mf_model.specs.Desk.{office_shown}
use Rattle.mf_model.specs.Institution.{Institution, Catalogue, Ledger, Office, office_at}
use Rattle.mf_model.specs.Sound.{IsSound}
use Rattle.mf_model.specs.Store.{Reads, catalogue_counts, rows_at, rows_of}
use Rattle.mf_model.specs.Tree.{Above, Ascending, seen_by}
use Rattle.mf_model.specs.declared.store.CatalogueCounts.{CatalogueCounts}
use Rattle.mf_model.specs.declared.store.InstitutionStore.{Ghosts}
use Rattle.mf_portions.specs.Portions.{balances_of_product, lines_of, lines_of_some, office_lines, portion_lines}
use Rattle.mf_portions.specs.Table.{table_text}
use Rattle.mf_portions.specs.declared.lines.PortionLine.{PortionLine}
use Rattle.mf_portions_play.specs.Reading.{PutsOffice, Tells, held_balances, kept_balances, portions_text}

-- ---- the sums of loans that are held

kept_same : (o : Option DisbursedLoan)
    → kept_balances (option_map account_by_replay o) ≡ of_account no_balances balances_of o
kept_same None = refl
kept_same (Some a) = refl

held_same : (k : Catalogue) (office m product : ℕ) (ls : List Ledger)
    → held_balances product (map (held_of k) (numbered office m ls)) ≡ balances_of_product k product ls
held_same k office m product [] = refl
held_same k office m product (l ∷ ls) = go (l.loan.product == product) (held_same k office (m + 1) product ls)
  where
    more : List HeldLoan
    more = filter (λ (h : HeldLoan). h.product == product) (map (held_of k) (numbered office (m + 1) ls))

    first : HeldLoan
    first = held_of k (record { office = office; number = m }, l)

    go : (b : Bool)
        → held_balances product (map (held_of k) (numbered office (m + 1) ls)) ≡ balances_of_product k product ls
        → map (λ (h : HeldLoan). kept_balances h.account) (cond b (first ∷ more) more)
        ≡ map (balances_in k) (cond b (l ∷ filter (λ (x : Ledger). x.loan.product == product) ls)
        (filter (λ (x : Ledger). x.loan.product == product) ls))
    go true rest = ap₂ (λ b bs. b ∷ bs) (kept_same (account_in k l)) rest
    go false rest = rest

-- ---- product by product

range_more : (a count : ℕ) → range_with_len a count ++ (a + count) ∷ [] ≡ range_with_len a (suc count)
range_more a zero = let same : a + zero ≡ a = omega arith in ap (λ m. m ∷ []) same
range_more a (suc count) =
    let same : a + suc count ≡ (a + 1) + count = omega arith in
    ap (λ ms. a ∷ ms) (ap (λ m. range_with_len (a + 1) count ++ m ∷ []) same ∙ range_more (a + 1) count)

module _ (office : ℕ) (held : List HeldLoan) where
  -- the lines of the first products, as many as this, are written
  abbrev pub ProductsWritten : ℕ → List PortionLine → List PortionLine → Type 0
  ProductsWritten count was now = (k : Catalogue) (m : ℕ) (ls : List Ledger)
      → held ≡ map (held_of k) (numbered office m ls) → now ≡ was ++ lines_of k office ls (range_with_len 1 count)

  pub products_none : (was : List PortionLine) → ProductsWritten 0 was was
  products_none was k m ls are = sym (append-nil was)

  pub products_more : (count product : ℕ) (loans : List Balances) (was lines now : List PortionLine)
      → product ≡ count + 1 → loans ≡ held_balances product held → ProductsWritten count was lines
      → now ≡ lines ++ lines_of_some office product loans → ProductsWritten (count + 1) was now
  products_more count product loans was lines now is sums so one k m ls are =
      let write = λ (p : ℕ). lines_of_some office p (balances_of_product k p ls) in
      let first = lines_of k office ls (range_with_len 1 count) in
      let its : product ≡ 1 + count = omega (arith, is) in
      let step : suc count ≡ count + 1 = omega arith in
      let theirs : loans ≡ balances_of_product k product ls =
      sums ∙ ap (held_balances product) are ∙ held_same k office m product ls in
      one ∙ ap₂ (λ ls bs. ls ++ lines_of_some office product bs) (so k m ls are) theirs
      ∙ append_assoc was first (write product)
      ∙ ap (λ xs. was ++ (first ++ xs)) (sym (append-nil (write product)))
      ∙ ap (λ xs. was ++ xs) (sym (flat_map-append write (range_with_len 1 count) (product ∷ [])))
      ∙ ap (λ ps. was ++ flat_map write ps) (ap (λ p. range_with_len 1 count ++ p ∷ []) its ∙ range_more 1 count
      ∙ ap (range_with_len 1) step)

-- ---- an office

pub office_put : {S : Type 0} (store : Ghosts S) (office products : ℕ) (held : List HeldLoan)
    (was now : List PortionLine) (old new : S)
    → Holds store (λ i. numbered office 1 (rows_at office i).loans) [] held old new
    → ((k : Catalogue) (m : ℕ) (ls : List Ledger) → held ≡ map (held_of k) (numbered office m ls)
    → now ≡ was ++ lines_of k office ls (range_with_len 1 products))
    → PutsOffice store office products was now old new
office_put store office products held was now old new holds written = record {
  premise = holds.premise;
  same = holds.same;
  put = λ k i s. written i.catalogue 1 (rows_at office i).loans (holds.held k i s);
}

-- ---- office by office

above_at : (n : ℕ) (fs : List Office) (place : ℕ) (f : Office) → Above n fs → slice_get fs place ≡ Some f → n < f.number
above_at n [] place f up there = cc
above_at n (x ∷ xs) zero f up there = let same : x ≡ f = cc in subst (λ (g : Office). n < g.number) same up.0
above_at n (x ∷ xs) (suc place) f up there = above_at n xs place f up.1 there

-- each is found by its number
found_at : (fs : List Office) (place : ℕ) (f : Office) → Ascending fs → slice_get fs place ≡ Some f
    → office_at f.number fs ≡ Some f
found_at [] place f up there = cc
found_at (x ∷ xs) zero f up there =
    let same : x ≡ f = cc in
    let own : (f.number == f.number) ≡ true = grind (arith, nat_tests) in
    ap (λ (g : Office). cond (g.number == f.number) (Some g) (office_at f.number xs)) same
    ∙ ap (λ b. cond b (Some f) (office_at f.number xs)) own
found_at (x ∷ xs) (suc place) f up there =
    let low = above_at x.number xs place f up.0 there in
    let apart : (x.number == f.number) ≡ false = grind (arith, nat_tests, low) in
    ap (λ b. cond b (Some x) (office_at f.number xs)) apart ∙ found_at xs place f up.1 there

-- the office that is shown at a place
shown_at : (fs : List Office) (place : ℕ) (o : shown.Office) → slice_get (map office_shown fs) place ≡ Some o
    → (f : Office) × (slice_get fs place ≡ Some f) × (f.number ≡ o.number)
shown_at [] place o there = cc
shown_at (x ∷ xs) zero o there =
    let same : office_shown x ≡ o = cc in (x, refl, ap (λ (y : shown.Office). y.number) same)
shown_at (x ∷ xs) (suc place) o there = shown_at xs place o there

-- the first offices with the next
office_taken : (fs : List Office) (place : ℕ) (f : Office) → slice_get fs place ≡ Some f
    → take place fs ++ f ∷ [] ≡ take (suc place) fs
office_taken [] place f there = cc
office_taken (x ∷ xs) zero f there = let same : x ≡ f = cc in ap (λ y. y ∷ []) (sym same)
office_taken (x ∷ xs) (suc place) f there = ap (λ fs. x ∷ fs) (office_taken xs place f there)

module _ {S : Type 0} (store : Ghosts S) (offices : List shown.Office) (products : ℕ) where
  -- the lines of the first offices, as many as this, are written
  pub record OfficesPut (place : ℕ) (lines : List PortionLine) (old now : S) : Type 0 where
    pub premise : store.clean now → store.clean old
    pub same : store.clean now → (i : Institution) → store.stands old i → store.stands now i
    pub listed : store.clean now → (i : Institution) → store.stands old i → offices ≡ map office_shown i.offices
    pub counted : store.clean now → (i : Institution) → store.stands old i → products ≡ length i.catalogue.products
    pub sound : (i : Institution) → store.stands old i → IsSound i
    pub put : store.clean now → (i : Institution) → store.stands old i
        → lines ≡ flat_map (office_lines i.catalogue) (take place i.offices)

  pub offices_none : (old mid now : S) → ((i : Institution) → store.stands old i → IsSound i) → (head : ℕ)
      → Some head ≡ number_up_to 9999 1 → (counts : CatalogueCounts) → products ≡ counts.products
      → Reads store.stands store.clean store.leaves catalogue_counts old mid (Ok counts)
      → Reads store.stands store.clean store.leaves (λ i. map office_shown (seen_by head i.offices)) mid now
      (Ok offices) → OfficesPut 0 [] old now
  offices_none old mid now sound head is counts are counted reads = record {
    premise = λ k. counted.premise (reads.premise k);
    same = λ k i s. reads.same k i (counted.same (reads.premise k) i s);
    listed = λ k i s.
        let early = reads.premise k in
        reads.value_is k i (counted.same early i s)
        ∙ ap (map office_shown) (seen_by_head head i.offices (sound i s).tree (number_made 9999 1 head is));
    counted = λ k i s. are ∙ ap (λ (c : CatalogueCounts). c.products) (counted.value_is (reads.premise k) i s);
    sound = sound;
    put = λ k i s. ap (flat_map (office_lines i.catalogue)) (sym (none i.offices));
  }
    where
      none : (xs : List Office) → take 0 xs ≡ []
      none [] = refl
      none (x ∷ xs) = refl

  pub offices_more : (place : ℕ) (o : shown.Office) (lines next : List PortionLine) (old now new : S)
      → slice_get offices place ≡ Some o → OfficesPut place lines old now
      → PutsOffice store o.number products lines next now new → OfficesPut (place + 1) next old new
  offices_more place o lines next old now new there so one =
      let step : suc place ≡ place + 1 = omega arith in
      subst (λ p. OfficesPut p next old new) step (record {
        premise = λ k. so.premise (one.premise k);
        same = λ k i s. one.same k i (so.same (one.premise k) i s);
        listed = λ k i s. so.listed (one.premise k) i s;
        counted = λ k i s. so.counted (one.premise k) i s;
        sound = so.sound;
        put = λ k i s.
            let early = one.premise k in
            let listed = so.listed early i s in
            let at = shown_at i.offices place o (ap (λ os. slice_get os place) (sym listed) ∙ there) in
            let f = at.0 in
            let found = found_at i.offices place f ((so.sound i s).tree).ascending at.1 in
            let theirs : lines_of i.catalogue o.number (rows_at o.number i).loans (range_with_len 1 products)
            ≡ office_lines i.catalogue f =
            ap (λ n. lines_of i.catalogue n (rows_at n i).loans (range_with_len 1 products)) (sym at.2)
            ∙ ap₂ (λ g n. lines_of i.catalogue f.number (rows_of g).loans (range_with_len 1 n)) found
            (so.counted early i s) in
            let first = take place i.offices in
            one.put k i (so.same early i s)
            ∙ ap₂ (λ xs ys. xs ++ ys) (so.put early i s) theirs
            ∙ ap (λ ys. flat_map (office_lines i.catalogue) first ++ ys)
            (sym (append-nil (office_lines i.catalogue f)))
            ∙ sym (flat_map-append (office_lines i.catalogue) first (f ∷ []))
            ∙ ap (flat_map (office_lines i.catalogue)) (office_taken i.offices place f at.1);
      })

  pub offices_all : (place : ℕ) (lines : List PortionLine) (old now : S) → length offices ≡ place
      → OfficesPut place lines old now → Tells store portion_lines lines old now
  offices_all place lines old now all so = record {
    premise = so.premise;
    same = so.same;
    told_is = λ k i s.
        let size = ap length (so.listed k i s) ∙ length-map i.offices office_shown in
        so.put k i s ∙ ap (flat_map (office_lines i.catalogue))
        (ap (λ p. take p i.offices) (sym all ∙ size) ∙ take-length i.offices);
  }

-- ---- its table

pub table_told : {S : Type 0} (store : Ghosts S) (lines : List PortionLine) (text : List ℕ) (old new : S)
    → Tells store portion_lines lines old new → text ≡ table_text [] lines → Tells store portions_text text old new
table_told store lines text old new reads is = record {
  premise = reads.premise;
  same = reads.same;
  told_is = λ k i s. is ∙ ap (table_text []) (reads.told_is k i s);
}
