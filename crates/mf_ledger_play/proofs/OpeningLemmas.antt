-- What books of the loans of a store open with.
use Rattle.std.proofs.Common.{◌≡◌, ◌<◌, ℕ, zero, suc, ◌+◌, Bool, true, false, cond, List, [], ◌∷◌, ◌++◌, map, take}
use Rattle.std.proofs.Common.{length, Some, Ok, refl, sym, ap, ap₂, ◌∙◌, subst, arith, append-nil, append_assoc}
use Rattle.std.specs.Prelude.{◌==◌, ◌&&◌, nat_le, filter, option_map, slice_get}
use Rattle.std.specs.List.{flat_map, range_with_len}
use Rattle.std.proofs.Math.Seq.{take-length}
use Rattle.std.proofs.lemmas.Grind.{flat_map-append}
use Rattle.std.proofs.lemmas.List.{length-map}
use Rattle.std.proofs.lemmas.List.Elements.{filter-append}
use Rattle.std.proofs.lemmas.Option.{slice_get-map}
use Rattle.mf_office.specs.declared.office.Office as shown
use Rattle.mf_office.specs.Numbers.{number_up_to}
use Rattle.mf_ledger.specs.Accrual.{accrued_in}
use Rattle.mf_ledger.specs.Adjusting.{accrued_of_product, adjusting_on, adjusting_opening, office_adjusting, openings}
use Rattle.mf_ledger.specs.Books.{is_moved, sums_in}
use Rattle.mf_ledger.specs.Opening.{office_opening, opening_on, opening_postings, product_numbers, sums_of_product}
use Rattle.mf_ledger.specs.Text.{opening_of}
use Rattle.mf_ledger.specs.declared.basis.Basis.TheVariants as basis
use Rattle.mf_ledger.specs.declared.books.Posting.{Posting}
use Rattle.mf_model.proofs.Views.{seen_by_head}
use Rattle.mf_model.specs.Desk.{office_shown}
use Rattle.mf_model.specs.Institution.{Catalogue, Institution, Ledger, Office, item_numbered}
use Rattle.mf_model.specs.Sound.{IsSound}
use Rattle.mf_model.specs.Store.{Reads, catalogue_counts, counts_at, rows_at, rows_of}
use Rattle.mf_model.specs.Tree.{seen_by}
use Rattle.mf_model.specs.declared.store.CatalogueCounts.{CatalogueCounts}
use Rattle.mf_model.specs.declared.store.Counts.{Counts}
use Rattle.mf_model.specs.declared.store.InstitutionStore.{Ghosts}
use Rattle.mf_ledger_play.specs.Opening.{OpensBooks, ReadsOpening, ReadsStates, accrued_with, moving}
use Rattle.mf_ledger_play.specs.Opening.{states_of, sums_with}
use Rattle.mf_ledger_play.specs.Told.{form_booked, state_at, state_in}
use Rattle.mf_ledger_play.specs.declared.form.BooksAsked.{BooksAsked}
use Rattle.mf_ledger_play.specs.declared.loans.LoanState.{LoanState}
use Rattle.mf_ledger_play.specs.declared.opening.OpeningPostings.{OpeningPostings}
use Rattle.mf_ledger_play.proofs.MovingLemmas.{form_same}
use Rattle.mf_ledger_play.proofs.HeldLemmas.{at_number, found_at, number_made, office_taken, shown_at, there_at}

-- ---- what is read of loans is what the definitions read

sums_same : (day : ℕ) (k : Catalogue) (product : ℕ) (ls : List Ledger)
    → sums_with product (states_of day k ls) ≡ sums_of_product k product ls
sums_same day k product [] = refl
sums_same day k product (l ∷ ls) = go (l.loan.product == product) (sums_same day k product ls)
  where
    go : (b : Bool) → sums_with product (states_of day k ls) ≡ sums_of_product k product ls
        → map (λ (s : LoanState). s.sums) (cond b
        (state_in day k (Some l) ∷ filter (λ (s : LoanState). s.product == product) (states_of day k ls))
        (filter (λ (s : LoanState). s.product == product) (states_of day k ls)))
        ≡ map (sums_in k) (cond b (l ∷ filter (λ (m : Ledger). m.loan.product == product) ls)
        (filter (λ (m : Ledger). m.loan.product == product) ls))
    go true rest = ap (λ ss. sums_in k l ∷ ss) rest
    go false rest = rest

accrued_same : (day : ℕ) (k : Catalogue) (product : ℕ) (ls : List Ledger)
    → accrued_with product (states_of day k ls) ≡ accrued_of_product day k product ls
accrued_same day k product [] = refl
accrued_same day k product (l ∷ ls) = go (l.loan.product == product) (accrued_same day k product ls)
  where
    go : (b : Bool) → accrued_with product (states_of day k ls) ≡ accrued_of_product day k product ls
        → map (λ (s : LoanState). s.accrued) (cond b
        (state_in day k (Some l) ∷ filter (λ (s : LoanState). s.product == product) (states_of day k ls))
        (filter (λ (s : LoanState). s.product == product) (states_of day k ls)))
        ≡ map (accrued_in day k) (cond b (l ∷ filter (λ (m : Ledger). m.loan.product == product) ls)
        (filter (λ (m : Ledger). m.loan.product == product) ls))
    go true rest = ap (λ ss. accrued_in day k l ∷ ss) rest
    go false rest = rest

each_list : {X Y : Type 0} (f g : X → List Y) → ((x : X) → f x ≡ g x) → (xs : List X) → flat_map f xs ≡ flat_map g xs
each_list f g same [] = refl
each_list f g same (x ∷ xs) = ap₂ ◌++◌ (same x) (each_list f g same xs)

-- ---- products, one after the other

moving_both : (ps qs : List Posting) → moving (ps ++ qs) ≡ moving ps ++ moving qs
moving_both ps qs = filter-append (λ (p : Posting). is_moved p.amount) ps qs

range_more : (a count : ℕ) → range_with_len a count ++ (a + count) ∷ [] ≡ range_with_len a (suc count)
range_more a zero = let same : a + zero ≡ a = omega arith in ap (λ m. m ∷ []) same
range_more a (suc count) =
    let same : a + suc count ≡ (a + 1) + count = omega arith in
    ap (λ ms. a ∷ ms) (ap (λ m. range_with_len (a + 1) count ++ m ∷ []) same ∙ range_more (a + 1) count)

-- what the first numbers give, with the next
products_more : (part : ℕ → List Posting) (place : ℕ)
    → moving (flat_map part (range_with_len 1 place)) ++ moving (part (place + 1))
    ≡ moving (flat_map part (range_with_len 1 (place + 1)))
products_more part place =
    let step : suc place ≡ place + 1 = omega arith in
    let its : 1 + place ≡ place + 1 = omega arith in
    sym (moving_both (flat_map part (range_with_len 1 place)) (part (place + 1)))
    ∙ ap (λ ps. moving (flat_map part (range_with_len 1 place) ++ ps)) (sym (append-nil (part (place + 1))))
    ∙ ap moving (sym (flat_map-append part (range_with_len 1 place) ((place + 1) ∷ [])))
    ∙ ap (λ ns. moving (flat_map part ns)) (ap (λ n. range_with_len 1 place ++ n ∷ []) (sym its) ∙ range_more 1 place
    ∙ ap (range_with_len 1) step)

pub one_product_more : (part : ℕ → List Posting) (place : ℕ) (was text now : List Posting)
    → text ≡ was ++ moving (flat_map part (range_with_len 1 place)) → now ≡ text ++ moving (part (place + 1))
    → now ≡ was ++ moving (flat_map part (range_with_len 1 (place + 1)))
one_product_more part place was text now so one =
    one ∙ ap (λ ps. ps ++ moving (part (place + 1))) so
    ∙ append_assoc was (moving (flat_map part (range_with_len 1 place))) (moving (part (place + 1)))
    ∙ ap (λ ps. was ++ ps) (products_more part place)

-- ---- the loans of an office

taken : {X : Type 0} (xs : List X) (place : ℕ) (x : X) → slice_get xs place ≡ Some x
    → take place xs ++ x ∷ [] ≡ take (suc place) xs
taken [] place x there = cc
taken (y ∷ ys) zero x there = let same : y ≡ x = cc in ap (λ z. z ∷ []) (sym same)
taken (y ∷ ys) (suc place) x there = ap (λ zs. y ∷ zs) (taken ys place x there)

none_taken : {X : Type 0} (xs : List X) → take 0 xs ≡ []
none_taken [] = refl
none_taken (x ∷ xs) = refl

module _ {S : Type 0} (store : Ghosts S) (office day loans : ℕ) where
  -- the first loans of an office, as many as this, were read
  pub record ReadSome (place : ℕ) (there : List LoanState) (old now : S) : Type 0 where
    pub premise : store.clean now → store.clean old
    pub same : store.clean now → (i : Institution) → store.stands old i → store.stands now i
    pub count : store.clean now → (i : Institution) → store.stands old i → loans ≡ length (rows_at office i).loans
    pub read : store.clean now → (i : Institution) → store.stands old i
        → there ≡ take place (states_of day i.catalogue (rows_at office i).loans)

  pub read_none : (counts : Counts) (old now : S) → loans ≡ counts.loans
      → Reads store.stands store.clean store.leaves (counts_at office) old now (Ok counts) → ReadSome 0 [] old now
  read_none counts old now are reads = record {
    premise = reads.premise;
    same = reads.same;
    count = λ k i s. are ∙ ap (λ (c : Counts). c.loans) (reads.value_is k i s);
    read = λ k i s. sym (none_taken (states_of day i.catalogue (rows_at office i).loans));
  }

  pub read_more : (place number : ℕ) (there next : List LoanState) (state : LoanState) (old now new : S)
      → place < loans
      → number ≡ place + 1 → ReadSome place there old now
      → Reads store.stands store.clean store.leaves (state_at day (record { office = office; number = number })) now new
      (Ok state) → next ≡ there ++ state ∷ [] → ReadSome (place + 1) next old new
  read_more place number there next state old now new low is so one more =
      let step : suc place ≡ place + 1 = omega arith in
      subst (λ p. ReadSome p next old new) step (record {
        premise = λ k. so.premise (one.premise k);
        same = λ k i s. one.same k i (so.same (one.premise k) i s);
        count = λ k i s. so.count (one.premise k) i s;
        read = λ k i s.
            let early = one.premise k in
            let ls = (rows_at office i).loans in
            let count = so.count early i s in
            let at = there_at ls place (omega (arith, low, count)) in
            let states = states_of day i.catalogue ls in
            let its : state ≡ state_in day i.catalogue (Some at.0) =
            one.value_is k i (so.same early i s)
            ∙ ap (state_in day i.catalogue) (ap (item_numbered ls) is ∙ at_number ls place at.0 at.1) in
            more ∙ ap₂ (λ xs x. xs ++ x ∷ []) (so.read early i s) its
            ∙ taken states place (state_in day i.catalogue (Some at.0))
            (slice_get-map (λ l. state_in day i.catalogue (Some l)) ls place
            ∙ ap (option_map (λ l. state_in day i.catalogue (Some l))) at.1);
      })

  pub read_all : (place : ℕ) (there : List LoanState) (old now : S) → loans ≡ place → ReadSome place there old now
      → ReadsStates store (λ i. states_of day i.catalogue (rows_at office i).loans) there old now
  read_all place there old now all so = record {
    premise = so.premise;
    same = so.same;
    read_is = λ k i s.
        let states = states_of day i.catalogue (rows_at office i).loans in
        let size = length-map (rows_at office i).loans (λ l. state_in day i.catalogue (Some l)) in
        so.read k i s ∙ ap (λ p. take p states) (sym all ∙ so.count k i s ∙ sym size) ∙ take-length states;
  }

-- ---- the loans of all offices

-- what the books open with in an office, from what was read of its loans
office_cash : (day : ℕ) (k : Catalogue) (f : Office)
    → flat_map (λ product. opening_on f.number product (sums_with product (states_of day k f.rows.loans)))
    (product_numbers k) ≡ office_opening k f
office_cash day k f =
    each_list (λ product. opening_on f.number product (sums_with product (states_of day k f.rows.loans)))
    (λ product. opening_on f.number product (sums_of_product k product f.rows.loans))
    (λ product. ap (opening_on f.number product) (sums_same day k product f.rows.loans)) (product_numbers k)

office_added : (day : ℕ) (k : Catalogue) (f : Office)
    → flat_map (λ product. adjusting_on f.number product (accrued_with product (states_of day k f.rows.loans)))
    (product_numbers k) ≡ office_adjusting day k f
office_added day k f =
    each_list (λ product. adjusting_on f.number product (accrued_with product (states_of day k f.rows.loans)))
    (λ product. adjusting_on f.number product (accrued_of_product day k product f.rows.loans))
    (λ product. ap (adjusting_on f.number product) (accrued_same day k product f.rows.loans)) (product_numbers k)

-- one office more
offices_joined : (part : Office → List Posting) (fs : List Office) (place : ℕ) (f : Office)
    → slice_get fs place ≡ Some f
    → moving (flat_map part (take place fs)) ++ moving (part f) ≡ moving (flat_map part (take (suc place) fs))
offices_joined part fs place f there =
    sym (moving_both (flat_map part (take place fs)) (part f))
    ∙ ap (λ ps. moving (flat_map part (take place fs) ++ ps)) (sym (append-nil (part f)))
    ∙ ap moving (sym (flat_map-append part (take place fs) (f ∷ [])))
    ∙ ap (λ gs. moving (flat_map part gs)) (office_taken fs place f there)

module _ {S : Type 0} (store : Ghosts S) (offices : List shown.Office) (products day : ℕ) where
  -- what the books open with in the first offices, as many as this
  pub record OpensOffices (place : ℕ) (cash added : List Posting) (old now : S) : Type 0 where
    pub premise : store.clean now → store.clean old
    pub same : store.clean now → (i : Institution) → store.stands old i → store.stands now i
    pub listed : store.clean now → (i : Institution) → store.stands old i → offices ≡ map office_shown i.offices
    pub count : store.clean now → (i : Institution) → store.stands old i → products ≡ length i.catalogue.products
    pub sound : (i : Institution) → store.stands old i → IsSound i
    pub cash_is : store.clean now → (i : Institution) → store.stands old i
        → cash ≡ moving (flat_map (office_opening i.catalogue) (take place i.offices))
    pub added_is : store.clean now → (i : Institution) → store.stands old i
        → added ≡ moving (flat_map (office_adjusting day i.catalogue) (take place i.offices))

  pub opens_none : (old mid now : S) (counts : CatalogueCounts) (head : ℕ)
      → ((i : Institution) → store.stands old i → IsSound i) → Some head ≡ number_up_to 9999 1
      → products ≡ counts.products
      → Reads store.stands store.clean store.leaves catalogue_counts old mid (Ok counts)
      → Reads store.stands store.clean store.leaves (λ i. map office_shown (seen_by head i.offices)) mid now
      (Ok offices) → OpensOffices 0 [] [] old now
  opens_none old mid now counts head sound is are first reads = record {
    premise = λ k. first.premise (reads.premise k);
    same = λ k i s. reads.same k i (first.same (reads.premise k) i s);
    listed = λ k i s. reads.value_is k i (first.same (reads.premise k) i s)
        ∙ ap (map office_shown) (seen_by_head head i.offices (sound i s).tree (number_made 9999 1 head is));
    count = λ k i s. are ∙ ap (λ (c : CatalogueCounts). c.products) (first.value_is (reads.premise k) i s);
    sound = sound;
    cash_is = λ k i s.
        ap (λ fs. moving (flat_map (office_opening i.catalogue) fs)) (sym (none_taken i.offices));
    added_is = λ k i s.
        ap (λ fs. moving (flat_map (office_adjusting day i.catalogue) fs)) (sym (none_taken i.offices));
  }

  pub opens_more : (place : ℕ) (o : shown.Office) (states told : List LoanState)
      (cash added more_cash more_added : List Posting) (old now new : S) → slice_get offices place ≡ Some o
      → OpensOffices place cash added old now
      → ReadsStates store (λ i. states_of day i.catalogue (rows_at o.number i).loans) states now new
      → told ≡ states
      → more_cash ≡ cash ++ moving (flat_map (λ product. opening_on o.number product (sums_with product told))
      (range_with_len 1 products))
      → more_added ≡ added ++ moving (flat_map (λ product. adjusting_on o.number product (accrued_with product told))
      (range_with_len 1 products))
      → OpensOffices (place + 1) more_cash more_added old new
  opens_more place o states told cash added more_cash more_added old now new there so one same cash_more added_more =
      let step : suc place ≡ place + 1 = omega arith in
      subst (λ p. OpensOffices p more_cash more_added old new) step (record {
        premise = λ k. so.premise (one.premise k);
        same = λ k i s. one.same k i (so.same (one.premise k) i s);
        listed = λ k i s. so.listed (one.premise k) i s;
        count = λ k i s. so.count (one.premise k) i s;
        sound = so.sound;
        cash_is = λ k i s.
            let early = one.premise k in
            let at = its_office place o old now there so early i s in
            let f = at.0 in
            cash_more
            ∙ ap₂ (λ ps qs. ps ++ moving qs) (so.cash_is early i s)
            (ap₂ (λ n ms. flat_map (λ product. opening_on n product (sums_with product told)) ms) (sym at.2)
            (ap (range_with_len 1) (so.count early i s))
            ∙ ap (λ ss. flat_map (λ product. opening_on f.number product (sums_with product ss))
            (product_numbers i.catalogue)) (same ∙ one.read_is k i (so.same early i s) ∙ at.3 i.catalogue)
            ∙ office_cash day i.catalogue f)
            ∙ offices_joined (office_opening i.catalogue) i.offices place f at.1;
        added_is = λ k i s.
            let early = one.premise k in
            let at = its_office place o old now there so early i s in
            let f = at.0 in
            added_more
            ∙ ap₂ (λ ps qs. ps ++ moving qs) (so.added_is early i s)
            (ap₂ (λ n ms. flat_map (λ product. adjusting_on n product (accrued_with product told)) ms) (sym at.2)
            (ap (range_with_len 1) (so.count early i s))
            ∙ ap (λ ss. flat_map (λ product. adjusting_on f.number product (accrued_with product ss))
            (product_numbers i.catalogue)) (same ∙ one.read_is k i (so.same early i s) ∙ at.3 i.catalogue)
            ∙ office_added day i.catalogue f)
            ∙ offices_joined (office_adjusting day i.catalogue) i.offices place f at.1;
      })
    where
      -- the office that is listed there, and what its loans are found by its number
      its_office : (place : ℕ) (o : shown.Office) {cash added : List Posting} (old now : S)
          → slice_get offices place ≡ Some o → OpensOffices place cash added old now → store.clean now
          → (i : Institution) → store.stands old i
          → (f : Office) × (slice_get i.offices place ≡ Some f) × (f.number ≡ o.number)
          × ((k : Catalogue) → states_of day k (rows_at o.number i).loans ≡ states_of day k f.rows.loans)
      its_office place o old now there so early i s =
          let listed = so.listed early i s in
          let at = shown_at i.offices place o (ap (λ os. slice_get os place) (sym listed) ∙ there) in
          let f = at.0 in
          let found = found_at i.offices place f ((so.sound i s).tree).ascending at.1 in (
            f,
            at.1,
            at.2,
            λ k. ap (λ n. states_of day k (rows_at n i).loans) (sym at.2)
                ∙ ap (λ g. states_of day k (rows_of g).loans) found,
          )

  pub opens_all : (place : ℕ) (opening : OpeningPostings) (old now : S) → length offices ≡ place
      → OpensOffices place opening.cash.items opening.added.items old now → ReadsOpening store day opening old now
  opens_all place opening old now all so = record {
    premise = so.premise;
    same = so.same;
    cash = λ k i s. so.cash_is k i s
        ∙ ap (λ fs. moving (flat_map (office_opening i.catalogue) fs)) (whole i (so.listed k i s));
    added = λ k i s. so.added_is k i s
        ∙ ap (λ fs. moving (flat_map (office_adjusting day i.catalogue) fs)) (whole i (so.listed k i s));
  }
    where
      whole : (i : Institution) → offices ≡ map office_shown i.offices → take place i.offices ≡ i.offices
      whole i listed =
          ap (λ p. take p i.offices) (sym all ∙ ap length listed ∙ length-map i.offices office_shown)
          ∙ take-length i.offices

-- ---- the opening transactions of a day

module _ (asked : BooksAsked) (day : ℕ) (i : Institution) (was mid now : List ℕ) (cash added : List Posting) where
  -- the text of postings of the opening
  abbrev opened_text : List Posting → List ℕ
  opened_text postings = form_booked asked.form asked.names (opening_of day) postings

  -- on a cash basis
  pub one_written : asked.basis ≡ basis.Cash → cash ≡ moving (opening_postings i) → mid ≡ was ++ opened_text cash
      → mid ≡ was ++ flat_map opened_text (openings asked.basis i)
  one_written is cash_is first =
      first
      ∙ ap (λ text. was ++ text) (ap opened_text cash_is
      ∙ form_same asked.form asked.names (opening_of day) (opening_postings i)
      ∙ sym (append-nil (opened_text (opening_postings i))))
      ∙ ap (λ b. was ++ flat_map opened_text (openings b i)) (sym is)

  -- and on an accrual basis
  pub two_written : asked.basis ≡ basis.Accrual → day ≡ i.catalogue.day → cash ≡ moving (opening_postings i)
      → added ≡ moving (adjusting_opening day i) → mid ≡ was ++ opened_text cash → now ≡ mid ++ opened_text added
      → now ≡ was ++ flat_map opened_text (openings asked.basis i)
  two_written is today cash_is added_is first second =
      let one = opened_text (opening_postings i) in
      let two = opened_text (adjusting_opening i.catalogue.day i) in
      let cash_text : opened_text cash ≡ one =
      ap opened_text cash_is ∙ form_same asked.form asked.names (opening_of day) (opening_postings i) in
      let added_text : opened_text added ≡ two =
      ap opened_text (added_is ∙ ap (λ d. moving (adjusting_opening d i)) today)
      ∙ form_same asked.form asked.names (opening_of day) (adjusting_opening i.catalogue.day i) in
      second ∙ ap₂ ◌++◌ (first ∙ ap (λ text. was ++ text) cash_text) added_text ∙ append_assoc was one two
      ∙ ap (λ text. was ++ (one ++ text)) (sym (append-nil two))
      ∙ ap (λ b. was ++ flat_map opened_text (openings b i)) (sym is)

-- ---- the opening that is asked for

module _ {S : Type 0} (store : Ghosts S) (asked : BooksAsked) where
  -- none is
  pub opens_nothing : (day : ℕ) (text : List ℕ) (old new : S)
      → Reads store.stands store.clean store.leaves (λ i. i.catalogue.day) old new (Ok day)
      → (nat_le asked.first day && nat_le day asked.last) ≡ false → OpensBooks store asked text text old new
  opens_nothing day text old new reads outside = record {
    premise = reads.premise;
    same = reads.same;
    text = λ k i s. sym (append-nil text) ∙ ap (λ more. text ++ more) (sym (
        ap (λ b. cond b (flat_map (form_booked asked.form asked.names (opening_of i.catalogue.day))
        (openings asked.basis i)) []) (ap (λ d. nat_le asked.first d && nat_le d asked.last)
        (sym (reads.value_is k i s)) ∙ outside)));
  }

  -- it was written
  pub opens_written : (day : ℕ) (opening : OpeningPostings) (was now : List ℕ) (old mid new : S)
      → Reads store.stands store.clean store.leaves (λ i. i.catalogue.day) old mid (Ok day)
      → (nat_le asked.first day && nat_le day asked.last) ≡ true → ReadsOpening store day opening mid new
      → ((i : Institution) → day ≡ i.catalogue.day → opening.cash.items ≡ moving (opening_postings i)
      → opening.added.items ≡ moving (adjusting_opening day i) → now ≡ was
      ++ flat_map (form_booked asked.form asked.names (opening_of day)) (openings asked.basis i))
      → OpensBooks store asked was now old new
  opens_written day opening was now old mid new reads within read written = record {
    premise = λ k. reads.premise (read.premise k);
    same = λ k i s. read.same k i (reads.same (read.premise k) i s);
    text = λ k i s.
        let early = read.premise k in
        let today = reads.value_is early i s in
        let stands = reads.same early i s in
        written i today (read.cash k i stands) (read.added k i stands)
        ∙ ap (λ d. was ++ flat_map (form_booked asked.form asked.names (opening_of d)) (openings asked.basis i)) today
        ∙ ap (λ more. was ++ more) (sym (
        ap (λ b. cond b (flat_map (form_booked asked.form asked.names (opening_of i.catalogue.day))
        (openings asked.basis i)) []) (ap (λ d. nat_le asked.first d && nat_le d asked.last) (sym today) ∙ within)));
  }
