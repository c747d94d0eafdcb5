-- What is told of rows that no record can hold.
use Rattle.std.proofs.Common.{◌≡◌, ◌⊎◌, ◌<◌, ◌≤◌, ◌+◌, ◌∙◌, ℕ, suc, Bool, true, false, List, [], ◌∷◌, ◌++◌}
use Rattle.std.proofs.Common.{length, get_or, Option, Some, None, is_some, refl, sym, subst, arith, inl, inr}
use Rattle.std.proofs.Common.{true≢false}
use Rattle.std.specs.Prelude.{slice_get}
use Rattle.std.specs.List.{AllByRecursion}
use Rattle.std.specs.Option.{IfSome}
use Rattle.std.proofs.Math.ListN.{take}
use Rattle.std.proofs.Math.Seq.{take-suc}
use Rattle.std.proofs.lemmas.List.{append-nil, append_assoc, length-take-le, take_all}
use Rattle.std.proofs.lemmas.Option.{slice_get_read}
use Rattle.sqlite_keyed.proofs.ListLemmas.{all-append}
use Rattle.sqlite.specs.Effect.{Database}
use Rattle.sqlite.specs.Order.{Row}
use Rattle.mf_store_audit.specs.Unread.{AddUnread, AreAdded, AreShown, AreTold, AreToldOfAll, IsRecords, IsToldAt}
use Rattle.mf_store_audit.specs.Unread.{IsUnread, IsUnreadAmong, listed}
use Rattle.mf_store_audit.specs.declared.unread.TableName.{TableName}
use Rattle.mf_store_audit.specs.declared.unread.Unread.{Unread}

-- a row that was read is a record's
pub read_has : {X : Type 0} (name : TableName) (stored : X → Row) → ((x : X) → IsRecords name (stored x)) → (row : Row)
    (found : Option X) → is_some found ≡ true → IfSome found (λ x. stored x ≡ row) → IsRecords name row
read_has name stored records row (Some x) there is = subst (IsRecords name) is (records x)
read_has name stored records row None there is = absurd (true≢false (sym there))

nothing_after : {A : Type 0} (xs : List A) (x : A) → ¬ (xs ++ x ∷ [] ≡ [])
nothing_after [] x is = absurd (cc)
nothing_after (y ∷ ys) x is = absurd (cc)

-- what was added where this is told of a row
pub added : (items more : List Unread) (u : Unread) (first : Option Unread) → first ≡ Some u → more ≡ items ++ u ∷ []
    → more ≡ items ++ listed first
added items more u first is more_is = more_is ∙ (λ t. items ++ listed (sym is t))

-- and where nothing is
pub none_added : (items more : List Unread) (first : Option Unread) → first ≡ None → more ≡ items
    → more ≡ items ++ listed first
none_added items more first is more_is = more_is ∙ sym (append-nil items) ∙ (λ t. items ++ listed (sym is t))

module _ (name : TableName) where
  row_told : (place : ℕ) (rows : List Row) (told : List Unread) (row : Row) (first : Option Unread)
      → AreTold name place rows told → IsToldAt name (place + length rows) row first
      → AreTold name place (rows ++ row ∷ []) (told ++ listed first)
  row_told place [] told row first none is =
      let here : place + length {A = Row} [] ≡ place = omega arith in (
        first,
        [],
        subst (λ k. IsToldAt name k row first) here is,
        refl,
        (λ t. none t ++ listed first) ∙ sym (append-nil (listed first)),
      )
  row_told place (r ∷ rows) told row first are is =
      let there : place + length (r ∷ rows) ≡ place + 1 + length rows = omega arith in (
        are.0,
        are.1 ++ listed first,
        are.2,
        row_told (place + 1) rows are.1 row first are.3 (subst (λ k. IsToldAt name k row first) there is),
        (λ t. are.4 t ++ listed first) ∙ append_assoc (listed are.0) are.1 (listed first),
      )

  -- what was told of the rows before a place
  pub record AreSoFar (rows : List Row) (all : Bool) (start items : List Unread) (place : ℕ) : Type 0 where
    pub told : List Unread
    pub items_are : items ≡ start ++ told
    pub each : AllByRecursion (IsUnreadAmong name rows) told
    pub are : AreTold name 0 (take place rows) told
    pub alone : all ≡ false → told ≡ []

  module _ (rows : List Row) (all : Bool) (start items : List Unread) (place : ℕ) (was : AreSoFar rows all start items
      place) where
    -- no row is left
    pub all_told : length rows ≤ place → AreAdded name rows all start items
    all_told past = record {
      told = was.told;
      after_is = was.items_are;
      each = was.each;
      whole = λ asked. subst (λ (l : List Row). AreTold name 0 l was.told) (take_all place rows past) was.are;
    }

    module _ (row : Row) (first : Option Unread) (more : List Unread) (inside : place < length rows)
        (is : row ≡ get_or rows place row) (told_at : IsToldAt name place row first) (more_is : more
        ≡ items ++ listed first) where
      told_too : (first : Option Unread) → IsToldAt name place row first → AllByRecursion (IsUnreadAmong name rows)
          (listed first)
      told_too None none = tt
      told_too (Some u) (place_is, unread) = (
        record {
          row = row;
          at = subst (λ k. slice_get rows k ≡ Some row) (sym place_is) (slice_get_read rows (length rows) place row refl
              inside is);
          is = unread;
        },
        tt,
      )

      after : more ≡ start ++ (was.told ++ listed first)
      after = more_is ∙ (λ t. was.items_are t ++ listed first) ∙ append_assoc start was.told (listed first)

      each_too : AllByRecursion (IsUnreadAmong name rows) (was.told ++ listed first)
      each_too =
          all-append (IsUnreadAmong name rows) was.told (listed first) was.each (told_too first told_at)

      pub one_more : (all ≡ false → first ≡ None) → AreSoFar rows all start more (place + 1)
      one_more none =
          let one : place + 1 ≡ suc place = omega arith in
          let low : place ≤ length rows = omega (arith, inside) in
          let long : length (take place rows) ≡ place = length-take-le place rows low in
          let at : place ≡ 0 + length (take place rows) = omega (arith, long) in
          let ends : take (place + 1) rows ≡ take place rows ++ row ∷ [] = (λ t. take (one t) rows)
          ∙ take-suc rows place row inside ∙ (λ t. take place rows ++ sym is t ∷ []) in
          record {
            told = was.told ++ listed first;
            items_are = after;
            each = each_too;
            are = subst (λ (l : List Row). AreTold name 0 l (was.told ++ listed first)) (sym ends)
                (row_told 0 (take place rows) was.told row first was.are
                (subst (λ k. IsToldAt name k row first) at told_at));
            alone = λ alone. λ t. was.alone alone t ++ listed (none alone t);
          }

      -- the first row is told alone
      pub first_told : (u : Unread) → first ≡ Some u → all ≡ false → AreAdded name rows all start more
      first_told u is_first one = record {
        told = was.told ++ listed first;
        after_is = after;
        each = each_too;
        whole = λ asked. absurd (elim asked [
          | inl wanted ↦ true≢false (sym wanted ∙ one)
          | inr none ↦ nothing_after items u (sym more_is_u ∙ none)
        ]);
      }
        where
          more_is_u : more ≡ items ++ u ∷ []
          more_is_u = more_is ∙ (λ t. items ++ listed (is_first t))

-- ---- tables, one after the other

left_nil : {A : Type 0} (xs ys : List A) → xs ++ ys ≡ [] → xs ≡ []
left_nil [] ys is = refl
left_nil (x ∷ xs) ys is = absurd (cc)

module _ (db : Database) where
  in_turn_then : (names others : List TableName) (xs ys : List Unread) → AreToldOfAll db names xs
      → AreToldOfAll db others ys → AreToldOfAll db (names ++ others) (xs ++ ys)
  in_turn_then [] others xs ys none are = subst (λ l. AreToldOfAll db others (l ++ ys)) (sym none) are
  in_turn_then (name ∷ names) others xs ys (first, later, here, rest, xs_are) are = (
    first,
    later ++ ys,
    here,
    in_turn_then names others later ys rest are,
    (λ t. xs_are t ++ ys) ∙ append_assoc first later ys,
  )

  module _ (all : Bool) (a b : List Unread) where
    -- those of one table
    pub adds_table : (name : TableName) (rows : List Row) → AreShown name db rows → AreAdded name rows all a b
        → AddUnread db (name ∷ []) all a b
    adds_table name rows shown added = record {
      told = added.told;
      after_is = added.after_is;
      each = each added.told added.each;
      whole = λ asked. (
        added.told,
        [],
        record { rows = rows; shown = shown; told_are = added.whole asked },
        refl,
        sym (append-nil added.told),
      );
    }
      where
        each : (told : List Unread) → AllByRecursion (IsUnreadAmong name rows) told
            → AllByRecursion (IsUnread db) told
        each [] none = tt
        each (u ∷ told) (here, later) = (
          record {
            rows = rows;
            shown = subst (λ n. AreShown n db rows) (sym here.is.table_is) shown;
            unread = subst (λ n. IsUnreadAmong n rows u) (sym here.is.table_is) here;
          },
          each told later,
        )

    -- and of more
    pub adds_then : (names others : List TableName) (c : List Unread) → AddUnread db names all a b
        → AddUnread db others all b c → AddUnread db (names ++ others) all a c
    adds_then names others c first second = record {
      told = first.told ++ second.told;
      after_is = second.after_is ∙ (λ t. first.after_is t ++ second.told) ∙ append_assoc a first.told second.told;
      each = all-append (IsUnread db) first.told second.told first.each second.each;
      whole = λ asked. in_turn_then names others first.told second.told (first.whole (before asked))
          (second.whole asked);
    }
      where
        before : (all ≡ true) ⊎ (c ≡ []) → (all ≡ true) ⊎ (b ≡ [])
        before (inl wanted) = inl wanted
        before (inr none) = inr (left_nil b second.told (sym second.after_is ∙ none))
