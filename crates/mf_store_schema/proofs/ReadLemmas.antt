-- Rows that are read into records, one by one.
use Rattle.std.proofs.Common.{◌≡◌, ◌++◌, ◌∙◌, ℕ, List, [], ◌∷◌, map, Option, Vec, Global}
use Rattle.std.proofs.Common.{Some, None, Result, Ok, Err, IfOk, OnOk, IsTrue, inl, inr, sym, ap₂, refl, subst, arith}
use Rattle.std.specs.Option.{IfSome, IfNone}
use Rattle.std.specs.List.{AllByRecursion}
use Rattle.sqlite.specs.Effect.{Database}
use Rattle.sqlite.specs.Order.{Row}
use Rattle.sqlite.specs.Given.{IsPlain}
use Rattle.sqlite.specs.Listing.{understood}
use Rattle.sqlite.specs.Schema.{Schema}
use Rattle.sqlite.specs.State.{State, HasCleanDisk, Survives}
use Rattle.mf_store_schema.proofs.CallLemmas.{only_faults_shut}
use Rattle.mf_store_sql.specs.Columns.{Named}
use Rattle.mf_store_schema.specs.Fields.{HasFields}
use Rattle.mf_store_schema.specs.Read.{IsReadAs, AreReadAs, AreRead}
use Rattle.mf_store_schema.specs.Schemas.{IsUnchangedUnder}

-- what holds of the value of an Option, where it has one; and what holds where it has none
pub at_some : {V : Type 0} (o : Option V) (P : V → Type 0) (v : V) → o ≡ Some v → IfSome o P → P v
at_some o P v is h = subst (λ x. IfSome x P) is h

pub at_none : {V : Type 0} (o : Option V) (P : Type 0) → o ≡ None → IfNone o P → P
at_none o P is h = subst (λ x. IfNone x P) is h

module _ {X : Type 0} (stored : X → Row) where
  pub rows_of : (xs : List X) (rows : List Row) → AreReadAs stored xs rows → map stored xs ≡ rows
  rows_of [] [] h = refl
  rows_of [] (row ∷ rows) h = absurd h
  rows_of (x ∷ xs) [] h = absurd h
  rows_of (x ∷ xs) (row ∷ rows) h = ap₂ ◌∷◌ h.0.has (rows_of xs rows h.1)

  pub only_those : (xs : List X) (rows : List Row) → AreReadAs stored xs rows → (ys : List X)
      → rows ≡ map stored ys → xs ≡ ys
  only_those [] [] h [] e = refl
  only_those [] [] h (y ∷ ys) e = absurd (cc)
  only_those [] (row ∷ rows) h ys e = absurd h
  only_those (x ∷ xs) [] h ys e = absurd h
  only_those (x ∷ xs) (row ∷ rows) h [] e = absurd (cc)
  only_those (x ∷ xs) (row ∷ rows) h (y ∷ ys) e =
      let first : row ≡ stored y = cc in
      let others : rows ≡ map stored ys = cc in
      ap₂ ◌∷◌ (h.0.only y first) (only_those xs rows h.1 ys others)

  pub more : (xs : List X) (rows : List Row) → AreReadAs stored xs rows → (x : X) (row : Row) → IsReadAs stored x row
      → AreReadAs stored (xs ++ x ∷ []) (rows ++ row ∷ [])
  more [] [] h x row one = (one, tt)
  more [] (r ∷ rows) h x row one = absurd h
  more (y ∷ xs) [] h x row one = absurd h
  more (y ∷ xs) (r ∷ rows) h x row one = (h.0, more xs rows h.1 x row one)

module _ {X E : Type 0} (stored : X → Row) (columns : List Named) (r : Result (Option (Vec X Global)) E)
    (L : Type 0) (Q : List Row → Type 0) (live : OnOk r L)
    (read : IfOk r (λ x. (shown : List Row) × AreRead stored columns x shown × Q shown)) where
  -- what follows of the records that were read
  pub some_read : (P : Vec X Global → Type 0) → (L → (rs : Vec X Global) (shown : List Row)
      → AreReadAs stored rs.items shown → Q shown → P rs) → IfOk r (λ x. IfSome x P)
  some_read P f = go r live read
    where
      go : (r : Result (Option (Vec X Global)) E) → OnOk r L → IfOk r (λ x. (shown : List Row)
          × AreRead stored columns x shown × Q shown) → IfOk r (λ x. IfSome x P)
      go (Ok (Some rs)) up h = f up rs h.0 h.1 h.2
      go (Ok None) up h = tt
      go (Err e) up h = tt

  -- what follows where there are none
  pub none_read : (P : Type 0) → (L → (shown : List Row) → ¬ AllByRecursion (HasFields columns) shown → Q shown → P)
      → IfOk r (λ x. IfNone x P)
  none_read P f = go r live read
    where
      go : (r : Result (Option (Vec X Global)) E) → OnOk r L → IfOk r (λ x. (shown : List Row)
          × AreRead stored columns x shown × Q shown) → IfOk r (λ x. IfNone x P)
      go (Ok (Some rs)) up h = tt
      go (Ok None) up h = f up h.0 h.1 h.2
      go (Err e) up h = tt

-- a plain text changes nothing, where it is plain under each of the schemas
pub unchanged : (IsOne : Schema → Type 0) (was is : State) (sql : List ℕ)
    → ((k : Schema) → IsOne k → IsPlain (understood k sql)) → (HasCleanDisk is → IsTrue is.is_open
    → IsPlain (understood was.now.schema sql) → is.now ≡ was.now)
    → (HasCleanDisk is → IsTrue is.is_open → IsTrue was.is_open) → Survives was is (λ _. IsTrue was.is_open
    × ¬ IsPlain (understood was.now.schema sql)) → IsUnchangedUnder IsOne was is
unchanged IsOne was is sql plain same was_open survives = record {
  premise = λ clean. omega (arith, survives.clean, clean);
  was_open = was_open;
  shuts = only_faults_shut was is survives;
  same = λ clean live ours. same clean live (plain was.now.schema ours);
  stop = λ clean ours trees may. elim (survives.crash clean trees may) [
    | inl before ↦ before
    | inr wrote ↦ absurd (wrote.1 (plain was.now.schema (ours wrote.0)))
  ];
}

-- two readings, one after the other
pub unchanged_then : (P Q : Schema → Type 0) (a b c : State) → IsUnchangedUnder P a b → IsUnchangedUnder Q b c
    → IsUnchangedUnder (λ k. P k × Q k) a c
unchanged_then P Q a b c first second =
    let kept = λ (same : b.now ≡ a.now) (its : Q a.now.schema). subst (λ (d : Database). Q d.schema) (sym same) its in
    record {
      premise = λ clean. first.premise (second.premise clean);
      was_open = λ clean live. first.was_open (second.premise clean) (second.was_open clean live);
      same = λ clean live its. let before = first.same (second.premise clean) (second.was_open clean live) its.0 in
          second.same clean live (kept before its.1) ∙ before;
      shuts = λ faults few up. second.shuts faults few (first.shuts faults few up);
      stop = λ clean its trees may.
          let early = second.premise clean in
          first.stop early (λ live. (its live).0) trees
          (second.stop clean (λ live. kept (first.same early live (its (first.was_open early live)).0)
          (its (first.was_open early live)).1) trees may);
    }
