-- Whatever rows a stranger wrote under the schema with the journal, they are lines of its table.
use Rattle.std.proofs.Common.{◌≡◌, ◌<ℤ◌, ◌+◌, ◌≤◌, ℕ, ℤ, suc, Bool, true, false, not, ◌||◌, ◌&&◌, if◌then◌else◌}
use Rattle.std.proofs.Common.{List, [], ◌∷◌, ◌++◌, map, drop, Some, Less, refl, sym, ap, ◌∙◌, subst, arith, true≢false}
use Rattle.std.specs.List.{AllByRecursion}
use Rattle.std.proofs.lemmas.Bool.{and_parts}
use Rattle.sqlite.specs.declared.types.Value.{Value}
use Rattle.sqlite.specs.declared.types.Value.TheVariants.{Null, Int, Real, Text, Blob}
use Rattle.sqlite.specs.Order.{Row, column, value_cmp}
use Rattle.sqlite.specs.Tree.{Trees}
use Rattle.sqlite_value.proofs.OrderLemmas.{value_cmp-Int}
use Rattle.sqlite_keyed.specs.Keyed.{IsKeyedBy}
use Rattle.sqlite_keyed.proofs.KeyedLemmas.{lt_from_Less}
use Rattle.sqlite_trees.specs.Tree.{rowid}
use Rattle.sqlite_schema.specs.declared.schema.Constraint.{Constraint}
use Rattle.sqlite_schema.specs.declared.schema.Constraint.TheVariants.{Datatype, NotNull}
use Rattle.sqlite_schema.specs.declared.schema.Table.{Table}
use Rattle.sqlite_schema.specs.Rules.{are_typed, are_present, is_of, suits, passes}
use Rattle.sqlite_schema.specs.Names.{is_key}
use Rattle.sqlite_sql.specs.Ops.{is_null}
use Rattle.sqlite_catalog.specs.Listing.{IsSound}
use Rattle.mf_store_sql.specs.Columns.{Field, Named, Number, Amount, MaybeNumber, MaybeText, sql_kind, sql_column}
use Rattle.mf_store_sql.specs.Columns.{is_always}
use Rattle.mf_store_sql.specs.Columns.{Text as TextField, Bytes}
use Rattle.mf_store_sql.specs.Keep.{AreAlike}
use Rattle.mf_store_sql.specs.Numbered.{Filed, id_of, values_in, numbered_row, numbered_table, KeepsLines}
use Rattle.mf_store_sql.specs.Rows.{IsKeepable, AreKeepable}
use Rattle.mf_store_schema.specs.Tables.{schema, journal, third_schema}
use Rattle.mf_store_schema.specs.Whole.{HasRowids}

-- ---- the values of a row

-- a field that holds whatever its column may have
abbrev HoldsAny : Field → Type 0
HoldsAny Amount = Unit {0}
HoldsAny Bytes = Unit {0}
HoldsAny _ = ⊥

keepable : (f : Field) (v : Value) → HoldsAny f → is_of (sql_kind f) v ≡ true
    → (not (is_always f) || not (is_null v)) ≡ true → IsKeepable f v
keepable Number v held typed there = absurd held
keepable TextField v held typed there = absurd held
keepable MaybeNumber v held typed there = absurd held
keepable MaybeText v held typed there = absurd held
keepable Amount Null held typed there = absurd (true≢false (sym there))
keepable Amount (Int n) held typed there = (n, refl)
keepable Amount (Real x) held typed there = absurd (true≢false (sym typed))
keepable Amount (Text t) held typed there = absurd (true≢false (sym typed))
keepable Amount (Blob b) held typed there = absurd (true≢false (sym typed))
keepable Bytes Null held typed there = absurd (true≢false (sym there))
keepable Bytes (Int n) held typed there = absurd (true≢false (sym typed))
keepable Bytes (Real x) held typed there = absurd (true≢false (sym typed))
keepable Bytes (Text t) held typed there = absurd (true≢false (sym typed))
keepable Bytes (Blob b) held typed there = (b, refl)

-- no absent value is held so
no_value : (f : Field) → HoldsAny f → (not (is_always f) || not (is_null Null)) ≡ true → ⊥
no_value Number held there = held
no_value TextField held there = held
no_value MaybeNumber held there = held
no_value MaybeText held there = held
no_value Amount held there = true≢false (sym there)
no_value Bytes held there = true≢false (sym there)

-- past the first column there is no key
no_key : (at : ℕ) → 1 ≤ at → is_key (Some 0) at ≡ false
no_key at low = grind (arith, low)

-- such a column has a value
has_value : (row : Row) (at : ℕ) (f : Field) (more : Bool) → 1 ≤ at
    → ((is_key (Some 0) at || not (is_always f) || not (is_null (column row (at + 1)))) && more) ≡ true
    → (not (is_always f) || not (is_null (column row (at + 1)))) ≡ true
has_value row at f more low there =
    subst (λ (key : Bool). (key || not (is_always f) || not (is_null (column row (at + 1)))) ≡ true) (no_key at low)
    (and_parts _ _ there).0

-- the first of the values from a column on is that of the column
first_value : (row : Row) (at : ℕ) (vs : Row) → ((i : ℕ) → column row (at + 1 + i) ≡ column vs i)
    → column row (at + 1) ≡ column vs 0
first_value row at vs are = let same : at + 1 ≡ at + 1 + 0 = omega arith in ap (λ n. column row n) same ∙ are 0

-- the values from a column on are those that the columns keep
keepable_from : (row : Row) (at : ℕ) (cs : List Named) (vs : Row) → 1 ≤ at
    → ((i : ℕ) → column row (at + 1 + i) ≡ column vs i) → AllByRecursion (λ (c : Named). HoldsAny c.field) cs
    → are_typed (Some 0) at (map sql_column cs) vs ≡ true → are_present (Some 0) at (map sql_column cs) row ≡ true
    → AreKeepable cs vs
keepable_from row at [] [] low are held typed there = tt
keepable_from row at [] (v ∷ vs) low are held typed there = absurd (true≢false (sym typed))
keepable_from row at (c ∷ cs) [] low are held typed there =
    absurd (no_value c.field held.0
    (subst (λ v. (not (is_always c.field) || not (is_null v)) ≡ true) (first_value row at [] are)
    (has_value row at c.field _ low there)))
keepable_from row at (c ∷ cs) (v ∷ vs) low are held typed there =
    let both = and_parts _ _ typed in (
      keepable c.field v held.0
          (subst (λ (key : Bool). (if key then is_null v else suits (sql_column c) v) ≡ true) (no_key at low) both.0)
          (subst (λ w. (not (is_always c.field) || not (is_null w)) ≡ true) (first_value row at (v ∷ vs) are)
          (has_value row at c.field _ low there)),
      keepable_from row (at + 1) cs vs (omega (arith, low))
          (λ i. let same : at + 1 + 1 + i ≡ at + 1 + suc i = omega arith in ap (λ n. column row n) same ∙ are (suc i))
          held.1 both.1 (and_parts _ _ there).1,
    )

-- ---- the rows

null_is : (v : Value) → is_null v ≡ true → v ≡ Null
null_is Null h = refl
null_is (Int n) h = absurd (true≢false (sym h))
null_is (Real x) h = absurd (true≢false (sym h))
null_is (Text t) h = absurd (true≢false (sym h))
null_is (Blob b) h = absurd (true≢false (sym h))

-- the columns are those of the journal
abbrev columns_hold_any : AllByRecursion (λ (c : Named). HoldsAny c.field) journal.columns
columns_hold_any = (tt, (tt, (tt, (tt, (tt, (tt, (tt, (tt, (tt, (tt, tt))))))))))

-- the table as SQL sees it
abbrev table : Table
table = numbered_table 23 journal

-- a row of it is that of a line
line_of_row : (n : ℤ) (vs : Row) → are_typed (Some 0) 0 table.columns vs ≡ true
    → are_present (Some 0) 0 table.columns (Int n ∷ vs) ≡ true
    → (line : Filed) × (Int n ∷ vs ≡ numbered_row id_of values_in line) × (id_of line ≡ n)
    × AreKeepable journal.columns (values_in line)
line_of_row n [] typed there = absurd (true≢false (sym there))
line_of_row n (v ∷ vs) typed there =
    let both = and_parts _ _ typed in
    let none = null_is v both.0 in (
      (n, vs),
      ap (λ w. Int n ∷ w ∷ vs) none,
      refl,
      keepable_from (Int n ∷ v ∷ vs) 1 journal.columns vs (omega arith)
          (λ i. let same : 1 + 1 + i ≡ suc (suc i) = omega arith in ap (λ k. column (Int n ∷ v ∷ vs) k) same)
          columns_hold_any both.1 there,
    )

-- a number below all others
below_all : (n : ℤ) (lines : List Filed)
    → AllByRecursion (λ r. value_cmp (Int n) (rowid r) ≡ Less) (map (numbered_row id_of values_in) lines)
    → AllByRecursion (λ line. n <ℤ id_of line) lines
below_all n [] all = tt
below_all n (l ∷ ls) all =
    (lt_from_Less n (id_of l) (sym (value_cmp-Int n (id_of l)) ∙ all.0), below_all n ls all.1)

-- the rows are those of lines
record AreOfLines (rows : List Row) : Type 0 where
  pub lines : List Filed
  pub rows_are : rows ≡ map (numbered_row id_of values_in) lines
  pub rising : IsKeyedBy id_of lines
  pub fitting : AllByRecursion (λ line. AreKeepable journal.columns (values_in line)) lines

lines_of : (rows : List Row) → HasRowids rows
    → AllByRecursion (λ row. are_typed (Some 0) 0 table.columns (drop 1 row) ≡ true) rows
    → AllByRecursion (λ row. are_present (Some 0) 0 table.columns row ≡ true) rows → AreOfLines rows
lines_of [] h typed there = record { lines = []; rows_are = refl; rising = tt; fitting = tt }
lines_of ([] ∷ rows) h typed there = absurd (true≢false (sym h.1.0))
lines_of ((Null ∷ vs) ∷ rows) h typed there = absurd (true≢false (sym h.1.0))
lines_of ((Real x ∷ vs) ∷ rows) h typed there = absurd (true≢false (sym h.1.0))
lines_of ((Text t ∷ vs) ∷ rows) h typed there = absurd (true≢false (sym h.1.0))
lines_of ((Blob b ∷ vs) ∷ rows) h typed there = absurd (true≢false (sym h.1.0))
lines_of ((Int n ∷ vs) ∷ rows) h typed there =
    let more = lines_of rows (h.0.1, h.1.1) typed.1 there.1 in
    let one = line_of_row n vs typed.0 there.0 in
    let others = subst (AllByRecursion (λ r. value_cmp (rowid (Int n ∷ vs)) (rowid r) ≡ Less)) more.rows_are h.0.0 in
    record {
      lines = one.0 ∷ more.lines;
      rows_are = ap (λ r. r ∷ rows) one.1 ∙ ap (λ rs. numbered_row id_of values_in one.0 ∷ rs) more.rows_are;
      rising = (
        subst (λ (m : ℤ). AllByRecursion (λ line. m <ℤ id_of line) more.lines) (sym one.2)
            (below_all n more.lines others),
        more.rising,
      );
      fitting = (one.3, more.fitting);
    }

-- ---- the table

alike_itself : (rows : List Row) → AreAlike rows rows
alike_itself [] = tt
alike_itself (r ∷ rows) = ((λ c. refl), alike_itself rows)

last_of : {A : Type 0} (P : A → Type 0) (xs : List A) (x : A) → AllByRecursion P (xs ++ x ∷ []) → P x
last_of P [] x all = all.0
last_of P (y ∷ xs) x all = last_of P xs x all.1

first_of_both : (trees : Trees) (rows : List Row)
    → AllByRecursion (λ row. passes Datatype third_schema trees table row ≡ true) rows
    → AllByRecursion (λ row. are_typed (Some 0) 0 table.columns (drop 1 row) ≡ true) rows
first_of_both trees [] all = tt
first_of_both trees (r ∷ rows) all = ((and_parts _ _ all.0).0, first_of_both trees rows all.1)

-- whatever rows stand there, the table keeps lines
pub keeps_some_lines : (trees : Trees) → IsSound third_schema trees → HasRowids (trees 23)
    → (lines : List Filed) × KeepsLines journal (trees 23) lines
keeps_some_lines trees sound rowids =
    let each = λ (rule : Constraint) (t : Table).
    AllByRecursion (λ row. passes rule third_schema trees t row ≡ true) (trees t.tree) in
    let typed = last_of (each Datatype) schema.tables table (sound.obeys.rules Datatype) in
    let there = last_of (each NotNull) schema.tables table (sound.obeys.rules NotNull) in
    let found = lines_of (trees 23) rowids (first_of_both trees (trees 23) typed) there in (
      found.lines,
      record {
        kept = record {
          rows = subst (λ rows. AreAlike (trees 23) rows) found.rows_are (alike_itself (trees 23));
          rising = found.rising;
        };
        fitting = found.fitting;
      },
    )
