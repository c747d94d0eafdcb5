-- What a query in the order of the key shows of a table that keeps items.
use Rattle.std.proofs.Common.{◌≡◌, ℕ, ℤ, Bool, false, List, [], ◌∷◌, map, filter, take, refl, sym, ap, ◌∙◌, subst}
use Rattle.std.proofs.Common.{Ordering, Less}
use Rattle.std.specs.List.{list_all}
use Rattle.sqlite.specs.declared.types.Value.{Value}
use Rattle.sqlite.specs.declared.types.Value.TheVariants.{Null, Int}
use Rattle.sqlite.specs.Order.{Row}
use Rattle.sqlite.specs.Tree.{Trees}
use Rattle.sqlite.specs.Term.{Term, holds}
use Rattle.sqlite.specs.Query.{output, output_cmp, IsAnswerAs}
use Rattle.sqlite.specs.Program.{overlay}
use Rattle.sqlite.specs.Schema.{Schema}
use Rattle.sqlite.specs.Command.TheVariants.{Select}
use Rattle.sqlite.specs.Listing.{understood, reads_listing}
use Rattle.sqlite.specs.Effect.{Database, Reads}
use Rattle.sqlite.proofs.Callers.{IsPlain, command_of}
use Rattle.sqlite_value.specs.declared.keys.Key.{Key}
use Rattle.sqlite_keyed.proofs.ListLemmas.{ascending-filter, ascending_weaker}
use Rattle.mf_store_sql.specs.Keep.{Keeps}
use Rattle.mf_store_sql.specs.Scan.{scan, cut_at}
use Rattle.mf_store_sql.specs.Queries.{Answers}
use Rattle.mf_store_sql.proofs.AlikeLemmas.{answer_full}
use Rattle.mf_store_sql.proofs.ReadLemmas.{shows}

pub shown_kept : {X : Type 0} (stored : X → Row) (cmp : X → X → Ordering) (schema : Schema) (tree : ℕ) (sql : List ℕ)
    → IsPlain (understood schema sql) → reads_listing schema sql ≡ false
    → (tests project : List Term) (order : List (Term × Key)) (names : List (List ℕ))
    → command_of (understood schema sql) ≡ Select (record { lets = []; body = scan tree tests project order }) names
    → (params : Row) (test : X → Bool) → ((id : ℤ) (x : X) → list_all (holds (params ∷ (Int id ∷ stored x) ∷ [])) tests
    ≡ test x)
    → (sort show : X → Row) → ((id : ℤ) (x : X) → output (scan tree tests project order) (params ∷ (Int id ∷ stored x)
    ∷ []) ≡ (sort x, show x))
    → ((a b : X) → output_cmp (scan tree tests project order) (sort a, show a) (sort b, show b) ≡ cmp a b)
    → ((trees : Trees) → overlay trees [] tree ≡ trees tree)
    → (db : Database) (items : List X) (rows : List Row) → db.schema ≡ schema → Keeps stored cmp (db.trees tree) items
    → Answers sql params db rows → rows ≡ map show (filter test items)
shown_kept stored cmp schema tree sql plain unlisted tests project order names is params test tested sort show out ranks
    under db items rows has k h =
    let read = subst (λ c. Reads c db params rows) (ap (λ s. command_of (understood s sql)) has ∙ is)
    (h (subst (λ s. IsPlain (understood s sql)) (sym has) plain) (ap (λ s. reads_listing s sql) has ∙ unlisted)) in
    let q = scan tree tests project order in
    let rising = ascending_weaker _ (λ a b. output_cmp q (sort a, show a) (sort b, show b) ≡ Less) (λ a b h. ranks a b
    ∙ h) _ (ascending-filter (λ a b. cmp a b ≡ Less) test items k.whole.rising) in
    shows stored cmp tree tests project order params test tested (λ _. k.full) items k.whole Null rows
    (answer_full tree tests project order params under db.trees k.full k.alike rows
    (read.answer Null)) sort show out rising

-- the answer of a query that is cut is the start of the whole answer
whole : (lost : Value) (count tree : ℕ) (tests project : List Term) (order : List (Term × Key)) (db : Trees)
    (params : Row) (rows : List Row) → IsAnswerAs lost (cut_at count (scan tree tests project order)) db params rows
    → (all : List Row) × IsAnswerAs lost (scan tree tests project order) db params all × (rows ≡ take count all)
whole lost count tree tests project order db params rows a = (
  map (λ o. o.1) a.ordered,
  record {
    staged = a.staged;
    grouped = a.grouped;
    kept = a.kept;
    distinct = a.distinct;
    ordered = a.ordered;
    same = a.same;
    sorted = a.sorted;
    shown = refl;
  },
  a.shown,
)

-- the same where only the first are shown
pub shown_first_kept : {X : Type 0} (stored : X → Row) (cmp : X → X → Ordering) (schema : Schema) (tree count : ℕ)
    (sql : List ℕ) → IsPlain (understood schema sql) → reads_listing schema sql ≡ false
    → (tests project : List Term) (order : List (Term × Key)) (names : List (List ℕ))
    → command_of (understood schema sql)
    ≡ Select (record { lets = []; body = cut_at count (scan tree tests project order) }) names
    → (params : Row) (test : X → Bool) → ((id : ℤ) (x : X) → list_all (holds (params ∷ (Int id ∷ stored x) ∷ [])) tests
    ≡ test x)
    → (sort show : X → Row) → ((id : ℤ) (x : X) → output (scan tree tests project order) (params ∷ (Int id ∷ stored x)
    ∷ []) ≡ (sort x, show x))
    → ((a b : X) → output_cmp (scan tree tests project order) (sort a, show a) (sort b, show b) ≡ cmp a b)
    → ((trees : Trees) → overlay trees [] tree ≡ trees tree)
    → (db : Database) (items : List X) (rows : List Row) → db.schema ≡ schema → Keeps stored cmp (db.trees tree) items
    → Answers sql params db rows → rows ≡ take count (map show (filter test items))
shown_first_kept stored cmp schema tree count sql plain unlisted tests project order names is params test tested sort
    show out ranks under db items rows has k h =
    let read = subst (λ c. Reads c db params rows) (ap (λ s. command_of (understood s sql)) has ∙ is)
    (h (subst (λ s. IsPlain (understood s sql)) (sym has) plain) (ap (λ s. reads_listing s sql) has ∙ unlisted)) in
    let q = scan tree tests project order in
    let rising = ascending_weaker _ (λ a b. output_cmp q (sort a, show a) (sort b, show b) ≡ Less) (λ a b h. ranks a b
    ∙ h) _ (ascending-filter (λ a b. cmp a b ≡ Less) test items k.whole.rising) in
    let all = whole Null count tree tests project order (overlay db.trees []) params rows (read.answer Null) in
    all.2 ∙ ap (take count) (shows stored cmp tree tests project order params test tested (λ _. k.full) items k.whole
    Null all.0 (answer_full tree tests project order params under db.trees k.full k.alike all.0 all.1)
    sort show out rising)
