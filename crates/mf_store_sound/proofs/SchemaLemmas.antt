-- Trees list one schema at most, and the schemas of the program differ.
use Rattle.std.proofs.Common.{◌≡◌, ◌≢◌, ◌+◌, ◌<◌, ℕ, List, [], ◌∷◌, ◌++◌, Ok, false, codes, pos, map, filter}
use Rattle.std.proofs.Common.{slice_get, length, refl, sym, ap, ◌∙◌, subst, arith}
use Rattle.std.specs.List.{AllZip}
use Rattle.std.specs.Char.{to_ascii_lowercase}
use Rattle.std.specs.Fmt.{decimal}
use Rattle.std.proofs.lemmas.List.{append_cancel_left}
use Rattle.std.proofs.lemmas.Fmt.{decimal_injective}
use Rattle.sqlite.specs.Order.{Row, column}
use Rattle.sqlite.specs.Tree.{Trees}
use Rattle.sqlite_value.specs.declared.value.Value.{Value}
use Rattle.sqlite_value.specs.declared.value.Value.TheVariants.{Null, Int, Real, Text, Blob}
use Rattle.sqlite_trees.specs.Objects.{catalog_tree}
use Rattle.sqlite_trees.specs.Tree.{IsAscending, rowid}
use Rattle.sqlite_schema.specs.declared.schema.Index.{Index}
use Rattle.sqlite_schema.specs.declared.schema.Schema.{Schema}
use Rattle.sqlite_schema.specs.declared.schema.Table.{Table}
use Rattle.sqlite_schema.specs.Names.{same_name}
use Rattle.sqlite_catalog.specs.Listing.{IsSound, AreListed, IsTableRow, IsIndexRow, IsViewRow, IsDefined, DefinesTable}
use Rattle.sqlite_catalog.specs.Listing.{automatic, is_table_row, is_index_row, is_view_row}
use Rattle.sqlite_catalog.proofs.SoundLemmas.{lowered}
use Rattle.sqlite_catalog.proofs.StepLemmas.{named_once}
use Rattle.mf_store_sql.specs.Tables.{no_schema}
use Rattle.mf_store_schema.specs.Schemas.{IsKnown}
use Rattle.mf_store_schema.specs.Versions.{schema_at}
use Rattle.mf_store_schema.specs.declared.versions.Version.{Version}
use Rattle.mf_store_schema.specs.declared.versions.Version.TheVariants.{First, Second, Third}

same_zipped : {A B : Type 0} (R : A → B → Type 0) → ((x : A) (y z : B) → R x y → R x z → y ≡ z)
    → (xs : List A) (ys zs : List B) → AllZip R xs ys → AllZip R xs zs → ys ≡ zs
same_zipped R one [] [] [] h k = refl
same_zipped R one [] [] (z ∷ zs) h k = absurd k
same_zipped R one [] (y ∷ ys) zs h k = absurd h
same_zipped R one (x ∷ xs) [] zs h k = absurd h
same_zipped R one (x ∷ xs) (y ∷ ys) [] h k = absurd k
same_zipped R one (x ∷ xs) (y ∷ ys) (z ∷ zs) h k = let head = one x y z h.0 k.0 in let tail =
    same_zipped R one xs ys zs h.1 k.1 in λ t. head t ∷ tail t

same_id : (row : Row) (m n : ℕ) → rowid row ≡ Int (pos (m + 1)) → rowid row ≡ Int (pos (n + 1)) → m ≡ n
same_id row m n h k = let both : Int (pos (m + 1)) ≡ Int (pos (n + 1)) = sym h ∙ k in let up : m + 1 ≡ n + 1 =
    cc in omega (arith, up)

same_text : {v : Value} (a b : List ℕ) → v ≡ Text a → v ≡ Text b → a ≡ b
same_text a b h k = let both : Text a ≡ Text b = sym h ∙ k in cc

same_defined : (sql : List ℕ) (a b : Table) → a.tree ≡ b.tree → DefinesTable sql a → DefinesTable sql b → a ≡ b
same_defined sql a b tree (made, is, which) (more, also, what) =
    let both : Ok made ≡ Ok more = sym is ∙ also in
    let one : made ≡ more = cc in
    which ∙ (λ t. record (one t) { tree = tree t }) ∙ sym what

table_once : (row : Row) (a b : Table) → IsTableRow row a → IsTableRow row b → a ≡ b
table_once row a b h k =
    same_defined k.sql a b (same_id row a.tree b.tree h.described.id k.described.id) (subst (λ sql. DefinesTable sql a)
    (same_text h.sql k.sql h.sql_is k.sql_is) h.defined) k.defined

-- ---- an index is that of its row's name, tree and text, on the table that the row names

same_place : (name : List ℕ) (i j : ℕ) → i < 65536 → j < 65536 → codes "sqlite_autoindex_" ++ (name
    ++ (codes "_" ++ decimal (i + 1))) ≡ codes "sqlite_autoindex_" ++ (name ++ (codes "_" ++ decimal (j + 1))) → i ≡ j
same_place name i j low small h =
    let numbers = append_cancel_left (codes "_") (decimal (i + 1)) (decimal (j + 1))
    (append_cancel_left name _ _ (append_cancel_left (codes "sqlite_autoindex_") _ _ h)) in
    let up : i + 1 ≡ j + 1 = decimal_injective (i + 1) (j + 1) (omega (arith, low)) (omega (arith, small)) numbers in
    omega (arith, up)

index_defined : (t : Table) (a b : Index) (v : Value) → a.name ≡ b.name → a.tree ≡ b.tree → IsDefined t a v
    → IsDefined t b v → a ≡ b
index_defined t a b Null name tree (i, key, there, is, low) (j, more, also, what, small) =
    let names : (automatic t i key a.tree).name ≡ (automatic t j more b.tree).name =
    sym (ap (λ (x : Index). x.name) is) ∙ name ∙ ap (λ (x : Index). x.name) what in
    let place = same_place t.name i j low small names in
    let keys : key ≡ more = (let both = sym there ∙ (λ t'. slice_get t.uniques (place t')) ∙ also in cc) in
    is ∙ (λ k. automatic t (place k) (keys k) (tree k)) ∙ sym what
index_defined t a b (Int n) name tree h k = absurd h
index_defined t a b (Real x) name tree h k = absurd h
index_defined t a b (Text sql) name tree (made, is, which) (more, also, what) =
    let both : Ok made ≡ Ok more = sym is ∙ also in
    let one : made ≡ more = cc in
    which ∙ (λ k. record (one k) { tree = tree k; table = t.tree }) ∙ sym what
index_defined t a b (Blob x) name tree h k = absurd h

index_once : (tables : List Table) → IsAscending (λ s t. same_name s.name t.name ≡ false) tables
    → (row : Row) (a b : Index) → IsIndexRow tables row a → IsIndexRow tables row b → a ≡ b
index_once tables apart row a b h k =
    let names = same_text h.table.name k.table.name h.described.owner_is k.described.owner_is in
    let owner : h.table ≡ k.table = named_once tables h.table k.table apart h.listed k.listed
    ((lowered h.table.name k.table.name).1 (ap (map to_ascii_lowercase) names)) in
    index_defined k.table a b (column row 4) (same_text a.name b.name h.described.name_is k.described.name_is)
    (same_id row a.tree b.tree h.described.id k.described.id)
    (subst (λ t. IsDefined t a (column row 4)) owner h.defined) k.defined

none_either : {A B : Type 0} (R : A → B → Type 0) (xs : List A) (ys : List B) → AllZip R xs [] → AllZip R xs ys
    → ys ≡ []
none_either R [] [] h k = refl
none_either R [] (y ∷ ys) h k = absurd k
none_either R (x ∷ xs) ys h k = absurd h

listed_once : (objects : List Row) (s t : Schema) → t.views ≡ [] → AreListed objects s → AreListed objects t → s ≡ t
listed_once objects s t bare h k =
    let tables = same_zipped IsTableRow table_once (filter is_table_row objects) s.tables t.tables h.tables k.tables in
    let indexes = same_zipped (IsIndexRow t.tables) (index_once t.tables k.named) (filter is_index_row objects)
    s.indexes t.indexes (subst (λ ts. AllZip (IsIndexRow ts) (filter is_index_row objects) s.indexes) tables
    h.indexes) k.indexes in
    let views = none_either IsViewRow (filter is_view_row objects) s.views
    (subst (AllZip IsViewRow (filter is_view_row objects)) bare k.views) h.views in
    λ i. record { tables = tables i; indexes = indexes i; views = (views ∙ sym bare) i }

-- trees list no other schema than one without views that they list
pub one_schema : (trees : Trees) (s t : Schema) → t.views ≡ [] → IsSound s trees → IsSound t trees → s ≡ t
one_schema trees s t bare h k = listed_once (trees catalog_tree) s t bare h.lists.listed k.lists.listed

-- trees without a listed object list no table
pub nothing_listed : (trees : Trees) (s : Schema) → trees catalog_tree ≡ [] → IsSound s trees → s ≡ no_schema
nothing_listed trees s none sound =
    let listed = subst (λ objects. AreListed objects s) none sound.lists.listed in
    let tables = none_either IsTableRow [] s.tables tt listed.tables in
    let indexes = none_either (IsIndexRow s.tables) [] s.indexes tt listed.indexes in
    let views = none_either IsViewRow [] s.views tt listed.views in
    λ i. record { tables = tables i; indexes = indexes i; views = views i }

-- ---- the schemas differ

pub no_views : (v : Version) → (schema_at v).views ≡ []
no_views First = refl
no_views Second = refl
no_views Third = refl

pub none_at : (v : Version) → no_schema ≡ schema_at v → ⊥
none_at First is = let e : 0 ≡ 9 = ap (λ (k : Schema). length k.tables) is in omega (arith, e)
none_at Second is = let e : 0 ≡ 11 = ap (λ (k : Schema). length k.tables) is in omega (arith, e)
none_at Third is = let e : 0 ≡ 12 = ap (λ (k : Schema). length k.tables) is in omega (arith, e)

-- how many tables a version has, with the journal's
abbrev tables_in : Version → ℕ
tables_in v = length (schema_at v).tables

apart : {P : Type 0} (v w : Version) → (tables_in v ≡ tables_in w → ⊥) → schema_at v ≡ schema_at w → P
apart v w differ is = absurd (differ (ap (λ (k : Schema). length k.tables) is))

pub one_version : (v w : Version) → schema_at v ≡ schema_at w → v ≡ w
one_version First First is = refl
one_version First Second is = apart First Second (λ e. omega (arith, e)) is
one_version First Third is = apart First Third (λ e. omega (arith, e)) is
one_version Second First is = apart Second First (λ e. omega (arith, e)) is
one_version Second Second is = refl
one_version Second Third is = apart Second Third (λ e. omega (arith, e)) is
one_version Third First is = apart Third First (λ e. omega (arith, e)) is
one_version Third Second is = apart Third Second (λ e. omega (arith, e)) is
one_version Third Third is = refl

pub known_some : (k : Schema) → IsKnown k → k ≢ no_schema
known_some k known is = none_at known.0 (sym is ∙ known.1)
