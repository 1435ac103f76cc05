-- One list of objects is that of one schema.
use Rattle.std.proofs.Common.{◌≡◌, ℕ, ◌+◌, pos, List, [], ◌∷◌, true, false, Ok, Some, refl, sym, ap, subst, ◌∙◌}
use Rattle.std.proofs.Common.{arith, filter, slice_get, Result, Option}
use Rattle.std.specs.List.{AllZip}
use Rattle.sqlite.specs.Order.{Row}
use Rattle.sqlite_value.specs.Order.{column}
use Rattle.sqlite.specs.declared.types.Value.{Value}
use Rattle.sqlite.specs.declared.types.Value.TheVariants.{Null, Int, Real, Text, Blob}
use Rattle.sqlite.specs.Table.{Table}
use Rattle.sqlite.specs.Schema.{Schema}
use Rattle.sqlite_trees.specs.Tree.{IsAscending, rowid}
use Rattle.sqlite_schema.specs.declared.schema.Index.{Index}
use Rattle.sqlite_schema.specs.declared.schema.View.{View as Stored}
use Rattle.sqlite_schema.specs.Names.{same_name}
use Rattle.sqlite_resolve.specs.Compile.{table_defined_by, index_defined_by}
use Rattle.sqlite_catalog.specs.Listing.{IsTableRow, IsIndexRow, IsViewRow, IsDefined, is_table_row, is_index_row}
use Rattle.sqlite_catalog.specs.Listing.{is_view_row, automatic, AreListed, Lists}
use Rattle.gate_schema.specs.Schema.{schema_with}
use Rattle.sqlite_catalog.proofs.StepLemmas.{same_itself, named_once}
use Rattle.sqlite_catalog.proofs.AlterLemmas.{numbers_differ}

-- a row has one rowid
one_number : (row : Row) (m n : ℕ) → rowid row ≡ Int (pos (m + 1)) → rowid row ≡ Int (pos (n + 1)) → m ≡ n
one_number row m n p q = let e : m + 1 ≡ n + 1 = cc in omega arith

-- a text makes one thing
one_made : {X E : Type 0} (r : Result X E) (x y : X) → r ≡ Ok x → r ≡ Ok y → x ≡ y
one_made r x y p q = cc

-- a value is one text
one_text : (v : Value) (a b : List ℕ) → v ≡ Text a → v ≡ Text b → a ≡ b
one_text v a b p q = cc

-- a row defines one table
one_table : (row : Row) (s t : Table) → IsTableRow row s → IsTableRow row t → s ≡ t
one_table row s t p q =
    let sql = one_text (column row 4) p.sql q.sql p.sql_is q.sql_is in
    let made = one_made (table_defined_by q.sql) p.defined.0 q.defined.0 (subst (λ x. table_defined_by x ≡ Ok p.defined.0) sql p.defined.1) q.defined.1 in
    let tree = one_number row s.tree t.tree p.described.id q.described.id in
    p.defined.2 ∙ ap (λ (m : Table). record m { tree = s.tree }) made ∙ ap (λ n. record q.defined.0 { tree = n }) tree ∙ sym q.defined.2

-- where each row defines one thing, rows define one list
one_zip : {A B : Type 0} (R : A → B → Type 0) → ((a : A) (x y : B) → R a x → R a y → x ≡ y) → (rs : List A) (xs ys : List B) → AllZip R rs xs → AllZip R rs ys → xs ≡ ys
one_zip R one [] [] [] p q = refl
one_zip R one [] [] (y ∷ ys) p q = absurd q
one_zip R one [] (x ∷ xs) ys p q = absurd p
one_zip R one (a ∷ rs) [] ys p q = absurd p
one_zip R one (a ∷ rs) (x ∷ xs) [] p q = absurd q
one_zip R one (a ∷ rs) (x ∷ xs) (y ∷ ys) p q = rw (one a x y p.0 q.0, one_zip R one rs xs ys p.1 q.1)

-- a place holds one key
one_key : (o : Option (List ℕ)) (a b : List ℕ) → o ≡ Some a → o ≡ Some b → a ≡ b
one_key o a b p q = cc

-- a text, or none, defines one index of a table, a tree and a name
one_index_of : (t : Table) (v : Value) (i j : Index) → i.tree ≡ j.tree → i.name ≡ j.name → IsDefined t i v → IsDefined t j v → i ≡ j
one_index_of t Null i j tree name p q =
    let names : (automatic t p.0 [] 0).name ≡ (automatic t q.0 [] 0).name = sym (ap (λ (k : Index). k.name) p.3) ∙ name ∙ ap (λ (k : Index). k.name) q.3 in
    let at : p.0 ≡ q.0 = numbers_differ t p.0 q.0 p.4 q.4 (subst (λ n. same_name (automatic t p.0 [] 0).name n ≡ true) names (same_itself (automatic t p.0 [] 0).name)) in
    let key : p.1 ≡ q.1 = one_key (slice_get t.uniques q.0) p.1 q.1 (subst (λ a. slice_get t.uniques a ≡ Some p.1) at p.2) q.2 in
    p.3 ∙ ap (λ a. automatic t a p.1 i.tree) at ∙ ap (λ k. automatic t q.0 k i.tree) key ∙ ap (automatic t q.0 q.1) tree ∙ sym q.3
one_index_of t (Int n) i j tree name p q = absurd p
one_index_of t (Real x) i j tree name p q = absurd p
one_index_of t (Text sql) i j tree name p q =
    let made = one_made (index_defined_by t sql) p.0 q.0 p.1 q.1 in
    p.2 ∙ ap (λ (m : Index). record m { tree = i.tree; table = t.tree }) made ∙ ap (λ n. record q.0 { tree = n; table = t.tree }) tree ∙ sym q.2
one_index_of t (Blob b) i j tree name p q = absurd p

-- a row defines one index
one_index : (tables : List Table) → IsAscending (λ s t. same_name s.name t.name ≡ false) tables → (row : Row) (i j : Index) → IsIndexRow tables row i → IsIndexRow tables row j → i ≡ j
one_index tables named row i j p q =
    let owner = one_text (column row 3) p.table.name q.table.name p.described.owner_is q.described.owner_is in
    let table : p.table ≡ q.table = named_once tables p.table q.table named p.listed q.listed (subst (λ n. same_name p.table.name n ≡ true) owner (same_itself p.table.name)) in
    let tree = one_number row i.tree j.tree p.described.id q.described.id in
    let name = one_text (column row 2) i.name j.name p.described.name_is q.described.name_is in
    one_index_of q.table (column row 4) i j tree name (subst (λ t. IsDefined t i (column row 4)) table p.defined) q.defined

-- rows that define no view define none
none_seen : (rows : List Row) (views : List Stored) → AllZip IsViewRow rows [] → AllZip IsViewRow rows views → views ≡ []
none_seen [] [] p q = refl
none_seen [] (v ∷ vs) p q = absurd q
none_seen (r ∷ rs) views p q = absurd p

-- With no view among the objects, no other schema lists them.
pub one_schema : (s t : Schema) (objects : List Row) → s.views ≡ [] → Lists objects s → Lists objects t → t ≡ s
one_schema s t objects none p q =
    let a : AreListed objects s = p.listed in
    let b : AreListed objects t = q.listed in
    let tables = one_zip IsTableRow one_table (filter is_table_row objects) t.tables s.tables b.tables a.tables in
    let indexes = one_zip (IsIndexRow s.tables) (one_index s.tables a.named) (filter is_index_row objects) t.indexes s.indexes (subst (λ ts. AllZip (IsIndexRow ts) (filter is_index_row objects) t.indexes) tables b.indexes) a.indexes in
    let views : t.views ≡ s.views = none_seen (filter is_view_row objects) t.views (subst (AllZip IsViewRow (filter is_view_row objects)) none a.views) b.views ∙ sym none in
    ap (λ x. record t { tables = x }) tables ∙ ap (λ x. record t { tables = s.tables; indexes = x }) indexes ∙ ap (λ x. record s { views = x }) views

-- no row defines nothing
none_zip : {A B : Type 0} (R : A → B → Type 0) (ys : List B) → AllZip R [] ys → ys ≡ []
none_zip R [] h = refl
none_zip R (y ∷ ys) h = absurd h

-- With no object there is no table.
pub none_listed : (t : Schema) → Lists [] t → t ≡ schema_with 0 0
none_listed t h =
    let a : AreListed [] t = h.listed in
    let tables = none_zip IsTableRow t.tables a.tables in
    let indexes = none_zip (IsIndexRow t.tables) t.indexes a.indexes in
    let views = none_zip IsViewRow t.views a.views in
    ap (λ x. record t { tables = x }) tables ∙ ap (λ x. record t { tables = []; indexes = x }) indexes ∙ ap (λ x. record { tables = []; indexes = []; views = x }) views
