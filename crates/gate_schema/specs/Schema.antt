-- The twelve tables and four indexes, as SQL reads their texts.
use Rattle.std.specs.Prelude.{true, false, [], ◌∷◌, Some, None, codes, List, ℕ, pos, Bool, Option, take}
use Rattle.sqlite.specs.Collation.TheVariants.{Binary}
use Rattle.sqlite.specs.Kind.{Kind}
use Rattle.sqlite.specs.Kind.TheVariants.{Integer, Text, Blob}
use Rattle.sqlite.specs.Schema.{Schema}
use Rattle.sqlite.specs.Table.{Table}
use Rattle.sqlite.specs.Term.{Term, lit, col, op2}
use Rattle.sqlite.specs.declared.types.Value.TheVariants.{Null, Int, Text as Words}
use Rattle.sqlite_schema.specs.declared.schema.Column.{Column}
use Rattle.sqlite_schema.specs.declared.schema.Index.{Index}
use Rattle.sqlite_sql.specs.declared.ops.BinaryOp.TheVariants.{Compare, Or}
use Rattle.sqlite_sql.specs.declared.ops.CompareOp.TheVariants.{Eq, Ge}
use Rattle.sqlite_value.specs.Keys.{plain}
use Rattle.sqlite_value.specs.declared.keys.Order.{Order}

-- ---- words for what a text declares

-- a column of a STRICT table, NOT NULL where it is needed
abbrev pub column_of : List ℕ → Kind → Bool → Column
column_of name kind needed = record {
  name = name;
  kind = kind;
  is_strict = true;
  not_null = needed;
  default = Null;
  collation = Binary;
}

-- a table of a tree: its columns, which of them is the rowid, its primary key, its unique keys, and its checks
abbrev pub table_of : List ℕ → ℕ → List Column → Option ℕ → List ℕ → List (List ℕ) → List Order → List Term → Table
table_of name tree columns key primary uniques orders checks = record {
  name = name;
  tree = tree;
  columns = columns;
  key = key;
  primary = primary;
  uniques = uniques;
  orders = orders;
  checks = checks;
  references = [];
  computed = [];
  stamps = record { places = []; terms = []; formats = [] };
  is_counted = false;
}

-- a word
abbrev pub words : List ℕ → Term
words t = lit (Words t)

-- two terms have the same value
abbrev pub is_one : Term → Term → Term
is_one a b = op2 (Compare Eq Binary) a b

-- a term is 0 or 1
abbrev pub zero_one : Term → Term
zero_one t = op2 Or (is_one t (lit (Int (pos 0)))) (is_one t (lit (Int (pos 1))))

-- a term is one of three
abbrev pub among : Term → Term → Term → Term → Term
among t a b c = op2 Or (is_one t a) (op2 Or (is_one t b) (is_one t c))

-- a term is one of four
abbrev pub among4 : Term → Term → Term → Term → Term → Term
among4 t a b c d = op2 Or (op2 Or (is_one t a) (is_one t b)) (op2 Or (is_one t c) (is_one t d))

-- the index of a unique key: its tree, its table's, and its columns
abbrev pub unique_at : List ℕ → ℕ → ℕ → List ℕ → Index
unique_at name tree table columns =
    record { name = name; tree = tree; table = table; columns = columns; order = plain; is_unique = true }

-- another index
abbrev pub index_at : List ℕ → ℕ → ℕ → List ℕ → Index
index_at name tree table columns =
    record { name = name; tree = tree; table = table; columns = columns; order = plain; is_unique = false }

-- ---- the tables: each text, and the table that it declares, at a tree

-- what the file is
abbrev pub meta_table_text : List ℕ
meta_table_text = codes "CREATE TABLE meta (k TEXT PRIMARY KEY NOT NULL, v TEXT NOT NULL) STRICT"

abbrev pub meta_table_at : ℕ → Table
meta_table_at tree =
    table_of (codes "meta") tree
    (column_of (codes "k") Text true ∷ column_of (codes "v") Text true ∷ [])
    None (1 ∷ []) ((1 ∷ []) ∷ []) (plain ∷ []) []

-- the last number drawn of each kind
abbrev pub counter_table_text : List ℕ
counter_table_text =
    codes "CREATE TABLE counter (name TEXT PRIMARY KEY NOT NULL, drawn INTEGER NOT NULL CHECK(drawn >= 0)) STRICT"

abbrev pub counter_table_at : ℕ → Table
counter_table_at tree =
    table_of (codes "counter") tree
    (column_of (codes "name") Text true ∷ column_of (codes "drawn") Integer true ∷ [])
    None (1 ∷ []) ((1 ∷ []) ∷ []) (plain ∷ [])
    (op2 (Compare Ge Binary) (col 1 2) (lit (Int (pos 0))) ∷ [])

-- the queues
abbrev pub queue_table_text : List ℕ
queue_table_text = codes "CREATE TABLE queue (name TEXT PRIMARY KEY NOT NULL, place INTEGER NOT NULL UNIQUE, win INTEGER NOT NULL) STRICT"

abbrev pub queue_table_at : ℕ → Table
queue_table_at tree =
    table_of (codes "queue") tree
    (column_of (codes "name") Text true ∷ column_of (codes "place") Integer true ∷
    column_of (codes "win") Integer true ∷ [])
    None (1 ∷ []) ((1 ∷ []) ∷ (2 ∷ []) ∷ []) (plain ∷ plain ∷ []) []

-- the changes. That approvals differ is a law of the gate, and no key of this table: nearly all are NULL, and a unique
-- key would walk all of these at each change written, and at each when the file is opened
abbrev pub change_table_text : List ℕ
change_table_text = codes "CREATE TABLE change (num INTEGER PRIMARY KEY, project TEXT NOT NULL, revision INTEGER NOT NULL, state TEXT NOT NULL CHECK(state IN ('open','landed','closed')), approval INTEGER) STRICT"

abbrev pub change_table_at : ℕ → Table
change_table_at tree =
    table_of (codes "change") tree
    (column_of (codes "num") Integer false ∷ column_of (codes "project") Text true ∷
    column_of (codes "revision") Integer true ∷ column_of (codes "state") Text true ∷
    column_of (codes "approval") Integer false ∷ [])
    (Some 0) (0 ∷ []) [] []
    (among (col 1 4) (words (codes "open")) (words (codes "landed")) (words (codes "closed")) ∷ [])

-- what changes need
abbrev pub need_table_text : List ℕ
need_table_text = codes "CREATE TABLE need (change INTEGER NOT NULL, place INTEGER NOT NULL, needed INTEGER NOT NULL, PRIMARY KEY(change, place)) STRICT"

abbrev pub need_table_at : ℕ → Table
need_table_at tree =
    table_of (codes "need") tree
    (column_of (codes "change") Integer true ∷ column_of (codes "place") Integer true ∷
    column_of (codes "needed") Integer true ∷ [])
    None (1 ∷ 2 ∷ []) ((1 ∷ 2 ∷ []) ∷ []) (plain ∷ []) []

-- the items of all queues
abbrev pub item_table_text : List ℕ
item_table_text = codes "CREATE TABLE item (serial INTEGER PRIMARY KEY, queue TEXT NOT NULL, change INTEGER NOT NULL UNIQUE, revision INTEGER NOT NULL, ahead INTEGER, failing INTEGER NOT NULL CHECK(failing IN (0,1))) STRICT"

abbrev pub item_table_at : ℕ → Table
item_table_at tree =
    table_of (codes "item") tree
    (column_of (codes "serial") Integer false ∷ column_of (codes "queue") Text true ∷
    column_of (codes "change") Integer true ∷ column_of (codes "revision") Integer true ∷
    column_of (codes "ahead") Integer false ∷ column_of (codes "failing") Integer true ∷ [])
    (Some 0) (0 ∷ []) ((3 ∷ []) ∷ []) (plain ∷ []) (zero_one (col 1 6) ∷ [])

-- the builds
abbrev pub build_table_text : List ℕ
build_table_text = codes "CREATE TABLE build (num INTEGER PRIMARY KEY, queue TEXT NOT NULL, serial INTEGER NOT NULL, change INTEGER NOT NULL, revision INTEGER NOT NULL, job TEXT NOT NULL, base INTEGER NOT NULL, ahead TEXT NOT NULL, outcome TEXT NOT NULL CHECK(outcome IN ('running','success','failure','lost')), live INTEGER NOT NULL CHECK(live IN (0,1))) STRICT"

abbrev pub build_table_at : ℕ → Table
build_table_at tree =
    table_of (codes "build") tree
    (column_of (codes "num") Integer false ∷ column_of (codes "queue") Text true ∷
    column_of (codes "serial") Integer true ∷ column_of (codes "change") Integer true ∷
    column_of (codes "revision") Integer true ∷ column_of (codes "job") Text true ∷
    column_of (codes "base") Integer true ∷ column_of (codes "ahead") Text true ∷
    column_of (codes "outcome") Text true ∷ column_of (codes "live") Integer true ∷ [])
    (Some 0) (0 ∷ []) [] []
    (among4 (col 1 9) (words (codes "running")) (words (codes "success")) (words (codes "failure"))
    (words (codes "lost")) ∷ zero_one (col 1 10) ∷ [])

-- what landed
abbrev pub landing_table_text : List ℕ
landing_table_text = codes "CREATE TABLE landing (queue TEXT NOT NULL, n INTEGER NOT NULL, serial INTEGER NOT NULL UNIQUE, change INTEGER NOT NULL UNIQUE, revision INTEGER NOT NULL, PRIMARY KEY(queue, n)) STRICT"

abbrev pub landing_table_at : ℕ → Table
landing_table_at tree =
    table_of (codes "landing") tree
    (column_of (codes "queue") Text true ∷ column_of (codes "n") Integer true ∷
    column_of (codes "serial") Integer true ∷ column_of (codes "change") Integer true ∷
    column_of (codes "revision") Integer true ∷ [])
    None (1 ∷ 2 ∷ []) ((3 ∷ []) ∷ (4 ∷ []) ∷ (1 ∷ 2 ∷ []) ∷ []) (plain ∷ plain ∷ plain ∷ []) []

-- what left a queue, and why
abbrev pub report_table_text : List ℕ
report_table_text = codes "CREATE TABLE report (queue TEXT NOT NULL, place INTEGER NOT NULL, serial INTEGER NOT NULL UNIQUE, change INTEGER NOT NULL, revision INTEGER NOT NULL, verdict TEXT NOT NULL, n INTEGER, PRIMARY KEY(queue, place)) STRICT"

abbrev pub report_table_at : ℕ → Table
report_table_at tree =
    table_of (codes "report") tree
    (column_of (codes "queue") Text true ∷ column_of (codes "place") Integer true ∷
    column_of (codes "serial") Integer true ∷ column_of (codes "change") Integer true ∷
    column_of (codes "revision") Integer true ∷ column_of (codes "verdict") Text true ∷
    column_of (codes "n") Integer false ∷ [])
    None (1 ∷ 2 ∷ []) ((3 ∷ []) ∷ (1 ∷ 2 ∷ []) ∷ []) (plain ∷ plain ∷ []) []

-- the accepted deliveries
abbrev pub delivery_table_text : List ℕ
delivery_table_text =
    codes "CREATE TABLE delivery (id BLOB PRIMARY KEY NOT NULL, said TEXT NOT NULL, reply TEXT NOT NULL) STRICT"

abbrev pub delivery_table_at : ℕ → Table
delivery_table_at tree =
    table_of (codes "delivery") tree
    (column_of (codes "id") Blob true ∷ column_of (codes "said") Text true ∷
    column_of (codes "reply") Text true ∷ [])
    None (1 ∷ []) ((1 ∷ []) ∷ []) (plain ∷ []) []

-- the jobs of items and landings
abbrev pub item_job_table_text : List ℕ
item_job_table_text = codes "CREATE TABLE item_job (serial INTEGER NOT NULL, place INTEGER NOT NULL, name TEXT NOT NULL, voting INTEGER NOT NULL CHECK(voting IN (0,1)), PRIMARY KEY(serial, place)) STRICT"

abbrev pub item_job_table_at : ℕ → Table
item_job_table_at tree =
    table_of (codes "item_job") tree
    (column_of (codes "serial") Integer true ∷ column_of (codes "place") Integer true ∷
    column_of (codes "name") Text true ∷ column_of (codes "voting") Integer true ∷ [])
    None (1 ∷ 2 ∷ []) ((1 ∷ 2 ∷ []) ∷ []) (plain ∷ []) (zero_one (col 1 4) ∷ [])

-- the items that fail fast
abbrev pub item_fast_table_text : List ℕ
item_fast_table_text = codes "CREATE TABLE item_fast (serial INTEGER PRIMARY KEY) STRICT"

abbrev pub item_fast_table_at : ℕ → Table
item_fast_table_at tree =
    table_of (codes "item_fast") tree (column_of (codes "serial") Integer false ∷ [])
    (Some 0) (0 ∷ []) [] [] []

-- ---- the indexes

-- made right behind its table
abbrev pub change_approval_text : List ℕ
change_approval_text = codes "CREATE INDEX change_approval ON change(approval)"

abbrev pub need_needed_text : List ℕ
need_needed_text = codes "CREATE INDEX need_needed ON need(needed)"

abbrev pub item_queue_text : List ℕ
item_queue_text = codes "CREATE INDEX item_queue ON item(queue, serial)"

abbrev pub build_serial_text : List ℕ
build_serial_text = codes "CREATE INDEX build_serial ON build(serial)"

-- ---- the schema

-- the tables, each with the tree of its rows; the trees between are of its unique keys, and of the indexes. The last
-- two were made behind these, so that a file has the same trees whether it began with them or got them later
abbrev pub gate_tables : List Table
gate_tables =
    meta_table_at 0 ∷ counter_table_at 2 ∷ queue_table_at 4 ∷ change_table_at 7 ∷ need_table_at 9 ∷ item_table_at 11 ∷
    build_table_at 13 ∷ landing_table_at 14 ∷ report_table_at 18 ∷ delivery_table_at 21 ∷ item_job_table_at 26 ∷
    item_fast_table_at 28 ∷ []

abbrev pub gate_indexes : List Index
gate_indexes =
    unique_at (codes "sqlite_autoindex_meta_1") 1 0 (1 ∷ []) ∷
    unique_at (codes "sqlite_autoindex_counter_1") 3 2 (1 ∷ []) ∷
    unique_at (codes "sqlite_autoindex_queue_1") 5 4 (1 ∷ []) ∷
    unique_at (codes "sqlite_autoindex_queue_2") 6 4 (2 ∷ []) ∷
    index_at (codes "change_approval") 8 7 (5 ∷ []) ∷
    unique_at (codes "sqlite_autoindex_need_1") 10 9 (1 ∷ 2 ∷ []) ∷
    unique_at (codes "sqlite_autoindex_item_1") 12 11 (3 ∷ []) ∷
    unique_at (codes "sqlite_autoindex_landing_1") 15 14 (3 ∷ []) ∷
    unique_at (codes "sqlite_autoindex_landing_2") 16 14 (4 ∷ []) ∷
    unique_at (codes "sqlite_autoindex_landing_3") 17 14 (1 ∷ 2 ∷ []) ∷
    unique_at (codes "sqlite_autoindex_report_1") 19 18 (3 ∷ []) ∷
    unique_at (codes "sqlite_autoindex_report_2") 20 18 (1 ∷ 2 ∷ []) ∷
    unique_at (codes "sqlite_autoindex_delivery_1") 22 21 (1 ∷ []) ∷
    index_at (codes "need_needed") 23 9 (3 ∷ []) ∷
    index_at (codes "item_queue") 24 11 (2 ∷ 0 ∷ []) ∷
    index_at (codes "build_serial") 25 13 (3 ∷ []) ∷
    unique_at (codes "sqlite_autoindex_item_job_1") 27 26 (1 ∷ 2 ∷ []) ∷
    []

-- the schema with the first tables, and as many indexes
abbrev pub schema_with : ℕ → ℕ → Schema
schema_with tables indexes =
    record { tables = take tables gate_tables; indexes = take indexes gate_indexes; views = [] }

abbrev pub gate_schema : Schema
gate_schema = record { tables = gate_tables; indexes = gate_indexes; views = [] }

-- the texts that make it, in turn
abbrev pub gate_texts : List (List ℕ)
gate_texts =
    meta_table_text ∷ counter_table_text ∷ queue_table_text ∷ change_table_text ∷ change_approval_text ∷
    need_table_text ∷ item_table_text ∷ build_table_text ∷ landing_table_text ∷ report_table_text ∷
    delivery_table_text ∷ need_needed_text ∷ item_queue_text ∷ build_serial_text ∷ item_job_table_text ∷
    item_fast_table_text ∷ []
