-- The tables of a site, as the database keeps them.
use Rattle.sqlite.specs.Collation.TheVariants.{Binary}
use Rattle.std.specs.Prelude.{true, false, [], ◌∷◌, ◌+◌, None, Some, codes, List, ℕ, Result, Ok, Err}
use Rattle.sqlite.specs.declared.types.Value.TheVariants.{Null}
use Rattle.sqlite.specs.Table.{Table}
use Rattle.sqlite.specs.Schema.{Schema}
use Rattle.sqlite.specs.Term.{Term}
use Rattle.sqlite.specs.Kind.TheVariants.{Integer, Text, Any}
use Rattle.sqlite.specs.Compile.{table_defined_by}
use Rattle.sqlite_schema.specs.declared.schema.Column.{Column}
use Rattle.sqlite_schema.specs.declared.schema.Index.{Index}
use Rattle.sqlite_catalog.specs.Listing.{automatic}

abbrev pub no_schema : Schema
no_schema = record { tables = []; indexes = []; views = [] }

abbrev pub create_post : List ℕ
create_post = codes "CREATE TABLE post (id INTEGER PRIMARY KEY AUTOINCREMENT CHECK (id BETWEEN 1 AND 2147483647), kind TEXT NOT NULL CHECK (kind IN ('post', 'page')), status TEXT NOT NULL CHECK (status IN ('publish', 'draft')), title TEXT NOT NULL, content TEXT NOT NULL, date TEXT NOT NULL CHECK (length(date) = 19)) STRICT"

abbrev pub create_option : List ℕ
create_option = codes "CREATE TABLE option (name TEXT PRIMARY KEY NOT NULL, value TEXT NOT NULL) STRICT"

abbrev pub create_template : List ℕ
create_template = codes "CREATE TABLE template (name TEXT PRIMARY KEY NOT NULL, body TEXT NOT NULL) STRICT"

abbrev pub create_active : List ℕ
create_active = codes "CREATE TABLE active (name TEXT PRIMARY KEY NOT NULL) STRICT"

abbrev pub create_index : List ℕ
create_index = codes "CREATE INDEX post_by_date ON post (kind, status, date)"

abbrev pub text_column : List ℕ → Column
text_column name = record { name = name; kind = Text; is_strict = true; not_null = true; default = Null; collation = Binary }

abbrev pub no_table : Table
no_table = record {
  name = [];
  tree = 0;
  columns = [];
  key = None;
  primary = [];
  uniques = [];
  orders = [];
  checks = [];
  references = [];
  computed = [];
  stamps = record { places = []; terms = []; formats = [] };
  is_counted = false;
}

abbrev pub table_or : {E : Type 0} → Result Table E → Table
table_or (Ok t) = t
table_or (Err e) = no_table

-- what the CHECKs of the table of posts say
unfoldable pub post_checks : List Term
post_checks = (table_or (table_defined_by create_post)).checks

-- The trees are counted as the statements make them: each table's own, and then that of its key.
abbrev pub post_table : Table
post_table = record no_table {
  name = codes "post";
  tree = 0;
  columns = (record { name = codes "id"; kind = Integer; is_strict = true; not_null = false; default = Null; collation = Binary })
      ∷ text_column (codes "kind") ∷ text_column (codes "status") ∷ text_column (codes "title") ∷ text_column (codes "content") ∷ text_column (codes "date")
      ∷ [];
  key = Some 0;
  primary = 0 ∷ [];
  checks = post_checks;
  is_counted = true;
}

abbrev pub loose_column : List ℕ → Column
loose_column name = record { name = name; kind = Any; is_strict = false; not_null = false; default = Null; collation = Binary }

-- the table that AUTOINCREMENT keeps: its one row has the largest ID ever given
abbrev pub sequence_table : Table
sequence_table = record no_table {
  name = codes "sqlite_sequence";
  tree = 1;
  columns = loose_column (codes "name") ∷ loose_column (codes "seq") ∷ [];
}

-- a table whose key is the text in its first column
abbrev pub named_table : List ℕ → ℕ → List Column → Table
named_table name tree columns = record no_table {
  name = name;
  tree = tree;
  columns = columns;
  primary = 1 ∷ [];
  uniques = (1 ∷ []) ∷ [];
  orders = (record { digits = 0 }) ∷ [];
}

abbrev pub option_table : Table
option_table = named_table (codes "option") 2 (text_column (codes "name") ∷ text_column (codes "value") ∷ [])

abbrev pub template_table : Table
template_table = named_table (codes "template") 4 (text_column (codes "name") ∷ text_column (codes "body") ∷ [])

abbrev pub active_table : Table
active_table = named_table (codes "active") 6 (text_column (codes "name") ∷ [])

-- the index of a key takes the tree after its table's
abbrev pub key_index : Table → Index
key_index table = automatic table 0 (1 ∷ []) (table.tree + 1)

abbrev pub date_index : Index
date_index = record { name = codes "post_by_date"; tree = 8; table = 0; columns = 2 ∷ 3 ∷ 6 ∷ []; order = record { digits = 0 }; is_unique = false }

-- the schemas on the way, and the whole one
abbrev pub post_schema : Schema
post_schema = record { tables = post_table ∷ sequence_table ∷ []; indexes = []; views = [] }

abbrev pub option_schema : Schema
option_schema = record { tables = post_table ∷ sequence_table ∷ option_table ∷ []; indexes = key_index option_table ∷ []; views = [] }

abbrev pub template_schema : Schema
template_schema = record {
  tables = post_table ∷ sequence_table ∷ option_table ∷ template_table ∷ [];
  indexes = key_index option_table
      ∷ key_index template_table ∷ [];
  views = [];
}

abbrev pub table_schema : Schema
table_schema = record {
  tables = post_table ∷ sequence_table ∷ option_table ∷ template_table ∷ active_table ∷ [];
  indexes = key_index option_table ∷ key_index template_table ∷ key_index active_table ∷ [];
  views = [];
}

abbrev pub site_schema : Schema
site_schema = record table_schema { indexes = key_index option_table ∷ key_index template_table ∷ key_index active_table ∷ date_index ∷ [] }
