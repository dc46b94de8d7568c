-- The one table of a log, as the database keeps it.
use Rattle.std.specs.Prelude.{◌≢◌, true, false, [], ◌∷◌, Some, codes, List, ℕ}
use Rattle.sqlite.specs.Collation.TheVariants.{Binary}
use Rattle.sqlite.specs.declared.types.Value.TheVariants.{Null}
use Rattle.sqlite.specs.Table.{Table}
use Rattle.sqlite.specs.Schema.{Schema}
use Rattle.sqlite.specs.Kind.{Kind}
use Rattle.sqlite.specs.Kind.TheVariants.{Integer, Text, Blob}
use Rattle.sqlite_schema.specs.declared.schema.Column.{Column}
use Rattle.std.specs.Prelude.{Bool}

abbrev pub create_text : List ℕ
create_text = codes "CREATE TABLE command (number INTEGER PRIMARY KEY, line TEXT NOT NULL, digest BLOB NOT NULL) STRICT"

abbrev pub plain_column : List ℕ → Kind → Bool → Column
plain_column name kind not_null = record { name = name; kind = kind; is_strict = true; not_null = not_null; default = Null; collation = Binary }

abbrev pub command_columns : List Column
command_columns = plain_column (codes "number") Integer false ∷ plain_column (codes "line") Text true ∷ plain_column (codes "digest") Blob true ∷ []

abbrev pub command_table : Table
command_table = record {
  name = codes "command";
  tree = 0;
  columns = command_columns;
  key = Some 0;
  primary = 0 ∷ [];
  uniques = [];
  orders = [];
  checks = [];
  references = [];
  computed = [];
  stamps = record { places = []; terms = []; formats = [] };
  is_counted = false;
}

-- what a database holds that holds nothing
abbrev pub no_schema : Schema
no_schema = record { tables = []; indexes = []; views = [] }

-- and one that holds a log
abbrev pub log_schema : Schema
log_schema = record { tables = command_table ∷ []; indexes = []; views = [] }

-- and one that holds something else
abbrev pub IsOther : Schema → Type 0
IsOther schema = (schema ≢ log_schema) × (schema ≢ no_schema)
