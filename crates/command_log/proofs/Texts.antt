-- What the texts of the statements mean.
use Rattle.std.proofs.Common.{◌≡◌, ℕ, pos, List, [], ◌∷◌, length, codes, true, false, Ok, Err, Result, refl}
use Rattle.std.specs.Prelude.{nat_le}
use Rattle.sqlite_resolve.specs.declared.compiled.Compiled.{Compiled}
use Rattle.sqlite_resolve.specs.declared.error.CompileError.{CompileError}
use Rattle.sqlite_value.specs.declared.value.Value.TheVariants.{Null, Int}
use Rattle.sqlite_value.specs.declared.keys.Collation.TheVariants.{Binary}
use Rattle.sqlite_value.specs.declared.keys.Key.{Key}
use Rattle.sqlite.specs.Term.{Term, lit, col}
use Rattle.sqlite_sql.specs.Term.{op2}
use Rattle.sqlite_sql.specs.declared.ops.BinaryOp.TheVariants.{Compare}
use Rattle.sqlite_sql.specs.declared.ops.CompareOp.TheVariants.{Gt}
use Rattle.sqlite.specs.Query.{Query}
use Rattle.table_rows.proofs.Answering as answering
use Rattle.sqlite.specs.Source.TheVariants.{Values}
use Rattle.sqlite_schema.specs.declared.command.Command.{Command}
use Rattle.sqlite.specs.Command.TheVariants.{Insert, Delete, CreateTable, Select}
use Rattle.table_rows.proofs.Deleting as deleting
use Rattle.sqlite.specs.Compile.{table_defined_by}
use Rattle.sqlite.specs.Listing.{understood, reads_listing}
use Rattle.sqlite.specs.Does.{lacks_sequence}
use Rattle.sqlite_schema.specs.Names.{same_name}
use Rattle.sqlite_tied.specs.Compute.{everything}
use Rattle.sqlite.proofs.Callers.{IsPlain, command_of, statement_of}
use Rattle.command_log.specs.Table.{create_text, command_table, no_schema, log_schema}

abbrev pub insert_text : List ℕ
insert_text = codes "INSERT INTO command (line, digest) VALUES (?1, ?2)"

abbrev pub insert_at_text : List ℕ
insert_at_text = codes "INSERT INTO command (number, line, digest) VALUES (?1, ?2, ?3)"

abbrev pub first_text : List ℕ
first_text = codes "SELECT number, line, digest FROM command ORDER BY number LIMIT ?1"

abbrev pub later_text : List ℕ
later_text = codes "SELECT number, line, digest FROM command WHERE number > ?1 ORDER BY number LIMIT ?2"

abbrev pub insert_command : Command
insert_command = Insert 0 (Values (lit Null ∷ lit Null ∷ col 0 0 ∷ col 0 1 ∷ []) 4)

-- the number is a parameter too
abbrev pub insert_at_command : Command
insert_at_command = Insert 0 (Values (col 0 0 ∷ lit Null ∷ col 0 1 ∷ col 0 2 ∷ []) 4)

-- by number, ascending
abbrev pub orders : List (Term × Key)
orders = (col 1 0, record { collation = Binary; descending = false }) ∷ []

abbrev pub projects : List Term
projects = col 1 0 ∷ col 1 2 ∷ col 1 3 ∷ []

-- the number is above the parameter
abbrev pub wheres : List Term
wheres = op2 (Compare Gt Binary) (col 1 0) (col 0 0) ∷ []

abbrev pub query : List Term → Term → Query
query tests limit = answering.query 0 tests projects [] orders limit (lit (Int (pos 0)))

abbrev pub names : List (List ℕ)
names = codes "number" ∷ codes "line" ∷ codes "digest" ∷ []

-- the text is one statement, with this many parameters
abbrev pub IsWhole : List ℕ → ℕ → Result Compiled CompileError → Type 0
IsWhole sql count (Ok c) = (nat_le (length sql) c.tail ≡ true) × (count ≡ length c.names)
IsWhole sql count (Err e) = ⊥

pub insert_whole : IsWhole insert_text 2 (understood log_schema insert_text)
unfolding understood everything
insert_whole = (refl, refl)

pub insert_at_whole : IsWhole insert_at_text 3 (understood log_schema insert_at_text)
unfolding understood everything
insert_at_whole = (refl, refl)

pub insert_at_is : command_of (understood log_schema insert_at_text) ≡ insert_at_command
unfolding understood everything
insert_at_is = refl

pub insert_at_plain : IsPlain (understood log_schema insert_at_text)
unfolding understood everything
insert_at_plain = (refl, refl)

pub create_is : (command_of (understood no_schema create_text) ≡ CreateTable) × (statement_of create_text (understood no_schema create_text) ≡ create_text)
    × (table_defined_by create_text ≡ Ok command_table)
unfolding understood everything
create_is = (refl, refl, refl)

pub create_plain : IsPlain (understood no_schema create_text)
unfolding understood everything
create_plain = (refl, refl)

pub lacks_none : lacks_sequence log_schema ≡ false
unfolding same_name
lacks_none = refl

pub insert_is : command_of (understood log_schema insert_text) ≡ insert_command
unfolding understood everything
insert_is = refl

pub insert_plain : IsPlain (understood log_schema insert_text)
unfolding understood everything
insert_plain = (refl, refl)

pub first_is : (command_of (understood log_schema first_text) ≡ Select (record { lets = []; body = query [] (col 0 0) }) names)
    × (reads_listing log_schema first_text ≡ false)
unfolding understood everything
first_is = (refl, refl)

pub first_plain : IsPlain (understood log_schema first_text)
unfolding understood everything
first_plain = (refl, refl)

pub first_whole : IsWhole first_text 1 (understood log_schema first_text)
unfolding understood everything
first_whole = (refl, refl)

pub later_is : (command_of (understood log_schema later_text) ≡ Select (record { lets = []; body = query wheres (col 0 1) }) names)
    × (reads_listing log_schema later_text ≡ false)
unfolding understood everything
later_is = (refl, refl)

pub later_plain : IsPlain (understood log_schema later_text)
unfolding understood everything
later_plain = (refl, refl)

pub later_whole : IsWhole later_text 2 (understood log_schema later_text)
unfolding understood everything
later_whole = (refl, refl)

abbrev pub clear_text : List ℕ
clear_text = codes "DELETE FROM command"

abbrev pub clear_command : Command
clear_command = Delete 0 (record { lets = []; body = deleting.query 0 [] })

pub clear_is : command_of (understood log_schema clear_text) ≡ clear_command
unfolding understood everything
clear_is = refl

pub clear_plain : IsPlain (understood log_schema clear_text)
unfolding understood everything
clear_plain = (refl, refl)

pub clear_whole : IsWhole clear_text 0 (understood log_schema clear_text)
unfolding understood everything
clear_whole = (refl, refl)
