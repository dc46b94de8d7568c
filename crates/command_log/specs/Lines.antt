-- The lines of a log, and what a call may do to them.
use Rattle.std.specs.Prelude.{◌≡◌, ◌≢◌, ◌⊎◌, ⊤, ◌-◌, ℕ, ◌+◌, ◌^◌, ◌<◌, ℤ, pos, negsuc, ◌+ℤ◌, Bool, true, false, List, [], ◌∷◌, ◌++◌, length, map, filter, fold, Option, None, Some, IsTrue}
use Rattle.std.specs.Ordering.{is_lt, int_cmp}
use Rattle.std.specs.List.{AllByRecursion}
use Rattle.sqlite.specs.Order.{Row}
use Rattle.sqlite_value.specs.declared.value.Value.TheVariants.{Int, Text, Blob}
use Rattle.sqlite_value.specs.Order.{column, bytes}
use Rattle.sqlite.specs.Query.{as_count, limited}
use Rattle.sqlite_rules.specs.Edit.{id_in, next_rowid}
use Rattle.sqlite.specs.Tree.{Trees, rowid, IsTable}
use Rattle.sqlite.specs.Schema.{Schema}
use Rattle.sqlite_trees.specs.View.{is_int}
use Rattle.sqlite.specs.Store.{Ghosts}
use Rattle.sqlite.specs.Effect.{Database, IsDatabase}
use Rattle.sqlite.specs.Held.{Held, state}
use Rattle.sqlite.specs.State.{HasCleanDisk, Survives}
use Rattle.command_log.specs.Digests.{digests_after, digests_of}
use Rattle.command_log.specs.Table.{log_schema, no_schema}

-- a row is its number, a NULL in the column of the number, the line, and the digest of the lines up to it
abbrev pub line_in : Row → List ℕ
line_in r = bytes (column r 2)

abbrev pub digest_in : Row → List ℕ
digest_in r = bytes (column r 3)

-- each row has the digest of the lines up to it
abbrev pub AreSealed : List Row → Type 0
AreSealed rows = map digest_in rows ≡ digests_of (map line_in rows)

-- the lines of the table, in ascending number
abbrev pub lines_in : Trees → List (List ℕ)
lines_in db = map line_in (db 0)

-- ---- reading in steps

-- the line has a number above this one
abbrev pub is_past : ℤ → Row → Bool
is_past n r = is_lt (int_cmp n (id_in (rowid r)))

-- the rows after a place, which is the number of the line before it, or the start
abbrev pub rows_after : Option ℤ → List Row → List Row
rows_after None rows = rows
rows_after (Some n) rows = filter (is_past n) rows

abbrev pub lines_after : Option ℤ → Trees → List (List ℕ)
lines_after place db = map line_in (rows_after place (db 0))

-- what a query shows of a row: its number, its line and its digest
abbrev pub row_of_query : Row → Row
row_of_query r = rowid r ∷ column r 2 ∷ column r 3 ∷ []

abbrev pub text_in : Row → List ℕ
text_in r = bytes (column r 1)

abbrev pub sum_in : Row → List ℕ
sum_in r = bytes (column r 2)

-- a row that can be read as one, but for bytes that are not UTF-8
pub record IsLineRow (r : Row) : Type 0 where
  pub width : length r ≡ 3
  pub number : (n : ℤ) × (column r 0 ≡ Int n)
  pub text : (t : List ℕ) × (column r 1 ≡ Text t)
  pub sum : (t : List ℕ) × (column r 2 ≡ Blob t)

-- the place after rows that were shown
abbrev pub place_after : Option ℤ → List Row → Option ℤ
place_after = fold (λ _ r. Some (id_in (column r 0)))

-- lines can be numbered from here on, this many, without a number past the largest; those of an empty table may always begin at 1
abbrev pub HasRoom : ℤ → ℕ → Type 0
HasRoom (pos number) count = (number ≡ 1) ⊎ (number + count < 2 ^ 63)
HasRoom (negsuc number) count = ⊥

-- ---- what a database holds

-- the numbers ascend
abbrev pub IsRising : List Row → Type 0
IsRising rows = IsTable rows × AllByRecursion (λ r. IsTrue (is_int (rowid r))) rows

-- a database that holds the table of a log
pub record HoldsTable (d : Database) : Type 0 where
  pub schema_is : d.schema ≡ log_schema
  pub rising : IsRising (d.trees 0)

-- and one that holds a log
pub record HoldsLog (d : Database) : Type 0 where
  pub table : HoldsTable d
  pub sealed : AreSealed (d.trees 0)

-- what a database holds as a log: the lines of its table, whose digests fit, or none if it holds nothing
abbrev pub HoldsLines : Database → List (List ℕ) → Type 0
HoldsLines d lines =
    ((d.schema ≡ log_schema) × (lines ≡ lines_in d.trees) × AreSealed (d.trees 0)) ⊎ ((d.schema ≡ no_schema) × (lines ≡ []))

-- and which rows those are
abbrev pub HoldsRows : Database → List Row → Type 0
HoldsRows d rows = ((d.schema ≡ log_schema) × (rows ≡ d.trees 0)) ⊎ ((d.schema ≡ no_schema) × (rows ≡ []))

-- trees that are a database, which holds these lines
abbrev pub HasLines : Trees → List (List ℕ) → Type 0
HasLines db lines =
    (schema : Schema) × IsDatabase (record { schema = schema; trees = db }) × HoldsLines (record { schema = schema; trees = db }) lines

-- and one that holds these rows
abbrev pub HasRows : Trees → List Row → Type 0
HasRows db rows =
    (schema : Schema) × IsDatabase (record { schema = schema; trees = db }) × HoldsRows (record { schema = schema; trees = db }) rows

-- the trees are those of a log with these lines: what a crash leaves, and the next open finds
pub record KeepsLines (lines : List (List ℕ)) (db : Trees) : Type 0 where
  pub sound : IsDatabase (record { schema = log_schema; trees = db })
  pub are : lines_in db ≡ lines
  pub sealed : AreSealed (db 0)

module _ {S : Type 0} (g : Ghosts S) where
  -- no failure has shut it, and the disk has returned what was written
  abbrev pub IsOpen : Held S → Type 0
  IsOpen h = IsTrue (state g h).is_open

  -- the lines that were committed, which says nothing once the log is shut
  abbrev pub lines_of : Held S → List (List ℕ)
  lines_of h = lines_in (state g h).committed.trees

  -- and their rows
  abbrev pub committed_rows : Held S → List Row
  committed_rows h = (state g h).committed.trees 0

  -- the rows that a call finds, which are the committed ones if no transaction is under way
  abbrev pub rows_of : Held S → List Row
  rows_of h = (state g h).now.trees 0

  -- the lines after a place
  abbrev pub lines_left : Held S → Option ℤ → List (List ℕ)
  lines_left h place = lines_after place (state g h).committed.trees

  -- what an open after a crash at this moment may find
  abbrev pub MayLeave : Held S → Trees → Type 0
  MayLeave h = (state g h).may_leave

  -- with an honest disk an open after a crash at this moment may find these lines
  abbrev pub MayHold : Held S → List (List ℕ) → Type 0
  MayHold h lines = HasCleanDisk (state g h) × ((db : Trees) × MayLeave h db × HasLines db lines)

  -- no transaction is under way
  pub record IsIdle (h : Held S) : Type 0 where
    pub autocommit : h.in_transaction ≡ false
    pub settled : IsOpen h → (state g h).committed ≡ (state g h).now

  -- a connection to the table of a log, whose digests may not fit
  pub record IsTabled (h : Held S) : Type 0 where
    pub idle : IsIdle h
    pub holds : IsOpen h → HoldsTable (state g h).now

  pub record IsLog (h : Held S) : Type 0 where
    pub idle : IsIdle h
    pub holds : IsOpen h → HoldsLog (state g h).now

  -- a transaction has appended these lines, of which the first has this number, with the digests that follow from the one before
  pub record PutsAt (number : ℤ) (old new : Held S) (digest : List ℕ) (more : List (List ℕ)) : Type 0 where
    pub was_open : IsOpen old
    pub is_open : IsOpen new
    pub inside : new.in_transaction ≡ true
    pub holds : HoldsTable (state g new).now
    pub sound : IsDatabase (state g new).now
    pub lines : lines_in (state g new).now.trees ≡ lines_in (state g old).now.trees ++ more
    pub digests : map digest_in (rows_of new) ≡ map digest_in (rows_of old) ++ digests_after digest more
    pub next : next_rowid (rows_of new) ≡ number +ℤ pos (length more)

  -- the first has the number after the last one that was there
  abbrev pub Puts : Held S → Held S → List ℕ → List (List ℕ) → Type 0
  Puts old = PutsAt (next_rowid (rows_of old)) old

  -- or no line so far
  abbrev pub PutsAnyAt : ℤ → Held S → Held S → List ℕ → List (List ℕ) → Type 0
  PutsAnyAt number old new digest more = ((more ≡ []) × (new ≡ old)) ⊎ PutsAt number old new digest more

  -- the same of lines after the others
  abbrev pub PutsAny : Held S → Held S → List ℕ → List (List ℕ) → Type 0
  PutsAny old = PutsAnyAt (next_rowid (rows_of old)) old

  -- the rows that a query shows of the lines after a place
  abbrev pub GivesRows : Held S → Option ℤ → ℤ → List Row → Type 0
  GivesRows h place limit rows = IsOpen h × (rows ≡ limited (as_count (Int limit)) (map row_of_query (rows_after place ((state g h).now.trees 0))))

  -- it has a line with this number or a larger one, if there is a number
  abbrev pub Reaches : Held S → Option ℕ → Type 0
  Reaches h None = ⊤
  Reaches h (Some number) = lines_left h (Some (pos (number - 1))) ≢ []

  -- the trees that a commit of the new lines leaves
  abbrev pub IsAppended : Held S → List (List ℕ) → Trees → Type 0
  IsAppended old more db = IsOpen old × KeepsLines (lines_of old ++ more) db

  -- a transaction has made the table
  pub record Makes (old new : Held S) : Type 0 where
    pub was_open : IsOpen old
    pub is_open : IsOpen new
    pub inside : new.in_transaction ≡ true
    pub holds : HoldsTable (state g new).now
    pub sound : IsDatabase (state g new).now
    pub lines : lines_in (state g new).now.trees ≡ []

  -- a connection whose rows ascend, if it holds the table of a log
  abbrev pub IsOrderly : Held S → Type 0
  IsOrderly h = IsOpen h → (state g h).now.schema ≡ log_schema → IsRising ((state g h).now.trees 0)

  -- the trees that the making of a log leaves
  abbrev pub IsMade : Held S → Trees → Type 0
  IsMade old db = ((state g old).now.schema ≡ no_schema) × KeepsLines [] db

  -- with an honest disk the log that was found in a connection doesn't reach this number
  pub record FallsShort (conn : Held S) (number : Option ℕ) : Type 0 where
    pub log : Held S
    pub survives : Survives (state g conn) (state g log) (IsMade conn)
    pub rows : IsOpen log → HoldsRows (state g conn).now (committed_rows log)
    pub opened : HasCleanDisk (state g log) → IsOpen conn → IsOpen log
    pub short : HasCleanDisk (state g log) → IsOpen conn → ¬ Reaches log number

  -- the trees that a commit of other lines leaves
  abbrev pub IsReplaced : Held S → List (List ℕ) → Trees → Type 0
  IsReplaced old lines db = IsOpen old × KeepsLines lines db
