-- How the tables hold the rows of a site, and what stays true of them.
use Rattle.std.specs.Prelude.{⊤, Bool, IsUtf8, Option, None, if◌then◌else◌, codes, ◌≡◌, ℕ, ℤ, pos, negsuc, false, true, List, [], ◌∷◌, drop, map, IsTrue}
use Rattle.std.specs.Prelude.{bytes_eq, ◌<◌, ◌≤◌, ◌^◌, Result, OnOk, OnErr}
use Rattle.std.specs.List.{AllByRecursion, list_any}
use Rattle.std.specs.Ordering.{is_eq, nat_cmp}
use Rattle.std.specs.FinMap.{FinMap, from_entries}
use Rattle.sqlite_rules.specs.Edit.{id_in}
use Rattle.sqlite_value.specs.declared.value.Value.{Value}
use Rattle.sqlite_value.specs.declared.value.Value.TheVariants.{Text as Words, Int, Null}
use Rattle.sqlite_value.specs.Order.{Row, column, bytes}
use Rattle.sqlite_rules.specs.Lists.{Has}
use Rattle.sqlite_trees.specs.Tree.{Trees, rowid, IsTable}
use Rattle.sqlite_trees.specs.View.{is_int}
use Rattle.sqlite_trees.specs.declared.memory.MemStore.{MemStore}
use Rattle.sqlite.specs.Schema.{Schema}
use Rattle.sqlite.specs.Held.{Held, state}
use Rattle.sqlite.specs.Steps.{over_memory}
use Rattle.sqlite.specs.Effect.{Database}
use Rattle.sqlite.specs.declared.transaction.Transaction.{Transaction}
use Rattle.site_records.specs.declared.post.Post.{Post}
use Rattle.site_records.specs.declared.post.PostKind.{PostKind}
use Rattle.site_records.specs.declared.post.PostKind.TheVariants.{Post as OfPost, Page as OfPage}
use Rattle.site_records.specs.declared.post.PostStatus.{PostStatus}
use Rattle.site_records.specs.declared.post.PostStatus.TheVariants.{Publish, Draft}
use Rattle.site_records.specs.Dates.{is_post_date}
use Rattle.site_records.specs.Kinds.{kind_text, status_text}
use Rattle.post_tables.specs.Schema.{site_schema}
use Rattle.plain_data.specs.Texts.{Text}
use Rattle.post_tables.specs.Rows.{by_bytes, Rows}

-- the rows of the trees
abbrev pub trees_of : Held MemStore → Trees
trees_of h = (state over_memory h).now.trees

-- no transaction is open, and all that it shows is committed
pub record IsIdle (h : Held MemStore) : Type 0 where
  pub autocommit : h.in_transaction ≡ false
  pub settled : (state over_memory h).committed ≡ (state over_memory h).now

-- what a call that changes nothing leaves
pub record IsKept (old new : Held MemStore) : Type 0 where
  pub now : (state over_memory new).now ≡ (state over_memory old).now
  pub idle : IsIdle new

-- the tables so far are there, with no row
pub record IsBare (schema : Schema) (h : Held MemStore) : Type 0 where
  pub schema_is : (state over_memory h).now.schema ≡ schema
  pub empty : AllByRecursion (λ t. trees_of h t.tree ≡ []) schema.tables
  pub idle : IsIdle h
  pub unlimited : h.step_limit ≡ None

-- a value that can be read as a text
abbrev pub IsText : Value → Type 0
IsText v = (t : Text) × (v ≡ Words t) × IsUtf8 t

-- ---- names: a row is its rowid, the name, and what is stored under it

abbrev pub name_in : Row → Text
name_in r = bytes (column r 1)

-- a text is stored under an option or a template, nothing under an active name
abbrev pub text_rest : Text → Row
text_rest t = Words t ∷ []

abbrev pub text_in : Row → Text
text_in r = bytes (column r 2)

abbrev pub no_rest : Unit {0} → Row
no_rest u = []

abbrev pub nothing_in : Row → Unit {0}
nothing_in r = tt

module _ {V : Type 0} (rest : V → Row) (value_in : Row → V) where
  abbrev pub IsNamed : Row → Type 0
  IsNamed r = (IsTrue (is_int (rowid r))) × (r ≡ rowid r ∷ Words (name_in r) ∷ rest (value_in r)) × AllByRecursion IsText (drop 1 r)

  pub record AreNamed (rows : List Row) : Type 0 where
    pub ordered : IsTable rows
    pub each : (r : Row) → Has rows r → IsNamed r
    pub distinct : (r s : Row) → Has rows r → Has rows s → name_in r ≡ name_in s → r ≡ s

abbrev pub named_in : {V : Type 0} → (Row → V) → List Row → FinMap by_bytes V
named_in value_in rows = from_entries (map (λ r. (name_in r, value_in r)) rows)

-- ---- posts: a row is the ID, a NULL in its column, and then the other columns

abbrev pub kind_of : Text → PostKind
kind_of t = if bytes_eq t (codes "page") then OfPage else OfPost

abbrev pub status_of : Text → PostStatus
status_of t = if bytes_eq t (codes "publish") then Publish else Draft

abbrev pub magnitude : ℤ → ℕ
magnitude (pos n) = n
magnitude (negsuc n) = 0

abbrev pub post_in : Row → Post
post_in r = record {
  id = magnitude (id_in (column r 0));
  kind = kind_of (bytes (column r 2));
  status = status_of (bytes (column r 3));
  title = bytes (column r 4);
  content = bytes (column r 5);
  date = bytes (column r 6);
}

abbrev pub row_of : Post → Row
row_of p = Int (pos p.id) ∷ Null ∷ Words (kind_text p.kind) ∷ Words (status_text p.status) ∷ Words p.title ∷ Words p.content ∷ Words p.date ∷ []

-- what a stored post can be read back as: its texts are texts, and its date is a date
pub record IsReadable (p : Post) : Type 0 where
  pub id : p.id < 2 ^ 32
  pub title : IsUtf8 p.title
  pub content : IsUtf8 p.content
  pub date : IsUtf8 p.date
  pub dated : is_post_date p.date ≡ true

pub record ArePosts (rows : List Row) : Type 0 where
  pub ordered : IsTable rows
  pub each : (r : Row) → Has rows r → r ≡ row_of (post_in r)
  pub readable : (r : Row) → Has rows r → IsReadable (post_in r)

-- ---- the largest ID ever given: the one row that counts for the table of posts, once there is one

abbrev pub top_in : List Row → ℕ
top_in [] = 0
top_in (r ∷ rows) = magnitude (id_in (column r 2))

abbrev pub IsCounter : List Row → Type 0
IsCounter [] = ⊤
IsCounter (r ∷ []) = r ≡ Int (id_in (rowid r)) ∷ Words (codes "post") ∷ Int (pos (top_in (r ∷ []))) ∷ []
IsCounter (r ∷ s ∷ rows) = ⊥

-- ---- the value that contracts see

abbrev pub rows_in : Option ℕ → Trees → Rows
rows_in limit t = record {
  posts = map post_in (t 0);
  options = named_in text_in (t 2);
  templates = named_in text_in (t 4);
  active = named_in nothing_in (t 6);
  largest = top_in (t 1);
  step_limit = limit;
}

-- no ID of these is larger than the largest ever given
abbrev pub AreGiven : List Post → ℕ → Type 0
AreGiven posts largest = AllByRecursion (λ p. p.id ≤ largest) posts

pub record AreSound (t : Trees) : Type 0 where
  pub posts : ArePosts (t 0)
  pub counter : IsCounter (t 1)
  pub bounded : top_in (t 1) < 2 ^ 32
  pub given : AreGiven (map post_in (t 0)) (top_in (t 1))
  pub options : AreNamed text_rest text_in (t 2)
  pub templates : AreNamed text_rest text_in (t 4)
  pub active : AreNamed no_rest nothing_in (t 6)

pub record HoldsSite (d : Database) : Type 0 where
  pub schema_is : d.schema ≡ site_schema
  pub sound : AreSound d.trees

abbrev pub rows_of : Held MemStore → Rows
rows_of h = rows_in h.step_limit (trees_of h)

pub record IsSite (h : Held MemStore) : Type 0 where
  pub holds : HoldsSite (state over_memory h).now
  pub idle : IsIdle h

-- ---- what a statement does: all of it, or nothing

pub record Makes {A E : Type 0} (f : Rows → Rows) (old new : Held MemStore) (r : Result A E) : Type 0 where
  pub site : IsSite new
  pub ok : OnOk r (rows_of new ≡ f (rows_of old))
  pub err : OnErr r (rows_of new ≡ rows_of old)

-- a transaction that has begun, and shows the rows of a site
pub record IsOpen (tx : Transaction MemStore) : Type 0 where
  pub holds : HoldsSite (state over_memory tx.conn.now).now
  pub inside : tx.conn.now.in_transaction ≡ true

-- within a transaction, which begins with what is committed, and stays open unless the statement fails
pub record MakesInside {A E : Type 0} (f : Rows → Rows) (old new : Transaction MemStore) (r : Result A E) : Type 0 where
  pub same_reference : new.conn.ghost_name ≡ old.conn.ghost_name
  pub is_open : OnOk r (IsOpen new)
  pub rows : OnOk r (rows_of new.conn.now ≡ f (rows_of old.conn.now))
  pub committed : (state over_memory new.conn.now).committed ≡ (state over_memory old.conn.now).committed
  pub limit : new.conn.now.step_limit ≡ old.conn.now.step_limit

-- a query leaves all as it was
pub record Reads (old new : Held MemStore) : Type 0 where
  pub site : IsSite new
  pub same : rows_of new ≡ rows_of old

-- ---- an ID among those that were met

abbrev pub is_met : List ℕ → ℕ → Bool
is_met met id = list_any (λ k. is_eq (nat_cmp id k)) met
