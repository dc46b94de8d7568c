-- What the rows of a result say.
use Rattle.std.specs.Prelude.{⊤, ◌≡◌, ◌⊎◌, ◌<◌, ◌^◌, true, length, ℕ, pos, List, [], ◌∷◌, Option, IsSome}
use Rattle.sqlite_value.specs.declared.value.Value.{Value}
use Rattle.sqlite_value.specs.declared.value.Value.TheVariants.{Int}
use Rattle.sqlite_value.specs.Order.{Row, column, bytes}
use Rattle.sqlite_rules.specs.Edit.{id_in}
use Rattle.sqlite.specs.declared.error.Error.{Error}
use Rattle.sqlite.specs.declared.error.Error.TheVariants.{SqliteFailure}
use Rattle.sqlite.specs.declared.error.ErrorCode.TheVariants as code
use Rattle.site_records.specs.declared.post.Post.{Post}
use Rattle.post_tables.specs.declared.posts.NewPost.{NewPost}
use Rattle.plain_data.specs.Texts.{Text}
use Rattle.site_records.specs.Dates.{is_post_date}
use Rattle.post_tables.specs.Stored.{IsText, magnitude, kind_of, status_of}

-- a post that is to be stored
abbrev pub post_with_id : NewPost → Post
post_with_id p = record { id = p.id; kind = p.kind; status = p.status; title = p.title.now; content = p.content.now; date = p.date.now }

abbrev pub post_from : Row → Post
post_from r = record {
  id = magnitude (id_in (column r 0));
  kind = kind_of (bytes (column r 1));
  status = status_of (bytes (column r 2));
  title = bytes (column r 3);
  content = bytes (column r 4);
  date = bytes (column r 5);
}

abbrev pub pair_from : Row → Text × Text
pair_from r = (bytes (column r 0), bytes (column r 1))

abbrev pub name_from : Row → Text
name_from r = bytes (column r 0)

-- an allocation failed
abbrev pub IsNoMemory : Error → Type 0
IsNoMemory e = e ≡ SqliteFailure code.OutOfMemory

-- a query has no result: an allocation failed, or it would have gone past the limit on its steps
abbrev pub IsStopped : Option ℕ → Error → Type 0
IsStopped limit e = IsNoMemory e ⊎ ((e ≡ SqliteFailure code.OperationInterrupted) × IsSome limit)

-- an ID that a row names
abbrev pub IsId : Value → Type 0
IsId v = (n : ℕ) × (v ≡ Int (pos n)) × (n < 2 ^ 32)

-- a row that can be read as a post, as a name and its value, and as a name
pub record IsPostRow (r : Row) : Type 0 where
  pub width : length r ≡ 6
  pub id : IsId (column r 0)
  pub kind : IsText (column r 1)
  pub status : IsText (column r 2)
  pub title : IsText (column r 3)
  pub content : IsText (column r 4)
  pub date : IsText (column r 5)
  pub dated : is_post_date (bytes (column r 5)) ≡ true

pub record IsPairRow (r : Row) : Type 0 where
  pub width : length r ≡ 2
  pub name : IsText (column r 0)
  pub value : IsText (column r 1)

pub record IsNameRow (r : Row) : Type 0 where
  pub width : length r ≡ 1
  pub name : IsText (column r 0)

-- the result has the largest ID, or no row if no ID was given
abbrev pub IsTop : List Row → ℕ → Type 0
IsTop [] n = n ≡ 0
IsTop (r ∷ []) n = column r 0 ≡ Int (pos n)
IsTop (r ∷ s ∷ rows) n = ⊥

-- it can be read
abbrev pub IsTopRow : List Row → Type 0
IsTopRow [] = ⊤
IsTopRow (r ∷ []) = IsId (column r 0)
IsTopRow (r ∷ s ∷ rows) = ⊥
