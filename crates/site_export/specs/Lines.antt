-- The command lines that are defined of what a site stores.
use Rattle.std.specs.Prelude.{◌≡◌, ℕ, ◌+◌, nat_lt, nat_le, nat_eq, not, ◌&&◌, Bool, List, [], ◌∷◌, ◌++◌, map, filter, flat_map, length, sum_by, codes}
use Rattle.std.specs.Prelude.{decimal, is_some, if◌then◌else◌, ◌≤◌, All}
use Rattle.std.specs.FinMap.{entries, keys}
use Rattle.json.specs.Token.{Token, begin_object, end_object, begin_array, end_array, key, string, number}
use Rattle.json.specs.Print.{print}
use Rattle.site_records.specs.Ids.{max_id}
use Rattle.site_records.specs.declared.post.Post.{Post}
use Rattle.site_records.specs.declared.post.PostKind.TheVariants.{Post as OfPost}
use Rattle.site_records.specs.declared.post.PostStatus.TheVariants.{Draft}
use Rattle.plain_data.specs.Texts.{Text}
use Rattle.post_tables.specs.Rows.{Rows, post_with}
use Rattle.site_records.specs.Kinds.{kind_text, status_text}
use Rattle.site_export.specs.declared.posts.ShownPost.{ShownPost}

-- a member of an object: its name, and a text or a number
abbrev pub with_text : Text → Text → List Token
with_text name text = key name ∷ string text ∷ []

abbrev pub with_number : Text → ℕ → List Token
with_number name n = key name ∷ number (decimal n) ∷ []

-- a command and what it is given, as JSON
abbrev pub command : Text → List Token → Text
command name given = print (begin_object ∷ with_text (codes "cmd") name ++ given ++ end_object ∷ [])

-- ---- posts

abbrev pub post_tokens : Post → List Token
post_tokens p =
    begin_object ∷ with_number (codes "id") p.id ++ with_text (codes "kind") (kind_text p.kind) ++ with_text (codes "status") (status_text p.status)
    ++ with_text (codes "title") p.title ++ with_text (codes "content") p.content ++ with_text (codes "date") p.date ++ end_object ∷ []

-- the site file that has these posts and nothing else
abbrev pub import_head : List Token
import_head =
    begin_object ∷ with_text (codes "cmd") (codes "import") ++ key (codes "site") ∷ begin_object ∷ with_number (codes "version") 1
    ++ key (codes "posts") ∷ begin_array ∷ []

abbrev pub import_tail : List Token
import_tail = end_array ∷ end_object ∷ end_object ∷ []

abbrev pub import_line : List Post → Text
import_line posts = print (import_head ++ flat_map post_tokens posts ++ import_tail)

-- a title or a content
abbrev pub edit_line : ℕ → Text → Text → Text
edit_line id name text = command (codes "edit") (with_number (codes "id") id ++ with_text name text)

abbrev pub delete_line : ℕ → Text
delete_line id = command (codes "delete") (with_number (codes "id") id)

-- an empty text needs no line
abbrev pub edit_lines : ℕ → Text → Text → List Text
edit_lines id name text = if nat_eq (length text) 0 then [] else edit_line id name text ∷ []

-- the post without its texts
abbrev pub bare : Post → Post
bare p = record p { title = []; content = [] }

-- the lines of a post that may be too long for one: each of its texts came by a line, and fits into one
abbrev pub apart : Post → List Text
apart p = import_line (bare p ∷ []) ∷ (edit_lines p.id (codes "title") p.title ++ edit_lines p.id (codes "content") p.content)

-- the room that a post takes in a line: its title and its content, and what stands beside them counts 40
abbrev pub room_of : Post → ℕ
room_of p = 40 + length p.title + length p.content

-- posts that one line imports, whatever their texts are. For each byte of room they have at most six bytes of JSON, so
-- that the line is within 1,048,576 bytes, and they are fewer than 10,000
abbrev pub fits : List Post → Bool
fits posts = nat_le (sum_by room_of posts) 170000

abbrev pub batch_lines : List Post → List Text
batch_lines posts = if fits posts then import_line posts ∷ [] else flat_map apart posts

-- the lines of posts, in some batches, stand after others
pub record AppendsPosts (posts : List Post) (old new : List Text) : Type 0 where
  pub batches : List (List Post)
  pub posts_are : flat_map (λ batch. batch) batches ≡ posts
  pub lines_are : new ≡ old ++ flat_map batch_lines batches

-- ---- the largest ID ever given, if no post has it: a post that had it was deleted

abbrev pub gone : ℕ → Post
gone id = record { id = id; kind = OfPost; status = Draft; title = []; content = []; date = codes "2000-01-01 00:00:00" }

abbrev pub gone_lines : Rows → List Text
gone_lines rows =
    if nat_lt 0 rows.largest && not (is_some (post_with rows.largest rows.posts))
    then import_line (gone rows.largest ∷ []) ∷ delete_line rows.largest ∷ []
    else []

-- ---- what is stored under names

abbrev pub option_line : Text × Text → Text
option_line option = command (codes "option") (with_text (codes "name") option.0 ++ with_text (codes "value") option.1)

-- a template is stored as JSON, which is its tree
abbrev pub template_line : Text × Text → Text
template_line template =
    print (begin_object ∷ with_text (codes "cmd") (codes "template") ++ with_text (codes "name") template.0 ++ key (codes "body") ∷ [])
    ++ template.1 ++ codes "}"

abbrev pub activate_line : Text → Text
activate_line plugin = command (codes "activate") (with_text (codes "plugin") plugin)

-- ---- all of it. No post of a site has the ID 0, which no command gives or takes

pub record IsHistory (rows : Rows) (lines : List Text) : Type 0 where
  pub batches : List (List Post)
  pub posts_are : flat_map (λ batch. batch) batches ≡ filter (λ p. nat_lt 0 p.id) rows.posts
  pub lines_are : lines
      ≡ gone_lines rows ++ flat_map batch_lines batches ++ map option_line (entries rows.options)
      ++ map template_line (entries rows.templates) ++ map activate_line (keys rows.active)

-- ---- how long the lines are

-- the most bytes that a site takes as a line
abbrev pub IsShort : Text → Type 0
IsShort line = length line ≤ 1048576

-- a post whose title and content each fit into a line that edits it
abbrev pub PostFits : Post → Type 0
PostFits p =
    (p.id ≤ max_id) × (length p.date ≤ 19) × IsShort (edit_line p.id (codes "title") p.title) × IsShort (edit_line p.id (codes "content") p.content)

-- rows whose texts each fit into a line of their own, as texts do that came by such lines
pub record FitsLines (rows : Rows) : Type 0 where
  pub largest : rows.largest ≤ max_id
  pub posts : All PostFits rows.posts
  pub options : All (λ o. IsShort (option_line o)) (entries rows.options)
  pub templates : All (λ t. IsShort (template_line t)) (entries rows.templates)
  pub active : All (λ name. IsShort (activate_line name)) (keys rows.active)

-- ---- a post as the code shows it

abbrev pub exported_post : ShownPost → Post
exported_post p = record { id = p.id; kind = p.kind; status = p.status; title = p.title.now; content = p.content.now; date = p.date.now }
