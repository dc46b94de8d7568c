-- What a site stores, and what each call makes of it.
use Rattle.std.specs.Prelude.{◌≡◌, ◌⊎◌, Result, Ok, Err, ℕ, Bool, true, false, not, ◌&&◌, ◌==◌, List, [], ◌∷◌, map, filter, take, find, max, nat_lt}
use Rattle.std.specs.Prelude.{if◌then◌else◌, Option, Some, None, IsSome, unwrap_or, refl}
use Rattle.std.specs.List.{list_any}
use Rattle.std.specs.Option.{option_copied}
use Rattle.std.proofs.Common.{Bor}
use Rattle.std.specs.declared.cmp.Ordering.{Ordering}
use Rattle.std.specs.Ordering.{nat_cmp}
use Rattle.std.specs.Cmp.Lexicographic.{slice_cmp}
use Rattle.std.specs.Coded.{Coded, code_by, coded×, coded_ℕ, coded_bool, coded_list, coded_option}
use Rattle.std.specs.FinMap.{FinMap, empty, insert, remove, code}
use Rattle.std.specs.FinSet.{FinSet, code as set_code}
use Rattle.site_records.specs.declared.post.Post.{Post}
use Rattle.site_records.specs.declared.post.PostKind.{PostKind}
use Rattle.site_records.specs.declared.post.PostKind.TheVariants.{Post as OfPost, Page as OfPage}
use Rattle.site_records.specs.declared.post.PostStatus.{PostStatus}
use Rattle.site_records.specs.declared.post.PostStatus.TheVariants.{Publish, Draft}
use Rattle.site_records.specs.declared.post.SiteRecords.{SiteRecords}
use Rattle.post_tables.specs.declared.fault.TablesFault.{TablesFault}
use Rattle.post_tables.specs.declared.fault.TablesFault.TheVariants.{OutOfMemory, Store}
use Rattle.sqlite.specs.declared.error.Error.{Error}
use Rattle.sqlite.specs.declared.error.Error.TheVariants.{SqliteFailure}
use Rattle.sqlite.specs.declared.error.ErrorCode.TheVariants as code
use Rattle.plain_data.specs.Texts.{Text}

-- the order of texts by their bytes
abbrev pub by_bytes : Text → Text → Ordering
by_bytes = slice_cmp nat_cmp

-- texts under names, in the order of the names' bytes
abbrev pub Named : Type 0
Named = FinMap by_bytes Text

-- a set of names, in that order
abbrev pub Names : Type 0
Names = FinSet by_bytes

-- all that a site stores
pub record Rows : Type 0 where
  -- posts and pages, by ascending ID
  pub posts : List Post
  pub options : Named
  pub templates : Named
  -- the names of the active plugins
  pub active : Names
  -- the largest ID ever given or imported, also after its post is gone
  pub largest : ℕ
  -- how many rows a statement may visit, if there is a limit
  pub step_limit : Option ℕ

abbrev pub no_rows : Rows
no_rows = record { posts = []; options = empty; templates = empty; active = empty; largest = 0; step_limit = None }

-- ---- posts

-- the posts with one more in its place by ID, which is the order of the table
abbrev pub with_post : Post → List Post → List Post
with_post p [] = p ∷ []
with_post p (q ∷ qs) = if nat_lt q.id p.id then q ∷ with_post p qs else p ∷ q ∷ qs

-- the posts but the one with the ID (wp_delete_post, without the trash)
abbrev pub without_post : ℕ → List Post → List Post
without_post id = filter (λ q. not (q.id == id))

-- whether there is one with the ID
abbrev pub has_post : ℕ → List Post → Bool
has_post id = list_any (λ q. q.id == id)

-- the post with the ID, published or not (get_post)
abbrev pub post_with : ℕ → List Post → Option Post
post_with id = find (λ q. q.id == id)

-- the posts with an ID above this one, published or not, and `limit` of them at most
abbrev pub posts_after : ℕ → ℕ → List Post → List Post
posts_after id limit posts = take limit (filter (λ q. nat_lt id q.id) posts)

-- one post more. IDs are never used again, so the largest is kept apart from the posts (SQLite, AUTOINCREMENT)
abbrev pub with_new : Post → Rows → Rows
with_new p s = record s { posts = with_post p s.posts; largest = max s.largest p.id }

-- what an edit gives replaces what the post had, and what it doesn't give stays (wp_update_post)
pub record PostEdit : Type 0 where
  pub status : Option PostStatus
  pub title : Option Text
  pub content : Option Text
  pub date : Option Text

-- the edit by these values, some of them borrowed
abbrev pub edit_by : Option PostStatus → Option (Bor Text) → Option (Bor Text) → Option (Bor Text) → PostEdit
edit_by status title content date = record { status = status; title = option_copied title; content = option_copied content; date = option_copied date }

-- a post after an edit: fields that aren't given stay
abbrev pub edited_post : PostEdit → Post → Post
edited_post e q = record q {
  status = unwrap_or e.status q.status;
  title = unwrap_or e.title q.title;
  content = unwrap_or e.content q.content;
  date =
      unwrap_or e.date q.date;
}

-- the posts after an edit of the one with an ID
abbrev pub edited_posts : ℕ → PostEdit → List Post → List Post
edited_posts id e = map (λ q. if q.id == id then edited_post e q else q)

-- ---- names

-- sets a text under a name, in place of the one before (update_option), or removes the name
abbrev pub set_text : Text → Option Text → Named → Named
set_text name None texts = remove texts name
set_text name (Some text) texts = insert texts name text

-- adds a name (activate_plugin), or removes it (deactivate_plugins)
abbrev pub set_name : Text → Bool → Names → Names
set_name name true names = insert names name tt
set_name name false names = remove names name

-- ---- an import

-- the posts are added in the order of their list, each in its place by ID
abbrev pub with_posts : List Post → List Post → List Post
with_posts [] stored = stored
with_posts (p ∷ ps) stored = with_posts ps (with_post p stored)

-- the largest of a number and the IDs of some posts
abbrev pub largest_of : List Post → ℕ → ℕ
largest_of [] n = n
largest_of (p ∷ ps) n = largest_of ps (max n p.id)

-- the rows with these posts added
abbrev pub with_all : List Post → Rows → Rows
with_all ps s = record s { posts = with_posts ps s.posts; largest = largest_of ps s.largest }

-- no stored post has one of these IDs, and no two of the posts have the same one
abbrev pub are_new : List Post → List Post → Bool
are_new [] stored = true
are_new (p ∷ ps) stored = (not (has_post p.id stored) && not (has_post p.id ps)) && are_new ps stored

-- the pairs are set in the order of their list, so a later one counts
abbrev pub set_all : List (Text × Text) → Named → Named
set_all [] texts = texts
set_all (p ∷ ps) texts = set_all ps (insert texts p.0 p.1)

-- the set with these names added
abbrev pub put_all : List Text → Names → Names
put_all [] names = names
put_all (n ∷ ns) names = put_all ns (insert names n tt)

-- the rows with these options set
abbrev pub with_options : List (Text × Text) → Rows → Rows
with_options pairs s = record s { options = set_all pairs s.options }

-- the rows with these templates set
abbrev pub with_templates : List (Text × Text) → Rows → Rows
with_templates pairs s = record s { templates = set_all pairs s.templates }

-- the rows with these plugins active
abbrev pub with_active : List Text → Rows → Rows
with_active names s = record s { active = put_all names s.active }

-- the rows with all records of a site file
abbrev pub with_records : SiteRecords → Rows → Rows
with_records r s = with_active r.active (with_templates r.templates (with_options r.options (with_all r.posts s)))

-- ---- what can go wrong in any call

-- memory ran out, or the database refused
abbrev pub IsOfStore : TablesFault → Type 0
IsOfStore e = (e ≡ OutOfMemory) ⊎ (e ≡ Store)

-- what an error of the database is to a caller: an allocation that failed is told from all else
abbrev pub fault_of : Error → TablesFault
fault_of (SqliteFailure code.OutOfMemory) = OutOfMemory
fault_of _ = Store

-- a statement was not run to its end: an allocation failed, or it would have gone past the limit on its steps
abbrev pub IsReadFault : Option ℕ → TablesFault → Type 0
IsReadFault limit e = (e ≡ OutOfMemory) ⊎ ((e ≡ Store) × IsSome limit)

-- the call is refused by this fault, or a statement before it was not run to its end
abbrev pub IsRefusedAs : {A : Type 0} → Option ℕ → TablesFault → Result A TablesFault → Type 0
IsRefusedAs limit fault (Ok a) = ⊥
IsRefusedAs limit fault (Err e) = (e ≡ fault) ⊎ IsReadFault limit e

-- ---- the codes of these values

abbrev is_page : PostKind → Bool
is_page OfPost = false
is_page OfPage = true

abbrev kind_by : Bool → PostKind
kind_by false = OfPost
kind_by true = OfPage

pub kind_back : (k : PostKind) → kind_by (is_page k) ≡ k
kind_back OfPost = refl
kind_back OfPage = refl

abbrev is_draft : PostStatus → Bool
is_draft Publish = false
is_draft Draft = true

abbrev status_by : Bool → PostStatus
status_by false = Publish
status_by true = Draft

pub status_back : (s : PostStatus) → status_by (is_draft s) ≡ s
status_back Publish = refl
status_back Draft = refl

abbrev pub text_code : Coded Text
text_code = coded_list coded_ℕ

abbrev pub post_code : Coded Post
post_code =
    code_by (ℕ × (Bool × (Bool × (Text × (Text × Text))))) (coded× coded_ℕ
    (coded× coded_bool (coded× coded_bool (coded× text_code (coded× text_code text_code)))))
    (λ p. (p.id, (is_page p.kind, (is_draft p.status, (p.title, (p.content, p.date))))))
    (λ t. record { id = t.0; kind = kind_by t.1.0; status = status_by t.1.1.0; title = t.1.1.1.0; content = t.1.1.1.1.0; date = t.1.1.1.1.1 })
    (λ p i. record p { kind = kind_back p.kind i; status = status_back p.status i })

abbrev pub rows_code : Coded Rows
rows_code =
    code_by (List Post × (Named × (Named × (Names × (ℕ × Option ℕ)))))
    (coded× (coded_list post_code) (coded× (code text_code text_code)
    (coded× (code text_code text_code) (coded× (set_code text_code) (coded× coded_ℕ (coded_option coded_ℕ))))))
    (λ s. (s.posts, (s.options, (s.templates, (s.active, (s.largest, s.step_limit))))))
    (λ p. record { posts = p.0; options = p.1.0; templates = p.1.1.0; active = p.1.1.1.0; largest = p.1.1.1.1.0; step_limit = p.1.1.1.1.1 }) (λ _. refl)
