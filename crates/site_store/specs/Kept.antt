-- What a site keeps of its rows from one request to the next: definitions for private clauses.
use Rattle.std.specs.Prelude.{◌≡◌, ◌≢◌, ℕ, ◌+◌, ◌≤◌, ◌⊎◌, Bool, ◌||◌, List, [], ◌∷◌, length, map, take, String, string_bytes, codes, bytes_eq, Option, IfSome, All}
use Rattle.std.specs.List.{sum_by}
use Rattle.std.specs.Map.{remove_entry}
use Rattle.lru.specs.LruCache.{LruCache}
use Rattle.plain_data.specs.Texts.{Text}
use Rattle.post_tables.specs.Rows.{Rows}
use Rattle.site_records.specs.declared.found.Found.{Found}
use Rattle.site_records.specs.declared.post.Post.{Post}
use Rattle.template_trees.specs.declared.tree.Template.{Template}
use Rattle.site_store.specs.Stored.{Texts, options_of, templates_of, active_of, found_by, template_named}

-- each tree is that of the template of its name, if one is stored
abbrev pub AreTrees : Texts → List (Text × Option Template) → Type 0
AreTrees texts trees = All (λ t. t.1 ≡ template_named t.0 texts) trees

-- what is kept of each path is what it finds
abbrev pub AreFound : Rows → List (Text × Found) → Type 0
AreFound rows kept = All (λ t. t.1 ≡ found_by rows t.0) kept

-- whether this is an option on which it depends what paths find
abbrev pub decides_what_is_found : Text → Bool
decides_what_is_found name = bytes_eq name (codes "posts_per_page") || bytes_eq name (codes "show_on_front") || bytes_eq name (codes "page_on_front")

-- how many bytes the title and the content of a post have
abbrev pub size_of : Post → ℕ
size_of p = length p.title + length p.content

-- a find that may be kept: there are posts, whose titles and contents have at most 1 MiB
abbrev pub IsKeepable : List Post → Type 0
IsKeepable posts = (sum_by size_of posts ≤ 1048576) × (posts ≢ [])

-- how many bytes count for a path and what it found: its own, and those of the titles and contents
abbrev pub bytes_of : Text × Found → ℕ
bytes_of find = length find.0 + sum_by size_of find.1.posts

-- at most 1,024 paths are kept, for which at most 4 MiB count
pub record IsKept (finds : List (Text × Found)) : Type 0 where
  pub few : length finds ≤ 1024
  pub small : sum_by bytes_of finds ≤ 4194304

module _ {A : Type 0} where
  -- the entries of a cache, under the bytes of their paths
  abbrev pub finds_of : List (String A × Found) → List (Text × Found)
  finds_of entries = map (λ e. (string_bytes e.0, e.1)) entries

  -- what a cache of at most 1,024 paths keeps, with the number of bytes that count for it
  abbrev pub IsCounted : LruCache (String A) Found → ℕ → Type 0
  IsCounted cache bytes = (cache.cap ≡ 1024) × (bytes ≡ sum_by bytes_of (finds_of cache.entries)) × IsKept (finds_of cache.entries)

-- what is kept after one more find: that find first, if it is kept, and of the others the most recently used
abbrev pub IsKeptFrom : List (Text × Found) → Text × Found → List (Text × Found) → Type 0
IsKeptFrom old find new = (n : ℕ) × ((new ≡ take n old) ⊎ (new ≡ find ∷ remove_entry (bytes_eq find.0) (take n old)))

-- what is kept is what a request would find
pub record KeepsUp (rows : Rows) (kept_options kept_templates : Option Texts)
    (kept_active : Option (List Text)) (kept_found : List (Text × Found)) : Type 0 where
  pub options : IfSome kept_options (λ texts. texts ≡ options_of rows)
  pub templates : IfSome kept_templates (λ texts. texts ≡ templates_of rows)
  pub active : IfSome kept_active (λ names. names ≡ active_of rows)
  pub found : AreFound rows kept_found
