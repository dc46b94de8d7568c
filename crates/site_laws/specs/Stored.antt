-- What a site may store.
use Rattle.std.specs.Prelude.{◌≡◌, ◌≤◌, ◌<◌, ℕ, true, false, ⊤, List, [], ◌∷◌, length, Some, is_some, Ok}
use Rattle.std.specs.List.{AllByRecursion}
use Rattle.std.specs.FinMap.{entries, keys}
use Rattle.json.specs.Tree.{depth, HasNumbers}
use Rattle.serde_json.specs.Data.{Data}
use Rattle.serde_json.specs.Find.{as_null}
use Rattle.serde_json.specs.Read.{of_json}
use Rattle.serde_json.specs.Written.{outline, compact_text}
use Rattle.callback_store.specs.Shape.{Shape, load_of}
use Rattle.post_tables.specs.Rows.{Rows}
use Rattle.template_trees.specs.Trees.{template_of}
use Rattle.template_trees.specs.declared.tree.Template.{Template}
use Rattle.plain_data.specs.Texts.{Text}
use Rattle.site_records.specs.Dates.{is_post_date}
use Rattle.site_records.specs.Ids.{max_id}
use Rattle.site_records.specs.declared.post.Post.{Post}
use Rattle.site_values.specs.Limits.{max_title, max_content, max_value}

-- an ID that a post may have
pub record IsId (id : ℕ) : Type 0 where
  pub least : 1 ≤ id
  pub most : id ≤ max_id

-- a name that an option may have, by its length
pub record IsOptionName (name : Text) : Type 0 where
  pub least : 1 ≤ length name
  pub most : length name ≤ 64

-- a post that a site may store
pub record IsPost (p : Post) : Type 0 where
  pub id : IsId p.id
  pub title : length p.title ≤ max_title
  pub content : length p.content ≤ max_content
  pub date : is_post_date p.date ≡ true

-- their IDs ascend, from above this one
abbrev pub RisesFrom : ℕ → List Post → Type 0
RisesFrom n [] = ⊤
RisesFrom n (p ∷ ps) = (n < p.id) × RisesFrom p.id ps

-- an option that a site may store
pub record IsOption (option : Text × Text) : Type 0 where
  pub name : IsOptionName option.0
  pub value : length option.1 ≤ max_value

-- A template that a site may store: the compact text of a tree that is a template, no `null`, and is read from its text.
pub record IsTemplate (template : Text × Text) : Type 0 where
  pub body : Data
  pub text : template.1 ≡ compact_text body
  pub some : is_some (as_null body) ≡ false
  pub read : (result : Template) × (template_of template.0 body ≡ Ok result)
  pub back : of_json (outline body) ≡ Some body
  pub numbers : HasNumbers (outline body)
  pub shallow : depth (outline body) ≤ 126

-- The rows that a site may have: posts by ascending ID, none above the largest ID ever given; options, templates and
-- plugins that edits can have set.
pub record AreStored (plugins : List Shape) (rows : Rows) : Type 0 where
  pub posts : AllByRecursion IsPost rows.posts
  pub rise : RisesFrom 0 rows.posts
  pub given : AllByRecursion (λ p. p.id ≤ rows.largest) rows.posts
  pub most : rows.largest ≤ max_id
  pub options : AllByRecursion IsOption (entries rows.options)
  pub templates : AllByRecursion IsTemplate (entries rows.templates)
  pub active : AllByRecursion (λ name. is_some (load_of plugins name) ≡ true) (keys rows.active)
