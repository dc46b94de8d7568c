-- What holds after a command, by what it may change of the rows.
use Rattle.std.proofs.Common.{ℕ, List, Ok, Err, true, false, cond}
use Rattle.std.specs.Prelude.{Bool, Result, not, ◌&&◌, nat_lt, is_some}
use Rattle.callback_store.specs.Shape.{Shape, load_of}
use Rattle.site_records.specs.Dates.{is_post_date}
use Rattle.site_records.specs.declared.post.Post.{Post}
use Rattle.site_records.specs.declared.post.PostKind.{PostKind}
use Rattle.site_records.specs.declared.post.PostStatus.{PostStatus}
use Rattle.plain_data.specs.Texts.{Text}
use Rattle.post_tables.specs.Rows.{Rows, Named, Names, PostEdit, has_post}
use Rattle.serde_json.specs.Data.{Data}
use Rattle.serde_json.specs.Find.{as_null}
use Rattle.template_trees.specs.Trees.{is_template_name, template_of}
use Rattle.template_trees.specs.declared.fault.TemplateFault.{TemplateFault}
use Rattle.template_trees.specs.declared.tree.Template.{Template}
use Rattle.site_replies.specs.Reply.{ReplyData}
use Rattle.site_edits.specs.Edits.{put, edit, edited, delete, set_option, set_active, if_given}
use Rattle.site_records.specs.Ids.{max_id}
use Rattle.site_values.specs.Limits.{fits, max_title, max_content, max_value}
use Rattle.site_edits.specs.Templates.{with_template, set_template}

module _ (P : Rows → Type 0) where
  -- it holds of the rows that are left
  abbrev pub After : Rows × ReplyData → Type 0
  After p = P p.0

  -- of two outcomes after which it holds, it holds after each
  either : (b : Bool) (p q : Rows × ReplyData) → After p → After q → After (cond b p q)
  either true p q x y = x
  either false p q x y = y

  -- what holds of some rows
  module _ (rows : Rows) (now : P rows) where
    -- ---- and whatever posts they have
    module _ (whatever : (posts : List Post) (largest : ℕ) → P (record rows { posts = posts; largest = largest })) where
      pub put-after : (kind : PostKind) (status : PostStatus) (title content date : Text) → After (put rows kind status title content date)
      unfolding put
      put-after kind status title content date =
          either (not (fits max_title title && fits max_content content)) _ _ now
          (either (not (is_post_date date)) _ _ now (either (nat_lt rows.largest max_id) _ _ (whatever _ _) now))

      edited-after : (id : ℕ) (given : PostEdit) → After (edited rows id given)
      unfolding edited
      edited-after id given = either (has_post id rows.posts) _ _ (whatever _ _) now

      pub edit-after : (id : ℕ) (given : PostEdit) → After (edit rows id given)
      unfolding edit
      edit-after id given =
          either (not (if_given (fits max_title) given.title && if_given (fits max_content) given.content)) _ _ now
          (either (not (if_given is_post_date given.date)) _ _ now (edited-after id given))

      pub delete-after : (id : ℕ) → After (delete rows id)
      unfolding delete
      delete-after id = either (has_post id rows.posts) _ _ (whatever _ _) now

    -- ---- and whatever options they have
    pub option-after : ((options : Named) → P (record rows { options = options })) → (name value : Text) → After (set_option rows name value)
    unfolding set_option
    option-after whatever name value = either (fits max_value value) _ _ (whatever _) now

    -- ---- and whatever plugins are active
    pub active-after : ((active : Names) → P (record rows { active = active })) → (plugins : List Shape) (name : Text) (is_active : Bool)
        → After (set_active plugins rows name is_active)
    unfolding set_active
    active-after whatever plugins name is_active = either (is_some (load_of plugins name)) _ _ (whatever _) now

    -- ---- and whatever templates they have
    module _ (whatever : (templates : Named) → P (record rows { templates = templates })) where
      stored-after : (name : Text) (body : Data) (read : Result Template TemplateFault) → After (with_template rows name body read)
      stored-after name body (Ok template) = whatever _
      stored-after name body (Err why) = now

      pub template-after : (name : Text) (body : Data) → After (set_template rows name body)
      unfolding set_template
      template-after name body =
          either (is_some (as_null body)) _ _ (either (is_template_name name) _ _ (whatever _) now) (stored-after name body (template_of name body))
