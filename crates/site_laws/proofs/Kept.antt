-- Whatever lines a site carries out, its rows stay such as a site may have.
use Rattle.std.proofs.Common.{◌≡◌, ℕ, ◌+◌, ◌≤◌, List, [], ◌∷◌, Bool, true, false, not, Option, None, Some, Result, Ok, Err, length, refl, ◌∙◌, subst, arith}
use Rattle.std.specs.Prelude.{IfSome, IfOk, is_some, nat_lt, ◌&&◌, unwrap_or, if◌then◌else◌, max}
use Rattle.std.specs.List.{AllByRecursion}
use Rattle.std.specs.FinMap.{keys}
use Rattle.std.proofs.lemmas.Bool.{and_parts, leb-true, ltb-true}
use Rattle.callback_store.specs.Shape.{Shape, load_of}
use Rattle.serde_json.specs.Data.{Data}
use Rattle.serde_json.specs.Find.{as_null}
use Rattle.serde_json.specs.Written.{compact_text}
use Rattle.plain_data.specs.Texts.{Text}
use Rattle.hook_meaning.specs.Meaning.{Engine}
use Rattle.site_records.specs.Dates.{is_post_date}
use Rattle.site_records.specs.Ids.{max_id}
use Rattle.site_records.specs.declared.post.Post.{Post}
use Rattle.site_records.specs.declared.post.PostKind.{PostKind}
use Rattle.site_records.specs.declared.post.PostStatus.{PostStatus}
use Rattle.site_records.specs.declared.post.SiteRecords.{SiteRecords}
use Rattle.post_tables.specs.Rows.{Rows, PostEdit, with_new, has_post, are_new, edited_posts, without_post, set_name}
use Rattle.site_values.specs.Limits.{max_title, max_content, max_value, fits}
use Rattle.template_trees.specs.Trees.{template_of, is_template_name}
use Rattle.template_trees.specs.declared.fault.TemplateFault.{TemplateFault}
use Rattle.template_trees.specs.declared.tree.Template.{Template}
use Rattle.site_import.specs.Walks.{Read}
use Rattle.site_import.specs.Site.{site_file_of}
use Rattle.site_edits.specs.Edits.{if_given, put, edited, edit, delete, set_option, set_active}
use Rattle.site_edits.specs.Templates.{with_template, set_template}
use Rattle.site_edits.specs.Imports.{are_known, rows_with_records, rows_after_import, import}
use Rattle.site_commands.specs.Asked.{Asked}
use Rattle.site_commands.specs.Asked as asked
use Rattle.site_commands.specs.Worked.{line_command}
use Rattle.site_replies.specs.Reply.{ReplyData}
use Rattle.site_program.specs.Requests.{Opened}
use Rattle.site_program.specs.State.{State, empty_under}
use Rattle.site_program.specs.Step.{got, begun, opened_in, turned, turned_in, carried_out, step}
use Rattle.site_program.specs.History.{site_after, rows_after}
use Rattle.site_laws.specs.Stored.{IsOptionName, IsPost, IsOption, IsTemplate, RisesFrom, AreStored}
use Rattle.site_laws.proofs.Commands.{IsAsked, line_is_asked}
use Rattle.site_laws.proofs.Entries.{none_set, none_named, all_inserted, all_removed, all_set, name_added, name_removed, names_put}
use Rattle.site_laws.proofs.Imported.{AreStorable, file_storable}
use Rattle.site_laws.proofs.Inserted.{all_with, rises_with, all_with_posts, rise_with_posts, up_with_posts, largest_up, none_at, all_filtered, rises_filtered, all_edited, rises_edited}
use Rattle.site_laws.proofs.Posts.{UpTo, more_up}
use Rattle.site_export.specs.Lines.{IsHistory}
use Rattle.site_program.proofs.Limits.{step-limit}
use Rattle.site_laws.proofs.Rebuilt.{rows-rebuilt}
use Rattle.site_laws.proofs.Shapes.{stored_template}
use Rattle.site_laws.proofs.Stages.{AreUtf8}
use Rattle.site_laws.proofs.Trees.{IsOrdered}

is_not : (b : Bool) → not b ≡ false → b ≡ true
is_not true h = refl
is_not false h = absurd (let clash : true ≡ false = h in cc)

module _ (plugins : List Shape) where
  abbrev IsKnown : Text → Type 0
  IsKnown name = is_some (load_of plugins name) ≡ true

  abbrev Keep : Rows × ReplyData → Type 0
  Keep p = AreStored plugins p.0

  chosen : (b : Bool) (p q : Rows × ReplyData) → (b ≡ true → Keep p) → (b ≡ false → Keep q) → Keep (if b then p else q)
  chosen true p q one other = one refl
  chosen false p q one other = other refl

  module _ (rows : Rows) (is : AreStored plugins rows) where
    -- ---- posts

    new_post : (p : Post) → IsPost p → p.id ≡ rows.largest + 1 → AreStored plugins (with_new p rows)
    new_post p post next =
        let up = is.given in
        let most = post.id.most in
        let low = is.most in
        record {
          posts = all_with IsPost p rows.posts post is.posts;
          rise = rises_with 0 p rows.posts (omega (arith, next)) is.rise (none_at rows.largest p.id rows.posts up (omega (arith, next)));
          given = all_with (λ q. q.id ≤ max rows.largest p.id) p rows.posts (omega arith) (more_up rows.largest (max rows.largest p.id) rows.posts (omega arith) up);
          most = omega (arith, most, low);
          options = is.options;
          templates = is.templates;
          active = is.active;
        }

    put_keeps : (kind : PostKind) (status : PostStatus) (title content date : Text) → Keep (put rows kind status title content date)
    unfolding put
    put_keeps kind status title content date =
        chosen (not (fits max_title title && fits max_content content)) _ _ (λ _. is) (λ small.
        chosen (not (is_post_date date)) _ _ (λ _. is) (λ dated.
        chosen (nat_lt rows.largest max_id) _ _ (λ below.
        let sizes = and_parts (fits max_title title) (fits max_content content) (is_not _ small) in
        let more = ltb-true rows.largest max_id below in
        new_post (record { id = rows.largest + 1; kind = kind; status = status; title = title; content = content; date = date })
        (record {
          id = record { least = omega arith; most = omega (arith, more) };
          title = leb-true (length title) max_title sizes.0;
          content = leb-true (length content) max_content sizes.1;
          date = is_not _ dated;
        }) refl)
        (λ _. is)))

    changed_posts : (ps : List Post) → AllByRecursion IsPost ps → RisesFrom 0 ps → UpTo rows.largest ps → AreStored plugins (record rows { posts = ps })
    changed_posts ps posts rise up = record {
      posts = posts;
      rise = rise;
      given = up;
      most = is.most;
      options = is.options;
      templates = is.templates;
      active = is.active;
    }

    fitting : (most : ℕ) (given : Option Text) (old : Text) → if_given (fits most) given ≡ true → length old ≤ most → length (unwrap_or given old) ≤ most
    fitting most None old h low = low
    fitting most (Some text) old h low = leb-true (length text) most h

    dating : (given : Option Text) (old : Text) → if_given is_post_date given ≡ true → is_post_date old ≡ true → is_post_date (unwrap_or given old) ≡ true
    dating None old h dated = dated
    dating (Some text) old h dated = h

    edit_keeps : (id : ℕ) (given : PostEdit) → Keep (edit rows id given)
    unfolding edit edited
    edit_keeps id given =
        chosen (not (if_given (fits max_title) given.title && if_given (fits max_content) given.content)) _ _ (λ _. is) (λ small.
        chosen (not (if_given is_post_date given.date)) _ _ (λ _. is) (λ dated.
        chosen (has_post id rows.posts) _ _ (λ _.
        let sizes = and_parts (if_given (fits max_title) given.title) (if_given (fits max_content) given.content) (is_not _ small) in
        changed_posts (edited_posts id given rows.posts)
        (all_edited id given IsPost (λ q post. record {
          id = post.id;
          title = fitting max_title given.title q.title sizes.0 post.title;
          content = fitting max_content given.content q.content sizes.1 post.content;
          date = dating given.date q.date (is_not _ dated) post.date;
        }) rows.posts is.posts)
        (rises_edited id given 0 rows.posts is.rise)
        (all_edited id given (λ q. q.id ≤ rows.largest) (λ q low. low) rows.posts is.given))
        (λ _. is)))

    delete_keeps : (id : ℕ) → Keep (delete rows id)
    unfolding delete
    delete_keeps id =
        chosen (has_post id rows.posts) _ _ (λ _.
        changed_posts (without_post id rows.posts) (all_filtered IsPost _ rows.posts is.posts) (rises_filtered _ 0 rows.posts is.rise)
        (all_filtered (λ q. q.id ≤ rows.largest) _ rows.posts is.given))
        (λ _. is)

    -- ---- names

    option_keeps : (name value : Text) → IsOptionName name → Keep (set_option rows name value)
    unfolding set_option
    option_keeps name value named =
        chosen (fits max_value value) _ _ (λ size. record {
          posts = is.posts;
          rise = is.rise;
          given = is.given;
          most = is.most;
          options = all_inserted IsOption rows.options name value is.options (record { name = named; value = leb-true (length value) max_value size });
          templates = is.templates;
          active = is.active;
        })
        (λ _. is)

    with_names : (active : Bool) (name : Text) → IsKnown name → AllByRecursion IsKnown (keys (set_name name active rows.active))
    with_names true name known = name_added IsKnown rows.active name is.active known
    with_names false name known = name_removed IsKnown rows.active name is.active

    active_keeps : (name : Text) (active : Bool) → Keep (set_active plugins rows name active)
    unfolding set_active
    active_keeps name active =
        chosen (is_some (load_of plugins name)) _ _ (λ known. record {
          posts = is.posts;
          rise = is.rise;
          given = is.given;
          most = is.most;
          options = is.options;
          templates = is.templates;
          active = with_names active name known;
        })
        (λ _. is)

    -- ---- templates

    template_keeps : (name : Text) (body : Data) → IsOrdered body → Keep (set_template rows name body)
    unfolding set_template
    template_keeps name body ordered =
        chosen (is_some (as_null body)) _ _
        (λ _. chosen (is_template_name name) _ _ (λ _. record {
          posts = is.posts;
          rise = is.rise;
          given = is.given;
          most = is.most;
          options = is.options;
          templates = all_removed IsTemplate rows.templates name is.templates;
          active = is.active;
        }) (λ _. is))
        (λ _. at (template_of name body) refl)
      where
        at : (r : Result Template TemplateFault) → template_of name body ≡ r → Keep (with_template rows name body r)
        at (Ok template) found = record {
          posts = is.posts;
          rise = is.rise;
          given = is.given;
          most = is.most;
          options = is.options;
          templates = all_inserted IsTemplate rows.templates name (compact_text body) is.templates (stored_template name body template ordered found);
          active = is.active;
        }
        at (Err why) found = is

    -- ---- an import

    all_known : (names : List Text) → are_known plugins names ≡ true → AllByRecursion IsKnown names
    all_known [] known = tt
    all_known (n ∷ ns) known = let parts = and_parts (is_some (load_of plugins n)) (are_known plugins ns) known in (parts.0, all_known ns parts.1)

    records_keep : (records : SiteRecords) → AreStorable records → are_known plugins records.active ≡ true → Keep (rows_with_records rows records)
    records_keep records are known =
        chosen (are_new records.posts rows.posts) _ _ (λ new. record {
          posts = all_with_posts IsPost records.posts rows.posts are.posts is.posts;
          rise = rise_with_posts records.posts rows.posts are.posts is.rise new;
          given = up_with_posts rows.largest records.posts rows.posts is.given;
          most = largest_up rows.largest records.posts is.most are.posts;
          options = all_set IsOption records.options rows.options are.options is.options;
          templates = all_set IsTemplate records.templates rows.templates are.templates is.templates;
          active = names_put IsKnown records.active rows.active (all_known records.active known) is.active;
        })
        (λ _. is)

    import_keeps : (site : Data) → IsOrdered site → Keep (import plugins rows site)
    unfolding import
    import_keeps site ordered = at (site_file_of site) (file_storable site ordered)
      where
        at : (r : Read SiteRecords) → IfOk r AreStorable → Keep (rows_after_import plugins rows r)
        at (Err why) are = is
        at (Ok records) are = chosen (are_known plugins records.active) _ _ (records_keep records are) (λ _. is)

module _ (engine : Engine) (calls : ℕ) where
  abbrev Stored : State → Type 0
  Stored site = AreStored engine.plugins site.rows

  got_keeps : (rows : Rows) (path : List ℕ) → AreStored engine.plugins rows → AreStored engine.plugins (got engine calls rows path).0
  unfolding got
  got_keeps rows path is = chosen engine.plugins _ _ _ (λ _. is) (λ _. is)

  begun_keeps : (site : State) (path : List ℕ) → Stored site → Stored (begun engine calls site path).0
  unfolding begun
  begun_keeps site path is = at _ _ _ _
    where
      at : (b : Bool) (place : Option ℕ) (page : Opened) (other : ReplyData) → Stored (if b then opened_in place page site else (site, other)).0
      at true None page other = is
      at true (Some n) page other = is
      at false place page other = is

  turned_keeps : (site : State) (page count : ℕ) → Stored site → Stored (turned site page count).0
  unfolding turned
  turned_keeps site page count is = at _ _
    where
      at : (place : ℕ) (page : Option Opened) → Stored (turned_in place page count site).0
      at place None = is
      at place (Some opened) = is

  command_keeps : (site : State) (command : Option Asked) → IfSome command IsAsked → Stored site → Stored (carried_out engine calls site command).0
  command_keeps site None asks is = is
  command_keeps site (Some (asked.put kind status title content date)) asks is = put_keeps engine.plugins site.rows is kind status title content date
  command_keeps site (Some (asked.edit id status title content date)) asks is = edit_keeps engine.plugins site.rows is id _
  command_keeps site (Some (asked.delete id)) asks is = delete_keeps engine.plugins site.rows is id
  command_keeps site (Some (asked.option name value)) asks is = option_keeps engine.plugins site.rows is name value asks
  command_keeps site (Some (asked.activate plugin)) asks is = active_keeps engine.plugins site.rows is plugin true
  command_keeps site (Some (asked.deactivate plugin)) asks is = active_keeps engine.plugins site.rows is plugin false
  command_keeps site (Some (asked.template name body)) asks is = template_keeps engine.plugins site.rows is name body asks
  command_keeps site (Some (asked.import file)) asks is = import_keeps engine.plugins site.rows is file asks
  command_keeps site (Some (asked.get path)) asks is = got_keeps site.rows path is
  command_keeps site (Some (asked.begin path)) asks is = begun_keeps site path is
  command_keeps site (Some (asked.turns page count)) asks is = turned_keeps site page count is

  pub step-stored : (site : State) (line : List ℕ) → AreStored engine.plugins site.rows → AreStored engine.plugins (step engine calls site line).0.rows
  unfolding step
  step-stored site line is = command_keeps site (line_command line) (line_is_asked line) is

  pub lines-stored : (site : State) (lines : List (List ℕ)) → AreStored engine.plugins site.rows
      → AreStored engine.plugins (site_after (step engine calls) site lines).rows
  lines-stored site [] is = is
  lines-stored site (line ∷ lines) is = lines-stored (step engine calls site line).0 lines (step-stored site line is)

  pub empty_stored : (limit : Option ℕ) → AreStored engine.plugins (empty_under limit).rows
  empty_stored limit = record { posts = tt; rise = tt; given = tt; most = omega arith; options = none_set IsOption; templates = none_set IsTemplate; active = none_named (IsKnown engine.plugins) }

  pub rows-stored : (limit : Option ℕ) (lines : List (List ℕ)) → AreStored engine.plugins (rows_after engine calls limit lines)
  rows-stored limit lines = lines-stored (empty_under limit) lines (empty_stored limit)

  after-limit : (site : State) (lines : List (List ℕ)) → (site_after (step engine calls) site lines).rows.step_limit ≡ site.rows.step_limit
  after-limit site [] = refl
  after-limit site (line ∷ lines) =
      let next = step engine calls site line in after-limit next.0 lines ∙ step-limit engine calls site next.0 line next.1 refl

  same_limit : (limit : Option ℕ) (rows : Rows) → rows.step_limit ≡ limit → record rows { step_limit = limit } ≡ rows
  same_limit limit rows is = subst (λ l. record rows { step_limit = l } ≡ rows) is refl

  -- short lines of the rows that lines have made
  pub rows-again : (limit : Option ℕ) (lines short : List Text) → AreUtf8 short → IsHistory (rows_after engine calls limit lines) short
      → rows_after engine calls limit short ≡ rows_after engine calls limit lines
  rows-again limit lines short utf8 history =
      let rows = rows_after engine calls limit lines in
      rows-rebuilt engine calls limit rows short (rows-stored limit lines) utf8 history ∙ same_limit limit rows (after-limit (empty_under limit) lines)
