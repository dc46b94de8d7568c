-- What lines leave, one stretch of them after another.
use Rattle.std.proofs.Common.{◌≡◌, ℕ, ◌≤◌, ◌<◌, List, [], ◌∷◌, ◌++◌, map, true, false, Some, None, refl, sym, ap, ◌∙◌, arith, append-nil, length}
use Rattle.std.specs.Prelude.{codes, is_some, max, nat_eq, if◌then◌else◌, flat_map}
use Rattle.std.specs.List.{AllByRecursion}
use Rattle.std.specs.Str.{is_utf8}
use Rattle.std.proofs.lemmas.Bool.{le-leb, eqb-true}
use Rattle.std.proofs.lemmas.List.{append_assoc}
use Rattle.plain_data.specs.Texts.{Text}
use Rattle.callback_store.specs.Shape.{load_of}
use Rattle.hook_meaning.specs.Meaning.{Engine}
use Rattle.site_records.specs.declared.post.Post.{Post}
use Rattle.post_tables.specs.Rows.{Rows, PostEdit, set_all, put_all, largest_of, edited_post}
use Rattle.site_values.specs.Limits.{max_title, max_content}
use Rattle.site_commands.specs.Asked.{Asked}
use Rattle.site_commands.specs.Asked as asked
use Rattle.site_commands.specs.Worked.{line_command}
use Rattle.site_edits.specs.Edits.{edit, edited, set_option, set_active}
use Rattle.site_replies.specs.Reply.{ReplyData, done}
use Rattle.site_export.specs.Lines.{import_line, option_line, template_line, activate_line, edit_line, edit_lines, apart, bare, batch_lines, fits}
use Rattle.site_program.specs.State.{State}
use Rattle.site_program.specs.Step.{step, carried_out}
use Rattle.site_program.specs.History.{site_after}
use Rattle.site_serving.proofs.Histories.{state_after-append}
use Rattle.site_laws.specs.Stored.{IsId, IsPost, IsOption, IsTemplate, RisesFrom}
use Rattle.site_laws.proofs.Readings.{activate-is, option-is, title-is, content-is}
use Rattle.site_laws.proofs.Imports.{import-is, import-does, few_fit}
use Rattle.site_laws.proofs.Templates.{template-is, template-does}
use Rattle.site_laws.proofs.Posts.{UpTo, more_up, up_append, put_lasts, new_lasts, edited_last, has_last, largest_append, all_first, all_later, last_of, rise_first, rise_later, last_above, all_up}

abbrev pub AreUtf8 : List Text → Type 0
AreUtf8 lines = AllByRecursion (λ l. is_utf8 l ≡ true) lines

pub utf8_first : (xs ys : List Text) → AreUtf8 (xs ++ ys) → AreUtf8 xs
utf8_first [] ys all = tt
utf8_first (x ∷ xs) ys all = (all.0, utf8_first xs ys all.1)

pub utf8_later : (xs ys : List Text) → AreUtf8 (xs ++ ys) → AreUtf8 ys
utf8_later [] ys all = all
utf8_later (x ∷ xs) ys all = utf8_later xs ys all.1

module _ (engine : Engine) (calls : ℕ) where
  abbrev steps : State → List ℕ → State × ReplyData
  steps = step engine calls

  -- the site with other rows
  abbrev pub over : State → Rows → State
  over site rows = record site { rows = rows }

  pub step-is : (site : State) (line : Text) (what : Asked) → line_command line ≡ Some what → steps site line ≡ carried_out engine calls site (Some what)
  unfolding step
  step-is site line what is = ap (carried_out engine calls site) is

  -- a line that leaves these rows, and then others
  pub one_more : (site : State) (rows : Rows) (line : Text) (lines : List Text) (reply : ReplyData) → steps site line ≡ (over site rows, reply)
      → site_after steps site (line ∷ lines) ≡ site_after steps (over site rows) lines
  one_more site rows line lines reply is = ap (λ p. site_after steps p.0 lines) is

  -- ---- options, templates and plugins

  option_step : (site : State) (e : Text × Text) → IsOption e → is_utf8 (option_line e) ≡ true
      → steps site (option_line e) ≡ (over site (record site.rows { options = set_all (e ∷ []) site.rows.options }), done)
  unfolding set_option
  option_step site e is utf8 = step-is site (option_line e) (asked.option e.0 e.1) (option-is e.0 e.1 is.name utf8) ∙ rw (le-leb _ _ is.value) refl

  pub options-after : (site : State) (es : List (Text × Text)) → AllByRecursion IsOption es → AreUtf8 (map option_line es)
      → site_after steps site (map option_line es) ≡ over site (record site.rows { options = set_all es site.rows.options })
  options-after site [] all utf8 = refl
  options-after site (e ∷ es) all utf8 =
      let rows : Rows = record site.rows { options = set_all (e ∷ []) site.rows.options } in
      one_more site rows (option_line e) (map option_line es) done (option_step site e all.0 utf8.0)
      ∙ options-after (over site rows) es all.1 utf8.1

  template_step : (site : State) (e : Text × Text) → IsTemplate e → is_utf8 (template_line e) ≡ true
      → steps site (template_line e) ≡ (over site (record site.rows { templates = set_all (e ∷ []) site.rows.templates }), done)
  template_step site e is utf8 =
      step-is site (template_line e) (asked.template e.0 is.body) (template-is e.0 e.1 is utf8)
      ∙ ap (λ p. (over site p.0, p.1)) (template-does site.rows e.0 e.1 is)

  pub templates-after : (site : State) (es : List (Text × Text)) → AllByRecursion IsTemplate es → AreUtf8 (map template_line es)
      → site_after steps site (map template_line es) ≡ over site (record site.rows { templates = set_all es site.rows.templates })
  templates-after site [] all utf8 = refl
  templates-after site (e ∷ es) all utf8 =
      let rows : Rows = record site.rows { templates = set_all (e ∷ []) site.rows.templates } in
      one_more site rows (template_line e) (map template_line es) done (template_step site e all.0 utf8.0)
      ∙ templates-after (over site rows) es all.1 utf8.1

  active_step : (site : State) (name : Text) → is_some (load_of engine.plugins name) ≡ true → is_utf8 (activate_line name) ≡ true
      → steps site (activate_line name) ≡ (over site (record site.rows { active = put_all (name ∷ []) site.rows.active }), done)
  unfolding set_active
  active_step site name known utf8 = step-is site (activate_line name) (asked.activate name) (activate-is name utf8) ∙ rw known refl

  pub active-after : (site : State) (names : List Text) → AllByRecursion (λ name. is_some (load_of engine.plugins name) ≡ true) names
      → AreUtf8 (map activate_line names)
      → site_after steps site (map activate_line names) ≡ over site (record site.rows { active = put_all names site.rows.active })
  active-after site [] all utf8 = refl
  active-after site (name ∷ names) all utf8 =
      let rows : Rows = record site.rows { active = put_all (name ∷ []) site.rows.active } in
      one_more site rows (activate_line name) (map activate_line names) done (active_step site name all.0 utf8.0)
      ∙ active-after (over site rows) names all.1 utf8.1

  -- ---- posts

  -- the rows with further posts
  abbrev pub more_posts : Rows → List Post → Rows
  more_posts rows ps = record rows { posts = rows.posts ++ ps; largest = largest_of ps rows.largest }

  pub import_step : (site : State) (n : ℕ) (ps : List Post) → AllByRecursion IsPost ps → length ps ≤ 10000 → UpTo n site.rows.posts → RisesFrom n ps
      → is_utf8 (import_line ps) ≡ true → steps site (import_line ps) ≡ (over site (more_posts site.rows ps), done)
  import_step site n ps all few up rises utf8 =
      step-is site (import_line ps) _ (import-is ps all utf8)
      ∙ ap (λ p. (over site p.0, p.1)) (import-does engine.plugins site.rows ps all few (new_lasts n ps site.rows.posts up rises))
      ∙ ap (λ posts. (over site (record site.rows { posts = posts; largest = largest_of ps site.rows.largest }), done)) (put_lasts n ps site.rows.posts up rises)

  -- ---- a post whose texts come by lines of their own

  -- the rows whose last post is this one
  abbrev pub ending : Rows → List Post → Post → Rows
  ending rows before p = record rows { posts = before ++ p ∷ [] }

  edit_does : (site : State) (n : ℕ) (before : List Post) (p : Post) (given : PostEdit) → UpTo n before → n < p.id
      → edited (ending site.rows before p) p.id given ≡ (ending site.rows before (edited_post given p), done)
  unfolding edited
  edit_does site n before p given up above =
      rw (has_last p before) (ap (λ posts. (record site.rows { posts = posts }, done)) (edited_last n given p before up above))

  title_step : (site : State) (n : ℕ) (before : List Post) (p : Post) (text : Text) → UpTo n before → n < p.id → IsId p.id → length text ≤ max_title
      → is_utf8 (edit_line p.id (codes "title") text) ≡ true
      → steps (over site (ending site.rows before p)) (edit_line p.id (codes "title") text)
      ≡ (over site (ending site.rows before (record p { title = text })), done)
  unfolding edit
  title_step site n before p text up above id short utf8 =
      step-is (over site (ending site.rows before p)) (edit_line p.id (codes "title") text) (asked.edit p.id None (Some text) None None) (title-is p.id text id utf8)
      ∙ rw (le-leb _ _ short)
      (ap (λ q. (over site q.0, q.1)) (edit_does site n before p (record { status = None; title = Some text; content = None; date = None }) up above))

  content_step : (site : State) (n : ℕ) (before : List Post) (p : Post) (text : Text) → UpTo n before → n < p.id → IsId p.id → length text ≤ max_content
      → is_utf8 (edit_line p.id (codes "content") text) ≡ true
      → steps (over site (ending site.rows before p)) (edit_line p.id (codes "content") text)
      ≡ (over site (ending site.rows before (record p { content = text })), done)
  unfolding edit
  content_step site n before p text up above id short utf8 =
      step-is (over site (ending site.rows before p)) (edit_line p.id (codes "content") text) (asked.edit p.id None None (Some text) None)
      (content-is p.id text id utf8)
      ∙ rw (le-leb _ _ short)
      (ap (λ q. (over site q.0, q.1)) (edit_does site n before p (record { status = None; title = None; content = Some text; date = None }) up above))

  empty_text : (text : Text) → nat_eq (length text) 0 ≡ true → text ≡ []
  empty_text [] is = refl
  empty_text (x ∷ xs) is = absurd (let none = eqb-true (length (x ∷ xs)) 0 is in omega (arith, none))

  title_after : (site : State) (n : ℕ) (before : List Post) (p : Post) (text : Text) → UpTo n before → n < p.id → IsId p.id → length text ≤ max_title
      → p.title ≡ [] → AreUtf8 (edit_lines p.id (codes "title") text)
      → site_after steps (over site (ending site.rows before p)) (edit_lines p.id (codes "title") text)
      ≡ over site (ending site.rows before (record p { title = text }))
  title_after site n before p text up above id short none =
      elim (nat_eq (length text) 0) as (λ b. nat_eq (length text) 0 ≡ b → AreUtf8 (if b then [] else edit_line p.id (codes "title") text ∷ [])
      → site_after steps (over site (ending site.rows before p)) (if b then [] else edit_line p.id (codes "title") text ∷ [])
      ≡ over site (ending site.rows before (record p { title = text }))) [
        | true ↦ λ is utf8. ap (λ title. over site (ending site.rows before (record p { title = title }))) (none ∙ sym (empty_text text is))
        | false ↦ λ is utf8. ap (λ q. q.0) (title_step site n before p text up above id short utf8.0)
      ] refl

  content_after : (site : State) (n : ℕ) (before : List Post) (p : Post) (text : Text) → UpTo n before → n < p.id → IsId p.id → length text ≤ max_content
      → p.content ≡ [] → AreUtf8 (edit_lines p.id (codes "content") text)
      → site_after steps (over site (ending site.rows before p)) (edit_lines p.id (codes "content") text)
      ≡ over site (ending site.rows before (record p { content = text }))
  content_after site n before p text up above id short none =
      elim (nat_eq (length text) 0) as (λ b. nat_eq (length text) 0 ≡ b → AreUtf8 (if b then [] else edit_line p.id (codes "content") text ∷ [])
      → site_after steps (over site (ending site.rows before p)) (if b then [] else edit_line p.id (codes "content") text ∷ [])
      ≡ over site (ending site.rows before (record p { content = text }))) [
        | true ↦ λ is utf8. ap (λ content. over site (ending site.rows before (record p { content = content }))) (none ∙ sym (empty_text text is))
        | false ↦ λ is utf8. ap (λ q. q.0) (content_step site n before p text up above id short utf8.0)
      ] refl

  bare_is : (p : Post) → IsPost p → IsPost (bare p)
  bare_is p is = record { id = is.id; title = omega arith; content = omega arith; date = is.date }

  apart_after : (site : State) (n : ℕ) (p : Post) → IsPost p → UpTo n site.rows.posts → n < p.id → AreUtf8 (apart p)
      → site_after steps site (apart p) ≡ over site (more_posts site.rows (p ∷ []))
  apart_after site n p is up above utf8 =
      let imported = more_posts site.rows (bare p ∷ []) in
      let titles = edit_lines p.id (codes "title") p.title in
      let contents = edit_lines p.id (codes "content") p.content in
      let titled = over site imported in
      one_more site imported (import_line (bare p ∷ [])) (titles ++ contents) done
      (import_step site n (bare p ∷ []) (bare_is p is, tt) (omega arith) up (above, tt) utf8.0)
      ∙ state_after-append steps titled titles contents
      ∙ ap (λ later. site_after steps later contents)
      (title_after titled n site.rows.posts (bare p) p.title up above is.id is.title refl (utf8_first titles contents utf8.1))
      ∙ content_after titled n site.rows.posts (record (bare p) { title = p.title }) p.content up above is.id is.content refl
      (utf8_later titles contents utf8.1)

  aparts_after : (site : State) (n : ℕ) (ps : List Post) → AllByRecursion IsPost ps → UpTo n site.rows.posts → RisesFrom n ps → AreUtf8 (flat_map apart ps)
      → site_after steps site (flat_map apart ps) ≡ over site (more_posts site.rows ps)
  aparts_after site n [] all up rises utf8 = ap (λ posts. over site (record site.rows { posts = posts })) (sym (append-nil site.rows.posts))
  aparts_after site n (p ∷ ps) all up rises utf8 =
      let next = over site (more_posts site.rows (p ∷ [])) in
      state_after-append steps site (apart p) (flat_map apart ps)
      ∙ ap (λ later. site_after steps later (flat_map apart ps)) (apart_after site n p all.0 up rises.0 (utf8_first (apart p) (flat_map apart ps) utf8))
      ∙ aparts_after next p.id ps all.1 (up_next n p site.rows.posts up rises.0) rises.1 (utf8_later (apart p) (flat_map apart ps) utf8)
      ∙ ap (λ posts. over site (record site.rows { posts = posts; largest = largest_of ps (max site.rows.largest p.id) })) (append_assoc site.rows.posts (p ∷ []) ps)
    where
      up_next : (n : ℕ) (p : Post) (before : List Post) → UpTo n before → n < p.id → UpTo p.id (before ++ p ∷ [])
      up_next n p before up above = up_append p.id before (p ∷ []) (more_up n p.id before (omega (arith, above)) up) (omega arith, tt)

  batch_after : (site : State) (n : ℕ) (ps : List Post) → AllByRecursion IsPost ps → UpTo n site.rows.posts → RisesFrom n ps → AreUtf8 (batch_lines ps)
      → site_after steps site (batch_lines ps) ≡ over site (more_posts site.rows ps)
  batch_after site n ps all up rises =
      elim (fits ps) as (λ b. fits ps ≡ b → AreUtf8 (if b then import_line ps ∷ [] else flat_map apart ps)
      → site_after steps site (if b then import_line ps ∷ [] else flat_map apart ps) ≡ over site (more_posts site.rows ps)) [
        | true ↦ λ is utf8. ap (λ p. p.0) (import_step site n ps all (few_fit ps is) up rises utf8.0)
        | false ↦ λ is utf8. aparts_after site n ps all up rises utf8
      ] refl

  pub batches_after : (site : State) (n : ℕ) (bs : List (List Post)) → AllByRecursion IsPost (flat_map (λ b. b) bs) → UpTo n site.rows.posts
      → RisesFrom n (flat_map (λ b. b) bs)
      → AreUtf8 (flat_map batch_lines bs)
      → site_after steps site (flat_map batch_lines bs) ≡ over site (more_posts site.rows (flat_map (λ b. b) bs))
  batches_after site n [] all up rises utf8 = ap (λ posts. over site (record site.rows { posts = posts })) (sym (append-nil site.rows.posts))
  batches_after site n (b ∷ bs) all up rises utf8 =
      let later = flat_map (λ b. b) bs in
      let next = over site (more_posts site.rows b) in
      let last = last_of n b in
      state_after-append steps site (batch_lines b) (flat_map batch_lines bs)
      ∙ ap (λ s. site_after steps s (flat_map batch_lines bs))
      (batch_after site n b (all_first b later all) up (rise_first n b later rises) (utf8_first (batch_lines b) (flat_map batch_lines bs) utf8))
      ∙ batches_after next last bs (all_later b later all)
      (up_append last site.rows.posts b (more_up n last site.rows.posts (last_above n b (rise_first n b later rises)) up) (all_up n b (rise_first n b later rises)))
      (rise_later n b later rises) (utf8_later (batch_lines b) (flat_map batch_lines bs) utf8)
      ∙ ap (λ posts. over site (record site.rows { posts = posts; largest = largest_of later (largest_of b site.rows.largest) })) (append_assoc site.rows.posts b later)
      ∙ ap (λ largest. over site (record site.rows { posts = site.rows.posts ++ (b ++ later); largest = largest })) (sym (largest_append site.rows.largest b later))
