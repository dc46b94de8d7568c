-- All short lines, carried out by an empty site.
use Rattle.std.proofs.Common.{◌≡◌, inl, inr, ℕ, ◌≤◌, ◌==◌, List, [], ◌∷◌, ◌++◌, map, Bool, true, false, not, Option, refl, sym, ap, ◌∙◌, subst, arith}
use Rattle.std.specs.Prelude.{codes, is_some, nat_lt, filter, if◌then◌else◌, ◌&&◌, flat_map}
use Rattle.std.specs.List.{AllByRecursion}
use Rattle.std.specs.Str.{is_utf8}
use Rattle.std.specs.FinMap.{entries, keys}
use Rattle.std.proofs.lemmas.Bool.{cases_Bool, and_parts, lt-ltb, ltb-true, ltb-false, eq-eqb}
use Rattle.callback_store.proofs.Mapped.{is_some-find}
use Rattle.plain_data.specs.Texts.{Text}
use Rattle.hook_meaning.specs.Meaning.{Engine}
use Rattle.site_records.specs.Dates.{is_post_date}
use Rattle.site_records.specs.Ids.{max_id}
use Rattle.site_records.specs.declared.post.Post.{Post}
use Rattle.post_tables.specs.Rows.{Rows, largest_of, post_with}
use Rattle.site_commands.specs.Asked as asked
use Rattle.site_edits.specs.Edits.{delete}
use Rattle.site_replies.specs.Reply.{done}
use Rattle.site_export.specs.Lines.{IsHistory, gone, gone_lines, import_line, delete_line, batch_lines, option_line, template_line, activate_line}
use Rattle.site_program.specs.State.{State, empty_under}
use Rattle.site_program.specs.Step.{step}
use Rattle.site_program.specs.History.{site_after}
use Rattle.site_serving.proofs.Histories.{state_after-append}
use Rattle.site_laws.specs.Stored.{IsId, IsPost, AreStored, RisesFrom}
use Rattle.site_laws.proofs.Readings.{delete-is}
use Rattle.site_laws.proofs.Maps.{set-again, put-again}
use Rattle.site_laws.proofs.Posts.{UpTo, largest_stays, largest_reached}
use Rattle.site_laws.proofs.Stages.{AreUtf8, utf8_first, utf8_later, over, more_posts, step-is, one_more, import_step, batches_after, options-after, templates-after, active-after}

all_above : (n : ℕ) (ps : List Post) → RisesFrom n ps → filter (λ p. nat_lt 0 p.id) ps ≡ ps
all_above n [] rises = refl
all_above n (p ∷ ps) rises = let first = rises.0 in rw (lt-ltb 0 p.id (omega (arith, first))) (ap (λ l. p ∷ l) (all_above p.id ps rises.1))

gone_date : is_post_date (codes "2000-01-01 00:00:00") ≡ true
unfolding is_post_date
gone_date = refl

gone_is : (id : ℕ) → IsId id → IsPost (gone id)
gone_is id is = record { id = is; title = omega arith; content = omega arith; date = gone_date }

-- whether the largest ID has no post any more
abbrev is_gone : Rows → Bool
is_gone rows = nat_lt 0 rows.largest && not (is_some (post_with rows.largest rows.posts))

-- the largest ID once it was given to a post that is gone, if it was
abbrev given_by : Bool → ℕ → ℕ
given_by b largest = if b then largest else 0

largest_is : (rows : Rows) → RisesFrom 0 rows.posts → UpTo rows.largest rows.posts → (b : Bool) → is_gone rows ≡ b
    → largest_of rows.posts (given_by b rows.largest) ≡ rows.largest
largest_is rows rises up true is = largest_stays rows.largest rows.posts up
largest_is rows rises up false is =
    elim (cases_Bool (nat_lt 0 rows.largest)) [
      | inl some ↦
          let there : is_some (post_with rows.largest rows.posts) ≡ true = found (is_some (post_with rows.largest rows.posts)) (sym (ap (λ b. b && not (is_some (post_with rows.largest rows.posts))) some) ∙ is) in
          largest_reached 0 rows.largest rows.posts (omega arith) up (sym (is_some-find (λ q. q.id == rows.largest) rows.posts) ∙ there)
      | inr none ↦ nothing rows.posts rises up (let zero = ltb-false 0 rows.largest none in omega (arith, zero))
    ]
  where
    found : (b : Bool) → not b ≡ false → b ≡ true
    found true h = refl
    found false h = absurd (let clash : true ≡ false = h in cc)

    nothing : (ps : List Post) → RisesFrom 0 ps → UpTo rows.largest ps → rows.largest ≡ 0 → largest_of ps 0 ≡ rows.largest
    nothing [] rises up zero = sym zero
    nothing (p ∷ ps) rises up zero = absurd (let first = rises.0 in let most = up.0 in omega (arith, first, most, zero))

module _ (engine : Engine) (calls : ℕ) (limit : Option ℕ) where
  abbrev start : State
  start = empty_under limit

  abbrev given : ℕ → State
  given largest = over engine calls start (record start.rows { largest = largest })

  deleted : (id : ℕ) → IsId id → is_utf8 (delete_line id) ≡ true
      → step engine calls (over engine calls start (more_posts engine calls start.rows (gone id ∷ []))) (delete_line id) ≡ (given id, done)
  unfolding delete
  deleted id is utf8 =
      step-is engine calls (over engine calls start (more_posts engine calls start.rows (gone id ∷ []))) (delete_line id) (asked.delete id) (delete-is id is utf8)
      ∙ rw (eq-eqb id id refl) (ap (λ largest. (given largest, done)) (omega arith))

  gone_after : (rows : Rows) → rows.largest ≤ max_id → (b : Bool) → is_gone rows ≡ b
      → AreUtf8 (if b then import_line (gone rows.largest ∷ []) ∷ delete_line rows.largest ∷ [] else [])
      → site_after (step engine calls) start (if b then import_line (gone rows.largest ∷ []) ∷ delete_line rows.largest ∷ [] else [])
      ≡ given (given_by b rows.largest)
  gone_after rows most false is utf8 = refl
  gone_after rows most true is utf8 =
      let some = ltb-true 0 rows.largest (and_parts (nat_lt 0 rows.largest) _ is).0 in
      let id : IsId rows.largest = record { least = omega (arith, some); most = most } in
      one_more engine calls start (more_posts engine calls start.rows (gone rows.largest ∷ [])) (import_line (gone rows.largest ∷ [])) (delete_line rows.largest ∷ []) done
      (import_step engine calls start 0 (gone rows.largest ∷ []) (gone_is rows.largest id, tt) (omega arith) tt (omega (arith, some), tt) utf8.0)
      ∙ ap (λ p. p.0) (deleted rows.largest id utf8.1.0)

  pub rows-rebuilt : (rows : Rows) (lines : List Text) → AreStored engine.plugins rows → AreUtf8 lines → IsHistory rows lines
      → (site_after (step engine calls) start lines).rows ≡ record rows { step_limit = limit }
  rows-rebuilt rows lines stored utf8 history =
      let steps = step engine calls in
      let bs = history.batches in
      let ps : flat_map (λ b. b) bs ≡ rows.posts = history.posts_are ∙ all_above 0 rows.posts stored.rise in
      let gones = gone_lines rows in
      let posts = flat_map batch_lines bs in
      let options = map option_line (entries rows.options) in
      let templates = map template_line (entries rows.templates) in
      let actives = map activate_line (keys rows.active) in
      let whole : AreUtf8 ((((gones ++ posts) ++ options) ++ templates) ++ actives) = subst AreUtf8 history.lines_are utf8 in
      let four = utf8_first (((gones ++ posts) ++ options) ++ templates) actives whole in
      let three = utf8_first ((gones ++ posts) ++ options) templates four in
      let two = utf8_first (gones ++ posts) options three in
      let first = given (given_by (is_gone rows) rows.largest) in
      let all : AllByRecursion IsPost (flat_map (λ b. b) bs) = subst (λ l. AllByRecursion IsPost l) (sym ps) stored.posts in
      let rises : RisesFrom 0 (flat_map (λ b. b) bs) = subst (RisesFrom 0) (sym ps) stored.rise in
      let posted = over engine calls start (record start.rows { posts = rows.posts; largest = rows.largest }) in
      let with_options = over engine calls posted (record posted.rows { options = rows.options }) in
      let with_templates = over engine calls posted (record posted.rows { options = rows.options; templates = rows.templates }) in
      ap (λ ls. (site_after steps start ls).rows) history.lines_are
      ∙ ap (λ s. s.rows) (state_after-append steps start (((gones ++ posts) ++ options) ++ templates) actives
      ∙ ap (λ s. site_after steps s actives) (state_after-append steps start ((gones ++ posts) ++ options) templates
      ∙ ap (λ s. site_after steps s templates) (state_after-append steps start (gones ++ posts) options
      ∙ ap (λ s. site_after steps s options) (state_after-append steps start gones posts
      ∙ ap (λ s. site_after steps s posts) (gone_after rows stored.most (is_gone rows) refl (utf8_first gones posts two))
      ∙ batches_after engine calls first 0 bs all tt rises (utf8_later gones posts two)
      ∙ ap (λ l. over engine calls start (record start.rows { posts = l; largest = largest_of l (given_by (is_gone rows) rows.largest) })) ps
      ∙ ap (λ largest. over engine calls start (record start.rows { posts = rows.posts; largest = largest })) (largest_is rows stored.rise stored.given (is_gone rows) refl))
      ∙ options-after engine calls posted (entries rows.options) stored.options (utf8_later (gones ++ posts) options three)
      ∙ ap (λ m. over engine calls posted (record posted.rows { options = m })) (set-again rows.options))
      ∙ templates-after engine calls with_options (entries rows.templates) stored.templates (utf8_later ((gones ++ posts) ++ options) templates four)
      ∙ ap (λ m. over engine calls with_options (record with_options.rows { templates = m })) (set-again rows.templates))
      ∙ active-after engine calls with_templates (keys rows.active) stored.active (utf8_later (((gones ++ posts) ++ options) ++ templates) actives whole)
      ∙ ap (λ m. over engine calls with_templates (record with_templates.rows { active = m })) (put-again rows.active))
