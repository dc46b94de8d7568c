-- What an edit does rests on the rows alone, and not on the limit on steps or on the open pages. No command changes the limit.
use Rattle.std.proofs.Common.{◌≡◌, inl, inr, ℕ, ◌∙◌, Bool, List, Option, Some, None, true, false, refl, sym, subst, ap}
use Rattle.std.specs.Prelude.{is_some}
use Rattle.std.proofs.lemmas.Bool.{cases_Bool, and_left}
use Rattle.callback_store.specs.Shape.{load_of}
use Rattle.plain_data.specs.Texts.{Text}
use Rattle.hook_meaning.specs.Meaning.{Engine}
use Rattle.post_tables.specs.Rows.{Rows}
use Rattle.site_commands.specs.Asked.{Asked}
use Rattle.site_commands.specs.Asked as asked
use Rattle.site_commands.specs.Worked.{line_command}
use Rattle.site_replies.specs.Reply.{ReplyData}
use Rattle.site_edits.specs.Edits.{set_active}
use Rattle.site_edits.specs.Imports.{import}
use Rattle.site_edits.proofs.Known.{set_active-same}
use Rattle.site_edits.proofs.Known as known_plugins
use Rattle.site_edits.proofs.Limits.{limited, put-same, edit-same, delete-same, option-same, active-same, template-same, import-same}
use Rattle.site_program.specs.State.{State, Places}
use Rattle.site_program.specs.Step.{step, carried_out, is_edit, over_rows}
use Rattle.site_program.proofs.Refusals.{carried_out-keeps}

-- another site has the rows of a site, but this limit
abbrev pub Follows : Option ℕ → State → State → Type 0
Follows limit site other = other.rows ≡ limited limit site.rows

-- it goes on to do so, and replies as the site does
abbrev pub DoesTheSame : Option ℕ → (done other : State × ReplyData) → Type 0
DoesTheSame limit done other = Follows limit done.0 other.0 × (other.1 ≡ done.1)

-- Two programs may differ in their callbacks and in how many calls a page may make, if they know the same plugins.
module _ (one other : Engine) (calls more : ℕ) (limit : Option ℕ)
    (known : (name : Text) → is_some (load_of one.plugins name) ≡ is_some (load_of other.plugins name)) where
  module _ (site : State) (pages : Places) where
    abbrev copy : State
    copy = record { rows = limited limit site.rows; pages = pages }

    active-known : (plugin : Text) (active : Bool)
        → DoesTheSame limit (over_rows site (set_active one.plugins site.rows plugin active)) (over_rows copy (set_active other.plugins copy.rows plugin active))
    active-known plugin active =
        subst (λ p. DoesTheSame limit (over_rows site (set_active one.plugins site.rows plugin active)) (over_rows copy p))
        (set_active-same one.plugins other.plugins known copy.rows plugin active)
        (active-same limit site.rows one.plugins plugin active)

    pub carried_out-same : (command : Option Asked) → is_edit command ≡ true
        → DoesTheSame limit (carried_out one calls site command) (carried_out other more copy command)
    carried_out-same None none = absurd (cc)
    carried_out-same (Some (asked.put kind status title content date)) is = put-same limit site.rows kind status title content date
    carried_out-same (Some (asked.edit id status title content date)) is = edit-same limit site.rows id _
    carried_out-same (Some (asked.delete id)) is = delete-same limit site.rows id
    carried_out-same (Some (asked.option name value)) is = option-same limit site.rows name value
    carried_out-same (Some (asked.activate plugin)) is = active-known plugin true
    carried_out-same (Some (asked.deactivate plugin)) is = active-known plugin false
    carried_out-same (Some (asked.template name body)) is = template-same limit site.rows name body
    carried_out-same (Some (asked.import file)) is =
        subst (λ p. DoesTheSame limit (over_rows site (import one.plugins site.rows file)) (over_rows copy p))
        (known_plugins.import-same one.plugins other.plugins known copy.rows file)
        (import-same limit site.rows one.plugins file)
    carried_out-same (Some (asked.get path)) none = absurd (cc)
    carried_out-same (Some (asked.begin path)) none = absurd (cc)
    carried_out-same (Some (asked.turns page count)) none = absurd (cc)

  pub step-same : (site copy : State) (line : List ℕ) → is_edit (line_command line) ≡ true → Follows limit site copy
      → DoesTheSame limit (step one calls site line) (step other more copy line)
  unfolding step
  step-same site copy line stands follows =
      subst (λ (rows : Rows).
      DoesTheSame limit (carried_out one calls site (line_command line)) (carried_out other more (record copy { rows = rows }) (line_command line)))
      (sym follows) (carried_out-same site copy.pages (line_command line) stands)

carried_out-limit : (engine : Engine) (calls : ℕ) (site : State) (command : Option Asked)
    → (carried_out engine calls site command).0.rows.step_limit ≡ site.rows.step_limit
carried_out-limit engine calls site command =
    elim (cases_Bool (is_edit command)) [
      | inl edits ↦ ap (λ rows. rows.step_limit) (carried_out-same engine engine calls calls site.rows.step_limit (λ name. refl) site site.pages command edits).0
      | inr others ↦ ap (λ rows. rows.step_limit) (carried_out-keeps engine calls site command (and_left (is_edit command) _ others))
    ]

-- the rows after a command have the limit that the rows before it had
pub limit-stays : (engine : Engine) (calls : ℕ) (site new : State) (command : Option Asked) (reply : ReplyData)
    → (new, reply) ≡ carried_out engine calls site command → new.rows.step_limit ≡ site.rows.step_limit
limit-stays engine calls site new command reply done = ap (λ p. p.0.rows.step_limit) done ∙ carried_out-limit engine calls site command

-- and so have those after a line
pub step-limit : (engine : Engine) (calls : ℕ) (site new : State) (line : List ℕ) (reply : ReplyData) → (new, reply) ≡ step engine calls site line
    → new.rows.step_limit ≡ site.rows.step_limit
unfolding step
step-limit engine calls site new line reply done = limit-stays engine calls site new (line_command line) reply done
