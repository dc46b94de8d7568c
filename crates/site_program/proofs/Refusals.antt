-- Only an edit that is done changes rows.
use Rattle.std.proofs.Common.{◌≡◌, ℕ, ◌∙◌, List, Option, Some, None, false, subst, ap, refl, length}
use Rattle.std.specs.Prelude.{◌&&◌, nat_le}
use Rattle.std.proofs.lemmas.Bool.{and_right, cond_both}
use Rattle.hook_meaning.specs.Meaning.{Engine}
use Rattle.post_tables.specs.Rows.{Rows}
use Rattle.site_commands.specs.Asked.{Asked}
use Rattle.site_commands.specs.Asked as asked
use Rattle.site_commands.specs.Worked.{line_command}
use Rattle.site_replies.specs.declared.reply.Refusal.{Refusal}
use Rattle.site_replies.specs.Reply.{ReplyData, refused}
use Rattle.site_edits.specs.Late.{is_done}
use Rattle.site_edits.proofs.Refusals.{put-keeps, edit-keeps, delete-keeps, option-keeps, active-keeps, template-keeps, import-keeps}
use Rattle.site_program.specs.Requests.{Opened}
use Rattle.site_program.specs.State.{State}
use Rattle.site_program.specs.Step.{step, got, begun, opened_in, turned, turned_in, carried_out, is_edit, max_path}

-- a page changes no row
pub got-rows : (engine : Engine) (calls : ℕ) (rows : Rows) (path : List ℕ) → (got engine calls rows path).0 ≡ rows
unfolding got
got-rows engine calls rows path = cond_both (nat_le (length path) max_path) _ _ (λ (p : Rows × ReplyData). p.0 ≡ rows) (λ fits. refl) (λ long. refl)

-- open pages are no rows
opened_in-rows : (site : State) (place : Option ℕ) (page : Opened) → (opened_in place page site).0.rows ≡ site.rows
opened_in-rows site None page = refl
opened_in-rows site (Some place) page = refl

pub begun-rows : (engine : Engine) (calls : ℕ) (site : State) (path : List ℕ) → (begun engine calls site path).0.rows ≡ site.rows
unfolding begun
begun-rows engine calls site path =
    cond_both (nat_le (length path) max_path) _ _ (λ (p : State × ReplyData). p.0.rows ≡ site.rows) (λ fits. opened_in-rows site _ _) (λ long. refl)

turned_in-rows : (place : ℕ) (page : Option Opened) (count : ℕ) (site : State) → (turned_in place page count site).0.rows ≡ site.rows
turned_in-rows place None count site = refl
turned_in-rows place (Some page) count site = refl

pub turned-rows : (site : State) (page count : ℕ) → (turned site page count).0.rows ≡ site.rows
unfolding turned
turned-rows site page count = turned_in-rows _ _ count site

pub carried_out-keeps : (engine : Engine) (calls : ℕ) (site : State) (command : Option Asked)
    → (is_edit command && is_done (carried_out engine calls site command).1) ≡ false → (carried_out engine calls site command).0.rows ≡ site.rows
carried_out-keeps engine calls site None = λ is. refl
carried_out-keeps engine calls site (Some (asked.put kind status title content date)) = put-keeps site.rows kind status title content date
carried_out-keeps engine calls site (Some (asked.edit id status title content date)) = edit-keeps site.rows id _
carried_out-keeps engine calls site (Some (asked.delete id)) = delete-keeps site.rows id
carried_out-keeps engine calls site (Some (asked.option name value)) = option-keeps site.rows name value
carried_out-keeps engine calls site (Some (asked.activate plugin)) = active-keeps engine.plugins site.rows plugin _
carried_out-keeps engine calls site (Some (asked.deactivate plugin)) = active-keeps engine.plugins site.rows plugin _
carried_out-keeps engine calls site (Some (asked.template name body)) = template-keeps site.rows name body
carried_out-keeps engine calls site (Some (asked.import file)) = import-keeps engine.plugins site.rows file
carried_out-keeps engine calls site (Some (asked.get path)) = λ is. got-rows engine calls site.rows path
carried_out-keeps engine calls site (Some (asked.begin path)) = λ is. begun-rows engine calls site path
carried_out-keeps engine calls site (Some (asked.turns page count)) = λ is. turned-rows site page count

-- a line keeps the rows unless it is an edit and its step is done
pub step-keeps : (engine : Engine) (calls : ℕ) (site new : State) (line : List ℕ) (reply : ReplyData) → (new, reply) ≡ step engine calls site line
    → (is_edit (line_command line) && is_done reply) ≡ false → new.rows ≡ site.rows
unfolding step
step-keeps engine calls site new line reply done is =
    ap (λ p. p.0.rows) done
    ∙ carried_out-keeps engine calls site (line_command line) (subst (λ r. (is_edit (line_command line) && is_done r) ≡ false) (ap (λ p. p.1) done) is)

-- a command that is refused keeps them
pub carried_out-refused : (engine : Engine) (calls : ℕ) (site new : State) (command : Option Asked) (reply : ReplyData) (r : Refusal)
    → (new, reply) ≡ carried_out engine calls site command → reply ≡ refused r → new.rows ≡ site.rows
carried_out-refused engine calls site new command reply r done is =
    ap (λ p. p.0.rows) done
    ∙ carried_out-keeps engine calls site command (subst (λ x. (is_edit command && is_done x) ≡ false) (ap (λ p. p.1) done)
    (and_right (is_edit command) _ (ap is_done is)))
