-- A command that only looks leaves the site as it is.
use Rattle.std.proofs.Common.{◌≡◌, ◌∙◌, ℕ, List, length, Option, Some, None, true, refl, ap, subst}
use Rattle.std.specs.Prelude.{nat_le}
use Rattle.std.proofs.lemmas.Bool.{cond_both}
use Rattle.hook_meaning.specs.Meaning.{Engine}
use Rattle.post_tables.specs.Rows.{Rows}
use Rattle.site_commands.specs.Asked.{Asked}
use Rattle.site_commands.specs.Asked as asked
use Rattle.site_commands.specs.Worked.{line_command}
use Rattle.site_replies.specs.Reply.{ReplyData}
use Rattle.site_program.specs.State.{State}
use Rattle.site_program.specs.Step.{step, got, carried_out, is_look, max_path, place_given, IsLeftBy, IsReply, meant, out_of_memory, by_the_database, unchanged, closed}

got_same : (engine : Engine) (calls : ℕ) (rows : Rows) (path : List ℕ) → (got engine calls rows path).0 ≡ rows
unfolding got
got_same engine calls rows path = cond_both (nat_le (length path) max_path) _ _ (λ (p : Rows × ReplyData). p.0 ≡ rows) (λ fits. refl) (λ long. refl)

carried_same : (engine : Engine) (calls : ℕ) (site : State) (command : Option Asked) → is_look command ≡ true
    → (carried_out engine calls site command).0 ≡ site
carried_same engine calls site None other = absurd (cc)
carried_same engine calls site (Some (asked.put kind status title content date)) other = absurd (cc)
carried_same engine calls site (Some (asked.edit id status title content date)) other = absurd (cc)
carried_same engine calls site (Some (asked.delete id)) other = absurd (cc)
carried_same engine calls site (Some (asked.option name value)) other = absurd (cc)
carried_same engine calls site (Some (asked.activate plugin)) other = absurd (cc)
carried_same engine calls site (Some (asked.deactivate plugin)) other = absurd (cc)
carried_same engine calls site (Some (asked.template name body)) other = absurd (cc)
carried_same engine calls site (Some (asked.import file)) other = absurd (cc)
carried_same engine calls site (Some (asked.get path)) is = ap (λ (r : Rows). record site { rows = r }) (got_same engine calls site.rows path)
carried_same engine calls site (Some (asked.begin path)) other = absurd (cc)
carried_same engine calls site (Some (asked.turns page count)) other = absurd (cc)

gives_none : (command : Option Asked) → is_look command ≡ true → place_given command ≡ None
gives_none None other = absurd (cc)
gives_none (Some (asked.put kind status title content date)) other = absurd (cc)
gives_none (Some (asked.edit id status title content date)) other = absurd (cc)
gives_none (Some (asked.delete id)) other = absurd (cc)
gives_none (Some (asked.option name value)) other = absurd (cc)
gives_none (Some (asked.activate plugin)) other = absurd (cc)
gives_none (Some (asked.deactivate plugin)) other = absurd (cc)
gives_none (Some (asked.template name body)) other = absurd (cc)
gives_none (Some (asked.import file)) other = absurd (cc)
gives_none (Some (asked.get path)) is = refl
gives_none (Some (asked.begin path)) other = absurd (cc)
gives_none (Some (asked.turns page count)) other = absurd (cc)

left_same : (old new : State) → IsLeftBy None old new → new ≡ old
left_same old new (unchanged same) = same
left_same old new (closed same) = same

pub look_same : (engine : Engine) (calls : ℕ) (old new : State) (line : List ℕ) (reply : ReplyData) → is_look (line_command line) ≡ true
    → IsReply (step engine calls) old line reply new → new ≡ old
unfolding step
look_same engine calls old new line reply looks (meant done) =
    ap (λ (p : State × ReplyData). p.0) done ∙ carried_same engine calls old (line_command line) looks
look_same engine calls old new line reply looks (out_of_memory is left) =
    left_same old new (subst (λ place. IsLeftBy place old new) (gives_none (line_command line) looks) left)
look_same engine calls old new line reply looks (by_the_database is same late) = same
