-- No line changes an open page but one that gives it turns.
use Rattle.std.proofs.Common.{◌≡◌, ◌≢◌, ℕ, ◌-◌, List, [], ◌∷◌, ◌∙◌, Option, Some, None, true, false, refl, sym, subst, ap, length}
use Rattle.std.specs.Prelude.{nat_le, is_none, position, All}
use Rattle.std.proofs.lemmas.Bool.{cond_both}
use Rattle.std.proofs.lemmas.List.{get_or-set_other}
use Rattle.std.proofs.lemmas.List.Elements.{All-head, All-tail}
use Rattle.std.proofs.lemmas.List.Quantifiers.{position-Some}
use Rattle.hook_meaning.specs.Meaning.{Engine}
use Rattle.site_commands.specs.Asked.{Asked}
use Rattle.site_commands.specs.Asked as asked
use Rattle.site_commands.specs.Worked.{line_command}
use Rattle.site_replies.specs.Reply.{ReplyData}
use Rattle.site_program.specs.Requests.{Opened}
use Rattle.site_program.specs.State.{State, page_in, with_page, without_page}
use Rattle.site_program.specs.Step.{step, begun, opened_in, turned, turned_in, carried_out, place_given, place_turned, max_path, IsReply, meant, out_of_memory, by_the_database, unchanged, closed}
use Rattle.site_program.specs.Serving.{IsReplies}

module _ (place : ℕ) (page : Opened) where
  -- the page is open in its place
  abbrev Stays : State → Type 0
  Stays site = page_in place site.pages ≡ Some page

  -- what is put into another place leaves it
  with_page-stays : (site : State) (other : ℕ) (put : Option Opened) → Stays site → place ≢ other → Stays (with_page site other put)
  with_page-stays site other put is_open differ = get_or-set_other site.pages other place put None differ ∙ is_open

  without_page-stays : (site : State) (other : Option ℕ) → Stays site → other ≢ Some place → Stays (without_page other site)
  without_page-stays site None is_open differ = is_open
  without_page-stays site (Some other) is_open differ = with_page-stays site other None is_open (λ e. differ (ap Some (sym e)))

  -- its place isn't free
  taken : (site : State) (free : ℕ) → Stays site → position is_none site.pages ≡ Some free → place ≢ free
  taken site free is_open is = λ e.
      let none : is_none (page_in free site.pages) ≡ true = (position-Some is_none site.pages free None is).1 in
      let some : is_none (page_in free site.pages) ≡ false = rw (← e, is_open) refl in
      let clash : true ≡ false = sym none ∙ some in
      absurd (cc)

  opened_in-stays : (site : State) (free : Option ℕ) (opened : Opened) → Stays site → position is_none site.pages ≡ free → Stays (opened_in free opened site).0
  opened_in-stays site None opened is_open is = is_open
  opened_in-stays site (Some free) opened is_open is = with_page-stays site free (Some opened) is_open (taken site free is_open is)

  begun-stays : (engine : Engine) (calls : ℕ) (site : State) (path : List ℕ) → Stays site → Stays (begun engine calls site path).0
  unfolding begun
  begun-stays engine calls site path is_open =
      cond_both (nat_le (length path) max_path) _ _ (λ (p : State × ReplyData). Stays p.0) (λ fits. opened_in-stays site _ _ is_open refl) (λ long. is_open)

  turned_in-stays : (site : State) (other : ℕ) (found : Option Opened) (count : ℕ) → Stays site → place ≢ other → Stays (turned_in other found count site).0
  turned_in-stays site other None count is_open differ = is_open
  turned_in-stays site other (Some found) count is_open differ = with_page-stays site other _ is_open differ

  turned-stays : (site : State) (number count : ℕ) → Stays site → place ≢ number - 1 → Stays (turned site number count).0
  unfolding turned
  turned-stays site number count is_open differ = turned_in-stays site (number - 1) _ count is_open differ

  carried_out-stays : (engine : Engine) (calls : ℕ) (site : State) (command : Option Asked) → Stays site → place_given command ≢ Some place
      → Stays (carried_out engine calls site command).0
  carried_out-stays engine calls site None is_open differ = is_open
  carried_out-stays engine calls site (Some (asked.put kind status title content date)) is_open differ = is_open
  carried_out-stays engine calls site (Some (asked.edit id status title content date)) is_open differ = is_open
  carried_out-stays engine calls site (Some (asked.delete id)) is_open differ = is_open
  carried_out-stays engine calls site (Some (asked.option name value)) is_open differ = is_open
  carried_out-stays engine calls site (Some (asked.activate plugin)) is_open differ = is_open
  carried_out-stays engine calls site (Some (asked.deactivate plugin)) is_open differ = is_open
  carried_out-stays engine calls site (Some (asked.template name body)) is_open differ = is_open
  carried_out-stays engine calls site (Some (asked.import file)) is_open differ = is_open
  carried_out-stays engine calls site (Some (asked.get path)) is_open differ = is_open
  carried_out-stays engine calls site (Some (asked.begin path)) is_open differ = begun-stays engine calls site path is_open
  carried_out-stays engine calls site (Some (asked.turns number count)) is_open differ =
      turned-stays site number count is_open (λ e. differ (ap Some (sym e)))

  step-stays : (engine : Engine) (calls : ℕ) (site : State) (line : List ℕ) → Stays site → place_turned line ≢ Some place
      → Stays (step engine calls site line).0
  unfolding step
  step-stays engine calls site line is_open differ = carried_out-stays engine calls site (line_command line) is_open differ

  pub reply-stays : (engine : Engine) (calls : ℕ) (old new : State) (line : List ℕ) (reply : ReplyData) → IsReply (step engine calls) old line reply new
      → Stays old → place_turned line ≢ Some place → Stays new
  reply-stays engine calls old new line reply (meant done) is_open differ = subst Stays (sym (ap (λ p. p.0) done))
      (step-stays engine calls old line is_open differ)
  reply-stays engine calls old new line reply (out_of_memory memory (unchanged same)) is_open differ = subst Stays (sym same) is_open
  reply-stays engine calls old new line reply (out_of_memory memory (closed gone)) is_open differ =
      subst Stays (sym gone) (without_page-stays old (place_turned line) is_open differ)
  reply-stays engine calls old new line reply (by_the_database store same late) is_open differ = subst Stays (sym same) is_open

  pub replies-stay : (engine : Engine) (calls : ℕ) (old new : State) (lines : List (List ℕ)) (out : List ℕ) → IsReplies (step engine calls) old lines out new
      → Stays old → All (λ line. place_turned line ≢ Some place) lines → Stays new
  replies-stay engine calls old new [] out replied is_open alone = subst Stays (sym replied.1) is_open
  replies-stay engine calls old new (line ∷ lines) out replied is_open alone =
      let first = All-head (λ line. place_turned line ≢ Some place) line lines alone in
      replies-stay engine calls replied.1 new lines replied.2 replied.5 (reply-stays engine calls old replied.1 line replied.0 replied.3 is_open first)
      (All-tail (λ line. place_turned line ≢ Some place) line lines alone)
