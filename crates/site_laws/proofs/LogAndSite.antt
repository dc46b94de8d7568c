-- A log whose lines make the rows of a site does so again after the site has served.
use Rattle.std.proofs.Common.{◌≡◌, ℕ, ◌∙◌, List, [], ◌∷◌, ◌++◌, Option, refl, sym, subst, ap}
use Rattle.hook_meaning.specs.Meaning.{Engine}
use Rattle.post_tables.specs.Rows.{Rows}
use Rattle.site_edits.proofs.Limits.{limited}
use Rattle.site_program.specs.History.{Serves, history, site_after, rows_after}
use Rattle.site_program.specs.State.{State, empty_under}
use Rattle.site_program.specs.Step.{step, IsReply}
use Rattle.site_program.proofs.Limits.{Follows, step-limit}
use Rattle.site_laws.proofs.Histories.{history-rebuilds, Serves-limit}
use Rattle.site_serving.specs.Served.{Replied}
use Rattle.site_serving.proofs.Histories.{Serves-split, state_after-append}

-- rows under this limit already
pub limited-same : (limit : Option ℕ) (rows : Rows) → rows.step_limit ≡ limit → limited limit rows ≡ rows
limited-same limit rows is = subst (λ l. record rows { step_limit = l } ≡ rows) is refl

module _ (engine : Engine) (calls : ℕ) (limit : Option ℕ) where
  pub site_after-limit : (site : State) (lines : List (List ℕ)) → (site_after (step engine calls) site lines).rows.step_limit ≡ site.rows.step_limit
  site_after-limit site [] = refl
  site_after-limit site (line ∷ lines) =
      let next = step engine calls site line in site_after-limit next.0 lines ∙ step-limit engine calls site next.0 line next.1 refl

  pub served-rows : (old new : State) (noted : List (List ℕ)) (replied : List Replied) → old.rows ≡ rows_after engine calls limit noted
      → Serves (step engine calls) old replied new → new.rows ≡ rows_after engine calls limit (noted ++ history replied)
  served-rows old new noted replied same served =
      let copy = site_after (step engine calls) (empty_under limit) noted in
      let before : old.rows.step_limit ≡ limit = ap (λ rows. rows.step_limit) same ∙ site_after-limit (empty_under limit) noted in
      let after : new.rows.step_limit ≡ limit = Serves-limit engine calls old new replied served ∙ before in
      let follows : Follows limit old copy = sym same ∙ sym (limited-same limit old.rows before) in
      let rebuilt = (history-rebuilds engine calls limit old new copy replied served follows).0 in
      sym (limited-same limit new.rows after) ∙ sym rebuilt
      ∙ ap (λ site. site.rows) (sym (state_after-append (step engine calls) (empty_under limit) noted (history replied)))

  -- whichever front of the lines a log has
  pub rows-of-front : (old new : State) (noted held : List (List ℕ)) (front back : List Replied) → old.rows ≡ rows_after engine calls limit noted
      → Serves (step engine calls) old (front ++ back) new → held ≡ noted ++ history front
      → (mid : State) × Serves (step engine calls) old front mid × Serves (step engine calls) mid back new
      × (mid.rows ≡ rows_after engine calls limit held)
  rows-of-front old new noted held front back same served are =
      let cut = Serves-split (IsReply (step engine calls)) old new front back served in
      (cut.0, cut.1, cut.2, served-rows old cut.0 noted front same cut.1 ∙ ap (rows_after engine calls limit) (sym are))
