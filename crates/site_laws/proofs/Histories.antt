-- The edits that were done, done once more, give the same replies and leave the same rows.
use Rattle.std.proofs.Common.{◌≡◌, ℕ, ◌≤◌, ◌∙◌, List, [], ◌∷◌, Option, Some, true, false, refl, sym, subst, ap, length}
use Rattle.std.specs.Prelude.{◌&&◌}
use Rattle.std.proofs.lemmas.Bool.{cond_both, both_ways, and_parts}
use Rattle.std.proofs.lemmas.List.{length-map}
use Rattle.std.proofs.lemmas.List.Elements.{All-head, All-tail}
use Rattle.std.proofs.lemmas.List.Sums.{length-filter, count_by-le-length}
use Rattle.hook_meaning.specs.Meaning.{Engine}
use Rattle.site_commands.specs.Asked as asked
use Rattle.site_commands.specs.Worked.{line_command}
use Rattle.site_replies.specs.Reply.{ReplyData}
use Rattle.site_edits.specs.Late.{is_done}
use Rattle.site_edits.proofs.Limits.{limited}
use Rattle.site_program.specs.State.{State, empty_under}
use Rattle.site_program.specs.Step.{step, got, place_turned, is_edit, IsReply, meant, out_of_memory, by_the_database}
use Rattle.site_program.specs.History.{is_kept, kept_history, history, Serves, site_after, replies_to}
use Rattle.site_serving.specs.Served.{AreCarriedOut, IsCarriedOut, Replied, lines_in}
use Rattle.site_program.proofs.Carrying.{left_rows, left_limit}
use Rattle.site_program.proofs.Limits.{Follows, step-same, step-limit}
use Rattle.site_program.proofs.Refusals.{step-keeps}

module _ (engine : Engine) (calls : ℕ) (limit : Option ℕ) where
  -- what is refused is not kept
  refused_unkept : (line : List ℕ) (reply : ReplyData) → is_done reply ≡ false → (is_edit (line_command line) && is_done reply) ≡ true → ⊥
  refused_unkept line reply falls stands = both_ways (is_done reply) falls (and_parts (is_edit (line_command line)) (is_done reply) stands).1

  -- a line that is kept was carried out
  reply-kept : (old new : State) (r : Replied) → IsReply (step engine calls) old r.line r.reply new → is_kept r ≡ true
      → (new, r.reply) ≡ step engine calls old r.line
  reply-kept old new r (meant done) stands = done
  reply-kept old new r (out_of_memory memory left) stands = absurd (refused_unkept r.line r.reply (ap is_done memory) stands)
  reply-kept old new r (by_the_database store same late) stands = absurd (refused_unkept r.line r.reply (ap is_done store) stands)

  -- one that isn't kept changed no row
  pub reply-unkept : (old new : State) (r : Replied) → IsReply (step engine calls) old r.line r.reply new → is_kept r ≡ false → new.rows ≡ old.rows
  reply-unkept old new r (meant done) falls = step-keeps engine calls old new r.line r.reply done falls
  reply-unkept old new r (out_of_memory memory left) falls = left_rows (place_turned r.line) old new left
  reply-unkept old new r (by_the_database store same late) falls = ap (λ site. site.rows) same

  -- these lines, carried out in another site, leave the rows of the new one, and are replied to as they were
  abbrev Rebuilds : State → State → List Replied → Type 0
  Rebuilds new again rs =
      Follows limit new (site_after (step engine calls) again (lines_in rs)) × (replies_to (step engine calls) again (lines_in rs) ≡ rs)

  pub history-rebuilds : (old new again : State) (replied : List Replied) → Serves (step engine calls) old replied new → Follows limit old again
      → Rebuilds new again (kept_history replied)
  history-rebuilds old new again [] served follows = (subst (λ site. Follows limit site again) (sym served) follows, refl)
  history-rebuilds old new again (r ∷ later) (mid, first, served) follows =
      cond_both (is_kept r) (r ∷ kept_history later) (kept_history later) (Rebuilds new again)
      (λ stands.
      let done = reply-kept old mid r first stands in
      let same = step-same engine engine calls calls limit (λ name. refl) old again r.line (and_parts (is_edit (line_command r.line)) (is_done r.reply) stands).0 follows in
      let onward : Follows limit mid (step engine calls again r.line).0 = same.0 ∙ ap (λ p. limited limit p.0.rows) (sym done) in
      let told : (step engine calls again r.line).1 ≡ r.reply = same.1 ∙ ap (λ p. p.1) (sym done) in
      let rest = history-rebuilds mid new (step engine calls again r.line).0 later served onward in
      (rest.0, rw (told, rest.1) refl))
      (λ falls. history-rebuilds mid new again later served (follows ∙ ap (limited limit) (sym (reply-unkept old mid r first falls))))

-- lines keep the limit on steps
pub reply-limit : (engine : Engine) (calls : ℕ) (old new : State) (line : List ℕ) (reply : ReplyData) → IsReply (step engine calls) old line reply new
    → new.rows.step_limit ≡ old.rows.step_limit
reply-limit engine calls old new line reply (meant done) = step-limit engine calls old new line reply done
reply-limit engine calls old new line reply (out_of_memory memory left) = left_limit (place_turned line) old new left
reply-limit engine calls old new line reply (by_the_database store same late) = ap (λ site. site.rows.step_limit) same

pub Serves-limit : (engine : Engine) (calls : ℕ) (old new : State) (replied : List Replied) → Serves (step engine calls) old replied new
    → new.rows.step_limit ≡ old.rows.step_limit
Serves-limit engine calls old new [] served = ap (λ site. site.rows.step_limit) served
Serves-limit engine calls old new (r ∷ later) (mid, first, served) =
    Serves-limit engine calls mid new later served ∙ reply-limit engine calls old mid r.line r.reply first

-- ---- from the empty site

module _ (engine : Engine) (calls : ℕ) (limit : Option ℕ) where
  abbrev steps : State → List ℕ → State × ReplyData
  steps = step engine calls

  abbrev ServedFrom : List Replied → State → Type 0
  ServedFrom replied new = Serves steps (empty_under limit) replied new

  pub rows-rebuilt : (new : State) (replied : List Replied) → ServedFrom replied new → (site_after steps (empty_under limit) (history replied)).rows ≡ new.rows
  rows-rebuilt new replied served =
      (history-rebuilds engine calls limit (empty_under limit) new (empty_under limit) replied served refl).0
      ∙ ap (λ l. limited l new.rows) (sym (Serves-limit engine calls (empty_under limit) new replied served))

  pub replies-rebuilt : (new : State) (replied : List Replied) → ServedFrom replied new → replies_to steps (empty_under limit) (history replied)
      ≡ kept_history replied
  replies-rebuilt new replied served = (history-rebuilds engine calls limit (empty_under limit) new (empty_under limit) replied served refl).1

  pub rows-agree : (one two : State) (first second : List Replied) → ServedFrom first one → ServedFrom second two → history first ≡ history second
      → one.rows ≡ two.rows
  rows-agree one two first second served also same =
      sym (rows-rebuilt one first served) ∙ ap (λ lines. (site_after steps (empty_under limit) lines).rows) same ∙ rows-rebuilt two second also

  -- a page rests on the rows alone
  pub page-agrees : (one two : State) (line path : List ℕ) → one.rows ≡ two.rows → line_command line ≡ Some (asked.get path)
      → (steps one line).1 ≡ (steps two line).1
  unfolding step
  page-agrees one two line path same is = rw is (ap (λ rows. (got engine calls rows path).1) same)

  -- what memory and the database don't refuse is carried out
  pub done-whole : (old new : State) (r : Replied) → IsReply steps old r.line r.reply new → IsCarriedOut r.reply → (new, r.reply) ≡ steps old r.line
  done-whole old new r (meant done) is = done
  done-whole old new r (out_of_memory memory left) is = absurd (is.0 memory)
  done-whole old new r (by_the_database store same late) is = absurd (is.1 store)

  pub served-whole : (old new : State) (replied : List Replied) → Serves steps old replied new → AreCarriedOut replied
      → (new ≡ site_after steps old (lines_in replied)) × (replied ≡ replies_to steps old (lines_in replied))
  served-whole old new [] served all = (served, refl)
  served-whole old new (r ∷ later) (mid, first, served) all =
      let done = done-whole old mid r first (All-head (λ (s : Replied). IsCarriedOut s.reply) r later all) in
      let rest = served-whole mid new later served (All-tail (λ (s : Replied). IsCarriedOut s.reply) r later all) in
      let at : mid ≡ (steps old r.line).0 = ap (λ p. p.0) done in
      let told : r.reply ≡ (steps old r.line).1 = ap (λ p. p.1) done in (
        subst (λ site. new ≡ site_after steps site (lines_in later)) at rest.0,
        subst (λ site. (r ∷ later) ≡ record { line = r.line; reply = (steps old r.line).1 } ∷ replies_to steps site (lines_in later)) at
            (rw (← told, ← rest.1) refl),
      )

  module _ (new copy : State) (replied again : List Replied) (served : ServedFrom replied new) (also : ServedFrom again copy)
      (same : lines_in again ≡ history replied) (all : AreCarriedOut again) where
    pub copy-rows : copy.rows ≡ new.rows
    copy-rows =
        ap (λ site. site.rows) (served-whole (empty_under limit) copy again also all).0
        ∙ ap (λ lines. (site_after steps (empty_under limit) lines).rows) same ∙ rows-rebuilt new replied served

    pub copy-replies : again ≡ kept_history replied
    copy-replies =
        (served-whole (empty_under limit) copy again also all).1 ∙ ap (λ lines. replies_to steps (empty_under limit) lines) same
        ∙ replies-rebuilt new replied served

-- ---- lines and further lines

pub length-history : (replied : List Replied) → length (history replied) ≤ length replied
length-history replied = simp (length-map, length-filter) (count_by-le-length is_kept replied)
