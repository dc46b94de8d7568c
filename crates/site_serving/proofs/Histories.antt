-- Lemmas on lines that follow one another, with their replies.
use Rattle.std.proofs.Common.{◌≡◌, ◌∙◌, ℕ, Bool, List, [], ◌∷◌, ◌++◌, refl, sym, ap, subst}
use Rattle.std.proofs.lemmas.Grind.{flat_map-append}
use Rattle.std.proofs.lemmas.List.{map-append}
use Rattle.std.proofs.lemmas.List.Elements.{filter-append}
use Rattle.site_replies.specs.Reply.{ReplyData, bytes_of}
use Rattle.site_serving.specs.Served.{Replied, Serves, lines_in, written_for, kept_of, history_of, state_after}
use Rattle.site_serving.specs.Serving.{IsReplies}

pub lines-append : (before after : List Replied) → lines_in (before ++ after) ≡ lines_in before ++ lines_in after
lines-append before after = map-append (λ r. r.line) before after

pub written-append : (before after : List Replied) → written_for (before ++ after) ≡ written_for before ++ written_for after
written-append before after = flat_map-append (λ r. bytes_of r.reply) before after

pub history-append : (keeps : Replied → Bool) (before after : List Replied) → history_of keeps (before ++ after)
    ≡ history_of keeps before ++ history_of keeps after
history-append keeps before after = ap lines_in (filter-append keeps before after) ∙ lines-append (kept_of keeps before) (kept_of keeps after)

module _ {X : Type 0} (replies : X → List ℕ → ReplyData → X → Type 0) where
  pub Serves-append : (old mid new : X) (before after : List Replied) → Serves replies old before mid → Serves replies mid after new
      → Serves replies old (before ++ after) new
  Serves-append old mid new [] after served then = subst (λ x. Serves replies x after new) served then
  Serves-append old mid new (r ∷ before) after (next, first, served) then = (next, first, Serves-append next mid new before after served then)

  pub Serves-split : (old new : X) (before after : List Replied) → Serves replies old (before ++ after) new
      → (mid : X) × Serves replies old before mid × Serves replies mid after new
  Serves-split old new [] after served = (old, refl, served)
  Serves-split old new (r ∷ before) after (mid, first, served) =
      let rest = Serves-split mid new before after served in
      (rest.0, (mid, first, rest.1), rest.2)

  pub Serves-push : (old mid new : X) (replied : List Replied) (line : List ℕ) (reply : ReplyData) → Serves replies old replied mid
      → replies mid line reply new → Serves replies old (replied ++ record { line = line; reply = reply } ∷ []) new
  Serves-push old mid new replied line reply served is =
      Serves-append old mid new replied (record { line = line; reply = reply } ∷ []) served (new, is, refl)

  -- ---- replies as bytes

  pub Serves-bytes : (old new : X) (replied : List Replied) → Serves replies old replied new
      → IsReplies replies old (lines_in replied) (written_for replied) new
  Serves-bytes old new [] served = (refl, served)
  Serves-bytes old new (r ∷ later) (mid, first, served) = (r.reply, mid, written_for later, first, refl, Serves-bytes mid new later served)

  pub Serves-from_bytes : (old new : X) (lines : List (List ℕ)) (out : List ℕ) → IsReplies replies old lines out new
      → (replied : List Replied) × Serves replies old replied new × (lines_in replied ≡ lines) × (written_for replied ≡ out)
  Serves-from_bytes old new [] out replied = ([], replied.1, refl, sym replied.0)
  Serves-from_bytes old new (line ∷ lines) out (reply, mid, later, first, is, served) =
      let rest = Serves-from_bytes mid new lines later served in (
        record { line = line; reply = reply } ∷ rest.0,
        (mid, first, rest.1),
        ap (λ ls. line ∷ ls) rest.2,
        ap (λ bytes. bytes_of reply ++ bytes) rest.3 ∙ sym is,
      )

-- the state after lines and further lines
pub state_after-append : {X : Type 0} (steps : X → List ℕ → X × ReplyData) (x : X) (xs ys : List (List ℕ))
    → state_after steps x (xs ++ ys) ≡ state_after steps (state_after steps x xs) ys
state_after-append steps x [] ys = refl
state_after-append steps x (line ∷ xs) ys = state_after-append steps (steps x line).0 xs ys
