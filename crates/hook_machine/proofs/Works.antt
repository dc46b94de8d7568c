-- What the work of a piece comes to.
use Rattle.std.proofs.Common.{◌≡◌, ℕ, Bool, false, ◌&&◌, Option, Some, sym, ap, ◌∙◌}
use Rattle.hook_changes.specs.declared.reply.Call.{Call}
use Rattle.hook_registry.specs.Named.{value_of}
use Rattle.shortcode_scan.specs.declared.Span.{Span}
use Rattle.shortcode_scan.specs.declared.Piece.{Piece}
use Rattle.shortcode_scan.specs.declared.Piece.TheVariants.{Match}
use Rattle.plain_data.specs.Texts.{Text}
use Rattle.hook_meaning.specs.World.{World}
use Rattle.hook_meaning.specs.Trace.{Done, and_then}
use Rattle.hook_meaning.specs.Meaning.{Invocation, handler_call, bracket, text_at, handled, piece_pass}
use Rattle.hook_machine.specs.declared.run.pieces.Work.TheVariants.{Shown}
use Rattle.hook_machine.specs.Works.{work_pass, answer_shown}
use Rattle.hook_meaning.proofs.Ending.{piece_handled, handled_some}

-- a piece that stays as it is
pub shown_ends : (text : Text) (w : World) (piece is : Piece) → piece ≡ is → (s : Span)
    → ((inv : Invocation) → piece_pass inv text w is ≡ Done w (text_at text s))
    → (inv : Invocation) → piece_pass inv text w piece ≡ work_pass inv text w (Shown s)
shown_ends text w piece is p s k inv = rw p (k inv)

module _ (inv : Invocation) where
  -- a match whose tag has a handler
  pub match_is : (text : Text) (w : World) (whole name atts content : Span) (opening closing : Bool) → (opening && closing) ≡ false → (handler : ℕ)
      → Some handler ≡ value_of w.tags (text_at text name)
      → (call : Call) → call ≡ handler_call text name atts content
      → piece_pass inv text w (Match whole name atts content opening closing)
      ≡ and_then (inv w handler call)
      (λ later result. answer_shown inv text later (record { name = name; opening = opening; closing = closing }) result)
  match_is text w whole name atts content opening closing o handler n call c =
      piece_handled inv text w whole name atts content opening closing o
      ∙ ap (λ (h : Option ℕ). handled inv w h (handler_call text name atts content) (text_at text whole) (bracket opening 91) (bracket closing 93)) (sym n)
      ∙ handled_some inv w handler (handler_call text name atts content) (text_at text whole) (bracket opening 91) (bracket closing 93)
      ∙ ap (λ (k : Call). and_then (inv w handler k)
      (λ later result. answer_shown inv text later (record { name = name; opening = opening; closing = closing }) result)) (sym c)
