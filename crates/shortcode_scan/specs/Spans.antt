-- Spans at which a text may be cut.
use Rattle.std.specs.Prelude.{◌≡◌, ℕ, ◌+◌, ◌-◌, ◌≤◌, true, List, IsCharBoundary}
use Rattle.shortcode_scan.specs.declared.Span.{Span}
use Rattle.shortcode_scan.specs.declared.Piece.{Piece}
use Rattle.shortcode_scan.specs.declared.Piece.TheVariants.{Plain, Match}

-- the span is a part of the text that begins and ends between two of its characters
pub record IsSpanOf (text : List ℕ) (s : Span) : Type 0 where
  pub ordered : s.start ≤ s.end
  pub first : IsCharBoundary text s.start
  pub last : IsCharBoundary text s.end

-- a shortcode without its first and last byte
abbrev pub inner_span : Span → Span
inner_span whole = record { start = whole.start + 1; end = whole.end - 1 }

-- each span of the piece is such a part, and so is what an escaped shortcode shows
abbrev pub HasSpansOf : List ℕ → Piece → Type 0
HasSpansOf text (Plain s) = IsSpanOf text s
HasSpansOf text (Match whole name atts content _ closing) =
    IsSpanOf text whole × IsSpanOf text name × IsSpanOf text atts × IsSpanOf text content × (closing ≡ true → IsSpanOf text (inner_span whole))
