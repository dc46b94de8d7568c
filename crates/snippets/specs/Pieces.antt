-- A piece of the code, by its texts.
use Rattle.snippets.specs.Templates.{Piece, Fixed, Shown, Inner, safe}
use Rattle.snippets.specs.declared.printing.Piece as code
use Rattle.snippets.specs.declared.printing.Piece.TheVariants as variant

abbrev pub piece_now : code.Piece → Piece
piece_now (variant.Fixed text) = Fixed text.now
piece_now (variant.Shown value) = Shown (safe value.now)
piece_now (variant.Inner content) = Inner content.now
