use Rattle.std.proofs.Common.{◌∙◌, refl, ap}
use Rattle.page_escapes.specs.Escapes.{ends_escaped}
use Rattle.page_escapes.proofs.Ends.{replaced}
use Rattle.page_escapes.proofs.escape_ends.Goals as goal

pub returns : goal.returns
returns c =
    c.new.ensures ∙ replaced c.in_ok-escaped.ensures.ok.0 _ c.as_str-2.result.now _ refl c.in_ok-escaped.ensures.ok.1 ∙ ap ends_escaped c.as_str-2.ensures
