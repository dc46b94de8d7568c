use Rattle.std.proofs.Common.{lit<, ◌∙◌, None}
use Rattle.std.proofs.lemmas.Str.Pattern.{strip_prefix_char}
use Rattle.snippets.specs.Templates.{Value}
use Rattle.snippets.proofs.Firsts.{reads_value}
use Rattle.snippets.proofs.parts.read.Goals as goal

-- a text that begins with neither mark
pub returns : goal.returns
returns c =
    let text = c.args.text.now in
    (λ i. Value (c.at_bar.ensures i).0 (c.at_bar.ensures i).1)
    ∙ reads_value text (strip_prefix_char 35 text None c.in_default.ensures.cases (lit< tt))
    (strip_prefix_char 94 text None c.in_default-strip_prefix.ensures.cases (lit< tt))
    (strip_prefix_char 47 text None c.in_default-strip_prefix-2.ensures.cases (lit< tt))
