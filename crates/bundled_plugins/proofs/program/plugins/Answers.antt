use Rattle.std.proofs.Common.{◌∙◌, ap, sym, map, take, drop}
use Rattle.std.proofs.lemmas.List.{take-map, drop-map}
use Rattle.bundled_plugins.specs.Program.{numbers}
use Rattle.bundled_plugins.proofs.FirstNumbers.{first_numbers, last_numbers}
use Rattle.bundled_plugins.proofs.program.plugins.Goals as goal

pub bundle-requires : goal.bundle-requires
bundle-requires g c =
    ap (map g.S.Stated.number) (c.new.ensures ∙ c.in_ok-of_snippets.ensures.items ∙ ap (take 31) c.into_vec-bundled.ensures)
    ∙ sym (take-map g.S.Stated.number 31 c.args.callbacks)
    ∙ ap (take 31) c.requires
    ∙ first_numbers c.args.with_snippets

pub plugin-requires : goal.plugin-requires
plugin-requires g c =
    ap (map g.S.Stated.number) (c.new-then-with_snippets.ensures ∙ c.in_ok-of_snippets.ensures.tail ∙ ap (drop 31) c.into_vec-bundled.ensures)
    ∙ sym (drop-map g.S.Stated.number 31 c.args.callbacks)
    ∙ ap (drop 31) (c.requires ∙ ap numbers c.if-with_snippets.true)
    ∙ last_numbers
