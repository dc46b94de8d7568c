use Rattle.std.proofs.Common.{◌≡◌, ◌++◌, drop, flat_map, map, None}
use Rattle.std.specs.Prelude.{option_map}
use Rattle.snippets.specs.Places.{Between, place_now}
use Rattle.snippets.specs.Snippets.{values_in}
use Rattle.snippets.specs.Templates.{part_now, pieces_from, text_in}
use Rattle.snippets.proofs.printing.printed.Given as goal

-- with what the parts that are left print, it is what all parts print
abbrev pub invariant-loop-part : goal.invariant-loop-part
invariant-loop-part l =
    l.text ++ flat_map text_in (pieces_from (values_in l.call) l.content (place_now l.place) (option_map (λ name. name.now) l.left_out)
    (map part_now (drop l.part-index l.part-items)))
    ≡ flat_map text_in (pieces_from (values_in l.call) l.content Between None (map part_now l.part-items))
