use Rattle.std.proofs.Common.{◌≡◌, drop, map, bytes_eq}
use Rattle.std.specs.Prelude.{find}
use Rattle.std.specs.List.{list_any}
use Rattle.template_parts.proofs.choice.choose.Given as goal

-- none of those before is stored, so the first that is stored is among those that are left
abbrev pub invariant-loop-name : goal.invariant-loop-name
invariant-loop-name l =
    find (λ name. list_any (bytes_eq name) l.fn.stored) (map (λ name. name.now) l.name-items)
    ≡ find (λ name. list_any (bytes_eq name) l.fn.stored) (map (λ name. name.now) (drop l.name-index l.name-items))
