use Rattle.std.proofs.Common.{◌≡◌, map, drop}
use Rattle.serde_json.specs.View.{view}
use Rattle.site_import.specs.Walks.{each_from}
use Rattle.site_import.specs.Active.{name_at}
use Rattle.site_import.proofs.Walks.{in_front}
use Rattle.site_import.proofs.active.read_each.Given as goal

-- the walk of all is the names so far, and then the walk of what is left
abbrev pub invariant-loop-entry : goal.invariant-loop-entry
invariant-loop-entry l =
    each_from name_at 0 (map view l.values) ≡ in_front l.names (each_from name_at l.entry (map view (drop l.entry l.values)))
