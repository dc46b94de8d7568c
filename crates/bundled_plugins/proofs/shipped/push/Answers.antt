use Rattle.std.proofs.Common.{rules}
use Rattle.std.proofs.lemmas.List.{take-map, drop-map, map-append}
use Rattle.bundled_plugins.proofs.shipped.push.Goals as goal

pub returns-clause-pushed : goal.returns-clause-pushed
returns-clause-pushed g c = search (rules, take-map, map-append)

pub returns-clause-left : goal.returns-clause-left
returns-clause-left g c = search (rules, drop-map)
