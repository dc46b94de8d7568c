use Rattle.std.proofs.Common.{◌≡◌, ◌++◌, map}
use Rattle.bundled_plugins.specs.Beside.{number_of}
use Rattle.bundled_plugins.proofs.beside.own_plugin.Given as goal

-- the numbers so far and those that are left are all
abbrev pub invariant-loop-callback : goal.invariant-loop-callback
invariant-loop-callback g l = map (number_of g.P.Stated.number) l.own ++ map g.P.Stated.number l.callback-iterator.rest.items
    ≡ map g.P.Stated.number l.fn.plugin.callbacks
