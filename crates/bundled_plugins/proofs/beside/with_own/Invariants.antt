use Rattle.std.proofs.Common.{◌≡◌, ◌++◌, map}
use Rattle.callback_store.specs.Shape.{shape_of}
use Rattle.bundled_plugins.specs.Beside.{number_of}
use Rattle.bundled_plugins.specs.Program as program
use Rattle.bundled_plugins.proofs.beside.with_own.Given as goal

-- the plugins so far and those that are left are all
abbrev pub invariant-loop-plugin : goal.invariant-loop-plugin
invariant-loop-plugin g l = map (shape_of (number_of g.P.Stated.number)) l.list ++ map (shape_of g.P.Stated.number) l.plugin-iterator.rest.items
    ≡ program.plugins l.fn.with_snippets ++ map (shape_of g.P.Stated.number) l.fn.own
