use Rattle.std.proofs.Common.{◌≡◌, map, take, drop}
use Rattle.callback_store.specs.Shape.{shape_of}
use Rattle.bundled_plugins.specs.Rows.{plugin_of, numbers_in}
use Rattle.bundled_plugins.proofs.shipped.plugins_of.Given as goal

-- the plugins are those of the rows so far, and the callbacks that are left are those of the rows that are left
abbrev pub invariant-loop-row : goal.invariant-loop-row
invariant-loop-row g l = record {
  built : map (shape_of g.S.Stated.number) l.plugins ≡ map plugin_of (take l.row-index l.rows);
  left : map g.S.Stated.number l.rest.items ≡ numbers_in (drop l.row-index l.rows);
}
