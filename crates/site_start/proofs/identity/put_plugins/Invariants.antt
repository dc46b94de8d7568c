use Rattle.std.proofs.Common.{◌≡◌, ◌++◌, map, take}
use Rattle.std.specs.Prelude.{flat_map}
use Rattle.callback_store.specs.Shape.{shape_of}
use Rattle.site_start.specs.Identity.{plugin_tokens}
use Rattle.site_start.proofs.identity.put_plugins.Given as goal

abbrev pub invariant-loop-plugin : goal.invariant-loop-plugin
invariant-loop-plugin g l = record {
  before : l.line.before ≡ l.fn.line.before;
  tokens : l.line.tokens ≡ l.fn.line.tokens ++ flat_map plugin_tokens (map (shape_of g.S.Stated.number) (take l.plugin-index l.plugins));
}
