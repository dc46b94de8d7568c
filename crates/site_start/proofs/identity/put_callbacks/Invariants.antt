use Rattle.std.proofs.Common.{◌≡◌, ◌++◌, map, take}
use Rattle.site_start.specs.Identity.{callback_tokens}
use Rattle.site_start.proofs.identity.put_callbacks.Given as goal

abbrev pub invariant-loop-callback : goal.invariant-loop-callback
invariant-loop-callback g l = record {
  before : l.line.before ≡ l.fn.line.before;
  tokens : l.line.tokens ≡ l.fn.line.tokens ++ callback_tokens (map g.S.Stated.number (take l.callback-index l.callbacks));
}
