use Rattle.std.proofs.Common.{◌≡◌, ◌++◌, map, take}
use Rattle.json.specs.Reads.{token_of}
use Rattle.site_export.proofs.line.put.Given as goal

abbrev pub invariant-loop-token : goal.invariant-loop-token
invariant-loop-token l = record {
  before : l.line.before ≡ l.fn.line.before;
  tokens : l.line.tokens ≡ l.fn.line.tokens ++ map token_of (take l.token-index l.tokens);
}
