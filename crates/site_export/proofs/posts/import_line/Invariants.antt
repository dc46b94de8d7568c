use Rattle.std.proofs.Common.{◌≡◌, ◌++◌, [], take, flat_map}
use Rattle.site_export.specs.Lines.{import_head, post_tokens}
use Rattle.site_export.proofs.posts.import_line.Given as goal

abbrev pub invariant-loop-post : goal.invariant-loop-post
invariant-loop-post l = record {
  before : l.line.before ≡ [];
  tokens : l.line.tokens ≡ import_head ++ flat_map post_tokens (take l.post-index l.posts);
}
