use Rattle.std.proofs.Common.{rules}
use Rattle.bundled_plugins.proofs.Walks.{named_more, walked}
use Rattle.bundled_plugins.proofs.replies.push_named.Goals as goal

-- no attribute is left
pub returns-in_default : goal.returns-in_default
returns-in_default c = search (rules, walked c.args.atts.now.named c.loop-at.at)

-- one attribute more
pub loop-at-preserved : goal.loop-at-preserved
loop-at-preserved c = search (rules, named_more c.args.atts.now.named c.loop-at.at (c.in-Some.name.now, c.in-Some.value.now))
