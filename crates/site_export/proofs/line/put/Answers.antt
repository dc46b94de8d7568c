use Rattle.site_export.proofs.Printable.{printable_at}
use Rattle.site_export.proofs.line.put.Goals as goal

pub token-requires : goal.token-requires
token-requires c = printable_at c.args.tokens.now c.loop-token.token-index _ c.loop-token-test.true c.requires
