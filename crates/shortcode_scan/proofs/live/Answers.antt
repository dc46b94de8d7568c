use Rattle.std.proofs.Common.{refl}
use Rattle.shortcode_scan.proofs.live.Goals as goal

pub returns-then-opens_nothing : goal.returns-then-opens_nothing
returns-then-opens_nothing c = rw (c.new.ensures.items, c.opens_nothing.ensures c.if-opens_nothing.true c.args.names.now) refl
