use Rattle.site_store.proofs.Recency.{kept-none}
use Rattle.site_store.proofs.kept_finds.KeptFinds.keep.Goals as goal

-- nothing changes
pub returns-in_default : goal.returns-in_default
returns-in_default c = kept-none c.args.self.now (c.args.path.now, c.args.found.now)
