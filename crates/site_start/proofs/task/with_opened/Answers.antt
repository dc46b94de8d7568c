use Rattle.std.proofs.Math.Logic.{∥∥₁_map}
use Rattle.site_start.proofs.task.with_opened.Goals as goal

pub returns : goal.returns
returns g c =
    λ image from clean left may lines finds.
    ∥∥₁_map (c.into_store.ensures.found clean left may lines finds) (c.run-left.ensures image from lines)
