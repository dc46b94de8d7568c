use Rattle.std.proofs.Common.{add-one}
use Rattle.shortcode_scan.specs.Spans.{HasSpansOf}
use Rattle.hook_machine.proofs.Cutting.{all_after}
use Rattle.hook_machine.proofs.run.cut.Cut.take_first.Goals as goal

pub invariant_of-self : goal.invariant_of-self
invariant_of-self c = rw add-one (all_after (HasSpansOf c.self.inside.text) c.self.inside.taken c.self.inside.pieces c.self.invariant)
