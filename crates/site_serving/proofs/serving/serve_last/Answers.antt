use Rattle.site_serving.proofs.Stretches.{Handles-settled, Handles-waiting}
use Rattle.site_serving.proofs.serving.serve_last.Goals as goal

pub returns-in-Ok-clause-handled : goal.returns-in-Ok-clause-handled
returns-in-Ok-clause-handled g c =
    let e = c.in-Ok.ensures in
    Handles-settled _ _ _ _ _ _ _ _ _ _ _ c.in_ok-reply_to.ensures.handled e.out e.contents e.noted (λ up. (e.ok up).opened)

-- the reply was taken, and then waited for what failed
pub returns-in-Err-clause-handled : goal.returns-in-Err-clause-handled
returns-in-Err-clause-handled g c =
    let e = c.in-Err.ensures in
    Handles-waiting _ _ _ _ _ _ _ _ _ _ _ c.in_ok-reply_to.ensures.handled e.out e.contents e.noted
