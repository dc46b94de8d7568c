use Rattle.sqlite.specs.WalFiles.{image_at}
use Rattle.site_start.proofs.task.with_log.Goals as goal

pub returns : goal.returns
returns g c =
    c.with_opened.ensures (image_at g.S.Start)
    (record { opened = c.in_ok-log.ensures.opened; finds = λ up. record { each = c.in_ok-log.ensures.found up; one = c.in_ok-log.ensures.read up } })
