use Rattle.sqlite.specs.Files.{image_of}
use Rattle.site_start.proofs.task.with_files.Goals as goal

pub returns : goal.returns
returns g c =
    c.with_opened.ensures (image_of g.D.Disk c.args.files)
    (record { opened = c.in_ok-log.ensures.opened; finds = λ up. record { each = c.in_ok-log.ensures.found up; one = c.in_ok-log.ensures.read up } })
