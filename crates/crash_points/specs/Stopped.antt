-- What a disk and a sink that stop show.
use Rattle.sqlite.specs.Recovery.{Image}
use Rattle.sqlite.specs.Files.{image_of}
use Rattle.sqlite_disk.specs.Fuse.{inner_of}
use Rattle.sqlite_disk.specs.declared.Disk.{Ghosts}
use Rattle.sqlite_disk.specs.declared.Files.{Files}
use Rattle.sqlite_disk.specs.declared.fuse.Fuse.{Fuse}
use Rattle.crash_points.specs.declared.stopping.Stopping.{Stopping}

-- the sink that it passes writes on to
abbrev pub sink_of : {W : Type 0} → Stopping W → W
sink_of s = s.inner

-- what the files that the calls are passed on to have
abbrev pub inner_image : {D : Type 0} → Ghosts D → Files (Fuse D) → Image
inner_image g files = image_of g (record { log = inner_of files.log; db = inner_of files.db })
