use Rattle.std.proofs.Common.{◌≡◌, flat_map, map, take}
use Rattle.example_gallery.specs.Gallery.{picture}
use Rattle.example_gallery.proofs.pictures.Given as goal

-- the pictures are those of the IDs so far
abbrev pub invariant-loop-id : goal.invariant-loop-id
invariant-loop-id l = l.pictures ≡ flat_map (picture l.width) (map (λ id. id.now) (take l.id-index l.ids))
