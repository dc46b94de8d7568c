-- The numbers by which the plugin's callbacks are known.
use Rattle.std.specs.Prelude.{ℕ}
use Rattle.example_gallery.specs.declared.Callback.{Callback}
use Rattle.example_gallery.specs.declared.Callback.TheVariants.{Gallery, Credit}

abbrev pub number_of : Callback → ℕ
number_of Gallery = 1001
number_of Credit = 1002
