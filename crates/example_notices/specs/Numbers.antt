-- The numbers by which the plugin's callbacks are known.
use Rattle.std.specs.Prelude.{ℕ}
use Rattle.example_notices.specs.declared.Callback.{Callback}
use Rattle.example_notices.specs.declared.Callback.TheVariants.{Notice, NumberedTitle}

abbrev pub number_of : Callback → ℕ
number_of Notice = 1001
number_of NumberedTitle = 1002
