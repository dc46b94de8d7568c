-- How a connection ends well.
use Rattle.std.specs.Prelude.{◌≢◌}
use Rattle.http_server.specs.History.{History, IsDone}
use Rattle.http_server.specs.declared.state.State.TheVariants.{Aborted}

-- the connection came to its end, and memory didn't run out for it
abbrev pub EndsWell : History → Type 0
EndsWell h = IsDone h × (h.state ≢ Aborted)
