use Rattle.std.proofs.Common.{◌≡◌, ℕ, List, drop, length}
use Rattle.http_streams.specs.Deeds.{Deed}
use Rattle.http_streams.specs.Tables.{IsTableOf}
use Rattle.http_streams.proofs.Holding.{IsHeld}
use Rattle.http_streams.proofs.frames.serve_held.Given as goal

abbrev pub invariant-loop-frame : goal.invariant-loop-frame
invariant-loop-frame g l = record {
  held : (deeds : List Deed) → IsTableOf deeds l.fn.table
      → IsHeld g.S.Service.answers g.S.Commits.settles l.fn.table l.fn.service l.fn.input l.fn.out.items deeds l.table l.service l.out.items l.rest;
  sound : g.S.Commits.is_sound l.service;
  config : l.table.config ≡ l.fn.table.config;
  within : (n : ℕ) × (drop n l.fn.input ≡ l.rest);
}

abbrev pub decreases-loop-frame : goal.decreases-loop-frame
decreases-loop-frame g l = length l.rest
