use Rattle.std.proofs.Common.{◌∙◌, refl}
use Rattle.site_http.proofs.Calls.{rounds_hold}
use Rattle.site_http.proofs.laws.the_log_is_not_older.Goals as goal

pub returns : goal.returns
returns g c = λ connection rounds old new held calls served cleared stops settled none sound may.
    let holds = rounds_hold g.C.Commands g.J.Journal _ refl refl refl refl old new rounds held served stops
    (record { settled = settled; none = none; sound = sound }) may in
    record {
      told = _;
      more = holds.more;
      lost = holds.lost;
      calls = calls ∙ holds.calls;
      cleared = cleared;
      told_lines = holds.told_lines;
      more_lines = holds.more_lines;
      lost_lines = holds.lost_lines;
      are_told = holds.are_told;
      are_more = holds.are_more;
      are_lost = holds.are_lost;
      served = holds.served;
      edits = holds.edits;
    }
