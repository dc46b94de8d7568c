use Rattle.std.proofs.Common.{◌≡◌, option_map}
use Rattle.std.specs.Cow.{cow_str_bytes}
use Rattle.std.specs.Str.Lossy.{utf8_lossy}
use Rattle.form_urlencoded.specs.Form.{parse}
use Rattle.form_urlencoded.specs.Parse.{pairs_left}
use Rattle.permalink_query.specs.Paths.{last_value}
use Rattle.permalink_query.proofs.LossyLemmas.{latest}
use Rattle.permalink_query.proofs.query.last_value.Given as goal

abbrev pub invariant-loop-pair : goal.invariant-loop-pair
invariant-loop-pair l =
    latest l.name (option_map cow_str_bytes l.last) (pairs_left l.pair-iterator)
    ≡ option_map utf8_lossy (last_value l.name (parse l.form))
