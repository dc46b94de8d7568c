use Rattle.std.proofs.Common.{◌≡◌, length, rules}
use Rattle.std.proofs.lemmas.List.{nil_from_length}
use Rattle.shortcode_scan.proofs.PieceLemmas.{IsPieces-unnamed}
use Rattle.shortcode_scan.proofs.matches.cut.Goals as goal

pub returns-then-is_empty : goal.returns-then-is_empty
returns-then-is_empty c =
    let no_names : length c.args.live.now ≡ 0 = search rules in
    rw (nil_from_length _ no_names, c.in_ok-push_plain.ensures, c.new-pieces.ensures.items) (IsPieces-unnamed c.args.bytes.now)
