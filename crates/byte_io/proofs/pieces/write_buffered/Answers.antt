use Rattle.std.proofs.Common.{rules, arith, ◌≡◌, ◌<◌, ◌++◌, [], length, suc, drop, flat_map}
use Rattle.std.proofs.lemmas.Grind.{common_steps}
use Rattle.std.proofs.lemmas.Result.{on_err_weaker, err_from_is_err_and}
use Rattle.std.proofs.KnownBytes.{Appends-trans}
use Rattle.byte_io.proofs.Fronts.{AppendsFront-after, flat_map-split, gathered_whole, pieces_whole, last_gathered}
use Rattle.byte_io.proofs.pieces.write_buffered.Goals as goal

-- one more piece is gathered
pub loop-piece-preserved : goal.loop-piece-preserved
loop-piece-preserved g c =
    let i = c.loop-piece.invariant in
    let ok = c.in_ok-gather.ensures.ok in
    let pieces = c.args.pieces.now in
    record {
      taken = i.taken ++ ok.taken;
      whole = gathered_whole i.taken ok.taken c.loop-piece.gathered.items c.gather.new.gathered.items _ _ _ i.whole ok.whole (grind (arith, common_steps));
      appends = Appends-trans _ _ _ _ _ i.appends ok.appends;
      sound = search rules;
    }

-- of the pieces so far and this one a part was written
pub returns-in_err-gather-clause-part : goal.returns-in_err-gather-clause-part
returns-in_err-gather-clause-part g c =
    let pieces = c.args.pieces.now in
    let at = c.loop-piece.piece-index in
    let i = c.loop-piece.invariant in
    let inside : at < length pieces = omega arith in
    let later = flat_map (λ piece. piece.now) (drop (suc at) pieces) in
    let whole = pieces_whole i.taken c.loop-piece.gathered.items _ _ later _ i.whole (flat_map-split (λ piece. piece.now) pieces at _ inside) in
    let part = AppendsFront-after _ _ _ i.taken _ later _ i.appends c.in_err-gather.ensures.part whole in
    let failed = err_from_is_err_and c.from_residual.result c.from_residual.ensures.1 in
    rw failed.1 part

-- of all the pieces a part was written
pub returns-clause-part : goal.returns-clause-part
returns-clause-part g c =
    let i = c.loop-piece.invariant in
    let pieces = c.args.pieces.now in
    let all : i.taken ++ c.loop-piece.gathered.items ≡ flat_map (λ piece. piece.now) pieces = grind (arith, common_steps) in
    let whole = last_gathered i.taken c.loop-piece.gathered.items c.as_slice.result.now _ c.as_slice.ensures.value all in
    on_err_weaker _ (λ part. AppendsFront-after _ _ _ i.taken _ [] _ i.appends part whole) c.write_all.ensures.part
