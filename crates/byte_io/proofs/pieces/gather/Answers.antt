use Rattle.std.proofs.Common.{◌≡◌, ◌∙◌, ◌++◌, [], ap, append-nil, subst}
use Rattle.std.proofs.lemmas.Result.{err_from_is_err_and, on_ok_weaker, on_err_weaker}
use Rattle.std.specs.Io.KnownBytes.{Appends}
use Rattle.byte_io.proofs.Fronts.{AppendsFront-after, AppendsFront-more, Gathers-none}
use Rattle.byte_io.proofs.pieces.gather.Goals as goal

-- of what was gathered a part was written
pub returns-in_err-write_all-in-Err-clause-part : goal.returns-in_err-write_all-in-Err-clause-part
returns-in_err-write_all-in-Err-clause-part g c =
    let held : c.as_slice.result.now ≡ c.args.gathered.now.items = c.as_slice.ensures.value ∙ ap (λ v. v.items) c.in-Err.ensures.err in
    let failed = err_from_is_err_and c.from_residual.result c.from_residual.ensures.1 in
    rw failed.1 (AppendsFront-more _ _ _ _ _ held c.in_err-write_all-in-Err.ensures.part)

-- what was gathered was written, and then the piece
pub returns-in-Err-try_extend_from_slice-clause-ok : goal.returns-in-Err-try_extend_from_slice-clause-ok
returns-in-Err-try_extend_from_slice-clause-ok g c =
    let contents = g.W.Sink.contents in
    let held : c.as_slice.result.now ≡ c.args.gathered.now.items = c.as_slice.ensures.value ∙ ap (λ v. v.items) c.in-Err.ensures.err in
    let none : c.try_extend_from_slice-2.new.self.items ≡ [] = ap (λ v. v.items) c.in-Err-try_extend_from_slice.ensures.err ∙ c.clear.ensures in
    let first = subst (Appends (contents c.args.writer.now) (contents c.write_all.new.writer)) held c.in_ok-write_all-in-Err.ensures.ok in
    on_ok_weaker _ (λ then. Gathers-none _ _ _ _ _ _ none first then) c.write_all-in-Err-try_extend_from_slice.ensures.ok

-- what was gathered was written, and of the piece a part
pub returns-in-Err-try_extend_from_slice-clause-part : goal.returns-in-Err-try_extend_from_slice-clause-part
returns-in-Err-try_extend_from_slice-clause-part g c =
    let contents = g.W.Sink.contents in
    let held : c.as_slice.result.now ≡ c.args.gathered.now.items = c.as_slice.ensures.value ∙ ap (λ v. v.items) c.in-Err.ensures.err in
    let first = subst (Appends (contents c.args.writer.now) (contents c.write_all.new.writer)) held c.in_ok-write_all-in-Err.ensures.ok in
    on_err_weaker _ (λ part. AppendsFront-after _ _ _ _ _ [] _ first part (ap (λ l. c.args.gathered.now.items ++ l) (append-nil c.args.piece.now)))
    c.write_all-in-Err-try_extend_from_slice.ensures.part
