use Rattle.std.proofs.Common.{arith, inl, inr, ◌∙◌, [], None, Some, refl, sym, append-nil}
use Rattle.std.proofs.lemmas.List.Elements.{All-nil}
use Rattle.http_streams.specs.Frame.{FrameData}
use Rattle.http_streams.specs.Deeds.{Deed}
use Rattle.http_streams.proofs.Dealing.{dealt, deed_of, ended_so, idle_known, idle_table, on_ok, part_table, pushed, put_entry, taken_entry, taken_session, taken_so, turned_away, went}
use Rattle.http_streams.proofs.Parts.{IsKept, on_any_ok, on_no_ok}
use Rattle.http_streams.proofs.frames.serve_frame.Goals as goal

-- the connection isn't open
pub returns-in_default-clause-done : goal.returns-in_default-clause-done
returns-in_default-clause-done g c = λ deeds is.
    let frame : FrameData = record { connection = c.args.frame.connection; bytes = c.args.frame.bytes.now } in
    let away = c.in_default.ensures.refused in
    let end = pushed c.args.frame.connection c.args.out.now.items c.push_end.new.out.items c.push_end.result c.push_end.ensures.ok c.push_end.ensures.err in
    let d : Deed = record { frame = frame; taken = []; rounds = []; sent = end.0 } in
    record {
      deed = d;
      frame_is = refl;
      taken = (frame.bytes, refl);
      output = end.1;
      served = refl;
      stops = tt;
      kept = on_any_ok c.push_end.result (All-nil IsKept);
      known = idle_known frame deeds c.args.table.now is d refl refl end.2 refl;
      table = on_ok c.push_end.result end.3 (λ told. idle_table frame deeds c.args.table.now is d refl refl end.2 refl c.take.new.self
          c.take.ensures.left away c.take.ensures.few c.take.ensures.config (turned_away frame deeds c.args.table.now c.take.new.self is d refl refl told away));
    }

-- nothing more can be served
pub returns-in_err-serve_part-clause-done : goal.returns-in_err-serve_part-clause-done
returns-in_err-serve_part-clause-done g c = λ deeds is.
    let frame : FrameData = record { connection = c.args.frame.connection; bytes = c.args.frame.bytes.now } in
    let begun = taken_session frame.connection deeds c.args.table.now is c.in-Some.connection c.take.new.self.last c.in-Some.ensures.taken in
    dealt g.S.Service.answers g.S.Commits.settles frame deeds c.args.table.now is c.in-Some.connection c.serve_part.new.connection begun.session _ _ _ _ _
    c.serve_part.ensures.part [] refl _ c.from_residual.result c.take.new.self (sym (append-nil _))
    (on_no_ok _ c.from_residual.result c.from_residual.ensures.0) (on_no_ok _ c.from_residual.result c.from_residual.ensures.0)

-- the connection has ended
pub returns-then-is_done-clause-done : goal.returns-then-is_done-clause-done
returns-then-is_done-clause-done g c = λ deeds is.
    let frame : FrameData = record { connection = c.args.frame.connection; bytes = c.args.frame.bytes.now } in
    let begun = taken_session frame.connection deeds c.args.table.now is c.in-Some.connection c.take.new.self.last c.in-Some.ensures.taken in
    let end = pushed c.args.frame.connection c.serve_part.new.out.items c.push_end-then-is_done.new.out.items c.push_end-then-is_done.result
    c.push_end-then-is_done.ensures.ok c.push_end-then-is_done.ensures.err in
    let part = c.in_ok-serve_part.ensures.part in
    let kept = part.kept in
    let new = c.serve_part.new.connection in
    let few = c.take.ensures.few in
    let went_so = went g.S.Service.answers g.S.Commits.settles frame deeds c.args.table.now is c.in-Some.connection new begun.session _ _ _ _ _ part end.0 end.2 in
    dealt g.S.Service.answers g.S.Commits.settles frame deeds c.args.table.now is c.in-Some.connection new begun.session _ _ _ _ _
    part end.0 end.2 _ c.push_end-then-is_done.result c.take.new.self end.1 (on_any_ok c.push_end-then-is_done.result kept)
    (on_any_ok c.push_end-then-is_done.result
    (part_table frame deeds c.args.table.now is (deed_of g.S.Service.answers g.S.Commits.settles frame deeds c.args.table.now is c.in-Some.connection new begun.session _ _ _ _ _ part end.0 end.2)
    refl c.in-Some.connection new begun.session went_so
    c.take.new.self None (inl refl) (λ other. taken_entry frame.connection other _ _ (c.take.ensures.left other)) begun.grows begun.above begun.latest
    (omega (arith, few)) c.take.ensures.config kept
    (ended_so g.S.Service.answers g.S.Commits.settles frame deeds c.args.table.now is c.in-Some.connection new begun.session _ _ _ _ _ part end.0 end.2 begun.ends part.all.0)
    (taken_so g.S.Service.answers g.S.Commits.settles frame deeds c.args.table.now is c.in-Some.connection new begun.session _ _ _ _ _ part end.0 end.2 begun.ends part.all.1)))

-- memory for the table ran out
pub returns-in_err-put-clause-done : goal.returns-in_err-put-clause-done
returns-in_err-put-clause-done g c = λ deeds is.
    let frame : FrameData = record { connection = c.args.frame.connection; bytes = c.args.frame.bytes.now } in
    let begun = taken_session frame.connection deeds c.args.table.now is c.in-Some.connection c.take.new.self.last c.in-Some.ensures.taken in
    dealt g.S.Service.answers g.S.Commits.settles frame deeds c.args.table.now is c.in-Some.connection c.serve_part.new.connection begun.session _ _ _ _ _
    c.serve_part.ensures.part [] refl _ c.from_residual-in_err-put.result c.put.new.self (sym (append-nil _))
    (on_no_ok _ c.from_residual-in_err-put.result c.from_residual-in_err-put.ensures.0) (on_no_ok _ c.from_residual-in_err-put.result c.from_residual-in_err-put.ensures.0)

-- the connection goes on
pub returns-clause-done : goal.returns-clause-done
returns-clause-done g c = λ deeds is.
    let frame : FrameData = record { connection = c.args.frame.connection; bytes = c.args.frame.bytes.now } in
    let begun = taken_session frame.connection deeds c.args.table.now is c.in-Some.connection c.take.new.self.last c.in-Some.ensures.taken in
    let part = c.in_ok-serve_part.ensures.part in
    let kept = part.kept in
    let new = c.serve_part.new.connection in
    let last = c.put.ensures.last in
    let few = c.take.ensures.few in
    let fewer = c.in_ok-put.ensures.few in
    dealt g.S.Service.answers g.S.Commits.settles frame deeds c.args.table.now is c.in-Some.connection new begun.session _ _ _ _ _
    part [] refl _ _ c.put.new.self (sym (append-nil _)) kept
    (part_table frame deeds c.args.table.now is (deed_of g.S.Service.answers g.S.Commits.settles frame deeds c.args.table.now is c.in-Some.connection new begun.session _ _ _ _ _ part [] refl)
    refl c.in-Some.connection new begun.session (went g.S.Service.answers g.S.Commits.settles frame deeds c.args.table.now is c.in-Some.connection new begun.session _ _ _ _ _ part [] refl)
    c.put.new.self (Some new) (inr refl) (λ other. put_entry frame.connection other (Some new) _ _ _ (c.in_ok-put.ensures.put other) (c.take.ensures.left other))
    (rw last begun.grows) (rw last begun.above) (rw last begun.latest) (omega (arith, few, fewer)) (c.put.ensures.config ∙ c.take.ensures.config) kept
    (ended_so g.S.Service.answers g.S.Commits.settles frame deeds c.args.table.now is c.in-Some.connection new begun.session _ _ _ _ _ part [] refl begun.ends part.all.0)
    (taken_so g.S.Service.answers g.S.Commits.settles frame deeds c.args.table.now is c.in-Some.connection new begun.session _ _ _ _ _ part [] refl begun.ends part.all.1))
