use Rattle.std.proofs.Common.{arith, ◌≡◌, ◌∙◌, ◌++◌, ◌+◌, drop, length, refl, sym, ap}
use Rattle.std.proofs.lemmas.List.{length-drop}
use Rattle.http_streams.specs.Frame.{FrameData}
use Rattle.http_streams.proofs.Holding.{held_all, held_last, held_more, held_none}
use Rattle.http_streams.proofs.Stretch.{front_tail, tails, used_of}
use Rattle.http_streams.proofs.frames.serve_held.Goals as goal

pub loop-frame-init : goal.loop-frame-init
loop-frame-init g c = record {
  held = λ deeds is. held_none g.S.Service.answers g.S.Commits.settles c.args.table.now c.args.service.now c.args.input.now c.args.out.now.items deeds is;
  sound = c.requires;
  config = refl;
  within = (0, refl);
}

pub serve_frame-requires : goal.serve_frame-requires
serve_frame-requires g c = c.loop-frame.invariant.sound

-- nothing more can be served
pub returns-in_err-serve_frame-in-Whole-clause-served : goal.returns-in_err-serve_frame-in-Whole-clause-served
returns-in_err-serve_frame-in-Whole-clause-served g c = λ deeds is.
    let frame : FrameData = record { connection = c.in-Whole.frame.connection; bytes = c.in-Whole.frame.bytes.now } in
    let i = c.loop-frame.invariant.held deeds is in
    held_last g.S.Service.answers g.S.Commits.settles c.args.table.now c.args.service.now c.args.input.now c.args.out.now.items deeds
    c.loop-frame.table c.serve_frame.new.table c.loop-frame.service c.serve_frame.new.service c.loop-frame.out.items c.serve_frame.new.out.items
    c.loop-frame.rest.now c.in-Whole.left.now frame c.serve_frame.result i (sym c.in-Whole.ensures)
    (c.serve_frame.ensures.done (deeds ++ i.more) i.table) c.from_residual.result c.from_residual.ensures.0

pub returns-in_err-serve_frame-in-Whole-clause-config : goal.returns-in_err-serve_frame-in-Whole-clause-config
returns-in_err-serve_frame-in-Whole-clause-config g c = c.serve_frame.ensures.config ∙ c.loop-frame.invariant.config

pub loop-frame-smaller : goal.loop-frame-smaller
loop-frame-smaller g c =
    let frame : FrameData = record { connection = c.in-Whole.frame.connection; bytes = c.in-Whole.frame.bytes.now } in
    let tail = front_tail c.loop-frame.rest.now frame c.in-Whole.left.now (sym c.in-Whole.ensures) in
    let cut = length-drop tail.0 c.loop-frame.rest.now in
    let size : length (drop tail.0 c.loop-frame.rest.now) ≡ length c.in-Whole.left.now = ap length tail.3 in
    omega (arith, cut, size, tail.1, tail.2)

pub loop-frame-preserved : goal.loop-frame-preserved
loop-frame-preserved g c =
    let frame : FrameData = record { connection = c.in-Whole.frame.connection; bytes = c.in-Whole.frame.bytes.now } in
    let tail = front_tail c.loop-frame.rest.now frame c.in-Whole.left.now (sym c.in-Whole.ensures) in
    let within = c.loop-frame.invariant.within in
    record {
      held = λ deeds is.
          let i = c.loop-frame.invariant.held deeds is in
          let done = c.in_ok-serve_frame-in-Whole.ensures.done (deeds ++ i.more) i.table in
          held_more g.S.Service.answers g.S.Commits.settles c.args.table.now c.args.service.now c.args.input.now c.args.out.now.items deeds
          c.loop-frame.table c.serve_frame.new.table c.loop-frame.service c.serve_frame.new.service c.loop-frame.out.items c.serve_frame.new.out.items
          c.loop-frame.rest.now c.in-Whole.left.now frame _ i (sym c.in-Whole.ensures) done done.kept done.table c.serve_frame.ensures.config;
      sound = c.in_ok-serve_frame-in-Whole.ensures.sound;
      config = c.serve_frame.ensures.config ∙ c.loop-frame.invariant.config;
      within = (within.0 + tail.0, tails within.0 tail.0 c.args.input.now c.loop-frame.rest.now c.in-Whole.left.now within.1 tail.3);
    }

pub overflow_sub-result : goal.overflow_sub-result
overflow_sub-result g c =
    let within = c.loop-frame.invariant.within in
    let cut = length-drop within.0 c.args.input.now in
    let size : length (drop within.0 c.args.input.now) ≡ length c.loop-frame.rest.now = ap length within.1 in
    omega (arith, cut, size)

-- the next frame is too long
pub returns-in-TooLong : goal.returns-in-TooLong
returns-in-TooLong g c = record {
  served = λ deeds is.
      held_all g.S.Service.answers g.S.Commits.settles c.args.table.now c.args.service.now c.args.input.now c.args.out.now.items deeds
      c.loop-frame.table c.loop-frame.service c.loop-frame.out.items c.loop-frame.rest.now _ (c.loop-frame.invariant.held deeds is) tt tt;
  sound = tt;
  config = c.loop-frame.invariant.config;
}

-- what is left is no whole frame
pub returns-in-Part : goal.returns-in-Part
returns-in-Part g c = record {
  served = λ deeds is.
      let i = c.loop-frame.invariant.held deeds is in
      let used = used_of c.args.input.now _ c.loop-frame.rest.now i.read in
      held_all g.S.Service.answers g.S.Commits.settles c.args.table.now c.args.service.now c.args.input.now c.args.out.now.items deeds
      c.loop-frame.table c.loop-frame.service c.loop-frame.out.items c.loop-frame.rest.now _ i
      (omega (arith), used.1, sym c.in-Part.ensures) i.table;
  sound = c.loop-frame.invariant.sound;
  config = c.loop-frame.invariant.config;
}
