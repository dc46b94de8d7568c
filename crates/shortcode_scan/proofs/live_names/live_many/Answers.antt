use Rattle.std.proofs.Common.{◌≡◌, List, ℕ, sym, ◌∙◌}
use Rattle.shortcode_scan.specs.Live.{is_live}
use Rattle.shortcode_scan.proofs.OpenedLemmas.{is_live-among, live-none, live-one, tag_name-bytes, tag_name-length}
use Rattle.shortcode_scan.proofs.live_names.live_many.Goals as goal
use Rattle.shortcode_scan.proofs.live_names.live_many.Goals.{then-contains+in_ok-clone+in_ok-push, else-contains}

pub loop-name-preserved : goal.loop-name-preserved
loop-name-preserved c =
    let name : List ℕ = c.name-item.result in
    let names = c.args.names.now in
    let text = c.args.text.now in
    let i = c.loop-name.name-index in
    let within = c.loop-name-test.true in
    let spelled : c.as_str.result.now ≡ name = c.as_str.ensures.text in
    let named = c.as_str.ensures.name in
    let among = is_live-among text c.in_ok-opened.opened.keys name c.in_ok-opened.ensures (tag_name-bytes name named) (tag_name-length name named) in
    let found = rw spelled at c.contains.ensures in
    let same : is_live text name ≡ c.contains.result = among ∙ sym found in
    elim c.if-contains.branch [
      | then-contains+in_ok-clone+in_ok-push w ↦
          rw (w.found-is, w.in_ok-push.ensures.items, w.in_ok-clone.ensures, c.loop-name.invariant)
          (sym (live-one names text name i within c.name-item.is (same ∙ w.if-contains.true)))
      | else-contains w ↦ rw (w.found-is, c.loop-name.invariant) (sym (live-none names text name i within c.name-item.is (same ∙ w.if-contains.false)))
    ]
