use Rattle.std.proofs.Common.{ap, sym, subst, ◌∙◌}
use Rattle.std.specs.Prelude.{◌≢◌, AllPairs}
use Rattle.std.proofs.lemmas.Bool.{false≢true}
use Rattle.std.proofs.lemmas.Map.Keys.{apart_from_distinct}
use Rattle.std.proofs.lemmas.Slice.Eq.{bytes_eq-Decides}
use Rattle.std.proofs.lemmas.Result.{IfOk-weaker}
use Rattle.shortcode_scan.specs.Opened.{is_among}
use Rattle.shortcode_scan.proofs.OpenedLemmas.{is_live-among, tag_name-bytes, tag_name-length}
use Rattle.shortcode_scan.proofs.opened_names.Goals as goal

pub returns-clause-opened : goal.returns-clause-opened
returns-clause-opened c =
    let names = c.in_ok-names.names.keys in
    let text = c.args.text.now in
    IfOk-weaker c.from_slice.result _ _
    (λ listed same name named. ap (is_among name) (same ∙ c.as_slice.ensures.keys) ∙
    sym (is_live-among text names name c.in_ok-names.ensures (tag_name-bytes name named) (tag_name-length name named)))
    c.from_slice.ensures.items

pub returns-clause-once : goal.returns-clause-once
returns-clause-once c =
    let names = c.in_ok-names.names.keys in
    IfOk-weaker c.from_slice.result _ _
    (λ listed same. subst (AllPairs (λ a b. a.now ≢ b.now)) (sym (same ∙ c.as_slice.ensures.keys))
    (λ i j d lt within e. false≢true (sym (apart_from_distinct _ names i j d c.as_slice.ensures.unique lt within) ∙ (bytes_eq-Decides _ _).1 e)))
    c.from_slice.ensures.items
