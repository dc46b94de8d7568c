use Rattle.std.proofs.Common.{◌≡◌, ◌∙◌, map, ap, sym, rules}
use Rattle.std.specs.Prelude.{IsTrue}
use Rattle.std.specs.List.{list_all}
use Rattle.std.proofs.lemmas.Result.{IfOk-weaker}
use Rattle.plain_data.specs.Names.{is_tag_name}
use Rattle.shortcode_scan.specs.Pieces.{pieces_of}
use Rattle.content_cache.specs.Opened.{names_of}
use Rattle.hook_machine.proofs.LiveTags.{tags_among, same_tags, cut_by_tags, tags_copied, opened_bytes, opened_copied}
use Rattle.hook_machine.proofs.state.State.pieces.Goals as goal

-- a text that is kept
pub returns-then-has_same_tags-clause-pieces : goal.returns-then-has_same_tags-clause-pieces
returns-then-has_same_tags-clause-pieces c =
    let tags = c.args.self.now.tags in
    let opened = c.in-Some.known.opened in
    let cut = rw c.in-Some.is at c.in_ok-known.ensures.known in
    let named : IsTrue (list_all (λ p. is_tag_name p.0) tags) = search rules in
    cut.0
    ∙ ap (λ names. pieces_of names c.args.text.now) (same_tags tags opened (rw c.as_slice.ensures at (sym c.has_same_tags.ensures ∙ c.if-has_same_tags.true)))
    ∙ cut_by_tags tags c.args.text.now (names_of opened) named cut.1

-- a text that is cut
pub cut-requires-clause-opened : goal.cut-requires-clause-opened
cut-requires-clause-opened c =
    rw (c.in_ok-opened.ensures, c.deref.ensures.value)
    (opened_copied c.args.self.now.tags c.args.text.now c.in_ok-names.names.items c.in_ok-names.ensures.opened)

pub cut-requires-clause-live : goal.cut-requires-clause-live
cut-requires-clause-live c =
    let tags = c.args.self.now.tags in
    rw (c.in_ok-opened.ensures, c.deref.ensures.value)
    (c.deref-3.ensures.value ∙ c.in_ok-live.ensures ∙ ap (λ names. tags_among tags (map (λ n. n.now) names)) c.deref-2.ensures.value
    ∙ sym (tags_copied tags c.in_ok-names.names.items))

pub returns-clause-pieces : goal.returns-clause-pieces
returns-clause-pieces c =
    let tags = c.args.self.now.tags in
    let text = c.args.text.now in
    let names = c.in_ok-names.names.items in
    let named : IsTrue (list_all (λ p. is_tag_name p.0) tags) = search rules in
    let live : c.deref-3.result.now ≡ tags_among tags (map (λ n. n.now) names) =
    c.deref-3.ensures.value ∙ c.in_ok-live.ensures ∙ ap (λ names. tags_among tags (map (λ n. n.now) names)) c.deref-2.ensures.value in
    IfOk-weaker c.cut.result _ _
    (λ pieces same. same ∙ ap (λ names. pieces_of names text) live
    ∙ cut_by_tags tags text (map (λ n. n.now) names) named (opened_bytes tags text names c.in_ok-names.ensures.opened))
    c.cut.ensures.value
