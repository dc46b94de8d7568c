use Rattle.std.proofs.Common.{◌++◌, ◌∷◌, [], ◌∙◌, ap, codes, map}
use Rattle.std.specs.String.{string_bytes}
use Rattle.site_export.specs.Lines.{edit_lines, import_line}
use Rattle.site_export.proofs.Texts.{on_ok, one_more, three_more}
use Rattle.site_export.proofs.posts.push_apart.Goals as goal

pub returns : goal.returns
returns c =
    let post = c.args.post.now in
    let one = one_more string_bytes _ _ _ _ c.in_ok-push.ensures.items (c.in_ok-import_one.ensures ∙ ap (λ p. import_line (p ∷ [])) c.bare.ensures) in
    let two = c.in_ok-push_edit.ensures ∙ ap (λ t. map string_bytes c.push.new.self.items ++ edit_lines post.id (codes "title") t) c.as_str.ensures in
    on_ok c.push_edit-2.result (λ three. three_more _ _ _ _ _ _ _ one two
    (three ∙ ap (λ t. map string_bytes c.push_edit.new.lines.items ++ edit_lines post.id (codes "content") t) c.as_str-2.ensures)) c.push_edit-2.ensures
