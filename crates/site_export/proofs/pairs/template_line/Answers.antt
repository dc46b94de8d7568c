use Rattle.std.proofs.Common.{◌++◌, ◌∷◌, [], ◌∙◌, ap, codes}
use Rattle.json.specs.Token.{key}
use Rattle.json.specs.Print.{print}
use Rattle.site_export.specs.Lines.{with_text}
use Rattle.site_export.proofs.pairs.template_line.Goals as goal

pub returns : goal.returns
returns c =
    let front = c.in_ok-key.ensures.ok ∙ ap (λ ts. ts ++ key (codes "body") ∷ []) (c.in_ok-put_text.ensures.tokens
    ∙ ap (λ ts. ts ++ with_text (codes "name") c.args.name.now) c.in_ok-front.ensures.tokens) in
    c.in_ok-push_str-2.ensures.bytes
    ∙ ap (λ l. l ++ codes "}") (c.in_ok-push_str.ensures.bytes ∙ ap (λ l. l ++ c.args.tree.now) (c.ended-line.ensures ∙ ap print front))
