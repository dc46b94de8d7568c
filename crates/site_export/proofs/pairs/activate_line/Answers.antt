use Rattle.std.proofs.Common.{◌≡◌, ◌++◌, ◌∷◌, [], ◌∙◌, ap, subst, codes, IfOk}
use Rattle.std.specs.String.{string_bytes}
use Rattle.json.specs.Token.{end_object}
use Rattle.json.specs.Print.{print}
use Rattle.site_export.specs.Lines.{with_text}
use Rattle.site_export.proofs.pairs.activate_line.Goals as goal

pub returns : goal.returns
returns c =
    subst (λ ts. IfOk c.end_command.result (λ line. string_bytes line ≡ print (ts ++ end_object ∷ [])))
    (c.in_ok-put_text.ensures.tokens ∙ ap (λ ts. ts ++ with_text (codes "plugin") c.args.plugin.now) c.in_ok-line.ensures.tokens) c.end_command.ensures
