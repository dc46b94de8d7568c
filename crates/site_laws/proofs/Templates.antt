-- A line that stores a template.
use Rattle.std.proofs.Common.{◌≡◌, List, [], ◌∷◌, ◌++◌, Bool, true, false, Some, refl, sym, ap, ◌∙◌, arith, fold}
use Rattle.std.specs.Prelude.{codes}
use Rattle.std.specs.Str.{is_utf8}
use Rattle.std.specs.FinMap.{insert}
use Rattle.std.proofs.lemmas.List.{append_assoc}
use Rattle.json.specs.Token.{Token}
use Rattle.json.specs.Print.{print, print_from, ends}
use Rattle.json.specs.Json.{Json}
use Rattle.json.specs.Json as json
use Rattle.json.specs.Tree.{json_tokens}
use Rattle.json.proofs.Printed.Tokens.{print_from-append}
use Rattle.serde_json.specs.Data.{Data}
use Rattle.serde_json.specs.Data as tree
use Rattle.serde_json.specs.Read.{of_json}
use Rattle.serde_json.specs.Written.{outline, compact_text}
use Rattle.serde_json.proofs.Texts.{print-outline}
use Rattle.plain_data.specs.Texts.{Text}
use Rattle.post_tables.specs.Rows.{Rows}
use Rattle.site_commands.specs.Asked.{command_of, template_of}
use Rattle.site_commands.specs.Asked as asked
use Rattle.site_commands.specs.Worked.{line_command}
use Rattle.site_edits.specs.Templates.{set_template}
use Rattle.site_replies.specs.Reply.{done}
use Rattle.site_export.specs.Lines.{template_line}
use Rattle.site_laws.specs.Stored.{IsTemplate}
use Rattle.site_laws.proofs.Readings.{line-is}

template_json : Text → Json → Json
template_json name body =
    json.object (json.member (codes "cmd") (json.string (codes "template")) (json.member (codes "name") (json.string name)
    (json.member (codes "body") body json.no_members)))

template_data : Text → Data → Data
template_data name body =
    tree.object (tree.member (codes "body") body (tree.member (codes "cmd") (tree.string (codes "template"))
    (tree.member (codes "name") (tree.string name) tree.no_members)))

closed : (b : Bool) → print_from b (Token.end_object ∷ []) ≡ codes "}"
unfolding print_from
closed true = refl
closed false = refl

template_written : (name : Text) (body : Data) → template_line (name, compact_text body) ≡ print (json_tokens (template_json name (outline body)))
unfolding template_json
template_written name body =
    let head : List Token =
    Token.begin_object ∷ Token.key (codes "cmd") ∷ Token.string (codes "template") ∷ Token.key (codes "name") ∷ Token.string name ∷ Token.key (codes "body") ∷ [] in
    let tokens = json_tokens (outline body) in
    append_assoc (print head) (compact_text body) (codes "}")
    ∙ sym (print_from-append false head (tokens ++ Token.end_object ∷ [])
    ∙ ap (λ text. print head ++ text) (print_from-append false tokens (Token.end_object ∷ [])
    ∙ ap (λ text. text ++ print_from (fold (λ _ u. ends u) false tokens) (Token.end_object ∷ [])) (print-outline body)
    ∙ ap (λ text. compact_text body ++ text) (closed (fold (λ _ u. ends u) false tokens))))

template_read : (name : Text) (body : Data) → of_json (outline body) ≡ Some body → of_json (template_json name (outline body)) ≡ Some (template_data name body)
unfolding template_json template_data
template_read name body back = rw back refl

template_asked : (name : Text) (body : Data) → command_of (template_data name body) ≡ Some (asked.template name body)
unfolding command_of template_of template_data
template_asked name body = refl

pub template-is : (name text : Text) (is : IsTemplate (name, text)) → is_utf8 (template_line (name, text)) ≡ true
    → line_command (template_line (name, text)) ≡ Some (asked.template name is.body)
unfolding template_json
template-is name text is utf8 =
    line-is (template_line (name, text)) (template_json name (outline is.body)) (template_data name is.body) (asked.template name is.body)
    (ap (λ t. template_line (name, t)) is.text ∙ template_written name is.body) utf8 (tt, (tt, (is.numbers, tt)))
    (let shallow = is.shallow in omega (arith, shallow))
    (template_read name is.body is.back) (template_asked name is.body)

pub template-does : (rows : Rows) (name text : Text) (is : IsTemplate (name, text))
    → set_template rows name is.body ≡ (record rows { templates = insert rows.templates name text }, done)
unfolding set_template
template-does rows name text is = rw (is.some, is.read.1, is.text) refl
