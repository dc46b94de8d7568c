-- What the command `template` does to a site's rows.
use Rattle.std.specs.Prelude.{is_some, Result, Ok, Err, if◌then◌else◌}
use Rattle.std.specs.FinMap.{insert, remove}
use Rattle.serde_json.specs.Data.{Data}
use Rattle.serde_json.specs.Find.{as_null}
use Rattle.serde_json.specs.Written.{compact_text}
use Rattle.plain_data.specs.Texts.{Text}
use Rattle.post_tables.specs.Rows.{Rows}
use Rattle.template_trees.specs.Trees.{is_template_name, template_of}
use Rattle.template_trees.specs.declared.fault.TemplateFault.{TemplateFault}
use Rattle.template_trees.specs.declared.fault.TemplateFault.TheVariants as fault
use Rattle.template_trees.specs.declared.tree.Template.{Template}
use Rattle.site_replies.specs.declared.reply.Refusal.TheVariants.{BadTemplate, TooLarge, OutOfMemory}
use Rattle.site_replies.specs.Reply.{ReplyData, done, refused}

-- the refusal for a fault of a template
abbrev pub template_refusal : TemplateFault → ReplyData
template_refusal fault.BadTemplate = refused BadTemplate
template_refusal fault.TooLarge = refused TooLarge
template_refusal fault.OutOfMemory = refused OutOfMemory

-- a template is stored as the compact JSON text of its body
abbrev pub with_template : Rows → Text → Data → Result Template TemplateFault → Rows × ReplyData
with_template rows name body (Ok template) = (record rows { templates = insert rows.templates name (compact_text body) }, done)
with_template rows name body (Err why) = (rows, template_refusal why)

-- no template is stored under the name any more
abbrev pub without_template : Rows → Text → Rows × ReplyData
without_template rows name =
    if is_template_name name
    then (record rows { templates = remove rows.templates name }, done)
    else (rows, refused BadTemplate)

-- `template`: a body is stored in place of the one before, and `null` removes it
unfoldable pub set_template : Rows → Text → Data → Rows × ReplyData
set_template rows name body =
    if is_some (as_null body) then without_template rows name else with_template rows name body (template_of name body)
