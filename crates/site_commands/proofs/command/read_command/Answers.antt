use Rattle.std.proofs.Common.{◌∙◌, codes}
use Rattle.serde_json.specs.View.{view}
use Rattle.site_commands.proofs.Named.{named}
use Rattle.site_commands.proofs.command.read_command.Goals as goal

pub returns-in-put : goal.returns-in-put
returns-in-put c =
    c.read_put.ensures ∙ named (view c.args.value.now) c.text_at.result c.in_ok-text_at.field-0 (codes "put") c.text_at.ensures c.in_ok-text_at.was c.in-put.is

pub returns-in-edit : goal.returns-in-edit
returns-in-edit c =
    c.read_edit.ensures ∙ named (view c.args.value.now) c.text_at.result c.in_ok-text_at.field-0 (codes "edit") c.text_at.ensures c.in_ok-text_at.was c.in-edit.is

pub returns-in-delete : goal.returns-in-delete
returns-in-delete c =
    c.read_delete.ensures ∙ named (view c.args.value.now) c.text_at.result c.in_ok-text_at.field-0 (codes "delete") c.text_at.ensures c.in_ok-text_at.was c.in-delete.is

pub returns-in-option : goal.returns-in-option
returns-in-option c =
    c.read_option.ensures ∙ named (view c.args.value.now) c.text_at.result c.in_ok-text_at.field-0 (codes "option") c.text_at.ensures c.in_ok-text_at.was c.in-option.is

pub returns-in-activate : goal.returns-in-activate
returns-in-activate c =
    c.read_activate.ensures ∙ named (view c.args.value.now) c.text_at.result c.in_ok-text_at.field-0 (codes "activate") c.text_at.ensures c.in_ok-text_at.was c.in-activate.is

pub returns-in-deactivate : goal.returns-in-deactivate
returns-in-deactivate c =
    c.read_deactivate.ensures ∙ named (view c.args.value.now) c.text_at.result c.in_ok-text_at.field-0 (codes "deactivate") c.text_at.ensures c.in_ok-text_at.was c.in-deactivate.is

pub returns-in-template : goal.returns-in-template
returns-in-template c =
    c.read_template.ensures ∙ named (view c.args.value.now) c.text_at.result c.in_ok-text_at.field-0 (codes "template") c.text_at.ensures c.in_ok-text_at.was c.in-template.is

pub returns-in-import : goal.returns-in-import
returns-in-import c =
    c.read_import.ensures ∙ named (view c.args.value.now) c.text_at.result c.in_ok-text_at.field-0 (codes "import") c.text_at.ensures c.in_ok-text_at.was c.in-import.is

pub returns-in-get : goal.returns-in-get
returns-in-get c =
    c.read_get.ensures ∙ named (view c.args.value.now) c.text_at.result c.in_ok-text_at.field-0 (codes "get") c.text_at.ensures c.in_ok-text_at.was c.in-get.is

pub returns-in-begin : goal.returns-in-begin
returns-in-begin c =
    c.read_begin.ensures ∙ named (view c.args.value.now) c.text_at.result c.in_ok-text_at.field-0 (codes "begin") c.text_at.ensures c.in_ok-text_at.was c.in-begin.is

pub returns-in-turns : goal.returns-in-turns
returns-in-turns c =
    c.read_turns.ensures ∙ named (view c.args.value.now) c.text_at.result c.in_ok-text_at.field-0 (codes "turns") c.text_at.ensures c.in_ok-text_at.was c.in-turns.is
