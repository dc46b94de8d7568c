use Rattle.std.proofs.Common.{refl}
use Rattle.snippets.proofs.laws.worked_places.Goals as goal

pub returns-clause-text : goal.returns-clause-text
returns-clause-text c = refl

pub returns-clause-quotes : goal.returns-clause-quotes
returns-clause-quotes c = refl

pub returns-clause-no_quotes : goal.returns-clause-no_quotes
returns-clause-no_quotes c = refl

pub returns-clause-tag : goal.returns-clause-tag
returns-clause-tag c = refl

pub returns-clause-name : goal.returns-clause-name
returns-clause-name c = refl

pub returns-clause-script : goal.returns-clause-script
returns-clause-script c = refl

pub returns-clause-after_script : goal.returns-clause-after_script
returns-clause-after_script c = refl

pub returns-clause-style : goal.returns-clause-style
returns-clause-style c = refl

pub returns-clause-strong : goal.returns-clause-strong
returns-clause-strong c = refl

pub returns-clause-comment : goal.returns-clause-comment
returns-clause-comment c = refl

pub returns-clause-after_comment : goal.returns-clause-after_comment
returns-clause-after_comment c = refl

pub returns-clause-empty_comment : goal.returns-clause-empty_comment
returns-clause-empty_comment c = refl

pub returns-clause-dashed_comment : goal.returns-clause-dashed_comment
returns-clause-dashed_comment c = refl

pub returns-clause-doctype : goal.returns-clause-doctype
returns-clause-doctype c = refl

pub returns-clause-after_doctype : goal.returns-clause-after_doctype
returns-clause-after_doctype c = refl

pub returns-clause-declaration : goal.returns-clause-declaration
returns-clause-declaration c = refl

pub returns-clause-instruction : goal.returns-clause-instruction
returns-clause-instruction c = refl

pub returns-clause-after_instruction : goal.returns-clause-after_instruction
returns-clause-after_instruction c = refl

pub returns-clause-end_tag : goal.returns-clause-end_tag
returns-clause-end_tag c = refl

pub returns-clause-after_end_tag : goal.returns-clause-after_end_tag
returns-clause-after_end_tag c = refl

pub returns-clause-no_end_tag : goal.returns-clause-no_end_tag
returns-clause-no_end_tag c = refl

pub returns-clause-escaped : goal.returns-clause-escaped
returns-clause-escaped c = refl

pub returns-clause-escaped_once : goal.returns-clause-escaped_once
returns-clause-escaped_once c = refl

pub returns-clause-dash : goal.returns-clause-dash
returns-clause-dash c = refl

pub returns-clause-after_style : goal.returns-clause-after_style
returns-clause-after_style c = refl
