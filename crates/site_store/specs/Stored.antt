-- What pages read of a site's rows.
use Rattle.std.specs.Prelude.{List, Option, option_and_then}
use Rattle.std.specs.FinMap.{entries, keys}
use Rattle.plain_data.specs.Texts.{Text}
use Rattle.post_tables.specs.Rows.{Rows}
use Rattle.site_records.specs.Texts.{text_named}
use Rattle.site_records.specs.declared.found.Found.{Found}
use Rattle.permalink_query.specs.Paths.{query_of}
use Rattle.permalink_query.specs.Found.{query_result}
use Rattle.template_trees.specs.Trees.{stored_template}
use Rattle.template_trees.specs.declared.tree.Template.{Template}

-- names with their texts
abbrev pub Texts : Type 0
Texts = List (Text × Text)

-- the stored options, by name
abbrev pub options_of : Rows → Texts
options_of rows = entries rows.options

-- the stored templates, by name
abbrev pub templates_of : Rows → Texts
templates_of rows = entries rows.templates

-- the active names
abbrev pub active_of : Rows → List Text
active_of rows = keys rows.active

-- what a path finds in a site
abbrev pub found_by : Rows → Text → Found
found_by rows path = query_result rows.posts (options_of rows) (query_of path)

-- the template of that name, if one is stored
abbrev pub template_named : Text → Texts → Option Template
template_named name templates = option_and_then (stored_template name) (text_named name templates)
