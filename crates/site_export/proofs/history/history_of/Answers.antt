use Rattle.std.proofs.Common.{rules, map}
use Rattle.std.specs.String.{string_bytes}
use Rattle.std.proofs.lemmas.List.Elements.{All-from_recursion}
use Rattle.site_export.specs.Lines.{IsHistory, IsShort}
use Rattle.site_export.proofs.Lengths.{history_short}
use Rattle.site_export.proofs.history.history_of.Goals as goal

pub returns-clause-short : goal.returns-clause-short
returns-clause-short c ok =
    let lines = map string_bytes c.push_active.new.lines.items in
    let are : IsHistory c.args.tables.now lines = search rules in
    All-from_recursion IsShort lines (history_short c.args.tables.now lines are ok)
