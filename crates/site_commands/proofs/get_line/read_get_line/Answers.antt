use Rattle.std.proofs.Common.{◌≡◌, ◌∙◌, List, ℕ, None, Some, ap, sym}
use Rattle.std.specs.Prelude.{Option, IfSome}
use Rattle.std.specs.Borrow.{Bor}
use Rattle.std.specs.Str.{IsUtf8}
use Rattle.std.proofs.lemmas.Str.{is_utf8-from_IsUtf8}
use Rattle.json.specs.Lex.{tokens}
use Rattle.site_commands.specs.Asked.{get}
use Rattle.site_commands.specs.GetLine.{get_tokens}
use Rattle.site_commands.specs.Worked.{line_command}
use Rattle.site_commands.proofs.GetLines.{get_asks}
use Rattle.site_commands.proofs.get_line.read_get_line.Goals as goal

-- what was found of the tokens is so of the line
asked : (line : List ℕ) (found : Option (Bor (List ℕ))) → IsUtf8 line → IfSome found (λ path. tokens line ≡ get_tokens path.now)
    → IfSome found (λ path. line_command line ≡ Some (get path.now))
asked line None utf8 are = tt
asked line (Some path) utf8 are = get_asks line path.now (is_utf8-from_IsUtf8 line utf8) are

pub returns : goal.returns
returns c =
    let text = c.in-Ok.ensures.cases in
    let line = c.args.line.now in
    let read : c.in_ok-reader.reader ≡ tokens line = c.in_ok-reader.ensures.ok ∙ ap tokens text.0 in
    asked line c.read_path.result text.1 (rw (sym read) c.read_path.ensures)
