-- A short line that is read.
use Rattle.std.proofs.Common.{◌≡◌, ℕ, ◌≤◌, ◌<◌, ◌^◌, [], None, Some, true, refl, sym, ap, ◌∙◌, arith}
use Rattle.std.specs.Prelude.{codes, decimal, option_and_then, option_map, if◌then◌else◌}
use Rattle.std.specs.Str.{is_utf8}
use Rattle.std.proofs.lemmas.Bool.{le-leb}
use Rattle.std.proofs.lemmas.List.{append-nil}
use Rattle.json.specs.Print.{print}
use Rattle.json.specs.Json.{Json, value, if_last}
use Rattle.json.specs.Json as json
use Rattle.json.specs.Tree.{json_tokens, depth, HasNumbers}
use Rattle.json.proofs.Printed.Tokens.{tokens-print}
use Rattle.json.proofs.Printed.Trees.{ArePrintable-json_tokens, value-json_tokens}
use Rattle.json.proofs.Printed.Decimals.{IsNumber-decimal}
use Rattle.serde_json.specs.Data.{Data, unsigned}
use Rattle.serde_json.specs.Data as tree
use Rattle.serde_json.specs.Read.{read, of_json, max_depth}
use Rattle.serde_json.proofs.Numbers.{number_of-decimal}
use Rattle.plain_data.specs.Texts.{Text}
use Rattle.site_records.specs.Ids.{max_id}
use Rattle.site_values.specs.Tree.{whole_in}
use Rattle.site_commands.specs.Asked.{Asked, command_of, activate_of, option_of, delete_of, edit_of}
use Rattle.site_commands.specs.Asked as asked
use Rattle.site_commands.specs.Tree.{tree_of}
use Rattle.site_commands.specs.Worked.{line_command}
use Rattle.site_export.specs.Lines.{activate_line, option_line, delete_line, edit_line}
use Rattle.site_laws.specs.Stored.{IsId, IsOptionName}

-- a JSON value that is printed is read back
pub read-print : (j : Json) (d : Data) → HasNumbers j → depth j ≤ max_depth → of_json j ≡ Some d → read (print (json_tokens j)) ≡ Some d
read-print j d numbers shallow is =
    ap (λ o. option_and_then of_json (option_and_then (λ p. if_last p.0 p.1) o))
    (ap (value max_depth) (tokens-print (json_tokens j) (ArePrintable-json_tokens j numbers) ∙ sym (append-nil (json_tokens j)))
    ∙ value-json_tokens j max_depth [] shallow)
    ∙ is

-- and a line that is the print of a command's tree is that command
pub line-is : (line : Text) (j : Json) (d : Data) (what : Asked) → line ≡ print (json_tokens j) → is_utf8 line ≡ true → HasNumbers j → depth j ≤ max_depth
    → of_json j ≡ Some d → command_of d ≡ Some what → line_command line ≡ Some what
unfolding tree_of
line-is line j d what printed utf8 numbers shallow is commands =
    ap (λ b. option_and_then command_of (if b then read line else None)) utf8
    ∙ ap (λ text. option_and_then command_of (read text)) printed
    ∙ ap (option_and_then command_of) (read-print j d numbers shallow is)
    ∙ commands

-- ---- activate

activate_json : Text → Json
activate_json plugin =
    json.object (json.member (codes "cmd") (json.string (codes "activate")) (json.member (codes "plugin") (json.string plugin) json.no_members))

activate_data : Text → Data
activate_data plugin =
    tree.object (tree.member (codes "cmd") (tree.string (codes "activate")) (tree.member (codes "plugin") (tree.string plugin) tree.no_members))

activate_asked : (plugin : Text) → command_of (activate_data plugin) ≡ Some (asked.activate plugin)
unfolding command_of activate_of activate_data
activate_asked plugin = refl

pub activate-is : (plugin : Text) → is_utf8 (activate_line plugin) ≡ true → line_command (activate_line plugin) ≡ Some (asked.activate plugin)
unfolding activate_json activate_data
activate-is plugin utf8 =
    line-is (activate_line plugin) (activate_json plugin) (activate_data plugin) (asked.activate plugin) refl utf8 (tt, (tt, tt)) (omega arith) refl
    (activate_asked plugin)

-- ---- option

option_json : Text → Text → Json
option_json name value =
    json.object (json.member (codes "cmd") (json.string (codes "option")) (json.member (codes "name") (json.string name)
    (json.member (codes "value") (json.string value) json.no_members)))

option_data : Text → Text → Data
option_data name value =
    tree.object (tree.member (codes "cmd") (tree.string (codes "option")) (tree.member (codes "name") (tree.string name)
    (tree.member (codes "value") (tree.string value) tree.no_members)))

option_asked : (name value : Text) → IsOptionName name → command_of (option_data name value) ≡ Some (asked.option name value)
unfolding command_of option_of option_data
option_asked name value is = rw (le-leb _ _ is.least, le-leb _ _ is.most) refl

pub option-is : (name value : Text) → IsOptionName name → is_utf8 (option_line (name, value)) ≡ true
    → line_command (option_line (name, value)) ≡ Some (asked.option name value)
unfolding option_json option_data
option-is name value is utf8 =
    line-is (option_line (name, value)) (option_json name value) (option_data name value) (asked.option name value) refl utf8 (tt, (tt, (tt, tt))) (omega arith) refl
    (option_asked name value is)

-- ---- an ID

pub small : (id : ℕ) → IsId id → id < 2 ^ 64
small id is = let most = is.most in omega (arith, most)

pub id_is : (id : ℕ) → IsId id → whole_in 1 max_id id ≡ Some id
id_is id is = rw (le-leb _ _ is.least, le-leb _ _ is.most) refl

-- ---- delete

delete_json : ℕ → Json
delete_json id =
    json.object (json.member (codes "cmd") (json.string (codes "delete")) (json.member (codes "id") (json.number (decimal id)) json.no_members))

delete_data : ℕ → Data
delete_data id =
    tree.object (tree.member (codes "cmd") (tree.string (codes "delete")) (tree.member (codes "id") (tree.number (unsigned id)) tree.no_members))

delete_read : (id : ℕ) → IsId id → of_json (delete_json id) ≡ Some (delete_data id)
unfolding delete_json delete_data
delete_read id is = rw (number_of-decimal id (small id is)) refl

delete_asked : (id : ℕ) → IsId id → command_of (delete_data id) ≡ Some (asked.delete id)
unfolding command_of delete_of delete_data
delete_asked id is = ap (option_map asked.delete) (id_is id is)

pub delete-is : (id : ℕ) → IsId id → is_utf8 (delete_line id) ≡ true → line_command (delete_line id) ≡ Some (asked.delete id)
unfolding delete_json
delete-is id is utf8 =
    line-is (delete_line id) (delete_json id) (delete_data id) (asked.delete id) refl utf8 (tt, (IsNumber-decimal id (small id is), tt)) (omega arith)
    (delete_read id is) (delete_asked id is)

-- ---- edit

edit_json : ℕ → Text → Text → Json
edit_json id name text =
    json.object (json.member (codes "cmd") (json.string (codes "edit")) (json.member (codes "id") (json.number (decimal id))
    (json.member name (json.string text) json.no_members)))

title_data : ℕ → Text → Data
title_data id text =
    tree.object (tree.member (codes "cmd") (tree.string (codes "edit")) (tree.member (codes "id") (tree.number (unsigned id))
    (tree.member (codes "title") (tree.string text) tree.no_members)))

content_data : ℕ → Text → Data
content_data id text =
    tree.object (tree.member (codes "cmd") (tree.string (codes "edit")) (tree.member (codes "content") (tree.string text)
    (tree.member (codes "id") (tree.number (unsigned id)) tree.no_members)))

title_read : (id : ℕ) (text : Text) → IsId id → of_json (edit_json id (codes "title") text) ≡ Some (title_data id text)
unfolding edit_json title_data
title_read id text is = rw (number_of-decimal id (small id is)) refl

content_read : (id : ℕ) (text : Text) → IsId id → of_json (edit_json id (codes "content") text) ≡ Some (content_data id text)
unfolding edit_json content_data
content_read id text is = rw (number_of-decimal id (small id is)) refl

title_asked : (id : ℕ) (text : Text) → IsId id → command_of (title_data id text) ≡ Some (asked.edit id None (Some text) None None)
unfolding command_of edit_of title_data
title_asked id text is = rw (id_is id is) refl

content_asked : (id : ℕ) (text : Text) → IsId id → command_of (content_data id text) ≡ Some (asked.edit id None None (Some text) None)
unfolding command_of edit_of content_data
content_asked id text is = rw (id_is id is) refl

pub title-is : (id : ℕ) (text : Text) → IsId id → is_utf8 (edit_line id (codes "title") text) ≡ true
    → line_command (edit_line id (codes "title") text) ≡ Some (asked.edit id None (Some text) None None)
unfolding edit_json
title-is id text is utf8 =
    line-is (edit_line id (codes "title") text) (edit_json id (codes "title") text) (title_data id text) (asked.edit id None (Some text) None None) refl utf8
    (tt, (IsNumber-decimal id (small id is), (tt, tt))) (omega arith) (title_read id text is) (title_asked id text is)

pub content-is : (id : ℕ) (text : Text) → IsId id → is_utf8 (edit_line id (codes "content") text) ≡ true
    → line_command (edit_line id (codes "content") text) ≡ Some (asked.edit id None None (Some text) None)
unfolding edit_json
content-is id text is utf8 =
    line-is (edit_line id (codes "content") text) (edit_json id (codes "content") text) (content_data id text) (asked.edit id None None (Some text) None) refl utf8
    (tt, (IsNumber-decimal id (small id is), (tt, tt))) (omega arith) (content_read id text is) (content_asked id text is)
