-- What a line asks for has names, IDs and trees such as a site may store.
use Rattle.std.proofs.Common.{◌≡◌, ℕ, List, Bool, true, false, Option, None, Some, length, refl}
use Rattle.std.specs.Prelude.{⊤, codes, IfSome, nat_le, ◌&&◌, option_and_then, if◌then◌else◌}
use Rattle.std.specs.Str.{bytes_eq, is_utf8}
use Rattle.std.proofs.lemmas.Bool.{and_parts, leb-true}
use Rattle.json.specs.Json as json
use Rattle.serde_json.specs.Data.{Data}
use Rattle.serde_json.specs.Find.{get, as_number, as_u64}
use Rattle.json.specs.Lex.{tokens}
use Rattle.serde_json.specs.Read.{read, of_json, max_depth}
use Rattle.site_records.specs.Ids.{max_id}
use Rattle.site_values.specs.Named.{kind_named, status_named, status_given, option_named, id_at, number_at}
use Rattle.site_values.specs.Tree.{with_found, text_at, text_or, text_given, whole_in}
use Rattle.site_commands.specs.Asked.{Asked, put_of, edit_of, delete_of, option_of, activate_of, deactivate_of, template_of, import_of, get_of, begin_of, turns_of, named_command, command_of}
use Rattle.site_commands.specs.Asked as asked
use Rattle.site_commands.specs.Tree.{tree_of}
use Rattle.site_commands.specs.Worked.{line_command}
use Rattle.site_laws.specs.Stored.{IsId, IsOptionName}
use Rattle.site_laws.proofs.Results.{five_found, some_with, some_any, some_mapped, some_if, some_map}
use Rattle.site_laws.proofs.Trees.{IsOrdered, read_ordered, got_ordered}

-- what a command brings
abbrev pub IsAsked : Asked → Type 0
IsAsked (asked.option name value) = IsOptionName name
IsAsked (asked.template name body) = IsOrdered body
IsAsked (asked.import site) = IsOrdered site
IsAsked _ = ⊤

pub option_name : (o : Option (List ℕ)) → IfSome (option_and_then option_named o) IsOptionName
option_name o = some_any IsOptionName option_named (λ name. at name (nat_le 1 (length name) && nat_le (length name) 64) refl) o
  where
    at : (name : List ℕ) (b : Bool) → (nat_le 1 (length name) && nat_le (length name) 64) ≡ b → IfSome (if b then Some name else None) IsOptionName
    at name true is = let parts = and_parts (nat_le 1 (length name)) (nat_le (length name) 64) is in
        record { least = leb-true 1 (length name) parts.0; most = leb-true (length name) 64 parts.1 }
    at name false is = tt

pub id_found : (key : List ℕ) (tree : Data) → IfSome (id_at key tree) IsId
id_found key tree =
    some_any IsId (whole_in 1 max_id) (λ n. at n (nat_le 1 n && nat_le n max_id) refl) (option_and_then as_u64 (option_and_then as_number (get key tree)))
  where
    at : (n : ℕ) (b : Bool) → (nat_le 1 n && nat_le n max_id) ≡ b → IfSome (if b then Some n else None) IsId
    at n true is = let parts = and_parts (nat_le 1 n) (nat_le n max_id) is in record { least = leb-true 1 n parts.0; most = leb-true n max_id parts.1 }
    at n false is = tt

module _ (tree : Data) (is : IsOrdered tree) where
  put_is : IfSome (put_of tree) IsAsked
  unfolding put_of
  put_is =
      five_found IsAsked asked.put (λ kind status title content date. tt) (option_and_then kind_named (text_or (codes "kind") (codes "post") tree))
      (option_and_then status_named (text_or (codes "status") (codes "publish") tree)) (text_or (codes "title") (codes "") tree)
      (text_or (codes "content") (codes "") tree) (text_at (codes "date") tree)

  edit_is : IfSome (edit_of tree) IsAsked
  unfolding edit_of
  edit_is =
      five_found IsAsked asked.edit (λ id status title content date. tt) (id_at (codes "id") tree) (status_given tree) (text_given (codes "title") tree)
      (text_given (codes "content") tree) (text_given (codes "date") tree)

  delete_is : IfSome (delete_of tree) IsAsked
  unfolding delete_of
  delete_is = some_mapped IsAsked asked.delete (λ id. tt) (id_at (codes "id") tree)

  option_is : IfSome (option_of tree) IsAsked
  unfolding option_of
  option_is =
      some_with IsOptionName IsAsked (λ name. with_found (text_at (codes "value") tree) (λ value. Some (asked.option name value)))
      (λ name named. some_any IsAsked (λ value. Some (asked.option name value)) (λ value. named) (text_at (codes "value") tree))
      (option_and_then option_named (text_at (codes "name") tree)) (option_name (text_at (codes "name") tree))

  activate_is : IfSome (activate_of tree) IsAsked
  unfolding activate_of
  activate_is = some_mapped IsAsked asked.activate (λ plugin. tt) (text_at (codes "plugin") tree)

  deactivate_is : IfSome (deactivate_of tree) IsAsked
  unfolding deactivate_of
  deactivate_is = some_mapped IsAsked asked.deactivate (λ plugin. tt) (text_at (codes "plugin") tree)

  template_is : IfSome (template_of tree) IsAsked
  unfolding template_of
  template_is =
      some_any IsAsked (λ name. with_found (get (codes "body") tree) (λ body. Some (asked.template name body)))
      (λ name. some_with IsOrdered IsAsked (λ body. Some (asked.template name body)) (λ body ordered. ordered) (get (codes "body") tree)
      (got_ordered (codes "body") tree is)) (text_at (codes "name") tree)

  import_is : IfSome (import_of tree) IsAsked
  unfolding import_of
  import_is = some_map IsOrdered IsAsked asked.import (λ site ordered. ordered) (get (codes "site") tree) (got_ordered (codes "site") tree is)

  get_is : IfSome (get_of tree) IsAsked
  unfolding get_of
  get_is = some_mapped IsAsked asked.get (λ path. tt) (text_at (codes "path") tree)

  begin_is : IfSome (begin_of tree) IsAsked
  unfolding begin_of
  begin_is = some_mapped IsAsked asked.begin (λ path. tt) (text_at (codes "path") tree)

  turns_is : IfSome (turns_of tree) IsAsked
  unfolding turns_of
  turns_is =
      some_any IsAsked (λ page. with_found (number_at (codes "count") 1000000 tree) (λ count. Some (asked.turns page count)))
      (λ page. some_any IsAsked (λ count. Some (asked.turns page count)) (λ count. tt) (number_at (codes "count") 1000000 tree)) (number_at (codes "page") 8 tree)

  named_is : (name : List ℕ) → IfSome (named_command name tree) IsAsked
  named_is name =
      some_if IsAsked (bytes_eq name (codes "put")) (put_of tree) _ put_is (some_if IsAsked (bytes_eq name (codes "edit")) (edit_of tree) _ edit_is (some_if IsAsked (bytes_eq name (codes "delete")) (delete_of tree) _ delete_is
      (some_if IsAsked (bytes_eq name (codes "option")) (option_of tree) _ option_is (some_if IsAsked (bytes_eq name (codes "activate")) (activate_of tree) _ activate_is
      (some_if IsAsked (bytes_eq name (codes "deactivate")) (deactivate_of tree) _ deactivate_is
      (some_if IsAsked (bytes_eq name (codes "template")) (template_of tree) _ template_is (some_if IsAsked (bytes_eq name (codes "import")) (import_of tree) _ import_is
      (some_if IsAsked (bytes_eq name (codes "get")) (get_of tree) _ get_is (some_if IsAsked (bytes_eq name (codes "begin")) (begin_of tree) _ begin_is
      (some_if IsAsked (bytes_eq name (codes "turns")) (turns_of tree) None turns_is tt))))))))))

  command_is : IfSome (command_of tree) IsAsked
  unfolding command_of
  command_is = some_any IsAsked (λ name. named_command name tree) named_is (text_at (codes "cmd") tree)

read_is : (text : List ℕ) → IfSome (read text) IsOrdered
read_is text = some_any IsOrdered of_json read_ordered (option_and_then (λ p. json.if_last p.0 p.1) (json.value max_depth (tokens text)))

line_tree : (line : List ℕ) → IfSome (tree_of line) IsOrdered
unfolding tree_of
line_tree line = some_if IsOrdered (is_utf8 line) (read line) None (read_is line) tt

pub line_is_asked : (line : List ℕ) → IfSome (line_command line) IsAsked
line_is_asked line = some_with IsOrdered IsAsked command_of command_is (tree_of line) (line_tree line)
