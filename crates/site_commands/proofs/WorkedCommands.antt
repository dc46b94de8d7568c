-- Worked lines, computed.
use Rattle.std.proofs.Common.{◌≡◌, ℕ, None, Some, codes, refl}
use Rattle.std.specs.Prelude.{replicate}
use Rattle.std.specs.Str.{is_utf8, chars}
use Rattle.serde_json.proofs.OnLiterals.{serde_json_on_literals}
use Rattle.serde_json.specs.Data.{null, string, array, no_items, item, object, no_members}
use Rattle.site_records.specs.declared.post.PostKind.TheVariants.{Post, Page}
use Rattle.site_records.specs.declared.post.PostStatus.TheVariants.{Publish, Draft}
use Rattle.site_commands.specs.Tree.{tree_of}
use Rattle.site_commands.specs.Asked.{put, edit, delete, option, activate, deactivate, template, import, get, begin, turns, command_of, put_of, edit_of}
use Rattle.site_commands.specs.Asked.{delete_of}
use Rattle.site_commands.specs.Asked.{option_of, activate_of, deactivate_of, template_of, import_of, get_of, begin_of, turns_of}
use Rattle.site_values.specs.Named.{option_named}
use Rattle.site_commands.specs.Worked.{line_command}

-- what computes in the lines below
computes : ℕ
unfolding tree_of command_of put_of edit_of delete_of option_of activate_of deactivate_of template_of import_of get_of begin_of turns_of serde_json_on_literals
    is_utf8
    chars
computes = 0

pub defaults : line_command (codes "{\"cmd\":\"put\",\"date\":\"2024-05-01 10:00:00\"}")
    ≡ Some (put Post Publish (codes "") (codes "") (codes "2024-05-01 10:00:00"))
unfolding computes
defaults = refl

pub page_draft : line_command (codes "{\"cmd\":\"put\",\"kind\":\"page\",\"status\":\"draft\",\"date\":\"D\"}")
    ≡ Some (put Page Draft (codes "") (codes "") (codes "D"))
unfolding computes
page_draft = refl

pub texts : line_command (codes "{\"cmd\":\"put\",\"title\":\"T\",\"content\":\"C\",\"date\":\"D\"}")
    ≡ Some (put Post Publish (codes "T") (codes "C") (codes "D"))
unfolding computes
texts = refl

pub no_date : line_command (codes "{\"cmd\":\"put\",\"title\":\"T\"}") ≡ None
unfolding computes
no_date = refl

pub null_title : line_command (codes "{\"cmd\":\"put\",\"title\":null,\"date\":\"D\"}") ≡ None
unfolding computes
null_title = refl

pub other_kind : line_command (codes "{\"cmd\":\"put\",\"kind\":\"Page\",\"date\":\"D\"}") ≡ None
unfolding computes
other_kind = refl

pub other_status : line_command (codes "{\"cmd\":\"put\",\"status\":\"private\",\"date\":\"D\"}") ≡ None
unfolding computes
other_status = refl

pub edited : line_command (codes "{\"cmd\":\"edit\",\"id\":1,\"title\":\"U\"}") ≡ Some (edit 1 None (Some (codes "U")) None None)
unfolding computes
edited = refl

pub ignored_kind : line_command (codes "{\"cmd\":\"edit\",\"id\":2,\"status\":\"draft\",\"kind\":null}") ≡ Some (edit 2 (Some Draft) None None None)
unfolding computes
ignored_kind = refl

pub null_status : line_command (codes "{\"cmd\":\"edit\",\"id\":1,\"status\":null}") ≡ None
unfolding computes
null_status = refl

pub greatest_id : line_command (codes "{\"cmd\":\"delete\",\"id\":2147483647}") ≡ Some (delete 2147483647)
unfolding computes
greatest_id = refl

pub greater_id : line_command (codes "{\"cmd\":\"delete\",\"id\":2147483648}") ≡ None
unfolding computes
greater_id = refl

pub id_0 : line_command (codes "{\"cmd\":\"delete\",\"id\":0}") ≡ None
unfolding computes
id_0 = refl

pub minus_0 : line_command (codes "{\"cmd\":\"delete\",\"id\":-0}") ≡ None
unfolding computes
minus_0 = refl

pub fraction : line_command (codes "{\"cmd\":\"delete\",\"id\":1.0}") ≡ None
unfolding computes
fraction = refl

pub exponent : line_command (codes "{\"cmd\":\"delete\",\"id\":1e0}") ≡ None
unfolding computes
exponent = refl

pub id_in_a_text : line_command (codes "{\"cmd\":\"delete\",\"id\":\"1\"}") ≡ None
unfolding computes
id_in_a_text = refl

pub set : line_command (codes "{\"cmd\":\"option\",\"name\":\"posts_per_page\",\"value\":\"5\"}") ≡ Some (option (codes "posts_per_page") (codes "5"))
unfolding computes
set = refl

pub no_name : line_command (codes "{\"cmd\":\"option\",\"name\":\"\",\"value\":\"5\"}") ≡ None
unfolding computes
no_name = refl

pub longest_name : option_named (replicate 64 97) ≡ Some (replicate 64 97)
longest_name = refl

pub longer_name : option_named (replicate 65 97) ≡ None
longer_name = refl

pub activated : line_command (codes "{\"cmd\":\"activate\",\"plugin\":\"bold\"}") ≡ Some (activate (codes "bold"))
unfolding computes
activated = refl

pub deactivated : line_command (codes "{\"cmd\":\"deactivate\",\"plugin\":\"bold\"}") ≡ Some (deactivate (codes "bold"))
unfolding computes
deactivated = refl

pub templated : line_command (codes "{\"cmd\":\"template\",\"name\":\"index\",\"body\":[\"x\"]}")
    ≡ Some (template (codes "index") (array (item (string (codes "x")) no_items)))
unfolding computes
templated = refl

pub null_body : line_command (codes "{\"cmd\":\"template\",\"name\":\"x\",\"body\":null}") ≡ Some (template (codes "x") null)
unfolding computes
null_body = refl

pub no_body : line_command (codes "{\"cmd\":\"template\",\"name\":\"index\"}") ≡ None
unfolding computes
no_body = refl

pub unnamed_template : line_command (codes "{\"cmd\":\"template\",\"body\":[]}") ≡ None
unfolding computes
unnamed_template = refl

pub imported : line_command (codes "{\"cmd\":\"import\",\"site\":{}}") ≡ Some (import (object no_members))
unfolding computes
imported = refl

pub null_site : line_command (codes "{\"cmd\":\"import\",\"site\":null}") ≡ Some (import null)
unfolding computes
null_site = refl

pub no_site : line_command (codes "{\"cmd\":\"import\"}") ≡ None
unfolding computes
no_site = refl

pub asked_for : line_command (codes "{\"cmd\":\"get\",\"path\":\"/?p=1\"}") ≡ Some (get (codes "/?p=1"))
unfolding computes
asked_for = refl

pub no_path : line_command (codes "{\"cmd\":\"get\"}") ≡ None
unfolding computes
no_path = refl

pub begun : line_command (codes "{\"cmd\":\"begin\",\"path\":\"/?p=1\"}") ≡ Some (begin (codes "/?p=1"))
unfolding computes
begun = refl

pub no_path_to_begin : line_command (codes "{\"cmd\":\"begin\"}") ≡ None
unfolding computes
no_path_to_begin = refl

pub turned : line_command (codes "{\"cmd\":\"turns\",\"page\":1,\"count\":3}") ≡ Some (turns 1 3)
unfolding computes
turned = refl

pub most_turns : line_command (codes "{\"cmd\":\"turns\",\"page\":8,\"count\":1000000}") ≡ Some (turns 8 1000000)
unfolding computes
most_turns = refl

pub more_turns : line_command (codes "{\"cmd\":\"turns\",\"page\":1,\"count\":1000001}") ≡ None
unfolding computes
more_turns = refl

pub count_0 : line_command (codes "{\"cmd\":\"turns\",\"page\":1,\"count\":0}") ≡ None
unfolding computes
count_0 = refl

pub page_0 : line_command (codes "{\"cmd\":\"turns\",\"page\":0,\"count\":1}") ≡ None
unfolding computes
page_0 = refl

pub page_9 : line_command (codes "{\"cmd\":\"turns\",\"page\":9,\"count\":1}") ≡ None
unfolding computes
page_9 = refl

pub no_count : line_command (codes "{\"cmd\":\"turns\",\"page\":1}") ≡ None
unfolding computes
no_count = refl

pub last_value : line_command (codes "{\"path\":\"/x\",\"cmd\":\"get\",\"path\":\"/\"}") ≡ Some (get (codes "/"))
unfolding computes
last_value = refl

pub no_such_command : line_command (codes "{\"cmd\":\"publish\",\"id\":1}") ≡ None
unfolding computes
no_such_command = refl

pub no_object : line_command (codes "[\"get\",\"/\"]") ≡ None
unfolding computes
no_object = refl
