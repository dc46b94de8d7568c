-- Worked site files, computed.
use Rattle.std.proofs.Common.{◌≡◌, ◌++◌, ℕ, [], ◌∷◌, Ok, Err, codes, refl}
use Rattle.std.specs.Fmt.{digits}
use Rattle.std.specs.Str.{is_utf8, chars}
use Rattle.serde_json.proofs.OnLiterals.{serde_json_on_literals}
use Rattle.site_records.specs.Dates.{is_post_date}
use Rattle.site_records.specs.declared.post.PostKind.TheVariants.{Page}
use Rattle.site_records.specs.declared.post.PostStatus.TheVariants.{Draft}
use Rattle.template_trees.specs.Trees.{template_of, tree_of, is_template_name, part_named, all_of, node_of, node_in, element_of, item_of, fits, count_of}
use Rattle.template_trees.specs.Trees.{text_bytes}
use Rattle.site_import.specs.declared.fault.Section.TheVariants.{Text, Root, Version, Posts, Options, Front, Templates, Active}
use Rattle.site_import.specs.declared.fault.ImportFault.TheVariants.{BadImport, BadDate, BadTemplate}
use Rattle.site_import.specs.Walks.{whole, entry_of}
use Rattle.site_import.specs.Posts.{shape_of, posts_of}
use Rattle.site_import.specs.Options.{options_of}
use Rattle.site_import.specs.Templates.{templates_of}
use Rattle.site_import.specs.Active.{active_of}
use Rattle.site_import.specs.Front.{front_of}
use Rattle.site_import.specs.Site.{records_in, site_file_of, site_file_in}
use Rattle.site_import.specs.Worked.{no_records, file_of, post_of}

-- what computes in the files below
computes : ℕ
unfolding site_file_in site_file_of records_in shape_of posts_of options_of front_of
    templates_of active_of is_post_date template_of tree_of is_template_name part_named all_of
    node_of node_in element_of item_of fits count_of text_bytes serde_json_on_literals is_utf8 chars digits
computes = 0

pub no_text : site_file_in (codes "{\"version\":1") ≡ Err (BadImport (whole Text))
unfolding computes
no_text = refl

pub no_object : site_file_in (codes "[]") ≡ Err (BadImport (whole Root))
unfolding computes
no_object = refl

pub null_site : site_file_in (codes "null") ≡ Err (BadImport (whole Root))
unfolding computes
null_site = refl

pub no_version : site_file_in (codes "{}") ≡ Err (BadImport (whole Version))
unfolding computes
no_version = refl

pub version_3 : site_file_in (codes "{\"version\":3}") ≡ Err (BadImport (whole Version))
unfolding computes
version_3 = refl

pub version_in_a_text : site_file_in (codes "{\"version\":\"1\"}") ≡ Err (BadImport (whole Version))
unfolding computes
version_in_a_text = refl

pub version_with_fraction : site_file_in (codes "{\"version\":1.0}") ≡ Err (BadImport (whole Version))
unfolding computes
version_with_fraction = refl

pub nothing : site_file_in (codes "{\"version\":1}") ≡ Ok no_records
unfolding computes
nothing = refl

pub version_2 : site_file_in (codes "{\"version\":2}") ≡ Ok no_records
unfolding computes
version_2 = refl

pub other_keys : site_file_in (codes "{\"version\":1,\"front\":0,\"x\":null}") ≡ Ok no_records
unfolding computes
other_keys = refl

pub page : site_file_in
    (file_of (codes "{\"id\":7,\"kind\":\"page\",\"status\":\"draft\","
    ++ codes "\"title\":\"T\",\"content\":\"C\",\"date\":\"2024-05-01 10:00:00\"}"))
    ≡ Ok (record no_records {
      posts = record {
        id = 7;
        kind = Page;
        status = Draft;
        title = codes "T";
        content = codes "C";
        date = codes "2024-05-01 10:00:00";
      } ∷ [];
    })
unfolding computes
page = refl

pub null_posts : site_file_in (codes "{\"version\":1,\"posts\":null}") ≡ Err (BadImport (whole Posts))
unfolding computes
null_posts = refl

pub post_without_content : site_file_in
    (file_of (codes "{\"id\":1,\"kind\":\"post\",\"status\":\"publish\","
    ++ codes "\"title\":\"T\",\"date\":\"2024-05-01 10:00:00\"}"))
    ≡ Err (BadImport (entry_of Posts 0))
unfolding computes
post_without_content = refl

pub id_0 : site_file_in
    (file_of (post_of (codes "0") (codes "2024-05-01 10:00:00")))
    ≡ Err (BadImport (entry_of Posts 0))
unfolding computes
id_0 = refl

pub second_date : site_file_in
    (file_of (post_of (codes "1") (codes "2024-05-01 10:00:00")
    ++ (codes "," ++ post_of (codes "2") (codes "2024-02-30 10:00:00"))))
    ≡ Err (BadDate (entry_of Posts 1))
unfolding computes
second_date = refl

pub first_post_first : site_file_in
    (file_of (post_of (codes "1") (codes "2024-02-30 10:00:00") ++ codes ",0"))
    ≡ Err (BadDate (entry_of Posts 0))
unfolding computes
first_post_first = refl

pub options : site_file_in (codes "{\"version\":1,\"options\":{\"b\":\"2\",\"a\":\"1\"}}")
    ≡ Ok (record no_records { options = (codes "a", codes "1") ∷ (codes "b", codes "2") ∷ [] })
unfolding computes
options = refl

pub later_option : site_file_in (codes "{\"version\":1,\"options\":{\"b\":2,\"a\":\"1\"}}") ≡ Err (BadImport (entry_of Options 1))
unfolding computes
later_option = refl

pub unnamed_option : site_file_in (codes "{\"version\":1,\"options\":{\"\":\"1\"}}") ≡ Err (BadImport (entry_of Options 0))
unfolding computes
unnamed_option = refl

pub options_in_a_list : site_file_in (codes "{\"version\":1,\"options\":[]}") ≡ Err (BadImport (whole Options))
unfolding computes
options_in_a_list = refl

pub template : site_file_in (codes "{\"version\":1,\"templates\":{\"index\":[ \"x\" ]}}")
    ≡ Ok (record no_records { templates = (codes "index", codes "[\"x\"]") ∷ [] })
unfolding computes
template = refl

pub unknown_template : site_file_in (codes "{\"version\":1,\"templates\":{\"x\":[],\"index\":[]}}") ≡ Err (BadTemplate (entry_of Templates 1))
unfolding computes
unknown_template = refl

pub null_template : site_file_in (codes "{\"version\":1,\"templates\":{\"index\":null}}") ≡ Err (BadTemplate (entry_of Templates 0))
unfolding computes
null_template = refl

pub active : site_file_in (codes "{\"version\":1,\"active\":[\"once\",\"bold\"]}") ≡ Ok (record no_records { active = codes "once" ∷ codes "bold" ∷ [] })
unfolding computes
active = refl

pub active_number : site_file_in (codes "{\"version\":1,\"active\":[\"once\",1]}") ≡ Err (BadImport (entry_of Active 1))
unfolding computes
active_number = refl

pub front_page : site_file_in (codes "{\"version\":2,\"front\":{\"show\":\"page\",\"page\":7}}")
    ≡ Ok (record no_records { options = (codes "show_on_front", codes "page") ∷ (codes "page_on_front", codes "7") ∷ [] })
unfolding computes
front_page = refl

pub front_posts : site_file_in (codes "{\"version\":2,\"front\":{\"show\":\"posts\",\"page\":0}}")
    ≡ Ok (record no_records { options = (codes "show_on_front", codes "posts") ∷ [] })
unfolding computes
front_posts = refl

pub front_after_options : site_file_in (codes "{\"version\":2,\"front\":{\"show\":\"posts\"},\"options\":{\"show_on_front\":\"page\",\"x\":\"1\"}}")
    ≡ Ok (record no_records { options = (codes "show_on_front", codes "page") ∷ (codes "x", codes "1") ∷ (codes "show_on_front", codes "posts") ∷ [] })
unfolding computes
front_after_options = refl

pub front_in_version_1 : site_file_in (codes "{\"version\":1,\"front\":{\"show\":\"page\",\"page\":7}}") ≡ Ok no_records
unfolding computes
front_in_version_1 = refl

pub front_x : site_file_in (codes "{\"version\":2,\"front\":{\"show\":\"x\"}}") ≡ Err (BadImport (whole Front))
unfolding computes
front_x = refl

pub front_without_page : site_file_in (codes "{\"version\":2,\"front\":{\"show\":\"page\"}}") ≡ Err (BadImport (whole Front))
unfolding computes
front_without_page = refl

pub front_page_0 : site_file_in (codes "{\"version\":2,\"front\":{\"show\":\"page\",\"page\":0}}") ≡ Err (BadImport (whole Front))
unfolding computes
front_page_0 = refl

pub null_front : site_file_in (codes "{\"version\":2,\"front\":null}") ≡ Err (BadImport (whole Front))
unfolding computes
null_front = refl

pub posts_before_options : site_file_in (codes "{\"version\":1,\"options\":0,\"posts\":0}") ≡ Err (BadImport (whole Posts))
unfolding computes
posts_before_options = refl

pub options_before_templates : site_file_in (codes "{\"version\":1,\"templates\":0,\"options\":0}") ≡ Err (BadImport (whole Options))
unfolding computes
options_before_templates = refl

pub options_before_front : site_file_in (codes "{\"version\":2,\"front\":0,\"options\":0}") ≡ Err (BadImport (whole Options))
unfolding computes
options_before_front = refl

pub front_before_templates : site_file_in (codes "{\"version\":2,\"templates\":0,\"front\":0}") ≡ Err (BadImport (whole Front))
unfolding computes
front_before_templates = refl

pub templates_before_active : site_file_in (codes "{\"version\":1,\"active\":0,\"templates\":{\"x\":[]}}") ≡ Err (BadTemplate (entry_of Templates 0))
unfolding computes
templates_before_active = refl
