-- What a site file holds is such as a site may store.
use Rattle.std.proofs.Common.{◌≡◌, ℕ, ◌≤◌, List, [], ◌∷◌, ◌++◌, Bool, true, false, Option, None, Some, Result, Ok, Err, length, decimal, refl, arith}
use Rattle.std.specs.Prelude.{codes, IfSome, IfOk, is_some, nat_le, ◌&&◌, option_map, option_and_then, if◌then◌else◌}
use Rattle.std.specs.Str.{bytes_eq}
use Rattle.std.specs.List.{AllByRecursion}
use Rattle.std.proofs.lemmas.Bool.{and_parts, leb-true}
use Rattle.std.proofs.lemmas.Fmt.{length-decimal-le}
use Rattle.serde_json.specs.Data.{Data, null, boolean, number, string, array, object, Items, Members, no_members, member}
use Rattle.serde_json.specs.Find.{get, as_object, as_array, as_str}
use Rattle.site_records.specs.Dates.{is_post_date}
use Rattle.site_records.specs.declared.post.Post.{Post}
use Rattle.site_records.specs.declared.post.SiteRecords.{SiteRecords}
use Rattle.site_values.specs.Limits.{max_title, max_content, max_value, fits}
use Rattle.site_values.specs.Named.{kind_named, status_named, option_named, id_at}
use Rattle.site_values.specs.Tree.{with_found, text_at}
use Rattle.template_trees.specs.Trees.{template_of}
use Rattle.template_trees.specs.declared.fault.TemplateFault.{TemplateFault}
use Rattle.template_trees.specs.declared.tree.Template.{Template}
use Rattle.site_import.specs.Walks.{Read, whole, entry_of, and_read, of_form, each_from, section_of, list_of, members_of}
use Rattle.site_import.specs.Posts.{shape_of, checked_post, post_at, posts_in, posts_of}
use Rattle.site_import.specs.Options.{pair_of, checked_option, option_at, options_of}
use Rattle.site_import.specs.Front.{shown_named, options_for, front_of}
use Rattle.site_import.specs.Templates.{stored_at, template_at, templates_of}
use Rattle.site_import.specs.Active.{active_of}
use Rattle.site_import.specs.Site.{version_of, front_in, options_in, records_in, site_file_of}
use Rattle.site_import.specs.declared.fault.Place.{Place}
use Rattle.site_import.specs.declared.fault.Section.TheVariants as section
use Rattle.site_import.specs.declared.fault.ImportFault.TheVariants as fault
use Rattle.site_laws.specs.Stored.{IsId, IsOptionName, IsPost, IsOption, IsTemplate}
use Rattle.site_laws.proofs.Commands.{option_name, id_found}
use Rattle.site_laws.proofs.Results.{six_found, some_with, some_any, read_with, each_read, form_is, section_is, all_append}
use Rattle.site_laws.proofs.Shapes.{stored_template}
use Rattle.site_laws.proofs.Trees.{IsOrdered, Rise, got_ordered}

-- the records of a site file
pub record AreStorable (records : SiteRecords) : Type 0 where
  pub posts : AllByRecursion IsPost records.posts
  pub options : AllByRecursion IsOption records.options
  pub templates : AllByRecursion IsTemplate records.templates

anything : (ds : List Data) → AllByRecursion (λ _. Unit {0}) ds
anything [] = tt
anything (d ∷ ds) = (tt, anything ds)

any_found : (o : Option Data) → IfSome o (λ _. Unit {0})
any_found None = tt
any_found (Some d) = tt

any_items : (o : Option Items) → IfSome o (λ _. Unit {0})
any_items None = tt
any_items (Some ds) = tt

-- ---- posts

shape_is : (tree : Data) → IfSome (shape_of tree) (λ p. IsId p.id)
unfolding shape_of
shape_is tree =
    six_found IsId (λ p. IsId p.id)
    (λ id kind status title content date. record { id = id; kind = kind; status = status; title = title; content = content; date = date })
    (λ id is kind status title content date. is) (id_at (codes "id") tree) (id_found (codes "id") tree)
    (option_and_then kind_named (text_at (codes "kind") tree)) (option_and_then status_named (text_at (codes "status") tree))
    (text_at (codes "title") tree) (text_at (codes "content") tree) (text_at (codes "date") tree)

checked : (place : Place) (p : Post) → IsId p.id → IfOk (checked_post place p) IsPost
checked place p id = at (fits max_title p.title && fits max_content p.content) (is_post_date p.date) refl refl
  where
    at : (b c : Bool) → (fits max_title p.title && fits max_content p.content) ≡ b → is_post_date p.date ≡ c
        → IfOk (if b then (if c then Ok p else Err (fault.BadDate place)) else Err (fault.TooLarge place)) IsPost
    at true true sizes dated =
        let parts = and_parts (fits max_title p.title) (fits max_content p.content) sizes in
        record { id = id; title = leb-true (length p.title) max_title parts.0; content = leb-true (length p.content) max_content parts.1; date = dated }
    at true false sizes dated = tt
    at false c sizes dated = tt

post_is : (n : ℕ) (tree : Data) → IfOk (post_at n tree) IsPost
post_is n tree =
    read_with (λ p. IsId p.id) IsPost (checked_post (entry_of section.Posts n)) (checked (entry_of section.Posts n))
    (of_form (entry_of section.Posts n) (shape_of tree)) (form_is (λ p. IsId p.id) (entry_of section.Posts n) (shape_of tree) (shape_is tree))

posts_are : (tree : Data) → IfOk (posts_of tree) (AllByRecursion IsPost)
unfolding posts_of
posts_are tree =
    read_with (λ _. Unit {0}) (AllByRecursion IsPost) (λ items. posts_in (list_of items)) (λ items _. at (list_of items) (nat_le (length (list_of items)) 10000))
    (of_form (whole section.Posts) (as_array tree)) (form_is (λ _. Unit {0}) (whole section.Posts) (as_array tree) (any_items (as_array tree)))
  where
    at : (trees : List Data) (b : Bool) → IfOk (if b then each_from post_at 0 trees else Err (fault.TooLarge (whole section.Posts))) (AllByRecursion IsPost)
    at trees true = each_read (λ _. Unit {0}) IsPost post_at (λ n tree _. post_is n tree) 0 trees (anything trees)
    at trees false = tt

-- ---- options

abbrev Entry : Type 0
Entry = List ℕ × Data

any_entries : (es : List Entry) → AllByRecursion (λ _. Unit {0}) es
any_entries [] = tt
any_entries (e ∷ es) = (tt, any_entries es)

option_checked : (place : Place) (pair : List ℕ × List ℕ) → IsOptionName pair.0 → IfOk (checked_option place pair) IsOption
option_checked place pair name = at (fits max_value pair.1) refl
  where
    at : (b : Bool) → fits max_value pair.1 ≡ b → IfOk (if b then Ok pair else Err (fault.TooLarge place)) IsOption
    at true size = record { name = name; value = leb-true (length pair.1) max_value size }
    at false size = tt

option_is : (n : ℕ) (entry : Entry) → IfOk (option_at n entry) IsOption
option_is n entry =
    let P : (List ℕ × List ℕ) → Type 0 = λ pair. IsOptionName pair.0 in
    read_with P IsOption (checked_option (entry_of section.Options n)) (option_checked (entry_of section.Options n))
    (of_form (entry_of section.Options n) (pair_of entry.0 entry.1))
    (form_is P (entry_of section.Options n) (pair_of entry.0 entry.1)
    (some_with IsOptionName P (λ name. with_found (as_str entry.1) (λ value. Some (name, value)))
    (λ name named. some_any P (λ value. Some (name, value)) (λ value. named) (as_str entry.1)) (option_named entry.0) (option_name (Some entry.0))))

options_are : (tree : Data) → IfOk (options_of tree) (AllByRecursion IsOption)
unfolding options_of
options_are tree =
    read_with (λ _. Unit {0}) (AllByRecursion IsOption) (λ members. each_from option_at 0 (members_of members))
    (λ members _. each_read (λ _. Unit {0}) IsOption option_at (λ n entry _. option_is n entry) 0 (members_of members) (any_entries (members_of members)))
    (of_form (whole section.Options) (as_object tree)) (form_is (λ _. Unit {0}) (whole section.Options) (as_object tree) (any (as_object tree)))
  where
    any : (o : Option Members) → IfSome o (λ _. Unit {0})
    any None = tt
    any (Some ms) = tt

short : (id : ℕ) → IsId id → length (decimal id) ≤ 10
short id is = let most = is.most in length-decimal-le 10 id (omega arith) (omega (arith, most)) (omega (arith, most))

-- what the two ways to show a front set, whatever the type that names them
front_sets : {X : Type 0} (posts : X) (page : ℕ → X) (sets : X → List (List ℕ × List ℕ)) (b c : Bool) (o : Option ℕ) → AllByRecursion IsOption (sets posts)
    → ((id : ℕ) → IsId id → AllByRecursion IsOption (sets (page id))) → IfSome o IsId
    → IfSome (option_map sets (if b then Some posts else (if c then option_map page o else None))) (AllByRecursion IsOption)
front_sets posts page sets true c o one other is = one
front_sets posts page sets false false o one other is = tt
front_sets posts page sets false true None one other is = tt
front_sets posts page sets false true (Some id) one other is = other id is

front_named : (tree : Data) (name : List ℕ) → IfSome (option_map options_for (shown_named tree name)) (AllByRecursion IsOption)
front_named tree name =
    front_sets _ _ options_for (bytes_eq name (codes "posts")) (bytes_eq name (codes "page")) (id_at (codes "page") tree)
    (record { name = record { least = omega arith; most = omega arith }; value = omega arith }, tt)
    (λ id is. let digits = short id is in (
      record { name = record { least = omega arith; most = omega arith }; value = omega arith },
      (record { name = record { least = omega arith; most = omega arith }; value = omega (arith, digits) }, tt),
    ))
    (id_found (codes "page") tree)

front_found : (tree : Data) (o : Option (List ℕ)) → IfSome (option_map options_for (option_and_then (shown_named tree) o)) (AllByRecursion IsOption)
front_found tree None = tt
front_found tree (Some name) = front_named tree name

front_is : (tree : Data) → IfOk (front_of tree) (AllByRecursion IsOption)
unfolding front_of
front_is tree = form_is (AllByRecursion IsOption) (whole section.Front) _ (front_found tree (text_at (codes "show") tree))

all_options : (version : ℕ) (tree : Data) → IfOk (options_in version tree) (AllByRecursion IsOption)
all_options version tree =
    let All = AllByRecursion IsOption in
    read_with All All (λ options. and_read (section_of front_of (front_in version tree)) (λ front. Ok (options ++ front)))
    (λ options are. read_with All All (λ front. Ok (options ++ front)) (λ front also. all_append IsOption options front are also)
    (section_of front_of (front_in version tree))
    (section_is IsOption (λ _. Unit {0}) front_of (λ t _. front_is t) (front_in version tree) (any_found (front_in version tree))))
    (section_of options_of (get (codes "options") tree))
    (section_is IsOption (λ _. Unit {0}) options_of (λ t _. options_are t) (get (codes "options") tree) (any_found (get (codes "options") tree)))

-- ---- templates

template_is : (n : ℕ) (entry : Entry) → IsOrdered entry.1 → IfOk (template_at n entry) IsTemplate
template_is n entry ordered = at (template_of entry.0 entry.1) refl
  where
    at : (r : Result Template TemplateFault) → template_of entry.0 entry.1 ≡ r → IfOk (stored_at (entry_of section.Templates n) entry.0 entry.1 r) IsTemplate
    at (Ok t) is = stored_template entry.0 entry.1 t ordered is
    at (Err e) is = tt

entries_ordered : (ms : Members) → Rise ms → AllByRecursion (λ e. IsOrdered e.1) (members_of ms)
entries_ordered no_members rise = tt
entries_ordered (member k d ms) rise = (rise.1.0, entries_ordered ms rise.1.1)

object_ordered : (tree : Data) → IsOrdered tree → IfSome (as_object tree) Rise
object_ordered null is = tt
object_ordered (boolean b) is = tt
object_ordered (number n) is = tt
object_ordered (string s) is = tt
object_ordered (array ds) is = tt
object_ordered (object ms) is = is

templates_are : (tree : Data) → IsOrdered tree → IfOk (templates_of tree) (AllByRecursion IsTemplate)
unfolding templates_of
templates_are tree ordered =
    read_with Rise (AllByRecursion IsTemplate) (λ members. each_from template_at 0 (members_of members))
    (λ members rise. each_read (λ e. IsOrdered e.1) IsTemplate template_at template_is 0 (members_of members) (entries_ordered members rise))
    (of_form (whole section.Templates) (as_object tree)) (form_is Rise (whole section.Templates) (as_object tree) (object_ordered tree ordered))

-- ---- all of it

any_texts : (r : Read (List (List ℕ))) → IfOk r (λ _. Unit {0})
any_texts (Ok ts) = tt
any_texts (Err e) = tt

records_are : (version : ℕ) (tree : Data) → IsOrdered tree → IfOk (records_in version tree) AreStorable
unfolding records_in
records_are version tree ordered =
    read_with (AllByRecursion IsPost) AreStorable (λ posts. and_read (options_in version tree) (after_options posts))
    (λ posts ps. read_with (AllByRecursion IsOption) AreStorable (after_options posts)
    (λ options os. read_with (AllByRecursion IsTemplate) AreStorable (after_templates posts options)
    (λ templates ts. read_with (λ _. Unit {0}) AreStorable (λ active. Ok (record { posts = posts; options = options; templates = templates; active = active }))
    (λ active _. record { posts = ps; options = os; templates = ts })
    (section_of active_of (get (codes "active") tree)) (any_texts (section_of active_of (get (codes "active") tree))))
    (section_of templates_of (get (codes "templates") tree))
    (section_is IsTemplate IsOrdered templates_of templates_are (get (codes "templates") tree) (got_ordered (codes "templates") tree ordered)))
    (options_in version tree) (all_options version tree))
    (section_of posts_of (get (codes "posts") tree))
    (section_is IsPost (λ _. Unit {0}) posts_of (λ t _. posts_are t) (get (codes "posts") tree) (any_found (get (codes "posts") tree)))
  where
    after_templates : List Post → List (List ℕ × List ℕ) → List (List ℕ × List ℕ) → Read SiteRecords
    after_templates posts options templates =
        and_read (section_of active_of (get (codes "active") tree)) (λ active.
        Ok (record { posts = posts; options = options; templates = templates; active = active }))

    after_options : List Post → List (List ℕ × List ℕ) → Read SiteRecords
    after_options posts options = and_read (section_of templates_of (get (codes "templates") tree)) (after_templates posts options)

pub file_storable : (tree : Data) → IsOrdered tree → IfOk (site_file_of tree) AreStorable
unfolding site_file_of
file_storable tree ordered = at (is_some (as_object tree))
  where
    any : (o : Option ℕ) → IfSome o (λ _. Unit {0})
    any None = tt
    any (Some n) = tt

    at : (b : Bool) → IfOk (if b then and_read (of_form (whole section.Version) (version_of tree)) (λ version. records_in version tree) else Err (fault.BadImport (whole section.Root))) AreStorable
    at true =
        read_with (λ _. Unit {0}) AreStorable (λ version. records_in version tree) (λ version _. records_are version tree ordered)
        (of_form (whole section.Version) (version_of tree)) (form_is (λ _. Unit {0}) (whole section.Version) (version_of tree) (any (version_of tree)))
    at false = tt
