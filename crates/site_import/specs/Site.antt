-- The records of a whole site file.
use Rattle.std.specs.Prelude.{ℕ, nat_le, List, ◌++◌, codes, Option, None, is_some, Ok, Err, if◌then◌else◌}
use Rattle.std.specs.Str.{is_utf8}
use Rattle.serde_json.specs.Data.{Data}
use Rattle.serde_json.specs.Find.{get, as_object}
use Rattle.serde_json.specs.Read.{read}
use Rattle.site_records.specs.declared.post.SiteRecords.{SiteRecords}
use Rattle.site_values.specs.Tree.{whole_at}
use Rattle.site_import.specs.Walks.{Read, whole, and_read, of_form, section_of}
use Rattle.site_import.specs.Posts.{posts_of}
use Rattle.site_import.specs.Options.{options_of}
use Rattle.site_import.specs.Front.{front_of}
use Rattle.site_import.specs.Templates.{templates_of}
use Rattle.site_import.specs.Active.{active_of}
use Rattle.site_import.specs.declared.fault.Section.TheVariants.{Text, Root, Version}
use Rattle.site_import.specs.declared.fault.ImportFault.TheVariants.{BadImport}

-- the versions that are known, 1 and 2
abbrev pub version_of : Data → Option ℕ
version_of tree = whole_at (codes "version") 1 2 tree

-- the value of `front`, which is a section from version 2 on
abbrev pub front_in : ℕ → Data → Option Data
front_in version tree = if nat_le 2 version then get (codes "front") tree else None

-- all options that are set: those of the section `options`, and after them what `front` says
abbrev pub options_in : ℕ → Data → Read (List (List ℕ × List ℕ))
options_in version tree =
    and_read (section_of options_of (get (codes "options") tree)) (λ options.
    and_read (section_of front_of (front_in version tree)) (λ front. Ok (options ++ front)))

-- the sections of that version, in this order
unfoldable pub records_in : ℕ → Data → Read SiteRecords
records_in version tree =
    and_read (section_of posts_of (get (codes "posts") tree)) (λ posts.
    and_read (options_in version tree) (λ options.
    and_read (section_of templates_of (get (codes "templates") tree)) (λ templates.
    and_read (section_of active_of (get (codes "active") tree)) (λ active.
    Ok (record { posts = posts; options = options; templates = templates; active = active })))))

-- an object of a version that is known, and its sections
unfoldable pub site_file_of : Data → Read SiteRecords
site_file_of tree =
    if is_some (as_object tree) then
    and_read (of_form (whole Version) (version_of tree)) (λ version. records_in version tree)
    else Err (BadImport (whole Root))

-- the same of bytes, which are one JSON value in UTF-8 (RFC 8259)
unfoldable pub site_file_in : List ℕ → Read SiteRecords
site_file_in bytes = and_read (of_form (whole Text) (if is_utf8 bytes then read bytes else None)) site_file_of
