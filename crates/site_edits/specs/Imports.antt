-- What the command `import` does to a site's rows.
use Rattle.std.specs.Prelude.{List, Bool, is_some, Ok, Err, if◌then◌else◌}
use Rattle.std.specs.List.{list_all}
use Rattle.callback_store.specs.Shape.{Shape, load_of}
use Rattle.serde_json.specs.Data.{Data}
use Rattle.plain_data.specs.Texts.{Text}
use Rattle.post_tables.specs.Rows.{Rows, are_new, with_records}
use Rattle.site_records.specs.declared.post.SiteRecords.{SiteRecords}
use Rattle.site_import.specs.Walks.{Read}
use Rattle.site_import.specs.Site.{site_file_of}
use Rattle.site_import.specs.declared.fault.ImportFault.{ImportFault}
use Rattle.site_import.specs.declared.fault.ImportFault.TheVariants as fault
use Rattle.site_replies.specs.declared.reply.Refusal.TheVariants.{BadImport, BadDate, BadTemplate, TooLarge, OutOfMemory, UnknownPlugin, DuplicateId}
use Rattle.site_replies.specs.Reply.{ReplyData, done, refused}

-- the refusal for a fault of a site file
abbrev pub import_refusal : ImportFault → ReplyData
import_refusal (fault.BadImport place) = refused BadImport
import_refusal (fault.BadDate place) = refused BadDate
import_refusal (fault.BadTemplate place) = refused BadTemplate
import_refusal (fault.TooLarge place) = refused TooLarge
import_refusal fault.OutOfMemory = refused OutOfMemory

-- whether the plugins have all of these names
abbrev pub are_known : List Shape → List Text → Bool
are_known plugins names = list_all (λ name. is_some (load_of plugins name)) names

-- the records are added, if no two of their posts have the same ID and no stored post has one of them
abbrev pub rows_with_records : Rows → SiteRecords → Rows × ReplyData
rows_with_records rows records =
    if are_new records.posts rows.posts
    then (with_records records rows, done)
    else (rows, refused DuplicateId)

-- all of a site file's records are added, or none: each plugin that is active in it has to exist
abbrev pub rows_after_import : List Shape → Rows → Read SiteRecords → Rows × ReplyData
rows_after_import plugins rows (Err why) = (rows, import_refusal why)
rows_after_import plugins rows (Ok records) =
    if are_known plugins records.active then rows_with_records rows records else (rows, refused UnknownPlugin)

-- `import`: what a site file holds is added to what there is (WordPress Importer)
unfoldable pub import : List Shape → Rows → Data → Rows × ReplyData
import plugins rows site = rows_after_import plugins rows (site_file_of site)
