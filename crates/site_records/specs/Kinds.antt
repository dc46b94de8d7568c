-- The names of kinds and of statuses, as commands and the database have them.
use Rattle.std.specs.Prelude.{codes}
use Rattle.plain_data.specs.Texts.{Text}
use Rattle.site_records.specs.declared.post.PostKind.{PostKind}
use Rattle.site_records.specs.declared.post.PostKind.TheVariants.{Post as OfPost, Page as OfPage}
use Rattle.site_records.specs.declared.post.PostStatus.{PostStatus}
use Rattle.site_records.specs.declared.post.PostStatus.TheVariants.{Publish, Draft}

abbrev pub kind_text : PostKind → Text
kind_text OfPost = codes "post"
kind_text OfPage = codes "page"

abbrev pub status_text : PostStatus → Text
status_text Publish = codes "publish"
status_text Draft = codes "draft"
