-- What came of a command over the rows.
use Rattle.std.specs.Prelude.{◌≡◌, true, Result, IfOk, IfErr, OnErr}
use Rattle.post_tables.specs.Rows.{Rows}
use Rattle.site_replies.specs.declared.reply.SiteReply.{SiteReply}
use Rattle.site_replies.specs.Reply.{ReplyData, reply_data}
use Rattle.post_tables.specs.declared.fault.StoreFault.{StoreFault}
use Rattle.post_tables.specs.declared.fault.StoreFault.TheVariants.{Store}
use Rattle.site_edits.specs.Late.{may_be_late}

-- the rows and the reply are those that are meant; or an allocation failed or the database refused, and no row has
-- changed. The database refuses only in place of a reply that may be late
pub record CarriesOut (before : Rows) (meant : Rows × ReplyData) (result : Result SiteReply StoreFault) (after : Rows) : Type 0 where
  pub ok : IfOk result (λ reply. (after, reply_data reply) ≡ meant)
  pub err : OnErr result (after ≡ before)
  pub late : IfErr result (λ fault. fault ≡ Store → may_be_late before.step_limit meant.1 ≡ true)
