-- What came of a command over a site: definitions for private clauses.
use Rattle.std.specs.Prelude.{◌≡◌, true, Option, Result, IfOk, IfErr, OnErr}
use Rattle.site_commands.specs.Asked.{Asked}
use Rattle.site_replies.specs.declared.reply.SiteReply.{SiteReply}
use Rattle.site_replies.specs.Reply.{ReplyData, reply_data}
use Rattle.post_tables.specs.declared.fault.StoreFault.{StoreFault}
use Rattle.post_tables.specs.declared.fault.StoreFault.TheVariants.{Store}
use Rattle.site_program.specs.State.{State}
use Rattle.site_program.specs.Step.{IsLeftBy, place_given, may_be_late_at}

-- the database refused in place of a reply that its refusal may replace, and nothing has changed
pub record IsLate (command : Option Asked) (before : State) (meant : State × ReplyData) (after : State) : Type 0 where
  pub same : after ≡ before
  pub late : may_be_late_at command before.rows.step_limit meant.1 ≡ true

-- the site and the reply are those that are meant; or an allocation failed, and at most the page that the command gives
-- turns to is closed; or the database refused
pub record CarriesOn (command : Option Asked) (before : State) (meant : State × ReplyData) (result : Result SiteReply StoreFault) (after : State) : Type 0 where
  pub ok : IfOk result (λ reply. (after, reply_data reply) ≡ meant)
  pub err : OnErr result (IsLeftBy (place_given command) before after)
  pub late : IfErr result (λ fault. fault ≡ Store → IsLate command before meant after)
