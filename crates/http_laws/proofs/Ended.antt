-- Each response says where it ends.
use Rattle.std.proofs.Common.{◌≡◌, inl, inr, ℕ, true, List, ◌++◌, Option, length, refl}
use Rattle.std.specs.Prelude.{◌==◌}
use Rattle.std.proofs.lemmas.Bool.{cases_Bool}
use Rattle.http1.specs.Fields.{Header}
use Rattle.http1.specs.Text.{eq_ignore_case}
use Rattle.http_laws.specs.Ends.{SaysItsEnd}
use Rattle.http_messages.specs.declared.entity_tag.EntityTag.{EntityTag}
use Rattle.http_messages.specs.declared.request.RequestFault.{RequestFault}
use Rattle.http_messages.specs.declared.request.RequestFault.TheVariants.{Failed}
use Rattle.http_messages.specs.EntityTag.{is_met, tag_text}
use Rattle.http_messages.specs.Response.{commands_response, content_fields, fault_of, fault_response, fields_of, page_response, reply_response, text, text_of}
use Rattle.http_laws.specs.Reading.{states_length}
use Rattle.site_replies.specs.Reply.{ReplyData, done, done_id, refused, page}

-- content comes with its length, whatever other fields there are
content-ends : (type : List ℕ) (len : ℕ) (more : List Header) → states_length (content_fields type len ++ more) ≡ true
unfolding eq_ignore_case
content-ends type len more = refl

pub commands-end : (replies : List ℕ) → SaysItsEnd (commands_response replies)
unfolding eq_ignore_case
commands-end replies = inl refl

pub fault-ends : (fault : RequestFault) → SaysItsEnd (fault_response fault)
fault-ends fault = inl (content-ends text (length (text_of fault)) (fields_of fault))

page-ends : (tag : EntityTag) (condition : Option (List ℕ)) (status : ℕ) (bytes : List ℕ) → SaysItsEnd (page_response tag condition status bytes)
unfolding eq_ignore_case
page-ends tag condition status bytes = elim (cases_Bool (status == 200)) [
  | inl found ↦ rw found (elim (cases_Bool (is_met condition (tag_text tag))) [
    | inl has ↦ rw has (inr refl)
    | inr hasnt ↦ rw hasnt (inl refl)
  ])
  | inr other ↦ rw other (inl refl)
]

pub reply-ends : (tag : EntityTag) (condition : Option (List ℕ)) (reply : ReplyData) → SaysItsEnd (reply_response tag condition reply)
reply-ends tag condition (page status bytes) = page-ends tag condition status bytes
reply-ends tag condition (refused why) = fault-ends (fault_of why)
reply-ends tag condition done = fault-ends Failed
reply-ends tag condition (done_id id) = fault-ends Failed
