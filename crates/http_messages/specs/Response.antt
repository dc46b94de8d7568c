-- The responses. None of their fields has a byte of the request.
use Rattle.std.specs.Prelude.{ℕ, List, [], ◌∷◌, ◌++◌, Option, length, codes, decimal, if◌then◌else◌, ◌==◌}
use Rattle.http1.specs.Fields.{Header}
use Rattle.http_server.specs.declared.response.Response.{Response}
use Rattle.http_server.specs.Response.{IsResponse}
use Rattle.site_replies.specs.declared.reply.Refusal.{Refusal}
use Rattle.site_replies.specs.declared.reply.Refusal.TheVariants as refusal
use Rattle.site_replies.specs.Reply.{ReplyData, done, done_id, refused, page}
use Rattle.http_messages.specs.declared.entity_tag.EntityTag.{EntityTag}
use Rattle.http_messages.specs.declared.request.RequestFault.{RequestFault}
use Rattle.http_messages.specs.declared.request.RequestFault.TheVariants.{BadTarget, NoToken, NoEdits, OnlyPages, UnknownMethod, TooLong, Failed, Unavailable}
use Rattle.http_messages.specs.EntityTag.{is_met, tag_text}

-- a status, fields and content, wherever they lie in memory
pub record ResponseData : Type 0 where
  pub status : ℕ
  pub fields : List Header
  pub content : List ℕ

-- the response has them
abbrev pub Shows : ResponseData → Response → Type 0
Shows said = IsResponse said.status said.fields said.content

abbrev pub html : List ℕ
html = codes "text/html; charset=utf-8"

abbrev pub text : List ℕ
text = codes "text/plain; charset=utf-8"

-- what content of this type and length is sent with
abbrev pub content_fields : List ℕ → ℕ → List Header
content_fields type len = (codes "content-type", type) ∷ (codes "content-length", decimal len) ∷ []

abbrev pub tag_field : EntityTag → Header
tag_field tag = (codes "etag", tag_text tag)

-- the client has the page already
abbrev pub not_modified : EntityTag → ResponseData
not_modified tag = record { status = 304; fields = tag_field tag ∷ []; content = [] }

abbrev pub found : EntityTag → List ℕ → ResponseData
found tag bytes = record { status = 200; fields = content_fields html (length bytes) ++ tag_field tag ∷ []; content = bytes }

-- a page of another status, as 404, has no tag, and no condition counts for it (RFC 9110, section 13.2.1)
abbrev pub page_response : EntityTag → Option (List ℕ) → ℕ → List ℕ → ResponseData
page_response tag condition status bytes =
    if status == 200 then (if is_met condition (tag_text tag) then not_modified tag else found tag bytes)
    else record { status = status; fields = content_fields html (length bytes); content = bytes }

abbrev pub status_of : RequestFault → ℕ
status_of BadTarget = 400
status_of NoToken = 401
status_of NoEdits = 403
status_of OnlyPages = 405
status_of TooLong = 414
status_of Failed = 500
status_of UnknownMethod = 501
status_of Unavailable = 503

-- what the client is told
abbrev pub text_of : RequestFault → List ℕ
text_of BadTarget = codes "the target has no path\n"
text_of NoToken = codes "edits need their token\n"
text_of NoEdits = codes "no edits are taken here\n"
text_of OnlyPages = codes "there are only pages here\n"
text_of TooLong = codes "the path is too long\n"
text_of Failed = codes "the page failed\n"
text_of UnknownMethod = codes "the method is unknown\n"
text_of Unavailable = codes "memory ran out\n"

-- the field that the status asks for (RFC 9110, sections 11.6.1 and 15.5.6)
abbrev pub fields_of : RequestFault → List Header
fields_of NoToken = (codes "www-authenticate", codes "Bearer") ∷ []
fields_of OnlyPages = (codes "allow", codes "GET, HEAD") ∷ []
fields_of _ = []

abbrev pub fault_response : RequestFault → ResponseData
fault_response fault = record {
  status = status_of fault;
  fields = content_fields text (length (text_of fault)) ++ fields_of fault;
  content = text_of fault;
}

-- why a page was refused
abbrev pub fault_of : Refusal → RequestFault
fault_of refusal.TooLarge = TooLong
fault_of refusal.OutOfMemory = Unavailable
fault_of _ = Failed

-- the response to a request for a page, from the site's reply
abbrev pub reply_response : EntityTag → Option (List ℕ) → ReplyData → ResponseData
reply_response tag condition (page status body) = page_response tag condition status body
reply_response tag condition (refused why) = fault_response (fault_of why)
reply_response tag condition done = fault_response Failed
reply_response tag condition (done_id id) = fault_response Failed

-- the response to commands: the bytes of the site's replies
abbrev pub commands_response : List ℕ → ResponseData
commands_response replies = record { status = 200; fields = content_fields text (length replies); content = replies }
