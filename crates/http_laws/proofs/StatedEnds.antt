-- A response that says where it ends is read in the same way, whatever follows.
use Rattle.std.proofs.Common.{◌≡◌, ◌≢◌, ◌⊎◌, inl, inr, ◌∙◌, ℕ, true, List, [], ◌∷◌, ◌++◌, codes, refl, sym, ap, append-nil, Ok}
use Rattle.std.specs.Prelude.{◌&&◌}
use Rattle.std.specs.List.{list_all}
use Rattle.std.proofs.lemmas.Bool.{cases_Bool}
use Rattle.httparse.proofs.GrammarLemmas.{ReadsResponse-append}
use Rattle.http1.specs.declared.conn.Limits.{Limits}
use Rattle.http1.specs.declared.fields.ContentLength.{ContentLength}
use Rattle.http1.specs.declared.fields.ContentLength.TheVariants as Length
use Rattle.http1.specs.declared.fields.TransferEncoding.{TransferEncoding}
use Rattle.http1.specs.declared.fields.TransferEncoding.TheVariants as Coding
use Rattle.http1.specs.declared.framing.Framing.{Framing}
use Rattle.http1.specs.declared.framing.Framing.TheVariants.{NoBody, Length as Sized, UntilClose}
use Rattle.http1.specs.declared.framing.MethodKind.{MethodKind}
use Rattle.http1.specs.declared.framing.MethodKind.TheVariants.{Head, Connect, Other}
use Rattle.http1.specs.Body.{Body, ReadsBody}
use Rattle.std.specs.Str.Parse.{digits_value}
use Rattle.http1.specs.Fields.{Header, content_length, is_named, is_number, is_number_of, known_fields, values_named}
use Rattle.http1.specs.Framing.{by_fields, has_no_body, is_bodiless_status, response_framing}
use Rattle.http1.specs.Message.{Response, ReadsResponseMessage}
use Rattle.http_laws.specs.Reading.{states_length}

-- ---- lengths that are stated

-- how many bytes follow the head, if that is stated
abbrev pub IsSized : Framing → Type 0
IsSized framing = (framing ≡ NoBody) ⊎ ((n : ℕ) × (framing ≡ Sized n))

pub states-append : (hs more : List Header) → states_length hs ≡ true → states_length (hs ++ more) ≡ true
states-append [] more is = absurd (cc)
states-append (h ∷ hs) more is = elim (cases_Bool (is_named (codes "content-length") h)) [
  | inl named ↦ rw named refl
  | inr other ↦ rw other (states-append hs more (rw other at is))
]

stated_value : (hs : List Header) → states_length hs ≡ true → values_named (codes "content-length") hs ≢ []
stated_value [] is none = absurd (cc)
stated_value (h ∷ hs) is none = elim (cases_Bool (is_named (codes "content-length") h)) [
  | inl named ↦ let bad = rw named at none in absurd (cc)
  | inr other ↦ stated_value hs (rw other at is) (rw other at none)
]

given_length : (es : List (List ℕ)) → es ≢ [] → content_length es ≢ Length.Absent
given_length [] some absent = some refl
given_length (e ∷ es) some absent = elim (cases_Bool (is_number e && list_all (is_number_of (digits_value 10 e)) es)) [
  | inl is ↦ let bad = rw is at absent in absurd (cc)
  | inr isnt ↦ let bad = rw isnt at absent in absurd (cc)
]

sized_by : (minor : ℕ) (te : TransferEncoding) (cl : ContentLength) (f : Framing) → cl ≢ Length.Absent
    → by_fields minor UntilClose (Ok UntilClose) te cl ≡ Ok f → IsSized f
sized_by minor te Length.Absent f given is = absurd (given refl)
sized_by minor Coding.Absent (Length.Value n) f given is = let same : Sized n ≡ f = cc in inr (n, sym same)
sized_by minor Coding.Absent Length.Invalid f given is = absurd (cc)
sized_by minor Coding.Chunked (Length.Value n) f given is = absurd (cc)
sized_by minor Coding.Chunked Length.Invalid f given is = absurd (cc)
sized_by minor Coding.Other (Length.Value n) f given is = absurd (cc)
sized_by minor Coding.Other Length.Invalid f given is = absurd (cc)
sized_by minor Coding.Blank (Length.Value n) f given is = absurd (cc)
sized_by minor Coding.Blank Length.Invalid f given is = absurd (cc)
sized_by minor Coding.Invalid (Length.Value n) f given is = absurd (cc)
sized_by minor Coding.Invalid Length.Invalid f given is = absurd (cc)

bodiless : (method : MethodKind) (status : ℕ) → is_bodiless_status status ≡ true → has_no_body method status ≡ true
bodiless Head status is = refl
bodiless Connect status is = rw is refl
bodiless Other status is = is

pub framing_is_sized : (method : MethodKind) (status minor : ℕ) (hs : List Header) (f : Framing)
    → (states_length hs ≡ true) ⊎ (is_bodiless_status status ≡ true)
    → response_framing method status minor (known_fields hs) ≡ Ok f → IsSized f
unfolding known_fields
framing_is_sized method status minor hs f ends is = elim (cases_Bool (has_no_body method status)) [
  | inl none ↦ let same : Ok NoBody ≡ Ok f = rw none at is in let framing : NoBody ≡ f = cc in inl (sym framing)
  | inr some ↦ elim ends [
    | inl stated ↦ sized_by minor _ _ f (given_length _ (stated_value hs stated)) (rw some at is)
    | inr bare ↦ let bad = sym some ∙ bodiless method status bare in absurd (cc)
  ]
]

-- ---- what follows

body_goes_on : (limits : Limits) (f : Framing) (after : List ℕ) (body : Body) (more : List ℕ) → IsSized f → ReadsBody limits f after body []
    → ReadsBody limits f (after ++ more) body more
body_goes_on limits f after body more (inl is) reads = rw is (at (rw is at reads))
  where
    at : ReadsBody limits NoBody after body [] → ReadsBody limits NoBody (after ++ more) body more
    at (len, cut, trailers) = (len, ap (λ t. t ++ more) (cut ∙ append-nil body.bytes), trailers)
body_goes_on limits f after body more (inr (n, is)) reads = rw is (at (rw is at reads))
  where
    at : ReadsBody limits (Sized n) after body [] → ReadsBody limits (Sized n) (after ++ more) body more
    at (len, cut, trailers) = (len, ap (λ t. t ++ more) (cut ∙ append-nil body.bytes), trailers)

pub message_goes_on : (limits : Limits) (method : MethodKind) (text : List ℕ) (m : Response) (more : List ℕ)
    → (read : ReadsResponseMessage limits method text m []) → IsSized read.framing → ReadsResponseMessage limits method (text ++ more) m more
message_goes_on limits method text m more read sized = record {
  framing = read.framing;
  after_head = read.after_head ++ more;
  head = record {
    reads = ReadsResponse-append text m.head read.after_head more read.head.reads;
    strict = read.head.strict;
    status = read.head.status;
    framed = read.head.framed;
  };
  body = body_goes_on limits read.framing read.after_head m.body more sized read.body;
}
