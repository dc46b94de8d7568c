-- What values can't change: the marks of what is printed.
use Rattle.std.proofs.Common.{◌≡◌, ◌==◌, ◌||◌, ◌<◌, ◌≢◌, ◌-◌, ℕ, true, false, List, [], ◌∷◌, ◌++◌, codes, bytes_eq, cond, refl, ap, sym, ◌∙◌, subst, arith, rules, nat_le, Option, Some, None}
use Rattle.std.proofs.Common.{if◌then◌else◌, flat_map, ◌⊎◌, inl, inr}
use Rattle.std.specs.Prelude.{option_map, is_some}
use Rattle.std.specs.Char.{to_ascii_lowercase}
use Rattle.std.specs.Map.{lookup}
use Rattle.std.specs.Option.{option_map_or}
use Rattle.plain_data.specs.Steps.{only_if}
use Rattle.std.specs.List.{list_any, AllByRecursion}
use Rattle.std.proofs.lemmas.Bool.{eqb-true}
use Rattle.std.proofs.lemmas.Bool.Decides.{nat_tests}
use Rattle.std.proofs.lemmas.List.Elements.{filter-append}
use Rattle.page_escapes.specs.Escapes.{entity, html_escaped}
use Rattle.hook_changes.specs.declared.reply.Answer.{Answer}
use Rattle.hook_changes.specs.declared.reply.Answer.TheVariants as answer
use Rattle.hook_changes.specs.declared.reply.Call.{Call}
use Rattle.hook_changes.specs.declared.reply.Then.TheVariants as next
use Rattle.hook_changes.specs.declared.reply.Ask.TheVariants.{Shortcodes}
use Rattle.hook_changes.specs.Replies.{answers_text, asks, prints_and_answers}
use Rattle.snippets.specs.Markup.{is_mark, marks, emptied, emptied_arguments, emptied_call, markup_of}
use Rattle.snippets.specs.Places.{Place, Between, takes_values}
use Rattle.snippets.specs.Snippets.{says, registers, draws, runs, gives, is_filter, first_argument, second_argument, values_of, values_in}
use Rattle.snippets.specs.Templates.{Part, Own, Value, Opening, Inverted, Closing, Piece, Fixed, Shown, Inner, Values, begins, is_script, safe, shown, non_empty, given, text_in}
use Rattle.snippets.specs.Templates.{piece_under, piece_of, place_past, left_out_after, pieces_from, pieces_of, parts_of, printed}

abbrev Text : Type 0
Text = List ℕ

-- what holds of each entity, and of each byte without one, holds of whatever a byte becomes
module _ (P : ℕ → Text → Type 0) (amp : P 38 (codes "&amp;")) (lt : P 60 (codes "&lt;")) (gt : P 62 (codes "&gt;")) (quot : P 34 (codes "&quot;"))
    (apos : P 39 (codes "&#039;"))
    (other : (b : ℕ) → (b == 38) ≡ false → (b == 60) ≡ false → (b == 62) ≡ false → (b == 34) ≡ false → (b == 39) ≡ false → P b (b ∷ [])) where
  moved : (b c : ℕ) (text : Text) → (b == c) ≡ true → P c text → P b text
  moved b c text same holds = subst (λ d. P d text) (sym (eqb-true b c same)) holds

  entity_cases : (b : ℕ) → P b (entity b)
  entity_cases b =
      elim (b == 38) as (λ v. (b == 38) ≡ v → P b (if v then codes "&amp;" else (if b == 60 then codes "&lt;" else (if b == 62 then codes "&gt;"
      else (if b == 34 then codes "&quot;" else (if b == 39 then codes "&#039;" else b ∷ [])))))) [
        | true ↦ λ t. moved b 38 _ t amp
        | false ↦ λ o.
            elim (b == 60) as (λ v. (b == 60) ≡ v → P b (if v then codes "&lt;" else (if b == 62 then codes "&gt;"
            else (if b == 34 then codes "&quot;" else (if b == 39 then codes "&#039;" else b ∷ []))))) [
              | true ↦ λ t. moved b 60 _ t lt
              | false ↦ λ p.
                  elim (b == 62) as (λ v. (b == 62) ≡ v → P b (if v then codes "&gt;"
                  else (if b == 34 then codes "&quot;" else (if b == 39 then codes "&#039;" else b ∷ [])))) [
                    | true ↦ λ t. moved b 62 _ t gt
                    | false ↦ λ q.
                        elim (b == 34) as (λ v. (b == 34) ≡ v → P b (if v then codes "&quot;" else (if b == 39 then codes "&#039;" else b ∷ []))) [
                          | true ↦ λ t. moved b 34 _ t quot
                          | false ↦ λ r.
                              elim (b == 39) as (λ v. (b == 39) ≡ v → P b (if v then codes "&#039;" else b ∷ [])) [
                                | true ↦ λ t. moved b 39 _ t apos
                                | false ↦ λ s. other b o p q r s
                              ] refl
                        ] refl
                  ] refl
            ] refl
      ] refl

-- an escaped text has no marks
plain_marks : (b : ℕ) → (b == 38) ≡ false → (b == 60) ≡ false → (b == 62) ≡ false → (b == 34) ≡ false → (b == 39) ≡ false → marks (b ∷ []) ≡ []
plain_marks b o p q r s = rw (p, q, r, s) refl

entity_marks : (b : ℕ) → marks (entity b) ≡ []
entity_marks b = entity_cases (λ c text. marks text ≡ []) refl refl refl refl refl plain_marks b

escaped_marks : (text : Text) → marks (html_escaped text) ≡ []
escaped_marks [] = refl
escaped_marks (b ∷ rest) = filter-append is_mark (entity b) (html_escaped rest) ∙ (λ i. entity_marks b i ++ escaped_marks rest i)

pub safe_marks : (value : Text) → marks (safe value) ≡ []
safe_marks value = elim (is_script value) as (λ v. marks (if v then [] else html_escaped value) ≡ []) [ true ↦ refl | false ↦ escaped_marks value ]

pub shown_marks : (place : Place) (value : Text) → marks (shown place value) ≡ []
shown_marks place value = elim (takes_values place) as (λ v. marks (if v then safe value else []) ≡ []) [ true ↦ safe_marks value | false ↦ refl ]

-- the same names are given, with empty values
abbrev nothing : Text → Text
nothing v = []

emptied_value : (name : Text) (values : Values) → lookup (bytes_eq name) (emptied values) ≡ option_map nothing (lookup (bytes_eq name) values)
emptied_value name [] = refl
emptied_value name (pair ∷ values) =
    elim (bytes_eq name pair.0) as (λ v. cond v (Some (nothing pair.1)) (lookup (bytes_eq name) (emptied values))
    ≡ option_map nothing (cond v (Some pair.1) (lookup (bytes_eq name) values))) [
      | true ↦ refl
      | false ↦ emptied_value name values
    ]

some_emptied : (o : Option Text) → is_some o ≡ is_some (option_map nothing o)
some_emptied None = refl
some_emptied (Some v) = refl

same_given : (values : Values) (content name : Text) → is_some (given values content name) ≡ is_some (given (emptied values) content name)
same_given values content name =
    elim (bytes_eq name (codes "content")) as (λ v.
    is_some (if v then non_empty content else lookup (bytes_eq name) values) ≡ is_some (if v then non_empty content else lookup (bytes_eq name) (emptied values))) [
      | true ↦ refl
      | false ↦ some_emptied (lookup (bytes_eq name) values) ∙ ap is_some (sym (emptied_value name values))
    ]

-- pieces that have the same marks and leave the same place
abbrev IsLike : Place → Piece → Piece → Type 0
IsLike place p q = (marks (text_in p) ≡ marks (text_in q)) × (place_past place p ≡ place_past place q)

abbrev of_value : Place → Text → Option Text → Piece
of_value place default o = option_map_or (λ value. Shown (shown place value)) o (Fixed default)

like_value : (place : Place) (default : Text) (o : Option Text) → IsLike place (of_value place default o) (of_value place default (option_map nothing o))
like_value place default None = (refl, refl)
like_value place default (Some v) = (shown_marks place v ∙ sym (shown_marks place []), refl)

like_under : (values : Values) (content : Text) (place : Place) (name default : Text)
    → IsLike place (piece_under values content place name default) (piece_under (emptied values) content place name default)
like_under values content place name default =
    elim (bytes_eq name (codes "content")) as (λ v.
    IsLike place (if v then option_map_or (λ text. Inner text) (non_empty content) (Fixed default) else of_value place default (lookup (bytes_eq name) values))
    (if v then option_map_or (λ text. Inner text) (non_empty content) (Fixed default) else of_value place default (lookup (bytes_eq name) (emptied values)))) [
      | true ↦ (refl, refl)
      | false ↦ subst (λ o. IsLike place (of_value place default (lookup (bytes_eq name) values)) (of_value place default o)) (sym (emptied_value name values))
          (like_value place default (lookup (bytes_eq name) values))
    ]

like_piece : (values : Values) (content : Text) (place : Place) (left_out : Option Text) (part : Part)
    → IsLike place (piece_of values content place left_out part) (piece_of (emptied values) content place left_out part)
like_piece values content place None (Own text) = (refl, refl)
like_piece values content place None (Value name default) = like_under values content place name default
like_piece values content place None (Opening name) = (refl, refl)
like_piece values content place None (Inverted name) = (refl, refl)
like_piece values content place None (Closing name) = (refl, refl)
like_piece values content place (Some left_out) part = (refl, refl)

same_left_out : (values : Values) (content : Text) (left_out : Option Text) (part : Part)
    → left_out_after values content left_out part ≡ left_out_after (emptied values) content left_out part
same_left_out values content None (Own text) = refl
same_left_out values content None (Value name default) = refl
same_left_out values content None (Opening name) = ap (λ v. if v then None else Some name) (same_given values content name)
same_left_out values content None (Inverted name) = ap (λ v. if v then Some name else None) (same_given values content name)
same_left_out values content None (Closing name) = refl
same_left_out values content (Some left_out) (Own text) = refl
same_left_out values content (Some left_out) (Value name default) = refl
same_left_out values content (Some left_out) (Opening name) = refl
same_left_out values content (Some left_out) (Inverted name) = refl
same_left_out values content (Some left_out) (Closing name) = refl

abbrev texts_from : Values → Text → Place → Option Text → List Part → Text
texts_from values content place left_out parts = flat_map text_in (pieces_from values content place left_out parts)

pieces_marks : (values : Values) (content : Text) (place : Place) (left_out : Option Text) (parts : List Part)
    → marks (texts_from values content place left_out parts) ≡ marks (texts_from (emptied values) content place left_out parts)
pieces_marks values content place left_out [] = refl
pieces_marks values content place left_out (part ∷ parts) =
    let p = piece_of values content place left_out part in
    let q = piece_of (emptied values) content place left_out part in
    let next = left_out_after values content left_out part in
    let other = left_out_after (emptied values) content left_out part in
    let like = like_piece values content place left_out part in
    filter-append is_mark (text_in p) (texts_from values content (place_past place p) next parts)
    ∙ (λ i. like.0 i ++ pieces_marks values content (place_past place p) next parts i)
    ∙ (λ i. marks (text_in q) ++ marks (texts_from (emptied values) content (like.1 i) (same_left_out values content left_out part i) parts))
    ∙ sym (filter-append is_mark (text_in q) (texts_from (emptied values) content (place_past place q) other parts))

pub template_marks : (template content : Text) (values : Values) → marks (printed template values content) ≡ marks (printed template (emptied values) content)
unfolding printed pieces_of
template_marks template content values = pieces_marks values content Between None (parts_of template)

-- a reply with other marks nowhere
text_marks : (text other : Text) → marks text ≡ marks other → markup_of (answers_text text) ≡ markup_of (answers_text other)
text_marks text other same = ap (λ m. record { changes = []; echo = []; next = next.Answer m }) same

gives_marks : (hook text other : Text) → marks text ≡ marks other → markup_of (gives hook text) ≡ markup_of (gives hook other)
gives_marks hook text other same =
    elim (is_filter hook) as (λ v. markup_of (if v then answers_text text else prints_and_answers text []) ≡ markup_of (if v then answers_text other else prints_and_answers other [])) [
      | true ↦ text_marks text other same
      | false ↦ ap (λ m. record { changes = []; echo = m; next = next.Answer [] }) same
    ]

-- the values of a call without its values
same_values : (call : Call) (args : List Text)
    → values_of (second_argument (emptied_arguments args)) (emptied call.atts.named) ≡ emptied (values_of (second_argument args) call.atts.named)
same_values call [] = refl
same_values call (value ∷ []) = refl
same_values call (value ∷ second ∷ more) = refl

same_first : (args : List Text) → first_argument (emptied_arguments args) ≡ first_argument args
same_first [] = refl
same_first (value ∷ []) = refl
same_first (value ∷ second ∷ more) = refl

-- what a template prints for the values of a call without its values
call_marks : (template content : Text) (call : Call) → marks (printed template (values_in call) content) ≡ marks (printed template (values_in (emptied_call call)) content)
call_marks template content call =
    template_marks template content (values_in call) ∙ ap (λ values. marks (printed template values content)) (sym (same_values call call.args))

draws_marks : (call : Call) (answers : List Answer) → markup_of (draws call answers) ≡ markup_of (draws (emptied_call call) answers)
draws_marks call [] = refl
draws_marks call (answer.Text template ∷ []) =
    elim (list_any (λ c. c == 91) call.content) as (λ v.
    markup_of (if v then asks (Shortcodes call.content) else answers_text (printed template (values_in call) call.content))
    ≡ markup_of (if v then asks (Shortcodes call.content) else answers_text (printed template (values_in (emptied_call call)) call.content))) [
      | true ↦ refl
      | false ↦ text_marks (printed template (values_in call) call.content) (printed template (values_in (emptied_call call)) call.content)
          (call_marks template call.content call)
    ]
draws_marks call (answer.Text template ∷ answer.Text content ∷ more) =
    text_marks (printed template (values_in call) content) (printed template (values_in (emptied_call call)) content) (call_marks template content call)
draws_marks call (other ∷ more) = refl

runs_marks : (priority : ℕ) (call : Call) (answers : List Answer) → markup_of (runs priority call answers) ≡ markup_of (runs priority (emptied_call call) answers)
runs_marks priority call [] = refl
runs_marks priority call (answer.Text template ∷ more) =
    let value = first_argument call.args in
    let without = values_in (emptied_call call) in
    gives_marks call.hook (printed template (values_in call) value) (printed template without (first_argument (emptied_call call).args))
    (call_marks template value call ∙ ap (λ first. marks (printed template without first)) (sym (same_first call.args)))
runs_marks priority call (other ∷ more) = ap (λ text. markup_of (answers_text text)) (sym (same_first call.args))

pub reply_marks : (number : ℕ) (call : Call) → markup_of (says number call) ≡ markup_of (says number (emptied_call call))
unfolding says
reply_marks number call =
    elim (number == 500) as (λ v.
    markup_of (if v then registers call.answers else (if number == 501 then draws call call.answers else runs (number - 502) call call.answers))
    ≡ markup_of (if v then registers call.answers else (if number == 501 then draws (emptied_call call) call.answers else runs (number - 502) (emptied_call call) call.answers))) [
      | true ↦ refl
      | false ↦
          elim (number == 501) as (λ v.
          markup_of (if v then draws call call.answers else runs (number - 502) call call.answers)
          ≡ markup_of (if v then draws (emptied_call call) call.answers else runs (number - 502) (emptied_call call) call.answers)) [
            | true ↦ draws_marks call call.answers
            | false ↦ runs_marks (number - 502) call call.answers
          ]
    ]

-- a byte of a scheme, in lower case, is no mark and no `&`
abbrev IsOfScheme : ℕ → Type 0
IsOfScheme s = (57 < s) × (s ≢ 60) × (s ≢ 62)

-- the bytes of an entity and the byte that it stands for begin no scheme
not_of_scheme : (s b : ℕ) → IsOfScheme s → (b ≡ 38) ⊎ (b ≡ 60) ⊎ (b ≡ 62) ⊎ (b ≡ 34) ⊎ (b ≡ 39) → (to_ascii_lowercase b == s) ≡ false
not_of_scheme s b of is = grind (arith, nat_tests, of.0, of.1, of.2, is)

begins_no : (s b : ℕ) (scheme rest : Text) → nat_le b 32 ≡ false → (to_ascii_lowercase b == s) ≡ false → begins (s ∷ scheme) (b ∷ rest) ≡ false
begins_no s b scheme rest dark other = rw (dark, other) refl

-- a byte without an entity: what follows it is escaped, and begins as before
begins_same : (c s : ℕ) (scheme rest : Text) → begins (s ∷ scheme) (html_escaped rest) ≡ begins (s ∷ scheme) rest → begins scheme (html_escaped rest) ≡ begins scheme rest
    → begins (s ∷ scheme) (c ∷ html_escaped rest) ≡ begins (s ∷ scheme) (c ∷ rest)
begins_same c s scheme rest all more =
    elim (nat_le c 32) as (λ v.
    option_map_or (λ left. begins left (html_escaped rest)) (if v then Some (s ∷ scheme) else only_if (to_ascii_lowercase c == s) scheme) false
    ≡ option_map_or (λ left. begins left rest) (if v then Some (s ∷ scheme) else only_if (to_ascii_lowercase c == s) scheme) false) [
      | true ↦ all
      | false ↦
          elim (to_ascii_lowercase c == s) as (λ v.
          option_map_or (λ left. begins left (html_escaped rest)) (only_if v scheme) false ≡ option_map_or (λ left. begins left rest) (only_if v scheme) false) [
            | true ↦ more
            | false ↦ refl
          ]
    ]

begins_escaped : (scheme address : Text) → AllByRecursion IsOfScheme scheme → begins scheme (html_escaped address) ≡ begins scheme address
begins_escaped [] address of = refl
begins_escaped (s ∷ scheme) [] of = refl
begins_escaped (s ∷ scheme) (b ∷ rest) of =
    entity_cases (λ c text. begins (s ∷ scheme) (text ++ html_escaped rest) ≡ begins (s ∷ scheme) (c ∷ rest))
    (begins_no s 38 scheme (codes "amp;" ++ html_escaped rest) refl (not_of_scheme s 38 of.0 (inl refl)) ∙ sym (begins_no s 38 scheme rest refl (not_of_scheme s 38 of.0 (inl refl))))
    (begins_no s 38 scheme (codes "lt;" ++ html_escaped rest) refl (not_of_scheme s 38 of.0 (inl refl)) ∙ sym (begins_no s 60 scheme rest refl (not_of_scheme s 60 of.0 (inr (inl refl)))))
    (begins_no s 38 scheme (codes "gt;" ++ html_escaped rest) refl (not_of_scheme s 38 of.0 (inl refl)) ∙ sym (begins_no s 62 scheme rest refl (not_of_scheme s 62 of.0 (inr (inr (inl refl))))))
    (begins_no s 38 scheme (codes "quot;" ++ html_escaped rest) refl (not_of_scheme s 38 of.0 (inl refl)) ∙ sym (begins_no s 34 scheme rest refl (not_of_scheme s 34 of.0 (inr (inr (inr (inl refl)))))))
    (begins_no s 38 scheme (codes "#039;" ++ html_escaped rest) refl (not_of_scheme s 38 of.0 (inl refl)) ∙ sym (begins_no s 39 scheme rest refl (not_of_scheme s 39 of.0 (inr (inr (inr (inr refl)))))))
    (λ c o p q r t. begins_same c s scheme rest (begins_escaped (s ∷ scheme) rest of) (begins_escaped scheme rest of.1))
    b

pub no_script : (value : Text) → is_script (safe value) ≡ false
no_script value =
    let same : is_script (html_escaped value) ≡ is_script value =
    λ i. begins_escaped (codes "javascript:") value (search rules) i || begins_escaped (codes "vbscript:") value (search rules) i
    || begins_escaped (codes "data:") value (search rules) i
    in
    elim (is_script value) as (λ v. is_script value ≡ v → is_script (if v then [] else html_escaped value) ≡ false) [
      | true ↦ λ e. refl
      | false ↦ λ e. same ∙ e
    ] refl
