-- How long lines are.
use Rattle.std.proofs.Common.{◌≡◌, ◌+◌, ◌*◌, ◌^◌, ◌<◌, ◌≤◌, ℕ, nat_lt, length, List, [], ◌∷◌, ◌++◌, cond, Bool}
use Rattle.std.proofs.Common.{true, false, ◌&&◌, refl, decimal, codes, arith, length-append}
use Rattle.json.specs.Token.{Token, begin_object, end_object, key}
use Rattle.json.specs.Print.{print_from, token_text, separator, begins, ends, escape, escape_byte, escape_letter, quoted}
use Rattle.std.proofs.lemmas.Fmt.{length-decimal-le}
use Rattle.site_records.specs.declared.post.Post.{Post}
use Rattle.site_records.specs.declared.post.PostKind.{PostKind}
use Rattle.site_records.specs.declared.post.PostKind.TheVariants.{Post as OfPost, Page as OfPage}
use Rattle.site_records.specs.declared.post.PostStatus.{PostStatus}
use Rattle.site_records.specs.declared.post.PostStatus.TheVariants.{Publish, Draft}
use Rattle.site_records.specs.Kinds.{kind_text, status_text}
use Rattle.std.proofs.Common.{sym, subst, map, filter, not, is_some}
use Rattle.std.specs.Prelude.{sum_by, if◌then◌else◌, nat_eq}
use Rattle.std.specs.List.{AllByRecursion, flat_map}
use Rattle.std.specs.FinMap.{entries, keys}
use Rattle.std.proofs.lemmas.Bool.{leb-true}
use Rattle.std.proofs.lemmas.List.Sums.{sum_by-cons}
use Rattle.std.proofs.lemmas.List.Elements.{recursion_from_All}
use Rattle.site_records.specs.Ids.{max_id}
use Rattle.plain_data.specs.Texts.{Text}
use Rattle.post_tables.specs.Rows.{Rows, post_with}
use Rattle.site_export.specs.Lines.{with_text, with_number, post_tokens, room_of, import_head, import_tail, import_line, edit_lines, delete_line, bare}
use Rattle.site_export.specs.Lines.{apart, fits, batch_lines, gone, gone_lines}
use Rattle.site_export.specs.Lines.{option_line, template_line, activate_line, IsShort, PostFits, FitsLines, IsHistory}

-- a line for these tokens has no more bytes, with a comma for each
abbrev size : List Token → ℕ
size [] = 0
size (t ∷ ts) = 1 + length (token_text t) + size ts

pub size-append : (ts us : List Token) → size (ts ++ us) ≡ size ts + size us
size-append [] us = omega arith
size-append (t ∷ ts) us = let later = size-append ts us in omega (arith, later)

one_of : (b c : Bool) (xs ys zs : List ℕ) → length xs ≤ 6 → length ys ≤ 6 → length zs ≤ 6 → length (cond b xs (cond c ys zs)) ≤ 6
one_of true c xs ys zs x y z = x
one_of false true xs ys zs x y z = y
one_of false false xs ys zs x y z = z

escape_short : (x : ℕ) → length (escape_byte x) ≤ 6
unfolding escape_byte
escape_short x = one_of (nat_lt 0 (escape_letter x)) (nat_lt x 32) _ _ _ (omega arith) (omega arith) (omega arith)

escaped : (s : List ℕ) → length (escape s) ≤ 6 * length s
escaped [] = omega arith
escaped (x ∷ xs) = let sum = length-append (escape_byte x) (escape xs) in omega (arith, sum, escape_short x, escaped xs)

pub quoted_short : (s : List ℕ) → length (quoted s) ≤ 6 * length s + 2
quoted_short s = let sum = length-append (escape s) (34 ∷ []) in omega (arith, sum, escaped s)

comma_short : (b : Bool) → length {A = ℕ} (cond b (44 ∷ []) []) ≤ 1
comma_short true = omega arith
comma_short false = omega arith

pub printed : (b : Bool) (ts : List Token) → length (print_from b ts) ≤ size ts
unfolding print_from
printed b [] = omega arith
printed b (t ∷ ts) =
    let one = length-append (separator b t) (token_text t ++ print_from (ends t) ts) in
    let two = length-append (token_text t) (print_from (ends t) ts) in
    omega (arith, one, two, comma_short (b && begins t), printed (ends t) ts)

kind_short : (k : PostKind) → length (quoted (kind_text k)) ≡ 6
unfolding escape_byte
kind_short OfPost = refl
kind_short OfPage = refl

status_short : (s : PostStatus) → length (quoted (status_text s)) ≤ 9
unfolding escape_byte
status_short Publish = omega arith
status_short Draft = omega arith

names_short : (length (token_text (key (codes "id"))) ≡ 5) × (length (token_text (key (codes "kind"))) ≡ 7) × (length (token_text (key (codes "status"))) ≡ 9)
    × (length (token_text (key (codes "title"))) ≡ 8) × (length (token_text (key (codes "content"))) ≡ 10) × (length (token_text (key (codes "date"))) ≡ 7)
unfolding escape_byte
names_short = (refl, refl, refl, refl, refl, refl)

pub post_short : (p : Post) → p.id < 2 ^ 32 → length p.date ≤ 19 → size (post_tokens p) ≤ 6 * room_of p
post_short p low dated =
    let digits : length (decimal p.id) ≤ 10 = length-decimal-le 10 p.id (omega arith) (omega (arith, low)) (omega (arith, low)) in
    omega (
      arith,
      digits,
      dated,
      kind_short p.kind,
      status_short p.status,
      quoted_short p.title,
      quoted_short p.content,
      quoted_short p.date,
      names_short.0,
      names_short.1,
      names_short.2,
      names_short.3,
      names_short.4,
      names_short.5,
    )

-- ---- the lines of posts

-- all that it takes for a post to be imported by a short line
abbrev IsUsual : Post → Type 0
IsUsual p = (p.id ≤ max_id) × (length p.date ≤ 19)

posts_short : (ps : List Post) → AllByRecursion IsUsual ps → size (flat_map post_tokens ps) ≤ 6 * sum_by room_of ps
posts_short [] usual = omega arith
posts_short (p ∷ ps) usual =
    let sum = size-append (post_tokens p) (flat_map post_tokens ps) in
    let room = sum_by-cons room_of p ps in
    omega (arith, sum, room, post_short p (omega (arith, usual.0.0)) usual.0.1, posts_short ps usual.1)

head_short : size import_head ≤ 100
unfolding escape_byte
head_short = let digit = length-decimal-le 10 1 (omega arith) (omega arith) (omega arith) in omega (arith, digit)

import_short : (ps : List Post) → AllByRecursion IsUsual ps → sum_by room_of ps ≤ 170000 → IsShort (import_line ps)
import_short ps usual room =
    let one = size-append (import_head ++ flat_map post_tokens ps) import_tail in
    let two = size-append import_head (flat_map post_tokens ps) in
    omega (arith, one, two, room, head_short, posts_short ps usual, printed false (import_head ++ flat_map post_tokens ps ++ import_tail))

-- ---- lists of lines

abbrev AreShort : List Text → Type 0
AreShort = AllByRecursion IsShort

both : (xs ys : List Text) → AreShort xs → AreShort ys → AreShort (xs ++ ys)
both [] ys one two = two
both (x ∷ xs) ys one two = (one.0, both xs ys one.1 two)

each_of : {X : Type 0} (f : X → List Text) (xs : List X) → AllByRecursion (λ x. AreShort (f x)) xs → AreShort (flat_map f xs)
each_of f [] all = tt
each_of f (x ∷ xs) all = both (f x) (flat_map f xs) all.0 (each_of f xs all.1)

mapped : {X : Type 0} (f : X → Text) (xs : List X) → AllByRecursion (λ x. IsShort (f x)) xs → AreShort (map f xs)
mapped f [] all = tt
mapped f (x ∷ xs) all = (all.0, mapped f xs all.1)

weaker : {X : Type 0} (P Q : X → Type 0) → ((x : X) → P x → Q x) → (xs : List X) → AllByRecursion P xs → AllByRecursion Q xs
weaker P Q from [] all = tt
weaker P Q from (x ∷ xs) all = (from x all.0, weaker P Q from xs all.1)

kept : (P : Post → Type 0) (f : Post → Bool) (ps : List Post) → AllByRecursion P ps → AllByRecursion P (filter f ps)
kept P f [] all = tt
kept P f (p ∷ ps) all =
    let later = kept P f ps all.1 in elim (f p) as (λ b. AllByRecursion P (cond b (p ∷ filter f ps) (filter f ps))) [ true ↦ (all.0, later) | false ↦ later ]

front : (P : Post → Type 0) (xs ys : List Post) → AllByRecursion P (xs ++ ys) → AllByRecursion P xs
front P [] ys all = tt
front P (x ∷ xs) ys all = (all.0, front P xs ys all.1)

back : (P : Post → Type 0) (xs ys : List Post) → AllByRecursion P (xs ++ ys) → AllByRecursion P ys
back P [] ys all = all
back P (x ∷ xs) ys all = back P xs ys all.1

in_batches : (P : Post → Type 0) (bs : List (List Post)) → AllByRecursion P (flat_map (λ b. b) bs) → AllByRecursion (AllByRecursion P) bs
in_batches P [] all = tt
in_batches P (b ∷ bs) all = (front P b (flat_map (λ x. x) bs) all, in_batches P bs (back P b (flat_map (λ x. x) bs) all))

-- ---- all lines

unless_empty : (b : Bool) (line : Text) → IsShort line → AreShort (if b then [] else line ∷ [])
unless_empty true line short = tt
unless_empty false line short = (short, tt)

apart_short : (p : Post) → PostFits p → AreShort (apart p)
apart_short p ok = (
  import_short (bare p ∷ []) ((ok.0, ok.1), tt) (omega arith),
  both (edit_lines p.id (codes "title") p.title) (edit_lines p.id (codes "content") p.content)
      (unless_empty (nat_eq (length p.title) 0) _ ok.2) (unless_empty (nat_eq (length p.content) 0) _ ok.3),
)

batch_short : (ps : List Post) → AllByRecursion PostFits ps → AreShort (batch_lines ps)
batch_short ps all = go (fits ps) refl
  where
    go : (b : Bool) → fits ps ≡ b → AreShort (if b then import_line ps ∷ [] else flat_map apart ps)
    go true few = (import_short ps (weaker PostFits IsUsual (λ p ok. (ok.0, ok.1)) ps all) (leb-true _ _ few), tt)
    go false many = each_of apart ps (weaker PostFits (λ p. AreShort (apart p)) apart_short ps all)

delete_short : (id : ℕ) → id ≤ max_id → IsShort (delete_line id)
unfolding escape_byte
delete_short id low =
    let digits = length-decimal-le 10 id (omega arith) (omega (arith, low)) (omega (arith, low)) in
    omega (arith, digits, printed false (begin_object ∷ with_text (codes "cmd") (codes "delete") ++ with_number (codes "id") id ++ end_object ∷ []))

gone_short : (rows : Rows) → rows.largest ≤ max_id → AreShort (gone_lines rows)
gone_short rows low = go (nat_lt 0 rows.largest && not (is_some (post_with rows.largest rows.posts)))
  where
    go : (b : Bool) → AreShort (if b then import_line (gone rows.largest ∷ []) ∷ delete_line rows.largest ∷ [] else [])
    go true = (import_short (gone rows.largest ∷ []) ((low, omega arith), tt) (omega arith), (delete_short rows.largest low, tt))
    go false = tt

pub history_short : (rows : Rows) (lines : List Text) → IsHistory rows lines → FitsLines rows → AllByRecursion IsShort lines
history_short rows lines is ok =
    let posts : AllByRecursion PostFits (filter (λ p. nat_lt 0 p.id) rows.posts)
    = kept PostFits _ rows.posts (recursion_from_All PostFits rows.posts ok.posts) in
    let each = in_batches PostFits is.batches (subst (AllByRecursion PostFits) (sym is.posts_are) posts) in
    subst AreShort (sym is.lines_are) (both _ _ (both _ _ (both _ _ (both _ _ (gone_short rows ok.largest)
    (each_of batch_lines is.batches (weaker (AllByRecursion PostFits) (λ b. AreShort (batch_lines b)) batch_short is.batches each)))
    (mapped option_line (entries rows.options) (recursion_from_All _ _ ok.options)))
    (mapped template_line (entries rows.templates) (recursion_from_All _ _ ok.templates)))
    (mapped activate_line (keys rows.active) (recursion_from_All _ _ ok.active)))
