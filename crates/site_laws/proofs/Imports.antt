-- A line that imports posts.
use Rattle.std.proofs.Common.{◌≡◌, ℕ, ◌+◌, ◌*◌, ◌≤◌, List, [], ◌∷◌, ◌++◌, map, Some, Ok, true, refl, sym, ap, ◌∙◌, arith, length}
use Rattle.std.specs.Prelude.{codes, decimal, flat_map, sum_by}
use Rattle.std.specs.List.{AllByRecursion}
use Rattle.std.specs.Str.{is_utf8}
use Rattle.std.proofs.lemmas.Bool.{le-leb, leb-true}
use Rattle.std.proofs.lemmas.List.{append_assoc, length-map}
use Rattle.std.proofs.lemmas.List.Sums.{sum_by-cons}
use Rattle.json.specs.Token.{Token, end_array, end_object}
use Rattle.json.specs.Print.{print}
use Rattle.json.specs.Json.{Json}
use Rattle.json.specs.Json as json
use Rattle.json.specs.Tree.{json_tokens, items_tokens, items_depth, ItemsHaveNumbers}
use Rattle.json.proofs.Printed.Decimals.{IsNumber-decimal}
use Rattle.serde_json.specs.Data.{Data, unsigned}
use Rattle.serde_json.specs.Data as tree
use Rattle.serde_json.specs.Read.{of_json, of_items}
use Rattle.serde_json.proofs.Numbers.{number_of-decimal}
use Rattle.callback_store.specs.Shape.{Shape}
use Rattle.site_records.specs.declared.post.Post.{Post}
use Rattle.site_records.specs.declared.post.PostKind.{PostKind}
use Rattle.site_records.specs.declared.post.PostKind.TheVariants.{Post as OfPost, Page as OfPage}
use Rattle.site_records.specs.declared.post.PostStatus.{PostStatus}
use Rattle.site_records.specs.declared.post.PostStatus.TheVariants.{Publish, Draft}
use Rattle.site_records.specs.Kinds.{kind_text, status_text}
use Rattle.post_tables.specs.Rows.{Rows, are_new, with_all}
use Rattle.site_values.specs.Named.{kind_named, status_named}
use Rattle.site_import.specs.Walks.{each_from, list_of}
use Rattle.site_import.specs.Posts.{shape_of, checked_post, post_at, posts_of}
use Rattle.site_import.specs.Site.{site_file_of, records_in}
use Rattle.site_import.specs.declared.fault.Place.{Place}
use Rattle.site_edits.specs.Imports.{import}
use Rattle.site_commands.specs.Asked.{command_of, import_of}
use Rattle.site_commands.specs.Asked as asked
use Rattle.site_commands.specs.Worked.{line_command}
use Rattle.site_replies.specs.Reply.{done}
use Rattle.site_export.specs.Lines.{post_tokens, import_line, room_of, fits}
use Rattle.site_laws.specs.Stored.{IsPost}
use Rattle.site_laws.proofs.Readings.{line-is, small, id_is}

-- ---- one post

post_json : Post → Json
post_json p =
    json.object (json.member (codes "id") (json.number (decimal p.id)) (json.member (codes "kind") (json.string (kind_text p.kind))
    (json.member (codes "status") (json.string (status_text p.status)) (json.member (codes "title") (json.string p.title)
    (json.member (codes "content") (json.string p.content) (json.member (codes "date") (json.string p.date) json.no_members))))))

post_data : Post → Data
post_data p =
    tree.object (tree.member (codes "content") (tree.string p.content) (tree.member (codes "date") (tree.string p.date)
    (tree.member (codes "id") (tree.number (unsigned p.id)) (tree.member (codes "kind") (tree.string (kind_text p.kind))
    (tree.member (codes "status") (tree.string (status_text p.status)) (tree.member (codes "title") (tree.string p.title) tree.no_members))))))

post_written : (p : Post) → json_tokens (post_json p) ≡ post_tokens p
unfolding post_json
post_written p = refl

post_read : (p : Post) → IsPost p → of_json (post_json p) ≡ Some (post_data p)
unfolding post_json post_data
post_read p is = rw (number_of-decimal p.id (small p.id is.id)) refl

kind_back : (kind : PostKind) → kind_named (kind_text kind) ≡ Some kind
kind_back OfPost = refl
kind_back OfPage = refl

status_back : (status : PostStatus) → status_named (status_text status) ≡ Some status
status_back Publish = refl
status_back Draft = refl

post_shape : (p : Post) → IsPost p → shape_of (post_data p) ≡ Some p
unfolding shape_of post_data
post_shape p is = rw (id_is p.id is.id, kind_back p.kind, status_back p.status) refl

post_checked : (place : Place) (p : Post) → IsPost p → checked_post place p ≡ Ok p
post_checked place p is = rw (le-leb _ _ is.title, le-leb _ _ is.content, is.date) refl

post_there : (n : ℕ) (p : Post) → IsPost p → post_at n (post_data p) ≡ Ok p
post_there n p is = rw (post_shape p is) (post_checked _ p is)

-- ---- some posts

posts_json : List Post → json.Items
posts_json [] = json.no_items
posts_json (p ∷ ps) = json.item (post_json p) (posts_json ps)

posts_data : List Post → tree.Items
posts_data [] = tree.no_items
posts_data (p ∷ ps) = tree.item (post_data p) (posts_data ps)

posts_written : (ps : List Post) (rest : List Token) → items_tokens (posts_json ps) ++ rest ≡ flat_map post_tokens ps ++ (end_array ∷ rest)
unfolding posts_json
posts_written [] rest = refl
posts_written (p ∷ ps) rest =
    append_assoc (json_tokens (post_json p)) (items_tokens (posts_json ps)) rest
    ∙ ap (λ ts. json_tokens (post_json p) ++ ts) (posts_written ps rest)
    ∙ ap (λ ts. ts ++ (flat_map post_tokens ps ++ (end_array ∷ rest))) (post_written p)
    ∙ sym (append_assoc (post_tokens p) (flat_map post_tokens ps) (end_array ∷ rest))

posts_read : (ps : List Post) → AllByRecursion IsPost ps → of_items (posts_json ps) ≡ Some (posts_data ps)
unfolding posts_json posts_data
posts_read [] all = refl
posts_read (p ∷ ps) all = rw (post_read p all.0, posts_read ps all.1) refl

posts_numbers : (ps : List Post) → AllByRecursion IsPost ps → ItemsHaveNumbers (posts_json ps)
unfolding posts_json post_json
posts_numbers [] all = tt
posts_numbers (p ∷ ps) all = ((IsNumber-decimal p.id (small p.id all.0.id), (tt, (tt, (tt, (tt, (tt, tt)))))), posts_numbers ps all.1)

posts_shallow : (ps : List Post) → items_depth (posts_json ps) ≤ 1
unfolding posts_json post_json
posts_shallow [] = omega arith
posts_shallow (p ∷ ps) = let rest = posts_shallow ps in omega (arith, rest)

listed : (ps : List Post) → list_of (posts_data ps) ≡ map post_data ps
unfolding posts_data
listed [] = refl
listed (p ∷ ps) = ap (λ ds. post_data p ∷ ds) (listed ps)

each_there : (n : ℕ) (ps : List Post) → AllByRecursion IsPost ps → each_from post_at n (map post_data ps) ≡ Ok ps
each_there n [] all = refl
each_there n (p ∷ ps) all = rw (post_there n p all.0, each_there (n + 1) ps all.1) refl

-- ---- the whole line

site_json : List Post → Json
site_json ps = json.object (json.member (codes "version") (json.number (decimal 1)) (json.member (codes "posts") (json.array (posts_json ps)) json.no_members))

import_json : List Post → Json
import_json ps = json.object (json.member (codes "cmd") (json.string (codes "import")) (json.member (codes "site") (site_json ps) json.no_members))

pub site_data : List Post → Data
site_data ps = tree.object (tree.member (codes "posts") (tree.array (posts_data ps)) (tree.member (codes "version") (tree.number (unsigned 1)) tree.no_members))

import_data : List Post → Data
import_data ps = tree.object (tree.member (codes "cmd") (tree.string (codes "import")) (tree.member (codes "site") (site_data ps) tree.no_members))

import_written : (ps : List Post) → import_line ps ≡ print (json_tokens (import_json ps))
unfolding import_json site_json
import_written ps =
    ap (λ ts. print (json_tokens_head ts)) (sym (append_assoc (items_tokens (posts_json ps)) (end_object ∷ []) (end_object ∷ []) ∙ posts_written ps (end_object ∷ end_object ∷ [])))
  where
    json_tokens_head : List Token → List Token
    json_tokens_head ts =
        Token.begin_object ∷ Token.key (codes "cmd") ∷ Token.string (codes "import") ∷ Token.key (codes "site") ∷ Token.begin_object
        ∷ Token.key (codes "version") ∷ Token.number (decimal 1) ∷ Token.key (codes "posts") ∷ Token.begin_array ∷ ts

import_read : (ps : List Post) → AllByRecursion IsPost ps → of_json (import_json ps) ≡ Some (import_data ps)
unfolding import_json site_json import_data site_data
import_read ps all = rw (number_of-decimal 1 (omega arith), posts_read ps all) refl

import_asked : (ps : List Post) → command_of (import_data ps) ≡ Some (asked.import (site_data ps))
unfolding command_of import_of import_data
import_asked ps = refl

pub import-is : (ps : List Post) → AllByRecursion IsPost ps → is_utf8 (import_line ps) ≡ true → line_command (import_line ps) ≡ Some (asked.import (site_data ps))
unfolding import_json site_json
import-is ps all utf8 =
    line-is (import_line ps) (import_json ps) (import_data ps) (asked.import (site_data ps)) (import_written ps) utf8
    (tt, ((IsNumber-decimal 1 (omega arith), (posts_numbers ps all, tt)), tt))
    (let shallow = posts_shallow ps in omega (arith, shallow))
    (import_read ps all) (import_asked ps)

-- ---- what it does

file_read : (ps : List Post) → AllByRecursion IsPost ps → length ps ≤ 10000
    → site_file_of (site_data ps) ≡ Ok (record { posts = ps; options = []; templates = []; active = [] })
unfolding site_file_of records_in posts_of site_data
file_read ps all few = rw (listed ps, length-map ps post_data, le-leb _ _ few, each_there 0 ps all) refl

pub import-does : (plugins : List Shape) (rows : Rows) (ps : List Post) → AllByRecursion IsPost ps → length ps ≤ 10000 → are_new ps rows.posts ≡ true
    → import plugins rows (site_data ps) ≡ (with_all ps rows, done)
unfolding import
import-does plugins rows ps all few new = rw (file_read ps all few, new) refl

-- ---- a batch is small

room_sum : (ps : List Post) → 40 * length ps ≤ sum_by room_of ps
room_sum [] = omega arith
room_sum (p ∷ ps) = let rest = room_sum ps in let sum = sum_by-cons room_of p ps in omega (arith, rest, sum)

pub few_fit : (ps : List Post) → fits ps ≡ true → length ps ≤ 10000
few_fit ps is = let sum = room_sum ps in let most = leb-true (sum_by room_of ps) 170000 is in omega (arith, sum, most)
