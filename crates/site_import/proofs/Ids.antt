-- The posts that are read have IDs from 1 to 2,147,483,647.
use Rattle.std.proofs.Common.{◌≡◌, ◌∙◌, ◌≤◌, ℕ, ◌+◌, List, [], ◌∷◌, Option, None, Some, Ok, Err, refl, ap, subst, codes, inl, inr, arith}
use Rattle.std.specs.List.{All}
use Rattle.std.specs.Prelude.{nat_le, ◌&&◌, is_some, option_and_then, option_map, length}
use Rattle.std.proofs.lemmas.Bool.{cases_Bool}
use Rattle.std.proofs.lemmas.Bool.Decides.{nat_tests}
use Rattle.std.proofs.lemmas.Grind.{common_steps}
use Rattle.std.proofs.lemmas.List.Elements.{All-nil, All-cons}
use Rattle.serde_json.specs.Data.{Data}
use Rattle.serde_json.specs.Find.{get, as_array, as_object, as_number, as_u64}
use Rattle.site_records.specs.Dates.{is_post_date}
use Rattle.site_records.specs.Ids.{max_id}
use Rattle.site_records.specs.declared.post.Post.{Post}
use Rattle.site_records.specs.declared.post.SiteRecords.{SiteRecords}
use Rattle.site_values.specs.Tree.{with_found, whole_in, text_at}
use Rattle.site_values.specs.Named.{id_at, kind_named, status_named}
use Rattle.site_import.specs.Walks.{Read, whole, and_read, of_form, each_from, section_of, list_of}
use Rattle.site_import.specs.Posts.{shape_of, checked_post, post_at, posts_in, posts_of}
use Rattle.site_import.specs.Site.{version_of, options_in, records_in, site_file_of}
use Rattle.site_import.specs.Templates.{templates_of}
use Rattle.site_import.specs.Active.{active_of}
use Rattle.site_import.specs.declared.fault.Place.{Place}
use Rattle.site_import.specs.declared.fault.Section.TheVariants.{Posts, Version}

abbrev pub HasId : Post → Type 0
HasId post = (1 ≤ post.id) × (post.id ≤ max_id)

-- what was found, if something follows from it
found_first : {A B : Type 0} (found : Option A) (next : A → Option B) (b : B) → with_found found next ≡ Some b → (a : A) × (found ≡ Some a) × (next a ≡ Some b)
found_first None next b e = absurd (cc)
found_first (Some a) next b e = (a, refl, e)

-- what was read, if something was read after it
read_first : {A B : Type 0} (read : Read A) (next : A → Read B) (b : B) → and_read read next ≡ Ok b → (a : A) × (read ≡ Ok a) × (next a ≡ Ok b)
read_first (Err fault) next b e = absurd (cc)
read_first (Ok a) next b e = (a, refl, e)

whole_in-range : (n m : ℕ) → whole_in 1 max_id n ≡ Some m → (1 ≤ m) × (m ≤ max_id)
whole_in-range n m e = grind (arith, common_steps, nat_tests)

id_at-range : (tree : Data) (id : ℕ) → id_at (codes "id") tree ≡ Some id → (1 ≤ id) × (id ≤ max_id)
id_at-range tree id e =
    let found = option_and_then as_u64 (option_and_then as_number (get (codes "id") tree)) in
    let n = found_first found (whole_in 1 max_id) id e in
    whole_in-range n.0 id n.2

shape_of-id : (tree : Data) (post : Post) → shape_of tree ≡ Some post → HasId post
unfolding shape_of
shape_of-id tree post e =
    let id = found_first (id_at (codes "id") tree) _ post e in
    let kind = found_first (option_and_then kind_named (text_at (codes "kind") tree)) _ post id.2 in
    let status = found_first (option_and_then status_named (text_at (codes "status") tree)) _ post kind.2 in
    let title = found_first (text_at (codes "title") tree) _ post status.2 in
    let content = found_first (text_at (codes "content") tree) _ post title.2 in
    let date = found_first (text_at (codes "date") tree) _ post content.2 in
    let same : Some id.0 ≡ Some post.id = ap (λ p. option_map (λ (q : Post). q.id) p) date.2 in
    id_at-range tree post.id (id.1 ∙ same)

of_form-some : {A : Type 0} (place : Place) (found : Option A) (a : A) → of_form place found ≡ Ok a → found ≡ Some a
of_form-some place None a e = absurd (cc)
of_form-some place (Some b) a e = cc

checked_post-same : (place : Place) (post read : Post) → checked_post place post ≡ Ok read → post ≡ read
checked_post-same place post read e =
    elim (cases_Bool (nat_le (length post.title) 65536 && nat_le (length post.content) 524288)) [
      | inl fits ↦ elim (cases_Bool (is_post_date post.date)) [
        | inl date ↦ let f = rw (fits, date) at e in cc
        | inr date ↦ let f = rw (fits, date) at e in
            absurd (cc)
      ]
      | inr fits ↦ let f = rw fits at e in absurd (cc)
    ]

post_at-id : (n : ℕ) (tree : Data) (post : Post) → post_at n tree ≡ Ok post → HasId post
post_at-id n tree post e =
    let first = read_first _ _ post e in
    let shape = shape_of-id tree first.0 (of_form-some _ _ first.0 first.1) in
    subst HasId (checked_post-same _ first.0 post first.2) shape

each_from-all : {A B : Type 0} (reads : ℕ → A → Read B) (P : B → Type 0) → ((n : ℕ) (x : A) (b : B) → reads n x ≡ Ok b → P b)
    → (n : ℕ) (xs : List A) (bs : List B) → each_from reads n xs ≡ Ok bs → All P bs
each_from-all reads P each n [] bs e = let nil : [] ≡ bs = cc in subst (All P) nil (All-nil P)
each_from-all reads P each n (x ∷ xs) bs e =
    let first = read_first _ _ bs e in
    let rest = read_first _ _ bs first.2 in
    let same : first.0 ∷ rest.0 ≡ bs = let r = rest.2 in cc in
    subst (All P) same (All-cons P first.0 rest.0 (each n x first.0 first.1) (each_from-all reads P each (n + 1) xs rest.0 rest.1))

posts_in-ids : (trees : List Data) (posts : List Post) → posts_in trees ≡ Ok posts → All HasId posts
posts_in-ids trees posts e = elim (cases_Bool (nat_le (length trees) 10000)) [
  | inl few ↦ each_from-all post_at HasId post_at-id 0 trees posts (rw few at e)
  | inr many ↦ let f = rw many at e in absurd (cc)
]

posts_of-ids : (tree : Data) (posts : List Post) → posts_of tree ≡ Ok posts → All HasId posts
unfolding posts_of
posts_of-ids tree posts e =
    let items = read_first (of_form (whole Posts) (as_array tree)) (λ items. posts_in (list_of items)) posts e in
    posts_in-ids (list_of items.0) posts items.2

section-ids : (found : Option Data) (posts : List Post) → section_of posts_of found ≡ Ok posts → All HasId posts
section-ids None posts e = let nil : [] ≡ posts = cc in subst (All HasId) nil (All-nil HasId)
section-ids (Some tree) posts e = posts_of-ids tree posts e

-- the sections together, as a site file has them
abbrev joined : Read (List Post) → Read (List (List ℕ × List ℕ)) → Read (List (List ℕ × List ℕ)) → Read (List (List ℕ)) → Read SiteRecords
joined posts options templates active =
    and_read posts (λ p. and_read options (λ o. and_read templates (λ t. and_read active (λ a.
    Ok (record { posts = p; options = o; templates = t; active = a })))))

abbrev posts_read : Read SiteRecords → Read (List Post)
posts_read (Ok records) = Ok records.posts
posts_read (Err fault) = Err fault

joined-posts : (posts : Read (List Post)) (options templates : Read (List (List ℕ × List ℕ))) (active : Read (List (List ℕ))) (records : SiteRecords)
    → joined posts options templates active ≡ Ok records → posts ≡ Ok records.posts
joined-posts (Err f) options templates active records e = absurd (cc)
joined-posts (Ok p) (Err f) templates active records e = absurd (cc)
joined-posts (Ok p) (Ok o) (Err f) active records e = absurd (cc)
joined-posts (Ok p) (Ok o) (Ok t) (Err f) records e = absurd (cc)
joined-posts (Ok p) (Ok o) (Ok t) (Ok a) records e = ap posts_read e

records_in-ids : (version : ℕ) (tree : Data) (records : SiteRecords) → records_in version tree ≡ Ok records → All HasId records.posts
unfolding records_in
records_in-ids version tree records e =
    section-ids (get (codes "posts") tree) records.posts
    (joined-posts (section_of posts_of (get (codes "posts") tree)) (options_in version tree) (section_of templates_of (get (codes "templates") tree))
    (section_of active_of (get (codes "active") tree)) records e)

pub site_file_of-ids : (tree : Data) (records : SiteRecords) → site_file_of tree ≡ Ok records → All HasId records.posts
unfolding site_file_of
site_file_of-ids tree records e = elim (cases_Bool (is_some (as_object tree))) [
  | inl object ↦
      let sections = read_first (of_form (whole Version) (version_of tree)) (λ version. records_in version tree) records (rw object at e) in
      records_in-ids sections.0 tree records sections.2
  | inr object ↦ let f = rw object at e in absurd (cc)
]
