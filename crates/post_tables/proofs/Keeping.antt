-- What is kept of the posts stays what the tables hold.
use Rattle.std.proofs.Common.{◌≡◌, ◌≢◌, ◌⊎◌, inl, inr, ℕ, List, [], ◌∷◌, true, false, Some, refl, sym, ap, subst, subst₂, ◌∙◌, ◌==◌, arith, true≢false}
use Rattle.std.proofs.lemmas.Bool.{cases_Bool}
use Rattle.std.proofs.lemmas.Bool.Decides.{nat_tests}
use Rattle.std.proofs.lemmas.List.Elements.{All-from_recursion}
use Rattle.std.proofs.Common.{Result, Ok, Err}
use Rattle.std.specs.Prelude.{All, nat_lt, is_some, option_map}
use Rattle.sqlite.specs.Held.{Held}
use Rattle.sqlite_rules.proofs.ListLemmas.{all_from}
use Rattle.sqlite_trees.specs.declared.memory.MemStore.{MemStore}
use Rattle.site_records.specs.declared.post.PostKind.{PostKind}
use Rattle.site_records.specs.declared.post.Post.{Post}
use Rattle.post_tables.specs.Kept.{AreEdited, AreStored, IsWithin, Keeps}
use Rattle.post_tables.specs.Page.{page_of}
use Rattle.post_tables.specs.Rows.{PostEdit, Rows, edited_post, edited_posts, has_post, post_with, with_new, with_post, without_post}
use Rattle.post_tables.specs.Stored.{IsSite, Makes, rows_of}
use Rattle.post_tables.proofs.PartLemmas.{found_in_part, site_rises}
use Rattle.post_tables.specs.declared.kept.KeptPosts.{KeptPosts}
use Rattle.post_tables.proofs.PostRows.{absent_edited, any_is_found}

-- ---- the posts stay, and what is kept changes

pub stored_none : (kept : KeptPosts) (posts : List Post) → ((id : ℕ) (p : Post) → ¬ Keeps kept id p) → AreStored kept posts
stored_none kept posts none id p has = absurd (none id p has)

pub stored_within : (old new : KeptPosts) (posts : List Post) → IsWithin new old → AreStored old posts → AreStored new posts
stored_within old new posts within stored id p has = stored id p (within id p has)

-- one post more is kept, which was found by its ID
pub stored_more : (old new : KeptPosts) (posts : List Post) (id : ℕ) (post : Post) → post_with id posts ≡ Some post
    → ((n : ℕ) (p : Post) → Keeps new n p → Keeps old n p ⊎ ((n ≡ id) × (p ≡ post))) → AreStored old posts → AreStored new posts
stored_more old new posts id post found more stored n p has = elim (more n p has) [
  | inl was ↦ stored n p was
  | inr is ↦ subst₂ (λ (m : ℕ) (q : Post). post_with m posts ≡ Some q) (sym is.0) (sym is.1) found
]

-- ---- the posts change, and what is kept stays

pub stored_same : (kept : KeptPosts) (posts after : List Post) → after ≡ posts → AreStored kept posts → AreStored kept after
stored_same kept posts after same = subst (AreStored kept) (sym same)

put_stays : (p : Post) (ps : List Post) (id : ℕ) (q : Post) → has_post p.id ps ≡ false → post_with id ps ≡ Some q → post_with id (with_post p ps) ≡ Some q
put_stays p [] id q free found = cc
put_stays p (r ∷ rs) id q free found = elim (cases_Bool (nat_lt r.id p.id)) [
  | inl below ↦ rw below (elim (cases_Bool (r.id == id)) [
    | inl here ↦ rw here (rw here at found)
    | inr other ↦ rw other (put_stays p rs id q (later free) (rw other at found))
  ])
  | inr above ↦ rw above (elim (cases_Bool (p.id == id)) [
    | inl here ↦ absurd (true≢false (sym (taken here) ∙ free))
    | inr other ↦ rw other found
  ])
]
  where
    later : has_post p.id (r ∷ rs) ≡ false → has_post p.id rs ≡ false
    later none = elim (cases_Bool (r.id == p.id)) [
      | inl here ↦ absurd (let said = rw here at none in cc)
      | inr other ↦ rw other at none
    ]

    taken : (p.id == id) ≡ true → has_post p.id (r ∷ rs) ≡ true
    taken here =
        let same : p.id ≡ id = grind (arith, nat_tests) in
        subst (λ n. has_post n (r ∷ rs) ≡ true) (sym same) (any_is_found id (r ∷ rs) ∙ ap is_some found)

-- a post with an ID of its own comes
pub stored_put : (kept : KeptPosts) (p : Post) (posts : List Post) → has_post p.id posts ≡ false → AreStored kept posts → AreStored kept (with_post p posts)
stored_put kept p posts free stored id q has = put_stays p posts id q free (stored id q has)

module _ (id : ℕ) where
  edit_stays : (e : PostEdit) (ps : List Post) (n : ℕ) → n ≢ id → post_with n (edited_posts id e ps) ≡ post_with n ps
  edit_stays e [] n apart = refl
  edit_stays e (p ∷ ps) n apart = elim (cases_Bool (p.id == id)) [
    | inl here ↦
        let same : p.id ≡ id = grind (arith, nat_tests) in
        let other : (p.id == n) ≡ false = grind (arith, nat_tests) in
        rw (here, other) (edit_stays e ps n apart)
    | inr there ↦ rw there (elim (cases_Bool (p.id == n)) [
      | inl found ↦ rw found refl
      | inr other ↦ rw other (edit_stays e ps n apart)
    ])
  ]

  edit_there : (e : PostEdit) (ps : List Post) (q : Post) → post_with id ps ≡ Some q → post_with id (edited_posts id e ps) ≡ Some (edited_post e q)
  edit_there e [] q found = absurd (cc)
  edit_there e (p ∷ ps) q found = elim (cases_Bool (p.id == id)) [
    | inl here ↦ rw here (rw here (ap (option_map (edited_post e)) (rw here at found)))
    | inr there ↦ rw there (rw there (edit_there e ps q (rw there at found)))
  ]

  without_stays : (ps : List Post) (n : ℕ) → n ≢ id → post_with n (without_post id ps) ≡ post_with n ps
  without_stays [] n apart = refl
  without_stays (p ∷ ps) n apart = elim (cases_Bool (p.id == id)) [
    | inl here ↦
        let same : p.id ≡ id = grind (arith, nat_tests) in
        let other : (p.id == n) ≡ false = grind (arith, nat_tests) in
        rw (here, other) (without_stays ps n apart)
    | inr there ↦ rw there (elim (cases_Bool (p.id == n)) [
      | inl found ↦ rw found refl
      | inr other ↦ rw other (without_stays ps n apart)
    ])
  ]

  -- the post with the ID is edited, and so it is among those that are kept
  pub stored_edit : (e : PostEdit) (old new : KeptPosts) (posts : List Post) → AreStored old posts → AreEdited id e old new
      → AreStored new (edited_posts id e posts)
  stored_edit e old new posts stored edited n p has = elim (edited n p has) [
    | inl other ↦ edit_stays e posts n other.0 ∙ stored n p other.1
    | inr this ↦
        let q : Post = this.1.0 in
        subst (λ m. post_with m (edited_posts id e posts) ≡ Some p) (sym this.0) (edit_there e posts q (stored id q this.1.1) ∙ ap Some this.1.2)
  ]

  module _ (kept : KeptPosts) (gone : (p : Post) → ¬ Keeps kept id p) (posts : List Post) (stored : AreStored kept posts) where
    apart_from : (n : ℕ) (p : Post) → Keeps kept n p → n ≢ id
    apart_from n p has same = gone p (subst (λ m. Keeps kept m p) same has)

    -- the post with an ID that isn't kept is deleted
    pub stored_without : AreStored kept (without_post id posts)
    stored_without n p has = without_stays posts n (apart_from n p has) ∙ stored n p has

-- ---- the same, of a connection before and after a statement

module _ {A E : Type 0} (kept : KeptPosts) (old new : Held MemStore) (stored : AreStored kept (rows_of old).posts) where
  pub put_kept : (p : Post) (r : Result A E) → Makes (with_new p) old new r → has_post p.id (rows_of old).posts ≡ false → AreStored kept (rows_of new).posts
  put_kept p (Ok a) makes free = stored_same kept _ _ (ap (λ (s : Rows). s.posts) makes.ok) (stored_put kept p (rows_of old).posts free stored)
  put_kept p (Err e) makes free = stored_same kept _ _ (ap (λ (s : Rows). s.posts) makes.err) stored

  -- an edit that is done, of the post and of what is kept of it
  pub edit_kept : (id : ℕ) (e : PostEdit) (after : KeptPosts) (a : A) → AreEdited id e kept after
      → Makes {A = A} {E = E} (λ s. record s { posts = edited_posts id e s.posts }) old new (Ok a) → AreStored after (rows_of new).posts
  edit_kept id e after a edited makes = stored_same after _ _ (ap (λ (s : Rows). s.posts) makes.ok)
      (stored_edit id e kept after (rows_of old).posts stored edited)

  -- and one of a post that isn't there
  pub absent_kept : (id : ℕ) (e : PostEdit) (a : A) → has_post id (rows_of old).posts ≡ false
      → Makes {A = A} {E = E} (λ s. record s { posts = edited_posts id e s.posts }) old new (Ok a) → AreStored kept (rows_of new).posts
  absent_kept id e a absent makes = stored_same kept _ _ (ap (λ (s : Rows). s.posts) makes.ok ∙ absent_edited id e (rows_of old).posts absent) stored

  module _ (id : ℕ) (gone : (p : Post) → ¬ Keeps kept id p) where
    pub delete_kept : (r : Result A E) → Makes (λ s. record s { posts = without_post id s.posts }) old new r → AreStored kept (rows_of new).posts
    delete_kept (Ok a) makes = stored_same kept _ _ (ap (λ (s : Rows). s.posts) makes.ok) (stored_without id kept gone (rows_of old).posts stored)
    delete_kept (Err f) makes = stored_same kept _ _ (ap (λ (s : Rows). s.posts) makes.err) stored

-- the posts of a part can be kept
pub part_stored : (h : Held MemStore) (is : IsSite h) (kind : PostKind) (from to : List ℕ) (limit offset : ℕ) (ps : List Post)
    → ps ≡ page_of kind from to limit offset (rows_of h).posts → All (λ p. post_with p.id (rows_of h).posts ≡ Some p) ps
part_stored h is kind from to limit offset ps are =
    let posts : List Post = (rows_of h).posts in
    let page : List Post = page_of kind from to limit offset posts in
    subst (All (λ p. post_with p.id posts ≡ Some p)) (sym are)
    (All-from_recursion (λ p. post_with p.id posts ≡ Some p) page
    (all_from (λ p. post_with p.id posts ≡ Some p) page (found_in_part kind from to limit offset posts (site_rises h is))))
