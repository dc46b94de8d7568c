-- Posts that are kept once they were read, and the IDs of parts once they were listed.
use Rattle.std.specs.Prelude.{◌≡◌, ◌≢◌, ◌⊎◌, ℕ, List, Some, All, map}
use Rattle.std.specs.BTreeMap.{get}
use Rattle.std.specs.Ordering.{nat_cmp}
use Rattle.site_records.specs.declared.post.Post.{Post}
use Rattle.site_records.specs.declared.post.PostKind.{PostKind}
use Rattle.plain_data.specs.Texts.{Text}
use Rattle.post_tables.specs.Page.{page_of}
use Rattle.post_tables.specs.Rows.{PostEdit, edited_post, post_with}
use Rattle.post_tables.specs.declared.kept.KeptPosts.{KeptPosts}
use Rattle.post_tables.specs.declared.kept_parts.KeptPart.{KeptPart}
use Rattle.post_tables.specs.declared.kept_parts.KeptParts.{KeptParts}

-- this post is kept under the ID
abbrev pub Keeps : KeptPosts → ℕ → Post → Type 0
Keeps kept id p = get nat_cmp kept.posts id ≡ Some p

-- each post that is kept is the one that has its ID
abbrev pub AreStored : KeptPosts → List Post → Type 0
AreStored kept posts = (id : ℕ) (p : Post) → Keeps kept id p → post_with id posts ≡ Some p

-- what is kept was kept before
abbrev pub IsWithin : KeptPosts → KeptPosts → Type 0
IsWithin new old = (id : ℕ) (p : Post) → Keeps new id p → Keeps old id p

-- what is kept was kept before, under the ID as an edit leaves it
abbrev pub AreEdited : ℕ → PostEdit → KeptPosts → KeptPosts → Type 0
AreEdited id e old new = (n : ℕ) (p : Post) → Keeps new n p
    → ((n ≢ id) × Keeps old n p) ⊎ ((n ≡ id) × ((q : Post) × Keeps old id q × (edited_post e q ≡ p)))

-- what is kept is the part of this kind, this span and this place
pub record IsPart (part : KeptPart) (of_kind : PostKind) (first last : Text) (most left_out : ℕ) : Type 0 where
  pub kind : part.kind ≡ of_kind
  pub from : part.from ≡ first
  pub to : part.to ≡ last
  pub limit : part.limit ≡ most
  pub offset : part.offset ≡ left_out

-- the IDs that are kept of a part are those of the posts that it lists
abbrev pub HasIds : List Post → KeptPart → Type 0
HasIds posts part = part.ids.items ≡ map (λ p. p.id) (page_of part.kind part.from part.to part.limit part.offset posts)

-- so are those of each part that is kept
abbrev pub AreListed : KeptParts → List Post → Type 0
AreListed kept posts = All (HasIds posts) kept.parts.items
