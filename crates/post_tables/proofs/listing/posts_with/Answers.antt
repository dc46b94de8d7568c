use Rattle.std.proofs.Common.{◌≡◌, ◌++◌, ◌∷◌, [], ◌+◌, ◌∙◌, ℕ, List, take, get_or, ap, sym}
use Rattle.std.specs.List.{flat_map}
use Rattle.std.proofs.lemmas.List.{take_more, append-nil}
use Rattle.std.proofs.lemmas.List.Concat.{flat_map-append}
use Rattle.site_records.specs.declared.post.Post.{Post}
use Rattle.post_tables.specs.Rows.{Rows}
use Rattle.post_tables.specs.Stored.{rows_of}
use Rattle.post_tables.proofs.Keeping.{stored_same}
use Rattle.post_tables.proofs.PartIds.{found_of}
use Rattle.post_tables.proofs.listing.posts_with.Goals as goal

pub loop-id-preserved : goal.loop-id-preserved
loop-id-preserved c =
    let ids : List ℕ = c.args.ids.now in
    let found : ℕ → List Post = found_of (rows_of c.args.conn.now).posts in
    let i = c.loop-id.id-index in
    let id : ℕ = get_or ids i 0 in
    let had : List Post = c.loop-id.posts.items in
    let more : take (i + 1) ids ≡ take i ids ++ id ∷ [] = take_more ids i 0 c.loop-id-test.true in
    let before = c.loop-id.invariant in
    let pushed = c.in_ok-push_post.ensures in
    record {
      reads = record { site = pushed.reads.site; same = pushed.reads.same ∙ before.reads.same };
      posts = pushed.posts ∙ ap (λ s. had ++ found_of s.posts id) before.reads.same
          ∙ ap (λ l. l ++ found id) before.posts
          ∙ ap (λ l. flat_map found (take i ids) ++ l) (sym (append-nil (found id))) ∙ sym (flat_map-append found (take i ids) (id ∷ []))
          ∙ ap (flat_map found) (sym more);
      stored = stored_same c.push_post.new.kept _ _ (ap (λ (s : Rows). s.posts) (sym before.reads.same)) pushed.stored;
    }

pub push_post-requires-clause-stored : goal.push_post-requires-clause-stored
push_post-requires-clause-stored c =
    let before = c.loop-id.invariant in
    stored_same c.loop-id.kept _ _ (ap (λ (s : Rows). s.posts) before.reads.same) before.stored

pub returns-in_err-push_post-clause-stored : goal.returns-in_err-push_post-clause-stored
returns-in_err-push_post-clause-stored c =
    stored_same c.push_post.new.kept _ _ (ap (λ (s : Rows). s.posts) (sym c.loop-id.invariant.reads.same)) c.in_err-push_post.ensures.stored
