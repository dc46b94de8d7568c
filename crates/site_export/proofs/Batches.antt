-- The lines of posts, batch by batch.
use Rattle.std.proofs.Common.{◌≡◌, ◌<◌, ◌+◌, ◌++◌, ◌∷◌, [], ℕ, zero, suc, List, length, get_or, take, drop, ap, sym}
use Rattle.std.proofs.Common.{true, false, refl, subst, ◌∙◌, arith, append-nil, append_assoc}
use Rattle.std.proofs.lemmas.Bool.{false_from_ne_true}
use Rattle.std.specs.List.{flat_map}
use Rattle.std.proofs.lemmas.List.Concat.{flat_map-append}
use Rattle.site_records.specs.declared.post.Post.{Post}
use Rattle.plain_data.specs.Texts.{Text}
use Rattle.site_export.specs.Lines.{AppendsPosts, batch_lines, fits, import_line, apart}

pub none_more : (old : List Text) → AppendsPosts [] old old
none_more old = record { batches = []; posts_are = refl; lines_are = sym (append-nil old) }

one_batch : (posts : List Post) (old new : List Text) → new ≡ old ++ batch_lines posts → AppendsPosts posts old new
one_batch posts old new is = record {
  batches = posts ∷ [];
  posts_are = append-nil posts;
  lines_are = is ∙ ap (λ l. old ++ l) (sym (append-nil (batch_lines posts)));
}

pub one_line : (posts : List Post) (old new : List Text) → fits posts ≡ true → new ≡ old ++ import_line posts ∷ [] → AppendsPosts posts old new
one_line posts old new short is = one_batch posts old new (rw short is)

pub own_lines : (post : Post) (old new : List Text) → fits (post ∷ []) ≡ false → new ≡ old ++ apart post → AppendsPosts (post ∷ []) old new
own_lines post old new long is = one_batch (post ∷ []) old new (rw long (is ∙ ap (λ l. old ++ l) (sym (append-nil (apart post)))))

pub more : (one two : List Post) (old mid new : List Text) → AppendsPosts one old mid → AppendsPosts two mid new → AppendsPosts (one ++ two) old new
more one two old mid new a b = record {
  batches = a.batches ++ b.batches;
  posts_are = flat_map-append (λ batch. batch) a.batches b.batches ∙ ap (λ l. l ++ flat_map (λ batch. batch) b.batches) a.posts_are
      ∙ ap (λ l. one ++ l) b.posts_are;
  lines_are = b.lines_are ∙ ap (λ l. l ++ flat_map batch_lines b.batches) a.lines_are
      ∙ append_assoc old (flat_map batch_lines a.batches) (flat_map batch_lines b.batches)
      ∙ ap (λ l. old ++ l) (sym (flat_map-append batch_lines a.batches b.batches));
}

-- ---- the first posts of a list

first_taken : (ps : List Post) (p : Post) → 0 < length ps → p ≡ get_or ps 0 p → take 1 ps ≡ p ∷ []
first_taken [] p some is = absurd (omega (arith, some))
first_taken (q ∷ ps) p some is = ap (λ x. x ∷ []) (sym is)

too_long : (ps : List Post) → 0 < length ps → (fits (take 1 ps) ≡ true → ps ≡ []) → fits (take 1 ps) ≡ false
too_long ps some none = false_from_ne_true _ (λ short. let empty = ap length (none short) in omega (arith, some, empty))

-- one that is too long for a line
pub first_alone : (ps : List Post) (p : Post) (old new : List Text) → 0 < length ps → p ≡ get_or ps 0 p → (fits (take 1 ps) ≡ true → ps ≡ [])
    → new ≡ old ++ apart p → AppendsPosts (take 1 ps) old new
first_alone ps p old new some is none lines =
    let one = first_taken ps p some is in
    subst (λ l. AppendsPosts l old new) (sym one) (own_lines p old new (subst (λ l. fits l ≡ false) one (too_long ps some none)) lines)

none_of : (n : ℕ) → take {A = Post} n [] ≡ []
none_of zero = refl
none_of (suc n) = refl

take_on : (n m : ℕ) (ps : List Post) → take (n + m) ps ≡ take n ps ++ take m (drop n ps)
take_on zero m ps = ap (λ k. take k ps) (omega arith)
take_on (suc n) m [] = none_of (suc n + m) ∙ sym (none_of m)
take_on (suc n) m (p ∷ ps) = let on : suc n + m ≡ suc (n + m) = omega arith in ap (λ k. take k (p ∷ ps)) on ∙ ap (λ l. p ∷ l) (take_on n m ps)

pub more_taken : (n m : ℕ) (ps : List Post) (old mid new : List Text) → AppendsPosts (take n ps) old mid → AppendsPosts (take m (drop n ps)) mid new
    → AppendsPosts (take (n + m) ps) old new
more_taken n m ps old mid new a b = subst (λ l. AppendsPosts l old new) (sym (take_on n m ps)) (more (take n ps) (take m (drop n ps)) old mid new a b)
