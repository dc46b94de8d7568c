-- The places that a binary search finds among groups.
use Rattle.std.proofs.Common.{◌≡◌, ℕ, zero, suc, ◌<◌, ◌≤◌, ℤ, Bool, true, false, not, List, [], ◌∷◌, length, get_or, refl, subst, arith}
use Rattle.std.specs.Prelude.{int_lt}
use Rattle.std.specs.Ordering.{int_eq}
use Rattle.std.specs.List.{AllWithin}
use Rattle.std.specs.List.Sorted.{IsPartitionedBy, IsPartitionPoint}
use Rattle.std.proofs.lemmas.Bool.Decides.{Decides-int_eq}
use Rattle.std.proofs.lemmas.Int.{ints}
use Rattle.hook_registry.proofs.Ascending.{not_true, not_false}
use Rattle.hook_registry.specs.declared.group.Group.{Group}
use Rattle.hook_registry.specs.Groups.{AllAbove, AreGroups, IsAt, IsGap, IsEnd}

-- a test of priorities that every smaller one passes too
module _ (test : ℤ → Bool) (lesser : (p q : ℤ) → int_lt p q ≡ true → test q ≡ true → test p ≡ true) where
  first_passes : (p : ℤ) (gs : List Group) (j : ℕ) (d : Group) → AllAbove p gs → j < length gs → test (get_or gs j d).priority ≡ true → test p ≡ true
  first_passes p [] j d h l t = absurd (omega arith)
  first_passes p (g ∷ gs) zero d h l t = lesser p g.priority h.0 t
  first_passes p (g ∷ gs) (suc j) d h l t = first_passes p gs j d h.1 (omega arith) t

  pub is_partitioned : (groups : List Group) → AreGroups groups → IsPartitionedBy (λ g. test g.priority) groups
  is_partitioned [] are_groups i j given ordered inside passes = absurd (omega arith)
  is_partitioned (g ∷ groups) are_groups zero zero given ordered inside passes = passes
  is_partitioned (g ∷ groups) are_groups zero (suc j) given ordered inside passes = first_passes g.priority groups j given are_groups.1 (omega arith) passes
  is_partitioned (g ∷ groups) are_groups (suc i) zero given ordered inside passes = absurd (omega arith)
  is_partitioned (g ∷ groups) are_groups (suc i) (suc j) given ordered inside passes = is_partitioned groups are_groups.2 i j given (omega arith)
      (omega arith) passes

pub still_below : (p a b : ℤ) → int_lt a b ≡ true → int_lt b p ≡ true → int_lt a p ≡ true
still_below p a b l h = grind (arith, ints)

pub still_not_above : (p a b : ℤ) → int_lt a b ≡ true → not (int_lt p b) ≡ true → not (int_lt p a) ≡ true
still_not_above p a b l h = let low : int_lt p a ≡ false = lower (not_true (int_lt p b) h) in rw low refl
  where
    lower : int_lt p b ≡ false → int_lt p a ≡ false
    lower k = grind (arith, ints)

later : (P : Group → Type 0) (x : Group) (items : List Group) (i : ℕ) → AllWithin P (x ∷ items) 0 (suc i) → AllWithin P items 0 i
later P x items i all at other low high = all (suc at) other (omega arith) (omega arith)

rest : (P : Group → Type 0) (x : Group) (items : List Group) (i : ℕ) → AllWithin P (x ∷ items) (suc i) (length (x ∷ items)) → AllWithin P items i (length items)
rest P x items i all at other low high = all (suc at) other (omega arith) (omega arith)

module _ (p : ℤ) where
  abbrev Below : Group → Type 0
  Below g = int_lt g.priority p ≡ true

  pub at-from : (gs : List Group) (at : ℕ) (g : Group) → AllWithin Below gs 0 at → at < length gs → int_eq (get_or gs at g).priority p ≡ true → IsAt p gs at
  at-from [] at g f l e = absurd (omega arith)
  at-from (x ∷ gs) zero g f l e = e
  at-from (x ∷ gs) (suc at) g f l e = (f 0 x (omega arith) (omega arith), at-from gs at g (later Below x gs at f) (omega arith) e)

  above : (z : ℤ) → int_lt z p ≡ false → int_eq z p ≡ false → int_lt p z ≡ true
  above z h k = elim (int_lt p z) as (λ b. int_lt p z ≡ b → b ≡ true)
      [ true ↦ λ e. refl | false ↦ λ e. let same : z ≡ p = equal z h e in absurd (differ z same k) ] refl
    where
      equal : (z : ℤ) → int_lt z p ≡ false → int_lt p z ≡ false → z ≡ p
      equal z h e = grind (arith, ints)

      differ : (z : ℤ) → z ≡ p → int_eq z p ≡ false → ⊥
      differ z s k = let t = (Decides-int_eq z p).1 s in cc

  -- there is a group at the place, and it doesn't have the priority
  pub gap-there : (gs : List Group) (at : ℕ) (g : Group) → AllWithin Below gs 0 at → AllWithin (λ g. int_lt g.priority p ≡ false) gs at (length gs)
      → at < length gs → g ≡ get_or gs at g → int_eq g.priority p ≡ false → IsGap p gs at
  gap-there [] at g f n l e k = absurd (omega arith)
  gap-there (x ∷ gs) zero g f n l e k = above x.priority (n 0 x (omega arith) (omega arith)) (subst (λ (y : Group). int_eq y.priority p ≡ false) e k)
  gap-there (x ∷ gs) (suc at) g f n l e k =
      (f 0 x (omega arith) (omega arith), gap-there gs at g (later Below x gs at f) (rest (λ g. int_lt g.priority p ≡ false) x gs at n) (omega arith) e k)

  -- the groups end at the place
  pub gap-end : (gs : List Group) (at : ℕ) → AllWithin Below gs 0 at → at ≤ length gs → (at < length gs → ⊥) → IsGap p gs at
  gap-end [] zero f l e = tt
  gap-end [] (suc at) f l e = absurd (omega arith)
  gap-end (x ∷ gs) zero f l e = absurd (e (omega arith))
  gap-end (x ∷ gs) (suc at) f l e = (f 0 x (omega arith) (omega arith), gap-end gs at (later Below x gs at f) (omega arith) (λ m. e (omega (arith, m))))

  pub end-from : (gs : List Group) (at : ℕ) → IsPartitionPoint (λ g. not (int_lt p g.priority) ≡ true) (λ g. not (int_lt p g.priority) ≡ false) gs at
      → at ≤ length gs → IsEnd p gs at
  end-from [] zero f l = tt
  end-from [] (suc at) f l = absurd (omega arith)
  end-from (x ∷ gs) zero f l = not_false (int_lt p x.priority) (f.1 0 x (omega arith) (omega arith))
  end-from (x ∷ gs) (suc at) f l = (
    not_true (int_lt p x.priority) (f.0 0 x (omega arith) (omega arith)),
    end-from gs at
        (later (λ g. not (int_lt p g.priority) ≡ true) x gs at f.0, rest (λ g. not (int_lt p g.priority) ≡ false) x gs at f.1) (omega arith),
  )

  -- a group that isn't above the priority, so that none before it is
  not_above_before : (q : ℤ) (gs : List Group) (at : ℕ) (d : Group) → AllAbove q gs → at < length gs → int_lt p (get_or gs at d).priority ≡ false
      → int_lt p q ≡ false
  not_above_before q [] at d a l h = absurd (omega arith)
  not_above_before q (g ∷ gs) zero d a l h = grind (arith, ints, a, h)
  not_above_before q (g ∷ gs) (suc at) d a l h = not_above_before q gs at d a.1 (omega arith) h

  -- the group at a place is the last one that isn't above the priority
  pub end-after : (gs : List Group) (at : ℕ) (d e : Group) → AreGroups gs → at < length gs → int_lt p (get_or gs at d).priority ≡ false
      → (suc at < length gs → int_lt p (get_or gs (suc at) e).priority ≡ true) → IsEnd p gs (suc at)
  end-after [] at d e h l b n = absurd (omega arith)
  end-after (g ∷ []) zero d e h l b n = (b, tt)
  end-after (g ∷ x ∷ gs) zero d e h l b n = (b, n (omega arith))
  end-after (g ∷ gs) (suc at) d e h l b n =
      (not_above_before g.priority gs at d h.1 (omega arith) b, end-after gs at d e h.2 (omega arith) b (λ m. n (omega (arith, m))))
