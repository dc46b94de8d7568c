-- The parts of a template, one step at a time.
use Rattle.std.proofs.Common.{◌≡◌, ◌<◌, ◌≤◌, ℕ, zero, suc, Bool, true, false, List, [], ◌∷◌, ◌++◌, length, codes, refl, ap, sym, ◌∙◌, subst, arith, append_assoc, map, Option, Some, None}
use Rattle.std.specs.Option.{option_map_or}
use Rattle.std.specs.Prelude.{unwrap_or}
use Rattle.std.proofs.lemmas.List.{map-append}
use Rattle.std.proofs.lemmas.Option.{none-some}
use Rattle.plain_data.specs.Steps.{◌>>=◌, only_if}
use Rattle.plain_data.specs.Names.{is_tag_name}
use Rattle.snippets.specs.Templates.{Part, Own, cut, read, name_of, next_part, part_at, parts_within, parts_of}
use Rattle.snippets.proofs.Cuts.{cut_shorter}

abbrev Text : Type 0
Text = List ℕ

-- what is after a part is shorter
if_shorter : (n : ℕ) (b : Bool) (part : Part) (rest : Text) (p : Part × Text) → length rest < n → only_if b (part, rest) ≡ Some p → length p.1 < n
if_shorter n true part rest p short is = let same : (part, rest) ≡ p = cc in subst (λ (q : Part × Text). length q.1 < n) same short
if_shorter n false part rest p short is = absurd (none-some p is)

cut_part_shorter : (n : ℕ) (o : Option (Text × Text)) (p : Part × Text) → ((x : Text × Text) → o ≡ Some x → length x.1 < n)
    → (o >>= (λ inside. only_if (is_tag_name (name_of (read inside.0))) (read inside.0, inside.1))) ≡ Some p → length p.1 < n
cut_part_shorter n None p short is = absurd (none-some p is)
cut_part_shorter n (Some inside) p short is = if_shorter n (is_tag_name (name_of (read inside.0))) (read inside.0) inside.1 p (short inside refl) is

part_shorter : (text : Text) (p : Part × Text) → part_at text ≡ Some p → length p.1 < length text
unfolding part_at
part_shorter text p is = cut_part_shorter (length text) (cut 125 text) p (cut_shorter 125 text) is

-- what is after a part or braces isn't longer
next_within : (text : Text) → length (next_part text).1 ≤ length text
next_within text =
    elim (part_at text) as (λ o. part_at text ≡ o → length (unwrap_or o (Own (codes "{{"), text)).1 ≤ length text) [
      | None ↦ λ is. omega arith
      | Some p ↦ λ is. let short = part_shorter text p is in omega arith
    ] refl

-- functions that agree on what there is
same_or : {A B : Type 0} (f g : A → B) (d e : B) (o : Option A) → ((x : A) → o ≡ Some x → f x ≡ g x) → d ≡ e → option_map_or f o d ≡ option_map_or g o e
same_or f g d e None same rest = rest
same_or f g d e (Some x) same rest = same x refl

-- a step, with what is left read by some function
abbrev step : (Text → List Part) → Text → List Part
step more text = option_map_or (λ x. Own x.0 ∷ (next_part x.1).0 ∷ more (next_part x.1).1) (cut 123 text) (Own text ∷ [])

-- functions that agree on shorter texts make the same step
same_step : (f g : Text → List Part) (text : Text) → ((rest : Text) → length rest < length text → f rest ≡ g rest) → step f text ≡ step g text
same_step f g text same =
    same_or (λ x. Own x.0 ∷ (next_part x.1).0 ∷ f (next_part x.1).1) (λ x. Own x.0 ∷ (next_part x.1).0 ∷ g (next_part x.1).1) (Own text ∷ []) (Own text ∷ [])
    (cut 123 text)
    (λ x is.
    let short = cut_shorter 123 text x is in
    let within = next_within x.1 in
    ap (λ l. Own x.0 ∷ (next_part x.1).0 ∷ l) (same (next_part x.1).1 (omega arith)))
    refl

enough : (m n : ℕ) (text : Text) → length text ≤ m → length text ≤ n → parts_within m text ≡ parts_within n text
enough zero zero text a b = refl
enough zero (suc n) [] a b = refl
enough zero (suc n) (c ∷ rest) a b = absurd (omega arith)
enough (suc m) zero [] a b = refl
enough (suc m) zero (c ∷ rest) a b = absurd (omega arith)
enough (suc m) (suc n) text a b = same_step (parts_within m) (parts_within n) text (λ rest short. enough m n rest (omega arith) (omega arith))

parts_step : (text : Text) → parts_of text ≡ step parts_of text
unfolding parts_of
parts_step text =
    enough (length text) (suc (length text)) text (omega arith) (omega arith)
    ∙ same_step (parts_within (length text)) parts_of text (λ rest short. enough (length text) (length rest) rest (omega arith) (omega arith))

pub last_part : (text : Text) → None ≡ cut 123 text → parts_of text ≡ Own text ∷ []
last_part text none =
    parts_step text ∙ ap (λ o. option_map_or (λ x. Own x.0 ∷ (next_part x.1).0 ∷ parts_of (next_part x.1).1) o (Own text ∷ [])) (sym none)

pub one_part : (text : Text) (x : Text × Text) (part : Part) (more : Text) → Some x ≡ cut 123 text → (part, more) ≡ next_part x.1
    → parts_of text ≡ Own x.0 ∷ part ∷ parts_of more
one_part text x part more found next =
    parts_step text ∙ ap (λ o. option_map_or (λ x. Own x.0 ∷ (next_part x.1).0 ∷ parts_of (next_part x.1).1) o (Own text ∷ [])) (sym found)
    ∙ ap (λ (n : Part × Text). Own x.0 ∷ n.0 ∷ parts_of n.1) (sym next)

-- one more item, and two
pub one_more : {A B : Type 0} (f : A → B) (xs zs : List A) (a : A) (rest : List B) → zs ≡ xs ++ a ∷ [] → map f zs ++ rest ≡ map f xs ++ (f a ∷ rest)
one_more f xs zs a rest is = ap (λ l. map f l ++ rest) is ∙ ap (λ l. l ++ rest) (map-append f xs (a ∷ [])) ∙ simp append_assoc

pub two_more : {A B : Type 0} (f : A → B) (xs ys zs : List A) (a b : A) (rest : List B) → ys ≡ xs ++ a ∷ [] → zs ≡ ys ++ b ∷ []
    → map f zs ++ rest ≡ map f xs ++ (f a ∷ f b ∷ rest)
two_more f xs ys zs a b rest first second = one_more f ys zs b rest second ∙ one_more f xs ys a (f b ∷ rest) first
