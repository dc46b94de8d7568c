use Rattle.std.proofs.Common.{◌≡◌, ◌∙◌, ◌&&◌, true, List, [], ◌∷◌, map, refl, ap₂, String, Global, sym}
use Rattle.std.specs.String.{string_bytes, string_eq}
use Rattle.std.proofs.lemmas.Bool.{and_parts}
use Rattle.std.proofs.lemmas.Slice.Eq.{bytes_eq-Decides}
use lib.Pointwise.{pointwise}
use Rattle.site_start.proofs.compacting.are_equal.Goals as goal

same_lines : (xs ys : List (String Global)) → pointwise string_eq xs ys ≡ true → map string_bytes xs ≡ map string_bytes ys
same_lines [] [] same = refl
same_lines [] (y ∷ ys) same = absurd (cc)
same_lines (x ∷ xs) [] same = absurd (cc)
same_lines (x ∷ xs) (y ∷ ys) same =
    let parts = and_parts (string_eq x y) (pointwise string_eq xs ys) same in
    ap₂ ◌∷◌ ((bytes_eq-Decides (string_bytes x) (string_bytes y)).0 parts.0) (same_lines xs ys parts.1)

equal_lines : (xs ys : List (String Global)) → map string_bytes xs ≡ map string_bytes ys → pointwise string_eq xs ys ≡ true
equal_lines [] [] same = refl
equal_lines [] (y ∷ ys) same = absurd (cc)
equal_lines (x ∷ xs) [] same = absurd (cc)
equal_lines (x ∷ xs) (y ∷ ys) same =
    let head : string_bytes x ≡ string_bytes y = cc in
    let tail : map string_bytes xs ≡ map string_bytes ys = cc in
    ap₂ ◌&&◌ ((bytes_eq-Decides (string_bytes x) (string_bytes y)).1 head) (equal_lines xs ys tail)

pub returns : goal.returns
returns c = (
  λ is. same_lines c.args.some.now c.args.others.now (sym c.eq.ensures ∙ is),
  λ same. c.eq.ensures ∙ equal_lines c.args.some.now c.args.others.now same,
)
