-- What SQL's comparisons say of texts and numbers.
use Rattle.std.proofs.Common.{◌≡◌, inl, inr, ℕ, pos, suc, List, [], ◌∷◌, map, length, Bool, true, false, ◌&&◌, ◌||◌, ◌==◌, Some, Ordering, Less}
use Rattle.std.proofs.Common.{Equal, Greater, refl, sym, ap, ◌∙◌, arith, true≢false, nat_lt}
use Rattle.std.specs.Ordering.{is_eq, nat_cmp, int_cmp}
use Rattle.std.specs.Cmp.Lexicographic.{slice_cmp}
use Rattle.std.specs.FinMap.{slice_cmp-IsAntisymmetric, nat_cmp-IsAntisymmetric}
use Rattle.std.proofs.lemmas.Bool.{cases_Bool}
use Rattle.std.proofs.lemmas.Bool.Decides.{nat_tests}
use Rattle.std.proofs.lemmas.Cmp.{tied_itself}
use Rattle.sqlite_value.specs.declared.value.Value.{Value}
use Rattle.sqlite_value.specs.declared.value.Value.TheVariants.{Int, Text}
use Rattle.sqlite_value.specs.declared.keys.Collation.TheVariants.{Binary}
use Rattle.sqlite_value.specs.Order.{value_cmp}
use Rattle.sqlite_value.proofs.OrderLemmas.{value_cmp-Text, value_cmp-Int, value_cmp_total}
use Rattle.sqlite_sql.specs.Ops.{binary, is_null, from_truth, is_true, test}
use Rattle.sqlite_sql.specs.declared.ops.BinaryOp.TheVariants.{Compare}
use Rattle.sqlite_sql.specs.declared.ops.CompareOp.{CompareOp}
use Rattle.sqlite_sql.specs.declared.ops.CompareOp.TheVariants.{Eq, Gt}
use Rattle.sqlite_schema.specs.Rules.{equal}

pub equal_is : (o : Ordering) → is_eq o ≡ true → o ≡ Equal
equal_is Less h = absurd (true≢false (sym h))
equal_is Equal h = refl
equal_is Greater h = absurd (true≢false (sym h))

-- SQL's = holds of values that tie, and of no NULL
pub equal_tied : (a b : Value) → equal Binary a b ≡ true → value_cmp a b ≡ Equal
unfolding binary
equal_tied a b h = elim (cases_Bool (is_null a || is_null b)) [
  | inl null ↦ absurd (true≢false (sym (rw null at h)))
  | inr both ↦ elim (cases_Bool (is_eq (value_cmp a b))) [
    | inl tied ↦ equal_is (value_cmp a b) tied
    | inr other ↦ absurd (true≢false (sym (rw (both, other) at h)))
  ]
]

pub tied_text : (s t : List ℕ) → value_cmp (Text s) (Text t) ≡ Equal → s ≡ t
tied_text s t h = slice_cmp-IsAntisymmetric nat_cmp-IsAntisymmetric s t (sym (value_cmp-Text s t) ∙ h)

pub text_itself : (s : List ℕ) → value_cmp (Text s) (Text s) ≡ Equal
text_itself s = tied_itself value_cmp_total (Text s)

pub equal_text : (s : List ℕ) → equal Binary (Text s) (Text s) ≡ true
unfolding binary
equal_text s = rw (text_itself s) refl

truth_of : (b : Bool) → is_true (from_truth (Some b)) ≡ b
truth_of true = refl
truth_of false = refl

pub and_true : (b : Bool) → (b && true) ≡ b
and_true true = refl
and_true false = refl

pub text_compares : (op : CompareOp) (a b : List ℕ) → is_true (binary (Compare op Binary) (Text a) (Text b)) ≡ test op (slice_cmp nat_cmp a b)
unfolding binary
text_compares op a b = truth_of (test op (value_cmp (Text a) (Text b))) ∙ ap (test op) (value_cmp-Text a b)

pub pos_cmp : (m n : ℕ) → int_cmp (pos m) (pos n) ≡ nat_cmp m n
pos_cmp m n = grind (arith, nat_tests)

pub same_number : (m n : ℕ) → is_eq (nat_cmp m n) ≡ (m == n)
same_number m n = grind (arith, nat_tests)

pub number_compares : (m n : ℕ) → (is_true (binary (Compare Eq Binary) (Int (pos m)) (Int (pos n))) && true) ≡ (m == n)
unfolding binary
number_compares m n = and_true _ ∙ truth_of (is_eq (value_cmp (Int (pos m)) (Int (pos n)))) ∙ ap is_eq (value_cmp-Int (pos m) (pos n) ∙ pos_cmp m n)
    ∙ same_number m n

pub number_above : (m n : ℕ) → (is_true (binary (Compare Gt Binary) (Int (pos m)) (Int (pos n))) && true) ≡ nat_lt n m
unfolding binary
number_above m n = and_true _ ∙ truth_of (test Gt (value_cmp (Int (pos m)) (Int (pos n)))) ∙ ap (test Gt) (value_cmp-Int (pos m) (pos n) ∙ pos_cmp m n)
    ∙ above m n
  where
    above : (m n : ℕ) → test Gt (nat_cmp m n) ≡ nat_lt n m
    above m n = grind (arith, nat_tests)

-- ---- lists

pub len_map : {A B : Type 0} (f : A → B) (xs : List A) → length (map f xs) ≡ length xs
len_map f [] = refl
len_map f (x ∷ xs) = ap (λ n. suc n) (len_map f xs)

pub nil_of : {A : Type 0} (xs : List A) → length xs ≡ 0 → xs ≡ []
nil_of [] e = refl
nil_of (x ∷ xs) e = absurd (omega arith)
