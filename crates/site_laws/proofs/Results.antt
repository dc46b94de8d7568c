-- What holds of whatever is found, read or chosen.
use Rattle.std.proofs.Common.{◌≡◌, ℕ, ◌+◌, List, [], ◌∷◌, ◌++◌, Bool, true, false, Option, None, Some, Result, Ok, Err, sym, subst}
use Rattle.std.specs.Prelude.{IfSome, IfOk, option_map, option_and_then, if◌then◌else◌}
use Rattle.std.specs.List.{AllByRecursion}
use Rattle.serde_json.specs.Data.{Data}
use Rattle.site_import.specs.Walks.{Read, and_read, of_form, each_from, section_of}
use Rattle.site_import.specs.declared.fault.Place.{Place}

-- ---- what is found

module _ {A B : Type 0} (P : A → Type 0) (Q : B → Type 0) where
  pub some_map : (f : A → B) → ((a : A) → P a → Q (f a)) → (o : Option A) → IfSome o P → IfSome (option_map f o) Q
  some_map f h None is = tt
  some_map f h (Some a) is = h a is

  pub some_with : (f : A → Option B) → ((a : A) → P a → IfSome (f a) Q) → (o : Option A) → IfSome o P → IfSome (option_and_then f o) Q
  some_with f h None is = tt
  some_with f h (Some a) is = h a is

module _ {A B : Type 0} (Q : B → Type 0) where
  pub some_any : (f : A → Option B) → ((a : A) → IfSome (f a) Q) → (o : Option A) → IfSome (option_and_then f o) Q
  some_any f h None = tt
  some_any f h (Some a) = h a

  pub some_mapped : (f : A → B) → ((a : A) → Q (f a)) → (o : Option A) → IfSome (option_map f o) Q
  some_mapped f h None = tt
  some_mapped f h (Some a) = h a

pub some_if : {B : Type 0} (Q : B → Type 0) (b : Bool) (x y : Option B) → IfSome x Q → IfSome y Q → IfSome (if b then x else y) Q
some_if Q true x y one other = one
some_if Q false x y one other = other

pub none_then : {A B : Type 0} (Q : B → Type 0) (f : A → Option B) → ((a : A) → f a ≡ None) → (o : Option A) → IfSome (option_and_then f o) Q
none_then Q f none None = tt
none_then Q f none (Some a) = subst (λ o. IfSome o Q) (sym (none a)) tt

-- five that are found, one after another
pub five_found : {A B C D E F : Type 0} (Q : F → Type 0) (make : A → B → C → D → E → F) → ((a : A) (b : B) (c : C) (d : D) (e : E) → Q (make a b c d e))
    → (a : Option A) (b : Option B) (c : Option C) (d : Option D) (e : Option E)
    → IfSome (option_and_then (λ a. option_and_then (λ b. option_and_then (λ c. option_and_then (λ d. option_and_then (λ e. Some (make a b c d e)) e) d) c) b) a) Q
five_found Q make h None b c d e = tt
five_found Q make h (Some a) None c d e = tt
five_found Q make h (Some a) (Some b) None d e = tt
five_found Q make h (Some a) (Some b) (Some c) None e = tt
five_found Q make h (Some a) (Some b) (Some c) (Some d) None = tt
five_found Q make h (Some a) (Some b) (Some c) (Some d) (Some e) = h a b c d e

-- and six, of which the first is such
pub six_found : {A B C D E F G : Type 0} (P : A → Type 0) (Q : G → Type 0) (make : A → B → C → D → E → F → G)
    → ((a : A) → P a → (b : B) (c : C) (d : D) (e : E) (f : F) → Q (make a b c d e f)) → (a : Option A) → IfSome a P
    → (b : Option B) (c : Option C) (d : Option D) (e : Option E) (f : Option F)
    → IfSome (option_and_then (λ a. option_and_then (λ b. option_and_then (λ c. option_and_then (λ d. option_and_then (λ e. option_and_then (λ f.
    Some (make a b c d e f)) f) e) d) c) b) a) Q
six_found P Q make h None is b c d e f = tt
six_found P Q make h (Some a) is b c d e f = five_found Q (make a) (h a is) b c d e f

pub some_weaker : {A : Type 0} (P Q : A → Type 0) → ((a : A) → P a → Q a) → (o : Option A) → IfSome o P → IfSome o Q
some_weaker P Q h None is = tt
some_weaker P Q h (Some a) is = h a is

pub some_is : {A : Type 0} (P : A → Type 0) (o : Option A) (a : A) → IfSome o P → o ≡ Some a → P a
some_is P None a is e = absurd (let clash : ◌≡◌ {A = Option _} None (Some a) = e in cc)
some_is P (Some b) a is e = let same : b ≡ a = cc in rw same at is

-- ---- what is read

module _ {A B : Type 0} (P : A → Type 0) (Q : B → Type 0) where
  pub read_with : (f : A → Read B) → ((a : A) → P a → IfOk (f a) Q) → (r : Read A) → IfOk r P → IfOk (and_read r f) Q
  read_with f h (Ok a) is = h a is
  read_with f h (Err e) is = tt

  pub each_read : (reads : ℕ → A → Read B) → ((n : ℕ) (a : A) → P a → IfOk (reads n a) Q) → (n : ℕ) (xs : List A) → AllByRecursion P xs
      → IfOk (each_from reads n xs) (AllByRecursion Q)
  each_read reads h n [] all = tt
  each_read reads h n (x ∷ xs) all = both (reads n x) (each_from reads (n + 1) xs) (h n x all.0) (each_read reads h (n + 1) xs all.1)
    where
      both : (r : Read B) (rest : Read (List B)) → IfOk r Q → IfOk rest (AllByRecursion Q)
          → IfOk (and_read r (λ found. and_read rest (λ more. Ok (found ∷ more)))) (AllByRecursion Q)
      both (Err e) rest one more = tt
      both (Ok b) (Err e) one more = tt
      both (Ok b) (Ok bs) one more = (one, more)

module _ {A : Type 0} (P : A → Type 0) where
  pub form_is : (place : Place) (o : Option A) → IfSome o P → IfOk (of_form place o) P
  form_is place None is = tt
  form_is place (Some a) is = is

  pub section_is : (In : Data → Type 0) (reads : Data → Read (List A)) → ((tree : Data) → In tree → IfOk (reads tree) (AllByRecursion P)) → (o : Option Data)
      → IfSome o In → IfOk (section_of reads o) (AllByRecursion P)
  section_is In reads h None is = tt
  section_is In reads h (Some tree) is = h tree is

pub ok_is : {A E : Type 0} (P : A → Type 0) (r : Result A E) (a : A) → IfOk r P → r ≡ Ok a → P a
ok_is P (Err e) a is same = absurd (let clash : ◌≡◌ {A = Result _ _} (Err e) (Ok a) = same in cc)
ok_is P (Ok b) a is same = let one : b ≡ a = cc in rw one at is

pub all_append : {A : Type 0} (P : A → Type 0) (xs ys : List A) → AllByRecursion P xs → AllByRecursion P ys → AllByRecursion P (xs ++ ys)
all_append P [] ys one other = other
all_append P (x ∷ xs) ys one other = (one.0, all_append P xs ys one.1 other)
