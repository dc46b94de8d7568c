-- Lists of lines.
use Rattle.std.proofs.Common.{◌≡◌, ◌++◌, ◌∷◌, [], List, Result, Ok, Err, OnOk, map, ap, append_assoc, ◌∙◌}
use Rattle.std.proofs.lemmas.List.{map-append}

pub on_ok : {A E : Type 0} {P Q : Type 0} (r : Result A E) → (P → Q) → OnOk r P → OnOk r Q
on_ok (Ok a) f p = f p
on_ok (Err e) f p = tt

module _ {X : Type 0} where
  pub one_more : {Y : Type 0} (f : Y → X) (old new : List Y) (y : Y) (x : X) → new ≡ old ++ y ∷ [] → f y ≡ x → map f new ≡ map f old ++ x ∷ []
  one_more f old new y x is same = ap (map f) is ∙ map-append f old (y ∷ []) ∙ ap (λ z. map f old ++ z ∷ []) same

  pub three_more : (old mid then new : List X) (x : X) (a b : List X) → mid ≡ old ++ x ∷ [] → then ≡ mid ++ a → new ≡ then ++ b → new ≡ old ++ x ∷ (a ++ b)
  three_more old mid then new x a b one two three =
      three ∙ ap (λ l. l ++ b) (two ∙ ap (λ l. l ++ a) one) ∙ append_assoc (old ++ x ∷ []) a b ∙ append_assoc old (x ∷ []) (a ++ b)
