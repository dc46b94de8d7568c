-- What a mapped list has.
use Rattle.std.proofs.Common.{◌≡◌, inl, inr, List, [], ◌∷◌, map, refl, ap}
use Rattle.sqlite_rules.specs.Lists.{Has}

pub mapped_from : {X Y : Type 0} (f : X → Y) (xs : List X) (y : Y) → Has (map f xs) y → (x : X) × Has xs x × (y ≡ f x)
mapped_from f [] y h = absurd h
mapped_from f (x ∷ xs) y (inl same) = (x, inl refl, same)
mapped_from f (x ∷ xs) y (inr more) = let it = mapped_from f xs y more in (it.0, inr it.1, it.2)

pub mapped_has : {X Y : Type 0} (f : X → Y) (xs : List X) (x : X) → Has xs x → Has (map f xs) (f x)
mapped_has f [] x h = absurd h
mapped_has f (y ∷ xs) x (inl same) = inl (ap f same)
mapped_has f (y ∷ xs) x (inr more) = inr (mapped_has f xs x more)
