-- Lemmas on bytes that wait and are written.
use Rattle.std.proofs.Common.{◌≡◌, ℕ, List, ◌++◌, ◌∙◌, Option, Some, None, refl, ap, append_assoc, take, drop, take-append-drop}
use Rattle.std.specs.Prelude.{is_some}
use Rattle.std.specs.Io.KnownBytes.{Appends, append_known}

-- the front of the bytes was written, and the others wait
pub written_front : (a b : Option (List ℕ)) (bytes : List ℕ) (n : ℕ) → is_some a ≡ is_some b → Appends a b (take n bytes)
    → append_known b (drop n bytes) ≡ append_known a bytes
written_front None None bytes n same grows = refl
written_front None (Some y) bytes n same grows = absurd (cc)
written_front (Some x) None bytes n same grows = absurd grows
written_front (Some x) (Some y) bytes n same grows =
    ap Some (ap (λ l. l ++ drop n bytes) grows ∙ append_assoc x (take n bytes) (drop n bytes) ∙ ap (λ l. x ++ l) (take-append-drop n bytes))
