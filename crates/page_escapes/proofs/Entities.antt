-- Entities of characters, and of the bytes of one.
use Rattle.std.proofs.Common.{◌≡◌, ◌≤◌, ◌<◌, ℕ, suc, List, [], ◌∷◌, ◌++◌, length, get_or, encode_utf8, refl, sym, subst, ⊎_elim, append-nil, arith, Option}
use Rattle.std.proofs.Common.{Some, None, is_some, true, false}
use Rattle.std.proofs.lemmas.Bool.{cases_lt, false≢true}
use Rattle.std.proofs.lemmas.Bool.Decides.{nat_tests}
use Rattle.std.proofs.lemmas.Str.{inside_one}
use Rattle.memchr.specs.Find.{IsFirstByte, is_byte2, is_byte3}
use Rattle.page_escapes.specs.Escapes.{entity, html_escaped}

-- bytes without entities stay
stay : (bytes : List ℕ) → ((k : ℕ) → k < length bytes → entity (get_or bytes k 0) ≡ get_or bytes k 0 ∷ []) → html_escaped bytes ≡ bytes
stay [] plain = refl
stay (b ∷ rest) plain =
    let first = plain 0 (omega arith) in
    let more = stay rest (λ k inside. plain (suc k) (omega arith)) in
    λ i. first i ++ more i

beyond_ascii : (b : ℕ) → 128 ≤ b → entity b ≡ b ∷ []
beyond_ascii b far = grind (arith, nat_tests)

-- a character without an entity has no byte with one
pub stays : (c : ℕ) → entity c ≡ c ∷ [] → html_escaped (encode_utf8 c) ≡ encode_utf8 c
stays c plain =
    let bytes = encode_utf8 c in
    let P : ℕ → Type 0 = λ b. entity b ≡ b ∷ [] in
    let whole = sym (append-nil bytes) in
    stay bytes (λ k inside. ⊎_elim (λ low. subst P (inside_one c [] bytes k whole inside low) plain) (beyond_ascii _) (cases_lt (get_or bytes k 0) 128))

-- a byte that isn't one of the marks has no entity
plain_byte : (b : ℕ) → (is_byte3 38 60 62 b ≡ true → ⊥) → (is_byte2 34 39 b ≡ true → ⊥) → entity b ≡ b ∷ []
plain_byte b mark quote = grind (arith, nat_tests, mark, quote)

-- a text in which no mark is found stays
pub lacks_marks : (s : List ℕ) (mark quote : Option ℕ) → IsFirstByte (is_byte3 38 60 62) s mark → IsFirstByte (is_byte2 34 39) s quote
    → is_some mark ≡ false → is_some quote ≡ false → html_escaped s ≡ s
lacks_marks s None None marks quotes none empty =
    stay s (λ k inside. plain_byte (get_or s k 0) (marks k (omega arith) inside) (quotes k (omega arith) inside))
lacks_marks s (Some m) quote marks quotes none empty = absurd (false≢true (sym none))
lacks_marks s None (Some q) marks quotes none empty = absurd (false≢true (sym empty))
