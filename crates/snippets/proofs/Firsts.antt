-- What a text is read as if it doesn't begin with a mark; what is left of a scheme.
use Rattle.std.proofs.Common.{◌≡◌, ◌≢◌, ◌==◌, ◌+◌, ℕ, true, false, pos, List, [], ◌∷◌, length, refl, ap, sym, arith, Some, None}
use Rattle.std.specs.Option.{option_map_or}
use Rattle.std.specs.List.{before_first, after_first}
use Rattle.std.proofs.lemmas.Bool.{eqb-true}
use Rattle.hook_changes.specs.declared.reply.Change.TheVariants.{Add}
use Rattle.snippets.specs.Snippets.{priority_in, registered}
use Rattle.snippets.specs.Templates.{Value, read, is_bar, after_byte, begins}

abbrev Text : Type 0
Text = List ℕ

differs : (b c : ℕ) → b ≢ c → (b == c) ≡ false
differs b c other = elim (b == c) as (λ v. (b == c) ≡ v → v ≡ false) [ true ↦ λ t. absurd (other (eqb-true b c t)) | false ↦ λ t. refl ] refl

begins_not : (b c : ℕ) (rest : Text) → ((more : Text) → b ∷ rest ≢ c ∷ more) → (b == c) ≡ false
begins_not b c rest other = differs b c (λ same. other rest (ap (λ d. d ∷ rest) same))

pub reads_value : (text : Text) → ((rest : Text) → text ≢ 35 ∷ rest) → ((rest : Text) → text ≢ 94 ∷ rest) → ((rest : Text) → text ≢ 47 ∷ rest)
    → Value (before_first is_bar text) (after_first is_bar text) ≡ read text
reads_value [] hash hat slash = refl
reads_value (b ∷ rest) hash hat slash = rw (begins_not b 35 rest hash, begins_not b 94 rest hat, begins_not b 47 rest slash) refl

pub registers_callback : (word : Text) → ((rest : Text) → word ≢ 91 ∷ rest)
    → option_map_or (λ p. Add (before_first (λ c. c == 58) word) (pos p) (502 + p) 2 ∷ []) (priority_in (after_first (λ c. c == 58) word)) [] ≡ registered word
registers_callback [] bracket = refl
registers_callback (b ∷ rest) bracket = rw (begins_not b 91 rest bracket) refl

-- a step along an address
pub begun : (left rest : Text) → (length left == 0) ≡ true → begins left rest ≡ true
begun [] rest none = refl
begun (s ∷ scheme) rest none = absurd (omega (arith, eqb-true (length (s ∷ scheme)) 0 none))

pub goes_on : (left rest next : Text) (b : ℕ) → (length left == 0) ≡ false → Some next ≡ after_byte left b → begins left (b ∷ rest) ≡ begins next rest
goes_on [] rest next b some is = cc
goes_on (s ∷ scheme) rest next b some is = ap (λ o. option_map_or (λ l. begins l rest) o false) (sym is)

pub stops : (left rest : Text) (b : ℕ) → (length left == 0) ≡ false → None ≡ after_byte left b → begins left (b ∷ rest) ≡ false
stops [] rest b some is = cc
stops (s ∷ scheme) rest b some is = ap (λ o. option_map_or (λ l. begins l rest) o false) (sym is)

pub ended : (left : Text) → begins left [] ≡ (length left == 0)
ended [] = refl
ended (s ∷ scheme) = sym (differs (length (s ∷ scheme)) 0 (λ same. absurd (omega (arith, same))))
