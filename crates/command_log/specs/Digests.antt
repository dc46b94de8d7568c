-- The digests of lines that follow one another.
use Rattle.std.specs.Prelude.{◌≡◌, ◌≢◌, ℕ, List, [], ◌∷◌, ◌++◌}
use Rattle.sha2.specs.Sha256.{sha256}

-- the digest after more lines: for each, SHA-256 (FIPS 180-4) of the digest before it and then the line
abbrev pub digest_after : List ℕ → List (List ℕ) → List ℕ
digest_after digest [] = digest
digest_after digest (line ∷ lines) = digest_after (sha256 (digest ++ line)) lines

-- the digest of lines: that of no line is SHA-256 of nothing
abbrev pub digest_of : List (List ℕ) → List ℕ
digest_of lines = digest_after (sha256 []) lines

-- the digest after each of the lines
abbrev pub digests_after : List ℕ → List (List ℕ) → List (List ℕ)
digests_after digest [] = []
digests_after digest (line ∷ lines) = sha256 (digest ++ line) ∷ digests_after (sha256 (digest ++ line)) lines

-- for each of the lines, the digest of the lines up to it
abbrev pub digests_of : List (List ℕ) → List (List ℕ)
digests_of lines = digests_after (sha256 []) lines

-- two different texts with one digest
pub record Collide : Type 0 where
  pub one : List ℕ
  pub other : List ℕ
  pub differ : one ≢ other
  pub same : sha256 one ≡ sha256 other
