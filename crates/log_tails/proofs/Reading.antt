-- What the bytes that were read of a log say of it.
use Rattle.std.proofs.Common.{◌≡◌, ◌≢◌, ◌↔◌, ℕ, suc, ◌+◌, ◌<◌, Bool, true, false, not, eqb, IsTrue, List, length, slice_index, inl, inr, sym, ap, ◌∙◌, arith, add-zero, add-one, ap₂}
use Rattle.std.proofs.lemmas.Bool.{eq-eqb, ne_eqb, false≢true, cond-true, cond-false, cases_eq, eqb-true}
use Rattle.sqlite_disk.specs.Disk.{Holds}
use Rattle.sqlite_wal.specs.Format.{be32, commit_size}
use Rattle.sqlite_wal.specs.Recovery.{frame, frame_at, header}
use Rattle.log_tails.specs.Tails.{commit_in, commits_in, IsBegun}
use Rattle.sqlite_wal.proofs.FormatLemmas.{be32-part}
use Rattle.sqlite_wal.proofs.PartLemmas.{held_is_part, slice_index-part}

-- the size in a frame's header
pub read_size : (page_size : ℕ) (file : List ℕ) (i : ℕ) (field : List ℕ) → Holds file (frame_at page_size i + 4) field → length field ≡ 4
    → be32 field 0 ≡ commit_size (frame page_size file i)
read_size page_size file i field holds len =
    let at = frame_at page_size i + 4 in
    ap (λ (b : List ℕ). be32 b 0) (sym (held_is_part file field at 4 holds len))
    ∙ be32-part file at 4 0 (omega arith)
    ∙ ap (be32 file) (add-zero at)
    ∙ sym (be32-part file (frame_at page_size i) (24 + page_size) 4 (omega arith))

-- a test for a number that is not 0
pub is_some : (read size : ℕ) → read ≡ size → (IsTrue (not (eqb read 0)) → size ≢ 0) × (size ≢ 0 → IsTrue (not (eqb read 0)))
is_some read size same = (
  λ yes none. false≢true (sym (ap not (eq-eqb read 0 (same ∙ none))) ∙ yes),
  λ some. ap not (ne_eqb read 0 (λ none. some (sym same ∙ none))),
)

commits_next : (page_size : ℕ) (file : List ℕ) (i count one : ℕ) → count ≡ commits_in page_size file i → one ≡ commit_in page_size file i
    → count + one ≡ commits_in page_size file (i + 1)
unfolding commits_in
commits_next page_size file i count one was is = ap₂ (λ (a b : ℕ). a + b) was is ∙ ap (commits_in page_size file) (sym (add-one i))

-- the count after a frame that ends a commit
pub one_more : (page_size : ℕ) (file : List ℕ) (i count : ℕ) → count ≡ commits_in page_size file i → commit_size (frame page_size file i) ≢ 0
    → count + 1 ≡ commits_in page_size file (i + 1)
one_more page_size file i count was some = commits_next page_size file i count 1 was (sym (cond-false _ _ _ (ne_eqb _ _ some)))

-- and after one that does not
pub no_more : (page_size : ℕ) (file : List ℕ) (i count : ℕ) (ends : Bool) → count ≡ commits_in page_size file i
    → (IsTrue ends → commit_size (frame page_size file i) ≢ 0) × (commit_size (frame page_size file i) ≢ 0 → IsTrue ends)
    → ends ≡ false → count ≡ commits_in page_size file (i + 1)
no_more page_size file i count ends was is quiet =
    let none : commit_size (frame page_size file i) ≡ 0 = elim (cases_eq (commit_size (frame page_size file i)) 0) [
      | inl zero ↦ zero
      | inr some ↦ absurd (false≢true (sym quiet ∙ is.1 some))
    ] in
    sym (add-zero count) ∙ commits_next page_size file i count 0 was (sym (cond-true _ _ _ (eq-eqb _ _ none)))

-- the page size in a header that was read
pub size_in_header : (head file : List ℕ) → head ≡ header file → be32 head 8 ≡ be32 (header file) 8
size_in_header head file same = ap (λ (b : List ℕ). be32 b 8) same

-- the first byte of the salt
pub salt_in : (head file : List ℕ) → head ≡ header file → slice_index head 16 ≡ slice_index file 16
salt_in head file same = ap (λ (b : List ℕ). slice_index b 16) same ∙ slice_index-part file 0 32 16 (omega arith)

-- what the first byte says of a log whose header is not signed
pub begun : (file : List ℕ) (first : ℕ) → ¬ (length file < 41) → first ≡ slice_index file 0
    → (IsTrue (eqb first 0) → IsBegun file) × (IsBegun file → IsTrue (eqb first 0))
begun file first long same = (
  λ yes. inr (sym same ∙ eqb-true first 0 yes),
  λ begun. elim begun [ inl short ↦ absurd (long short) | inr none ↦ eq-eqb first 0 (same ∙ none) ],
)
