-- Where the commits of a log end, and what a crash leaves after them.
use Rattle.std.specs.Prelude.{◌≡◌, ◌≢◌, ◌⊎◌, ◌↔◌, ℕ, zero, suc, ◌+◌, ◌-◌, ◌*◌, ◌<◌, ◌≤◌, ◌==◌, if◌then◌else◌, IsTrue, List, length, slice_index}
use Rattle.sqlite_wal.specs.Format.{be32, IsSigned, commit_size}
use Rattle.sqlite_wal.specs.Recovery.{frame_at, header, frame, Replays}
use Rattle.log_tails.specs.declared.tail.Tail.{Tail}

-- the byte that shuts a gate which this byte opens
abbrev pub shut_by : ℕ → ℕ
shut_by key = if key == 0 then 1 else 0

-- 1 for a frame that ends a commit
abbrev pub commit_in : ℕ → List ℕ → ℕ → ℕ
commit_in page_size log i = if commit_size (frame page_size log i) == 0 then 0 else 1

-- how many of the first k frames end a commit
unfoldable pub commits_in : ℕ → List ℕ → ℕ → ℕ
commits_in page_size log zero = 0
commits_in page_size log (suc i) = commits_in page_size log i + commit_in page_size log i

-- how large the database is after the first k frames, the last of which ends a commit
abbrev pub size_after : ℕ → List ℕ → ℕ → ℕ
size_after page_size log k = if k == 0 then 0 else commit_size (frame page_size log (k - 1)) * page_size

-- The gate after the first k frames, the first byte of the salt of the next one, is shut.
pub record IsShutAfter (page_size : ℕ) (log : List ℕ) (k : ℕ) : Type 0 where
  pub within : frame_at page_size k + 8 < length log
  pub shut : slice_index log (frame_at page_size k + 8) ≡ shut_by (slice_index log 16)

-- what a crash leaves after the first k frames: nothing, or a gate that is shut
abbrev pub IsWhole : ℕ → List ℕ → ℕ → Type 0
IsWhole page_size log k = (length log ≤ frame_at page_size k) ⊎ IsShutAfter page_size log k

-- what a crash leaves of a log that is being made or emptied: less than its header and the gate, or no first byte yet
abbrev pub IsBegun : List ℕ → Type 0
IsBegun log = (length log < 41) ⊎ (slice_index log 0 ≡ 0)

-- there are no frames to read: all of the file follows
pub record IsUnread (log : List ℕ) (tail : Tail) : Type 0 where
  pub unsigned : (length log < 41) ⊎ (¬ IsSigned (header log))
  pub commits : tail.commits ≡ 0
  pub bytes : tail.bytes ≡ 0
  pub following : tail.following ≡ length log
  pub database : tail.database ≡ 0
  pub whole : IsTrue tail.is_whole ↔ IsBegun log

-- recovery takes these frames, and the rest of the file follows
pub record IsRead (log : List ℕ) (tail : Tail) : Type 0 where
  pub page_size : ℕ
  pub frames : ℕ
  pub signed : IsSigned (header log)
  pub size : be32 (header log) 8 ≡ page_size
  pub replays : Replays page_size log frames
  pub commits : tail.commits ≡ commits_in page_size log frames
  pub bytes : tail.bytes ≡ frame_at page_size frames
  pub following : tail.following ≡ length log - tail.bytes
  pub database : tail.database ≡ size_after page_size log frames
  pub whole : IsTrue tail.is_whole ↔ IsWhole page_size log frames

-- what is found of a log
abbrev pub IsTailOf : List ℕ → Tail → Type 0
IsTailOf log tail = IsUnread log tail ⊎ IsRead log tail

-- a database file of this length is longer than the last commit in the log leaves it
abbrev pub Outgrows : ℕ → Tail → Type 0
Outgrows size tail = (0 < tail.commits) × (tail.database < size)

-- it is whole, and its commits are those of the first k frames of this log
pub record IsCommittedTo (page_size : ℕ) (log : List ℕ) (k : ℕ) (tail : Tail) : Type 0 where
  pub whole : IsTrue tail.is_whole
  pub commits : tail.commits ≡ commits_in page_size log k
  pub bytes : tail.bytes ≡ frame_at page_size k
