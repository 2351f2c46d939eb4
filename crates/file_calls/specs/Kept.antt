-- To be believed: what is said of real files is said in these words.
-- What a file holds, by what it held at first and by the calls since, the newest first. Sources: the pages of POSIX on read, write,
-- ftruncate and fdatasync. A read gives what was written last. A page cache may write a sector out at any time, each by itself. A
-- sync that is answered has made all earlier writes last.
use Rattle.std.specs.Prelude.{◌≡◌, ◌⊎◌, ℕ, ◌-◌, ◌&&◌, ◌||◌, ◌==◌, not, length, Bool, true, List, [], ◌∷◌, ◌++◌, take, drop, replicate, Some, None, if◌then◌else◌}
use Rattle.std.specs.Option.{is_some}
use Rattle.std.specs.Str.{bytes_eq}
use Rattle.sector.specs.Bytes.{sector_at, with_part}
use Rattle.file_calls.specs.Calls.{Call, Len, Read, Write, SetLen, Sync}

-- so many bytes: cut, or with zeros behind them
abbrev pub with_len : List ℕ → ℕ → List ℕ
with_len bytes n = take n (bytes ++ replicate n 0)

-- with these bytes from a place on: what lies between the end and that place is zeros. Where there are none, nothing is written
abbrev pub with_bytes : List ℕ → ℕ → List ℕ → List ℕ
with_bytes old at [] = old
with_bytes old at (byte ∷ bytes) = with_part (old ++ replicate (at - length old) 0) at (byte ∷ bytes)

-- what reads give now: what was written last, or read
abbrev pub now_in : List ℕ → List Call → List ℕ
now_in start [] = start
now_in start (Len answer ∷ calls) = now_in start calls
now_in start (Read at count None ∷ calls) = now_in start calls
now_in start (Read at count (Some bytes) ∷ calls) = with_bytes (now_in start calls) at bytes
now_in start (Write at bytes done ∷ calls) = with_bytes (now_in start calls) at bytes
now_in start (SetLen n done ∷ calls) = with_len (now_in start calls) n
now_in start (Sync done promised ∷ calls) = now_in start calls

-- what was there at the last sync that was answered, or that was promised
abbrev pub kept_in : List ℕ → List Call → List ℕ
kept_in start [] = start
kept_in start (Len answer ∷ calls) = kept_in start calls
kept_in start (Read at count bytes ∷ calls) = kept_in start calls
kept_in start (Write at bytes done ∷ calls) = kept_in start calls
kept_in start (SetLen n done ∷ calls) = kept_in start calls
kept_in start (Sync done promised ∷ calls) = if done || promised then now_in start calls else kept_in start calls

-- What a stop may leave in a sector: what it might before, or what reads give; and what reads give alone, after a sync that was
-- answered or promised.
abbrev pub MayHold : List ℕ → List Call → ℕ → List ℕ → Type 0
MayHold start [] s v = v ≡ sector_at start s
MayHold start (Len answer ∷ calls) s v = MayHold start calls s v
MayHold start (Read at count None ∷ calls) s v = MayHold start calls s v
MayHold start (Read at count (Some bytes) ∷ calls) s v = MayHold start calls s v ⊎ (v ≡ sector_at (with_bytes (now_in start calls) at bytes) s)
MayHold start (Write at bytes done ∷ calls) s v = MayHold start calls s v ⊎ (v ≡ sector_at (with_bytes (now_in start calls) at bytes) s)
MayHold start (SetLen n done ∷ calls) s v = MayHold start calls s v ⊎ (v ≡ sector_at (with_len (now_in start calls) n) s)
MayHold start (Sync done promised ∷ calls) s v = MayHold start calls s v × ((done || promised) ≡ true → v ≡ sector_at (now_in start calls) s)

-- whether each write, each change of the length and each sync was answered
abbrev pub are_answered : List Call → Bool
are_answered [] = true
are_answered (Len answer ∷ calls) = are_answered calls
are_answered (Read at count bytes ∷ calls) = are_answered calls
are_answered (Write at bytes done ∷ calls) = done && are_answered calls
are_answered (SetLen n done ∷ calls) = done && are_answered calls
are_answered (Sync done promised ∷ calls) = done && are_answered calls

-- whether each call was, a read and a look at the length too
abbrev pub all_answered : List Call → Bool
all_answered [] = true
all_answered (Len answer ∷ calls) = is_some answer && all_answered calls
all_answered (Read at count bytes ∷ calls) = is_some bytes && all_answered calls
all_answered (Write at bytes done ∷ calls) = done && all_answered calls
all_answered (SetLen n done ∷ calls) = done && all_answered calls
all_answered (Sync done promised ∷ calls) = done && all_answered calls

-- THE premise about files. The answers are those of a file that held this at first, keeps what is written, and that nobody else
-- writes: each read gave what was there, each length was right, and no sync was answered, or promised, but where it was answered
-- and so was all before it.
abbrev pub is_kept : List ℕ → List Call → Bool
is_kept start [] = true
is_kept start (Len None ∷ calls) = is_kept start calls
is_kept start (Len (Some n) ∷ calls) = is_kept start calls && (n == length (now_in start calls))
is_kept start (Read at count None ∷ calls) = is_kept start calls
is_kept start (Read at count (Some bytes) ∷ calls) = is_kept start calls && bytes_eq bytes (take count (drop at (now_in start calls)))
is_kept start (Write at bytes done ∷ calls) = is_kept start calls
is_kept start (SetLen n done ∷ calls) = is_kept start calls
is_kept start (Sync done promised ∷ calls) = is_kept start calls && (not (done || promised) || (done && are_answered calls))
