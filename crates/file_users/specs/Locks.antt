-- The words of a line of /proc/locks: its number, the kind of lock, ADVISORY, READ or WRITE, the process, the file, and the first and last
-- byte. Source: the manual page proc_locks(5). A line of a lock that is waited for has `->` as its second word.
use Rattle.std.specs.Prelude.{ℕ, Bool, false, ◌&&◌, ◌||◌, List, codes, slice_get, Option, Some, None, nat_le}
use Rattle.std.specs.Str.{bytes_eq}
use Rattle.words.specs.Numbers.{number_of}

-- the word at a place is this one
abbrev pub has_at : List (List ℕ) → ℕ → List ℕ → Bool
has_at words place text = is_this (slice_get words place)
  where
    is_this : Option (List ℕ) → Bool
    is_this None = false
    is_this (Some word) = bytes_eq word text

-- a lock by fcntl(2), of a process or of an open file description, on this file
abbrev pub is_lock_by : List (List ℕ) → List ℕ → Bool
is_lock_by words file = (has_at words 1 (codes "POSIX") || has_at words 1 (codes "OFDLCK")) && has_at words 5 file

-- the number at a place, or another one where there is none below 2^32
abbrev pub number_or : List (List ℕ) → ℕ → ℕ → ℕ
number_or words place other = of_word (slice_get words place)
  where
    of_number : Option ℕ → ℕ
    of_number None = other
    of_number (Some number) = number

    of_word : Option (List ℕ) → ℕ
    of_word None = other
    of_word (Some word) = of_number (number_of word)

-- A lock whose holder writes: one to write, or one of an open file description on the byte that qemu locks where it may write to an
-- image. Source: QEMU's block/file-posix.c, where these bytes begin at 100 and the right to write is the second.
abbrev pub is_writer_by : List (List ℕ) → Bool
is_writer_by words = has_at words 3 (codes "WRITE") || (has_at words 1 (codes "OFDLCK") && (nat_le (number_or words 6 4294967295) 101 && nat_le 101 (number_or words 7 4294967295)))
