-- To be believed: `run`'s output, a volume's steps or its attach are said in these words.
-- The grammar of table lines. The targets and their words are those of the kernel's admin-guide pages on snapshots,
-- dm-flakey and dm-dust; the forms of numbers and names are the project's own.
use Rattle.std.specs.Prelude.{ℕ, ◌^◌, ◌+◌, Bool, true, false, ◌&&◌, List, [], ◌∷◌, length, count_by, nat_lt, nat_le, ◌==◌, if◌then◌else◌, Result, Ok, Err, codes}
use Rattle.std.specs.Int.{is_power_of_two}
use Rattle.std.specs.Str.{bytes_eq}
use Rattle.sector.specs.declared.refusal.Refusal.{Refusal}
use Rattle.sector.specs.declared.refusal.Refusal.TheVariants.{BadTable, BadChunk}
use Rattle.chunk.specs.Sizes.{is_chunk}
use Rattle.words.specs.Given.{◌>>=◌}
use Rattle.words.specs.Words.{words_of}
use Rattle.words.specs.Numbers.{numeral_of}
use Rattle.words.specs.Names.{name_of}
use Rattle.table.specs.declared.lines.FlakeyFeatures.{FlakeyFeatures}
use Rattle.table.specs.declared.lines.Line.{Line}
use Rattle.table.specs.declared.lines.Target.{Target}
use Rattle.table.specs.declared.lines.Target.TheVariants.{Origin, Snapshot, Merge, Flakey, Dust, Error}

-- how often a word stands among some words
abbrev pub times : List ℕ → List (List ℕ) → ℕ
times name words = count_by (λ word. bytes_eq word name) words

-- each of these words is a feature of a flakey line, none stands twice, and not both that fail or drop writes
abbrev pub are_features : List (List ℕ) → Bool
are_features words =
    let reads = times (codes "error_reads") words in
    let writes = times (codes "error_writes") words in
    let drops = times (codes "drop_writes") words in
    (reads + writes + drops == length words) && nat_le reads 1 && nat_le (writes + drops) 1

-- the features that stand among some words
abbrev pub features_among : List (List ℕ) → FlakeyFeatures
features_among words = record {
  error_reads = times (codes "error_reads") words == 1;
  error_writes = times (codes "error_writes") words == 1;
  drop_writes = times (codes "drop_writes") words == 1;
}

-- the count of the features and then the features, or nothing
abbrev pub features_in : List (List ℕ) → Result FlakeyFeatures Refusal
features_in [] = Ok (record { error_reads = false; error_writes = false; drop_writes = false })
features_in (count ∷ words) = do
  count ← numeral_of count
  if (count == length words) && are_features words then Ok (features_among words) else Err BadTable

-- seconds of a flakey line
abbrev pub seconds_of : List ℕ → Result ℕ Refusal
seconds_of word = numeral_of word >>= λ n. if nat_lt n (2 ^ 31) then Ok n else Err BadTable

-- bytes of a dust block: a power of two from a sector to 2^30
abbrev pub is_block : ℕ → Bool
is_block n = is_power_of_two n && nat_le 512 n && nat_le n 1073741824

abbrev pub origin_in : List (List ℕ) → Result Target Refusal
origin_in (device ∷ []) = name_of device >>= λ device. Ok (Origin device)
origin_in words = Err BadTable

-- a word 0 says that there are no features
abbrev pub are_none : List (List ℕ) → Bool
are_none [] = true
are_none (word ∷ []) = bytes_eq word (codes "0")
are_none (word ∷ words) = false

-- whether a store may overflow: it lasts either way
abbrev pub overflow_of : List ℕ → Result Bool Refusal
overflow_of word = if bytes_eq word (codes "P") then Ok false else if bytes_eq word (codes "PO") then Ok true else Err BadTable

-- the device under the origin, the store, the chunk size, and whether the store may overflow; the chunk size is tested
-- last of all
abbrev pub store_in : List (List ℕ) → Result (List ℕ × List ℕ × ℕ × Bool) Refusal
store_in (device ∷ store ∷ persistent ∷ chunk ∷ features) = do
  device ← name_of device
  store ← name_of store
  overflow ← overflow_of persistent
  chunk ← numeral_of chunk
  if are_none features then (if is_chunk chunk then Ok (device, store, chunk, overflow) else Err BadChunk) else Err BadTable
store_in words = Err BadTable

abbrev pub snapshot_in : List (List ℕ) → Result Target Refusal
snapshot_in words = store_in words >>= λ s. Ok (Snapshot s.0 s.1 s.2 s.3)

abbrev pub merge_in : List (List ℕ) → Result Target Refusal
merge_in words = store_in words >>= λ s. Ok (Merge s.0 s.1 s.2 s.3)

abbrev pub flakey_in : List (List ℕ) → Result Target Refusal
flakey_in (device ∷ offset ∷ up ∷ down ∷ words) = do
  device ← name_of device
  offset ← numeral_of offset
  up ← seconds_of up
  down ← seconds_of down
  features ← features_in words
  if nat_lt 0 (up + down) then Ok (Flakey device offset up down features) else Err BadTable
flakey_in words = Err BadTable

abbrev pub dust_in : List (List ℕ) → Result Target Refusal
dust_in (device ∷ offset ∷ block ∷ []) = do
  device ← name_of device
  block ← numeral_of block
  if bytes_eq offset (codes "0") && is_block block then Ok (Dust device block) else Err BadTable
dust_in words = Err BadTable

abbrev pub error_in : List (List ℕ) → Result Target Refusal
error_in [] = Ok Error
error_in words = Err BadTable

-- a target by its name, and its parameters
abbrev pub target_in : List ℕ → List (List ℕ) → Result Target Refusal
target_in kind words =
    if bytes_eq kind (codes "snapshot-origin") then origin_in words else
    if bytes_eq kind (codes "snapshot") then snapshot_in words else
    if bytes_eq kind (codes "snapshot-merge") then merge_in words else
    if bytes_eq kind (codes "flakey") then flakey_in words else
    if bytes_eq kind (codes "dust") then dust_in words else
    if bytes_eq kind (codes "error") then error_in words else
    Err BadTable

-- the first sector, which is 0, the sectors of the device, and its target
abbrev pub line_in : List (List ℕ) → Result Line Refusal
line_in (first ∷ sectors ∷ kind ∷ words) =
    if bytes_eq first (codes "0") then (do
      sectors ← numeral_of sectors
      target ← target_in kind words
      Ok (record { sectors = sectors; target = target })
    ) else Err BadTable
line_in words = Err BadTable

-- the line that a text says
abbrev pub line_of : List ℕ → Result Line Refusal
line_of text = line_in (words_of text)
