-- To be believed: `run`'s output, a volume's steps or its attach are said in these words.
-- The canonical text of a table line, as dmsetup prints it: single spaces, numbers without zeros in front. That a
-- count of no features is left out, and the order of the features, are the project's own.
use Rattle.std.specs.Prelude.{◌≡◌, ℕ, ◌+◌, ◌<◌, ◌≤◌, Bool, List, [], ◌∷◌, ◌++◌, length, take, if◌then◌else◌, Result, Ok, Err, codes, decimal, vec_len, vec_capacity}
use Rattle.std.specs.Global.{Vec}
use Rattle.std.specs.declared.alloc.AllocError.{AllocError}
use Rattle.words.specs.Words.{spaced}
use Rattle.table.specs.declared.lines.FlakeyFeatures.{FlakeyFeatures}
use Rattle.table.specs.declared.lines.Line.{Line}
use Rattle.table.specs.declared.lines.Target.{Target}
use Rattle.table.specs.declared.lines.Target.TheVariants.{Origin, Snapshot, Merge, Flakey, Dust, Error}

-- a word that stands there or not
abbrev pub word_if : Bool → List ℕ → List (List ℕ)
word_if wanted word = if wanted then word ∷ [] else []

-- the features in their order
abbrev pub feature_words : FlakeyFeatures → List (List ℕ)
feature_words f = word_if f.error_reads (codes "error_reads") ++ word_if f.error_writes (codes "error_writes") ++ word_if f.drop_writes (codes "drop_writes")

-- their count before them, where there are any
abbrev pub counted : List (List ℕ) → List (List ℕ)
counted [] = []
counted (word ∷ words) = decimal (length (word ∷ words)) ∷ word ∷ words

-- the word for a store, which may overflow or not
abbrev pub overflow_word : Bool → List ℕ
overflow_word overflow = if overflow then codes "PO" else codes "P"

-- the name of a target and its parameters
abbrev pub target_words : Target → List (List ℕ)
target_words (Origin device) = codes "snapshot-origin" ∷ device ∷ []
target_words (Snapshot device store chunk overflow) = codes "snapshot" ∷ device ∷ store ∷ overflow_word overflow ∷ decimal chunk ∷ []
target_words (Merge device store chunk overflow) = codes "snapshot-merge" ∷ device ∷ store ∷ overflow_word overflow ∷ decimal chunk ∷ []
target_words (Flakey device offset up down features) =
    (codes "flakey" ∷ device ∷ decimal offset ∷ decimal up ∷ decimal down ∷ []) ++ counted (feature_words features)
target_words (Dust device block) = codes "dust" ∷ device ∷ codes "0" ∷ decimal block ∷ []
target_words Error = codes "error" ∷ []

-- the first sector, which is 0, the sectors of the device, and its target
abbrev pub text_of : Line → List ℕ
text_of line = codes "0" ++ spaced ((decimal line.sectors ∷ []) ++ target_words line.target)

-- The text was added to a vector, or its room did not do, and then the vector holds what it held and maybe more.
abbrev pub Adds : Result (Unit {0}) AllocError → Vec ℕ → Vec ℕ → List ℕ → Type 0
Adds (Ok done) old new text = (new.items ≡ old.items ++ text) × (vec_capacity old ≤ vec_capacity new)
Adds (Err e) old new text = (take (vec_len old) new.items ≡ old.items) × (vec_capacity old < vec_len old + length text)
