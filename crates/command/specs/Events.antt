-- To be believed: `run`'s output, a volume's steps or its attach are said in these words.
-- The events of a volume, by their words. These are this project's own.
use Rattle.std.specs.Prelude.{ℕ, List, [], ◌∷◌, if◌then◌else◌, Result, Ok, Err, codes}
use Rattle.std.specs.Str.{bytes_eq}
use Rattle.sector.specs.declared.refusal.Refusal.{Refusal}
use Rattle.sector.specs.declared.refusal.Refusal.TheVariants.{BadTable}
use Rattle.words.specs.Given.{◌>>=◌}
use Rattle.words.specs.Numbers.{numeral_of}
use Rattle.words.specs.Names.{name_of}
use Rattle.command.specs.declared.events.EventWords.{EventWords}
use Rattle.command.specs.declared.events.EventWords.TheVariants.{Issue, CopyRead, CopyWrite, Publish, ZeroNext, WriteArea, WriteInvalid, FlushStore, MergeGroup, MergeAreaRead, MergeRead, MergeWrite, MergeFlush, MergeCommit, MergeRelease}

-- an event by its word, and what it is about: the number of a request or of a copy, or the name of a snapshot
unfoldable pub event_of : List ℕ → List ℕ → Result EventWords Refusal
event_of kind subject =
    if bytes_eq kind (codes "issue") then (numeral_of subject >>= λ r. Ok (Issue r)) else
    if bytes_eq kind (codes "copy-read") then (numeral_of subject >>= λ p. Ok (CopyRead p)) else
    if bytes_eq kind (codes "copy-write") then (numeral_of subject >>= λ p. Ok (CopyWrite p)) else
    if bytes_eq kind (codes "publish") then (numeral_of subject >>= λ p. Ok (Publish p)) else
    if bytes_eq kind (codes "zero-next") then (name_of subject >>= λ s. Ok (ZeroNext s)) else
    if bytes_eq kind (codes "write-area") then (name_of subject >>= λ s. Ok (WriteArea s)) else
    if bytes_eq kind (codes "write-invalid") then (name_of subject >>= λ s. Ok (WriteInvalid s)) else
    if bytes_eq kind (codes "flush-store") then (name_of subject >>= λ s. Ok (FlushStore s)) else
    Err BadTable

-- an event of a merge by its word; a volume has one merge at most, so no further word tells which
unfoldable pub merge_event_of : List ℕ → Result EventWords Refusal
merge_event_of kind =
    if bytes_eq kind (codes "merge-group") then Ok MergeGroup else
    if bytes_eq kind (codes "merge-area-read") then Ok MergeAreaRead else
    if bytes_eq kind (codes "merge-read") then Ok MergeRead else
    if bytes_eq kind (codes "merge-write") then Ok MergeWrite else
    if bytes_eq kind (codes "merge-flush") then Ok MergeFlush else
    if bytes_eq kind (codes "merge-commit") then Ok MergeCommit else
    if bytes_eq kind (codes "merge-release") then Ok MergeRelease else
    Err BadTable

-- the event that some words say; another is BadTable
abbrev pub event_in : List (List ℕ) → Result EventWords Refusal
event_in (kind ∷ []) = merge_event_of kind
event_in (kind ∷ subject ∷ []) = event_of kind subject
event_in words = Err BadTable
