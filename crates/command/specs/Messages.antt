-- To be believed: `run`'s output, a volume's steps or its attach are said in these words.
-- The messages to layers, by their words. They are those of the kernel's page on dm-dust, without its write-fail count,
-- `quiet` and `listbadblocks`; the form of a block's number is this project's own, and so is `tick` of one layer.
use Rattle.std.specs.Prelude.{ℕ, List, [], ◌∷◌, if◌then◌else◌, Result, Ok, Err, codes}
use Rattle.std.specs.Str.{bytes_eq}
use Rattle.sector.specs.declared.refusal.Refusal.{Refusal}
use Rattle.sector.specs.declared.refusal.Refusal.TheVariants.{BadTable}
use Rattle.words.specs.Given.{◌>>=◌}
use Rattle.words.specs.Numbers.{numeral_of}
use Rattle.layers.specs.declared.message.Message.{Message}
use Rattle.layers.specs.declared.message.Message.TheVariants.{AddBadBlock, RemoveBadBlock, QueryBlock, CountBadBlocks, ClearBadBlocks, Enable, Disable, Tick}

-- a message that is one word
abbrev pub bare_of : List ℕ → Result Message Refusal
bare_of kind =
    if bytes_eq kind (codes "countbadblocks") then Ok CountBadBlocks else
    if bytes_eq kind (codes "clearbadblocks") then Ok ClearBadBlocks else
    if bytes_eq kind (codes "enable") then Ok Enable else
    if bytes_eq kind (codes "disable") then Ok Disable else
    Err BadTable

-- a message about a block, or of some seconds
abbrev pub about_number_of : List ℕ → ℕ → Result Message Refusal
about_number_of kind number =
    if bytes_eq kind (codes "addbadblock") then Ok (AddBadBlock number) else
    if bytes_eq kind (codes "removebadblock") then Ok (RemoveBadBlock number) else
    if bytes_eq kind (codes "queryblock") then Ok (QueryBlock number) else
    if bytes_eq kind (codes "tick") then Ok (Tick number) else
    Err BadTable

-- the message that some words say; another is BadTable
abbrev pub message_in : List (List ℕ) → Result Message Refusal
message_in (kind ∷ []) = bare_of kind
message_in (kind ∷ number ∷ []) = numeral_of number >>= about_number_of kind
message_in words = Err BadTable
