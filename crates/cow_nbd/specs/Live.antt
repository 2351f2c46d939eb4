-- To be believed: what a server of a snapshot whose files are written says to a client.
use Rattle.std.specs.Prelude.{ℕ, ◌*◌, List, [], ◌∷◌, ◌++◌, codes, Option, Some, None, true, false}
use Rattle.std.specs.Io.KnownBytes.{Appends}
use Rattle.cow_format.specs.Pairs.{pairs_of}
use Rattle.cow_image.specs.Shown.{shown}
use Rattle.read_beside_writer.specs.Moments.{Files}
use Rattle.nbd_messages.specs.Replies.{greeting}
use Rattle.nbd_options.specs.declared.export.Export.{Export}
use Rattle.nbd_read_session.specs.Blocks.{Array}
use Rattle.nbd_read_session.specs.Talk.{Talk, Turn, beginning}
use Rattle.cow_nbd.specs.Shows.{IsExport}

-- of these bytes any may have changed
abbrev pub all_marked : List ℕ → Array
all_marked bytes = record { bytes = bytes; marks = λ _. true }

-- what the snapshot showed at the first moment, where it is known what its files hold
abbrev pub known_live : ℕ → ℕ → Option (ℕ → Files) → Option Array
known_live chunk size None = None
known_live chunk size (Some h) = Some (all_marked (shown chunk (h 0).origin (h 0).store (pairs_of chunk (h 0).store) 0 (512 * size)))

-- All that is written to a client of whom this was heard: the greeting, and the answers to the messages, by one export without a
-- bitmap. Any read may fail.
abbrev pub IsServedLive : ℕ → List ℕ → List ℕ → Option (List ℕ) → Option (List ℕ) → Type 0
IsServedLive size snapshot heard old new =
    (export : Export) × IsExport size false (codes "snapshot") export
    × (said : List ℕ) × (turns : List Turn) × Talk (export ∷ []) (λ _. all_marked snapshot) (λ _ _ _. Unit {0}) beginning heard said turns × Appends old new (greeting ++ said)
