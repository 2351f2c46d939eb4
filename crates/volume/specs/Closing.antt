-- What a Flush that is answered closes, on disks with caches: in no sector of its array is a value open any more but the present
-- one. This project's own.
use Rattle.std.specs.Prelude.{◌≡◌, ℕ, ◌<◌, true, List, Option, Some, None, length, slice_index_or}
use Rattle.sector.specs.Bytes.{sector_at}
use Rattle.device.specs.Layers.{Layer, is_loud}
use Rattle.cow_format.specs.Picture.{picture}
use Rattle.plain_machine.specs.declared.event.Event.{Event}
use Rattle.plain_machine.specs.declared.event.Event.TheVariants.{Issue}
use Rattle.plain_machine.specs.declared.event.Outcome.{Outcome}
use Rattle.plain_machine.specs.declared.event.Outcome.TheVariants.{Done, Reply as Replied}
use Rattle.plain_machine.specs.declared.request.Dev.{Dev}
use Rattle.plain_machine.specs.declared.request.Dev.TheVariants.{Origin, Snap}
use Rattle.plain_machine.specs.declared.request.Reply.TheVariants.{Flushed}
use Rattle.plain_machine.specs.declared.request.Request.{Request}
use Rattle.plain_machine.specs.Plain.{InFlight, asked_under}
use Rattle.cache_loss_laws.specs.Lost.{IsFirmOn}
use Rattle.crash_laws.specs.Again.{IsOpen}
use Rattle.snapshot.specs.Kept.{Kept}
use Rattle.merge.specs.Merging.{Merging}
use Rattle.volume.specs.Volumed.{Volumed}

-- in no sector of the array over an origin disk and a store is a value open but the present one
abbrev pub ClosesAll : {B : Type 0} → (B → ℕ → List ℕ → Type 0) → (B → List ℕ) → (B → ℕ) → ℕ → B → B → Type 0
ClosesAll holds contents size chunk origin store =
    (s : ℕ) (x : List ℕ) → s < size origin → IsOpen chunk (holds origin) (holds store) (size origin) (size store) s x → x ≡ sector_at (picture chunk (contents origin) (contents store)) s

-- By the array that the flush is of: of a snapshot all of it is closed; of the origin its disk may be left with nothing but what is
-- there, which is the array where no merge is begun.
abbrev pub ClosesArray : {B : Type 0} → (B → ℕ → List ℕ → Type 0) → (B → List ℕ) → (B → List Layer) → (B → ℕ) → Dev → B → List (Kept B) → Type 0
ClosesArray holds contents layers size Origin origin snaps = is_loud (layers origin) ≡ true → IsFirmOn holds contents size origin
ClosesArray holds contents layers size (Snap n) origin snaps =
    (k : ℕ) (s : Kept _) → k < length snaps → s ≡ slice_index_or snaps k s → s.number ≡ n → is_loud (layers origin) ≡ true → is_loud (layers s.device) ≡ true → ClosesAll holds contents size s.state.chunk origin s.device

-- the merging store may be left with nothing but what is there
abbrev pub ClosesMerging : {B : Type 0} → (B → ℕ → List ℕ → Type 0) → (B → List ℕ) → (B → List Layer) → (B → ℕ) → Option (Merging B) → Type 0
ClosesMerging holds contents layers size None = Unit {0}
ClosesMerging holds contents layers size (Some m) = is_loud (layers m.device) ≡ true → IsFirmOn holds contents size m.device

-- The Issue that answers a flush closes its array, where the devices that it stands over drop no writes. Of the two of an origin's
-- flush beside a merge the first, which answers nothing, closes the merging store.
abbrev pub ClosesBy : {B : Type 0} → (B → ℕ → List ℕ → Type 0) → (B → List ℕ) → (B → List Layer) → (B → ℕ) → Event → Outcome → List InFlight → Volumed B → Type 0
ClosesBy holds contents layers size (Issue number) (Replied answered Flushed) asked new = (request : Request) → asked_under number asked ≡ Some request → ClosesArray holds contents layers size request.dev new.origin new.snaps
ClosesBy holds contents layers size (Issue number) Done asked new = ClosesMerging holds contents layers size new.merge
ClosesBy holds contents layers size event outcome asked new = Unit {0}
