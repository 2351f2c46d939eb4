-- To be believed: `run`'s output, a volume's steps or its attach are said in these words.
-- What the devices' own bytes show: the origin's array, the snapshot that is being merged, and each snapshot.
use Rattle.std.specs.Prelude.{ℕ, List, Option, Some, None, if◌then◌else◌}
use Rattle.cow_format.specs.Picture.{picture}
use Rattle.plain_machine.specs.Plain.{Entry, Live, Invalid}
use Rattle.snapshot.specs.Kept.{Kept}
use Rattle.merge.specs.Merging.{Merging}

abbrev pub shown_origin : {B : Type 0} → (B → List ℕ) → B → Option (Merging B) → List ℕ
shown_origin contents origin None = contents origin
shown_origin contents origin (Some m) = picture m.state.chunk (contents origin) (contents m.device)

abbrev pub shown_begun : {B : Type 0} → Option (Merging B) → Option ℕ
shown_begun None = None
shown_begun (Some m) = Some m.number

abbrev pub shown_entry : {B : Type 0} → (B → List ℕ) → List ℕ → Kept B → Entry
shown_entry contents origin s = record {
  number = s.number;
  saved = if s.live then Live (picture s.state.chunk origin (contents s.device)) else Invalid;
  overflow = s.overflow;
}
