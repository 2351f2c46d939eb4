-- To be believed: `run`'s output, a volume's steps or its attach are said in these words.
-- What a message does to layers, and what is answered. Source: the kernel's page on dm-dust; the refusals, and that the time may be
-- told to one flakey layer alone, are this project's own.
use Rattle.std.specs.Prelude.{◌≡◌, Option, Some, None, ℕ, ◌*◌, ◌-◌, Bool, true, false, if◌then◌else◌, List, [], ◌∷◌, length, ◌==◌, nat_le}
use Rattle.std.specs.List.{list_any}
use Rattle.std.specs.Ordering.{nat_cmp}
use Rattle.std.specs.BTreeMap.{is_at}
use Rattle.std.specs.BTreeSet.{insert_key}
use Rattle.std.specs.Set.{remove_key}
use Rattle.device.specs.Layers.{Layer, Flaky, Dusty, Window}
use Rattle.layers.specs.Ticks.{ticked}
use Rattle.sector.specs.declared.refusal.Refusal.{Refusal}
use Rattle.sector.specs.declared.refusal.Refusal.TheVariants.{BadTable, OutOfRange}
use Rattle.layers.specs.declared.message.Message.{Message}
use Rattle.layers.specs.declared.message.Message.TheVariants.{AddBadBlock, RemoveBadBlock, QueryBlock, CountBadBlocks, ClearBadBlocks, Enable, Disable, Tick}
use Rattle.layers.specs.declared.message.Answer.{Answer}
use Rattle.layers.specs.declared.message.Answer.TheVariants.{Done, Already, Absent, Bad, Good, Count}

-- a refusal, or an answer with what is there after it
pub data Told (X : Type 0) : Type 0 where
  Refused : Refusal → Told X
  Answered : Answer → X → Told X

-- with something made of what is there
abbrev pub told_with : {X Y : Type 0} → (X → Y) → Told X → Told Y
told_with f (Refused r) = Refused r
told_with f (Answered a x) = Answered a (f x)

-- whether a block of so many bytes begins at or after the end of so many sectors
abbrev pub is_past : ℕ → ℕ → ℕ → Bool
is_past sectors size block = nat_le (512 * sectors) (block * size)

-- whether a block is on the list
abbrev pub is_listed : ℕ → List ℕ → Bool
is_listed block bad = list_any (is_at (nat_cmp block)) bad

-- a dust layer; its list ascends
abbrev pub dust_told : ℕ → ℕ → Bool → List ℕ → Message → Told Layer
dust_told sectors size on bad (AddBadBlock k) = if is_past sectors size k then Refused OutOfRange else (if is_listed k bad then Answered Already (Dusty sectors size on bad) else Answered Done (Dusty sectors size on (insert_key nat_cmp bad k)))
dust_told sectors size on bad (RemoveBadBlock k) = if is_past sectors size k then Refused OutOfRange else (if is_listed k bad then Answered Done (Dusty sectors size on (remove_key (is_at (nat_cmp k)) bad)) else Answered Absent (Dusty sectors size on bad))
dust_told sectors size on bad (QueryBlock k) = if is_past sectors size k then Refused OutOfRange else Answered (if is_listed k bad then Bad else Good) (Dusty sectors size on bad)
dust_told sectors size on bad CountBadBlocks = Answered (Count (length bad)) (Dusty sectors size on bad)
dust_told sectors size on bad ClearBadBlocks = Answered Done (Dusty sectors size on [])
dust_told sectors size on bad Enable = Answered Done (Dusty sectors size true bad)
dust_told sectors size on bad Disable = Answered Done (Dusty sectors size false bad)
dust_told sectors size on bad (Tick n) = Refused BadTable

-- a flakey layer takes the time alone
abbrev pub flakey_told : Layer → Message → Told Layer
flakey_told l (Tick n) = Answered Done (ticked n l)
flakey_told l m = Refused BadTable

-- one layer
abbrev pub layer_told : Layer → Message → Told Layer
layer_told (Dusty sectors size on bad) m = dust_told sectors size on bad m
layer_told (Flaky moment up down features offset) m = flakey_told (Flaky moment up down features offset) m
layer_told l m = Refused BadTable

-- the layer at a depth, counted from the top, windows aside; there is none below the last
abbrev pub told : List Layer → ℕ → Message → Told (List Layer)
told [] d m = Refused BadTable
told (Window aside ∷ ls) d m = told_with (λ ns. Window aside ∷ ns) (told ls d m)
told (l ∷ ls) d m = if d == 0 then told_with (λ n. n ∷ ls) (layer_told l m) else told_with (λ ns. l ∷ ns) (told ls (d - 1) m)

-- the answer, unless there is a refusal
abbrev pub answer_of : {X : Type 0} → Told X → Option Answer
answer_of (Refused r) = None
answer_of (Answered a x) = Some a

-- room is asked for where a block that is not on the list is added
abbrev pub NeedsRoom : {X : Type 0} → Message → Told X → Type 0
NeedsRoom (AddBadBlock k) t = answer_of t ≡ Some Done
NeedsRoom (RemoveBadBlock k) t = ⊥
NeedsRoom (QueryBlock k) t = ⊥
NeedsRoom CountBadBlocks t = ⊥
NeedsRoom ClearBadBlocks t = ⊥
NeedsRoom Enable t = ⊥
NeedsRoom Disable t = ⊥
NeedsRoom (Tick n) t = ⊥
