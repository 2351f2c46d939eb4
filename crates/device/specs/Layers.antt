-- To be believed: `run`'s output, a volume's steps or its attach are said in these words.
-- The layers above a disk, as plain data, and what they do with an operation: a table of cases.
-- Sources: the kernel's pages on dm-flakey and dm-dust. What a flush does, and that a write takes blocks off dust's
-- list only where it succeeded, is this project's own choice.
use Rattle.std.specs.Prelude.{zero, suc, ℕ, ◌+◌, ◌*◌, Bool, true, false, ◌||◌, ◌&&◌, not, if◌then◌else◌, nat_lt, nat_le, Option, Some, None, List, [], ◌∷◌, filter}
use Rattle.std.specs.List.{list_any}
use Rattle.std.specs.Option.{is_some}
use Rattle.device.specs.declared.operation.Operation.{Operation}
use Rattle.device.specs.declared.operation.Operation.TheVariants.{Reads, Writes, Flushes}
use Rattle.device.specs.declared.operation.Fate.{Fate}
use Rattle.device.specs.declared.operation.Fate.TheVariants.{Pass, Fail, Drop}

-- what a flakey layer does while it is unreliable
pub record Features : Type 0 where
  pub drop_writes : Bool
  pub error_writes : Bool
  pub error_reads : Bool

-- the bytes of a device that lie before and after some of its sectors
pub record Beside : Type 0 where
  pub before : List ℕ
  pub after : List ℕ

-- a layer
pub data Layer : Type 0 where
  -- flakey: seconds since the period began, seconds up, seconds down, features, first sector of the device below
  Flaky : ℕ → ℕ → ℕ → Features → ℕ → Layer
  -- dust: its sectors, bytes of a block, whether it is enabled, the bad blocks
  Dusty : ℕ → ℕ → Bool → List ℕ → Layer
  -- error
  Broken : Layer
  -- the operations that pass before one fails; none fails where there is no number
  Counted : Option ℕ → Layer
  -- a fuse: the writes and flushes that pass before it is blown; None: it is blown, and every operation fails, counted
  Tearing : Option ℕ → Layer
  -- no layer of its own: what lies beside the bytes that the layer above shows of the device below. It passes everything
  Window : Beside → Layer
  -- a file: the ranges that were read ahead, each by its first sector and their number; and whether all that it answered is what a
  -- file answers that keeps what is written. A read within one of the ranges passes, and any other fails. A write ends them all
  ReadAhead : List (ℕ × ℕ) → Bool → Layer

-- whether block number `block`, of `size` bytes, has a byte of these sectors
abbrev pub touches : ℕ → ℕ → ℕ → ℕ → Bool
touches size first count block = nat_lt (block * size) (512 * (first + count)) && nat_lt (512 * first) ((block + 1) * size)

-- what an unreliable flakey layer does with an operation that changes the device
abbrev pub unreliable_change : Features → Fate
unreliable_change f = if f.error_writes then Fail else (if f.drop_writes then Drop else (if f.error_reads then Pass else Fail))

-- what an unreliable flakey layer does
abbrev pub unreliable_fate : Features → Operation → Fate
unreliable_fate f (Reads first count) = if f.error_reads then Fail else (if f.error_writes || f.drop_writes then Pass else Fail)
unreliable_fate f (Writes first count) = unreliable_change f
unreliable_fate f Flushes = unreliable_change f

-- whether an operation passes that comes after so many others
abbrev pub counted_passes : Option ℕ → Bool
counted_passes (Some zero) = false
counted_passes (Some (suc k)) = true
counted_passes None = true

-- how many pass after it
abbrev pub counted_after : Option ℕ → Option ℕ
counted_after (Some zero) = None
counted_after (Some (suc k)) = Some k
counted_after None = None

-- whether a fuse that so many writes and flushes pass lets one pass
abbrev pub tearing_passes : Option ℕ → Bool
tearing_passes (Some zero) = false
tearing_passes (Some (suc k)) = true
tearing_passes None = false

-- whether sectors lie within a range
abbrev pub is_within : ℕ → ℕ → ℕ × ℕ → Bool
is_within first count range = nat_le range.0 first && nat_le (first + count) (range.0 + range.1)

-- what one layer does
abbrev pub layer_fate : Layer → Operation → Fate
layer_fate (Flaky moment up down features offset) op = if nat_lt moment up then Pass else unreliable_fate features op
layer_fate (Dusty sectors size enabled bad) (Reads first count) = if enabled && list_any (touches size first count) bad then Fail else Pass
layer_fate (Dusty sectors size enabled bad) (Writes first count) = Pass
layer_fate (Dusty sectors size enabled bad) Flushes = Pass
layer_fate Broken op = Fail
layer_fate (Counted left) op = if counted_passes left then Pass else Fail
layer_fate (Tearing left) (Reads first count) = if is_some left then Pass else Fail
layer_fate (Tearing left) (Writes first count) = if tearing_passes left then Pass else Fail
layer_fate (Tearing left) Flushes = if tearing_passes left then Pass else Fail
layer_fate (Window aside) op = Pass
layer_fate (ReadAhead ranges kept) (Reads first count) = if list_any (is_within first count) ranges then Pass else Fail
layer_fate (ReadAhead ranges kept) (Writes first count) = Pass
layer_fate (ReadAhead ranges kept) Flushes = Pass

-- the operation as it is passed on
abbrev pub passed_on : Layer → Operation → Operation
passed_on (Flaky moment up down features offset) (Reads first count) = Reads (first + offset) count
passed_on (Flaky moment up down features offset) (Writes first count) = Writes (first + offset) count
passed_on l op = op

-- a layer's fate, and then that of the layers below it
abbrev pub then_fate : Fate → Fate → Fate
then_fate Pass below = below
then_fate Fail below = Fail
then_fate Drop below = Drop

-- what the layers do, from the top
abbrev pub fate : List Layer → Operation → Fate
fate [] op = Pass
fate (l ∷ ls) op = then_fate (layer_fate l op) (fate ls (passed_on l op))

-- whether the answer is Ok
abbrev pub is_answered : Fate → Bool
is_answered Pass = true
is_answered Fail = false
is_answered Drop = true

-- whether the operation is done
abbrev pub is_passed : Fate → Bool
is_passed Pass = true
is_passed Fail = false
is_passed Drop = false

-- a layer after an operation that it met, where `done` tells whether the operation below was answered
abbrev pub layer_after : Layer → Operation → Bool → Layer
layer_after (Dusty sectors size enabled bad) (Writes first count) done = Dusty sectors size enabled (if enabled && done then filter (λ block. not (touches size first count block)) bad else bad)
layer_after (Counted left) op done = Counted (counted_after left)
layer_after (Tearing left) (Writes first count) done = Tearing (counted_after left)
layer_after (Tearing left) Flushes done = Tearing (counted_after left)
layer_after (ReadAhead ranges kept) (Writes first count) done = ReadAhead [] kept
layer_after l op done = l

-- the layers after an operation
abbrev pub layers_after : List Layer → Operation → List Layer
layers_after [] op = []
layers_after (l ∷ ls) op =
    layer_after l op (is_answered (fate ls (passed_on l op)))
    ∷ (if is_passed (layer_fate l op) then layers_after ls (passed_on l op) else ls)

-- whether a layer does all that it answers
abbrev pub is_loud_layer : Layer → Bool
is_loud_layer (Flaky moment up down features offset) = not features.drop_writes
is_loud_layer (ReadAhead ranges kept) = kept
is_loud_layer l = true

-- whether all do
abbrev pub is_loud : List Layer → Bool
is_loud [] = true
is_loud (l ∷ ls) = is_loud_layer l && is_loud ls
