-- What is below the top of a stack.
use Rattle.std.proofs.Common.{◌≡◌, ◌≢◌, ℕ, zero, suc, ◌-◌, ◌<◌, Bool, true, false, List, [], ◌∷◌, length, get_or, drop, refl, ap, sym, ◌∙◌, arith}
use Rattle.std.specs.Prelude.{Option, Some, None, Ok, is_some}
use Rattle.std.specs.List.{remove}
use Rattle.device.specs.Layers.{Layer}
use Rattle.whole_commands.specs.Devices.{Device}
use Rattle.layers.specs.declared.stack.Stack.{Stack, Disk, Flakey', Dust', Error}
use Rattle.layers.specs.Stack.{stack_layers, below_of}
use Rattle.layers.specs.declared.broken.Broken.{Broken}
use Rattle.device.specs.declared.mem_disk.MemDisk.{MemDisk}
use Rattle.layers.specs.Windows.{layers_below, bytes_below}
use Rattle.layers.specs.Beneath.{IsOver, stack_over}
use Rattle.command_semantics.specs.Stacks.{device_of}
use Rattle.command_semantics.specs.State.{Stacked, Table}
use Rattle.command_semantics.specs.Layers.{put}
use Rattle.command_semantics.specs.Removing.{left_with, left_as, lowered_device, lowered_to, lowered}
use Rattle.command_semantics.specs.Lines.{device_at}
use Rattle.command_semantics.proofs.AtPlace.{stack_here}

-- whether the top of a stack is a layer over another device
abbrev pub is_over : Stack → Bool
is_over (Disk d) = false
is_over (Flakey' f p below) = true
is_over (Dust' d p below) = true
is_over (Error e) = false

pub has_below : (s : Stack) → is_over s ≡ is_some (layers_below (stack_layers s))
has_below (Disk d) = refl
has_below (Flakey' f p below) = refl
has_below (Dust' d p below) = refl
has_below (Error e) = refl

pub lowered_over : (below s : Stack) → IsOver below s → lowered_device (device_of s) ≡ Some (device_of below)
unfolding lowered_device
lowered_over below s over = rw over.layers (rw over.contents refl)

pub lowered_over_same : (below s t : Stack) → s ≡ t → IsOver below s → lowered_device (device_of t) ≡ Some (device_of below)
lowered_over_same below s t same over = ap (λ (x : Stack). lowered_device (device_of x)) (sym same) ∙ lowered_over below s over

first_gone : {X : Type 0} (xs : List X) → remove xs 0 ≡ drop 1 xs
first_gone [] = refl
first_gone (x ∷ xs) = refl

-- a stack without its top, as the code leaves it
pub uncovered_is : (names rest : List (List ℕ)) (device left : Device) (stale : Bool) (s : Stacked) → record { names = names; device = device; stale = stale } ≡ s → rest ≡ remove names 0 → lowered_device device ≡ Some left → lowered_to s ≡ Some (record { names = rest; device = left; stale = stale })
unfolding lowered_to
uncovered_is names rest device left stale s view gone is =
    let old : Stacked = record { names = names; device = device; stale = stale } in
    let there : left_as old (lowered_device device) ≡ left_as old (Some left) = ap (left_as old) is in
    ap lowered_to (sym view) ∙ there ∙ ap (λ (ns : List (List ℕ)). Some (record { names = ns; device = left; stale = stale })) (sym (gone ∙ first_gone names))

no_layers : (bytes : List ℕ) (o : Option (List Layer)) → is_some o ≡ false → left_with bytes o ≡ None
no_layers bytes None none = refl
no_layers bytes (Some ls) none = absurd (cc)

-- nothing is left of a stack whose top stands on nothing
pub nothing_left : (s : Stacked) → is_some (layers_below s.device.layers) ≡ false → lowered_to s ≡ None
unfolding lowered_to lowered_device
nothing_left s none = ap (left_as s) (no_layers (bytes_below s.device.layers s.device.bytes) (layers_below s.device.layers) none)

pub lowered_some : (i : ℕ) (table : Table) (old new : Stacked) → i < length table.stacks → old ≡ get_or table.stacks i old → lowered_to old ≡ Some new → lowered i table ≡ Ok (put i new table)
unfolding lowered
lowered_some i table old new lt at is = rw (stack_here table i old lt at) (rw is refl)

pub lowered_none : (i : ℕ) (table : Table) (old : Stacked) → i < length table.stacks → old ≡ get_or table.stacks i old → lowered_to old ≡ None → lowered i table ≡ Ok (record { stacks = remove table.stacks i; volumes = table.volumes })
unfolding lowered
lowered_none i table old lt at is = rw (stack_here table i old lt at) (rw is refl)

-- the device without so many of its top layers
pub at_top : (s : Stack) → device_at 0 (Some (device_of s)) ≡ Some (device_of s)
at_top s = refl

under : (below s : Stack) (depth : ℕ) → below_of s ≡ Some below → device_at (suc depth) (Some (device_of s)) ≡ device_at depth (Some (device_of below))
under below s depth is = ap (device_at depth) (lowered_over below s (stack_over s is))

-- one layer down
pub below_at : (s b x : Stack) (n : ℕ) → below_of s ≡ Some b → x ≡ b → 0 < n → device_at n (Some (device_of s)) ≡ device_at (n - 1) (Some (device_of x))
below_at s b x zero is same some = absurd (omega (arith, some))
below_at s b x (suc n) is same some =
    let one : n ≡ suc n - 1 = omega arith in
    under b s n is ∙ ap (λ (t : Stack). device_at n (Some (device_of t))) (sym same) ∙ ap (λ k. device_at k (Some (device_of x))) one

no_device : (n : ℕ) → device_at n None ≡ None
no_device zero = refl
no_device (suc n) = refl

pub at_disk : (d : MemDisk) (n : ℕ) → n ≢ 0 → device_at n (Some (device_of (Disk d))) ≡ None
unfolding lowered_device
at_disk d zero some = absurd (some refl)
at_disk d (suc n) some = no_device n

pub at_error : (e : Broken) (n : ℕ) → n ≢ 0 → device_at n (Some (device_of (Error e))) ≡ None
unfolding lowered_device
at_error e zero some = absurd (some refl)
at_error e (suc n) some = no_device n
