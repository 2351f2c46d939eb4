-- The disk at the bottom of a stack.
use Rattle.std.proofs.Common.{◌≡◌, ℕ, ◌+◌, Bool, true, false, List, [], ◌≤◌, length, refl, ap, sym, ◌∙◌, subst, arith}
use Rattle.std.specs.Prelude.{Some, None, Result, Ok, Err, if◌then◌else◌, is_some, ◌==◌, ◌&&◌}
use Rattle.device.specs.declared.mem_disk.MemDisk.{MemDisk}
use Rattle.device.specs.Disk.{disk_contents, disk_size}
use Rattle.device.specs.Laws.{disk_whole}
use Rattle.sector.specs.declared.refusal.Refusal.TheVariants.{BadTable}
use Rattle.sector.specs.declared.refusal.Refusal.{Refusal}
use Rattle.layers.specs.declared.stack.Stack.{Stack, Disk}
use Rattle.layers.specs.Stack.{stack_layers, stack_contents}
use Rattle.layers.specs.Disk.{disk_of}
use Rattle.layers.specs.Windows.{has_disk, raw_of}
use Rattle.layers.specs.Beneath.{stack_raw, stack_has_disk}
use Rattle.command_semantics.specs.Stacks.{device_of}
use Rattle.command_semantics.specs.Raw.{raw_in, is_disk}

-- it is there
pub raw_there : (s : Stack) (depth : ℕ) (names : List (List ℕ)) (disk : MemDisk) → (depth + 1 == length names) ≡ true → disk_of s ≡ Some disk → raw_in depth names (device_of s) ≡ Ok (disk_contents disk)
unfolding raw_in
raw_there s depth names disk last is =
    let has : has_disk (stack_layers s) ≡ true = sym (stack_has_disk s) ∙ ap is_some is in
    rw last (rw has (ap (λ (b : List ℕ). Ok b) (stack_raw s is)))

-- there is none
pub raw_none : (s : Stack) (depth : ℕ) (names : List (List ℕ)) → disk_of s ≡ None → raw_in depth names (device_of s) ≡ Err BadTable
unfolding raw_in
raw_none s depth names is =
    let has : has_disk (stack_layers s) ≡ false = sym (stack_has_disk s) ∙ ap is_some is in
    rw has (neither (depth + 1 == length names) (raw_of (stack_layers s) (stack_contents s)))
  where
    neither : (b : Bool) (raw : List ℕ) → (if b && false then Ok raw else Err BadTable) ≡ Err BadTable
    neither true raw = refl
    neither false raw = refl

bytes_in : Result (List ℕ) Refusal → List ℕ
bytes_in (Ok bytes) = bytes
bytes_in (Err e) = []

last_of : (b : Bool) (raw bytes : List ℕ) → (if b then Ok raw else Err BadTable) ≡ Ok bytes → raw ≡ bytes
unfolding bytes_in
last_of true raw bytes h = ap bytes_in h
last_of false raw bytes h = absurd (cc)

same_sectors : (a b : MemDisk) → disk_contents a ≡ disk_contents b → disk_size a ≡ disk_size b
same_sectors a b same = let x = disk_whole a in let y = disk_whole b in let z = ap length same in omega (arith, x, y, z)

-- the disk of a bare stack has the sectors of the disk at the bottom
pub bare_fits : (s : Stack) (d disk : MemDisk) (depth : ℕ) (names : List (List ℕ)) (size n : ℕ) → s ≡ Disk d → raw_in depth names (device_of s) ≡ Ok (disk_contents disk) → size ≡ disk_size disk → n ≤ size → n ≤ disk_size d
unfolding raw_in
bare_fits s d disk depth names size n is raw sectors inside =
    let Raw : Stack → Type 0 = λ t. raw_in depth names (device_of t) ≡ Ok (disk_contents disk) in
    let same = same_sectors d disk (last_of (is_disk depth names (device_of (Disk d))) (disk_contents d) (disk_contents disk) (subst Raw is raw)) in
    omega (arith, same, sectors, inside)
