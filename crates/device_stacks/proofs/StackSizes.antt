-- How many sectors a stack has, by its bytes.
use Rattle.std.proofs.Common.{◌≡◌, ℕ, ◌*◌, ◌/◌, ◌≤◌, length, refl, sym, ap, ◌∙◌, arith}
use Rattle.layers.specs.declared.stack.Stack.{Stack}
use Rattle.layers.specs.Stack.{stack_size}
use Rattle.layers.specs.Whole.{stack_whole, stack_small}
use Rattle.whole_commands.specs.Devices.{Device, sectors_of}
use Rattle.command_semantics.specs.Stacks.{device_of}

by_512 : (n l : ℕ) → l ≡ 512 * n → n ≡ l / 512
by_512 n l e = omega (arith, e)

pub has_sectors : (s : Stack) (d : Device) (n : ℕ) → device_of s ≡ d → n ≡ stack_size s → n ≡ sectors_of d
has_sectors s d n is size = size ∙ by_512 (stack_size s) (length d.bytes) (ap (λ (x : Device). length x.bytes) (sym is) ∙ stack_whole s)

pub is_whole : (s : Stack) (d : Device) (n : ℕ) → device_of s ≡ d → n ≡ stack_size s → length d.bytes ≡ 512 * n
is_whole s d n is size = ap (λ (x : Device). length x.bytes) (sym is) ∙ (stack_whole s ∙ ap (λ m. 512 * m) (sym size))

pub is_small : (s : Stack) (n : ℕ) → n ≡ stack_size s → n ≤ 16777216
is_small s n size = omega (arith, size, stack_small s)

pub size_of : (s : Stack) → sectors_of (device_of s) ≡ stack_size s
size_of s = sym (has_sectors s (device_of s) (stack_size s) refl refl)

pub small : (s : Stack) → stack_size s ≤ 16777216
small s = is_small s (stack_size s) refl
