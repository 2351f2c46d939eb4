-- Bytes of a snapshot whose files are written.
use Rattle.std.proofs.Common.{◌≡◌, ℕ, ◌+◌, ◌-◌, ◌*◌, ◌≤◌, List, length, take, drop, Option, None, Some, true, IfSome, refl, arith, ap, ◌∙◌, sym, subst}
use Rattle.cow_format.specs.Pairs.{pairs_of}
use Rattle.cow_image.specs.Shown.{shown}
use Rattle.read_beside_writer.specs.Moments.{Files, IsSaving}
use Rattle.nbd_read_session.specs.Blocks.{marked_for}
use Rattle.cow_nbd.specs.Live.{all_marked, known_live}
use Rattle.cow_nbd.proofs.Arrays.{shown_part}
use Rattle.cow_nbd.proofs.Marks.{marked_more, marked_none}

-- all bytes are of one kind
all_for : (most at : ℕ) → marked_for (λ _. true) true most at ≡ most
all_for most at =
    let none : marked_for (λ _. true) true (most - most) (at + most) ≡ 0 = marked_none (λ _. true) true (most - most) (at + most) (omega arith) in
    let more : marked_for (λ _. true) true most at ≡ most + marked_for (λ _. true) true (most - most) (at + most) = marked_more (λ _. true) true most most at (omega arith) (λ j lt. refl) in
    omega (arith, none, more)

pub told_all : (chunk size : ℕ) (history : Option (ℕ → Files)) (at most : ℕ) → IfSome (known_live chunk size history) (λ b. (true ≡ b.marks at) × (most ≡ marked_for b.marks (b.marks at) most at))
told_all chunk size None at most = tt
told_all chunk size (Some h) at most = (refl, sym (all_for most at))

-- what was read is a part of what the snapshot showed
pub live_read : (chunk size at n : ℕ) (history : Option (ℕ → Files)) (out : List ℕ) → at + n ≤ 512 * size → ((h : ℕ → Files) → history ≡ Some h → IsSaving chunk h × (512 * size ≤ length (h 0).origin)) → ((h : ℕ → Files) → history ≡ Some h → IsSaving chunk h → 512 * size ≤ length (h 0).origin → out ≡ shown chunk (h 0).origin (h 0).store (pairs_of chunk (h 0).store) at n) → IfSome (known_live chunk size history) (λ b. out ≡ take n (drop at b.bytes))
live_read chunk size at n None out inside saved read = tt
live_read chunk size at n (Some h) out inside saved read = read h refl (saved h refl).0 (saved h refl).1 ∙ shown_part chunk (h 0).origin (h 0).store (pairs_of chunk (h 0).store) at n (512 * size) inside

-- a writer saves first still
pub saved_on : (chunk chunk' size size' : ℕ) (history history' : Option (ℕ → Files)) → history' ≡ history → chunk' ≡ chunk → size' ≡ size → ((h : ℕ → Files) → history ≡ Some h → IsSaving chunk h × (512 * size ≤ length (h 0).origin)) → (h : ℕ → Files) → history' ≡ Some h → IsSaving chunk' h × (512 * size' ≤ length (h 0).origin)
saved_on chunk chunk' size size' history history' same chunks sizes saved h is =
    let all = saved h (sym same ∙ is) in
    let long = all.1 in
    (subst (λ (k : ℕ). IsSaving k h) (sym chunks) all.0, omega arith)

-- what it showed is known where the history is
pub live_known : (chunk size : ℕ) (history : Option (ℕ → Files)) (h : ℕ → Files) → history ≡ Some h → known_live chunk size history ≡ Some (all_marked (shown chunk (h 0).origin (h 0).store (pairs_of chunk (h 0).store) 0 (512 * size)))
live_known chunk size history h is = ap (known_live chunk size) is
