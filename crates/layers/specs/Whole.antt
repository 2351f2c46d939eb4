-- Laws of what a stack contains.
use Rattle.std.specs.Prelude.{◌≡◌, ℕ, ◌+◌, ◌-◌, ◌*◌, ◌^◌, ◌<◌, ◌≤◌, List, [], length, take, drop, refl}
use Rattle.std.proofs.Common.{arith, rules, inl, inr, length-take, length-drop, ap, ◌∙◌, sym, subst}
use Rattle.std.proofs.lemmas.List.{places, same_lists, length-replicate, drop-take, drop-drop, take-take}
use Rattle.sector.specs.Bytes.{sectors_at, with_sectors, sector_at}
use Rattle.device.specs.Bare.{HasLike, HoldsTwo}
use Rattle.device.specs.Laws.{disk_like, disk_whole}
use Rattle.layers.specs.declared.stack.Stack.{Stack, Disk, Flakey', Dust', Error}
use Rattle.layers.specs.Stack.{stack_size, stack_contents, stack_durable, stack_layers, stack_faults, stack_done, stack_may_hold}

-- sectors of whole sectors are whole
length-sectors : (b : List ℕ) (first count size : ℕ) → length b ≡ 512 * size → count ≤ size - first → length (sectors_at b first count) ≡ 512 * count
length-sectors b first count size whole inside = simp (length-take, length-drop) (omega arith)

-- a stack has whole sectors
pub stack_whole : (d : Stack) → length (stack_contents d) ≡ 512 * stack_size d
stack_whole (Disk d) = disk_whole d
stack_whole (Flakey' f p below) = length-sectors (stack_contents below) f.offset _ (stack_size below) (stack_whole below) (omega arith)
stack_whole (Dust' d p below) = length-sectors (stack_contents below) 0 _ (stack_size below) (stack_whole below) (omega arith)
stack_whole (Error e) = length-replicate (512 * e.sectors) 0

-- no stack is larger than the largest disk
pub stack_small : (d : Stack) → stack_size d ≤ 16777216
stack_small (Disk d) = d.sectors.small
stack_small (Flakey' f p below) = omega (arith, stack_small below)
stack_small (Dust' d p below) = omega (arith, stack_small below)
stack_small (Error e) = e.small

pub stack_bounded : (d : Stack) → stack_size d ≤ 2_147_483_648
stack_bounded d = omega (arith, stack_small d)

-- sectors of some sectors
pub sectors_of_sectors : (b : List ℕ) (first count f c : ℕ) → f + c ≤ count → sectors_at (sectors_at b first count) f c ≡ sectors_at b (f + first) c
sectors_of_sectors b first count f c inside =
    let n : ℕ = 512 * count - 512 * f in
    let e : 512 * count ≡ 512 * f + n = omega arith in
    let g : 512 * first + 512 * f ≡ 512 * (f + first) = omega arith in
    ap (λ m. take (512 * c) (drop (512 * f) (take m (drop (512 * first) b)))) e
    ∙ ap (take (512 * c)) (drop-take (512 * f) n (drop (512 * first) b))
    ∙ take-take (512 * c) n _ (omega arith)
    ∙ ap (take (512 * c)) (drop-drop (512 * f) (512 * first) b)
    ∙ ap (λ m. take (512 * c) (drop m b)) g

-- a write to some of the sectors
pub sectors_of_write : (b : List ℕ) (o n f c size : ℕ) (new : List ℕ) → length b ≡ 512 * size → n ≤ size - o → 0 < n → f + c ≤ n → length new ≡ 512 * c → sectors_at (with_sectors b (f + o) new) o n ≡ with_sectors (sectors_at b o n) f new
sectors_of_write b o n f c size new whole inside some fits len = same_lists _ _ (search (rules, places)) (λ k d h. grind (arith, places))

-- a sector of some sectors, as a stop may leave it
moved : (P : ℕ → List ℕ → Type 0) (b : List ℕ) (o n s : ℕ) → s < n → P (s + o) (sector_at b (s + o)) → P (s + o) (sector_at (sectors_at b o n) s)
moved P b o n s lt h = subst (P (s + o)) (sym (sectors_of_sectors b o n s 1 (omega arith))) h

-- a stop may leave what is there
pub stack_holds_now : (d : Stack) (s : ℕ) → s < stack_size d → stack_may_hold d s (sector_at (stack_contents d) s)
stack_holds_now (Disk d) s lt = inl refl
stack_holds_now (Flakey' f p below) s lt =
    moved (stack_may_hold below) (stack_contents below) f.offset _ s lt (stack_holds_now below (s + f.offset) (omega arith))
stack_holds_now (Dust' d p below) s lt =
    subst (stack_may_hold below s) (ap (λ n. sector_at (stack_contents below) n) (omega arith) ∙ sym (sectors_of_sectors (stack_contents below) 0 _ s 1 (omega arith))) (stack_holds_now below s (omega arith))
stack_holds_now (Error e) s lt = refl

-- a stop may leave what was there at the last flush
pub stack_holds_durable : (d : Stack) (s : ℕ) → s < stack_size d → stack_may_hold d s (sector_at (stack_durable d) s)
stack_holds_durable (Disk d) s lt = inr refl
stack_holds_durable (Flakey' f p below) s lt =
    moved (stack_may_hold below) (stack_durable below) f.offset _ s lt (stack_holds_durable below (s + f.offset) (omega arith))
stack_holds_durable (Dust' d p below) s lt =
    subst (stack_may_hold below s) (ap (λ n. sector_at (stack_durable below) n) (omega arith) ∙ sym (sectors_of_sectors (stack_durable below) 0 _ s 1 (omega arith))) (stack_holds_durable below s (omega arith))
stack_holds_durable (Error e) s lt = refl

-- and of a stack without layers it leaves no more than these two
pub stack_holds_two : (d : Stack) → stack_layers d ≡ [] → HoldsTwo (stack_may_hold d) (stack_contents d) (stack_durable d)
stack_holds_two (Disk d) bare = record { only = λ s v held. held; holds_now = λ s. inl refl; holds_flushed = λ s. inr refl }
stack_holds_two (Flakey' f p below) bare = cc
stack_holds_two (Dust' d p below) bare = cc
stack_holds_two (Error e) bare = cc

-- one without layers may have any bytes
pub stack_has_like : (d : Stack) (bytes : List ℕ) (count : ℕ) → stack_layers d ≡ [] → length bytes ≡ 512 * stack_size d → count < 2 ^ 64 → HasLike stack_size stack_contents stack_durable stack_layers stack_faults stack_done d bytes count
stack_has_like (Disk d) bytes count bare whole few =
    let e = disk_like d bytes count whole few in
    record { like = Disk e.like; bytes_are = e.bytes_are; flushed = e.flushed; bare = refl; sized = e.sized; faulty = refl; counted = e.counted }
stack_has_like (Flakey' f p below) bytes count bare whole few = cc
stack_has_like (Dust' d p below) bytes count bare whole few = cc
stack_has_like (Error e) bytes count bare whole few = cc
