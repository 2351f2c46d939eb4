-- A stop may leave no sector other than it might have left before, and the bytes are as they were: what lasted of a snapshot
-- and of a merge lasts.
use Rattle.std.proofs.Common.{◌≡◌, ℕ, ◌<◌, List, drop, subst, sym}
use Rattle.std.specs.List.{All}
use Rattle.sector.specs.declared.pair.Pair.{Pair}
use Rattle.crash_laws.specs.May.{sector_of, MayList}
use Rattle.cache_loss_laws.specs.Kept.{Kept, SnapLasts, SnapRefused}
use Rattle.cache_loss_laws.specs.Lasting.{IsCopyFirm}
use Rattle.cache_loss_laws.specs.Merging.{Merging, MergeLasts}

-- a stop leaves no more than before
abbrev pub LeavesFewer : (ℕ → List ℕ → Type 0) → (ℕ → List ℕ → Type 0) → Type 0
LeavesFewer holds holds' = (s : ℕ) (x : List ℕ) → holds' s x → holds s x

list_fewer : (chunk certain last : ℕ) (pairs : List Pair) (sh sh' : ℕ → List ℕ → Type 0) → LeavesFewer sh sh' → MayList chunk certain last pairs sh → MayList chunk certain last pairs sh'
list_fewer chunk certain last pairs sh sh' fewer l = record { low = l.low; reach = l.reach; valid = l.valid; slots = λ k v le there. l.slots k v le (fewer (sector_of chunk k) v there) }

copy_fewer : (chunk sectors : ℕ) (sh sh' : ℕ → List ℕ → Type 0) (origin store : List ℕ) (q : Pair) → LeavesFewer sh sh' → IsCopyFirm chunk sectors sh origin store q → IsCopyFirm chunk sectors sh' origin store q
copy_fewer chunk sectors sh sh' origin store q fewer c = record { same = c.same; firm = λ s lt is x there. c.firm s lt is x (fewer _ x there) }

snap_same : (oh sh oh' sh' : ℕ → List ℕ → Type 0) (origin store : List ℕ) (ready : Pair → Type 0) (v : Kept) → LeavesFewer oh oh' → LeavesFewer sh sh' → SnapLasts oh sh origin store ready v → SnapLasts oh' sh' origin store ready v
snap_same oh sh oh' sh' origin store ready v disk fewer h = record {
  header = λ w there. h.header w (fewer 0 w there);
  list = list_fewer v.chunk v.sure _ v.pairs sh sh' fewer h.list;
  inside = h.inside;
  ahead = h.ahead;
  disk = λ s lt none x there. h.disk s lt none x (disk s x there);
  placed = λ k d lt. copy_fewer v.chunk v.sectors sh sh' origin store _ fewer (h.placed k d lt);
  copies = λ q is. copy_fewer v.chunk v.sectors sh sh' origin store q fewer (h.copies q is);
}

pub snap_fewer : (oh sh oh' sh' : ℕ → List ℕ → Type 0) (origin store origin' store' : List ℕ) (ready : Pair → Type 0) (v : Kept) → LeavesFewer oh oh' → LeavesFewer sh sh' → origin' ≡ origin → store' ≡ store
    → SnapLasts oh sh origin store ready v → SnapLasts oh' sh' origin' store' ready v
snap_fewer oh sh oh' sh' origin store origin' store' ready v disk fewer same there h =
    subst (λ b. SnapLasts oh' sh' b store' ready v) (sym same) (subst (λ b. SnapLasts oh' sh' origin b ready v) (sym there) (snap_same oh sh oh' sh' origin store ready v disk fewer h))

pub refused_fewer : (sh sh' : ℕ → List ℕ → Type 0) → LeavesFewer sh sh' → SnapRefused sh → SnapRefused sh'
refused_fewer sh sh' fewer h = record { header = λ w there. h.header w (fewer 0 w there) }

merge_same : (oh sh oh' sh' : ℕ → List ℕ → Type 0) (origin store : List ℕ) (m : Merging) → LeavesFewer oh oh' → LeavesFewer sh sh' → MergeLasts oh sh origin store m → MergeLasts oh' sh' origin store m
merge_same oh sh oh' sh' origin store m disk fewer h = record {
  gone = h.gone;
  last = h.last;
  header = λ w there. h.header w (fewer 0 w there);
  list = list_fewer m.chunk _ h.last _ sh sh' fewer h.list;
  inside = h.inside;
  cleared = h.cleared;
  formed = h.formed;
  back = λ flushed k d lt s inside is x there. h.back flushed k d lt s inside is x (disk s x there);
}

pub merge_fewer : (oh sh oh' sh' : ℕ → List ℕ → Type 0) (origin store origin' store' : List ℕ) (m : Merging) → LeavesFewer oh oh' → LeavesFewer sh sh' → origin' ≡ origin → store' ≡ store
    → MergeLasts oh sh origin store m → MergeLasts oh' sh' origin' store' m
merge_fewer oh sh oh' sh' origin store origin' store' m disk fewer same there h =
    subst (λ b. MergeLasts oh' sh' b store' m) (sym same) (subst (λ b. MergeLasts oh' sh' origin b m) (sym there) (merge_same oh sh oh' sh' origin store m disk fewer h))
