-- What a write of a snapshot does that finds its store full is changed by such a write alone.
use Rattle.std.proofs.Common.{◌≡◌, inl, inr, ℕ, zero, suc, ◌-◌, ◌*◌, ◌/◌, Bool, true, false, List, [], ◌∷◌, map, Option, Some, None, refl, ap, ◌∙◌}
use Rattle.std.specs.Prelude.{◌==◌, ◌||◌, not, if◌then◌else◌, length, nat_lt}
use Rattle.std.proofs.lemmas.Bool.{cases_Bool, cond-true, cond-false}
use Rattle.sector.specs.Bytes.{sectors_at}
use Rattle.sector.specs.declared.pair.Pair.{Pair}
use Rattle.chunk.specs.Pieces.{Span}
use Rattle.device.specs.declared.operation.Operation.{Operation}
use Rattle.device.specs.declared.operation.Operation.TheVariants.{Reads}
use Rattle.cow_format.specs.Places.{area_place}
use Rattle.cow_format.specs.Pairs.{pairs_of}
use Rattle.cow_format.specs.Picture.{place_of}
use Rattle.plain_machine.specs.declared.request.Overflowing.{Overflowing}
use Rattle.whole_commands.specs.Devices.{Device, answers}
use Rattle.whole_commands.specs.Snaps.{Snap, Volume}
use Rattle.whole_commands.specs.Saving.{Saving, next_place, is_full, has_chunk, save}
use Rattle.whole_commands.specs.Pieces.{save_all, save_at, write_place, write_saved, Answered}
use Rattle.whole_commands.specs.Merges.{Merge, Merging, sectors_in, write_disk, read_then, next_over, saved_round, saved_rounds, saved_over, copy_back, copy_all, group_of, flush, clear_slots, merge_group, read_before, in_area, merge_step, merge_steps, merge_all}
use Rattle.whole_commands.proofs.Saves.{saves_nothing, saves_full, saves_copy, chunk_read}
use Rattle.whole_commands.proofs.Keeps.{copy_keeps}

-- of all snapshots
abbrev pub overflows_of : List Snap → List Overflowing
overflows_of snaps = map (λ s. s.overflow) snaps

-- no chunk that is saved changes it
pub save_overflow : (c : ℕ) (origin : Device) (s : Snap) → (save c origin s).snap.overflow ≡ s.overflow
save_overflow c origin s = elim (cases_Bool (not s.live || has_chunk c s)) [
  | inl none ↦ ap (λ (x : Saving). x.snap.overflow) (saves_nothing c origin s none)
  | inr some ↦ elim (cases_Bool (is_full s)) [
    | inl full ↦ ap (λ (x : Saving). x.snap.overflow) (saves_full c origin s some full)
    | inr room ↦ (let q : Pair = record { old = c; new = next_place s } in
        ap (λ (x : Saving). x.snap.overflow) (saves_copy c origin s some room) ∙ elim (cases_Bool (answers origin (chunk_read c origin s))) [
          | inl ok ↦ ap (λ (t : Snap). t.overflow) (cond-true _ _ _ ok) ∙ copy_keeps (λ (t : Snap). t.overflow) (λ t d. refl) (λ t. refl) origin.bytes q s
          | inr failed ↦ ap (λ (t : Snap). t.overflow) (cond-false _ _ _ failed)
        ])
  ]
]

at_overflows : (at : Snap → ℕ) (origin : Device) (snaps : List Snap) → overflows_of (save_at at origin snaps).snaps ≡ overflows_of snaps
at_overflows at origin [] = refl
at_overflows at origin (s ∷ snaps) =
    let here : Saving = save (at s) origin s in
    ap (λ (o : Overflowing). o ∷ overflows_of (save_at at here.origin snaps).snaps) (save_overflow (at s) origin s)
    ∙ ap (λ (os : List Overflowing). s.overflow ∷ os) (at_overflows at here.origin snaps)

pub all_overflows : (first : ℕ) (origin : Device) (snaps : List Snap) → overflows_of (save_all first origin snaps).snaps ≡ overflows_of snaps
all_overflows first origin snaps = at_overflows (λ (s : Snap). first / s.chunk) origin snaps

-- nor a write that is taken
place_overflow : (piece : Span) (part : List ℕ) (origin : Device) (s : Snap) (o : Option ℕ) → (write_place piece part origin s o).state.snap.overflow ≡ s.overflow
place_overflow piece part origin s None = refl
place_overflow piece part origin s (Some n) = refl

pub taken_overflow : (piece : Span) (part : List ℕ) (c : ℕ) (origin : Device) (s : Snap) → (write_saved piece part (save c origin s)).state.snap.overflow ≡ s.overflow
taken_overflow piece part c origin s =
    let a : Saving = save c origin s in
    elim (cases_Bool a.snap.live) [
      | inl live ↦ ap (λ (x : Answered Saving). x.state.snap.overflow) (cond-true _ _ _ live)
          ∙ place_overflow piece part a.origin a.snap (place_of (pairs_of a.snap.chunk a.snap.store.bytes) (piece.first / a.snap.chunk)) ∙ save_overflow c origin s
      | inr out ↦ ap (λ (x : Answered Saving). x.state.snap.overflow) (cond-false _ _ _ out) ∙ save_overflow c origin s
    ]

-- Nor does a merge.

abbrev pub overflows_in : Merging → List Overflowing
overflows_in m = overflows_of m.volume.snaps

either : (b : Bool) (x y m : Merging) → overflows_in x ≡ overflows_in m → overflows_in y ≡ overflows_in m → overflows_in (if b then x else y) ≡ overflows_in m
either true x y m hx hy = hx
either false x y m hx hy = hy

disk_keeps : (first count : ℕ) (bytes : List ℕ) (m : Merging) → overflows_in (write_disk first count bytes m) ≡ overflows_in m
disk_keeps first count bytes m = either _ _ _ m refl refl

read_keeps : (op : Operation) (next : Merging → Merging) (m : Merging) → ((x : Merging) → overflows_in (next x) ≡ overflows_in x) → overflows_in (read_then op next m) ≡ overflows_in m
read_keeps op next m same = either _ _ _ m (same _) refl

rounds_keep : (first count n : ℕ) (v : Volume) → overflows_of (saved_rounds first count n v).snaps ≡ overflows_of v.snaps
rounds_keep first count zero v = refl
rounds_keep first count (suc n) v = rounds_keep first count n (saved_round first count v) ∙ at_overflows (next_over first count) v.origin v.snaps

copy_back_keeps : (p : Pair) (m : Merging) → overflows_in (copy_back p m) ≡ overflows_in m
copy_back_keeps p m =
    let first : ℕ = m.merge.chunk * p.old in
    let from : ℕ = m.merge.chunk * p.new in
    let count : ℕ = sectors_in p m in
    let bytes : List ℕ = sectors_at m.merge.store.bytes from count in
    read_keeps (Reads from count) (write_disk first count bytes) (saved_over first count m) (λ x. disk_keeps first count bytes x) ∙ rounds_keep first count count m.volume

copy_all_keeps : (pairs : List Pair) (m : Merging) → overflows_in (copy_all pairs m) ≡ overflows_in m
copy_all_keeps [] m = refl
copy_all_keeps (p ∷ pairs) m =
    let rest = copy_all_keeps pairs m in
    either _ _ _ m rest (copy_back_keeps p (copy_all pairs m) ∙ rest)

flush_keeps : (m : Merging) → overflows_in (flush m) ≡ overflows_in m
flush_keeps m = either _ _ _ m refl refl

clear_keeps : (j count : ℕ) (m : Merging) → overflows_in (clear_slots j count m) ≡ overflows_in m
clear_keeps j count m = either _ _ _ m refl refl

group_keeps : (m : Merging) → overflows_in (merge_group m) ≡ overflows_in m
group_keeps m =
    let copied : Merging = copy_all (group_of m.merge) m in
    let copies = copy_all_keeps (group_of m.merge) m in
    let flushed : Merging = if copied.merge.failed then copied else flush copied in
    let flushes : overflows_in flushed ≡ overflows_in m = either _ _ _ m copies (flush_keeps copied ∙ copies) in
    either _ _ _ m flushes (clear_keeps _ _ flushed ∙ flushes)

before_keeps : (m : Merging) → overflows_in (read_before m) ≡ overflows_in m
before_keeps m =
    let g : Merge = m.merge in
    read_keeps (Reads (g.chunk * area_place g.chunk (g.current - 1)) g.chunk) (λ (after : Merging). record after { merge = record after.merge { current = g.current - 1 } }) m (λ x. refl)

step_keeps : (m : Merging) → overflows_in (merge_step m) ≡ overflows_in m
step_keeps m =
    let before : Merging = if m.merge.current == 0 then m else read_before m in
    either (nat_lt 0 (length (in_area m.merge))) (merge_group m) before m (group_keeps m) (either (m.merge.current == 0) m (read_before m) m refl (before_keeps m))

steps_keep : (n : ℕ) (m : Merging) → overflows_in (merge_steps n m) ≡ overflows_in m
steps_keep zero m = refl
steps_keep (suc n) m = either _ _ _ m refl (steps_keep n (merge_step m) ∙ step_keeps m)

pub merge_keeps : (m : Merging) → overflows_in (merge_all m) ≡ overflows_in m
merge_keeps m = steps_keep _ m
