-- Saving a chunk on devices that may fail, case by case; where the snapshot stays live, it is saved as `specs/Saves` has it.
use Rattle.std.proofs.Common.{◌≡◌, inl, inr, ℕ, ◌+◌, ◌*◌, ◌/◌, ◌%◌, Bool, true, false, List, length, ap, ◌∙◌, sym}
use Rattle.std.specs.Prelude.{◌==◌, ◌||◌, not, if◌then◌else◌}
use Rattle.std.proofs.lemmas.Bool.{cases_Bool, cond-true, cond-false, true≢false}
use Rattle.sector.specs.declared.pair.Pair.{Pair}
use Rattle.device.specs.declared.operation.Operation.{Operation}
use Rattle.device.specs.declared.operation.Operation.TheVariants.{Reads, Writes, Flushes}
use Rattle.device.specs.Layers.{layers_after}
use Rattle.cow_format.specs.Places.{area_place}
use Rattle.cow_format.specs.Pairs.{pairs_of}
use Rattle.in_flight.specs.Copies.{count_of}
use Rattle.whole_commands.specs.Saves.{Saving as Stored, copied, zeroed, paired, committed, saved}
use Rattle.whole_commands.specs.Devices.{Device, sectors_of, answers, met, written_by}
use Rattle.whole_commands.specs.Snaps.{Snap}
use Rattle.whole_commands.specs.Saving.{spoilt, flush_then, write_then, write_pair, lacks_area, commit, copy, next_place, is_full, has_chunk, save}

pub saves_nothing : (c : ℕ) (origin : Device) (s : Snap) → (not s.live || has_chunk c s) ≡ true → save c origin s ≡ record { origin = origin; snap = s }
unfolding save
saves_nothing c origin s none = cond-true _ _ _ none

pub saves_full : (c : ℕ) (origin : Device) (s : Snap) → (not s.live || has_chunk c s) ≡ false → is_full s ≡ true → save c origin s ≡ record { origin = origin; snap = spoilt s }
unfolding save
saves_full c origin s some full = cond-false _ _ _ some ∙ cond-true _ _ _ full

-- the read of a chunk of the origin
abbrev pub chunk_read : ℕ → Device → Snap → Operation
chunk_read c origin s = Reads (s.chunk * c) (count_of s.chunk (sectors_of origin) c)

pub saves_copy : (c : ℕ) (origin : Device) (s : Snap) → (not s.live || has_chunk c s) ≡ false → is_full s ≡ false → save c origin s ≡ record { origin = met origin (chunk_read c origin s); snap = if answers origin (chunk_read c origin s) then copy origin.bytes (record { old = c; new = next_place s }) s else spoilt s }
unfolding save
saves_copy c origin s some room = cond-false _ _ _ some ∙ cond-false _ _ _ room

-- a store's bytes, and whether its snapshot is live
abbrev pub stored_of : Snap → Stored
stored_of s = record { store = s.store.bytes; live = s.live }

-- the snapshot after a write and a flush that are answered
abbrev pub with_bytes : Snap → Operation → List ℕ → Snap
with_bytes s op bytes = record s { store = record { bytes = bytes; layers = layers_after (layers_after s.store.layers op) Flushes } }

-- where it stays live, the flush was answered
flush_live : (s : Snap) (next : Snap → Snap) → (flush_then next s).live ≡ true → flush_then next s ≡ next (record s { store = met s.store Flushes })
flush_live s next live =
    let after : Snap = record s { store = met s.store Flushes } in
    elim (cases_Bool (answers s.store Flushes)) [
      | inl ok ↦ cond-true _ _ _ ok
      | inr failed ↦ (let is : flush_then next s ≡ spoilt after = cond-false _ _ _ failed in
          absurd (true≢false (sym live ∙ ap (λ t. t.live) is)))
    ]

-- and the write before it
pub write_live : (s : Snap) (n count : ℕ) (bytes : List ℕ) (next : Snap → Snap) → (write_then s n count bytes next).live ≡ true → write_then s n count bytes next ≡ next (with_bytes s (Writes (s.chunk * n) count) bytes)
write_live s n count bytes next live =
    let op : Operation = Writes (s.chunk * n) count in
    let now : List ℕ → Snap = λ (b : List ℕ). with_bytes s op b in
    let after : Snap = record s { store = written_by s.store op bytes } in
    elim (cases_Bool (answers s.store op)) [
      | inl ok ↦ (let is : write_then s n count bytes next ≡ flush_then next after = cond-true _ _ _ ok in
          is ∙ flush_live after next (sym (ap (λ t. t.live) is) ∙ live) ∙ ap (λ b. next (now b)) (cond-true _ _ _ ok))
      | inr failed ↦ (let is : write_then s n count bytes next ≡ spoilt after = cond-false _ _ _ failed in
          absurd (true≢false (sym live ∙ ap (λ t. t.live) is)))
    ]

pair_live : (k : ℕ) (q : Pair) (s : Snap) → s.live ≡ true → (write_pair k q s).live ≡ true → stored_of (write_pair k q s) ≡ record { store = paired s.chunk s.store.bytes k q; live = true }
pair_live k q s on live =
    let mk : Bool → Stored = λ (b : Bool). record { store = paired s.chunk s.store.bytes k q; live = b } in
    ap stored_of (write_live s (area_place s.chunk (k / (32 * s.chunk))) s.chunk (paired s.chunk s.store.bytes k q) (λ t. t) live) ∙ ap mk on

commit_live : (k : ℕ) (q : Pair) (s : Snap) → s.live ≡ true → (commit k q s).live ≡ true → stored_of (commit k q s) ≡ committed s.chunk s.store.bytes k q
commit_live k q s on live = elim (cases_Bool (((k + 1) % (32 * s.chunk)) == 0)) [
  | inr part ↦ (let is : commit k q s ≡ write_pair k q s = cond-false _ _ _ part in
      ap stored_of is ∙ pair_live k q s on (sym (ap (λ t. t.live) is) ∙ live) ∙ sym (cond-false _ _ _ part))
  | inl full ↦ elim (cases_Bool (lacks_area ((k + 1) / (32 * s.chunk)) s)) [
    | inl lacks ↦ (let is : commit k q s ≡ spoilt s = cond-true _ _ _ full ∙ cond-true _ _ _ lacks in absurd (true≢false (sym live ∙ ap (λ t. t.live) is)))
    | inr room ↦ (let a : ℕ = (k + 1) / (32 * s.chunk) in
        let is : commit k q s ≡ write_then s (area_place s.chunk a) s.chunk (zeroed s.chunk s.store.bytes a) (write_pair k q) = cond-true _ _ _ full ∙ cond-false _ _ _ room in
        let now : Snap = with_bytes s (Writes (s.chunk * area_place s.chunk a) s.chunk) (zeroed s.chunk s.store.bytes a) in
        let goes : commit k q s ≡ write_pair k q now = is ∙ write_live s (area_place s.chunk a) s.chunk (zeroed s.chunk s.store.bytes a) (write_pair k q) (sym (ap (λ t. t.live) is) ∙ live) in
        ap stored_of goes ∙ pair_live k q now on (sym (ap (λ t. t.live) goes) ∙ live) ∙ sym (cond-true _ _ _ full ∙ cond-false _ _ _ room))
  ]
]

copy_live : (disk : List ℕ) (q : Pair) (s : Snap) → s.live ≡ true → (copy disk q s).live ≡ true → stored_of (copy disk q s) ≡ committed s.chunk (copied s.chunk disk s.store.bytes q.old q.new) (length (pairs_of s.chunk s.store.bytes)) q
copy_live disk q s on live =
    let k : ℕ = length (pairs_of s.chunk s.store.bytes) in
    let op : Operation = Writes (s.chunk * q.new) (count_of s.chunk (length disk / 512) q.old) in
    let now : Snap = with_bytes s op (copied s.chunk disk s.store.bytes q.old q.new) in
    let goes : copy disk q s ≡ commit k q now = write_live s q.new (count_of s.chunk (length disk / 512) q.old) (copied s.chunk disk s.store.bytes q.old q.new) (commit k q) live in
    ap stored_of goes ∙ commit_live k q now on (sym (ap (λ t. t.live) goes) ∙ live)

-- a live snapshot that lacks the chunk, and has room for it
pub save_live : (c : ℕ) (origin : Device) (s : Snap) → s.live ≡ true → has_chunk c s ≡ false → is_full s ≡ false →
    (if answers origin (chunk_read c origin s) then copy origin.bytes (record { old = c; new = next_place s }) s else spoilt s).live ≡ true → stored_of (if answers origin (chunk_read c origin s) then copy origin.bytes (record { old = c; new = next_place s }) s else spoilt s) ≡ saved s.chunk origin.bytes s.store.bytes c
unfolding saved
save_live c origin s on lacks room live =
    let q : Pair = record { old = c; new = next_place s } in
    elim (cases_Bool (answers origin (chunk_read c origin s))) [
      | inr failed ↦ (let is : (if answers origin (chunk_read c origin s) then copy origin.bytes q s else spoilt s) ≡ spoilt s = cond-false _ _ _ failed in absurd (true≢false (sym live ∙ ap (λ t. t.live) is)))
      | inl ok ↦ (let is : (if answers origin (chunk_read c origin s) then copy origin.bytes q s else spoilt s) ≡ copy origin.bytes q s = cond-true _ _ _ ok in
          ap stored_of is ∙ copy_live origin.bytes q s on (sym (ap (λ t. t.live) is) ∙ live) ∙ sym (cond-false _ _ _ lacks ∙ cond-false _ _ _ room))
    ]
