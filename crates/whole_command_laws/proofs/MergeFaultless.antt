-- A merge whose origin and store have no layers does not fail, whatever the other snapshots' stores do.
use Rattle.std.proofs.Common.{◌≡◌, inl, inr, ℕ, zero, suc, ◌+◌, ◌*◌, ◌-◌, true, false, List, [], ◌∷◌, length, ap, ◌∙◌, sym, subst}
use Rattle.std.specs.Prelude.{◌==◌, nat_lt, not, ◌||◌}
use Rattle.std.proofs.lemmas.Bool.{cases_Bool, cond-true, cond-false}
use Rattle.sector.specs.Bytes.{sectors_at, with_sectors}
use Rattle.sector.specs.declared.pair.Pair.{Pair}
use Rattle.device.specs.declared.operation.Operation.{Operation}
use Rattle.device.specs.declared.operation.Operation.TheVariants.{Reads, Writes, Flushes}
use Rattle.device.specs.Layers.{fate, is_answered, layers_after}
use Rattle.cow_format.specs.Places.{area_place}
use Rattle.whole_commands.specs.Devices.{Device, answers, met, written_by}
use Rattle.whole_commands.specs.Snaps.{Snap, Volume}
use Rattle.whole_commands.specs.Saving.{Saving, is_full, has_chunk, save}
use Rattle.whole_commands.specs.Pieces.{save_at}
use Rattle.whole_commands.specs.Merges.{Merging, pairs_in, going, with_store, with_origin, next_over, saved_round, saved_rounds, saved_over, sectors_in, copy_back, copy_all, in_area, group_of, kept_in, flush, clear_slots, merge_group, read_before, merge_step, merge_steps, merge_all}
use Rattle.whole_commands.proofs.Saves.{saves_nothing, saves_full, saves_copy, chunk_read}

-- without layers above the origin and the store, and not failed
pub record IsSound (m : Merging) : Type 0 where
  pub origin : m.volume.origin.layers ≡ []
  pub store : m.merge.store.layers ≡ []
  pub fine : m.merge.failed ≡ false

answers_all : (device : Device) (op : Operation) → device.layers ≡ [] → answers device op ≡ true
answers_all device op none = ap (λ ls. is_answered (fate ls op)) none

none_after : (device : Device) (op : Operation) → device.layers ≡ [] → layers_after device.layers op ≡ []
none_after device op none = ap (λ ls. layers_after ls op) none

save_layers : (c : ℕ) (origin : Device) (s : Snap) → origin.layers ≡ [] → (save c origin s).origin.layers ≡ []
save_layers c origin s none = elim (cases_Bool (not s.live || has_chunk c s)) [
  | inl kept ↦ ap (λ (x : Saving). x.origin.layers) (saves_nothing c origin s kept) ∙ none
  | inr lacks ↦ elim (cases_Bool (is_full s)) [
    | inl full ↦ ap (λ (x : Saving). x.origin.layers) (saves_full c origin s lacks full) ∙ none
    | inr room ↦ ap (λ (x : Saving). x.origin.layers) (saves_copy c origin s lacks room) ∙ none_after origin (chunk_read c origin s) none
  ]
]

save_at_layers : (wanted : Snap → ℕ) (origin : Device) (snaps : List Snap) → origin.layers ≡ [] → (save_at wanted origin snaps).origin.layers ≡ []
save_at_layers wanted origin [] none = none
save_at_layers wanted origin (s ∷ snaps) none = save_at_layers wanted (save (wanted s) origin s).origin snaps (save_layers (wanted s) origin s none)

rounds_layers : (first count n : ℕ) (v : Volume) → v.origin.layers ≡ [] → (saved_rounds first count n v).origin.layers ≡ []
rounds_layers first count zero v none = none
rounds_layers first count (suc n) v none = rounds_layers first count n (saved_round first count v) (save_at_layers (next_over first count) v.origin v.snaps none)

copy_sound : (p : Pair) (m : Merging) → IsSound m → IsSound (copy_back p m)
copy_sound p m is =
    let saved : Merging = saved_over (m.merge.chunk * p.old) (sectors_in p m) m in
    let disk : Device = saved.volume.origin in
    let bytes : List ℕ = sectors_at m.merge.store.bytes (m.merge.chunk * p.new) (sectors_in p m) in
    let reads : Operation = Reads (m.merge.chunk * p.new) (sectors_in p m) in
    let writes : Operation = Writes (m.merge.chunk * p.old) (sectors_in p m) in
    let written : Merging = with_origin (with_store saved (met m.merge.store reads)) (written_by disk writes (with_sectors disk.bytes (m.merge.chunk * p.old) bytes)) in
    let none : disk.layers ≡ [] = rounds_layers (m.merge.chunk * p.old) (sectors_in p m) (sectors_in p m) m.volume is.origin in
    let done : copy_back p m ≡ written = cond-true _ _ _ (answers_all m.merge.store reads is.store) ∙ cond-true _ _ _ (answers_all disk writes none) in
    subst IsSound (sym done) (record { origin = none_after disk writes none; store = none_after m.merge.store reads is.store; fine = is.fine })

-- what follows a sound merge
going_sound : (next : Merging → Merging) (m : Merging) → IsSound m → IsSound (next m) → IsSound (going next m)
going_sound next m is after = subst IsSound (sym (cond-false _ _ _ is.fine)) after

copies_sound : (pairs : List Pair) (m : Merging) → IsSound m → IsSound (copy_all pairs m)
copies_sound [] m is = is
copies_sound (p ∷ pairs) m is = going_sound (copy_back p) (copy_all pairs m) (copies_sound pairs m is) (copy_sound p (copy_all pairs m) (copies_sound pairs m is))

flush_sound : (m : Merging) → IsSound m → IsSound (flush m)
flush_sound m is = subst IsSound (sym (cond-true _ _ _ (answers_all m.volume.origin Flushes is.origin))) (record { origin = none_after m.volume.origin Flushes is.origin; store = is.store; fine = is.fine })

clear_sound : (j n : ℕ) (m : Merging) → IsSound m → IsSound (clear_slots j n m)
clear_sound j n m is =
    let op : Operation = Writes (m.merge.chunk * area_place m.merge.chunk m.merge.current) m.merge.chunk in
    subst IsSound (sym (cond-true _ _ _ (answers_all m.merge.store op is.store))) (record { origin = is.origin; store = none_after m.merge.store op is.store; fine = is.fine })

group_sound : (m : Merging) → IsSound m → IsSound (merge_group m)
group_sound m is =
    let copied : Merging = copy_all (group_of m.merge) m in
    let one = copies_sound (group_of m.merge) m is in
    let two : IsSound (going flush copied) = going_sound flush copied one (flush_sound copied one) in
    going_sound (clear_slots (kept_in m.merge) (length (group_of m.merge))) (going flush copied) two (clear_sound (kept_in m.merge) (length (group_of m.merge)) (going flush copied) two)

read_sound : (m : Merging) → IsSound m → IsSound (read_before m)
read_sound m is =
    let op : Operation = Reads (m.merge.chunk * area_place m.merge.chunk (m.merge.current - 1)) m.merge.chunk in
    subst IsSound (sym (cond-true _ _ _ (answers_all m.merge.store op is.store))) (record { origin = is.origin; store = none_after m.merge.store op is.store; fine = is.fine })

step_sound : (m : Merging) → IsSound m → IsSound (merge_step m)
step_sound m is = elim (cases_Bool (nat_lt 0 (length (in_area m.merge)))) [
  | inl some ↦ subst IsSound (sym (cond-true _ _ _ some)) (group_sound m is)
  | inr none ↦ elim (cases_Bool (m.merge.current == 0)) [
    | inl first ↦ subst IsSound (sym (cond-false _ _ _ none ∙ cond-true _ _ _ first)) is
    | inr later ↦ subst IsSound (sym (cond-false _ _ _ none ∙ cond-false _ _ _ later)) (read_sound m is)
  ]
]

steps_sound : (n : ℕ) (m : Merging) → IsSound m → IsSound (merge_steps n m)
steps_sound zero m is = is
steps_sound (suc n) m is = going_sound (λ k. merge_steps n (merge_step k)) m is (steps_sound n (merge_step m) (step_sound m is))

-- the whole merge
pub merge_sound : (m : Merging) → IsSound m → IsSound (merge_all m)
merge_sound m is = steps_sound (length (pairs_in m.merge) + m.merge.current) m is
