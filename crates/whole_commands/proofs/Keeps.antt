-- What a copy leaves of a snapshot: its number, the sectors of its chunks, and what a full store does to it.
use Rattle.std.proofs.Common.{◌≡◌, inl, inr, ℕ, ◌+◌, ◌*◌, ◌/◌, ◌%◌, List, length, refl, ap, ◌∙◌}
use Rattle.std.specs.Prelude.{◌==◌}
use Rattle.std.proofs.lemmas.Bool.{cases_Bool, cond-true, cond-false}
use Rattle.sector.specs.declared.pair.Pair.{Pair}
use Rattle.device.specs.declared.operation.Operation.{Operation}
use Rattle.device.specs.declared.operation.Operation.TheVariants.{Writes, Flushes}
use Rattle.cow_format.specs.Places.{area_place}
use Rattle.cow_format.specs.Pairs.{pairs_of}
use Rattle.in_flight.specs.Copies.{count_of}
use Rattle.whole_commands.specs.Saves.{copied, zeroed, paired}
use Rattle.whole_commands.specs.Devices.{Device, answers, met, written_by}
use Rattle.whole_commands.specs.Snaps.{Snap}
use Rattle.whole_commands.specs.Saving.{spoilt, flush_then, write_then, write_pair, lacks_area, commit, copy}

-- what neither an operation on the store nor a spoil changes: the number, the sectors of a chunk, and what a full store does
module _ {X : Type 0} (f : Snap → X) (stores : (t : Snap) (device : Device) → f (record t { store = device }) ≡ f t) (spoils : (t : Snap) → f (spoilt t) ≡ f t) where
  flush_keeps : (s : Snap) (next : Snap → Snap) → ((t : Snap) → f (next t) ≡ f t) → f (flush_then next s) ≡ f s
  flush_keeps s next same = elim (cases_Bool (answers s.store Flushes)) [
    | inl ok ↦ ap f (cond-true _ _ _ ok) ∙ same _ ∙ stores s (met s.store Flushes)
    | inr failed ↦ ap f (cond-false _ _ _ failed) ∙ spoils _ ∙ stores s (met s.store Flushes)
  ]

  write_keeps : (s : Snap) (n count : ℕ) (bytes : List ℕ) (next : Snap → Snap) → ((t : Snap) → f (next t) ≡ f t) → f (write_then s n count bytes next) ≡ f s
  write_keeps s n count bytes next same =
      let op : Operation = Writes (s.chunk * n) count in
      elim (cases_Bool (answers s.store op)) [
        | inl ok ↦ ap f (cond-true _ _ _ ok) ∙ flush_keeps _ next same ∙ stores s (written_by s.store op bytes)
        | inr failed ↦ ap f (cond-false _ _ _ failed) ∙ spoils _ ∙ stores s (written_by s.store op bytes)
      ]

  pair_keeps : (k : ℕ) (q : Pair) (s : Snap) → f (write_pair k q s) ≡ f s
  pair_keeps k q s = write_keeps s (area_place s.chunk (k / (32 * s.chunk))) s.chunk (paired s.chunk s.store.bytes k q) (λ t. t) (λ t. refl)

  commit_keeps : (k : ℕ) (q : Pair) (s : Snap) → f (commit k q s) ≡ f s
  commit_keeps k q s = elim (cases_Bool (((k + 1) % (32 * s.chunk)) == 0)) [
    | inr part ↦ ap f (cond-false _ _ _ part) ∙ pair_keeps k q s
    | inl full ↦ elim (cases_Bool (lacks_area ((k + 1) / (32 * s.chunk)) s)) [
      | inl lacks ↦ ap f (cond-true _ _ _ full ∙ cond-true _ _ _ lacks) ∙ spoils s
      | inr room ↦ ap f (cond-true _ _ _ full ∙ cond-false _ _ _ room)
          ∙ write_keeps s (area_place s.chunk ((k + 1) / (32 * s.chunk))) s.chunk (zeroed s.chunk s.store.bytes ((k + 1) / (32 * s.chunk))) (write_pair k q) (pair_keeps k q)
    ]
  ]

  pub copy_keeps : (disk : List ℕ) (q : Pair) (s : Snap) → f (copy disk q s) ≡ f s
  copy_keeps disk q s = write_keeps s q.new (count_of s.chunk (length disk / 512) q.old) (copied s.chunk disk s.store.bytes q.old q.new) (commit (length (pairs_of s.chunk s.store.bytes)) q) (commit_keeps (length (pairs_of s.chunk s.store.bytes)) q)
