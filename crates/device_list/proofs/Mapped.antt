-- What `map` tells of a snapshot: by what is in memory of it, and by the bytes of its store.
use Rattle.std.proofs.Common.{◌≡◌, ℕ, zero, suc, ◌+◌, ◌-◌, ◌<◌, ◌≤◌, Bool, true, false, List, [], ◌∷◌, ◌++◌, length, get_or, refl, sym, ap, ◌∙◌, subst, arith}
use Rattle.std.specs.Prelude.{◌&&◌, Option, Some, None, Result, Ok, Err, slice_get}
use Rattle.std.specs.List.{list_all}
use Rattle.std.proofs.lemmas.Option.{slice_get_read}
use Rattle.words.proofs.Bools.{and-split}
use Rattle.words.specs.Given.{Gives}
use Rattle.sector.specs.declared.pair.Pair.{Pair}
use Rattle.sector.specs.declared.refusal.Refusal.{Refusal}
use Rattle.sector.specs.declared.refusal.Refusal.TheVariants.{Invalid}
use Rattle.device.specs.Layers.{is_loud}
use Rattle.layers.specs.declared.stack.Stack.{Stack}
use Rattle.layers.specs.Stack.{stack_contents, stack_layers}
use Rattle.cow_format.specs.Pairs.{pairs_of}
use Rattle.table.specs.declared.runs.Run.{Run}
use Rattle.table.specs.Runs.{pair_at, pairs_from, runs_after}
use Rattle.whole_commands.specs.Devices.{Device, sectors_of as size_of}
use Rattle.merge.specs.Merging.{Merging}
use Rattle.snapshot.specs.Kept.{Kept}
use Rattle.volume.specs.Volumed.{is_loud_with}
use Rattle.volume_commands.specs.Flying.{IsWhole}
use Rattle.volume_commands.specs.Rested.{Attached, Rested, attached_of, is_loud_in}
use Rattle.command_semantics.specs.State.{Volume}
use Rattle.command_semantics.specs.Mapping.{map_at_place, pairs_text, snapshot_map}
use Rattle.command_semantics.specs.Messages.{snap_at}
use Rattle.device_list.specs.Held.{settled_in}
use Rattle.device_list.specs.Mapping.{kept_map, kept_map_if}
use Rattle.device_list.proofs.Places.{at_place, stack_snap}
use Rattle.device_list.proofs.Statuses.{attached_there, inside, kept_there}

-- the pair of a chunk that has none, and of one that has one
pub none_taken : (text : List ℕ) (run : Option Run) (place : Option ℕ) (c : ℕ) → place ≡ None → (rest : List Pair) → text ++ runs_after run rest ≡ text ++ runs_after run (pair_at c place ++ rest)
none_taken text run place c none rest = rw none refl

pub some_taken : (old new : List ℕ) (before after : Option Run) (place : Option ℕ) (c p : ℕ) → place ≡ Some p
    → ((pairs : List Pair) → new ++ runs_after after pairs ≡ old ++ runs_after before (record { old = c; new = p } ∷ pairs))
    → (rest : List Pair) → new ++ runs_after after rest ≡ old ++ runs_after before (pair_at c place ++ rest)
some_taken old new before after place c p some taken rest = rw some (taken rest)

-- The chunks of an origin are looked at one after the other,
left : (c n : ℕ) → c < n → n - c ≡ suc (n - (c + 1))
left c n lt = omega (arith, lt)

pub next_chunk : (old mid new : List ℕ) (before after : Option Run) (place : ℕ → Option ℕ) (c n : ℕ) → c < n
    → ((rest : List Pair) → new ++ runs_after after rest ≡ mid ++ runs_after before (pair_at c (place c) ++ rest))
    → mid ++ runs_after before (pairs_from place c (n - c)) ≡ old ++ runs_after None (pairs_from place 0 n)
    → new ++ runs_after after (pairs_from place (c + 1) (n - (c + 1))) ≡ old ++ runs_after None (pairs_from place 0 n)
next_chunk old mid new before after place c n lt taken told =
    let rest = pairs_from place (c + 1) (n - (c + 1)) in
    let cut : pairs_from place c (n - c) ≡ pair_at c (place c) ++ rest = ap (pairs_from place c) (left c n lt) in
    taken rest ∙ ap (λ (ps : List Pair). mid ++ runs_after before ps) (sym cut) ∙ told

-- and none is left.
pub no_more : (old mid new : List ℕ) (run : Option Run) (place : ℕ → Option ℕ) (c n : ℕ) → n ≤ c
    → mid ++ runs_after run (pairs_from place c (n - c)) ≡ old ++ runs_after None (pairs_from place 0 n)
    → new ≡ mid ++ runs_after run [] → new ≡ old ++ runs_after None (pairs_from place 0 n)
no_more old mid new run place c n all told ended =
    let none : n - c ≡ zero = omega (arith, all) in
    let cut : pairs_from place c (n - c) ≡ [] = ap (pairs_from place c) none in
    ended ∙ ap (λ (ps : List Pair). mid ++ runs_after run ps) (sym cut) ∙ told

-- a snapshot that callers see is one of the volume of events
pub within_events : (volume : Rested Stack) (k : ℕ) (snaps : List (Kept Stack)) → IsWhole volume → snaps ≡ volume.events.snaps → k < length volume.snaps → k < length snaps
within_events volume k snaps whole same lt = subst (λ (xs : List (Kept Stack)). k < length xs) (sym same) (inside volume whole k lt)

-- one that is spoiled, and one that is live
pub dead_told : (s : Kept Stack) (sectors : ℕ) → false ≡ s.live → kept_map sectors s ≡ Err Invalid
dead_told s sectors dead = rw (sym dead) refl

pub live_told : (s : Kept Stack) (sectors : ℕ) (text : List ℕ) → true ≡ s.live → text ≡ pairs_text sectors s.state.chunk s.pairs → kept_map sectors s ≡ Ok text
live_told s sectors text live is = rw (sym live) (ap (λ (t : List ℕ). Ok t) (sym is))

-- where no device of a volume drops writes, the store of no snapshot does
with_loud : (merge : Option (Merging Stack)) (others : Bool) → is_loud_with stack_layers merge others ≡ true → others ≡ true
with_loud None others loud = loud
with_loud (Some m) others loud = (and-split others (is_loud (stack_layers m.device)) loud).0

abbrev is_loud_store : Attached Stack → Bool
is_loud_store s = is_loud (stack_layers s.store)

loud_there : (xs : List (Attached Stack)) (k : ℕ) (s : Attached Stack) → list_all is_loud_store xs ≡ true → k < length xs → ((d : Attached Stack) → get_or xs k d ≡ s) → is_loud_store s ≡ true
loud_there [] k s all lt at = absurd (omega (arith, lt))
loud_there (x ∷ xs) zero s all lt at = ap is_loud_store (sym (at s)) ∙ (and-split (is_loud_store x) (list_all is_loud_store xs) all).0
loud_there (x ∷ xs) (suc k) s all lt at = loud_there xs k s (and-split (is_loud_store x) (list_all is_loud_store xs) all).1 (omega (arith, lt)) at

module _ (volume : Rested Stack) (whole : IsWhole volume) (k : ℕ) (within : k < length volume.snaps) (s : Kept Stack) (of : (d : Kept Stack) → s ≡ get_or volume.events.snaps k d) where
  abbrev kept : Kept Stack
  kept = (kept_there volume whole k within).0

  same : s ≡ kept
  same = of s ∙ (kept_there volume whole k within).1 s

  pub loud_kept : is_loud_in stack_layers volume ≡ true → is_loud (stack_layers s.device) ≡ true
  loud_kept loud =
      let others : (is_loud (stack_layers volume.origin) && list_all is_loud_store volume.snaps) ≡ true = with_loud volume.events.merge _ loud in
      let all = (and-split (is_loud (stack_layers volume.origin)) (list_all is_loud_store volume.snaps) others).1 in
      ap (λ (x : Kept Stack). is_loud (stack_layers x.device)) same ∙ loud_there volume.snaps k (attached_of kept) all within (attached_there volume whole k within)

  -- by the bytes of its store
  pub stored_told : (r : Result (List ℕ) Refusal) (sectors : ℕ) (seen : Volume) → seen.state ≡ settled_in volume → sectors ≡ size_of seen.state.origin
      → pairs_of s.state.chunk (stack_contents s.device) ≡ s.pairs → Gives r (kept_map sectors s) → Gives r (map_at_place k seen)
  unfolding map_at_place
  stored_told r sectors seen in_state size stored told =
      let by_bytes : Gives r (snapshot_map sectors s.live s.state.chunk (pairs_of s.state.chunk (stack_contents s.device))) = subst (λ (ps : List Pair). Gives r (snapshot_map sectors s.live s.state.chunk ps)) (sym stored) told in
      let at = at_place volume k within in
      let one : at.0 ≡ attached_of kept = sym (at.1.is at.0) ∙ attached_there volume whole k within at.0 in
      let there : snap_at k seen.state ≡ Ok (stack_snap (attached_of kept)) = ap (snap_at k) in_state ∙ at.1.seen ∙ ap (λ (x : Attached Stack). Ok (stack_snap x)) one in
      rw there (rw (sym size) (subst (λ (x : Kept Stack). Gives r (snapshot_map sectors x.live x.state.chunk (pairs_of x.state.chunk (stack_contents x.device)))) same by_bytes))

  -- by what is in memory
  pub kept_told : (r : Result (List ℕ) Refusal) (sectors : ℕ) (origin : Device) → sectors ≡ size_of origin
      → Gives r (kept_map sectors s) → Gives r (kept_map_if (size_of origin) (slice_get volume.events.snaps k))
  kept_told r sectors origin size told =
      let is : slice_get volume.events.snaps k ≡ Some kept = slice_get_read volume.events.snaps (length volume.events.snaps) k kept refl (inside volume whole k within) (sym ((kept_there volume whole k within).1 kept)) in
      rw is (rw (sym size) (subst (λ (x : Kept Stack). Gives r (kept_map sectors x)) same told))
