-- The snapshots of a volume that are added to a list one after the other.
use Rattle.std.proofs.Common.{◌≡◌, ℕ, ◌+◌, ◌<◌, ◌≤◌, false, List, [], ◌++◌, length, drop, get_or, append_assoc, sym, ap, ◌∙◌}
use Rattle.std.specs.Prelude.{Ok, Result}
use Rattle.std.proofs.lemmas.List.{append-nil, drop_all, drop_more}
use Rattle.sector.specs.declared.refusal.Refusal.{Refusal}
use Rattle.layers.specs.declared.stack.Stack.{Stack}
use Rattle.whole_commands.specs.Devices.{Device}
use Rattle.whole_commands.specs.Snaps.{Snap}
use Rattle.table.specs.declared.lines.Line.{Line}
use Rattle.volume_commands.specs.Rested.{Attached, Rested}
use Rattle.command_semantics.specs.Lines.{snapshot_line}
use Rattle.command_semantics.specs.Listing.{device_item, snapshot_items, snapshots_from, stack_items, store_items}
use Rattle.command_semantics.specs.Messages.{snap_at}
use Rattle.command_semantics.specs.State.{Names, Volume}
use Rattle.device_list.specs.Held.{settled_in}
use Rattle.device_list.proofs.Places.{at_place, stack_snap}

-- the store of a snapshot that is there
store_told : (k : ℕ) (names : Names) (device : Device) (volume : Volume) (before : Rested Stack) → volume.state ≡ settled_in before → k < length before.snaps → ((d : Snap) → device ≡ (get_or (settled_in before).snaps k d).store)
    → store_items names (snap_at k volume.state) ≡ stack_items names.store device
store_told k names device volume before in_state lt of =
    let at = at_place before k lt in
    let seen : snap_at k volume.state ≡ Ok (stack_snap at.0) = ap (snap_at k) in_state ∙ at.1.seen in
    let same : device ≡ (stack_snap at.0).store = of (stack_snap at.0) ∙ ap (λ (s : Snap). s.store) (at.1.held (stack_snap at.0)) in
    ap (λ (r : Result Snap Refusal). store_items names r) seen ∙ ap (λ (x : Device). stack_items names.store x) (sym same)

-- a snapshot by its name and its line, and its store
pub snapshot_told : (old new : List ℕ) (k : ℕ) (names other : Names) (line : Result Line Refusal) (device : Device) (volume : Volume) (before : Rested Stack) → volume.state ≡ settled_in before → k < length before.snaps → ((d : Snap) → device ≡ (get_or (settled_in before).snaps k d).store)
    → names ≡ other → line ≡ snapshot_line k volume → new ≡ old ++ (device_item names.snapshot line ++ stack_items names.store device) → new ≡ old ++ snapshot_items k other volume
unfolding snapshot_items
snapshot_told old new k names other line device volume before in_state lt of same lined added =
    let stored = store_told k names device volume before in_state lt of in
    let first = ap (λ (r : Result Line Refusal). device_item names.snapshot r ++ stack_items names.store device) lined in
    let then = ap (λ x. device_item names.snapshot (snapshot_line k volume) ++ x) (sym stored) in
    added ∙ ap (λ x. old ++ x) (first ∙ then ∙ ap (λ (n : Names). snapshot_items k n volume) same)

no_names : Names
no_names = record { snapshot = []; store = []; overflow = false }

-- one snapshot more
pub next_snapshot : (old mid new : List ℕ) (snaps : List Names) (volume : Volume) (k : ℕ) → k < length snaps
    → mid ++ snapshots_from k (drop k snaps) volume ≡ old ++ snapshots_from 0 snaps volume
    → ((d : Names) → new ≡ mid ++ snapshot_items k (get_or snaps k d) volume)
    → new ++ snapshots_from (k + 1) (drop (k + 1) snaps) volume ≡ old ++ snapshots_from 0 snaps volume
next_snapshot old mid new snaps volume k lt told added =
    let items = snapshot_items k (get_or snaps k no_names) volume in
    let rest = snapshots_from (k + 1) (drop (k + 1) snaps) volume in
    ap (λ x. x ++ rest) (added no_names) ∙ append_assoc mid items rest ∙ ap (λ (ns : List Names). mid ++ snapshots_from k ns volume) (sym (drop_more snaps k no_names lt)) ∙ told

-- and no more
pub no_snapshot : (old new : List ℕ) (snaps : List Names) (volume : Volume) (k : ℕ) → length snaps ≤ k
    → new ++ snapshots_from k (drop k snaps) volume ≡ old ++ snapshots_from 0 snaps volume → new ≡ old ++ snapshots_from 0 snaps volume
no_snapshot old new snaps volume k all told =
    sym (ap (λ (ns : List Names). new ++ snapshots_from k ns volume) (drop_all k snaps all) ∙ append-nil new) ∙ told
