-- The layers of the stores of a volume that are added to a trace one after the other.
use Rattle.std.proofs.Common.{◌≡◌, ℕ, ◌+◌, ◌<◌, ◌≤◌, List, [], ◌++◌, length, drop, get_or, false, append_assoc, sym, ap, ◌∙◌}
use Rattle.std.specs.Prelude.{Ok, Result}
use Rattle.std.proofs.lemmas.List.{append-nil, drop_all, drop_more}
use Rattle.sector.specs.declared.refusal.Refusal.{Refusal}
use Rattle.layers.specs.declared.stack.Stack.{Stack}
use Rattle.whole_commands.specs.Devices.{Device}
use Rattle.whole_commands.specs.Snaps.{Snap}
use Rattle.volume_commands.specs.Rested.{Rested}
use Rattle.command_semantics.specs.Messages.{snap_at}
use Rattle.command_semantics.specs.State.{Names, Volume}
use Rattle.volume_trace.specs.Layers.{layers_text}
use Rattle.device_list.specs.Held.{settled_in}
use Rattle.device_list.specs.Layers.{snapshot_layers, store_layers, stores_from}
use Rattle.device_list.proofs.Places.{at_place, stack_snap}

-- those of the store of a snapshot that is there
pub store_told : (old new : List ℕ) (k : ℕ) (names other : Names) (store : List (List ℕ)) (device : Device) (volume : Volume) (before : Rested Stack) → volume.state ≡ settled_in before → k < length before.snaps → ((d : Snap) → device ≡ (get_or (settled_in before).snaps k d).store)
    → names ≡ other → store ≡ names.store → new ≡ old ++ layers_text device.layers store → new ≡ old ++ snapshot_layers k other volume
unfolding snapshot_layers
store_told old new k names other store device volume before in_state lt of same named added =
    let at = at_place before k lt in
    let seen : snap_at k volume.state ≡ Ok (stack_snap at.0) = ap (snap_at k) in_state ∙ at.1.seen in
    let kept : device ≡ (stack_snap at.0).store = of (stack_snap at.0) ∙ ap (λ (s : Snap). s.store) (at.1.held (stack_snap at.0)) in
    let told : store_layers names (snap_at k volume.state) ≡ layers_text device.layers names.store =
    ap (λ (r : Result Snap Refusal). store_layers names r) seen ∙ ap (λ (x : Device). layers_text x.layers names.store) (sym kept) in
    added ∙ ap (λ (ns : List (List ℕ)). old ++ layers_text device.layers ns) named ∙ ap (λ x. old ++ x) (sym told ∙ ap (λ (n : Names). store_layers n (snap_at k volume.state)) same)

no_names : Names
no_names = record { snapshot = []; store = []; overflow = false }

-- one store more
pub next_store : (old mid new : List ℕ) (snaps : List Names) (volume : Volume) (k : ℕ) → k < length snaps
    → mid ++ stores_from k (drop k snaps) volume ≡ old ++ stores_from 0 snaps volume
    → ((d : Names) → new ≡ mid ++ snapshot_layers k (get_or snaps k d) volume)
    → new ++ stores_from (k + 1) (drop (k + 1) snaps) volume ≡ old ++ stores_from 0 snaps volume
next_store old mid new snaps volume k lt told added =
    let items = snapshot_layers k (get_or snaps k no_names) volume in
    let rest = stores_from (k + 1) (drop (k + 1) snaps) volume in
    ap (λ x. x ++ rest) (added no_names) ∙ append_assoc mid items rest ∙ ap (λ (ns : List Names). mid ++ stores_from k ns volume) (sym (drop_more snaps k no_names lt)) ∙ told

-- and no more
pub no_store : (old new : List ℕ) (snaps : List Names) (volume : Volume) (k : ℕ) → length snaps ≤ k
    → new ++ stores_from k (drop k snaps) volume ≡ old ++ stores_from 0 snaps volume → new ≡ old ++ stores_from 0 snaps volume
no_store old new snaps volume k all told =
    sym (ap (λ (ns : List Names). new ++ stores_from k ns volume) (drop_all k snaps all) ∙ append-nil new) ∙ told
