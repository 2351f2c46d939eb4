-- A volume at rest is at rest when time has passed, or a message has changed layers.
use Rattle.std.proofs.Common.{ℕ, List, [], ◌∷◌, map}
use Rattle.device.specs.Layers.{Layer}
use Rattle.event_machine.specs.Held.{SnapHeld, Moving, with_store}
use Rattle.whole_commands.specs.Moments.{relayered}
use Rattle.event_machine.specs.Rest.{IsResting, IsAtRest}
use Rattle.whole_commands.proofs.Each.{Each, each_from, all_from}

rests_relayered : (sectors : ℕ) (f : List Layer → List Layer) (h : SnapHeld) → IsResting sectors h → IsResting sectors (with_store h (relayered f h.snap.store))
rests_relayered sectors f h rest = record {
  tried = rest.tried;
  copies = rest.copies;
  marks = rest.marks;
  live = λ live. (let kept = rest.live live in record { order = kept.order; pairs = kept.pairs; next = kept.next; zeroed = kept.zeroed; firm = kept.firm; unmarked = kept.unmarked });
}

all_rest : (sectors : ℕ) (f : List Layer → List Layer) (snaps : List SnapHeld) → Each (IsResting sectors) snaps → Each (IsResting sectors) (map (λ h. with_store h (relayered f h.snap.store)) snaps)
all_rest sectors f [] all = tt
all_rest sectors f (h ∷ snaps) all = (rests_relayered sectors f h all.0, all_rest sectors f snaps all.1)

-- time passes for every device of the volume
pub ticked_rests : (sectors : ℕ) (f : List Layer → List Layer) (v : Moving) → IsAtRest sectors v → IsAtRest sectors (record v { origin = relayered f v.origin; snaps = map (λ h. with_store h (relayered f h.snap.store)) v.snaps })
ticked_rests sectors f v rest = record {
  whole = rest.whole;
  snaps = all_from (IsResting sectors) (map (λ h. with_store h (relayered f h.snap.store)) v.snaps) (all_rest sectors f v.snaps (each_from (IsResting sectors) v.snaps rest.snaps));
  requests = rest.requests;
  alone = rest.alone;
}
