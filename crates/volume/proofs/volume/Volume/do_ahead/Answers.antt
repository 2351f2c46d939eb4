-- One device did something ahead, or none did: the volume is whole, and what is seen of it stays.
use Rattle.std.proofs.Common.{◌≡◌, ℕ, ◌<◌, true, false, List, length, get_or, ◌∙◌, ap, subst, sym}
use Rattle.snapshot.specs.Kept.{Kept}
use Rattle.volume.specs.DoesAhead.{IsSnapAhead}
use Rattle.volume.specs.Volumed.{Volumed}
use Rattle.volume.proofs.Aheads.{none_does, origin_does, origin_keeps, snaps_does, snaps_keeps, merge_does, merge_keeps}
use Rattle.device.specs.CanDoAhead.{CanDoAhead}
use Rattle.device.specs.declared.operation.Operation.{Operation}
use Rattle.volume.specs.Asks.{Asks, Tells}
use Rattle.volume.specs.declared.ahead.Ask.{Ask}
use Rattle.volume.proofs.AsksTold.{nobody_told, many_told, origin_told, store_told, merging_told, none_fresh, store_fresh, many_sure, origin_sure, store_sure, merging_sure}
use Rattle.volume.proofs.Finishes.{back}
use Rattle.volume.proofs.volume.Volume.do_ahead.Goals as goal

pub invariant_of-self : goal.invariant_of-self
invariant_of-self g c =
    let v : Volumed g.row.B.Denot = record { origin = c.self.inside.origin; snaps = c.self.inside.snaps.items; merge = c.self.inside.merge; flights = c.self.inside.flights.items; requests = c.self.inside.requests; copies = c.self.inside.copies; attached = c.self.inside.attached } in
    origin_keeps g.B.Block.may_hold g.B.Block.contents g.B.Block.layers g.B.Block.size g.B.Block.fault_count g.B.Block.done_count g.met.B.Block.whole v c.do_ahead.new.device c.do_ahead.ensures.does c.self.invariant

pub invariant_of-self-in-Store : goal.invariant_of-self-in-Store
invariant_of-self-in-Store g c =
    let v : Volumed g.row.B.Denot = record { origin = c.self.inside.origin; snaps = c.self.inside.snaps.items; merge = c.self.inside.merge; flights = c.self.inside.flights.items; requests = c.self.inside.requests; copies = c.self.inside.copies; attached = c.self.inside.attached } in
    let len : length c.snap_ahead.new.snaps ≡ c.self.inside.snaps.len = c.snap_ahead.ensures.count ∙ c.as_mut_slice.ensures.len in
    let count : length c.snap_ahead.new.snaps ≡ length c.self.inside.snaps.items = c.snap_ahead.ensures.count ∙ ap length c.as_mut_slice.ensures.value in
    let there = back c.self.inside.snaps.len c.snap_ahead.new.snaps c.self.inside.snaps.items len in
    let each : (k : ℕ) (d : Kept g.row.B.Denot) → k < length c.self.inside.snaps.items → IsSnapAhead g.B.Block.may_hold g.B.Block.contents g.B.Block.layers g.B.Block.size g.B.Block.fault_count g.B.Block.done_count (get_or c.self.inside.snaps.items k d) (get_or c.snap_ahead.new.snaps k d) =
    subst (λ (xs : List (Kept g.row.B.Denot)). (k : ℕ) (d : Kept g.row.B.Denot) → k < length xs → IsSnapAhead g.B.Block.may_hold g.B.Block.contents g.B.Block.layers g.B.Block.size g.B.Block.fault_count g.B.Block.done_count (get_or xs k d) (get_or c.snap_ahead.new.snaps k d)) c.as_mut_slice.ensures.value c.snap_ahead.ensures.each in
    rw (there) (snaps_keeps g.B.Block.may_hold g.B.Block.contents g.B.Block.layers g.B.Block.size g.B.Block.fault_count g.B.Block.done_count g.met.B.Block.whole v c.snap_ahead.new.snaps count each c.self.invariant)

pub invariant_of-self-in-Merging : goal.invariant_of-self-in-Merging
invariant_of-self-in-Merging g c =
    let v : Volumed g.row.B.Denot = record { origin = c.self.inside.origin; snaps = c.self.inside.snaps.items; merge = c.self.inside.merge; flights = c.self.inside.flights.items; requests = c.self.inside.requests; copies = c.self.inside.copies; attached = c.self.inside.attached } in
    merge_keeps g.B.Block.may_hold g.B.Block.contents g.B.Block.layers g.B.Block.size g.B.Block.fault_count g.B.Block.done_count g.met.B.Block.whole v c.merge_ahead.new.merge c.merge_ahead.ensures.does c.self.invariant

pub returns-in-Origin-clause-does : goal.returns-in-Origin-clause-does
returns-in-Origin-clause-does g c =
    let v : Volumed g.row.B.Denot = record { origin = c.self.inside.origin; snaps = c.self.inside.snaps.items; merge = c.self.inside.merge; flights = c.self.inside.flights.items; requests = c.self.inside.requests; copies = c.self.inside.copies; attached = c.self.inside.attached } in
    rw (← c.self.view_is) (origin_does g.B.Block.may_hold g.B.Block.contents g.B.Block.layers g.B.Block.size g.B.Block.fault_count g.B.Block.done_count g.met.B.Block.whole v c.do_ahead.new.device c.do_ahead.ensures.does)

pub returns-in-Store-clause-does : goal.returns-in-Store-clause-does
returns-in-Store-clause-does g c =
    let v : Volumed g.row.B.Denot = record { origin = c.self.inside.origin; snaps = c.self.inside.snaps.items; merge = c.self.inside.merge; flights = c.self.inside.flights.items; requests = c.self.inside.requests; copies = c.self.inside.copies; attached = c.self.inside.attached } in
    let len : length c.snap_ahead.new.snaps ≡ c.self.inside.snaps.len = c.snap_ahead.ensures.count ∙ c.as_mut_slice.ensures.len in
    let count : length c.snap_ahead.new.snaps ≡ length c.self.inside.snaps.items = c.snap_ahead.ensures.count ∙ ap length c.as_mut_slice.ensures.value in
    let there = back c.self.inside.snaps.len c.snap_ahead.new.snaps c.self.inside.snaps.items len in
    let each : (k : ℕ) (d : Kept g.row.B.Denot) → k < length c.self.inside.snaps.items → IsSnapAhead g.B.Block.may_hold g.B.Block.contents g.B.Block.layers g.B.Block.size g.B.Block.fault_count g.B.Block.done_count (get_or c.self.inside.snaps.items k d) (get_or c.snap_ahead.new.snaps k d) =
    subst (λ (xs : List (Kept g.row.B.Denot)). (k : ℕ) (d : Kept g.row.B.Denot) → k < length xs → IsSnapAhead g.B.Block.may_hold g.B.Block.contents g.B.Block.layers g.B.Block.size g.B.Block.fault_count g.B.Block.done_count (get_or xs k d) (get_or c.snap_ahead.new.snaps k d)) c.as_mut_slice.ensures.value c.snap_ahead.ensures.each in
    rw (← c.self.view_is, there) (snaps_does g.B.Block.may_hold g.B.Block.contents g.B.Block.layers g.B.Block.size g.B.Block.fault_count g.B.Block.done_count g.met.B.Block.whole v c.snap_ahead.new.snaps count each)

pub returns-in-Merging-clause-does : goal.returns-in-Merging-clause-does
returns-in-Merging-clause-does g c =
    let v : Volumed g.row.B.Denot = record { origin = c.self.inside.origin; snaps = c.self.inside.snaps.items; merge = c.self.inside.merge; flights = c.self.inside.flights.items; requests = c.self.inside.requests; copies = c.self.inside.copies; attached = c.self.inside.attached } in
    rw (← c.self.view_is) (merge_does g.B.Block.may_hold g.B.Block.contents g.B.Block.layers g.B.Block.size g.B.Block.fault_count g.B.Block.done_count g.met.B.Block.whole v c.merge_ahead.new.merge c.merge_ahead.ensures.does)

pub returns-in-Origin-clause-told : goal.returns-in-Origin-clause-told
returns-in-Origin-clause-told g c = λ due.
    (let v : Volumed g.row.B.Denot = record { origin = c.self.inside.origin; snaps = c.self.inside.snaps.items; merge = c.self.inside.merge; flights = c.self.inside.flights.items; requests = c.self.inside.requests; copies = c.self.inside.copies; attached = c.self.inside.attached } in
    let does = origin_does g.B.Block.may_hold g.B.Block.contents g.B.Block.layers g.B.Block.size g.B.Block.fault_count g.B.Block.done_count g.met.B.Block.whole v c.do_ahead.new.device c.do_ahead.ensures.does in
    let asks : Asks g.B.Block.may_hold g.B.Block.contents g.B.Block.layers g.B.Block.size g.B.Block.fault_count g.B.Block.done_count c.args.event c.asked_by.result v = subst (λ (x : Volumed g.row.B.Denot). Asks g.B.Block.may_hold g.B.Block.contents g.B.Block.layers g.B.Block.size g.B.Block.fault_count g.B.Block.done_count c.args.event c.asked_by.result x) (sym c.self.view_is) (c.asked_by.ensures due) in
    origin_told g.B.Block.may_hold g.B.Block.contents g.B.Block.layers g.B.Block.size g.B.Block.fault_count g.B.Block.done_count v (record v { origin = c.do_ahead.new.device }) does.devices c.args.event c.in-Origin.operation (subst (λ (x : Ask). Asks g.B.Block.may_hold g.B.Block.contents g.B.Block.layers g.B.Block.size g.B.Block.fault_count g.B.Block.done_count c.args.event x v) c.in-Origin.is asks) c.do_ahead.result c.do_ahead.ensures.told c.do_ahead.ensures.writes)

pub returns-in-Store-clause-told : goal.returns-in-Store-clause-told
returns-in-Store-clause-told g c =
    let v : Volumed g.row.B.Denot = record { origin = c.self.inside.origin; snaps = c.self.inside.snaps.items; merge = c.self.inside.merge; flights = c.self.inside.flights.items; requests = c.self.inside.requests; copies = c.self.inside.copies; attached = c.self.inside.attached } in
    let len : length c.snap_ahead.new.snaps ≡ c.self.inside.snaps.len = c.snap_ahead.ensures.count ∙ c.as_mut_slice.ensures.len in
    let count : length c.snap_ahead.new.snaps ≡ length c.self.inside.snaps.items = c.snap_ahead.ensures.count ∙ ap length c.as_mut_slice.ensures.value in
    let there = back c.self.inside.snaps.len c.snap_ahead.new.snaps c.self.inside.snaps.items len in
    let each : (k : ℕ) (d : Kept g.row.B.Denot) → k < length c.self.inside.snaps.items → IsSnapAhead g.B.Block.may_hold g.B.Block.contents g.B.Block.layers g.B.Block.size g.B.Block.fault_count g.B.Block.done_count (get_or c.self.inside.snaps.items k d) (get_or c.snap_ahead.new.snaps k d) =
    subst (λ (xs : List (Kept g.row.B.Denot)). (k : ℕ) (d : Kept g.row.B.Denot) → k < length xs → IsSnapAhead g.B.Block.may_hold g.B.Block.contents g.B.Block.layers g.B.Block.size g.B.Block.fault_count g.B.Block.done_count (get_or xs k d) (get_or c.snap_ahead.new.snaps k d)) c.as_mut_slice.ensures.value c.snap_ahead.ensures.each in
    let does = snaps_does g.B.Block.may_hold g.B.Block.contents g.B.Block.layers g.B.Block.size g.B.Block.fault_count g.B.Block.done_count g.met.B.Block.whole v c.snap_ahead.new.snaps count each in
    let op : Operation = c.in-Store.operation in
    let tells : (s : Kept g.row.B.Denot) → c.in-Store.place < length v.snaps → CanDoAhead (g.B.Block.size (get_or v.snaps c.in-Store.place s).device) op → Tells op (g.B.Block.layers (get_or c.snap_ahead.new.snaps c.in-Store.place s).device) c.snap_ahead.result =
    subst (λ (xs : List (Kept g.row.B.Denot)). (s : Kept g.row.B.Denot) → c.in-Store.place < length xs → CanDoAhead (g.B.Block.size (get_or xs c.in-Store.place s).device) op → Tells op (g.B.Block.layers (get_or c.snap_ahead.new.snaps c.in-Store.place s).device) c.snap_ahead.result) c.as_mut_slice.ensures.value c.snap_ahead.ensures.told in
    rw (there) (λ due.
    (let asks : Asks g.B.Block.may_hold g.B.Block.contents g.B.Block.layers g.B.Block.size g.B.Block.fault_count g.B.Block.done_count c.args.event c.asked_by.result v = subst (λ (x : Volumed g.row.B.Denot). Asks g.B.Block.may_hold g.B.Block.contents g.B.Block.layers g.B.Block.size g.B.Block.fault_count g.B.Block.done_count c.args.event c.asked_by.result x) (sym c.self.view_is) (c.asked_by.ensures due) in
    store_told g.B.Block.may_hold g.B.Block.contents g.B.Block.layers g.B.Block.size g.B.Block.fault_count g.B.Block.done_count v (record v { snaps = c.snap_ahead.new.snaps }) does.devices c.args.event c.in-Store.place op (subst (λ (x : Ask). Asks g.B.Block.may_hold g.B.Block.contents g.B.Block.layers g.B.Block.size g.B.Block.fault_count g.B.Block.done_count c.args.event x v) c.in-Store.is asks) c.snap_ahead.result tells))

pub returns-in-Merging-clause-told : goal.returns-in-Merging-clause-told
returns-in-Merging-clause-told g c = λ due.
    (let v : Volumed g.row.B.Denot = record { origin = c.self.inside.origin; snaps = c.self.inside.snaps.items; merge = c.self.inside.merge; flights = c.self.inside.flights.items; requests = c.self.inside.requests; copies = c.self.inside.copies; attached = c.self.inside.attached } in
    let does = merge_does g.B.Block.may_hold g.B.Block.contents g.B.Block.layers g.B.Block.size g.B.Block.fault_count g.B.Block.done_count g.met.B.Block.whole v c.merge_ahead.new.merge c.merge_ahead.ensures.does in
    let asks : Asks g.B.Block.may_hold g.B.Block.contents g.B.Block.layers g.B.Block.size g.B.Block.fault_count g.B.Block.done_count c.args.event c.asked_by.result v = subst (λ (x : Volumed g.row.B.Denot). Asks g.B.Block.may_hold g.B.Block.contents g.B.Block.layers g.B.Block.size g.B.Block.fault_count g.B.Block.done_count c.args.event c.asked_by.result x) (sym c.self.view_is) (c.asked_by.ensures due) in
    merging_told g.B.Block.may_hold g.B.Block.contents g.B.Block.layers g.B.Block.size g.B.Block.fault_count g.B.Block.done_count v (record v { merge = c.merge_ahead.new.merge }) does.devices c.args.event c.in-Merging.operation (subst (λ (x : Ask). Asks g.B.Block.may_hold g.B.Block.contents g.B.Block.layers g.B.Block.size g.B.Block.fault_count g.B.Block.done_count c.args.event x v) c.in-Merging.is asks) c.merge_ahead.result c.merge_ahead.ensures.told)

pub returns-in-Nobody-clause-told : goal.returns-in-Nobody-clause-told
returns-in-Nobody-clause-told g c = λ due.
    nobody_told g.B.Block.may_hold g.B.Block.contents g.B.Block.layers g.B.Block.size g.B.Block.fault_count g.B.Block.done_count c.args.self.now c.args.self.now (none_does g.B.Block.may_hold g.B.Block.contents g.B.Block.layers g.B.Block.size g.B.Block.fault_count g.B.Block.done_count g.met.B.Block.whole c.args.self.now).devices c.args.event (subst (λ (x : Ask). Asks g.B.Block.may_hold g.B.Block.contents g.B.Block.layers g.B.Block.size g.B.Block.fault_count g.B.Block.done_count c.args.event x c.args.self.now) c.in-Nobody.is (c.asked_by.ensures due))

pub returns-in-TooMany-clause-told : goal.returns-in-TooMany-clause-told
returns-in-TooMany-clause-told g c = λ due.
    many_told g.B.Block.may_hold g.B.Block.contents g.B.Block.layers g.B.Block.size g.B.Block.fault_count g.B.Block.done_count c.args.self.now c.args.self.now (none_does g.B.Block.may_hold g.B.Block.contents g.B.Block.layers g.B.Block.size g.B.Block.fault_count g.B.Block.done_count g.met.B.Block.whole c.args.self.now).devices c.args.event (subst (λ (x : Ask). Asks g.B.Block.may_hold g.B.Block.contents g.B.Block.layers g.B.Block.size g.B.Block.fault_count g.B.Block.done_count c.args.event x c.args.self.now) c.in-TooMany.is (c.asked_by.ensures due))

pub returns-in-Origin-clause-fresh : goal.returns-in-Origin-clause-fresh
returns-in-Origin-clause-fresh g c = λ due.
    (let v : Volumed g.row.B.Denot = record { origin = c.self.inside.origin; snaps = c.self.inside.snaps.items; merge = c.self.inside.merge; flights = c.self.inside.flights.items; requests = c.self.inside.requests; copies = c.self.inside.copies; attached = c.self.inside.attached } in
    let does = origin_does g.B.Block.may_hold g.B.Block.contents g.B.Block.layers g.B.Block.size g.B.Block.fault_count g.B.Block.done_count g.met.B.Block.whole v c.do_ahead.new.device c.do_ahead.ensures.does in
    let asks : Asks g.B.Block.may_hold g.B.Block.contents g.B.Block.layers g.B.Block.size g.B.Block.fault_count g.B.Block.done_count c.args.event c.asked_by.result v = subst (λ (x : Volumed g.row.B.Denot). Asks g.B.Block.may_hold g.B.Block.contents g.B.Block.layers g.B.Block.size g.B.Block.fault_count g.B.Block.done_count c.args.event c.asked_by.result x) (sym c.self.view_is) (c.asked_by.ensures due) in
    none_fresh g.B.Block.may_hold g.B.Block.contents g.B.Block.layers g.B.Block.size g.B.Block.fault_count g.B.Block.done_count v (record v { origin = c.do_ahead.new.device }) does.devices c.args.event c.args.event (subst (λ (x : Ask). Asks g.B.Block.may_hold g.B.Block.contents g.B.Block.layers g.B.Block.size g.B.Block.fault_count g.B.Block.done_count c.args.event x v) c.in-Origin.is asks).0)

pub returns-in-Merging-clause-fresh : goal.returns-in-Merging-clause-fresh
returns-in-Merging-clause-fresh g c = λ due.
    (let v : Volumed g.row.B.Denot = record { origin = c.self.inside.origin; snaps = c.self.inside.snaps.items; merge = c.self.inside.merge; flights = c.self.inside.flights.items; requests = c.self.inside.requests; copies = c.self.inside.copies; attached = c.self.inside.attached } in
    let does = merge_does g.B.Block.may_hold g.B.Block.contents g.B.Block.layers g.B.Block.size g.B.Block.fault_count g.B.Block.done_count g.met.B.Block.whole v c.merge_ahead.new.merge c.merge_ahead.ensures.does in
    let asks : Asks g.B.Block.may_hold g.B.Block.contents g.B.Block.layers g.B.Block.size g.B.Block.fault_count g.B.Block.done_count c.args.event c.asked_by.result v = subst (λ (x : Volumed g.row.B.Denot). Asks g.B.Block.may_hold g.B.Block.contents g.B.Block.layers g.B.Block.size g.B.Block.fault_count g.B.Block.done_count c.args.event c.asked_by.result x) (sym c.self.view_is) (c.asked_by.ensures due) in
    none_fresh g.B.Block.may_hold g.B.Block.contents g.B.Block.layers g.B.Block.size g.B.Block.fault_count g.B.Block.done_count v (record v { merge = c.merge_ahead.new.merge }) does.devices c.args.event c.args.event (subst (λ (x : Ask). Asks g.B.Block.may_hold g.B.Block.contents g.B.Block.layers g.B.Block.size g.B.Block.fault_count g.B.Block.done_count c.args.event x v) c.in-Merging.is asks).0)

pub returns-in-Nobody-clause-fresh : goal.returns-in-Nobody-clause-fresh
returns-in-Nobody-clause-fresh g c = λ due.
    none_fresh g.B.Block.may_hold g.B.Block.contents g.B.Block.layers g.B.Block.size g.B.Block.fault_count g.B.Block.done_count c.args.self.now c.args.self.now (none_does g.B.Block.may_hold g.B.Block.contents g.B.Block.layers g.B.Block.size g.B.Block.fault_count g.B.Block.done_count g.met.B.Block.whole c.args.self.now).devices c.args.event c.args.event (subst (λ (x : Ask). Asks g.B.Block.may_hold g.B.Block.contents g.B.Block.layers g.B.Block.size g.B.Block.fault_count g.B.Block.done_count c.args.event x c.args.self.now) c.in-Nobody.is (c.asked_by.ensures due)).0

pub returns-in-TooMany-clause-fresh : goal.returns-in-TooMany-clause-fresh
returns-in-TooMany-clause-fresh g c = λ due.
    none_fresh g.B.Block.may_hold g.B.Block.contents g.B.Block.layers g.B.Block.size g.B.Block.fault_count g.B.Block.done_count c.args.self.now c.args.self.now (none_does g.B.Block.may_hold g.B.Block.contents g.B.Block.layers g.B.Block.size g.B.Block.fault_count g.B.Block.done_count g.met.B.Block.whole c.args.self.now).devices c.args.event c.args.event (subst (λ (x : Ask). Asks g.B.Block.may_hold g.B.Block.contents g.B.Block.layers g.B.Block.size g.B.Block.fault_count g.B.Block.done_count c.args.event x c.args.self.now) c.in-TooMany.is (c.asked_by.ensures due)).0

pub returns-in-Store-clause-fresh : goal.returns-in-Store-clause-fresh
returns-in-Store-clause-fresh g c =
    let v : Volumed g.row.B.Denot = record { origin = c.self.inside.origin; snaps = c.self.inside.snaps.items; merge = c.self.inside.merge; flights = c.self.inside.flights.items; requests = c.self.inside.requests; copies = c.self.inside.copies; attached = c.self.inside.attached } in
    let len : length c.snap_ahead.new.snaps ≡ c.self.inside.snaps.len = c.snap_ahead.ensures.count ∙ c.as_mut_slice.ensures.len in
    let count : length c.snap_ahead.new.snaps ≡ length c.self.inside.snaps.items = c.snap_ahead.ensures.count ∙ ap length c.as_mut_slice.ensures.value in
    let there = back c.self.inside.snaps.len c.snap_ahead.new.snaps c.self.inside.snaps.items len in
    let each : (k : ℕ) (d : Kept g.row.B.Denot) → k < length c.self.inside.snaps.items → IsSnapAhead g.B.Block.may_hold g.B.Block.contents g.B.Block.layers g.B.Block.size g.B.Block.fault_count g.B.Block.done_count (get_or c.self.inside.snaps.items k d) (get_or c.snap_ahead.new.snaps k d) =
    subst (λ (xs : List (Kept g.row.B.Denot)). (k : ℕ) (d : Kept g.row.B.Denot) → k < length xs → IsSnapAhead g.B.Block.may_hold g.B.Block.contents g.B.Block.layers g.B.Block.size g.B.Block.fault_count g.B.Block.done_count (get_or xs k d) (get_or c.snap_ahead.new.snaps k d)) c.as_mut_slice.ensures.value c.snap_ahead.ensures.each in
    let does = snaps_does g.B.Block.may_hold g.B.Block.contents g.B.Block.layers g.B.Block.size g.B.Block.fault_count g.B.Block.done_count g.met.B.Block.whole v c.snap_ahead.new.snaps count each in
    let fresh : (s : Kept g.row.B.Denot) → c.in-Store.place < length v.snaps → (get_or v.snaps c.in-Store.place s).untried ≡ true → (get_or v.snaps c.in-Store.place s).stale ≡ false =
    subst (λ (xs : List (Kept g.row.B.Denot)). (s : Kept g.row.B.Denot) → c.in-Store.place < length xs → (get_or xs c.in-Store.place s).untried ≡ true → (get_or xs c.in-Store.place s).stale ≡ false) c.as_mut_slice.ensures.value c.snap_ahead.ensures.fresh in
    rw (there) (λ due.
    (let asks : Asks g.B.Block.may_hold g.B.Block.contents g.B.Block.layers g.B.Block.size g.B.Block.fault_count g.B.Block.done_count c.args.event c.asked_by.result v = subst (λ (x : Volumed g.row.B.Denot). Asks g.B.Block.may_hold g.B.Block.contents g.B.Block.layers g.B.Block.size g.B.Block.fault_count g.B.Block.done_count c.args.event c.asked_by.result x) (sym c.self.view_is) (c.asked_by.ensures due) in
    let at = subst (λ (x : Ask). Asks g.B.Block.may_hold g.B.Block.contents g.B.Block.layers g.B.Block.size g.B.Block.fault_count g.B.Block.done_count c.args.event x v) c.in-Store.is asks in
    store_fresh g.B.Block.may_hold g.B.Block.contents g.B.Block.layers g.B.Block.size g.B.Block.fault_count g.B.Block.done_count v (record v { snaps = c.snap_ahead.new.snaps }) does.devices c.args.event c.self.invariant.whole c.in-Store.place at.0 fresh c.args.event (λ s. (at.1 s).0)))

pub returns-in-Origin-clause-sure : goal.returns-in-Origin-clause-sure
returns-in-Origin-clause-sure g c = λ due few all.
    (let v : Volumed g.row.B.Denot = record { origin = c.self.inside.origin; snaps = c.self.inside.snaps.items; merge = c.self.inside.merge; flights = c.self.inside.flights.items; requests = c.self.inside.requests; copies = c.self.inside.copies; attached = c.self.inside.attached } in
    let does = origin_does g.B.Block.may_hold g.B.Block.contents g.B.Block.layers g.B.Block.size g.B.Block.fault_count g.B.Block.done_count g.met.B.Block.whole v c.do_ahead.new.device c.do_ahead.ensures.does in
    let asks : Asks g.B.Block.may_hold g.B.Block.contents g.B.Block.layers g.B.Block.size g.B.Block.fault_count g.B.Block.done_count c.args.event c.asked_by.result v = subst (λ (x : Volumed g.row.B.Denot). Asks g.B.Block.may_hold g.B.Block.contents g.B.Block.layers g.B.Block.size g.B.Block.fault_count g.B.Block.done_count c.args.event c.asked_by.result x) (sym c.self.view_is) (c.asked_by.ensures due) in
    origin_sure g.B.Block.may_hold g.B.Block.contents g.B.Block.layers g.B.Block.size g.B.Block.fault_count g.B.Block.done_count v (record v { origin = c.do_ahead.new.device }) does.devices c.args.event g.B.Ahead.unanswered all c.do_ahead.result c.in-Origin.operation (subst (λ (x : Ask). Asks g.B.Block.may_hold g.B.Block.contents g.B.Block.layers g.B.Block.size g.B.Block.fault_count g.B.Block.done_count c.args.event x v) c.in-Origin.is asks) c.do_ahead.ensures.sure)

pub returns-in-Store-clause-sure : goal.returns-in-Store-clause-sure
returns-in-Store-clause-sure g c =
    let v : Volumed g.row.B.Denot = record { origin = c.self.inside.origin; snaps = c.self.inside.snaps.items; merge = c.self.inside.merge; flights = c.self.inside.flights.items; requests = c.self.inside.requests; copies = c.self.inside.copies; attached = c.self.inside.attached } in
    let len : length c.snap_ahead.new.snaps ≡ c.self.inside.snaps.len = c.snap_ahead.ensures.count ∙ c.as_mut_slice.ensures.len in
    let count : length c.snap_ahead.new.snaps ≡ length c.self.inside.snaps.items = c.snap_ahead.ensures.count ∙ ap length c.as_mut_slice.ensures.value in
    let there = back c.self.inside.snaps.len c.snap_ahead.new.snaps c.self.inside.snaps.items len in
    let each : (k : ℕ) (d : Kept g.row.B.Denot) → k < length c.self.inside.snaps.items → IsSnapAhead g.B.Block.may_hold g.B.Block.contents g.B.Block.layers g.B.Block.size g.B.Block.fault_count g.B.Block.done_count (get_or c.self.inside.snaps.items k d) (get_or c.snap_ahead.new.snaps k d) =
    subst (λ (xs : List (Kept g.row.B.Denot)). (k : ℕ) (d : Kept g.row.B.Denot) → k < length xs → IsSnapAhead g.B.Block.may_hold g.B.Block.contents g.B.Block.layers g.B.Block.size g.B.Block.fault_count g.B.Block.done_count (get_or xs k d) (get_or c.snap_ahead.new.snaps k d)) c.as_mut_slice.ensures.value c.snap_ahead.ensures.each in
    let does = snaps_does g.B.Block.may_hold g.B.Block.contents g.B.Block.layers g.B.Block.size g.B.Block.fault_count g.B.Block.done_count g.met.B.Block.whole v c.snap_ahead.new.snaps count each in
    let op : Operation = c.in-Store.operation in
    let sure : (s : Kept g.row.B.Denot) → c.in-Store.place < length v.snaps → CanDoAhead (g.B.Block.size (get_or v.snaps c.in-Store.place s).device) op → g.B.Ahead.unanswered (get_or c.snap_ahead.new.snaps c.in-Store.place s).device ≡ false → c.snap_ahead.result ≡ true =
    subst (λ (xs : List (Kept g.row.B.Denot)). (s : Kept g.row.B.Denot) → c.in-Store.place < length xs → CanDoAhead (g.B.Block.size (get_or xs c.in-Store.place s).device) op → g.B.Ahead.unanswered (get_or c.snap_ahead.new.snaps c.in-Store.place s).device ≡ false → c.snap_ahead.result ≡ true) c.as_mut_slice.ensures.value c.snap_ahead.ensures.sure in
    rw (there) (λ due few all.
    (let asks : Asks g.B.Block.may_hold g.B.Block.contents g.B.Block.layers g.B.Block.size g.B.Block.fault_count g.B.Block.done_count c.args.event c.asked_by.result v = subst (λ (x : Volumed g.row.B.Denot). Asks g.B.Block.may_hold g.B.Block.contents g.B.Block.layers g.B.Block.size g.B.Block.fault_count g.B.Block.done_count c.args.event c.asked_by.result x) (sym c.self.view_is) (c.asked_by.ensures due) in
    store_sure g.B.Block.may_hold g.B.Block.contents g.B.Block.layers g.B.Block.size g.B.Block.fault_count g.B.Block.done_count v (record v { snaps = c.snap_ahead.new.snaps }) does.devices c.args.event g.B.Ahead.unanswered all c.snap_ahead.result c.in-Store.place op (subst (λ (x : Ask). Asks g.B.Block.may_hold g.B.Block.contents g.B.Block.layers g.B.Block.size g.B.Block.fault_count g.B.Block.done_count c.args.event x v) c.in-Store.is asks) sure))

pub returns-in-Merging-clause-sure : goal.returns-in-Merging-clause-sure
returns-in-Merging-clause-sure g c = λ due few all.
    (let v : Volumed g.row.B.Denot = record { origin = c.self.inside.origin; snaps = c.self.inside.snaps.items; merge = c.self.inside.merge; flights = c.self.inside.flights.items; requests = c.self.inside.requests; copies = c.self.inside.copies; attached = c.self.inside.attached } in
    let does = merge_does g.B.Block.may_hold g.B.Block.contents g.B.Block.layers g.B.Block.size g.B.Block.fault_count g.B.Block.done_count g.met.B.Block.whole v c.merge_ahead.new.merge c.merge_ahead.ensures.does in
    let asks : Asks g.B.Block.may_hold g.B.Block.contents g.B.Block.layers g.B.Block.size g.B.Block.fault_count g.B.Block.done_count c.args.event c.asked_by.result v = subst (λ (x : Volumed g.row.B.Denot). Asks g.B.Block.may_hold g.B.Block.contents g.B.Block.layers g.B.Block.size g.B.Block.fault_count g.B.Block.done_count c.args.event c.asked_by.result x) (sym c.self.view_is) (c.asked_by.ensures due) in
    merging_sure g.B.Block.may_hold g.B.Block.contents g.B.Block.layers g.B.Block.size g.B.Block.fault_count g.B.Block.done_count v (record v { merge = c.merge_ahead.new.merge }) does.devices c.args.event g.B.Ahead.unanswered all c.merge_ahead.result c.in-Merging.operation (subst (λ (x : Ask). Asks g.B.Block.may_hold g.B.Block.contents g.B.Block.layers g.B.Block.size g.B.Block.fault_count g.B.Block.done_count c.args.event x v) c.in-Merging.is asks) c.merge_ahead.ensures.sure)

pub returns-in-TooMany-clause-sure : goal.returns-in-TooMany-clause-sure
returns-in-TooMany-clause-sure g c = λ due few all.
    many_sure g.B.Block.may_hold g.B.Block.contents g.B.Block.layers g.B.Block.size g.B.Block.fault_count g.B.Block.done_count c.args.self.now c.args.self.now (none_does g.B.Block.may_hold g.B.Block.contents g.B.Block.layers g.B.Block.size g.B.Block.fault_count g.B.Block.done_count g.met.B.Block.whole c.args.self.now).devices c.args.event (subst (λ (x : Ask). Asks g.B.Block.may_hold g.B.Block.contents g.B.Block.layers g.B.Block.size g.B.Block.fault_count g.B.Block.done_count c.args.event x c.args.self.now) c.in-TooMany.is (c.asked_by.ensures due)) few
