-- The snapshot that is found is merged, once the others keep back what that starts.
use Rattle.std.proofs.Common.{◌≡◌, ◌*◌, inr, None, List, Some, length, get_or, map, refl, sym, ◌∙◌, ap, arith, subst}
use Rattle.std.specs.List.{remove, All}
use Rattle.std.proofs.lemmas.List.{get_or_default}
use Rattle.store.specs.Held.{committed}
use Rattle.store.specs.declared.state.State.{State}
use Rattle.snapshot.specs.Kept.{Kept}
use Rattle.snapshot_list.specs.Finding.{place_of_snap}
use Rattle.snapshot_list.specs.Keeping.{unkept, kept_for}
use Rattle.volume.specs.Beginning.{begin_refusal}
use Rattle.volume.specs.Volumed.{Volumed}
use Rattle.volume.proofs.Beginnings.{twice_unkept, made_from, alone, calm, within, live_now, number_now, idle_now, unmarked_now, chunk_now, whole_after, plain_after, exact_after, loud_after, is_begun, all_unkept, there}
use Rattle.volume.proofs.Finishes.{back}
use Rattle.volume.proofs.KeptBack.{whole_kept, moving_kept, loud_kept}
use Rattle.volume.proofs.Quieted.{quiet_done}
use Rattle.volume.specs.SnapLasting.{SnapLasting}
use Rattle.volume.proofs.MergeStarts.{all_kept}
use Rattle.volume.proofs.BeginLasts.{all_hidden, begun_both, hands_over}
use Rattle.volume.proofs.volume.Volume.begin_merge.Goals as goal

pub index-requires : goal.index-requires
index-requires g c =
    let v : Volumed g.row.B.Denot = record { origin = c.self.inside.origin; snaps = c.self.inside.snaps.items; merge = c.self.inside.merge; flights = c.self.inside.flights.items; requests = c.self.inside.requests; copies = c.self.inside.copies; attached = c.self.inside.attached } in
    let admitted : begin_refusal c.args.number v ≡ None = ap (begin_refusal c.args.number) c.self.view_is ∙ c.in-Ok.ensures.ok.0 in
    let place : Some c.in-Ok.k ≡ place_of_snap c.args.number v.snaps = c.in-Ok.ensures.ok.1 ∙ ap (λ (x : Volumed g.row.B.Denot). place_of_snap c.args.number x.snaps) (sym c.self.view_is) in
    let lt = within v c.args.number c.in-Ok.k admitted place in
    omega (arith, lt)

pub index-requires-2 : goal.index-requires-2
index-requires-2 g c =
    let v : Volumed g.row.B.Denot = record { origin = c.self.inside.origin; snaps = c.self.inside.snaps.items; merge = c.self.inside.merge; flights = c.self.inside.flights.items; requests = c.self.inside.requests; copies = c.self.inside.copies; attached = c.self.inside.attached } in
    let admitted : begin_refusal c.args.number v ≡ None = ap (begin_refusal c.args.number) c.self.view_is ∙ c.in-Ok.ensures.ok.0 in
    let place : Some c.in-Ok.k ≡ place_of_snap c.args.number v.snaps = c.in-Ok.ensures.ok.1 ∙ ap (λ (x : Volumed g.row.B.Denot). place_of_snap c.args.number x.snaps) (sym c.self.view_is) in
    let lt = within v c.args.number c.in-Ok.k admitted place in
    omega (arith, lt)

pub invariant_of-self : goal.invariant_of-self
invariant_of-self g c = record {
  whole =
      let v : Volumed g.row.B.Denot = record { origin = c.self.inside.origin; snaps = c.self.inside.snaps.items; merge = c.self.inside.merge; flights = c.self.inside.flights.items; requests = c.self.inside.requests; copies = c.self.inside.copies; attached = c.self.inside.attached } in
      let admitted : begin_refusal c.args.number v ≡ None = ap (begin_refusal c.args.number) c.self.view_is ∙ c.in-Ok.ensures.ok.0 in
      let place : Some c.in-Ok.k ≡ place_of_snap c.args.number v.snaps = c.in-Ok.ensures.ok.1 ∙ ap (λ (x : Volumed g.row.B.Denot). place_of_snap c.args.number x.snaps) (sym c.self.view_is) in
      let after = back c.self.inside.snaps.len c.keep_back_all.new.snaps c.self.inside.snaps.items (c.keep_back_all.auto.snaps ∙ c.as_mut_slice.ensures.len) in
      let same : map (unkept {B = g.row.B.Denot}) c.keep_back_all.new.snaps ≡ map unkept v.snaps = ap (map (unkept {B = g.row.B.Denot})) (c.in-Err-keep_back_all.ensures.err ∙ ap (map (unkept {B = g.row.B.Denot})) c.as_mut_slice.ensures.value) ∙ twice_unkept v.snaps in
      rw (after) (whole_kept g.B.Block.contents g.B.Block.layers g.B.Block.size v c.keep_back_all.new.snaps same (alone v c.args.number c.in-Ok.k admitted place) (quiet_done v (calm v c.args.number c.in-Ok.k admitted place)) c.self.invariant.whole);
  lasting =
      let v : Volumed g.row.B.Denot = record { origin = c.self.inside.origin; snaps = c.self.inside.snaps.items; merge = c.self.inside.merge; flights = c.self.inside.flights.items; requests = c.self.inside.requests; copies = c.self.inside.copies; attached = c.self.inside.attached } in
      let after = back c.self.inside.snaps.len c.keep_back_all.new.snaps c.self.inside.snaps.items (c.keep_back_all.auto.snaps ∙ c.as_mut_slice.ensures.len) in
      let same : map (unkept {B = g.row.B.Denot}) c.keep_back_all.new.snaps ≡ map unkept v.snaps = ap (map (unkept {B = g.row.B.Denot})) (c.in-Err-keep_back_all.ensures.err ∙ ap (map (unkept {B = g.row.B.Denot})) c.as_mut_slice.ensures.value) ∙ twice_unkept v.snaps in
      rw (after) (record { snaps = all_hidden g.B.Block.may_hold g.B.Block.contents g.B.Block.layers g.B.Block.size g.met.B.Block.whole g.met.B.Block.holds_now v.origin v.snaps c.keep_back_all.new.snaps same c.self.invariant.lasting.snaps; merge = c.self.invariant.lasting.merge });
}

pub returns-in-Err-keep_back_all-clause-does : goal.returns-in-Err-keep_back_all-clause-does
returns-in-Err-keep_back_all-clause-does g c =
    let v : Volumed g.row.B.Denot = record { origin = c.self.inside.origin; snaps = c.self.inside.snaps.items; merge = c.self.inside.merge; flights = c.self.inside.flights.items; requests = c.self.inside.requests; copies = c.self.inside.copies; attached = c.self.inside.attached } in
    let after = back c.self.inside.snaps.len c.keep_back_all.new.snaps c.self.inside.snaps.items (c.keep_back_all.auto.snaps ∙ c.as_mut_slice.ensures.len) in
    let same : map (unkept {B = g.row.B.Denot}) c.keep_back_all.new.snaps ≡ map unkept v.snaps = ap (map (unkept {B = g.row.B.Denot})) (c.in-Err-keep_back_all.ensures.err ∙ ap (map (unkept {B = g.row.B.Denot})) c.as_mut_slice.ensures.value) ∙ twice_unkept v.snaps in
    record {
      admitted = tt;
      begun = tt;
      legal = tt;
      exact = tt;
      loud = rw (← c.self.view_is, after) (loud_kept g.B.Block.contents g.B.Block.layers g.B.Block.size v c.keep_back_all.new.snaps same);
      stops = tt;
      hands = tt;
      starved = λ replied. rw (← c.self.view_is, after) (moving_kept g.B.Block.contents g.B.Block.layers g.B.Block.size v c.keep_back_all.new.snaps same replied);
    }

pub returns-in-Err-keep_back_all-clause-refused : goal.returns-in-Err-keep_back_all-clause-refused
returns-in-Err-keep_back_all-clause-refused g c =
    let v : Volumed g.row.B.Denot = record { origin = c.self.inside.origin; snaps = c.self.inside.snaps.items; merge = c.self.inside.merge; flights = c.self.inside.flights.items; requests = c.self.inside.requests; copies = c.self.inside.copies; attached = c.self.inside.attached } in
    let admitted : begin_refusal c.args.number v ≡ None = ap (begin_refusal c.args.number) c.self.view_is ∙ c.in-Ok.ensures.ok.0 in
    let place : Some c.in-Ok.k ≡ place_of_snap c.args.number v.snaps = c.in-Ok.ensures.ok.1 ∙ ap (λ (x : Volumed g.row.B.Denot). place_of_snap c.args.number x.snaps) (sym c.self.view_is) in
    let after = back c.self.inside.snaps.len c.keep_back_all.new.snaps c.self.inside.snaps.items (c.keep_back_all.auto.snaps ∙ c.as_mut_slice.ensures.len) in
    let none : c.keep_back_all.new.snaps ≡ map unkept v.snaps = c.in-Err-keep_back_all.ensures.err ∙ ap (map (unkept {B = g.row.B.Denot})) c.as_mut_slice.ensures.value in
    rw (← c.self.view_is, after) (inr (admitted, c.in-Err-keep_back_all.ensures.refusal, record { kept = inr none; becomes = refl }))

pub remove-snap-requires : goal.remove-snap-requires
remove-snap-requires g c =
    let v : Volumed g.row.B.Denot = record { origin = c.self.inside.origin; snaps = c.self.inside.snaps.items; merge = c.self.inside.merge; flights = c.self.inside.flights.items; requests = c.self.inside.requests; copies = c.self.inside.copies; attached = c.self.inside.attached } in
    let admitted : begin_refusal c.args.number v ≡ None = ap (begin_refusal c.args.number) c.self.view_is ∙ c.in-Ok.ensures.ok.0 in
    let place : Some c.in-Ok.k ≡ place_of_snap c.args.number v.snaps = c.in-Ok.ensures.ok.1 ∙ ap (λ (x : Volumed g.row.B.Denot). place_of_snap c.args.number x.snaps) (sym c.self.view_is) in
    let lt = within v c.args.number c.in-Ok.k admitted place in
    let ok = c.self.inside.snaps.ok in
    omega (arith, lt, ok)

pub into_store-requires-clause-live : goal.into_store-requires-clause-live
into_store-requires-clause-live g c =
    let v : Volumed g.row.B.Denot = record { origin = c.self.inside.origin; snaps = c.self.inside.snaps.items; merge = c.self.inside.merge; flights = c.self.inside.flights.items; requests = c.self.inside.requests; copies = c.self.inside.copies; attached = c.self.inside.attached } in
    let admitted : begin_refusal c.args.number v ≡ None = ap (begin_refusal c.args.number) c.self.view_is ∙ c.in-Ok.ensures.ok.0 in
    let place : Some c.in-Ok.k ≡ place_of_snap c.args.number v.snaps = c.in-Ok.ensures.ok.1 ∙ ap (λ (x : Volumed g.row.B.Denot). place_of_snap c.args.number x.snaps) (sym c.self.view_is) in
    let after = back c.self.inside.snaps.len c.keep_back_all.new.snaps c.self.inside.snaps.items (c.keep_back_all.auto.snaps ∙ c.as_mut_slice.ensures.len) in
    let kept : c.keep_back_all.new.snaps ≡ map (kept_for c.args.number c.len-count.result c.chunk-chunk.result) v.snaps = c.in-Ok-keep_back_all.ensures.ok ∙ ap (map (kept_for c.args.number c.len-count.result c.chunk-chunk.result)) c.as_mut_slice.ensures.value in
    let s : Kept g.row.B.Denot = c.remove-snap.result in
    let is : s ≡ get_or c.keep_back_all.new.snaps c.in-Ok.k s = c.remove-snap.ensures.value ∙ ap (λ (xs : List (Kept g.row.B.Denot)). get_or xs c.in-Ok.k s) after in
    live_now v c.args.number c.in-Ok.k admitted place c.len-count.result c.chunk-chunk.result c.keep_back_all.new.snaps kept s is

pub into_store-requires-clause-copied : goal.into_store-requires-clause-copied
into_store-requires-clause-copied g c =
    let v : Volumed g.row.B.Denot = record { origin = c.self.inside.origin; snaps = c.self.inside.snaps.items; merge = c.self.inside.merge; flights = c.self.inside.flights.items; requests = c.self.inside.requests; copies = c.self.inside.copies; attached = c.self.inside.attached } in
    let admitted : begin_refusal c.args.number v ≡ None = ap (begin_refusal c.args.number) c.self.view_is ∙ c.in-Ok.ensures.ok.0 in
    let place : Some c.in-Ok.k ≡ place_of_snap c.args.number v.snaps = c.in-Ok.ensures.ok.1 ∙ ap (λ (x : Volumed g.row.B.Denot). place_of_snap c.args.number x.snaps) (sym c.self.view_is) in
    let after = back c.self.inside.snaps.len c.keep_back_all.new.snaps c.self.inside.snaps.items (c.keep_back_all.auto.snaps ∙ c.as_mut_slice.ensures.len) in
    let kept : c.keep_back_all.new.snaps ≡ map (kept_for c.args.number c.len-count.result c.chunk-chunk.result) v.snaps = c.in-Ok-keep_back_all.ensures.ok ∙ ap (map (kept_for c.args.number c.len-count.result c.chunk-chunk.result)) c.as_mut_slice.ensures.value in
    let s : Kept g.row.B.Denot = c.remove-snap.result in
    let is : s ≡ get_or c.keep_back_all.new.snaps c.in-Ok.k s = c.remove-snap.ensures.value ∙ ap (λ (xs : List (Kept g.row.B.Denot)). get_or xs c.in-Ok.k s) after in
    idle_now v c.args.number c.in-Ok.k admitted place c.len-count.result c.chunk-chunk.result c.keep_back_all.new.snaps kept s is

pub into_store-requires-clause-published : goal.into_store-requires-clause-published
into_store-requires-clause-published g c =
    let v : Volumed g.row.B.Denot = record { origin = c.self.inside.origin; snaps = c.self.inside.snaps.items; merge = c.self.inside.merge; flights = c.self.inside.flights.items; requests = c.self.inside.requests; copies = c.self.inside.copies; attached = c.self.inside.attached } in
    let admitted : begin_refusal c.args.number v ≡ None = ap (begin_refusal c.args.number) c.self.view_is ∙ c.in-Ok.ensures.ok.0 in
    let place : Some c.in-Ok.k ≡ place_of_snap c.args.number v.snaps = c.in-Ok.ensures.ok.1 ∙ ap (λ (x : Volumed g.row.B.Denot). place_of_snap c.args.number x.snaps) (sym c.self.view_is) in
    let after = back c.self.inside.snaps.len c.keep_back_all.new.snaps c.self.inside.snaps.items (c.keep_back_all.auto.snaps ∙ c.as_mut_slice.ensures.len) in
    let kept : c.keep_back_all.new.snaps ≡ map (kept_for c.args.number c.len-count.result c.chunk-chunk.result) v.snaps = c.in-Ok-keep_back_all.ensures.ok ∙ ap (map (kept_for c.args.number c.len-count.result c.chunk-chunk.result)) c.as_mut_slice.ensures.value in
    let s : Kept g.row.B.Denot = c.remove-snap.result in
    let is : s ≡ get_or c.keep_back_all.new.snaps c.in-Ok.k s = c.remove-snap.ensures.value ∙ ap (λ (xs : List (Kept g.row.B.Denot)). get_or xs c.in-Ok.k s) after in
    unmarked_now v c.args.number c.in-Ok.k admitted place c.len-count.result c.chunk-chunk.result c.keep_back_all.new.snaps kept s is

pub begin-begun-requires-clause-room : goal.begin-begun-requires-clause-room
begin-begun-requires-clause-room g c =
    let v : Volumed g.row.B.Denot = record { origin = c.self.inside.origin; snaps = c.self.inside.snaps.items; merge = c.self.inside.merge; flights = c.self.inside.flights.items; requests = c.self.inside.requests; copies = c.self.inside.copies; attached = c.self.inside.attached } in
    let admitted : begin_refusal c.args.number v ≡ None = ap (begin_refusal c.args.number) c.self.view_is ∙ c.in-Ok.ensures.ok.0 in
    let place : Some c.in-Ok.k ≡ place_of_snap c.args.number v.snaps = c.in-Ok.ensures.ok.1 ∙ ap (λ (x : Volumed g.row.B.Denot). place_of_snap c.args.number x.snaps) (sym c.self.view_is) in
    let after = back c.self.inside.snaps.len c.keep_back_all.new.snaps c.self.inside.snaps.items (c.keep_back_all.auto.snaps ∙ c.as_mut_slice.ensures.len) in
    let kept : c.keep_back_all.new.snaps ≡ map (kept_for c.args.number c.len-count.result c.chunk-chunk.result) v.snaps = c.in-Ok-keep_back_all.ensures.ok ∙ ap (map (kept_for c.args.number c.len-count.result c.chunk-chunk.result)) c.as_mut_slice.ensures.value in
    let s : Kept g.row.B.Denot = c.remove-snap.result in
    let is : s ≡ get_or c.keep_back_all.new.snaps c.in-Ok.k s = c.remove-snap.ensures.value ∙ ap (λ (xs : List (Kept g.row.B.Denot)). get_or xs c.in-Ok.k s) after in
    let lt = within v c.args.number c.in-Ok.k admitted place in
    let at : c.index.result.now ≡ get_or v.snaps c.in-Ok.k s = c.index.ensures ∙ get_or_default v.snaps c.in-Ok.k c.index.result.now s lt in
    let sized : length c.in-Ok-vec.buffer.items ≡ 512 * s.state.chunk =
    sym c.in-Ok-vec.buffer.ok.0 ∙ c.in-Ok-vec.ensures.len ∙ ap (λ n. 512 * n) (c.chunk-chunk.ensures.is ∙ ap (λ (t : Kept g.row.B.Denot). t.state.chunk) at ∙ sym (chunk_now v c.args.number c.in-Ok.k admitted place c.len-count.result c.chunk-chunk.result c.keep_back_all.new.snaps kept s is)) in
    sized ∙ ap (λ (t : State). 512 * t.chunk) (sym c.into_store.ensures.state)

pub invariant_of-self-2 : goal.invariant_of-self-2
invariant_of-self-2 g c = record {
  whole =
      let v : Volumed g.row.B.Denot = record { origin = c.self.inside.origin; snaps = c.self.inside.snaps.items; merge = c.self.inside.merge; flights = c.self.inside.flights.items; requests = c.self.inside.requests; copies = c.self.inside.copies; attached = c.self.inside.attached } in
      let admitted : begin_refusal c.args.number v ≡ None = ap (begin_refusal c.args.number) c.self.view_is ∙ c.in-Ok.ensures.ok.0 in
      let place : Some c.in-Ok.k ≡ place_of_snap c.args.number v.snaps = c.in-Ok.ensures.ok.1 ∙ ap (λ (x : Volumed g.row.B.Denot). place_of_snap c.args.number x.snaps) (sym c.self.view_is) in
      let after = back c.self.inside.snaps.len c.keep_back_all.new.snaps c.self.inside.snaps.items (c.keep_back_all.auto.snaps ∙ c.as_mut_slice.ensures.len) in
      let kept : c.keep_back_all.new.snaps ≡ map (kept_for c.args.number c.len-count.result c.chunk-chunk.result) v.snaps = c.in-Ok-keep_back_all.ensures.ok ∙ ap (map (kept_for c.args.number c.len-count.result c.chunk-chunk.result)) c.as_mut_slice.ensures.value in
      let s : Kept g.row.B.Denot = c.remove-snap.result in
      let is : s ≡ get_or c.keep_back_all.new.snaps c.in-Ok.k s = c.remove-snap.ensures.value ∙ ap (λ (xs : List (Kept g.row.B.Denot)). get_or xs c.in-Ok.k s) after in
      let lt = within v c.args.number c.in-Ok.k admitted place in
      let at : c.index.result.now ≡ get_or v.snaps c.in-Ok.k s = c.index.ensures ∙ get_or_default v.snaps c.in-Ok.k c.index.result.now s lt in
      let sized : length c.in-Ok-vec.buffer.items ≡ 512 * s.state.chunk =
      sym c.in-Ok-vec.buffer.ok.0 ∙ c.in-Ok-vec.ensures.len ∙ ap (λ n. 512 * n) (c.chunk-chunk.ensures.is ∙ ap (λ (t : Kept g.row.B.Denot). t.state.chunk) at ∙ sym (chunk_now v c.args.number c.in-Ok.k admitted place c.len-count.result c.chunk-chunk.result c.keep_back_all.new.snaps kept s is)) in
      let counts : c.len-count.result ≡ length (get_or v.snaps c.in-Ok.k s).pairs = c.len-count.ensures ∙ ap (λ (t : Kept g.row.B.Denot). length t.pairs) (c.index-2.ensures ∙ get_or_default v.snaps c.in-Ok.k c.index-2.result.now s lt) in
      let chunks : c.chunk-chunk.result ≡ (get_or v.snaps c.in-Ok.k s).state.chunk = c.chunk-chunk.ensures.is ∙ ap (λ (t : Kept g.row.B.Denot). t.state.chunk) at in
      let mine = number_now v c.args.number c.in-Ok.k admitted place c.len-count.result c.chunk-chunk.result c.keep_back_all.new.snaps kept s is in
      let e = c.into_store.ensures in
      let made = c.replace.ensures.after ∙ ap Some (c.begin-begun.ensures.begun ∙ made_from s c.args.number c.into_store.result.device c.into_store.result.state c.into_store.result.places.next (committed c.into_store.result.exceptions) c.in-Ok-vec.buffer.items mine e.device e.state e.next e.pairs) in
      let left = c.remove-snap.ensures.items ∙ ap (λ (xs : List (Kept g.row.B.Denot)). remove xs c.in-Ok.k) after in
      rw (left, made) (whole_after v c.args.number c.in-Ok.k admitted place c.len-count.result c.chunk-chunk.result c.keep_back_all.new.snaps kept s is g.B.Block.contents g.B.Block.layers g.B.Block.size c.self.invariant.whole c.in-Ok-vec.buffer.items sized counts chunks);
  lasting =
      let v : Volumed g.row.B.Denot = record { origin = c.self.inside.origin; snaps = c.self.inside.snaps.items; merge = c.self.inside.merge; flights = c.self.inside.flights.items; requests = c.self.inside.requests; copies = c.self.inside.copies; attached = c.self.inside.attached } in
      let admitted : begin_refusal c.args.number v ≡ None = ap (begin_refusal c.args.number) c.self.view_is ∙ c.in-Ok.ensures.ok.0 in
      let place : Some c.in-Ok.k ≡ place_of_snap c.args.number v.snaps = c.in-Ok.ensures.ok.1 ∙ ap (λ (x : Volumed g.row.B.Denot). place_of_snap c.args.number x.snaps) (sym c.self.view_is) in
      let after = back c.self.inside.snaps.len c.keep_back_all.new.snaps c.self.inside.snaps.items (c.keep_back_all.auto.snaps ∙ c.as_mut_slice.ensures.len) in
      let kept : c.keep_back_all.new.snaps ≡ map (kept_for c.args.number c.len-count.result c.chunk-chunk.result) v.snaps = c.in-Ok-keep_back_all.ensures.ok ∙ ap (map (kept_for c.args.number c.len-count.result c.chunk-chunk.result)) c.as_mut_slice.ensures.value in
      let s : Kept g.row.B.Denot = c.remove-snap.result in
      let is : s ≡ get_or c.keep_back_all.new.snaps c.in-Ok.k s = c.remove-snap.ensures.value ∙ ap (λ (xs : List (Kept g.row.B.Denot)). get_or xs c.in-Ok.k s) after in
      let mine = number_now v c.args.number c.in-Ok.k admitted place c.len-count.result c.chunk-chunk.result c.keep_back_all.new.snaps kept s is in
      let e = c.into_store.ensures in
      let made = c.replace.ensures.after ∙ ap Some (c.begin-begun.ensures.begun ∙ made_from s c.args.number c.into_store.result.device c.into_store.result.state c.into_store.result.places.next (committed c.into_store.result.exceptions) c.in-Ok-vec.buffer.items mine e.device e.state e.next e.pairs) in
      let left = c.remove-snap.ensures.items ∙ ap (λ (xs : List (Kept g.row.B.Denot)). remove xs c.in-Ok.k) after in
      let u : Volumed g.row.B.Denot = record v { snaps = c.keep_back_all.new.snaps } in
      let all = subst (All (SnapLasting g.B.Block.may_hold g.B.Block.contents g.B.Block.layers g.B.Block.size v.origin)) (sym kept) (all_kept g.B.Block.may_hold g.B.Block.contents g.B.Block.layers g.B.Block.size g.met.B.Block.whole g.met.B.Block.holds_now v.origin c.args.number c.len-count.result c.chunk-chunk.result v.snaps c.self.invariant.lasting.snaps) in
      let same = ap (map (unkept {B = g.row.B.Denot})) kept ∙ all_unkept c.args.number c.len-count.result c.chunk-chunk.result v.snaps in
      let h = whole_kept g.B.Block.contents g.B.Block.layers g.B.Block.size v c.keep_back_all.new.snaps same (alone v c.args.number c.in-Ok.k admitted place) (quiet_done v (calm v c.args.number c.in-Ok.k admitted place)) c.self.invariant.whole in
      let both = begun_both g.B.Block.may_hold g.B.Block.contents g.B.Block.layers g.B.Block.size g.met.B.Block.whole g.met.B.Block.holds_now u c.in-Ok.k s h all (there v c.args.number c.in-Ok.k admitted place c.len-count.result c.chunk-chunk.result c.keep_back_all.new.snaps kept s is) is (live_now v c.args.number c.in-Ok.k admitted place c.len-count.result c.chunk-chunk.result c.keep_back_all.new.snaps kept s is) (unmarked_now v c.args.number c.in-Ok.k admitted place c.len-count.result c.chunk-chunk.result c.keep_back_all.new.snaps kept s is) c.in-Ok-vec.buffer.items in
      rw (left, made) (record { snaps = both.0; merge = both.1 });
}

pub returns-clause-does : goal.returns-clause-does
returns-clause-does g c =
    let v : Volumed g.row.B.Denot = record { origin = c.self.inside.origin; snaps = c.self.inside.snaps.items; merge = c.self.inside.merge; flights = c.self.inside.flights.items; requests = c.self.inside.requests; copies = c.self.inside.copies; attached = c.self.inside.attached } in
    let admitted : begin_refusal c.args.number v ≡ None = ap (begin_refusal c.args.number) c.self.view_is ∙ c.in-Ok.ensures.ok.0 in
    let place : Some c.in-Ok.k ≡ place_of_snap c.args.number v.snaps = c.in-Ok.ensures.ok.1 ∙ ap (λ (x : Volumed g.row.B.Denot). place_of_snap c.args.number x.snaps) (sym c.self.view_is) in
    let after = back c.self.inside.snaps.len c.keep_back_all.new.snaps c.self.inside.snaps.items (c.keep_back_all.auto.snaps ∙ c.as_mut_slice.ensures.len) in
    let kept : c.keep_back_all.new.snaps ≡ map (kept_for c.args.number c.len-count.result c.chunk-chunk.result) v.snaps = c.in-Ok-keep_back_all.ensures.ok ∙ ap (map (kept_for c.args.number c.len-count.result c.chunk-chunk.result)) c.as_mut_slice.ensures.value in
    let s : Kept g.row.B.Denot = c.remove-snap.result in
    let is : s ≡ get_or c.keep_back_all.new.snaps c.in-Ok.k s = c.remove-snap.ensures.value ∙ ap (λ (xs : List (Kept g.row.B.Denot)). get_or xs c.in-Ok.k s) after in
    let lt = within v c.args.number c.in-Ok.k admitted place in
    let at : c.index.result.now ≡ get_or v.snaps c.in-Ok.k s = c.index.ensures ∙ get_or_default v.snaps c.in-Ok.k c.index.result.now s lt in
    let sized : length c.in-Ok-vec.buffer.items ≡ 512 * s.state.chunk =
    sym c.in-Ok-vec.buffer.ok.0 ∙ c.in-Ok-vec.ensures.len ∙ ap (λ n. 512 * n) (c.chunk-chunk.ensures.is ∙ ap (λ (t : Kept g.row.B.Denot). t.state.chunk) at ∙ sym (chunk_now v c.args.number c.in-Ok.k admitted place c.len-count.result c.chunk-chunk.result c.keep_back_all.new.snaps kept s is)) in
    let counts : c.len-count.result ≡ length (get_or v.snaps c.in-Ok.k s).pairs = c.len-count.ensures ∙ ap (λ (t : Kept g.row.B.Denot). length t.pairs) (c.index-2.ensures ∙ get_or_default v.snaps c.in-Ok.k c.index-2.result.now s lt) in
    let chunks : c.chunk-chunk.result ≡ (get_or v.snaps c.in-Ok.k s).state.chunk = c.chunk-chunk.ensures.is ∙ ap (λ (t : Kept g.row.B.Denot). t.state.chunk) at in
    let mine = number_now v c.args.number c.in-Ok.k admitted place c.len-count.result c.chunk-chunk.result c.keep_back_all.new.snaps kept s is in
    let e = c.into_store.ensures in
    let made = c.replace.ensures.after ∙ ap Some (c.begin-begun.ensures.begun ∙ made_from s c.args.number c.into_store.result.device c.into_store.result.state c.into_store.result.places.next (committed c.into_store.result.exceptions) c.in-Ok-vec.buffer.items mine e.device e.state e.next e.pairs) in
    let left = c.remove-snap.ensures.items ∙ ap (λ (xs : List (Kept g.row.B.Denot)). remove xs c.in-Ok.k) after in
    record {
      admitted = c.in-Ok.ensures.ok.0;
      begun = rw (← c.self.view_is, left, made) (is_begun v c.args.number c.in-Ok.k admitted place c.len-count.result c.chunk-chunk.result c.keep_back_all.new.snaps kept s is g.B.Block.contents g.B.Block.layers g.B.Block.size c.self.invariant.whole c.in-Ok-vec.buffer.items sized counts chunks);
      legal = λ _. rw (← c.self.view_is, left, made) (plain_after v c.args.number c.in-Ok.k admitted place c.len-count.result c.chunk-chunk.result c.keep_back_all.new.snaps kept s is g.B.Block.contents g.B.Block.layers g.B.Block.size c.self.invariant.whole c.in-Ok-vec.buffer.items sized counts chunks);
      exact = λ replied. rw (← c.self.view_is, left, made) (exact_after v c.args.number c.in-Ok.k admitted place c.len-count.result c.chunk-chunk.result c.keep_back_all.new.snaps kept s is g.B.Block.contents g.B.Block.layers g.B.Block.size c.self.invariant.whole c.in-Ok-vec.buffer.items sized counts chunks replied);
      loud = rw (← c.self.view_is, left, made) (loud_after v c.args.number c.in-Ok.k admitted place c.len-count.result c.chunk-chunk.result c.keep_back_all.new.snaps kept s is g.B.Block.contents g.B.Block.layers g.B.Block.size c.self.invariant.whole c.in-Ok-vec.buffer.items sized counts chunks);
      stops = (c.look_at_stores.ensures.stops, c.look_at_stores-2.ensures.stops);
      hands = rw (← c.self.view_is, made) (hands_over g.B.Block.may_hold g.B.Block.size c.args.number v _ (is_begun v c.args.number c.in-Ok.k admitted place c.len-count.result c.chunk-chunk.result c.keep_back_all.new.snaps kept s is g.B.Block.contents g.B.Block.layers g.B.Block.size c.self.invariant.whole c.in-Ok-vec.buffer.items sized counts chunks));
      starved = tt;
    }
