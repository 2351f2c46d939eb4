-- Every device is later, and so the volume is whole.
use Rattle.std.proofs.Common.{◌≡◌, ℕ, ◌<◌, List, length, get_or, refl, ◌∙◌, ap, subst}
use Rattle.std.specs.Prelude.{Option}
use Rattle.plain_machine.specs.declared.request.Reply.{Reply}
use Rattle.snapshot.specs.Kept.{Kept}
use Rattle.volume.specs.Volumed.{Volumed}
use Rattle.volume.specs.Layering.{Measures, IsSnapLater, IsTicked}
use Rattle.volume.proofs.Finishes.{back}
use Rattle.volume.proofs.Relayered.{ticked_alike, ticked_moving, whole_alike, books_of_alike}
use Rattle.volume.proofs.Told.{plain_alike, loud_alike}
use Rattle.crash_laws.specs.Firm.{AddsNow}
use Rattle.crash_laws.proofs.Firm.{adds_none}
use Rattle.volume.proofs.LastTime.{alike_lasts}
use Rattle.volume.proofs.OpensNothing.{alike_opens}
use Rattle.volume.proofs.volume.Volume.tick.Goals as goal

pub invariant_of-self : goal.invariant_of-self
invariant_of-self g c = record {
  whole =
      let m : Measures g.row.B.Denot = record { contents = g.B.Block.contents; durable = g.B.Block.durable; size = g.B.Block.size; faults = g.B.Block.fault_count; done = g.B.Block.done_count } in
      let v : Volumed g.row.B.Denot = record { origin = c.self.inside.origin; snaps = c.self.inside.snaps.items; merge = c.self.inside.merge; flights = c.self.inside.flights.items; requests = c.self.inside.requests; copies = c.self.inside.copies; attached = c.self.inside.attached } in
      let w : Volumed g.row.B.Denot = record v { origin = c.tick.new.self; snaps = c.tick_all.new.snaps; merge = c.tick_merge.new.merge } in
      let len : length c.tick_all.new.snaps ≡ c.self.inside.snaps.len = c.tick_all.ensures.count ∙ c.as_mut_slice.ensures.len in
      let whole_len : length c.tick_all.new.snaps ≡ length c.self.inside.snaps.items = c.tick_all.ensures.count ∙ ap length c.as_mut_slice.ensures.value in
      let there = back c.self.inside.snaps.len c.tick_all.new.snaps c.self.inside.snaps.items len in
      let each : (k : ℕ) (d : Kept g.row.B.Denot) → k < length c.self.inside.snaps.items → IsSnapLater m g.B.Block.layers c.args.seconds (get_or c.self.inside.snaps.items k d) (get_or c.tick_all.new.snaps k d) =
      subst (λ (xs : List (Kept g.row.B.Denot)). (k : ℕ) (d : Kept g.row.B.Denot) → k < length xs → IsSnapLater m g.B.Block.layers c.args.seconds (get_or xs k d) (get_or c.tick_all.new.snaps k d)) c.as_mut_slice.ensures.value c.tick_all.ensures.each in
      let ticked : IsTicked m g.B.Block.layers c.args.seconds v w = record {
        origin = record { moved = c.tick.ensures.layers; rest = record { contents_are = c.tick.ensures.contents; durable_are = c.tick.ensures.durable; size_is = c.tick.ensures.size; faults_are = c.tick.ensures.faults; done_are = c.tick.ensures.done } };
        count = whole_len;
        snaps = each;
        merge = c.tick_merge.ensures.later;
        becomes = refl;
      } in
      rw (there) (whole_alike g.B.Block.contents g.B.Block.layers g.B.Block.size v w (ticked_alike m g.B.Block.layers c.args.seconds v w ticked) c.self.invariant.whole);
  lasting =
      let m : Measures g.row.B.Denot = record { contents = g.B.Block.contents; durable = g.B.Block.durable; size = g.B.Block.size; faults = g.B.Block.fault_count; done = g.B.Block.done_count } in
      let v : Volumed g.row.B.Denot = record { origin = c.self.inside.origin; snaps = c.self.inside.snaps.items; merge = c.self.inside.merge; flights = c.self.inside.flights.items; requests = c.self.inside.requests; copies = c.self.inside.copies; attached = c.self.inside.attached } in
      let w : Volumed g.row.B.Denot = record v { origin = c.tick.new.self; snaps = c.tick_all.new.snaps; merge = c.tick_merge.new.merge } in
      let len : length c.tick_all.new.snaps ≡ c.self.inside.snaps.len = c.tick_all.ensures.count ∙ c.as_mut_slice.ensures.len in
      let whole_len : length c.tick_all.new.snaps ≡ length c.self.inside.snaps.items = c.tick_all.ensures.count ∙ ap length c.as_mut_slice.ensures.value in
      let there = back c.self.inside.snaps.len c.tick_all.new.snaps c.self.inside.snaps.items len in
      let each : (k : ℕ) (d : Kept g.row.B.Denot) → k < length c.self.inside.snaps.items → IsSnapLater m g.B.Block.layers c.args.seconds (get_or c.self.inside.snaps.items k d) (get_or c.tick_all.new.snaps k d) =
      subst (λ (xs : List (Kept g.row.B.Denot)). (k : ℕ) (d : Kept g.row.B.Denot) → k < length xs → IsSnapLater m g.B.Block.layers c.args.seconds (get_or xs k d) (get_or c.tick_all.new.snaps k d)) c.as_mut_slice.ensures.value c.tick_all.ensures.each in
      let ticked : IsTicked m g.B.Block.layers c.args.seconds v w = record {
        origin = record { moved = c.tick.ensures.layers; rest = record { contents_are = c.tick.ensures.contents; durable_are = c.tick.ensures.durable; size_is = c.tick.ensures.size; faults_are = c.tick.ensures.faults; done_are = c.tick.ensures.done } };
        count = whole_len;
        snaps = each;
        merge = c.tick_merge.ensures.later;
        becomes = refl;
      } in
      let added : (k : ℕ) (d : Kept g.row.B.Denot) → k < length c.self.inside.snaps.items → AddsNow (g.B.Block.may_hold (get_or c.self.inside.snaps.items k d).device) (g.B.Block.may_hold (get_or c.tick_all.new.snaps k d).device) (g.B.Block.contents (get_or c.tick_all.new.snaps k d).device) =
      subst (λ (xs : List (Kept g.row.B.Denot)). (k : ℕ) (d : Kept g.row.B.Denot) → k < length xs → AddsNow (g.B.Block.may_hold (get_or xs k d).device) (g.B.Block.may_hold (get_or c.tick_all.new.snaps k d).device) (g.B.Block.contents (get_or c.tick_all.new.snaps k d).device)) c.as_mut_slice.ensures.value c.tick_all.ensures.adds in
      rw (there) (alike_lasts g.B.Block.may_hold g.B.Block.contents g.B.Block.layers g.B.Block.size g.met.B.Block.whole g.met.B.Block.holds_now v c.self.invariant.whole c.self.invariant.lasting w (ticked_alike m g.B.Block.layers c.args.seconds v w ticked) (record { origin = adds_none _ _ _ c.tick.ensures.stop; snaps = added; merge = c.tick_merge.ensures.adds }));
}

pub returns : goal.returns
returns g c =
    let m : Measures g.row.B.Denot = record { contents = g.B.Block.contents; durable = g.B.Block.durable; size = g.B.Block.size; faults = g.B.Block.fault_count; done = g.B.Block.done_count } in
    let v : Volumed g.row.B.Denot = record { origin = c.self.inside.origin; snaps = c.self.inside.snaps.items; merge = c.self.inside.merge; flights = c.self.inside.flights.items; requests = c.self.inside.requests; copies = c.self.inside.copies; attached = c.self.inside.attached } in
    let w : Volumed g.row.B.Denot = record v { origin = c.tick.new.self; snaps = c.tick_all.new.snaps; merge = c.tick_merge.new.merge } in
    let len : length c.tick_all.new.snaps ≡ c.self.inside.snaps.len = c.tick_all.ensures.count ∙ c.as_mut_slice.ensures.len in
    let whole_len : length c.tick_all.new.snaps ≡ length c.self.inside.snaps.items = c.tick_all.ensures.count ∙ ap length c.as_mut_slice.ensures.value in
    let there = back c.self.inside.snaps.len c.tick_all.new.snaps c.self.inside.snaps.items len in
    let each : (k : ℕ) (d : Kept g.row.B.Denot) → k < length c.self.inside.snaps.items → IsSnapLater m g.B.Block.layers c.args.seconds (get_or c.self.inside.snaps.items k d) (get_or c.tick_all.new.snaps k d) =
    subst (λ (xs : List (Kept g.row.B.Denot)). (k : ℕ) (d : Kept g.row.B.Denot) → k < length xs → IsSnapLater m g.B.Block.layers c.args.seconds (get_or xs k d) (get_or c.tick_all.new.snaps k d)) c.as_mut_slice.ensures.value c.tick_all.ensures.each in
    let ticked : IsTicked m g.B.Block.layers c.args.seconds v w = record {
      origin = record { moved = c.tick.ensures.layers; rest = record { contents_are = c.tick.ensures.contents; durable_are = c.tick.ensures.durable; size_is = c.tick.ensures.size; faults_are = c.tick.ensures.faults; done_are = c.tick.ensures.done } };
      count = whole_len;
      snaps = each;
      merge = c.tick_merge.ensures.later;
      becomes = refl;
    } in
    let added : (k : ℕ) (d : Kept g.row.B.Denot) → k < length c.self.inside.snaps.items → AddsNow (g.B.Block.may_hold (get_or c.self.inside.snaps.items k d).device) (g.B.Block.may_hold (get_or c.tick_all.new.snaps k d).device) (g.B.Block.contents (get_or c.tick_all.new.snaps k d).device) =
    subst (λ (xs : List (Kept g.row.B.Denot)). (k : ℕ) (d : Kept g.row.B.Denot) → k < length xs → AddsNow (g.B.Block.may_hold (get_or xs k d).device) (g.B.Block.may_hold (get_or c.tick_all.new.snaps k d).device) (g.B.Block.contents (get_or c.tick_all.new.snaps k d).device)) c.as_mut_slice.ensures.value c.tick_all.ensures.adds in
    rw (← c.self.view_is, there) (record {
      does = record {
        ticked = ticked;
        moving = (λ (replied : Option Reply). ticked_moving m g.B.Block.layers c.args.seconds replied v w ticked);
        books = (books_of_alike g.B.Block.contents g.B.Block.layers g.B.Block.size v w (ticked_alike m g.B.Block.layers c.args.seconds v w ticked));
        plain = (plain_alike g.B.Block.contents g.B.Block.layers g.B.Block.size v w (ticked_alike m g.B.Block.layers c.args.seconds v w ticked));
        loud = (loud_alike g.B.Block.contents g.B.Block.layers g.B.Block.size v w (ticked_alike m g.B.Block.layers c.args.seconds v w ticked));
        opens = (alike_opens g.B.Block.may_hold g.B.Block.contents g.B.Block.layers g.B.Block.size g.met.B.Block.whole g.met.B.Block.holds_now v w (ticked_alike m g.B.Block.layers c.args.seconds v w ticked) (record { origin = adds_none _ _ _ c.tick.ensures.stop; snaps = added; merge = c.tick_merge.ensures.adds }));
      };
    })
