-- The snapshot that was opened is the last one.
use Rattle.std.proofs.Common.{◌≡◌, ◌*◌, ◌+◌, ◌<◌, ◌≤◌, ℕ, List, [], ◌∷◌, ◌++◌, length, inl, inr, get_or, refl, sym, ◌∙◌, ap, subst, arith, true, false, Option, ⊎_elim}
use Rattle.std.specs.Prelude.{Some, None}
use Rattle.std.specs.Option.{is_some}
use Rattle.plain_machine.specs.Plain.{overflow_of}
use Rattle.volume_laws.specs.Steps.{IsNewSnap}
use Rattle.cow_header.specs.HeaderText.{found_in}
use Rattle.sector.specs.Bytes.{sector_at}
use Rattle.std.proofs.Math.Seq.{get_or-append_seam}
use Rattle.snapshot.specs.Kept.{Kept, books_of as snap_books}
use Rattle.snapshot.specs.StopsOpening.{Leaves, MayOpen}
use Rattle.device.specs.Layers.{is_loud}
use Rattle.store.specs.Opening.{IsRefused}
use Rattle.snapshot.specs.Opening.{shown_array}
use Rattle.snapshot.proofs.Openings.{opened_origin}
use Rattle.volume.specs.Volumed.{Volumed, plain_of}
use Rattle.snapshot_list.specs.Numbers.{numbers_in}
use Rattle.volume.specs.Whole.{IsCounted}
use Rattle.volume.specs.Leaving.{is_quiet_of}
use Rattle.volume.specs.Taking.{attach_refusal}
use Rattle.volume.proofs.Quieted.{quiet_flights}
use Rattle.volume.proofs.Attaches.{attach_fresh, taking_none, none_begun, whole_taken, plain_taken_as}
use Rattle.chunk.specs.Sizes.{is_chunk}
use Rattle.chunk.proofs.Limits.{is_chunk-some}
use Rattle.plain_machine.specs.Legal.{IsTaken}
use Rattle.sector.specs.declared.refusal.Refusal.{Refusal}
use Rattle.sector.specs.declared.refusal.Refusal.TheVariants.{NoMemory}
use Rattle.volume.specs.Moved.{device_of}
use Rattle.volume.specs.Attached.{IsCountedFor, store_of, volume_in, IsTriedOrigin}
use Rattle.volume.proofs.AttachedAs.{number_left, refused_before, admitted, count_in, resting, attached_is, back_is, unzeroed_of, unfirm_of, size_opened, loud_taken_as}
use Rattle.volume.proofs.TriedOrigins.{over, over_whole, over_shown, refused_over, tried_flushed, tried_back}
use Rattle.crash_laws.specs.Firm.{IsFirm}
use Rattle.volume.proofs.LastOne.{IsSameDevice}
use Rattle.volume.proofs.LastMoves.{all_left_by}
use Rattle.volume.proofs.Lefts.{all_same}
use Rattle.volume.proofs.OriginLasts.{origin_met}
use Rattle.volume.proofs.MergeStarts.{new_lasts}
use Rattle.volume.proofs.BeginLasts.{attached_all}
use Rattle.whole_commands.proofs.Starved.{other_memory, starved_by}
use Rattle.volume.specs.Layering.{Measures}
use Rattle.volume.proofs.Between.{not_attached, not_tried}
use Rattle.volume.proofs.volume.Volume.attach.Goals as goal

pub push_reserved-requires : goal.push_reserved-requires
push_reserved-requires g c = omega (arith, c.in-Ok.ensures.ok)

pub invariant_of-self-in-Ok-open_snapshot : goal.invariant_of-self-in-Ok-open_snapshot
invariant_of-self-in-Ok-open_snapshot g c = record {
  whole =
      let v : Volumed g.row.B.Denot = record { origin = c.self.inside.origin; snaps = c.self.inside.snaps.items; merge = c.self.inside.merge; flights = c.self.inside.flights.items; requests = c.self.inside.requests; copies = c.self.inside.copies; attached = c.self.inside.attached } in
      let d = c.open_snapshot.new.origin in
      let t : IsTriedOrigin g.B.Block.contents g.B.Block.layers g.B.Block.size v.origin d = tried_flushed g.B.Block.contents g.B.Block.layers g.B.Block.size g.B.Block.fault_count g.B.Block.done_count true v.origin d c.in-Ok-open_snapshot.ensures.origin in
      let s : Kept g.row.B.Denot = c.in-Ok-open_snapshot.snap in
      let now = c.args.self.now in
      let admitted = taking_none c.args.store.stale (is_some c.args.self.now.merge) (is_quiet_of c.args.self.now) (length c.args.self.now.snaps) c.args.self.now.attached c.args.chunk (sym c.in-None.ensures.value) in
      let none : v.flights ≡ [] = ap (λ (x : Volumed g.row.B.Denot). x.flights) c.self.view_is ∙ quiet_flights c.args.self.now admitted.0 in
      let alone : v.merge ≡ None = none_begun v.merge (ap (λ (x : Volumed g.row.B.Denot). is_some x.merge) c.self.view_is ∙ admitted.2) in
      let same : length v.snaps ≡ length c.args.self.now.snaps = ap (λ (x : Volumed g.row.B.Denot). length x.snaps) c.self.view_is in
      let room : length v.snaps < 8 = omega (arith, same, admitted.1) in
      let o = c.in-Ok-open_snapshot.ensures.opened in
      let number : s.number ≡ v.attached + 1 = ap (λ (x : Kept g.row.B.Denot). x.number) o.fields in
      let new : IsNewSnap (g.B.Block.contents d) (snap_books g.B.Block.contents g.B.Block.layers s) = c.in-Ok-open_snapshot.ensures.new (g.B.Block.contents d) (g.met.B.Block.whole d ∙ ap (λ n. 512 * n) t.size_is) in
      let origin : s.state.origin ≡ g.B.Block.size d = ap (λ (x : Kept g.row.B.Denot). x.state.origin) o.fields ∙ opened_origin c.args.chunk (g.B.Block.size v.origin) (g.B.Block.size c.args.store.device) (g.B.Block.contents c.args.store.device) o.loaded s.pairs o.opened ∙ sym t.size_is in
      let sized : s.state.size ≡ g.B.Block.size c.args.store.device = size_opened g.B.Block.contents g.B.Block.layers (v.attached + 1) c.args.chunk (g.B.Block.size v.origin) (g.B.Block.size c.args.store.device) c.args.overflow c.args.store.device s o in
      let small : s.state.size ≤ 2_147_483_648 = omega (arith, sized, g.met.B.Block.small c.args.store.device) in
      let allowed : is_chunk s.state.chunk ≡ true = subst (λ n. is_chunk n ≡ true) c.chunk.ensures.is c.chunk.ensures.allowed in
      let idle : numbers_in s ≡ [] = ap (λ (x : Kept g.row.B.Denot). numbers_in x) o.fields in
      let copies : s.copies ≡ [] = ap (λ (x : Kept g.row.B.Denot). x.copies) o.fields in
      let counts : IsCounted s = record { some = new.text.some; count = c.in-Ok-open_snapshot.ensures.counted; fits = λ _. c.in-Ok-open_snapshot.ensures.unfilled; idle = λ _. copies } in
      rw (c.push_reserved.ensures.items, c.reserve.ensures.items) (whole_taken g.B.Block.contents g.B.Block.layers g.B.Block.size (over g.B.Block.contents g.B.Block.layers g.B.Block.size v d t) s none alone (over_whole g.B.Block.contents g.B.Block.layers g.B.Block.size v d t c.self.invariant.whole) number new room small origin allowed idle counts);
  lasting =
      let v : Volumed g.row.B.Denot = record { origin = c.self.inside.origin; snaps = c.self.inside.snaps.items; merge = c.self.inside.merge; flights = c.self.inside.flights.items; requests = c.self.inside.requests; copies = c.self.inside.copies; attached = c.self.inside.attached } in
      let d = c.open_snapshot.new.origin in
      let t : IsTriedOrigin g.B.Block.contents g.B.Block.layers g.B.Block.size v.origin d = tried_flushed g.B.Block.contents g.B.Block.layers g.B.Block.size g.B.Block.fault_count g.B.Block.done_count true v.origin d c.in-Ok-open_snapshot.ensures.origin in
      let s : Kept g.row.B.Denot = c.in-Ok-open_snapshot.snap in
      let e = c.in-Ok-open_snapshot.ensures in
      let o = e.opened in
      let disk : IsSameDevice g.B.Block.may_hold g.B.Block.contents g.B.Block.layers g.B.Block.size v.origin d = record { adds = λ lo x b there. inl (c.open_snapshot.ensures.origin_kept x b there); bytes = t.contents_are; sectors = t.size_is; loud = t.loud_is } in
      let w : Volumed g.row.B.Denot = record v { origin = d } in
      let all = (all_left_by g.B.Block.may_hold g.B.Block.contents g.B.Block.layers g.B.Block.size g.met.B.Block.whole g.met.B.Block.holds_now v c.self.invariant.whole c.self.invariant.lasting.snaps None w disk (all_same v.snaps v.snaps refl)).lasts in
      let array = (origin_met g.B.Block.may_hold g.B.Block.contents g.B.Block.layers g.B.Block.size g.met.B.Block.whole g.met.B.Block.holds_now v c.self.invariant.whole c.self.invariant.lasting.merge None w disk refl).lasts in
      let fits : s.state.origin ≡ g.B.Block.size d = ap (λ (x : Kept g.row.B.Denot). x.state.origin) o.fields ∙ opened_origin c.args.chunk (g.B.Block.size v.origin) (g.B.Block.size c.args.store.device) (g.B.Block.contents c.args.store.device) o.loaded s.pairs o.opened ∙ sym t.size_is in
      let unzeroed : s.state.zeroed ≡ false = unzeroed_of g.B.Block.contents g.B.Block.layers (v.attached + 1) c.args.chunk (g.B.Block.size v.origin) (g.B.Block.size c.args.store.device) c.args.overflow c.args.store.device s o in
      let unfirm : s.state.firm ≡ false = unfirm_of g.B.Block.contents g.B.Block.layers (v.attached + 1) c.args.chunk (g.B.Block.size v.origin) (g.B.Block.size c.args.store.device) c.args.overflow c.args.store.device s o in
      let firm_o : is_loud (g.B.Block.layers d) ≡ true → IsFirm (g.B.Block.may_hold d) (g.B.Block.contents d) (g.B.Block.size d) = λ lo. e.origin_firm (sym t.loud_is ∙ lo) in
      let firm_s : is_loud (g.B.Block.layers s.device) ≡ true → IsFirm (g.B.Block.may_hold s.device) (g.B.Block.contents s.device) (g.B.Block.size s.device) = λ ls. e.firm (sym e.loud ∙ ls) in
      let new : IsNewSnap (g.B.Block.contents d) (snap_books g.B.Block.contents g.B.Block.layers s) = e.new (g.B.Block.contents d) (g.met.B.Block.whole d ∙ ap (λ n. 512 * n) t.size_is) in
      let one = new_lasts g.B.Block.may_hold g.B.Block.contents g.B.Block.layers g.B.Block.size g.met.B.Block.whole g.met.B.Block.holds_now d s (subst (λ n. 0 < n) c.chunk.ensures.is (is_chunk-some c.chunk.result c.chunk.ensures.allowed)) fits e.in_step (ap (λ (x : Kept g.row.B.Denot). x.live) o.fields) (ap (λ (x : Kept g.row.B.Denot). x.marked) o.fields) (ap (λ (x : Kept g.row.B.Denot). x.copies) o.fields) unzeroed unfirm new.sure e.counted e.unfilled (λ ls. e.rest (sym e.loud ∙ ls)) firm_o firm_s in
      let pushed = c.push_reserved.ensures.items ∙ ap (λ (x : List (Kept g.row.B.Denot)). x ++ s ∷ []) c.reserve.ensures.items in
      rw pushed (record { snaps = attached_all g.B.Block.may_hold g.B.Block.contents g.B.Block.layers g.B.Block.size g.met.B.Block.whole g.met.B.Block.holds_now d v.snaps s all one; merge = array });
}

pub returns-in-Ok-open_snapshot-clause-does : goal.returns-in-Ok-open_snapshot-clause-does
returns-in-Ok-open_snapshot-clause-does g c =
    let v : Volumed g.row.B.Denot = record { origin = c.self.inside.origin; snaps = c.self.inside.snaps.items; merge = c.self.inside.merge; flights = c.self.inside.flights.items; requests = c.self.inside.requests; copies = c.self.inside.copies; attached = c.self.inside.attached } in
    let d = c.open_snapshot.new.origin in
    let t : IsTriedOrigin g.B.Block.contents g.B.Block.layers g.B.Block.size v.origin d = tried_flushed g.B.Block.contents g.B.Block.layers g.B.Block.size g.B.Block.fault_count g.B.Block.done_count true v.origin d c.in-Ok-open_snapshot.ensures.origin in
    let s : Kept g.row.B.Denot = c.in-Ok-open_snapshot.snap in
    let pushed = c.push_reserved.ensures.items ∙ ap (λ (x : List (Kept g.row.B.Denot)). x ++ s ∷ []) c.reserve.ensures.items in
    let o = c.in-Ok-open_snapshot.ensures.opened in
    let here : length c.args.self.now.snaps ≡ length v.snaps = ap (λ (x : Volumed g.row.B.Denot). length x.snaps) (sym c.self.view_is) in
    record {
      number = ap (λ (x : Volumed g.row.B.Denot). x.attached + 1) c.self.view_is;
      admitted = sym c.in-None.ensures.value;
      taken =
          λ _ loud.
          let admitted = taking_none c.args.store.stale (is_some c.args.self.now.merge) (is_quiet_of c.args.self.now) (length c.args.self.now.snaps) c.args.self.now.attached c.args.chunk (sym c.in-None.ensures.value) in
          let none : v.flights ≡ [] = ap (λ (x : Volumed g.row.B.Denot). x.flights) c.self.view_is ∙ quiet_flights c.args.self.now admitted.0 in
          let alone : v.merge ≡ None = none_begun v.merge (ap (λ (x : Volumed g.row.B.Denot). is_some x.merge) c.self.view_is ∙ admitted.2) in
          let number : s.number ≡ v.attached + 1 = ap (λ (x : Kept g.row.B.Denot). x.number) c.in-Ok-open_snapshot.ensures.opened.fields in
          let new : IsNewSnap (g.B.Block.contents d) (snap_books g.B.Block.contents g.B.Block.layers s) = c.in-Ok-open_snapshot.ensures.new (g.B.Block.contents d) (g.met.B.Block.whole d ∙ ap (λ n. 512 * n) t.size_is) in
          let shows = c.in-Ok-open_snapshot.ensures.shown loud (g.B.Block.contents d) ∙ ap (λ b. shown_array b (g.B.Block.contents c.args.store.device)) t.contents_are in
          let array : List ℕ = shown_array (g.B.Block.contents v.origin) (g.B.Block.contents c.args.store.device) in
          let step = plain_taken_as g.B.Block.contents g.B.Block.layers g.B.Block.size (over g.B.Block.contents g.B.Block.layers g.B.Block.size v d t) s none alone (over_whole g.B.Block.contents g.B.Block.layers g.B.Block.size v d t c.self.invariant.whole) number new array (overflow_of c.args.overflow) c.push_reserved.new.self.items (ap (λ (x : Kept g.row.B.Denot). x.overflow) c.in-Ok-open_snapshot.ensures.opened.fields) pushed shows in
          rw (← c.self.view_is) (subst (λ p. IsTaken p (v.attached + 1) array (overflow_of c.args.overflow) (plain_of g.B.Block.contents g.B.Block.layers (record v { origin = d; snaps = c.push_reserved.new.self.items; attached = v.attached + 1 }))) (over_shown g.B.Block.contents g.B.Block.layers g.B.Block.size v d t) step);
      unread = tt;
      gained =
          rw (← c.self.view_is) (record {
            snap = c.in-Ok-open_snapshot.snap;
            becomes = rw pushed refl;
            origin = t;
            flushed = c.in-Ok-open_snapshot.ensures.origin.operation.layers;
            number_is = ap (λ (x : Kept g.row.B.Denot). x.number) o.fields;
            fresh = attach_fresh g.B.Block.contents g.B.Block.layers g.B.Block.size _ c.self.invariant.whole _ refl;
            live = ap (λ (x : Kept g.row.B.Denot). x.live) o.fields;
            stale = ap (λ (x : Kept g.row.B.Denot). x.stale) o.fields;
            untried = ap (λ (x : Kept g.row.B.Denot). x.untried) o.fields;
            overflow_is = ap (λ (x : Kept g.row.B.Denot). x.overflow) o.fields;
            copies = ap (λ (x : Kept g.row.B.Denot). x.copies) o.fields;
            marks = ap (λ (x : Kept g.row.B.Denot). x.marks) o.fields;
            sizes = c.in-Ok-open_snapshot.ensures.size;
            loud = c.in-Ok-open_snapshot.ensures.loud;
          });
      exact =
          λ _ loud.
          let e = c.in-Ok-open_snapshot.ensures in
          let none : attach_refusal c.args.store.stale c.args.chunk v ≡ None = ap (attach_refusal c.args.store.stale c.args.chunk) c.self.view_is ∙ sym c.in-None.ensures.value in
          let few : c.self.inside.attached ≤ 4294967295 = omega (arith, c.self.ranges) in
          let goes = admitted c.args.store.stale (is_some v.merge) (is_quiet_of v) (length v.snaps) v.attached c.args.chunk (overflow_of c.args.overflow) (store_of g.B.Block.contents g.B.Block.layers c.args.store) (volume_in g.B.Block.contents g.B.Block.layers v) few refl (count_in g.B.Block.contents g.B.Block.layers v) none in
          let opens = e.exact loud in
          let number : s.number ≡ v.attached + 1 = ap (λ (x : Kept g.row.B.Denot). x.number) o.fields in
          let new : IsNewSnap (g.B.Block.contents v.origin) (snap_books g.B.Block.contents g.B.Block.layers s) = e.new (g.B.Block.contents v.origin) (g.met.B.Block.whole v.origin) in
          let unzeroed : s.state.zeroed ≡ false = unzeroed_of g.B.Block.contents g.B.Block.layers (v.attached + 1) c.args.chunk (g.B.Block.size v.origin) (g.B.Block.size c.args.store.device) c.args.overflow c.args.store.device s o in
          let unfirm : s.state.firm ≡ false = unfirm_of g.B.Block.contents g.B.Block.layers (v.attached + 1) c.args.chunk (g.B.Block.size v.origin) (g.B.Block.size c.args.store.device) c.args.overflow c.args.store.device s o in
          let here = resting g.B.Block.contents g.B.Block.layers (g.B.Block.size v.origin) (g.B.Block.size c.args.store.device) c.args.chunk (g.B.Block.contents v.origin) (device_of g.B.Block.contents g.B.Block.layers v.origin) (device_of g.B.Block.contents g.B.Block.layers d) (device_of g.B.Block.contents g.B.Block.layers c.args.store.device) s
          (g.met.B.Block.small v.origin) (g.met.B.Block.small c.args.store.device) (is_chunk-some c.args.chunk goes.0) (g.met.B.Block.whole v.origin) (g.met.B.Block.whole c.args.store.device) opens (e.loud ∙ loud) new o.next unzeroed unfirm (ap (λ (x : Kept g.row.B.Denot). x.marked) o.fields) in
          rw (← c.self.view_is) (attached_is g.B.Block.contents g.B.Block.layers v d (v.attached + 1) (g.B.Block.size v.origin) c.args.chunk c.args.overflow c.args.store s c.push_reserved.new.self.items (g.met.B.Block.whole v.origin) t.contents_are goes.2 opens number
          (ap (λ (x : Kept g.row.B.Denot). x.live) o.fields) (ap (λ (x : Kept g.row.B.Denot). x.overflow) o.fields) (ap (λ (x : Kept g.row.B.Denot). x.stale) o.fields) here pushed);
      back = tt;
      starved = tt;
      size = tt;
      loud = rw (← c.self.view_is) (loud_taken_as g.B.Block.contents g.B.Block.layers v d (v.attached + 1) c.args.store.device s c.push_reserved.new.self.items t.loud_is pushed c.in-Ok-open_snapshot.ensures.loud);
      stops = (c.look_at_stores.ensures.stops, c.look_at_stores-in-Ok-open_snapshot.ensures.stops);
      leaves =
          let pushed : c.push_reserved.new.self.items ≡ v.snaps ++ s ∷ [] = c.push_reserved.ensures.items ∙ ap (λ (ys : List (Kept g.row.B.Denot)). ys ++ s ∷ []) c.reserve.ensures.items in
          let sectors : g.B.Block.size v.origin ≡ g.B.Block.size c.args.self.now.origin = ap (λ (x : Volumed g.row.B.Denot). g.B.Block.size x.origin) c.self.view_is in
          λ loud x at. (let is : x ≡ s = at ∙ ap (λ n. get_or c.push_reserved.new.self.items n x) here ∙ ap (λ ys. get_or ys (length v.snaps) x) pushed ∙ get_or-append_seam v.snaps s [] x in
          subst (λ n. Leaves (g.B.Block.may_hold c.args.store.device) (g.B.Block.may_hold x.device) (g.B.Block.size c.args.store.device) (MayOpen c.args.chunk n (g.B.Block.size c.args.store.device) (g.B.Block.contents c.args.store.device) (found_in (sector_at (g.B.Block.contents c.args.store.device) 0)))) sectors
          (subst (λ (y : Kept g.row.B.Denot). Leaves (g.B.Block.may_hold c.args.store.device) (g.B.Block.may_hold y.device) (g.B.Block.size c.args.store.device) (MayOpen c.args.chunk (g.B.Block.size v.origin) (g.B.Block.size c.args.store.device) (g.B.Block.contents c.args.store.device) (found_in (sector_at (g.B.Block.contents c.args.store.device) 0)))) (sym is) (c.in-Ok-open_snapshot.ensures.leaves loud)));
      leaves_back = tt;
      origin_kept = rw (← c.self.view_is) c.open_snapshot.ensures.origin_kept;
      origin_firm = rw (← c.self.view_is) c.in-Ok-open_snapshot.ensures.origin_firm;
      firm =
          let pushed : c.push_reserved.new.self.items ≡ v.snaps ++ s ∷ [] = c.push_reserved.ensures.items ∙ ap (λ (ys : List (Kept g.row.B.Denot)). ys ++ s ∷ []) c.reserve.ensures.items in
          λ loud x at. (let is : x ≡ s = at ∙ ap (λ n. get_or c.push_reserved.new.self.items n x) here ∙ ap (λ ys. get_or ys (length v.snaps) x) pushed ∙ get_or-append_seam v.snaps s [] x in
          subst (λ (y : Kept g.row.B.Denot). IsFirm (g.B.Block.may_hold y.device) (g.B.Block.contents y.device) (g.B.Block.size y.device)) (sym is) (c.in-Ok-open_snapshot.ensures.firm loud));
      same = tt;
      stale = tt;
      faults = tt;
    }

pub returns-in-Err-open_snapshot-clause-refused : goal.returns-in-Err-open_snapshot-clause-refused
returns-in-Err-open_snapshot-clause-refused g c =
    let size = g.B.Block.size c.args.store.device in
    let bytes = g.B.Block.contents c.args.store.device in
    let sectors : g.B.Block.size c.self.inside.origin ≡ g.B.Block.size c.args.self.now.origin = ap (λ (x : Volumed g.row.B.Denot). g.B.Block.size x.origin) c.self.view_is in
    inr (
      sym c.in-None.ensures.value,
      inr
          (subst (λ (n : ℕ). IsRefused c.args.chunk n (g.B.Block.size c.args.store.device) (g.B.Block.contents c.args.store.device) c.in-Err-open_snapshot.refused.0) sectors c.in-Err-open_snapshot.ensures.refused),
    )

pub returns-in-Err-open_snapshot-clause-does : goal.returns-in-Err-open_snapshot-clause-does
returns-in-Err-open_snapshot-clause-does g c =
    let v : Volumed g.row.B.Denot = record { origin = c.self.inside.origin; snaps = c.self.inside.snaps.items; merge = c.self.inside.merge; flights = c.self.inside.flights.items; requests = c.self.inside.requests; copies = c.self.inside.copies; attached = c.self.inside.attached } in
    record {
      number = tt;
      admitted = tt;
      taken = tt;
      unread = λ first. (let never : ◌≡◌ {A = Option Refusal} None (Some c.in-Err-open_snapshot.refused.0) = c.in-None.ensures.value ∙ first in absurd (cc));
      gained = tt;
      exact = tt;
      back =
          λ some _ quiet _ loud.
          let e = c.in-Err-open_snapshot.ensures in
          let none : attach_refusal c.args.store.stale c.args.chunk v ≡ None = ap (attach_refusal c.args.store.stale c.args.chunk) c.self.view_is ∙ sym c.in-None.ensures.value in
          let few : c.self.inside.attached ≤ 4294967295 = omega (arith, c.self.ranges) in
          let goes = admitted c.args.store.stale (is_some v.merge) (is_quiet_of v) (length v.snaps) v.attached c.args.chunk (overflow_of c.args.overflow) (store_of g.B.Block.contents g.B.Block.layers c.args.store) (volume_in g.B.Block.contents g.B.Block.layers v) few refl (count_in g.B.Block.contents g.B.Block.layers v) none in
          let opens = e.given_back (other_memory c.in-Err-open_snapshot.refused.0 some) loud in
          rw (← c.self.view_is, c.reserve.ensures.items) (back_is g.B.Block.contents g.B.Block.layers v c.open_snapshot.new.origin (v.attached + 1) c.args.chunk c.args.overflow c.args.store c.in-Err-open_snapshot.refused.1 c.in-Err-open_snapshot.refused.0 goes.2 opens (e.stale ∙ goes.1));
      starved = λ is. ⊎_elim c.in-Err-open_snapshot.ensures.starved (λ full. absurd (subst (IsRefused c.args.chunk (g.B.Block.size c.self.inside.origin) (g.B.Block.size c.args.store.device) (g.B.Block.contents c.args.store.device)) full c.in-Err-open_snapshot.ensures.refused)) (starved_by c.in-Err-open_snapshot.refused.0 is);
      size = c.in-Err-open_snapshot.ensures.size;
      loud = c.in-Err-open_snapshot.ensures.loud;
      stops = tt;
      leaves = tt;
      leaves_back =
          let sectors : g.B.Block.size v.origin ≡ g.B.Block.size c.args.self.now.origin = ap (λ (x : Volumed g.row.B.Denot). g.B.Block.size x.origin) c.self.view_is in
          λ loud. subst (λ n. Leaves (g.B.Block.may_hold c.args.store.device) (g.B.Block.may_hold c.in-Err-open_snapshot.refused.1.device) (g.B.Block.size c.args.store.device) (MayOpen c.args.chunk n (g.B.Block.size c.args.store.device) (g.B.Block.contents c.args.store.device) (found_in (sector_at (g.B.Block.contents c.args.store.device) 0)))) sectors (c.in-Err-open_snapshot.ensures.leaves loud);
      origin_kept = rw (← c.self.view_is) c.open_snapshot.ensures.origin_kept;
      origin_firm = tt;
      firm = tt;
      same =
          let d = c.open_snapshot.new.origin in
          let t = tried_back g.B.Block.contents g.B.Block.layers g.B.Block.size g.B.Block.fault_count g.B.Block.done_count c.in-Err-open_snapshot.refused.0 v.origin d c.in-Err-open_snapshot.ensures.origin in
          rw (← c.self.view_is, c.reserve.ensures.items) (refused_over g.B.Block.contents g.B.Block.layers g.B.Block.size v d t.0 c.in-Err-open_snapshot.refused.0 t.1);
      stale = c.in-Err-open_snapshot.ensures.stale;
      faults = subst (λ (x : Volumed g.row.B.Denot). IsCountedFor c.in-Err-open_snapshot.refused.0 (g.B.Block.fault_count c.args.store.device, g.B.Block.fault_count c.in-Err-open_snapshot.refused.1.device) (g.B.Block.fault_count x.origin, g.B.Block.fault_count c.open_snapshot.new.origin)) c.self.view_is c.in-Err-open_snapshot.ensures.faults;
    }

pub returns-in-Some-clause-does : goal.returns-in-Some-clause-does
returns-in-Some-clause-does g c =
    let v : Volumed g.row.B.Denot = record { origin = c.self.inside.origin; snaps = c.self.inside.snaps.items; merge = c.self.inside.merge; flights = c.self.inside.flights.items; requests = c.self.inside.requests; copies = c.self.inside.copies; attached = c.self.inside.attached } in
    let m : Measures g.row.B.Denot = record { contents = g.B.Block.contents; durable = g.B.Block.durable; size = g.B.Block.size; faults = g.B.Block.fault_count; done = g.B.Block.done_count } in
    rw (← c.self.view_is) (not_attached g.B.Block.may_hold m g.B.Block.layers c.args.store c.args.chunk c.args.overflow c.in-Some.refusal v v refl
    (λ _ alone calm.
    let few : c.self.inside.attached ≤ 4294967295 = omega (arith, c.self.ranges) in
    let why : attach_refusal c.args.store.stale c.args.chunk v ≡ Some c.in-Some.refusal = ap (attach_refusal c.args.store.stale c.args.chunk) c.self.view_is ∙ sym c.in-Some.ensures.value in
    let begun : is_some v.merge ≡ false = ap is_some alone in
    refused_before c.args.store.stale (is_some v.merge) (is_quiet_of v) (length v.snaps) v.attached c.args.chunk (overflow_of c.args.overflow) (store_of g.B.Block.contents g.B.Block.layers c.args.store) (volume_in g.B.Block.contents g.B.Block.layers v) c.in-Some.refusal few begun calm refl (count_in g.B.Block.contents g.B.Block.layers v) why)
    c.in-Some.ensures.faultless)

pub overflow_add-number : goal.overflow_add-number
overflow_add-number g c =
    let v : Volumed g.row.B.Denot = record { origin = c.self.inside.origin; snaps = c.self.inside.snaps.items; merge = c.self.inside.merge; flights = c.self.inside.flights.items; requests = c.self.inside.requests; copies = c.self.inside.copies; attached = c.self.inside.attached } in
    let few : c.self.inside.attached ≤ 4294967295 = omega (arith, c.self.ranges) in
    let none : attach_refusal c.args.store.stale c.args.chunk v ≡ None = ap (attach_refusal c.args.store.stale c.args.chunk) c.self.view_is ∙ sym c.in-None.ensures.value in
    let left = number_left c.args.store.stale (is_some v.merge) (is_quiet_of v) (length v.snaps) v.attached c.args.chunk few none in
    omega (arith, left)

pub invariant_of-self-in-Err-open_snapshot : goal.invariant_of-self-in-Err-open_snapshot
invariant_of-self-in-Err-open_snapshot g c = record {
  whole =
      let v : Volumed g.row.B.Denot = record { origin = c.self.inside.origin; snaps = c.self.inside.snaps.items; merge = c.self.inside.merge; flights = c.self.inside.flights.items; requests = c.self.inside.requests; copies = c.self.inside.copies; attached = c.self.inside.attached } in
      let d = c.open_snapshot.new.origin in
      let t = tried_back g.B.Block.contents g.B.Block.layers g.B.Block.size g.B.Block.fault_count g.B.Block.done_count c.in-Err-open_snapshot.refused.0 v.origin d c.in-Err-open_snapshot.ensures.origin in
      rw c.reserve.ensures.items (over_whole g.B.Block.contents g.B.Block.layers g.B.Block.size v d t.0 c.self.invariant.whole);
  lasting =
      let v : Volumed g.row.B.Denot = record { origin = c.self.inside.origin; snaps = c.self.inside.snaps.items; merge = c.self.inside.merge; flights = c.self.inside.flights.items; requests = c.self.inside.requests; copies = c.self.inside.copies; attached = c.self.inside.attached } in
      let d = c.open_snapshot.new.origin in
      let t = tried_back g.B.Block.contents g.B.Block.layers g.B.Block.size g.B.Block.fault_count g.B.Block.done_count c.in-Err-open_snapshot.refused.0 v.origin d c.in-Err-open_snapshot.ensures.origin in
      let disk : IsSameDevice g.B.Block.may_hold g.B.Block.contents g.B.Block.layers g.B.Block.size v.origin d = record { adds = λ lo x b there. inl (c.open_snapshot.ensures.origin_kept x b there); bytes = t.0.contents_are; sectors = t.0.size_is; loud = t.0.loud_is } in
      let w : Volumed g.row.B.Denot = record v { origin = d } in
      let all = (all_left_by g.B.Block.may_hold g.B.Block.contents g.B.Block.layers g.B.Block.size g.met.B.Block.whole g.met.B.Block.holds_now v c.self.invariant.whole c.self.invariant.lasting.snaps None w disk (all_same v.snaps v.snaps refl)).lasts in
      let array = (origin_met g.B.Block.may_hold g.B.Block.contents g.B.Block.layers g.B.Block.size g.met.B.Block.whole g.met.B.Block.holds_now v c.self.invariant.whole c.self.invariant.lasting.merge None w disk refl).lasts in
      rw c.reserve.ensures.items (record { snaps = all; merge = array });
}

pub returns-in-Err-clause-does : goal.returns-in-Err-clause-does
returns-in-Err-clause-does g c =
    let v : Volumed g.row.B.Denot = record { origin = c.self.inside.origin; snaps = c.self.inside.snaps.items; merge = c.self.inside.merge; flights = c.self.inside.flights.items; requests = c.self.inside.requests; copies = c.self.inside.copies; attached = c.self.inside.attached } in
    let m : Measures g.row.B.Denot = record { contents = g.B.Block.contents; durable = g.B.Block.durable; size = g.B.Block.size; faults = g.B.Block.fault_count; done = g.B.Block.done_count } in
    rw (← c.self.view_is, c.reserve.ensures.items) (not_tried g.B.Block.may_hold m g.B.Block.layers c.args.store c.args.chunk c.args.overflow NoMemory v v refl refl)
