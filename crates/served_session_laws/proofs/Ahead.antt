-- What devices do ahead is not seen: what is known of arrays that were made last stays known.
use Rattle.std.proofs.Common.{◌≡◌, ◌==◌, ℕ, ◌*◌, ◌<◌, true, List, [], length, get_or, map, Option, None, Some, refl, sym, ◌∙◌, ap, subst, arith}
use Rattle.std.proofs.lemmas.List.{get_or_default}
use Rattle.sector.specs.Bytes.{sector_at}
use Rattle.device.specs.Layers.{Layer}
use Rattle.crash_laws.specs.Stop.{MayLeave}
use Rattle.in_flight.specs.Kinds.{in_flight}
use Rattle.event_machine.specs.Held.{Going}
use Rattle.event_machine.specs.Seen.{going_of}
use Rattle.event_machine.specs.Stepping.{first_that}
use Rattle.snapshot.specs.Kept.{Kept}
use Rattle.merge.specs.Merging.{Merging}
use Rattle.volume.specs.Adding.{LeavesNoMore, MergeLeavesNoMore}
use Rattle.volume.specs.Causes.{IsAt}
use Rattle.volume.specs.DoesAhead.{AreAhead, DoesAhead, IsMergeAhead, IsSnapAhead}
use Rattle.volume.specs.Layering.{Measures}
use Rattle.volume.specs.Volumed.{Volumed, is_loud_in_all}
use Rattle.volume.proofs.Opened.{IsEarlier, IsEarlierMerge}
use Rattle.volume.proofs.OpenedCalls.{opens_none}
use Rattle.volume_lifetime.specs.Flushed.{History}
use Rattle.volume_lifetime.proofs.Histories.{Follows, Known, MergeFollows, Waits, known_on, opened_of}

module _ {B : Type 0} (holds : B → ℕ → List ℕ → Type 0) (m : Measures B) (layers : B → List Layer) (v w : Volumed B) (ahead : DoesAhead holds m.contents layers m.size m.faults m.done v w) (loud : is_loud_in_all layers w ≡ true) where
  flights_are : w.flights ≡ v.flights
  flights_are = ap (λ (x : Volumed B). x.flights) ahead.devices.becomes

  waits : (n : ℕ) → Waits holds m layers v n → Waits holds m layers w n
  waits n w = record { going = w.going; first = ap (λ fs. first_that (λ (k : Going). k.number == n) (map going_of fs)) flights_are ∙ w.first; whole = w.whole; kind = w.kind }

  earlier : (k : ℕ) (t : Kept B) → IsAt k t w → t.live ≡ true → IsEarlier holds m.size v t
  earlier k t at live =
      let count = ahead.devices.count in
      let inside = at.within in
      let within : k < length v.snaps = omega (arith, inside, count) in
      let b : Kept B = get_or v.snaps k t in
      let one : IsSnapAhead holds m.contents layers m.size m.faults m.done b t = subst (IsSnapAhead holds m.contents layers m.size m.faults m.done b) (sym at.is) (ahead.devices.snaps k t within) in
      let less : LeavesNoMore holds m.size b.device t.device = subst (λ (y : Kept B). LeavesNoMore holds m.size b.device y.device) (sym at.is) ((ahead.opens loud).snaps k t within) in
      record {
        place = k;
        snap = b;
        at = record { within = within; is = get_or_default v.snaps k t b within };
        number = sym (ap (λ (y : Kept B). y.number) one.same);
        live = sym (ap (λ (y : Kept B). y.live) one.same) ∙ live;
        chunk = ap (λ (y : Kept B). y.state.chunk) one.same;
        size_is = one.store.sized;
        less = less;
      }

  earlier_merge : (x y : Option (Merging B)) → IsMergeAhead holds m.contents layers m.size m.faults m.done x y → MergeLeavesNoMore holds m.size x y → IsEarlierMerge holds m.size x y
  earlier_merge None None a less = tt
  earlier_merge None (Some y) a less = absurd a
  earlier_merge (Some x) None a less = absurd a
  earlier_merge (Some x) (Some y) a less = (ap (λ (z : Merging B). z.state.chunk) a.1, a.0.sized, less)

  less_left : (d d' : B) (b : List ℕ) → m.size d' ≡ m.size d → LeavesNoMore holds m.size d d' → MayLeave (holds d') (m.size d') b → MayLeave (holds d) (m.size d) b
  less_left d d' b same less left = record { whole = left.whole ∙ ap (λ k. 512 * k) same; each = λ s lt. less s (sector_at b s) lt (left.each s (subst (λ n. s < n) (sym same) lt)) }

  follows_merge : (x y : Option (Merging B)) → IsMergeAhead holds m.contents layers m.size m.faults m.done x y → MergeLeavesNoMore holds m.size x y → MergeFollows holds m layers x y
  follows_merge None None a less = tt
  follows_merge None (Some y) a less = absurd a
  follows_merge (Some x) None a less = absurd a
  follows_merge (Some x) (Some y) a less = (ap (λ (z : Merging B). z.state.chunk) a.1, λ c out d left. out d (less_left x.device y.device d a.0.sized less left))

  follows : Follows holds m layers v w
  follows = record {
    sectors = ahead.devices.origin.sized;
    opened = opened_of holds m layers v w (opens_none holds m.contents layers m.size [] v w ahead.devices.origin.sized (ahead.opens loud).origin (earlier_merge v.merge w.merge ahead.devices.merge (ahead.opens loud).merge) earlier);
    merge = follows_merge v.merge w.merge ahead.devices.merge (ahead.opens loud).merge;
  }

  pub ahead_known : (h : History) → Known holds m layers v h → Known holds m layers w h
  ahead_known h known = known_on holds m layers v w h follows waits (ap (map in_flight) flights_are) known
