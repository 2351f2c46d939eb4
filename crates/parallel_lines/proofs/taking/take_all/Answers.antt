-- One volume more is taken out, or stays.
use Rattle.std.proofs.Common.{◌≡◌, ℕ, ◌+◌, ◌<◌, ◌++◌, ◌∷◌, [], Bool, List, false, get_or, length, take, drop, refl, ap, sym, ◌∙◌, subst, arith}
use Rattle.std.specs.Option.{option_to_list}
use Rattle.std.proofs.lemmas.List.{get_or_default, length_push, map-append, take-map}
use Rattle.device_list.specs.Backed.{Backed}
use Rattle.device_list.proofs.Showing.{shown_in, shown_many, shown_within}
use Rattle.parallel_lines.specs.declared.taking.Slot.{Slot}
use Rattle.parallel_lines.specs.Taking.{AreSlots}
use Rattle.parallel_lines.proofs.Slots.{front_left, one_taken}
use Rattle.parallel_lines.proofs.taking.take_all.Goals as goal

pub loop-volume-preserved : goal.loop-volume-preserved
loop-volume-preserved c =
    let old = c.loop-volume.invariant in
    let left = c.pop.new.self.items in
    let all = c.args.volumes.now.items in
    let used = c.args.used.now in
    let v = c.in-Some.volume in
    let was : c.loop-volume.volumes.items ≡ left ++ v ∷ [] = c.pop.ensures.items ∙ ap (λ r. left ++ option_to_list r) c.in-Some.is in
    let more : length c.loop-volume.volumes.items ≡ length left + 1 = ap length was ∙ length_push left v in
    let front : left ++ v ∷ [] ≡ take (length left + 1) all = sym was ∙ old.front ∙ ap (λ (n : ℕ). take n all) more in
    let low : length left < length all = omega (arith, more, old.few) in
    let as_many : length used ≡ length all = omega (arith, c.requires.many) in
    let shown_front : shown_in left ++ v.shown ∷ [] ≡ take (length left + 1) (shown_in all) = sym (map-append (λ (w : Backed). w.shown) left (v ∷ [])) ∙ ap shown_in front ∙ sym (take-map (λ (w : Backed). w.shown) (length left + 1) all) in
    let here : c.len.result ≡ length left = omega (arith, c.len.ensures) in
    let flag : Bool = get_or used c.len.result false in
    let is_flag : flag ≡ get_or used (length left) flag = ap (λ (n : ℕ). get_or used n false) here ∙ get_or_default used (length left) false flag (omega (arith, low, as_many)) in
    let slots : AreSlots (drop (length left + 1) used) c.loop-volume.slots.items c.loop-volume.audits.items (drop (length left + 1) (shown_in all)) =
    subst (λ (n : ℕ). AreSlots (drop n used) c.loop-volume.slots.items c.loop-volume.audits.items (drop n (shown_in all))) more old.slots in
    record {
      front = front_left all left v (length left) low front;
      few = omega (arith, low);
      slots = subst (λ (l : List Slot). AreSlots (drop (length left) used) l c.take.new.audits.items (drop (length left) (shown_in all))) (sym c.push_reserved.ensures.items)
          (one_taken used (shown_in all) (shown_in left) v.shown (length left) flag c.loop-volume.slots.items c.take.result c.take.new.audits.items c.loop-volume.audits.items (sym (shown_many left)) (shown_within all (length left) low) (as_many ∙ sym (shown_many all)) shown_front is_flag slots c.take.ensures.slot);
      many = omega (arith, old.many);
      taken = omega (arith, old.taken);
      room = c.pop.ensures.capacity ∙ old.room;
      slot_room = omega (arith, old.slot_room);
      audit_room = omega (arith, old.audit_room);
    }
