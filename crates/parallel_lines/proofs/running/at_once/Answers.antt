-- Each volume comes back to its place.
use Rattle.std.proofs.Common.{◌≡◌, ◌≤◌, ◌++◌, ◌∷◌, [], List, length, refl, ap, sym, ◌∙◌, subst, arith}
use Rattle.std.specs.Option.{option_to_list}
use Rattle.std.proofs.lemmas.List.{map-append}
use Rattle.command_semantics.specs.State.{Volume}
use Rattle.device_list.specs.Backed.{Backed}
use Rattle.device_list.proofs.Showing.{shown_in}
use Rattle.parallel_threads.specs.Tasks.{tasks_at}
use Rattle.parallel_lines.specs.declared.taking.Slot.{Slot}
use Rattle.parallel_lines.proofs.Ends.{made_asked, made_played, made_run, made_told}
use Rattle.parallel_lines.proofs.Made.{uses_of}
use Rattle.parallel_lines.proofs.Runs.{none_run}
use Rattle.parallel_lines.specs.Spared.{AreSpared}
use Rattle.parallel_lines.proofs.Spares.{all_spared, made_spared, on_error}
use Rattle.parallel_lines.proofs.Slots.{AreLeft, first_left, none_held, none_left, none_popped, one_left, slot_left}
use Rattle.parallel_lines.proofs.running.at_once.Goals as goal

pub returns-in_err-slots-clause-volumes : goal.returns-in_err-slots-clause-volumes
returns-in_err-slots-clause-volumes g c = none_run c.args.used.now (shown_in c.args.held.now.volumes.items) c.requires.many

pub returns-in_err-audits-clause-volumes : goal.returns-in_err-audits-clause-volumes
returns-in_err-audits-clause-volumes g c = none_run c.args.used.now (shown_in c.args.held.now.volumes.items) c.requires.many

pub run-audits-requires-clause-none : goal.run-audits-requires-clause-none
run-audits-requires-clause-none g c lives outlives =
    none_held c.args.used.now c.take_all.new.slots.items c.take_all.new.audits.items (shown_in c.args.held.now.volumes.items) c.take_all.ensures.slots

pub loop-slot-init : goal.loop-slot-init
loop-slot-init g c = let none = ap length c.take_all.ensures.empty in record {
  stacks = refl;
  room = omega (arith, none, c.take_all.ensures.few, c.take_all.ensures.room);
  left = (
    c.take_all.new.audits.items,
    first_left c.args.used.now (shown_in c.args.held.now.volumes.items) c.take_all.new.audits.items c.run-audits.result.0.items c.take_all.new.slots.items (shown_in c.take_all.new.volumes.items) (ap shown_in c.take_all.ensures.empty) c.take_all.ensures.slots c.run-audits.ensures.left,
    c.run-audits.ensures.told,
    c.run-audits.ensures.spared,
    c.run-audits.ensures.asked,
  );
}

pub put_back-requires : goal.put_back-requires
put_back-requires g c =
    let was : c.loop-slot.slots.items ≡ c.pop.new.self.items ++ c.in-Some.slot ∷ [] = c.pop.ensures.items ∙ ap (λ r. c.pop.new.self.items ++ option_to_list r) c.in-Some.is in
    let olds = shown_in c.args.held.now.volumes.items in
    let befores = c.loop-slot.invariant.left.0 in
    let afters = c.run-audits.result.0.items in
    slot_left c.args.used.now olds befores afters c.pop.new.self.items c.in-Some.slot c.loop-slot.audits.items (shown_in c.loop-slot.held.volumes.items)
    (subst (λ (l : List Slot). AreLeft c.args.used.now olds befores afters l c.loop-slot.audits.items (shown_in c.loop-slot.held.volumes.items)) was c.loop-slot.invariant.left.1)

pub loop-slot-preserved : goal.loop-slot-preserved
loop-slot-preserved g c =
    let was : c.loop-slot.slots.items ≡ c.pop.new.self.items ++ c.in-Some.slot ∷ [] = c.pop.ensures.items ∙ ap (λ r. c.pop.new.self.items ++ option_to_list r) c.in-Some.is in
    let olds = shown_in c.args.held.now.volumes.items in
    let befores = c.loop-slot.invariant.left.0 in
    let afters = c.run-audits.result.0.items in
    let left = one_left c.args.used.now olds befores afters c.pop.new.self.items c.in-Some.slot c.loop-slot.audits.items c.put_back.new.audits.items (shown_in c.loop-slot.held.volumes.items) c.put_back.result.shown
    (subst (λ (l : List Slot). AreLeft c.args.used.now olds befores afters l c.loop-slot.audits.items (shown_in c.loop-slot.held.volumes.items)) was c.loop-slot.invariant.left.1)
    c.put_back.ensures.put c.put_back.ensures.others in
    record {
      stacks = c.loop-slot.invariant.stacks;
      room = omega (arith, c.loop-slot.invariant.room, c.in-Some.ensures.cases, c.push_reserved.ensures.len, c.push_reserved.ensures.capacity);
      left = (befores, subst (λ (l : List Volume). AreLeft c.args.used.now olds befores afters c.pop.new.self.items c.put_back.new.audits.items l) (sym (ap shown_in c.push_reserved.ensures.items ∙ map-append (λ (w : Backed). w.shown) c.loop-slot.held.volumes.items (c.put_back.result ∷ []))) left, c.loop-slot.invariant.left.2, c.loop-slot.invariant.left.3, c.loop-slot.invariant.left.4);
    }

pub returns-then-ran-clause-volumes : goal.returns-then-ran-clause-volumes
returns-then-ran-clause-volumes g c =
    let olds = shown_in c.args.held.now.volumes.items in
    let befores = c.loop-slot.invariant.left.0 in
    let afters = c.run-audits.result.0.items in
    let made = none_left c.args.used.now olds befores afters c.loop-slot.slots.items c.loop-slot.audits.items (shown_in c.loop-slot.held.volumes.items) (none_popped c.loop-slot.slots.items c.loop-slot.slots.len c.pop.new.self.len c.pop.result (omega (arith, c.loop-slot.slots.ok)) c.pop.ensures.cases c.in_default.not-Some) c.loop-slot.invariant.left.1 in
    made_run c.args.used.now befores afters made.0 olds (shown_in c.loop-slot.held.volumes.items) made.1

pub returns-then-ran-clause-played : goal.returns-then-ran-clause-played
returns-then-ran-clause-played g c =
    let olds = shown_in c.args.held.now.volumes.items in
    let befores = c.loop-slot.invariant.left.0 in
    let afters = c.run-audits.result.0.items in
    let made = none_left c.args.used.now olds befores afters c.loop-slot.slots.items c.loop-slot.audits.items (shown_in c.loop-slot.held.volumes.items) (none_popped c.loop-slot.slots.items c.loop-slot.slots.len c.pop.new.self.len c.pop.result (omega (arith, c.loop-slot.slots.ok)) c.pop.ensures.cases c.in_default.not-Some) c.loop-slot.invariant.left.1 in
    let all : uses_of c.args.used.now ≤ length afters = omega (arith, c.count_used.ensures, c.run-audits.ensures.many c.if-ran.true) in (
      made.0,
      made_played c.args.used.now befores afters made.0 olds (shown_in c.loop-slot.held.volumes.items) made.1 all,
      made_told c.args.used.now befores afters made.0 olds (shown_in c.loop-slot.held.volumes.items) (tasks_at c.args.tasks.now.items) (tasks_at c.run-audits.new.tasks.items) made.1 (c.loop-slot.invariant.left.2 c.if-ran.true),
      made_asked c.args.used.now befores afters made.0 olds (shown_in c.loop-slot.held.volumes.items) (tasks_at c.args.tasks.now.items) made.1 (c.loop-slot.invariant.left.4 c.if-ran.true),
    )

pub returns-clause-volumes : goal.returns-clause-volumes
returns-clause-volumes g c =
    let olds = shown_in c.args.held.now.volumes.items in
    let befores = c.loop-slot.invariant.left.0 in
    let afters = c.run-audits.result.0.items in
    let made = none_left c.args.used.now olds befores afters c.loop-slot.slots.items c.loop-slot.audits.items (shown_in c.loop-slot.held.volumes.items) (none_popped c.loop-slot.slots.items c.loop-slot.slots.len c.pop.new.self.len c.pop.result (omega (arith, c.loop-slot.slots.ok)) c.pop.ensures.cases c.in_default.not-Some) c.loop-slot.invariant.left.1 in
    made_run c.args.used.now befores afters made.0 olds (shown_in c.loop-slot.held.volumes.items) made.1

pub returns-in_err-slots-clause-spared : goal.returns-in_err-slots-clause-spared
returns-in_err-slots-clause-spared g c = on_error (AreSpared (shown_in c.args.held.now.volumes.items) (shown_in c.args.held.now.volumes.items)) _ (all_spared (shown_in c.args.held.now.volumes.items))

pub returns-in_err-audits-clause-spared : goal.returns-in_err-audits-clause-spared
returns-in_err-audits-clause-spared g c = on_error (AreSpared (shown_in c.args.held.now.volumes.items) (shown_in c.args.held.now.volumes.items)) _ (all_spared (shown_in c.args.held.now.volumes.items))

pub returns-clause-spared : goal.returns-clause-spared
returns-clause-spared g c =
    let olds = shown_in c.args.held.now.volumes.items in
    let befores = c.loop-slot.invariant.left.0 in
    let afters = c.run-audits.result.0.items in
    let made = none_left c.args.used.now olds befores afters c.loop-slot.slots.items c.loop-slot.audits.items (shown_in c.loop-slot.held.volumes.items) (none_popped c.loop-slot.slots.items c.loop-slot.slots.len c.pop.new.self.len c.pop.result (omega (arith, c.loop-slot.slots.ok)) c.pop.ensures.cases c.in_default.not-Some) c.loop-slot.invariant.left.1 in
    made_spared c.args.used.now befores afters made.0 olds (shown_in c.loop-slot.held.volumes.items) made.1 (c.loop-slot.invariant.left.3 c.if-ran.false)
