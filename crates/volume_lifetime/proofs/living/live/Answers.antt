-- Each turn does the next deed, and its answer has its place.
use Rattle.std.proofs.Common.{rules, ◌∙◌, ◌++◌, [], ◌∷◌, length, ap, refl, arith}
use Rattle.std.proofs.lemmas.Iterator.Adapters.{YieldsList-from_vec}
use Rattle.std.proofs.lemmas.Iterator.Consumers.{YieldsList-turn, YieldsList-end}
use Rattle.std.proofs.lemmas.List.{length-append}
use Rattle.volume.specs.Layering.{Measures}
use Rattle.volume_lifetime.proofs.Lasts.{ArePassed, IsPassed, all_lasting, all_passed, passed_answered, passed_more}
use Rattle.volume_lifetime.proofs.Lives.{all_lived}
use Rattle.volume_lifetime.proofs.Loses.{all_lose}
use Rattle.volume_lifetime.proofs.living.live.Goals as goal

pub loop-deed-init : goal.loop-deed-init
loop-deed-init g c = record {
  passed = rw c.in-Ok.ensures.items refl;
  count = ap length c.in-Ok.ensures.items;
  room = omega (arith, c.in-Ok.ensures.capacity, c.len.ensures, c.args.deeds.ok);
}

pub push_reserved-requires : goal.push_reserved-requires
push_reserved-requires g c =
    let turn = YieldsList-turn (YieldsList-from_vec {s = c.into_iter-deed-iterator.result} c.args.deeds.items (search rules) (search rules)) c.loop-deed.yielded c.loop-deed.deed-iterator c.loop-deed.yielded_by c.next.result c.next.new.self c.in-Some.deed c.in-Some.is c.next.ensures.steps in
    omega (arith, turn.0, c.loop-deed.invariant.count, c.loop-deed.invariant.room, c.loop-deed.answers.ok)

pub loop-deed-preserved : goal.loop-deed-preserved
loop-deed-preserved g c =
    let m : Measures g.row.B.Denot = record { contents = g.B.Block.contents; durable = g.B.Block.durable; size = g.B.Block.size; faults = g.B.Block.fault_count; done = g.B.Block.done_count } in
    let i = c.loop-deed.invariant in
    let one : IsPassed g.B.Block.may_hold m g.B.Block.layers c.in-Some.deed c.one-answer.result c.loop-deed.volume c.one-answer.new.volume = record { by = c.one-answer.ensures.by; looked = record { unique = c.look_at_numbers.ensures.ascending; some = c.look_at_numbers.ensures.some }; done_is = c.one-answer.ensures.done; opens = c.one-answer.ensures.opens; stops = c.look_at_stores-in-loop-deed.ensures.stops } in
    let more : ArePassed g.B.Block.may_hold m g.B.Block.layers (c.loop-deed.yielded ++ c.in-Some.deed ∷ []) (c.loop-deed.answers.items ++ c.one-answer.result ∷ []) c.args.volume.now c.one-answer.new.volume =
    passed_more g.B.Block.may_hold m g.B.Block.layers c.loop-deed.yielded c.loop-deed.answers.items c.in-Some.deed c.one-answer.result c.args.volume.now c.loop-deed.volume c.one-answer.new.volume i.passed one in
    record {
      passed = rw c.push_reserved.ensures.items more;
      count = ap length c.push_reserved.ensures.items ∙ length-append c.loop-deed.answers.items (c.one-answer.result ∷ []) ∙ omega (arith, i.count, length-append c.loop-deed.yielded (c.in-Some.deed ∷ []));
      room = omega (arith, i.room, c.push_reserved.ensures.capacity);
    }

pub returns-clause-lived : goal.returns-clause-lived
returns-clause-lived g c = λ loud brings.
    let m : Measures g.row.B.Denot = record { contents = g.B.Block.contents; durable = g.B.Block.durable; size = g.B.Block.size; faults = g.B.Block.fault_count; done = g.B.Block.done_count } in
    let end = YieldsList-end (YieldsList-from_vec {s = c.into_iter-deed-iterator.result} c.args.deeds.items (search rules) (search rules)) c.loop-deed.yielded c.loop-deed.deed-iterator c.loop-deed.yielded_by c.next.result c.next.new.self c.in-None.is c.next.ensures.steps in
    all_lived g.B.Block.may_hold m g.B.Block.layers c.args.deeds.items c.loop-deed.answers.items c.args.volume.now c.loop-deed.volume
    (passed_answered g.B.Block.may_hold m g.B.Block.layers c.args.deeds.items c.loop-deed.answers.items c.args.volume.now c.loop-deed.volume (all_passed g.B.Block.may_hold m g.B.Block.layers c.loop-deed.yielded c.args.deeds.items c.loop-deed.answers.items c.args.volume.now c.loop-deed.volume end.0 c.loop-deed.invariant.passed)) loud brings

pub returns-clause-answered : goal.returns-clause-answered
returns-clause-answered g c =
    let m : Measures g.row.B.Denot = record { contents = g.B.Block.contents; durable = g.B.Block.durable; size = g.B.Block.size; faults = g.B.Block.fault_count; done = g.B.Block.done_count } in
    let end = YieldsList-end (YieldsList-from_vec {s = c.into_iter-deed-iterator.result} c.args.deeds.items (search rules) (search rules)) c.loop-deed.yielded c.loop-deed.deed-iterator c.loop-deed.yielded_by c.next.result c.next.new.self c.in-None.is c.next.ensures.steps in
    passed_answered g.B.Block.may_hold m g.B.Block.layers c.args.deeds.items c.loop-deed.answers.items c.args.volume.now c.loop-deed.volume
    (all_passed g.B.Block.may_hold m g.B.Block.layers c.loop-deed.yielded c.args.deeds.items c.loop-deed.answers.items c.args.volume.now c.loop-deed.volume end.0 c.loop-deed.invariant.passed)

pub returns-clause-lasts : goal.returns-clause-lasts
returns-clause-lasts g c = λ loud brings.
    let m : Measures g.row.B.Denot = record { contents = g.B.Block.contents; durable = g.B.Block.durable; size = g.B.Block.size; faults = g.B.Block.fault_count; done = g.B.Block.done_count } in
    let end = YieldsList-end (YieldsList-from_vec {s = c.into_iter-deed-iterator.result} c.args.deeds.items (search rules) (search rules)) c.loop-deed.yielded c.loop-deed.deed-iterator c.loop-deed.yielded_by c.next.result c.next.new.self c.in-None.is c.next.ensures.steps in
    all_lasting g.B.Block.may_hold m g.B.Block.layers c.args.deeds.items c.loop-deed.answers.items c.args.volume.now c.loop-deed.volume
    (all_passed g.B.Block.may_hold m g.B.Block.layers c.loop-deed.yielded c.args.deeds.items c.loop-deed.answers.items c.args.volume.now c.loop-deed.volume end.0 c.loop-deed.invariant.passed) loud brings

pub returns-clause-flushed : goal.returns-clause-flushed
returns-clause-flushed g c = λ loud brings.
    let m : Measures g.row.B.Denot = record { contents = g.B.Block.contents; durable = g.B.Block.durable; size = g.B.Block.size; faults = g.B.Block.fault_count; done = g.B.Block.done_count } in
    let end = YieldsList-end (YieldsList-from_vec {s = c.into_iter-deed-iterator.result} c.args.deeds.items (search rules) (search rules)) c.loop-deed.yielded c.loop-deed.deed-iterator c.loop-deed.yielded_by c.next.result c.next.new.self c.in-None.is c.next.ensures.steps in
    all_lose g.B.Block.may_hold m g.B.Block.layers g.met.B.Block.whole g.met.B.Block.holds_now c.args.deeds.items c.loop-deed.answers.items c.args.volume.now c.loop-deed.volume
    (all_passed g.B.Block.may_hold m g.B.Block.layers c.loop-deed.yielded c.args.deeds.items c.loop-deed.answers.items c.args.volume.now c.loop-deed.volume end.0 c.loop-deed.invariant.passed) loud brings (c.look_at_stores.ensures.stops loud)
