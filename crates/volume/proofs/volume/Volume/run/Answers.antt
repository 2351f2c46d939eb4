-- Each turn does the next call, and its answer has its place.
use Rattle.std.proofs.Common.{◌≡◌, rules, inl, true, ◌∙◌, ◌++◌, [], ◌∷◌, length, ap, refl, arith}
use Rattle.std.proofs.lemmas.Iterator.Adapters.{YieldsList-from_vec}
use Rattle.std.proofs.lemmas.Iterator.Consumers.{YieldsList-turn, YieldsList-end}
use Rattle.std.proofs.lemmas.List.{length-append}
use Rattle.volume.specs.Layering.{Measures}
use Rattle.volume.specs.Volumed.{is_loud_in_all, plain_of}
use Rattle.volume.specs.Running.{AreReturned}
use Rattle.volume.proofs.AddedUp.{all_opened, asks_empty, asks_one, asks_then, opens_empty, opens_then, opens_unwritten}
use Rattle.volume.proofs.Ran.{all_returned, are_legal, are_loud, are_more, returned_legal}
use Rattle.volume.proofs.Unwritten.{run_keeps}
use Rattle.volume.proofs.volume.Volume.run.Goals as goal

pub loop-call-init : goal.loop-call-init
loop-call-init g c = record {
  done = rw c.in-Ok.ensures.items refl;
  opens = λ loud. opens_empty g.B.Block.may_hold g.B.Block.size c.args.self.now;
  asks = λ loud. asks_empty g.B.Block.may_hold g.B.Block.size c.args.self.now;
  count = ap length c.in-Ok.ensures.items;
  room = omega (arith, c.in-Ok.ensures.capacity, c.len.ensures, c.args.calls.ok);
}

pub push_reserved-requires : goal.push_reserved-requires
push_reserved-requires g c =
    let turn = YieldsList-turn (YieldsList-from_vec {s = c.into_iter-call-iterator.result} c.args.calls.items (search rules) (search rules)) c.loop-call.yielded c.loop-call.call-iterator c.loop-call.yielded_by c.next.result c.next.new.self c.in-Some.call c.in-Some.is c.next.ensures.steps in
    omega (arith, turn.0, c.loop-call.invariant.count, c.loop-call.invariant.room, c.loop-call.returned.ok)

pub loop-call-preserved : goal.loop-call-preserved
loop-call-preserved g c =
    let m : Measures g.row.B.Denot = record { contents = g.B.Block.contents; durable = g.B.Block.durable; size = g.B.Block.size; faults = g.B.Block.fault_count; done = g.B.Block.done_count } in
    let i = c.loop-call.invariant in
    let more : AreReturned m g.B.Block.layers (c.loop-call.yielded ++ c.in-Some.call ∷ []) (c.loop-call.returned.items ++ c.call-answer.result ∷ []) c.args.self.now c.call-answer.new.self =
    are_more m g.B.Block.layers c.loop-call.yielded c.loop-call.returned.items c.in-Some.call c.call-answer.result c.args.self.now c.loop-call.self c.call-answer.new.self i.done c.call-answer.ensures.returned in
    let still : is_loud_in_all g.B.Block.layers c.args.self.now ≡ true → is_loud_in_all g.B.Block.layers c.loop-call.self ≡ true = λ loud. are_loud m g.B.Block.layers c.loop-call.yielded c.loop-call.returned.items c.args.self.now c.loop-call.self i.done ∙ loud in
    record {
      done = rw c.push_reserved.ensures.items more;
      opens = λ loud. opens_then g.B.Block.may_hold g.B.Block.size c.loop-call.yielded (c.in-Some.call ∷ []) c.args.self.now c.loop-call.self c.call-answer.new.self (i.opens loud) (i.asks loud) (c.call-answer.ensures.opens (still loud));
      asks = λ loud. asks_then g.B.Block.may_hold g.B.Block.size c.loop-call.yielded (c.in-Some.call ∷ []) c.args.self.now c.loop-call.self c.call-answer.new.self (i.asks loud)
          (asks_one g.B.Block.may_hold g.B.Block.size g.B.Block.contents g.B.Block.layers c.in-Some.call c.loop-call.self c.call-answer.new.self (returned_legal m g.B.Block.layers c.in-Some.call c.call-answer.result c.loop-call.self c.call-answer.new.self (still loud) c.call-answer.ensures.returned));
      count = ap length c.push_reserved.ensures.items ∙ length-append c.loop-call.returned.items (c.call-answer.result ∷ []) ∙ omega (arith, i.count, length-append c.loop-call.yielded (c.in-Some.call ∷ []));
      room = omega (arith, i.room, c.push_reserved.ensures.capacity);
    }

pub returns-clause-ok : goal.returns-clause-ok
returns-clause-ok g c =
    let m : Measures g.row.B.Denot = record { contents = g.B.Block.contents; durable = g.B.Block.durable; size = g.B.Block.size; faults = g.B.Block.fault_count; done = g.B.Block.done_count } in
    let end = YieldsList-end (YieldsList-from_vec {s = c.into_iter-call-iterator.result} c.args.calls.items (search rules) (search rules)) c.loop-call.yielded c.loop-call.call-iterator c.loop-call.yielded_by c.next.result c.next.new.self c.in-None.is c.next.ensures.steps in
    all_returned m g.B.Block.layers c.loop-call.yielded c.args.calls.items c.loop-call.returned.items c.args.self.now c.loop-call.self end.0 c.loop-call.invariant.done

pub returns-clause-legal : goal.returns-clause-legal
returns-clause-legal g c = λ loud.
    let m : Measures g.row.B.Denot = record { contents = g.B.Block.contents; durable = g.B.Block.durable; size = g.B.Block.size; faults = g.B.Block.fault_count; done = g.B.Block.done_count } in
    let end = YieldsList-end (YieldsList-from_vec {s = c.into_iter-call-iterator.result} c.args.calls.items (search rules) (search rules)) c.loop-call.yielded c.loop-call.call-iterator c.loop-call.yielded_by c.next.result c.next.new.self c.in-None.is c.next.ensures.steps in
    are_legal m g.B.Block.layers c.args.calls.items c.loop-call.returned.items c.args.self.now c.loop-call.self loud
    (all_returned m g.B.Block.layers c.loop-call.yielded c.args.calls.items c.loop-call.returned.items c.args.self.now c.loop-call.self end.0 c.loop-call.invariant.done)

pub returns-clause-keeps : goal.returns-clause-keeps
returns-clause-keeps g c = λ loud number array shows free none.
    let m : Measures g.row.B.Denot = record { contents = g.B.Block.contents; durable = g.B.Block.durable; size = g.B.Block.size; faults = g.B.Block.fault_count; done = g.B.Block.done_count } in
    let end = YieldsList-end (YieldsList-from_vec {s = c.into_iter-call-iterator.result} c.args.calls.items (search rules) (search rules)) c.loop-call.yielded c.loop-call.call-iterator c.loop-call.yielded_by c.next.result c.next.new.self c.in-None.is c.next.ensures.steps in
    run_keeps number array c.args.calls.items (plain_of m.contents g.B.Block.layers c.args.self.now) (plain_of m.contents g.B.Block.layers c.loop-call.self)
    (are_legal m g.B.Block.layers c.args.calls.items c.loop-call.returned.items c.args.self.now c.loop-call.self loud
    (all_returned m g.B.Block.layers c.loop-call.yielded c.args.calls.items c.loop-call.returned.items c.args.self.now c.loop-call.self end.0 c.loop-call.invariant.done))
    (inl shows) free none

pub returns-clause-loud : goal.returns-clause-loud
returns-clause-loud g c =
    let m : Measures g.row.B.Denot = record { contents = g.B.Block.contents; durable = g.B.Block.durable; size = g.B.Block.size; faults = g.B.Block.fault_count; done = g.B.Block.done_count } in
    are_loud m g.B.Block.layers c.loop-call.yielded c.loop-call.returned.items c.args.self.now c.loop-call.self c.loop-call.invariant.done

pub returns-clause-opens : goal.returns-clause-opens
returns-clause-opens g c = λ loud.
    let end = YieldsList-end (YieldsList-from_vec {s = c.into_iter-call-iterator.result} c.args.calls.items (search rules) (search rules)) c.loop-call.yielded c.loop-call.call-iterator c.loop-call.yielded_by c.next.result c.next.new.self c.in-None.is c.next.ensures.steps in
    all_opened g.B.Block.may_hold g.B.Block.size c.loop-call.yielded c.args.calls.items c.args.self.now c.loop-call.self end.0 (c.loop-call.invariant.opens loud)

pub returns-clause-unwritten : goal.returns-clause-unwritten
returns-clause-unwritten g c = λ loud.
    let end = YieldsList-end (YieldsList-from_vec {s = c.into_iter-call-iterator.result} c.args.calls.items (search rules) (search rules)) c.loop-call.yielded c.loop-call.call-iterator c.loop-call.yielded_by c.next.result c.next.new.self c.in-None.is c.next.ensures.steps in
    opens_unwritten g.B.Block.may_hold g.B.Block.size c.args.calls.items c.args.self.now c.loop-call.self
    (all_opened g.B.Block.may_hold g.B.Block.size c.loop-call.yielded c.args.calls.items c.args.self.now c.loop-call.self end.0 (c.loop-call.invariant.opens loud))
