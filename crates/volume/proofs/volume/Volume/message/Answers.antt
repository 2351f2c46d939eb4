-- What a caller sees of a message, by what was told or not.
use Rattle.plain_machine.specs.declared.request.Dev.TheVariants.{Origin, Snap}
use Rattle.volume.specs.Layering.{Measures}
use Rattle.volume.proofs.Told.{call_moving, call_still, call_books, call_plain, call_loud}
use Rattle.volume.proofs.volume.Volume.message.Goals as goal

pub returns-in-Origin : goal.returns-in-Origin
returns-in-Origin g c =
    let m : Measures g.row.B.Denot = record { contents = g.B.Block.contents; durable = g.B.Block.durable; size = g.B.Block.size; faults = g.B.Block.fault_count; done = g.B.Block.done_count } in
    rw c.in-Origin.is (record {
      does = record {
        ok = c.tell_origin.ensures.ok;
        err = c.tell_origin.ensures.err;
        moving = call_moving m g.B.Block.layers Origin c.args.depth c.args.message.now c.args.self.now c.tell_origin.new.self c.tell_origin.result c.tell_origin.ensures.ok c.tell_origin.ensures.err;
        still = call_still m g.B.Block.layers Origin c.args.depth c.args.message.now c.args.self.now c.tell_origin.new.self c.tell_origin.result c.tell_origin.ensures.ok c.tell_origin.ensures.err;
        books = call_books m g.B.Block.layers Origin c.args.depth c.args.message.now c.args.self.now c.tell_origin.new.self c.tell_origin.result c.tell_origin.ensures.ok c.tell_origin.ensures.err;
        plain = call_plain m g.B.Block.layers Origin c.args.depth c.args.message.now c.args.self.now c.tell_origin.new.self c.tell_origin.result c.tell_origin.ensures.ok c.tell_origin.ensures.err;
        loud = call_loud m g.B.Block.layers Origin c.args.depth c.args.message.now c.args.self.now c.tell_origin.new.self c.tell_origin.result c.tell_origin.ensures.ok c.tell_origin.ensures.err;
        opens = c.tell_origin.ensures.opens;
      };
    })

pub returns-in-Snap : goal.returns-in-Snap
returns-in-Snap g c =
    let m : Measures g.row.B.Denot = record { contents = g.B.Block.contents; durable = g.B.Block.durable; size = g.B.Block.size; faults = g.B.Block.fault_count; done = g.B.Block.done_count } in
    rw c.in-Snap.is (record {
      does = record {
        ok = c.tell_store.ensures.ok;
        err = c.tell_store.ensures.err;
        moving = call_moving m g.B.Block.layers (Snap c.in-Snap.number) c.args.depth c.args.message.now c.args.self.now c.tell_store.new.self c.tell_store.result c.tell_store.ensures.ok c.tell_store.ensures.err;
        still = call_still m g.B.Block.layers (Snap c.in-Snap.number) c.args.depth c.args.message.now c.args.self.now c.tell_store.new.self c.tell_store.result c.tell_store.ensures.ok c.tell_store.ensures.err;
        books = call_books m g.B.Block.layers (Snap c.in-Snap.number) c.args.depth c.args.message.now c.args.self.now c.tell_store.new.self c.tell_store.result c.tell_store.ensures.ok c.tell_store.ensures.err;
        plain = call_plain m g.B.Block.layers (Snap c.in-Snap.number) c.args.depth c.args.message.now c.args.self.now c.tell_store.new.self c.tell_store.result c.tell_store.ensures.ok c.tell_store.ensures.err;
        loud = call_loud m g.B.Block.layers (Snap c.in-Snap.number) c.args.depth c.args.message.now c.args.self.now c.tell_store.new.self c.tell_store.result c.tell_store.ensures.ok c.tell_store.ensures.err;
        opens = c.tell_store.ensures.opens;
      };
    })
