-- A store is opened as its reads say.
use Rattle.std.proofs.Common.{◌≡◌, ◌∙◌, length, subst, sym}
use Rattle.store.specs.Held.{committed}
use Rattle.store.specs.Opening.{IsRefused}
use Rattle.store.proofs.FirstReads.{ended_reads}
use Rattle.whole_commands.proofs.FaultlessAttaching.{size_of}
use Rattle.whole_commands.specs.Devices.{sectors_of}
use Rattle.snapshot.specs.Attaching.{device_of}
use Rattle.snapshot.proofs.Openings.{opened_by}
use Rattle.snapshot.proofs.Tries.{back_by, goes_by}
use Rattle.snapshot.proofs.opening.open_unwritten.Goals as goal

pub open-requires-clause-near : goal.open-requires-clause-near
open-requires-clause-near g c = rw c.sectors.ensures (g.met.B.Block.small c.args.origin.now)

pub returns-in-Err-clause-refused : goal.returns-in-Err-clause-refused
returns-in-Err-clause-refused g c = subst (λ n. IsRefused c.args.chunk n (g.B.Block.size c.args.device) (g.B.Block.contents c.args.device) c.in-Err.refused.0) c.sectors.ensures c.in-Err.ensures.refused

pub returns-in-Err-clause-back : goal.returns-in-Err-clause-back
returns-in-Err-clause-back g c = λ some.
    let e = c.in-Err.ensures in
    let o = c.args.origin.now in
    let counted : sectors_of (device_of g.B.Block.contents g.B.Block.layers c.args.origin.now) ≡ c.sectors.result = size_of (length (g.B.Block.contents o)) (g.B.Block.size o) (g.met.B.Block.whole o) ∙ sym c.sectors.ensures in
    back_by (device_of g.B.Block.contents g.B.Block.layers o) c.args.chunk c.sectors.result (g.B.Block.size c.args.device) (g.B.Block.contents c.args.device) (g.B.Block.contents c.in-Err.refused.1) (g.B.Block.layers c.args.device) (g.B.Block.layers c.in-Err.refused.1) c.in-Err.refused.0
    counted (g.met.B.Block.whole c.args.device) e.contents some e.refused e.layers

pub returns-in-Err-clause-starved : goal.returns-in-Err-clause-starved
returns-in-Err-clause-starved g c = λ memory.
    ended_reads c.args.chunk (g.B.Block.size c.args.device) (g.B.Block.contents c.args.device) c.in-Err.refused.0 (g.B.Block.layers c.args.device) (g.B.Block.layers c.in-Err.refused.1) c.in-Err.ensures.layers

pub returns-in-Ok-clause-exact : goal.returns-in-Ok-clause-exact
returns-in-Ok-clause-exact g c =
    let bytes = g.B.Block.contents c.args.device in
    let size = g.B.Block.size c.args.device in
    let s = c.in-Ok.store.state in
    let ps = committed c.in-Ok.store.exceptions in
    let o = c.args.origin.now in
    let counted : sectors_of (device_of g.B.Block.contents g.B.Block.layers c.args.origin.now) ≡ c.sectors.result = size_of (length (g.B.Block.contents o)) (g.B.Block.size o) (g.met.B.Block.whole o) ∙ sym c.sectors.ensures in
    let is = opened_by c.in-Ok.field-0-1 c.args.chunk c.sectors.result size bytes s ps c.in-Ok.ensures.opened in
    goes_by (device_of g.B.Block.contents g.B.Block.layers o) c.args.chunk c.sectors.result size bytes (g.B.Block.contents c.in-Ok.store.device) (g.B.Block.layers c.args.device) (g.B.Block.layers c.in-Ok.store.device) s ps
    counted (g.met.B.Block.whole c.args.device) c.in-Ok.ensures.contents c.in-Ok.ensures.layers is
