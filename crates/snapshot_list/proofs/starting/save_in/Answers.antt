-- The copy of the snapshot's own chunk is started.
use Rattle.std.proofs.Common.{◌+◌, ◌*◌, ◌∙◌, ℕ, vec_len, sym, ap, subst, arith}
use Rattle.std.proofs.lemmas.Bool.{eqb-false}
use Rattle.snapshot.specs.Calls.{StartsAt, started}
use Rattle.snapshot_list.specs.Starting.{own_of}
use Rattle.snapshot_list.proofs.Starts.{lacks_by, saved_started, own_begins}
use Rattle.snapshot_list.proofs.starting.save_in.Goals as goal

pub start-requires-clause-begins : goal.start-requires-clause-begins
start-requires-clause-begins g c =
    let low = own_begins c.args.snap.now.state.chunk c.args.first in
    let is = ap (λ (n : ℕ). c.args.snap.now.state.chunk * n) c.own_chunk-chunk.ensures in
    omega (arith, low, is, c.requires.begins)

pub returns-then-start : goal.returns-then-start
returns-then-start g c =
    let no = eqb-false (vec_len c.args.room) 0 (sym c.is_empty.ensures ∙ c.if-is_empty.false) in
    let lacking = lacks_by c.args.first c.args.snap.now c.args.room c.requires.room (λ e. no (omega (arith, e))) in
    record {
      saved = saved_started g.B.Block.contents g.B.Block.layers (own_of c.args.first c.args.snap.now) c.args.snap.now c.start.new.self c.args.copies c.args.flights.now c.args.room lacking c.if-start.ensures.place
          (subst (λ (n : ℕ). StartsAt g.B.Block.contents g.B.Block.layers (started (c.args.copies + 1) n c.args.snap.now.next c.args.room) c.args.snap.now c.start.new.self) c.own_chunk-chunk.ensures c.if-start.ensures.started);
    }
