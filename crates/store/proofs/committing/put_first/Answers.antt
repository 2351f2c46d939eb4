use Rattle.std.proofs.Common.{◌*◌, ◌∙◌, List, take, arith, ap, sym, subst}
use Rattle.sector.specs.declared.pair.Pair.{Pair}
use Rattle.exception_arena.specs.Pending.{pairs}
use Rattle.store.specs.Slots.{IsPut}
use Rattle.store.proofs.Parts.{put_more}
use Rattle.store.proofs.Pending.{length-first, first_more}
use Rattle.store.proofs.committing.put_first.Goals as goal

pub loop-i-preserved : goal.loop-i-preserved
loop-i-preserved g c =
    let P = g.E.Exceptions.pending c.args.exceptions.now in
    let i = c.loop-i.i in
    let d = c.pending_at.result in
    let a = c.args.area.now in
    let some = c.requires.some in
    let room = c.requires.room in
    let whole = a.whole in
    let same = c.loop-i.invariant.chunk in
    let more = first_more P i d (omega arith) (c.pending_at.ensures d) in
    let len = c.put.new.self.whole ∙ ap (λ n. 512 * n) c.put.ensures.chunk ∙ sym c.loop-i.area.whole in
    record {
      chunk = c.put.ensures.chunk ∙ same;
      put = subst (λ (qs : List Pair). IsPut a.bytes.items c.args.slot qs c.put.new.self.bytes.items) (sym more)
          (put_more a.bytes.items c.args.slot i (pairs (take i P)) d.pair c.loop-i.area.bytes.items _ c.loop-i.invariant.put (sym (length-first i P (omega arith))) c.put.ensures.bytes len c.put.ensures.here c.put.ensures.others (omega arith));
    }
