-- A merge's commit: the area without the last pairs is what the store holds, and where its write fails the slots that were
-- cleared in memory are put back.
use Rattle.std.proofs.Common.{◌≡◌, ℕ, ◌-◌, ◌*◌, ◌∙◌, List, length, take, arith, ap, sym, subst, IsTrue, false}
use Rattle.std.proofs.lemmas.List.{length-map}
use Rattle.sector.specs.Bytes.{with_sectors}
use Rattle.sector.specs.declared.pair.Pair.{Pair}
use Rattle.device.specs.Layers.{is_loud}
use Rattle.cow_format.specs.Places.{area_place}
use Rattle.exception_arena.specs.Pending.{pairs, pair_of}
use Rattle.exception_arena.specs.declared.begun.Begun.{Begun}
use Rattle.store.specs.Held.{committed, pending, pairs_pending}
use Rattle.store.specs.Loading.{is_settled}
use Rattle.store.specs.Stored.{AreGiven, IsFront, IsStored}
use Rattle.store.proofs.Given.{front_room}
use Rattle.store.proofs.Merges.{IsCut, front_less, stored_less, given_less, cut-written, cut-back}
use Rattle.store.proofs.store.Store.merge_commit.Goals as goal

pub invariant_of-self-clause-front : goal.invariant_of-self-clause-front
invariant_of-self-clause-front g c =
    let s = c.args.self.now in
    let ps = committed s.exceptions in
    let x = c.clear.new.self.bytes.items in
    let cut : IsCut s.area.bytes.items (s.state.filled - c.args.count) c.args.count x = record {
      all = c.clear.ensures.bytes;
      len = c.clear.new.self.whole ∙ ap (λ n. 512 * n) c.clear.ensures.chunk ∙ sym s.area.whole;
      others = c.clear.ensures.others;
      cleared = c.clear.ensures.cleared;
    } in
    rw c.remove_last.ensures.committed (front_less c.args.count c.len.result ps s.state s.area.bytes.items x s.front cut c.requires.some c.requires.fits c.requires.ready)

pub invariant_of-self-clause-given : goal.invariant_of-self-clause-given
invariant_of-self-clause-given g c =
    let s = c.args.self.now in
    let ps = committed s.exceptions in
    let x = c.clear.new.self.bytes.items in
    let cut : IsCut s.area.bytes.items (s.state.filled - c.args.count) c.args.count x = record {
      all = c.clear.ensures.bytes;
      len = c.clear.new.self.whole ∙ ap (λ n. 512 * n) c.clear.ensures.chunk ∙ sym s.area.whole;
      others = c.clear.ensures.others;
      cleared = c.clear.ensures.cleared;
    } in
    let some = c.requires.some in
    let fits = s.front.fits in
    let few = c.requires.fits in
    let room = front_room (take (length ps - c.args.count) ps) (record s.state { filled = s.state.filled - c.args.count; sure = length (committed c.remove_last.new.exceptions); copying = false }) x (front_less c.args.count (length (committed c.remove_last.new.exceptions)) ps s.state s.area.bytes.items x s.front cut c.requires.some c.requires.fits c.requires.ready) (omega arith) in
    let less = given_less s.state.chunk s.state.origin s.state.size s.places.next c.after_merge.new.self.next (length ps - c.args.count) s.state.copying ps (pairs_pending s.exceptions) s.given (length-map (pending s.exceptions) pair_of ∙ c.requires.idle) (omega arith) room in
    subst (λ (P : List Begun). AreGiven s.state.chunk s.state.origin s.state.size c.after_merge.new.self.next false (committed c.remove_last.new.exceptions) (pairs P)) (sym c.remove_last.ensures.pending)
    (subst (λ (C : List Pair). AreGiven s.state.chunk s.state.origin s.state.size c.after_merge.new.self.next false C (pairs_pending s.exceptions)) (sym c.remove_last.ensures.committed) less)

pub invariant_of-self-clause-stored : goal.invariant_of-self-clause-stored
invariant_of-self-clause-stored g c = λ loud.
    let s = c.args.self.now in
    let ps = committed s.exceptions in
    let x = c.clear.new.self.bytes.items in
    let cut : IsCut s.area.bytes.items (s.state.filled - c.args.count) c.args.count x = record {
      all = c.clear.ensures.bytes;
      len = c.clear.new.self.whole ∙ ap (λ n. 512 * n) c.clear.ensures.chunk ∙ sym s.area.whole;
      others = c.clear.ensures.others;
      cleared = c.clear.ensures.cleared;
    } in
    let l : IsTrue (is_loud (g.B.Block.layers s.device)) = sym c.in-Ok.ensures.loud ∙ loud in
    let whole : length (g.B.Block.contents s.device) ≡ 512 * s.state.size = g.met.B.Block.whole s.device ∙ ap (λ n. 512 * n) (sym s.size) in
    let written = c.in-Ok.ensures.written l ∙ ap (λ y. with_sectors (g.B.Block.contents s.device) (s.state.chunk * area_place s.state.chunk s.state.current) y) c.encode.ensures in
    rw c.remove_last.ensures.committed (stored_less c.args.count c.len.result ps s.state s.area.bytes.items x (g.B.Block.contents s.device) _ s.front (s.stored l) cut c.requires.some c.requires.fits c.requires.ready whole written)

pub returns-in-Ok-clause-written : goal.returns-in-Ok-clause-written
returns-in-Ok-clause-written g c = λ loud.
    let s = c.args.self.now in
    let ps = committed s.exceptions in
    let x = c.clear.new.self.bytes.items in
    let cut : IsCut s.area.bytes.items (s.state.filled - c.args.count) c.args.count x = record {
      all = c.clear.ensures.bytes;
      len = c.clear.new.self.whole ∙ ap (λ n. 512 * n) c.clear.ensures.chunk ∙ sym s.area.whole;
      others = c.clear.ensures.others;
      cleared = c.clear.ensures.cleared;
    } in
    let l : IsTrue (is_loud (g.B.Block.layers s.device)) = loud in
    let whole : length (g.B.Block.contents s.device) ≡ 512 * s.state.size = g.met.B.Block.whole s.device ∙ ap (λ n. 512 * n) (sym s.size) in
    let written = c.in-Ok.ensures.written l ∙ ap (λ y. with_sectors (g.B.Block.contents s.device) (s.state.chunk * area_place s.state.chunk s.state.current) y) c.encode.ensures in
    let fits = s.front.fits in
    let few = c.requires.fits in
    written ∙ cut-written s.state.size s.state.chunk (area_place s.state.chunk s.state.current) (s.state.filled - c.args.count) c.args.count s.area.bytes.items x (g.B.Block.contents s.device) cut ((s.stored l).here (ap is_settled c.requires.ready)) whole s.front.place (omega arith)

pub invariant_of-self-in-Err-clause-front : goal.invariant_of-self-in-Err-clause-front
invariant_of-self-in-Err-clause-front g c =
    let s = c.args.self.now in
    let whole = s.area.whole ∙ ap (λ n. 512 * n) s.area_chunk in
    let spare = s.spare.whole ∙ ap (λ n. 512 * n) s.spare_chunk in
    let fits = s.front.fits in
    let few = c.requires.fits in
    let back = cut-back (s.state.filled - c.args.count) c.args.count s.area.bytes.items _ s.spare.bytes.items _ _ c.clear.ensures.bytes (omega arith) (spare ∙ sym whole) c.copy_slots.ensures.bytes c.copy_slots-in-Err.ensures.bytes in
    subst (λ (a : List ℕ). IsFront (committed s.exceptions) s.state a) (sym back) s.front

pub invariant_of-self-in-Err-clause-stored : goal.invariant_of-self-in-Err-clause-stored
invariant_of-self-in-Err-clause-stored g c = λ loud.
    let s = c.args.self.now in
    let whole = s.area.whole ∙ ap (λ n. 512 * n) s.area_chunk in
    let spare = s.spare.whole ∙ ap (λ n. 512 * n) s.spare_chunk in
    let fits = s.front.fits in
    let few = c.requires.fits in
    let back = cut-back (s.state.filled - c.args.count) c.args.count s.area.bytes.items _ s.spare.bytes.items _ _ c.clear.ensures.bytes (omega arith) (spare ∙ sym whole) c.copy_slots.ensures.bytes c.copy_slots-in-Err.ensures.bytes in
    let l : IsTrue (is_loud (g.B.Block.layers s.device)) = sym c.in-Err.ensures.loud ∙ loud in
    subst (λ (a : List ℕ). IsStored (g.B.Block.contents c.write_whole.new.device) (committed s.exceptions) s.state a) (sym back)
    (subst (λ (b : List ℕ). IsStored b (committed s.exceptions) s.state s.area.bytes.items) (sym c.in-Err.ensures.err) (s.stored l))
