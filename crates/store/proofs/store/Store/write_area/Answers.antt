use Rattle.std.proofs.Common.{◌≡◌, ℕ, ◌+◌, ◌*◌, ◌<◌, List, ◌++◌, length, take, arith, ap, ◌∙◌, sym, subst, IsTrue, false}
use Rattle.sector.specs.Bytes.{with_sectors}
use Rattle.sector.specs.declared.pair.Pair.{Pair}
use Rattle.device.specs.Layers.{is_loud}
use Rattle.cow_format.specs.Places.{area_place}
use Rattle.exception_arena.specs.Pending.{pairs}
use Rattle.store.specs.Held.{committed, pending}
use Rattle.store.specs.Slots.{IsPut}
use Rattle.store.specs.Loading.{is_settled}
use Rattle.store.specs.Stored.{IsFront, IsStored}
use Rattle.store.proofs.Areas.{all_zero}
use Rattle.store.proofs.Commits.{front_more, stored_more, front_full, stored_full}
use Rattle.store.proofs.Given.{given_moved, front_room}
use Rattle.store.proofs.Parts.{put-written, slots-back}
use Rattle.store.proofs.Pending.{length-first, first_valid, first_moved}
use Rattle.store.proofs.store.Store.write_area.Goals as goal

pub invariant_of-self-clause-front : goal.invariant_of-self-clause-front
invariant_of-self-clause-front g c =
    let s = c.args.self.now in
    let P = pending s.exceptions in
    let qs : List Pair = pairs (take c.args.count P) in
    let n : length qs ≡ c.args.count = length-first c.args.count P c.requires.pending in
    let x = c.put_first.new.area.bytes.items in
    let full : s.state.filled + c.args.count ≡ 32 * s.state.chunk = c.if-self.true in
    let nil = all_zero s.state.chunk x _ (c.put_first.new.area.whole ∙ ap (λ n. 512 * n) (c.put_first.ensures.chunk ∙ s.area_chunk)) c.clear_from.ensures.bytes in
    rw c.finish_first.ensures.committed (front_full c.args.count (committed s.exceptions) qs s.state s.area.bytes.items c.clear_from.new.self.bytes.items s.front n full (s.front.firm (c.requires.next full)) nil c.requires.ready)

pub invariant_of-self-clause-given : goal.invariant_of-self-clause-given
invariant_of-self-clause-given g c =
    let s = c.args.self.now in
    let P = pending s.exceptions in
    let qs : List Pair = pairs (take c.args.count P) in
    let n : length qs ≡ c.args.count = length-first c.args.count P c.requires.pending in
    let x = c.put_first.new.area.bytes.items in
    let full : s.state.filled + c.args.count ≡ 32 * s.state.chunk = c.if-self.true in
    let nil = all_zero s.state.chunk x _ (c.put_first.new.area.whole ∙ ap (λ n. 512 * n) (c.put_first.ensures.chunk ∙ s.area_chunk)) c.clear_from.ensures.bytes in
    let some = s.front.some in
    let room = front_room (committed s.exceptions ++ qs) (record s.state { current = s.state.current + 1; filled = 0; zeroed = false; firm = false }) c.clear_from.new.self.bytes.items (front_full c.args.count (committed s.exceptions) qs s.state s.area.bytes.items c.clear_from.new.self.bytes.items s.front n full (s.front.firm (c.requires.next full)) nil c.requires.ready) (omega arith) in
    let moved = ap (λ C. C ++ pairs (pending c.finish_first.new.exceptions)) c.finish_first.ensures.committed ∙ ap (λ Q. (committed s.exceptions ++ qs) ++ pairs Q) c.finish_first.ensures.pending ∙ first_moved (committed s.exceptions) P c.args.count in
    given_moved s.state.chunk s.state.origin s.state.size s.places.next s.state.copying (committed s.exceptions) (pairs P) _ _ s.given moved (rw c.finish_first.ensures.committed room)

pub invariant_of-self-clause-stored : goal.invariant_of-self-clause-stored
invariant_of-self-clause-stored g c = λ loud.
    let s = c.args.self.now in
    let P = pending s.exceptions in
    let qs : List Pair = pairs (take c.args.count P) in
    let n : length qs ≡ c.args.count = length-first c.args.count P c.requires.pending in
    let x = c.put_first.new.area.bytes.items in
    let put : IsPut s.area.bytes.items s.state.filled qs x = c.put_first.ensures.put in
    let full : s.state.filled + c.args.count ≡ 32 * s.state.chunk = c.if-self.true in
    let nil = all_zero s.state.chunk x _ (c.put_first.new.area.whole ∙ ap (λ n. 512 * n) (c.put_first.ensures.chunk ∙ s.area_chunk)) c.clear_from.ensures.bytes in
    let l : IsTrue (is_loud (g.B.Block.layers s.device)) = sym c.in-Ok.ensures.loud ∙ loud in
    let whole : length (g.B.Block.contents s.device) ≡ 512 * s.state.size = g.met.B.Block.whole s.device ∙ ap (λ n. 512 * n) (sym s.size) in
    let written = c.in-Ok.ensures.written l ∙ ap (λ y. with_sectors (g.B.Block.contents s.device) (s.state.chunk * area_place s.state.chunk s.state.current) y) c.encode.ensures in
    let valid = first_valid s.state.chunk s.state.origin s.state.size s.places.next c.args.count s.state.copying (committed s.exceptions) P s.given c.requires.pending in
    rw c.finish_first.ensures.committed (stored_full c.args.count (committed s.exceptions) qs s.state s.area.bytes.items x c.clear_from.new.self.bytes.items (g.B.Block.contents s.device) _ s.front (s.stored l) put n full (s.front.firm (c.requires.next full)) nil c.requires.ready valid whole written)

pub invariant_of-self-else-self-clause-front : goal.invariant_of-self-else-self-clause-front
invariant_of-self-else-self-clause-front g c =
    let s = c.args.self.now in
    let P = pending s.exceptions in
    let qs : List Pair = pairs (take c.args.count P) in
    let n : length qs ≡ c.args.count = length-first c.args.count P c.requires.pending in
    let x = c.put_first.new.area.bytes.items in
    let put : IsPut s.area.bytes.items s.state.filled qs x = c.put_first.ensures.put in
    let below : s.state.filled + c.args.count < 32 * s.state.chunk = omega arith in
    rw c.finish_first.ensures.committed (front_more c.args.count (committed s.exceptions) qs s.state s.area.bytes.items x s.front put n below c.requires.ready)

pub invariant_of-self-else-self-clause-given : goal.invariant_of-self-else-self-clause-given
invariant_of-self-else-self-clause-given g c =
    let s = c.args.self.now in
    let P = pending s.exceptions in
    let qs : List Pair = pairs (take c.args.count P) in
    let n : length qs ≡ c.args.count = length-first c.args.count P c.requires.pending in
    let x = c.put_first.new.area.bytes.items in
    let put : IsPut s.area.bytes.items s.state.filled qs x = c.put_first.ensures.put in
    let below : s.state.filled + c.args.count < 32 * s.state.chunk = omega arith in
    let room = front_room (committed s.exceptions ++ qs) (record s.state { filled = s.state.filled + c.args.count }) x (front_more c.args.count (committed s.exceptions) qs s.state s.area.bytes.items x s.front put n below c.requires.ready) below in
    let moved = ap (λ C. C ++ pairs (pending c.finish_first.new.exceptions)) c.finish_first.ensures.committed ∙ ap (λ Q. (committed s.exceptions ++ qs) ++ pairs Q) c.finish_first.ensures.pending ∙ first_moved (committed s.exceptions) P c.args.count in
    given_moved s.state.chunk s.state.origin s.state.size s.places.next s.state.copying (committed s.exceptions) (pairs P) _ _ s.given moved (rw c.finish_first.ensures.committed room)

pub invariant_of-self-else-self-clause-stored : goal.invariant_of-self-else-self-clause-stored
invariant_of-self-else-self-clause-stored g c = λ loud.
    let s = c.args.self.now in
    let P = pending s.exceptions in
    let qs : List Pair = pairs (take c.args.count P) in
    let n : length qs ≡ c.args.count = length-first c.args.count P c.requires.pending in
    let x = c.put_first.new.area.bytes.items in
    let put : IsPut s.area.bytes.items s.state.filled qs x = c.put_first.ensures.put in
    let below : s.state.filled + c.args.count < 32 * s.state.chunk = omega arith in
    let l : IsTrue (is_loud (g.B.Block.layers s.device)) = sym c.in-Ok.ensures.loud ∙ loud in
    let whole : length (g.B.Block.contents s.device) ≡ 512 * s.state.size = g.met.B.Block.whole s.device ∙ ap (λ n. 512 * n) (sym s.size) in
    let written = c.in-Ok.ensures.written l ∙ ap (λ y. with_sectors (g.B.Block.contents s.device) (s.state.chunk * area_place s.state.chunk s.state.current) y) c.encode.ensures in
    let valid = first_valid s.state.chunk s.state.origin s.state.size s.places.next c.args.count s.state.copying (committed s.exceptions) P s.given c.requires.pending in
    rw c.finish_first.ensures.committed (stored_more c.args.count (committed s.exceptions) qs s.state s.area.bytes.items x (g.B.Block.contents s.device) _ s.front (s.stored l) put n below c.requires.ready valid whole written)

pub returns-then-self-clause-written : goal.returns-then-self-clause-written
returns-then-self-clause-written g c = λ loud.
    let s = c.args.self.now in
    let P = pending s.exceptions in
    let qs : List Pair = pairs (take c.args.count P) in
    let n : length qs ≡ c.args.count = length-first c.args.count P c.requires.pending in
    let x = c.put_first.new.area.bytes.items in
    let put : IsPut s.area.bytes.items s.state.filled qs x = c.put_first.ensures.put in
    let l : IsTrue (is_loud (g.B.Block.layers s.device)) = loud in
    let whole : length (g.B.Block.contents s.device) ≡ 512 * s.state.size = g.met.B.Block.whole s.device ∙ ap (λ n. 512 * n) (sym s.size) in
    let fits = c.requires.fits in
    c.in-Ok.ensures.written l ∙ ap (λ y. with_sectors (g.B.Block.contents s.device) (s.state.chunk * area_place s.state.chunk s.state.current) y) c.encode.ensures
    ∙ put-written s.state.size s.state.chunk (area_place s.state.chunk s.state.current) s.state.filled qs s.area.bytes.items x (g.B.Block.contents s.device) put ((s.stored l).here (ap is_settled c.requires.ready)) whole s.front.place (omega arith)

pub returns-else-self-clause-written : goal.returns-else-self-clause-written
returns-else-self-clause-written g c = λ loud.
    let s = c.args.self.now in
    let P = pending s.exceptions in
    let qs : List Pair = pairs (take c.args.count P) in
    let n : length qs ≡ c.args.count = length-first c.args.count P c.requires.pending in
    let x = c.put_first.new.area.bytes.items in
    let put : IsPut s.area.bytes.items s.state.filled qs x = c.put_first.ensures.put in
    let l : IsTrue (is_loud (g.B.Block.layers s.device)) = loud in
    let whole : length (g.B.Block.contents s.device) ≡ 512 * s.state.size = g.met.B.Block.whole s.device ∙ ap (λ n. 512 * n) (sym s.size) in
    let fits = c.requires.fits in
    c.in-Ok.ensures.written l ∙ ap (λ y. with_sectors (g.B.Block.contents s.device) (s.state.chunk * area_place s.state.chunk s.state.current) y) c.encode.ensures
    ∙ put-written s.state.size s.state.chunk (area_place s.state.chunk s.state.current) s.state.filled qs s.area.bytes.items x (g.B.Block.contents s.device) put ((s.stored l).here (ap is_settled c.requires.ready)) whole s.front.place (omega arith)

pub invariant_of-self-in-Err-clause-front : goal.invariant_of-self-in-Err-clause-front
invariant_of-self-in-Err-clause-front g c =
    let s = c.args.self.now in
    let P = pending s.exceptions in
    let n = length-first c.args.count P c.requires.pending in
    let whole = s.area.whole ∙ ap (λ n. 512 * n) s.area_chunk in
    let spare = s.spare.whole ∙ ap (λ n. 512 * n) s.spare_chunk in
    let fits = c.requires.fits in
    let back = slots-back c.args.count s.state.filled (pairs (take c.args.count P)) s.area.bytes.items _ s.spare.bytes.items _ _ c.put_first.ensures.put n (omega arith) (spare ∙ sym whole) c.copy_slots.ensures.bytes c.copy_slots-in-Err.ensures.bytes in
    subst (λ (a : List ℕ). IsFront (committed s.exceptions) s.state a) (sym back) s.front

pub invariant_of-self-in-Err-clause-stored : goal.invariant_of-self-in-Err-clause-stored
invariant_of-self-in-Err-clause-stored g c = λ loud.
    let s = c.args.self.now in
    let P = pending s.exceptions in
    let n = length-first c.args.count P c.requires.pending in
    let whole = s.area.whole ∙ ap (λ n. 512 * n) s.area_chunk in
    let spare = s.spare.whole ∙ ap (λ n. 512 * n) s.spare_chunk in
    let fits = c.requires.fits in
    let back = slots-back c.args.count s.state.filled (pairs (take c.args.count P)) s.area.bytes.items _ s.spare.bytes.items _ _ c.put_first.ensures.put n (omega arith) (spare ∙ sym whole) c.copy_slots.ensures.bytes c.copy_slots-in-Err.ensures.bytes in
    let l : IsTrue (is_loud (g.B.Block.layers s.device)) = sym c.in-Err.ensures.loud ∙ loud in
    subst (λ (a : List ℕ). IsStored (g.B.Block.contents c.write_whole.new.device) (committed s.exceptions) s.state a) (sym back)
    (subst (λ (b : List ℕ). IsStored b (committed s.exceptions) s.state s.area.bytes.items) (sym c.in-Err.ensures.err) (s.stored l))
