use Rattle.std.proofs.Common.{◌≡◌, ◌==◌, ◌+◌, ◌*◌, ◌≤◌, [], ◌∷◌, ◌++◌, length, arith, refl, ap, ◌∙◌, sym, subst, true, false, Some, None, length-append}
use Rattle.std.specs.List.{list_any, All}
use Rattle.std.specs.Option.{is_some}
use Rattle.std.specs.Prelude.{vec_capacity}
use Rattle.in_flight.specs.Copies.{count_of}
use Rattle.in_flight.specs.declared.copies.ChunkCopy.{ChunkCopy}
use Rattle.in_flight.specs.declared.copies.Stage.TheVariants.{Waiting}
use Rattle.store.specs.Held.{committed, pending, pairs_pending, reserved}
use Rattle.volume_laws.proofs.Lists.{All-from_list_any}
use Rattle.snapshot.specs.Calls.{started}
use Rattle.snapshot.specs.Held.{IsSpared}
use Rattle.snapshot.proofs.Copies.{copies_push, not_begun, state_same, like_same}
use Rattle.snapshot.proofs.Stores.{pairs_more, store_holds, text_started}
use Rattle.snapshot.proofs.Events.{starts_merging}
use Rattle.snapshot.proofs.Spared.{room_merging, spared_like, spared_new}
use Rattle.snapshot.proofs.Steps.{step_like}
use Rattle.snapshot.proofs.snapshot.Snapshot.start_merging.Goals as goal

pub start-requires-clause-idle : goal.start-requires-clause-idle
start-requires-clause-idle g c =
    not_begun (pairs_pending c.self.inside.store.exceptions) c.self.inside.copies.items c.args.chunk c.self.invariant.0.agree
    (ap (λ v. list_any (λ (p : ChunkCopy). p.pair.old == c.args.chunk) v.copies) c.self.view_is ∙ c.requires.idle)

pub invariant_of-self-2 : goal.invariant_of-self-2
invariant_of-self-2 g c =
    let s = c.self.inside.store in
    let t = c.start.new.self in
    let e = c.in-Some.ensures in
    let copies = c.self.inside.copies.items in
    let p : ChunkCopy = record { number = c.args.number; pair = c.in-Some.begun.pair; stage = Waiting; buffer = c.fit.new.buffer } in
    let alive : c.self.inside.live ≡ true = ap (λ v. v.live) c.self.view_is ∙ c.requires.live in
    let room : length c.fit.new.buffer.items ≡ 512 * count_of s.state.chunk s.state.origin c.in-Some.begun.pair.old =
    c.fit.ensures.sized ∙ ap (λ n. 512 * n) (c.sectors_of-count.ensures ∙ ap (λ x. count_of x.chunk x.origin c.args.chunk) c.start.ensures.state) ∙ ap (λ x. 512 * count_of s.state.chunk s.state.origin x.old) (sym e.pair) in
    let len : length c.push_reserved.new.self.items ≡ length copies + 1 = ap length c.push_reserved.ensures.items ∙ length-append copies (p ∷ []) in
    let here = c.self.invariant.2.here c.in-Some-take.buffer (sym c.take.ensures.value ∙ c.in-Some-take.is) in
    let fits : 512 * s.state.chunk ≤ vec_capacity c.fit.new.buffer = omega (arith, here, c.fit.ensures.room) in
    let own : All (λ (q : ChunkCopy). (q.number == c.args.number) ≡ false) copies =
    All-from_list_any (λ (q : ChunkCopy). q.number == c.args.number) copies (ap (λ v. list_any (λ (q : ChunkCopy). q.number == c.args.number) v.copies) c.self.view_is ∙ c.requires.own) in (
      rw c.push_reserved.ensures.items
          (state_same _ _ _ _ s.state t.state (pairs_pending s.exceptions ++ p.pair ∷ []) _ _ _
          (copies_push _ _ _ _ s.state (pairs_pending s.exceptions) _ copies _ p alive c.self.invariant.0 refl room)
          c.start.ensures.state (pairs_more (pending s.exceptions) (pending t.exceptions) c.in-Some.begun e.pending)),
      room_merging c.self.inside.room c.self.inside.kept_back c.self.inside.left (reserved s.exceptions) (reserved t.exceptions) (length copies) (length c.push_reserved.new.self.items) (length c.self.inside.marks.items)
          (vec_capacity c.self.inside.copies) (vec_capacity c.push_reserved.new.self) (vec_capacity c.self.inside.marks) c.args.number (is_some c.self.inside.spare) (is_some c.take.new.self) c.self.inside.merging c.self.invariant.1
          (ap (λ v. v.spare) c.self.view_is ∙ c.requires.spare) (ap (λ v. v.merging) c.self.view_is ∙ c.requires.alone) (ap is_some c.take.ensures.after)
          (omega (arith, c.requires.kept, ap (λ v. v.kept_back) c.self.view_is)) e.used len c.push_reserved.ensures.capacity,
      rw c.push_reserved.ensures.items
          (subst (λ x. IsSpared t.state.chunk x (Some c.args.number) (copies ++ p ∷ [])) (sym c.take.ensures.after)
          (spared_like s.state.chunk t.state.chunk None (Some c.args.number) (copies ++ p ∷ []) (ap (λ x. x.chunk) c.start.ensures.state)
          (spared_new s.state.chunk c.args.number copies p own refl fits))),
    )

pub returns-clause-started : goal.returns-clause-started
returns-clause-started g c =
    let s = c.self.inside.store in
    let t = c.start.new.self in
    let e = c.in-Some.ensures in
    let p : ChunkCopy = started c.args.number c.args.chunk s.places.next c.fit.new.buffer in
    let begun : pairs_pending t.exceptions ≡ pairs_pending s.exceptions ++ p.pair ∷ [] =
    pairs_more (pending s.exceptions) (pending t.exceptions) c.in-Some.begun e.pending ∙ ap (λ x. pairs_pending s.exceptions ++ x ∷ []) e.pair in
    let copies : c.push_reserved.new.self.items ≡ c.self.inside.copies.items ++ p ∷ [] =
    c.push_reserved.ensures.items ∙ ap (λ x. let q : ChunkCopy = record { number = c.args.number; pair = x; stage = Waiting; buffer = c.fit.new.buffer } in c.self.inside.copies.items ++ q ∷ []) e.pair in
    let text = store_holds t.state.chunk t.state.origin t.state.size t.places.next t.state.copying (g.B.Block.contents t.device) (committed t.exceptions) (pairs_pending t.exceptions) t.front.some t.front.allowed (g.met.B.Block.whole t.device ∙ ap (λ n. 512 * n) (sym t.size)) t.given in
    let sized : length c.fit.new.buffer.items ≡ 512 * count_of s.state.chunk s.state.origin c.args.chunk =
    c.fit.ensures.sized ∙ ap (λ n. 512 * n) (c.sectors_of-count.ensures ∙ ap (λ x. count_of x.chunk x.origin c.args.chunk) c.start.ensures.state) in
    rw (← c.self.view_is) (
      c.fit.new.buffer,
      starts_merging g.B.Block.contents g.B.Block.layers p _ _
          (rw (c.start.ensures.device, c.start.ensures.state, e.next, c.start.ensures.committed, begun, copies, c.take.ensures.after) refl)
          refl
          sized
          (text_started s.state t.state (g.B.Block.contents s.device) (g.B.Block.contents t.device) (committed s.exceptions) (committed t.exceptions) (pairs_pending s.exceptions) (pairs_pending t.exceptions) p.pair c.start.ensures.state (ap g.B.Block.contents c.start.ensures.device) c.start.ensures.committed begun text),
    )

pub returns-in_default-clause-in_step : goal.returns-in_default-clause-in_step
returns-in_default-clause-in_step g c =
    let s = c.self.inside.store in
    let t = c.start.new.self in
    step_like g.B.Block.contents g.B.Block.layers g.B.Block.size _ s.state t.area.bytes.items _ _ _ c.self.invariant.0 (like_same s.state t.state c.start.ensures.state) t.size t.given t.stored

pub returns-clause-in_step : goal.returns-clause-in_step
returns-clause-in_step g c =
    let s = c.self.inside.store in
    let t = c.start.new.self in
    step_like g.B.Block.contents g.B.Block.layers g.B.Block.size _ s.state t.area.bytes.items _ _ _ c.self.invariant.0 (like_same s.state t.state c.start.ensures.state) t.size t.given t.stored
