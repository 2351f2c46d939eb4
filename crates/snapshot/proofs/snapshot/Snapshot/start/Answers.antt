use Rattle.std.proofs.Common.{◌≡◌, ◌==◌, ◌+◌, ◌*◌, [], ◌∷◌, ◌++◌, length, arith, refl, ap, ◌∙◌, sym, true, length-append}
use Rattle.std.specs.List.{list_any}
use Rattle.in_flight.specs.Copies.{count_of}
use Rattle.in_flight.specs.declared.copies.ChunkCopy.{ChunkCopy}
use Rattle.in_flight.specs.declared.copies.Stage.TheVariants.{Waiting}
use Rattle.store.specs.Held.{committed, pending, pairs_pending}
use Rattle.snapshot.specs.Calls.{started}
use Rattle.snapshot.proofs.Copies.{copies_push, not_begun, state_same, like_same}
use Rattle.snapshot.proofs.Stores.{pairs_more, store_holds, text_started}
use Rattle.snapshot.proofs.Events.{starts_at}
use Rattle.snapshot.proofs.Spared.{spared_like, spared_push}
use Rattle.snapshot.proofs.Steps.{step_like}
use Rattle.snapshot.proofs.snapshot.Snapshot.start.Goals as goal

pub start-requires-clause-idle : goal.start-requires-clause-idle
start-requires-clause-idle g c =
    not_begun (pairs_pending c.self.inside.store.exceptions) c.self.inside.copies.items c.args.chunk c.self.invariant.0.agree
    (ap (λ v. list_any (λ (p : ChunkCopy). p.pair.old == c.args.chunk) v.copies) c.self.view_is ∙ c.requires.idle)

pub invariant_of-self-2 : goal.invariant_of-self-2
invariant_of-self-2 g c =
    let s = c.self.inside.store in
    let t = c.start.new.self in
    let e = c.in-Some.ensures in
    let copies = c.self.inside.copies.items in
    let p : ChunkCopy = record { number = c.args.number; pair = c.in-Some.begun.pair; stage = Waiting; buffer = c.args.buffer } in
    let alive : c.self.inside.live ≡ true = ap (λ v. v.live) c.self.view_is ∙ c.requires.live in
    let room : length c.args.buffer.items ≡ 512 * count_of s.state.chunk s.state.origin c.in-Some.begun.pair.old =
    c.requires.buffer ∙ ap (λ v. 512 * count_of v.state.chunk v.state.origin c.args.chunk) (sym c.self.view_is) ∙ ap (λ x. 512 * count_of s.state.chunk s.state.origin x.old) (sym e.pair) in
    let len : length c.push_reserved.new.self.items ≡ length copies + 1 = ap length c.push_reserved.ensures.items ∙ length-append copies (p ∷ []) in
    let has = c.self.invariant.1 in (
      rw c.push_reserved.ensures.items
          (state_same _ _ _ _ s.state t.state (pairs_pending s.exceptions ++ p.pair ∷ []) _ _ _
          (copies_push _ _ _ _ s.state (pairs_pending s.exceptions) _ copies _ p alive c.self.invariant.0 refl room)
          c.start.ensures.state (pairs_more (pending s.exceptions) (pending t.exceptions) c.in-Some.begun e.pending)),
      record {
        for_pairs = omega (arith, e.used, has.for_pairs, ap (λ v. v.room) c.self.view_is);
        counted = has.counted;
        for_copies = omega (arith, len, has.for_copies, c.push_reserved.ensures.capacity, ap (λ v. v.room) c.self.view_is);
        for_marks = omega (arith, len, has.for_marks, ap (λ v. v.room) c.self.view_is);
      },
      rw c.push_reserved.ensures.items
          (spared_like s.state.chunk t.state.chunk c.self.inside.spare c.self.inside.merging (copies ++ p ∷ []) (ap (λ x. x.chunk) c.start.ensures.state)
          (spared_push s.state.chunk c.self.inside.spare c.self.inside.merging copies p c.self.invariant.2)),
    )

pub returns-clause-started : goal.returns-clause-started
returns-clause-started g c =
    let s = c.self.inside.store in
    let t = c.start.new.self in
    let e = c.in-Some.ensures in
    let p : ChunkCopy = started c.args.number c.args.chunk s.places.next c.args.buffer in
    let begun : pairs_pending t.exceptions ≡ pairs_pending s.exceptions ++ p.pair ∷ [] =
    pairs_more (pending s.exceptions) (pending t.exceptions) c.in-Some.begun e.pending ∙ ap (λ x. pairs_pending s.exceptions ++ x ∷ []) e.pair in
    let copies : c.push_reserved.new.self.items ≡ c.self.inside.copies.items ++ p ∷ [] =
    c.push_reserved.ensures.items ∙ ap (λ x. let q : ChunkCopy = record { number = c.args.number; pair = x; stage = Waiting; buffer = c.args.buffer } in c.self.inside.copies.items ++ q ∷ []) e.pair in
    let text = store_holds t.state.chunk t.state.origin t.state.size t.places.next t.state.copying (g.B.Block.contents t.device) (committed t.exceptions) (pairs_pending t.exceptions) t.front.some t.front.allowed (g.met.B.Block.whole t.device ∙ ap (λ n. 512 * n) (sym t.size)) t.given in
    rw (← c.self.view_is)
    (starts_at g.B.Block.contents g.B.Block.layers p _ _
    (rw (c.start.ensures.device, c.start.ensures.state, e.next, c.start.ensures.committed, begun, copies) refl)
    refl
    (c.requires.buffer ∙ ap (λ v. 512 * count_of v.state.chunk v.state.origin c.args.chunk) (sym c.self.view_is))
    (text_started s.state t.state (g.B.Block.contents s.device) (g.B.Block.contents t.device) (committed s.exceptions) (committed t.exceptions) (pairs_pending s.exceptions) (pairs_pending t.exceptions) p.pair c.start.ensures.state (ap g.B.Block.contents c.start.ensures.device) c.start.ensures.committed begun text))

pub returns-in_default-clause-in_step : goal.returns-in_default-clause-in_step
returns-in_default-clause-in_step g c =
    let s = c.self.inside.store in
    let t = c.start.new.self in
    step_like g.B.Block.contents g.B.Block.layers g.B.Block.size _ s.state t.area.bytes.items _ _ _ c.self.invariant.0 (like_same s.state t.state c.start.ensures.state) t.size t.given t.stored

pub returns-clause-in_step : goal.returns-clause-in_step
returns-clause-in_step g c =
    let s = c.self.inside.store in
    let t = c.start.new.self in
    step_like g.B.Block.contents g.B.Block.layers g.B.Block.size _ s.state t.area.bytes.items _ _ _ c.self.invariant.0 (like_same s.state t.state c.start.ensures.state) t.size t.given t.stored
