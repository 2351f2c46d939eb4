use Rattle.std.proofs.Common.{◌≡◌, ◌+◌, ◌*◌, ◌<◌, length, get_or, arith, refl, ap, ◌∙◌, sym, length-set}
use Rattle.std.proofs.lemmas.List.{get_or_default}
use Rattle.sector.specs.Bytes.{with_sectors}
use Rattle.in_flight.specs.declared.copies.ChunkCopy.{ChunkCopy}
use Rattle.in_flight.specs.declared.copies.Stage.TheVariants.{Written}
use Rattle.store.specs.Held.{committed, pairs_pending, reserved}
use Rattle.snapshot.proofs.Copies.{copy_inside, copy_set, state_same, like_same}
use Rattle.snapshot.proofs.Events.{writes_at}
use Rattle.snapshot.proofs.Spared.{spared_like, spared_set}
use Rattle.snapshot.proofs.Steps.{step_like}
use Rattle.snapshot.proofs.snapshot.Snapshot.write_copy.Goals as goal

pub sectors_of-count-requires : goal.sectors_of-count-requires
sectors_of-count-requires g c =
    let s = c.self.inside.store in
    let within : c.args.index < length c.self.inside.copies.items = omega (arith, ap (λ v. length v.copies) c.self.view_is) in
    let h = copy_inside s.state.chunk s.state.origin s.state.size (committed s.exceptions) (pairs_pending s.exceptions) c.self.inside.copies.items c.args.index c.index-copy.result.now s.given.inside c.self.invariant.0.agree within c.index-copy.ensures in
    omega (arith, h.old)

pub write_chunk-requires-clause-some : goal.write_chunk-requires-clause-some
write_chunk-requires-clause-some g c =
    let s = c.self.inside.store in
    let within : c.args.index < length c.self.inside.copies.items = omega (arith, ap (λ v. length v.copies) c.self.view_is) in
    let h = copy_inside s.state.chunk s.state.origin s.state.size (committed s.exceptions) (pairs_pending s.exceptions) c.self.inside.copies.items c.args.index c.index-copy.result.now s.given.inside c.self.invariant.0.agree within c.index-copy.ensures in
    omega (arith, h.old, s.front.some, c.sectors_of-count.ensures)

pub write_chunk-requires-clause-low : goal.write_chunk-requires-clause-low
write_chunk-requires-clause-low g c =
    let s = c.self.inside.store in
    let within : c.args.index < length c.self.inside.copies.items = omega (arith, ap (λ v. length v.copies) c.self.view_is) in
    let h = copy_inside s.state.chunk s.state.origin s.state.size (committed s.exceptions) (pairs_pending s.exceptions) c.self.inside.copies.items c.args.index c.index-copy.result.now s.given.inside c.self.invariant.0.agree within c.index-copy.ensures in
    h.low

pub write_chunk-requires-clause-free : goal.write_chunk-requires-clause-free
write_chunk-requires-clause-free g c =
    let s = c.self.inside.store in
    let within : c.args.index < length c.self.inside.copies.items = omega (arith, ap (λ v. length v.copies) c.self.view_is) in
    let h = copy_inside s.state.chunk s.state.origin s.state.size (committed s.exceptions) (pairs_pending s.exceptions) c.self.inside.copies.items c.args.index c.index-copy.result.now s.given.inside c.self.invariant.0.agree within c.index-copy.ensures in
    h.free

pub write_chunk-requires-clause-inside : goal.write_chunk-requires-clause-inside
write_chunk-requires-clause-inside g c =
    let s = c.self.inside.store in
    let within : c.args.index < length c.self.inside.copies.items = omega (arith, ap (λ v. length v.copies) c.self.view_is) in
    let h = copy_inside s.state.chunk s.state.origin s.state.size (committed s.exceptions) (pairs_pending s.exceptions) c.self.inside.copies.items c.args.index c.index-copy.result.now s.given.inside c.self.invariant.0.agree within c.index-copy.ensures in
    h.new

pub invariant_of-self : goal.invariant_of-self
invariant_of-self g c =
    let s = c.self.inside.store in
    let t = c.write_chunk.new.self in
    let p = c.index_mut.result.now in
    let q : ChunkCopy = record p { stage = Written } in
    let e = c.in-Ok.ensures in
    let within : c.args.index < length c.self.inside.copies.items = omega (arith, ap (λ v. length v.copies) c.self.view_is) in (
      state_same _ _ _ _ s.state t.state _ _ _ _
          (copy_set _ _ _ _ s.state _ c.self.inside.copies.items _ c.args.index p q c.self.invariant.0 within c.index_mut.ensures.value refl refl)
          e.state (ap pairs_pending e.exceptions),
      rw (ap reserved e.exceptions, length-set) c.self.invariant.1,
      spared_like s.state.chunk t.state.chunk c.self.inside.spare c.self.inside.merging _ (ap (λ x. x.chunk) e.state)
          (spared_set s.state.chunk c.self.inside.spare c.self.inside.merging c.self.inside.copies.items c.args.index p q c.index_mut.ensures.value refl refl c.self.invariant.2),
    )

pub returns-in-Ok-clause-wrote : goal.returns-in-Ok-clause-wrote
returns-in-Ok-clause-wrote g c =
    let s = c.self.inside.store in
    let t = c.write_chunk.new.self in
    let p = c.index-copy.result.now in
    let q : ChunkCopy = record c.index_mut.result.now { stage = Written } in
    let e = c.in-Ok.ensures in
    let within : c.args.index < length c.self.inside.copies.items = omega (arith, ap (λ v. length v.copies) c.self.view_is) in
    let same : c.index_mut.result.now ≡ p = c.index_mut.ensures.value ∙ get_or_default c.self.inside.copies.items c.args.index _ p within ∙ sym c.index-copy.ensures in
    let at : s.state.chunk * p.pair.new + 0 ≡ s.state.chunk * p.pair.new = omega arith in
    rw (← c.self.view_is) (
      p,
      q,
      writes_at g.B.Block.contents g.B.Block.layers c.args.index p q _ _ t.device (rw (e.state, e.places, e.exceptions) refl) within c.index-copy.ensures
          (ap (λ x. x.stage) c.index-copy.ensures ∙ ap (λ v. (get_or v.copies c.args.index p).stage) c.self.view_is ∙ c.requires.read p)
          (record { number = ap (λ x. x.number) same; pair = ap (λ x. x.pair) same; stage = refl; buffer = ap (λ x. x.buffer.items) same })
          e.loud e.only
          (λ l. e.written l ∙ ap (λ n. with_sectors (g.B.Block.contents s.device) n c.as_slice-bytes.result.now) at ∙ ap (λ b. with_sectors (g.B.Block.contents s.device) (s.state.chunk * p.pair.new) b) c.as_slice-bytes.ensures.value),
    )

pub returns-in-Ok-clause-in_step : goal.returns-in-Ok-clause-in_step
returns-in-Ok-clause-in_step g c =
    let s = c.self.inside.store in
    let t = c.write_chunk.new.self in
    step_like g.B.Block.contents g.B.Block.layers g.B.Block.size _ s.state t.area.bytes.items _ _ _ c.self.invariant.0 (like_same s.state t.state c.write_chunk.ensures.state) t.size t.given t.stored

pub returns-in-Err-clause-in_step : goal.returns-in-Err-clause-in_step
returns-in-Err-clause-in_step g c =
    let s = c.self.inside.store in
    let t = c.write_chunk.new.self in
    step_like g.B.Block.contents g.B.Block.layers g.B.Block.size _ s.state t.area.bytes.items _ _ _ c.self.invariant.0 (like_same s.state t.state c.write_chunk.ensures.state) t.size t.given t.stored
