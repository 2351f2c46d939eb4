use Rattle.std.proofs.Common.{◌≡◌, ◌*◌, ◌<◌, length, arith, refl, ap, ◌∙◌, length-set}
use Rattle.sector.specs.Bytes.{sectors_at}
use Rattle.in_flight.specs.Copies.{count_of}
use Rattle.store.specs.Held.{committed, pairs_pending}
use Rattle.snapshot.proofs.Copies.{copy_inside, copy_set}
use Rattle.snapshot.proofs.Events.{reads_at}
use Rattle.snapshot.proofs.Spared.{spared_set}
use Rattle.snapshot.proofs.snapshot.Snapshot.read_copy.Goals as goal

pub fill-requires-clause-size : goal.fill-requires-clause-size
fill-requires-clause-size g c = omega (arith, c.requires.sectors, ap (λ v. v.state.origin) c.self.view_is)

pub fill-requires-clause-begins : goal.fill-requires-clause-begins
fill-requires-clause-begins g c =
    let s = c.self.inside.store in
    let within : c.args.index < length c.self.inside.copies.items = omega (arith, ap (λ v. length v.copies) c.self.view_is) in
    let h = copy_inside s.state.chunk s.state.origin s.state.size (committed s.exceptions) (pairs_pending s.exceptions) c.self.inside.copies.items c.args.index c.index_mut-copy.result.now s.given.inside c.self.invariant.0.agree within c.index_mut-copy.ensures.value in
    omega (arith, h.old, c.requires.sectors, ap (λ v. v.state.origin) c.self.view_is)

pub invariant_of-self : goal.invariant_of-self
invariant_of-self g c =
    let within : c.args.index < length c.self.inside.copies.items = omega (arith, ap (λ v. length v.copies) c.self.view_is) in (
      copy_set _ _ _ _ c.self.inside.store.state _ c.self.inside.copies.items _ c.args.index _ _ c.self.invariant.0 within c.index_mut-copy.ensures.value c.in-Err.ensures.kept.pair c.fill.ensures.room,
      rw length-set c.self.invariant.1,
      spared_set c.self.inside.store.state.chunk c.self.inside.spare c.self.inside.merging c.self.inside.copies.items c.args.index _ _ c.index_mut-copy.ensures.value c.in-Err.ensures.kept.number c.fill.ensures.capacity c.self.invariant.2,
    )

pub returns-in-Err-clause-kept : goal.returns-in-Err-clause-kept
returns-in-Err-clause-kept g c =
    rw (← c.self.view_is) (c.index_mut-copy.result.now, c.fill.new.copy, record { was = c.index_mut-copy.ensures.value; copy = c.in-Err.ensures.kept; fields = refl })

pub invariant_of-self-2 : goal.invariant_of-self-2
invariant_of-self-2 g c =
    let within : c.args.index < length c.self.inside.copies.items = omega (arith, ap (λ v. length v.copies) c.self.view_is) in (
      copy_set _ _ _ _ c.self.inside.store.state _ c.self.inside.copies.items _ c.args.index _ _ c.self.invariant.0 within c.index_mut-copy.ensures.value c.in-Ok.ensures.read.pair c.fill.ensures.room,
      rw length-set c.self.invariant.1,
      spared_set c.self.inside.store.state.chunk c.self.inside.spare c.self.inside.merging c.self.inside.copies.items c.args.index _ _ c.index_mut-copy.ensures.value c.in-Ok.ensures.read.number c.fill.ensures.capacity c.self.invariant.2,
    )

pub returns-clause-read : goal.returns-clause-read
returns-clause-read g c =
    let s = c.self.inside.store in
    let p = c.index_mut-copy.result.now in
    let r = c.in-Ok.ensures.read in
    let within : c.args.index < length c.self.inside.copies.items = omega (arith, ap (λ v. length v.copies) c.self.view_is) in
    let size : g.B.Block.size c.args.origin.now ≡ s.state.origin = omega (arith, c.requires.sectors, ap (λ v. v.state.origin) c.self.view_is) in
    rw (← c.self.view_is) (
      p,
      c.fill.new.copy,
      reads_at g.B.Block.contents g.B.Block.layers _ c.args.index p c.fill.new.copy _ _ refl within c.index_mut-copy.ensures.value
          (record { number = r.number; pair = r.pair; stage = r.stage; buffer = r.buffer ∙ ap (λ n. sectors_at (g.B.Block.contents c.args.origin.now) (s.state.chunk * p.pair.old) (count_of s.state.chunk n p.pair.old)) size })
          c.fill.ensures.room,
    )
