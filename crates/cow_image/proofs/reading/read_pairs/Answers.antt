use Rattle.std.proofs.Common.{◌≤◌, ◌<◌, ◌+◌, ◌*◌, ◌/◌, ◌∙◌, arith, ap, length}
use Rattle.cow_format.specs.Places.{area_place, chunk_at}
use Rattle.cow_format.specs.Pairs.{pairs_of}
use Rattle.cow_image.proofs.Loads.{prefix_more, prefix_low, pairs-loaded, area_far}
use Rattle.cow_image.proofs.reading.read_pairs.Goals as goal

pub returns-then-size-chunk-clause-listed : goal.returns-then-size-chunk-clause-listed
returns-then-size-chunk-clause-listed g c = λ b is.
    let a = c.args.area.now in
    let i = c.loop-current.invariant in
    let past : c.args.size < a.chunk * (area_place a.chunk c.loop-current.current + 1) = let h = c.if-size-chunk.true in omega arith in
    (prefix_low a.chunk c.loop-current.current b c.loop-current.pairs.items a.some (i.prefix b is), past)

pub returns-clause-listed : goal.returns-clause-listed
returns-clause-listed g c = λ b is.
    let a = c.args.area.now in
    let low = prefix_low a.chunk c.loop-current.current b c.loop-current.pairs.items a.some (c.loop-current.invariant.prefix b is) in
    let end = c.loop-current-test.false in
    let far : c.args.size ≤ length (pairs_of a.chunk b) / (32 * a.chunk) = omega arith in
    (far, area_far c.args.size a.chunk c.args.size a.some (omega arith))

pub returns-then-branch-chunk-clause-listed : goal.returns-then-branch-chunk-clause-listed
returns-then-branch-chunk-clause-listed g c = λ b is.
    let a = c.args.area.now in
    let i = c.loop-current.invariant in
    let current = c.loop-current.current in
    let loaded = rw (c.in_default.ensures.chunk, i.chunk) at c.in_ok-take_slots.ensures.loaded in
    let at = c.in_default.ensures.data b (i.bytes ∙ is) ∙ ap (λ n. chunk_at n b (area_place a.chunk current)) i.chunk in
    let inside : a.chunk * (area_place a.chunk current + 1) ≤ c.args.size = let h = c.if-size-chunk.false in omega arith in
    pairs-loaded c.args.size a.chunk current c.in_ok-take_slots.field-0 b c.read_area.new.area.bytes.items c.loop-current.pairs.items c.take_slots.new.pairs.items a.some (i.prefix b is) loaded at c.if-branch-chunk.true inside

pub loop-current-preserved : goal.loop-current-preserved
loop-current-preserved g c =
    let a = c.args.area.now in
    let i = c.loop-current.invariant in
    let current = c.loop-current.current in
    let loaded = rw (c.in_default.ensures.chunk, i.chunk) at c.in_ok-take_slots.ensures.loaded in
    record {
      bytes = c.in_default.ensures.bytes ∙ i.bytes;
      chunk = c.in_default.ensures.chunk ∙ i.chunk;
      prefix = λ b is.
          let at = c.in_default.ensures.data b (i.bytes ∙ is) ∙ ap (λ n. chunk_at n b (area_place a.chunk current)) i.chunk in
          prefix_more a.chunk current c.in_ok-take_slots.field-0 b c.read_area.new.area.bytes.items c.loop-current.pairs.items c.take_slots.new.pairs.items (i.prefix b is) loaded at c.if-branch-chunk.false;
    }
