use Rattle.std.proofs.Common.{inl, inr, ◌<◌, ◌≤◌, ◌+◌, ◌*◌, ◌∙◌, arith, ap, sym}
use Rattle.std.proofs.lemmas.Result.{err_from_is_err_and}
use Rattle.cow_format.specs.Places.{area_place, chunk_at}
use Rattle.crash_laws.proofs.Firm.{adds_then}
use Rattle.store.proofs.Loads.{prefix_more, pairs-loaded, prefix_lacks, prefix_low, area_far}
use Rattle.store.proofs.AreaReads.{area_read, area_fails, area_lacks, pairs_read, areas_are_read}
use Rattle.store.proofs.loading.read_areas.Goals as goal

pub returns-then-size-chunk-clause-damaged : goal.returns-then-size-chunk-clause-damaged
returns-then-size-chunk-clause-damaged g c = λ _.
    let a = c.args.area.now in
    let is = c.sectors-size.ensures in
    let past : g.B.Block.size c.args.device.now < a.chunk * (area_place a.chunk c.loop-current.current + 1) = let h = c.if-size-chunk.true in omega arith in
    prefix_lacks (g.B.Block.size c.args.device.now) a.chunk c.loop-current.current (g.B.Block.contents c.args.device.now) c.loop-current.pairs.items a.some c.loop-current.invariant.prefix past

pub returns-clause-damaged : goal.returns-clause-damaged
returns-clause-damaged g c = λ _.
    let a = c.args.area.now in
    let is = c.sectors-size.ensures in
    let past : g.B.Block.size c.args.device.now ≤ c.loop-current.current = let h = c.loop-current-test.false in omega arith in
    prefix_lacks (g.B.Block.size c.args.device.now) a.chunk c.loop-current.current (g.B.Block.contents c.args.device.now) c.loop-current.pairs.items a.some c.loop-current.invariant.prefix (area_far (g.B.Block.size c.args.device.now) a.chunk c.loop-current.current a.some past)

pub returns-then-branch-chunk-clause-read : goal.returns-then-branch-chunk-clause-read
returns-then-branch-chunk-clause-read g c =
    let a = c.args.area.now in
    let i = c.loop-current.invariant in
    let current = c.loop-current.current in
    let bytes = g.B.Block.contents c.args.device.now in
    let loaded = rw (c.in-Ok.ensures.chunk, i.chunk) at c.in_ok-take_slots.ensures.loaded in
    let at = c.in-Ok.ensures.data ∙ ap (λ n. chunk_at n (g.B.Block.contents c.loop-current.device) (area_place a.chunk current)) i.chunk ∙ ap (λ b. chunk_at a.chunk b (area_place a.chunk current)) i.contents in
    let inside : a.chunk * (area_place a.chunk current + 1) ≤ g.B.Block.size c.args.device.now = let h = c.if-size-chunk.false in let is = c.sectors-size.ensures in omega arith in
    pairs-loaded (g.B.Block.size c.args.device.now) a.chunk current c.in_ok-take_slots.field-0 bytes c.read_area.new.area.bytes.items c.loop-current.pairs.items c.take_slots.new.pairs.items a.some i.prefix loaded at c.if-branch-chunk.true inside

pub loop-current-preserved : goal.loop-current-preserved
loop-current-preserved g c =
    let a = c.args.area.now in
    let i = c.loop-current.invariant in
    let current = c.loop-current.current in
    let bytes = g.B.Block.contents c.args.device.now in
    let loaded = rw (c.in-Ok.ensures.chunk, i.chunk) at c.in_ok-take_slots.ensures.loaded in
    let at = c.in-Ok.ensures.data ∙ ap (λ n. chunk_at n (g.B.Block.contents c.loop-current.device) (area_place a.chunk current)) i.chunk ∙ ap (λ b. chunk_at a.chunk b (area_place a.chunk current)) i.contents in
    let inside : a.chunk * (area_place a.chunk current + 1) ≤ g.B.Block.size c.args.device.now = let h = c.if-size-chunk.false in let is = c.sectors-size.ensures in omega arith in
    let operation = rw i.chunk at c.in-Ok.ensures.operation in
    record {
      contents = c.in-Ok.ensures.contents ∙ i.contents;
      durable = c.in-Ok.ensures.durable ∙ i.durable;
      adds = adds_then (g.B.Block.may_hold c.args.device.now) (g.B.Block.may_hold c.loop-current.device) (g.B.Block.may_hold c.read_area.new.device) _ _ (sym c.in-Ok.ensures.contents) i.adds c.in-Ok.ensures.adds;
      size = c.in-Ok.ensures.size ∙ i.size;
      loud = c.in-Ok.ensures.loud ∙ i.loud;
      faults = c.in-Ok.ensures.faults ∙ i.faults;
      layers = area_read a.chunk (g.B.Block.size c.args.device.now) current (g.B.Block.layers c.args.device.now) (g.B.Block.layers c.loop-current.device) (g.B.Block.layers c.read_area.new.device) i.layers inside operation.answer operation.layers;
      chunk = c.in-Ok.ensures.chunk ∙ i.chunk;
      prefix = prefix_more a.chunk current c.in_ok-take_slots.field-0 bytes c.read_area.new.area.bytes.items c.loop-current.pairs.items c.take_slots.new.pairs.items i.prefix loaded at c.if-branch-chunk.false;
    }

pub returns-then-size-chunk-clause-layers : goal.returns-then-size-chunk-clause-layers
returns-then-size-chunk-clause-layers g c =
    let a = c.args.area.now in
    let i = c.loop-current.invariant in
    let is = c.sectors-size.ensures in
    let past : g.B.Block.size c.args.device.now < a.chunk * (area_place a.chunk c.loop-current.current + 1) = let h = c.if-size-chunk.true in omega arith in
    inr (inl (area_lacks a.chunk (g.B.Block.size c.args.device.now) c.loop-current.current (g.B.Block.contents c.args.device.now) c.loop-current.pairs.items (g.B.Block.layers c.args.device.now) (g.B.Block.layers c.loop-current.device) a.some i.prefix i.layers past))

pub returns-clause-layers : goal.returns-clause-layers
returns-clause-layers g c =
    let a = c.args.area.now in
    let i = c.loop-current.invariant in
    let is = c.sectors-size.ensures in
    let past : g.B.Block.size c.args.device.now ≤ c.loop-current.current = let h = c.loop-current-test.false in omega arith in
    inr (inl (area_lacks a.chunk (g.B.Block.size c.args.device.now) c.loop-current.current (g.B.Block.contents c.args.device.now) c.loop-current.pairs.items (g.B.Block.layers c.args.device.now) (g.B.Block.layers c.loop-current.device) a.some i.prefix i.layers (area_far (g.B.Block.size c.args.device.now) a.chunk c.loop-current.current a.some past)))

pub returns-in_default-clause-layers : goal.returns-in_default-clause-layers
returns-in_default-clause-layers g c =
    let a = c.args.area.now in
    let i = c.loop-current.invariant in
    let current = c.loop-current.current in
    let inside : a.chunk * (area_place a.chunk current + 1) ≤ g.B.Block.size c.args.device.now = let h = c.if-size-chunk.false in let is = c.sectors-size.ensures in omega arith in
    let operation = rw i.chunk at c.in_default.ensures.operation in
    inr (inl (area_fails a.chunk (g.B.Block.size c.args.device.now) current (g.B.Block.contents c.args.device.now) c.loop-current.pairs.items (g.B.Block.layers c.args.device.now) (g.B.Block.layers c.loop-current.device) (g.B.Block.layers c.read_area.new.device) a.some i.prefix i.layers inside operation.answer operation.layers))

pub returns-in_err-take_slots-clause-layers : goal.returns-in_err-take_slots-clause-layers
returns-in_err-take_slots-clause-layers g c =
    let a = c.args.area.now in
    let i = c.loop-current.invariant in
    let current = c.loop-current.current in
    let inside : a.chunk * (area_place a.chunk current + 1) ≤ g.B.Block.size c.args.device.now = let h = c.if-size-chunk.false in let is = c.sectors-size.ensures in omega arith in
    let operation = rw i.chunk at c.in-Ok.ensures.operation in
    let p = err_from_is_err_and c.from_residual.result c.from_residual.ensures.1 in
    rw (p.1, p.2) (inl (
      c.in_err-take_slots.ensures.refusal,
      areas_are_read a.chunk (g.B.Block.size c.args.device.now) 0 (current + 1) (g.B.Block.layers c.args.device.now) (g.B.Block.layers c.read_area.new.device)
          (area_read a.chunk (g.B.Block.size c.args.device.now) current (g.B.Block.layers c.args.device.now) (g.B.Block.layers c.loop-current.device) (g.B.Block.layers c.read_area.new.device) i.layers inside operation.answer operation.layers),
    ))

pub returns-in_err-take_slots-clause-starved : goal.returns-in_err-take_slots-clause-starved
returns-in_err-take_slots-clause-starved g c =
    let a = c.args.area.now in
    let i = c.loop-current.invariant in
    let current = c.loop-current.current in
    let bytes = g.B.Block.contents c.args.device.now in
    let inside : a.chunk * (area_place a.chunk current + 1) ≤ g.B.Block.size c.args.device.now = let h = c.if-size-chunk.false in let is = c.sectors-size.ensures in omega arith in
    let operation = rw i.chunk at c.in-Ok.ensures.operation in
    let p = err_from_is_err_and c.from_residual.result c.from_residual.ensures.1 in
    let low = prefix_low a.chunk current bytes c.loop-current.pairs.items a.some i.prefix in
    rw p.1 (λ _. record {
      areas = current + 1;
      few = omega arith;
      reads = area_read a.chunk (g.B.Block.size c.args.device.now) current (g.B.Block.layers c.args.device.now) (g.B.Block.layers c.loop-current.device) (g.B.Block.layers c.read_area.new.device) i.layers inside operation.answer operation.layers;
    })

pub returns-then-branch-chunk-clause-layers : goal.returns-then-branch-chunk-clause-layers
returns-then-branch-chunk-clause-layers g c =
    let a = c.args.area.now in
    let i = c.loop-current.invariant in
    let current = c.loop-current.current in
    let bytes = g.B.Block.contents c.args.device.now in
    let loaded = rw (c.in-Ok.ensures.chunk, i.chunk) at c.in_ok-take_slots.ensures.loaded in
    let at = c.in-Ok.ensures.data ∙ ap (λ n. chunk_at n (g.B.Block.contents c.loop-current.device) (area_place a.chunk current)) i.chunk ∙ ap (λ b. chunk_at a.chunk b (area_place a.chunk current)) i.contents in
    let inside : a.chunk * (area_place a.chunk current + 1) ≤ g.B.Block.size c.args.device.now = let h = c.if-size-chunk.false in let is = c.sectors-size.ensures in omega arith in
    let operation = rw i.chunk at c.in-Ok.ensures.operation in
    pairs_read a.chunk (g.B.Block.size c.args.device.now) current bytes c.read_area.new.area.bytes.items c.take_slots.new.pairs.items (g.B.Block.layers c.args.device.now) (g.B.Block.layers c.read_area.new.device) a.some
    (pairs-loaded (g.B.Block.size c.args.device.now) a.chunk current c.in_ok-take_slots.field-0 bytes c.read_area.new.area.bytes.items c.loop-current.pairs.items c.take_slots.new.pairs.items a.some i.prefix loaded at c.if-branch-chunk.true inside)
    (area_read a.chunk (g.B.Block.size c.args.device.now) current (g.B.Block.layers c.args.device.now) (g.B.Block.layers c.loop-current.device) (g.B.Block.layers c.read_area.new.device) i.layers inside operation.answer operation.layers)

pub returns-in_default-clause-adds : goal.returns-in_default-clause-adds
returns-in_default-clause-adds g c =
    adds_then (g.B.Block.may_hold c.args.device.now) (g.B.Block.may_hold c.loop-current.device) (g.B.Block.may_hold c.read_area.new.device) _ _ (sym c.in_default.ensures.contents) c.loop-current.invariant.adds c.in_default.ensures.adds

pub returns-in_err-take_slots-clause-adds : goal.returns-in_err-take_slots-clause-adds
returns-in_err-take_slots-clause-adds g c =
    adds_then (g.B.Block.may_hold c.args.device.now) (g.B.Block.may_hold c.loop-current.device) (g.B.Block.may_hold c.read_area.new.device) _ _ (sym c.in-Ok.ensures.contents) c.loop-current.invariant.adds c.in-Ok.ensures.adds

pub returns-then-branch-chunk-clause-adds : goal.returns-then-branch-chunk-clause-adds
returns-then-branch-chunk-clause-adds g c =
    adds_then (g.B.Block.may_hold c.args.device.now) (g.B.Block.may_hold c.loop-current.device) (g.B.Block.may_hold c.read_area.new.device) _ _ (sym c.in-Ok.ensures.contents) c.loop-current.invariant.adds c.in-Ok.ensures.adds
