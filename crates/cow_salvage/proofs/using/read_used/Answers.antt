use Rattle.std.proofs.Common.{◌≡◌, ◌∙◌, ◌+◌, ◌*◌, ◌≤◌, ap, sym, arith, ℕ}
use Rattle.cow_format.specs.Places.{area_place, slot}
use Rattle.cow_image.proofs.Loads.{area_far}
use Rattle.cow_salvage.specs.Used.{used_below}
use Rattle.cow_salvage.proofs.UsedSlots.{inside_more, used_area}
use Rattle.cow_salvage.proofs.using.read_used.Goals as goal

pub loop-current-preserved : goal.loop-current-preserved
loop-current-preserved g c =
    let i = c.loop-current.invariant in
    let chunk = c.args.chunk in
    let current = c.loop-current.current in
    let here : chunk * (area_place chunk current + 1) ≤ c.args.size = let h = c.if-size-chunk.false in omega arith in
    record {
      bytes = c.in_default-read_area.ensures.bytes ∙ i.bytes;
      chunk = c.in_default-read_area.ensures.chunk ∙ i.chunk;
      inside = inside_more chunk c.args.size current here;
      all = λ b is. used_area chunk current c.loop-current.area.chunk c.read_area.new.area.chunk b c.read_area.new.area.bytes.items c.loop-current.slots.items c.take_used.new.slots.items
          i.chunk (c.in_default-read_area.ensures.chunk ∙ i.chunk) (c.in_default-read_area.ensures.data b (i.bytes ∙ is)) (i.all b is) c.in-Ok-take_used.ensures;
    }

pub returns-clause-used : goal.returns-clause-used
returns-clause-used g c = λ b is.
    let i = c.loop-current.invariant in
    let end : c.loop-current.current ≡ c.args.size = let low = c.loop-current-test.false in let high = c.loop-current.auto.current-end in omega arith in
    record {
      whole = record {
        inside = λ a lt. i.inside a (omega arith);
        past = area_far c.args.size c.args.chunk c.args.size c.requires.some (omega arith);
      };
      all = i.all b is ∙ ap (λ n. used_below (slot c.args.chunk b) (n * (32 * c.args.chunk))) end;
    }
