use Rattle.std.proofs.Common.{◌≡◌, ◌+◌, ◌*◌, ◌≤◌, ◌∙◌, length, arith}
use Rattle.cow_salvage.specs.Blanks.{byte_or_blank}
use Rattle.cow_salvage.proofs.BlankBytes.{sector_more}
use Rattle.cow_salvage.proofs.blanked.read_sectors.Goals as goal

pub loop-index-preserved : goal.loop-index-preserved
loop-index-preserved g c =
    let i = c.loop-index.invariant in
    let index = c.loop-index.index in
    let fits : 512 * index + 512 ≤ length c.loop-index.out = let h = c.loop-index-test.true in let s = c.loop-index.auto.out in omega arith in
    record {
      bytes = c.in_ok-read_sector.ensures.bytes ∙ i.bytes;
      got = λ b is. sector_more index c.args.first c.loop-index.out c.read_sector.new.out (byte_or_blank c.args.spans.now b) fits c.in_ok-read_sector.ensures.len (i.got b is) (c.in_ok-read_sector.ensures.data b (i.bytes ∙ is));
    }
