use Rattle.std.proofs.Common.{◌≡◌, ◌∙◌, ◌*◌, ap, arith}
use Rattle.sector.specs.Bytes.{with_sectors}
use Rattle.store.proofs.marking.write_header.Goals as goal

pub returns-in-Ok-clause-written : goal.returns-in-Ok-clause-written
returns-in-Ok-clause-written g c = λ loud.
    let chunk = c.put_header.ensures.chunk in
    let first : c.args.room.now.chunk * 0 ≡ 0 = omega arith in
    c.in-Ok.ensures.written loud
    ∙ ap (λ n. with_sectors (g.B.Block.contents c.args.device.now) (n * 0) c.encode.result.now) chunk
    ∙ ap (λ n. with_sectors (g.B.Block.contents c.args.device.now) n c.encode.result.now) first
    ∙ ap (λ y. with_sectors (g.B.Block.contents c.args.device.now) 0 y) (c.encode.ensures ∙ c.put_header.ensures.text)
