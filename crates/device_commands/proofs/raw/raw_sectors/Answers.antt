use Rattle.std.proofs.Common.{◌≡◌, ◌∙◌, ◌/◌, length, ap, sym, arith, rules}
use Rattle.std.specs.Prelude.{Ok}
use Rattle.words.specs.Given.{◌>>=◌}
use Rattle.sector.specs.Bytes.{sectors_at}
use Rattle.sector.proofs.Sectors.{written_back}
use Rattle.device.specs.Disk.{disk_contents}
use Rattle.device.specs.Laws.{disk_whole}
use Rattle.command_semantics.specs.Raw.{fits}
use Rattle.device_commands.proofs.raw.raw_sectors.Goals as goal

pub returns : goal.returns
returns c =
    let all = disk_contents c.args.disk.now in
    let size : length all / 512 ≡ c.sectors.result = omega (arith, disk_whole c.args.disk.now, c.sectors.ensures) in
    let inside : fits (length all / 512) c.args.first c.args.count ≡ Ok tt = ap (λ n. fits n c.args.first c.args.count) size ∙ c.in_ok-range.ensures.value in
    let read : c.from_vec.result ≡ sectors_at all c.args.first c.args.count =
    c.from_vec.ensures ∙ written_back _ c.raw.new.out _ (search rules) ∙ c.raw.ensures
    ∙ ap (λ f. sectors_at all f c.in_ok-range.range.count) c.in_ok-range.ensures.first ∙ ap (λ n. sectors_at all c.args.first n) c.in_ok-range.ensures.count in
    ap (λ r. r >>= λ _. Ok (sectors_at all c.args.first c.args.count)) inside ∙ ap (λ b. Ok b) (sym read)
