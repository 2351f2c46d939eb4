-- All sectors of the disk are kept aside.
use Rattle.std.proofs.Common.{◌≡◌, ◌∙◌, ℕ, ◌*◌, List, length, ap, arith, rules}
use Rattle.std.proofs.lemmas.List.{places, same_lists}
use Rattle.sector.specs.Bytes.{sectors_at}
use Rattle.sector.proofs.Sectors.{written_back}
use Rattle.device.specs.Disk.{disk_contents}
use Rattle.device.specs.Laws.{disk_whole}
use Rattle.torn_disk.proofs.torn_disk.TornDisk.blow.Goals as goal

all_sectors : (b : List ℕ) (count : ℕ) → length b ≡ 512 * count → sectors_at b 0 count ≡ b
all_sectors b count whole = same_lists _ _ (search (rules, places)) (λ k d h. grind (arith, places))

pub returns-clause-before : goal.returns-clause-before
returns-clause-before c =
    let disk = c.args.self.now.disk in
    let read : c.raw.new.out ≡ disk_contents disk = c.raw.ensures ∙ all_sectors (disk_contents disk) c.sectors-sectors.result (omega (arith, disk_whole disk, c.sectors-sectors.ensures)) in
    ap (λ f. f.before.items) c.fail.ensures.counted ∙ written_back _ _ _ (search rules) ∙ read
