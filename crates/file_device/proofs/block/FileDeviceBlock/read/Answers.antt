use Rattle.std.proofs.Common.{◌≡◌, ◌∙◌, true, false, sym, rules}
use Rattle.std.specs.Prelude.{is_ok, not, ◌&&◌}
use Rattle.std.specs.List.{list_any}
use Rattle.file_calls.specs.Kept.{now_in}
use Rattle.file_device.specs.Pieces.{has_all, pieces_in}
use Rattle.file_device.specs.Layers.{at_first, is_found_kept}
use Rattle.file_device.specs.Laws.{answers}
use Rattle.file_device.proofs.block.FileDeviceBlock.read.Goals as goal
use Rattle.file_device.proofs.block.FileDeviceBlock.read.Goals.{then-self-via-then-self, then-self-via-else-self+then-not-give}

pub returns-then-self-clause-answer : goal.returns-then-self-clause-answer
returns-then-self-clause-answer g c =
    let d = c.args.self.now in
    let failed : is_ok c.fail.result ≡ false = search rules in
    failed ∙ sym (answers d.is_broken d.pieces (is_found_kept (at_first (g.S.Start.first d.number) d.sectors) (g.C.FileCalls.history d.file)) c.args.range.first c.args.range.count
    ∙ (elim c.then-self.branch [ then-self-via-then-self w ↦ (let no : (not d.is_broken && list_any (has_all c.args.range.first c.args.range.count) (pieces_in d.pieces)) ≡ false = search rules in no) | then-self-via-else-self+then-not-give w ↦ (let no : (not d.is_broken && list_any (has_all c.args.range.first c.args.range.count) (pieces_in d.pieces)) ≡ false = search rules in no) ]))

pub returns-clause-answer : goal.returns-clause-answer
returns-clause-answer g c =
    let d = c.args.self.now in
    let is : (not d.is_broken && list_any (has_all c.args.range.first c.args.range.count) (pieces_in d.pieces)) ≡ true = search rules in
    sym (answers d.is_broken d.pieces (is_found_kept (at_first (g.S.Start.first d.number) d.sectors) (g.C.FileCalls.history d.file)) c.args.range.first c.args.range.count ∙ is)

pub returns-clause-data : goal.returns-clause-data
returns-clause-data g c =
    let d = c.args.self.now in
    c.give.ensures.gives (now_in (at_first (g.S.Start.first d.number) d.sectors) (g.C.FileCalls.history d.file)) d.sectors d.long d.there (let is : c.give.result ≡ true = cc in is)
