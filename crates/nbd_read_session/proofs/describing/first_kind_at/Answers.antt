use Rattle.std.proofs.Common.{◌≡◌, ℕ, ◌∙◌, ap, sym, Bool, List, take, drop}
use Rattle.nbd_read_session.specs.Blocks.{alike, most_blocks, is_blank, asked_bytes}
use Rattle.nbd_read_session.proofs.Blanks.{first_block}
use Rattle.nbd_read_session.proofs.describing.first_kind_at.Goals as goal

pub returns-clause-data : goal.returns-clause-data
returns-clause-data g c = λ b bis.
    let read = c.in_ok-blank.ensures.data b bis in
    let is : c.in_ok-blank.blank ≡ is_blank (take 4096 (asked_bytes c.args.offset c.args.count b.bytes)) = read.0 ∙ sym (ap is_blank (first_block b.bytes c.args.offset c.args.count c.min.result c.min.ensures)) in
    let len = c.in_ok-len.ensures.data b (c.in_ok-blank.ensures.shows c.args.export ∙ bis) in
    (len ∙ ap (λ (k : Bool). alike most_blocks k (asked_bytes c.args.offset c.args.count b.bytes)) is, is)
