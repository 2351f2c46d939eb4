use Rattle.std.proofs.Common.{◌≡◌, ℕ, ◌+◌, ◌*◌, ◌<◌, ◌≤◌, List, [], ◌∙◌, length, take, drop, arith, rules, refl, sym, subst, length-append, length-drop}
use Rattle.cow_salvage.specs.Unread.{AddUnread, Stand, AreUnread}
use Rattle.cow_salvage.proofs.Tries.{add_read, add_then, add_none}
use Rattle.cow_salvage.proofs.trying.try_piece.Goals as goal

pub returns-in-Ok-clause-each : goal.returns-in-Ok-clause-each
returns-in-Ok-clause-each g c = λ stand. add_read (g.I.Image.may_fail c.args.image.now) (g.I.Image.may_give c.args.image.now) c.args.first c.args.count _ _ c.args.spans.now.items refl c.requires.room stand c.in-Ok.ensures.gives

pub returns-in_ok-try_sectors-in-Err-clause-each : goal.returns-in_ok-try_sectors-in-Err-clause-each
returns-in_ok-try_sectors-in-Err-clause-each g c = λ stand.
    add_then (g.I.Image.may_fail c.args.image.now) (g.I.Image.may_give c.args.image.now) (g.I.Image.may_fail c.read_at.new.self) (g.I.Image.may_give c.read_at.new.self) c.args.first c.args.first (c.args.first + c.args.count) c.args.spans.now.items c.args.spans.now.items c.try_sectors.new.spans.items c.in-Err.ensures.calm c.in-Err.ensures.steady
    (add_none (g.I.Image.may_fail c.args.image.now) (g.I.Image.may_give c.args.image.now) c.args.first c.args.spans.now.items stand) c.in_ok-try_sectors-in-Err.ensures.each
