use Rattle.std.proofs.Common.{◌≡◌, ℕ, ◌+◌, ◌*◌, ◌<◌, ◌≤◌, List, [], ◌∙◌, length, take, drop, arith, rules, refl, sym, subst, length-append, length-drop}
use Rattle.cow_salvage.specs.Unread.{AddUnread, Stand, AreUnread}
use Rattle.cow_salvage.proofs.Tries.{are_unread, stand_none}
use Rattle.cow_salvage.proofs.trying.unreadable.Goals as goal

pub returns-clause-each : goal.returns-clause-each
returns-clause-each g c =
    let none = c.new-spans.ensures.items in
    are_unread (g.I.Image.may_fail c.args.image.now) (g.I.Image.may_give c.args.image.now) c.args.size c.try_pieces.new.spans.items
    (subst (λ (xs : _). AddUnread (g.I.Image.may_fail c.args.image.now) (g.I.Image.may_give c.args.image.now) 0 xs c.args.size c.try_pieces.new.spans.items) none (c.in_ok-try_pieces.ensures.each (subst (Stand 0) (sym none) (stand_none (g.I.Image.may_fail c.args.image.now) (g.I.Image.may_give c.args.image.now)))))
