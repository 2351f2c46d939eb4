use Rattle.std.proofs.Common.{◌≡◌, ℕ, ◌+◌, ◌*◌, ◌<◌, ◌≤◌, List, [], ◌∙◌, length, take, drop, arith, rules, refl, sym, subst, length-append, length-drop}
use Rattle.cow_salvage.specs.Unread.{AddUnread, Stand, AreUnread}
use Rattle.cow_salvage.proofs.Tries.{add_read, add_lost}
use Rattle.cow_salvage.proofs.trying.try_sector.Goals as goal

pub returns-in-Ok-clause-each : goal.returns-in-Ok-clause-each
returns-in-Ok-clause-each g c = λ stand.
    let long : length c.as_mut_slice.result.now ≡ 512 * 1 = search rules in
    add_read (g.I.Image.may_fail c.args.image.now) (g.I.Image.may_give c.args.image.now) c.args.sector 1 _ _ c.args.spans.now.items refl long stand c.in-Ok.ensures.gives

pub returns-in_ok-add_sector-in-Err-clause-each : goal.returns-in_ok-add_sector-in-Err-clause-each
returns-in_ok-add_sector-in-Err-clause-each g c = λ stand.
    let long : length c.as_mut_slice.result.now ≡ 512 = search rules in
    add_lost (g.I.Image.may_fail c.args.image.now) (g.I.Image.may_give c.args.image.now) c.args.sector _ _ c.args.spans.now.items _ refl long stand c.in_ok-add_sector-in-Err.ensures.added c.in-Err.ensures.fails
