use Rattle.std.proofs.Common.{◌≡◌, ◌∙◌, Some, None, true, false, sym, ap, subst}
use Rattle.std.specs.Prelude.{◌==◌}
use Rattle.std.specs.List.{position}
use Rattle.std.proofs.lemmas.List.Quantifiers.{position-Some}
use Rattle.std.proofs.lemmas.List.Folds.{list_any_at}
use Rattle.file_device.specs.Pieces.{IsPieceOf, has_all}
use Rattle.file_device.proofs.Among.{near_of, more_of, more_any, none_any, position_none}
use Rattle.file_device.proofs.pieces.Pieces.give.Goals as goal

pub returns-then-has-clause-gives : goal.returns-then-has-clause-gives
returns-then-has-clause-gives c bytes sectors long all is =
    let has : has_all c.args.range.first c.args.range.count c.args.self.now.near ≡ true = cc in
    c.give.ensures.gives bytes sectors long (near_of (IsPieceOf bytes sectors) c.args.self.now.near c.args.self.now.more.items c.args.range.first c.args.range.count c.requires.some has all)

pub give-requires-in-Some-clause-has : goal.give-requires-in-Some-clause-has
give-requires-in-Some-clause-has c =
    let t = has_all c.args.range.first c.args.range.count in
    let at : position t c.args.self.now.more.items ≡ Some c.in-Some.i = ap (position t) (sym c.deref.ensures.value) ∙ (let is : position t c.deref.result.now ≡ Some c.in-Some.i = cc in is) in
    ap t c.index.ensures ∙ (position-Some t c.args.self.now.more.items c.in-Some.i c.index.result.now at).1

pub returns-in-Some-clause-found : goal.returns-in-Some-clause-found
returns-in-Some-clause-found c =
    let t = has_all c.args.range.first c.args.range.count in
    let at : position t c.args.self.now.more.items ≡ Some c.in-Some.i = ap (position t) (sym c.deref.ensures.value) ∙ (let is : position t c.deref.result.now ≡ Some c.in-Some.i = cc in is) in
    let found = position-Some t c.args.self.now.more.items c.in-Some.i c.index.result.now at in
    sym (more_any t (c.args.self.now.near.count == 0) c.args.self.now.near c.args.self.now.more.items (list_any_at t c.args.self.now.more.items c.in-Some.i c.index.result.now found.0 found.1))

pub returns-in-Some-clause-gives : goal.returns-in-Some-clause-gives
returns-in-Some-clause-gives c bytes sectors long all is =
    let t = has_all c.args.range.first c.args.range.count in
    let at : position t c.args.self.now.more.items ≡ Some c.in-Some.i = ap (position t) (sym c.deref.ensures.value) ∙ (let is : position t c.deref.result.now ≡ Some c.in-Some.i = cc in is) in
    let found = position-Some t c.args.self.now.more.items c.in-Some.i c.index.result.now at in
    c.give-in-Some.ensures.gives bytes sectors long (subst (IsPieceOf bytes sectors) (sym c.index.ensures) (more_of (IsPieceOf bytes sectors) (c.args.self.now.near.count == 0) c.args.self.now.near c.args.self.now.more.items all c.in-Some.i c.index.result.now found.0))

pub returns-in-None-clause-found : goal.returns-in-None-clause-found
returns-in-None-clause-found c =
    let t = has_all c.args.range.first c.args.range.count in
    let at = ap (position t) (sym c.deref.ensures.value) ∙ (let is : position t c.deref.result.now ≡ None = cc in is) in
    sym (none_any t (c.args.self.now.near.count == 0) c.args.self.now.near c.args.self.now.more.items (let not_near : t c.args.self.now.near ≡ false = cc in not_near) (position_none t c.args.self.now.more.items at))
