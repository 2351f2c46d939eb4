use Rattle.std.proofs.Common.{◌≡◌, arith, sym, ◌∙◌, ap, Ok, Err}
use Rattle.cow_header.specs.HeaderText.{found_in}
use Rattle.store.proofs.FirstReads.{none_there, first_fails, first_says}
use Rattle.store.proofs.opening.read_header.Goals as goal

pub returns-then-size-eq0-clause-unread : goal.returns-then-size-eq0-clause-unread
returns-then-size-eq0-clause-unread g c = λ line.
    let is = c.sectors-size.ensures in
    let none : g.B.Block.size c.args.device.now ≡ 0 = let h = c.if-size-eq0.true in omega arith in
    none_there line (g.B.Block.size c.args.device.now) (g.B.Block.contents c.args.device.now) (g.B.Block.layers c.args.device.now) none

pub returns-in-Ok-decode-clause-says : goal.returns-in-Ok-decode-clause-says
returns-in-Ok-decode-clause-says g c = λ line.
    let is = c.sectors-size.ensures in
    let some : g.B.Block.size c.args.device.now ≡ 0 → ⊥ = λ none. c.if-size-eq0.false (is ∙ none) in
    first_says line (g.B.Block.size c.args.device.now) (g.B.Block.contents c.args.device.now) (g.B.Block.layers c.args.device.now) (g.B.Block.layers c.read.new.self) (Ok c.in-Ok-decode.found) some c.in-Ok.ensures.answer c.in-Ok.ensures.layers (sym (c.in-Ok-decode.ensures.found ∙ ap found_in c.in-Ok.ensures.data))

pub returns-in-Err-decode-clause-unread : goal.returns-in-Err-decode-clause-unread
returns-in-Err-decode-clause-unread g c = λ line.
    let is = c.sectors-size.ensures in
    let some : g.B.Block.size c.args.device.now ≡ 0 → ⊥ = λ none. c.if-size-eq0.false (is ∙ none) in
    first_says line (g.B.Block.size c.args.device.now) (g.B.Block.contents c.args.device.now) (g.B.Block.layers c.args.device.now) (g.B.Block.layers c.read.new.self) (Err c.in-Err-decode.refusal) some c.in-Ok.ensures.answer c.in-Ok.ensures.layers (sym (c.in-Err-decode.ensures.found ∙ ap found_in c.in-Ok.ensures.data))

pub returns-in-Err-clause-unread : goal.returns-in-Err-clause-unread
returns-in-Err-clause-unread g c = λ line.
    let is = c.sectors-size.ensures in
    let some : g.B.Block.size c.args.device.now ≡ 0 → ⊥ = λ none. c.if-size-eq0.false (is ∙ none) in
    first_fails line (g.B.Block.size c.args.device.now) (g.B.Block.contents c.args.device.now) (g.B.Block.layers c.args.device.now) (g.B.Block.layers c.read.new.self) some c.in-Err.ensures.answer c.in-Err.ensures.layers
