use Rattle.std.proofs.Common.{rules, ◌≡◌, ℕ, true, Some, List, length, take, ap, ◌∙◌, sym, subst}
use Rattle.std.specs.Io.KnownBytes.{Keeps}
use Rattle.nbd_messages.specs.Requests.{asked_in}
use Rattle.nbd_options.specs.Haggled.{IsReaction, haggled}
use Rattle.nbd_write_session.specs.Come.{Haggles}
use Rattle.nbd_write_session.specs.Stream.{Stream, dropped, left, lessened}
use Rattle.nbd_write_session.proofs.Come.{haggles_passed, haggles_read}
use Rattle.nbd_write_session.proofs.options.hear_option.Goals as goal

pub returns-then-is_declined : goal.returns-then-is_declined
returns-then-is_declined g c =
    let heard : List ℕ = c.waited.new.input.heard in
    let there : c.in_ok-waited.field-0 ≡ true = search rules in
    let is : asked_in (take 16 heard) ≡ Some c.in-Some.asked = ap (λ (l : List ℕ). asked_in (take 16 l)) (sym c.heard.ensures) ∙ sym c.asked_in.ensures ∙ c.in-Some.is in
    let after : c.skip.new.self ≡ lessened c.in-Some.asked.length (dropped 16 c.waited.new.input) = c.skip.ensures ∙ ap (lessened c.in-Some.asked.length) c.take.ensures in
    let P : Stream → Type 0 = λ t. Haggles c.args.exports.now c.args.session.now c.decline.new.session (left c.args.input.now (g.R.Read.remaining c.args.reader.now)) (left t (g.R.Read.remaining c.waited.new.reader)) c.decline.new.answer.items in
    subst P (sym after)
    (haggles_passed c.args.exports.now c.args.session.now c.decline.new.session c.in-Some.asked c.waited.new.input _ _ c.decline.new.answer.items
    c.requires c.in_ok-waited.ensures.keeps (c.in_ok-waited.ensures.wanted there (search rules)) (c.in_ok-waited.ensures.there there) is
    (sym c.is_declined.ensures ∙ c.if-is_declined.true) c.in_ok-decline.ensures)

pub returns : goal.returns
returns g c =
    let heard : List ℕ = c.waited.new.input.heard in
    let there : c.in_ok-waited.field-0 ≡ true = search rules in
    let also : c.in_ok-waited-2.field-0 ≡ true = search rules in
    let is : asked_in (take 16 heard) ≡ Some c.in-Some.asked = ap (λ (l : List ℕ). asked_in (take 16 l)) (sym c.heard.ensures) ∙ sym c.asked_in.ensures ∙ c.in-Some.is in
    let P : Stream → Type 0 = λ t. Haggles c.args.exports.now c.args.session.now c.haggle.new.session (left c.args.input.now (g.R.Read.remaining c.args.reader.now)) (left t (g.R.Read.remaining c.waited-2.new.reader)) c.haggle.new.answer.items in
    let Q : Stream → Type 0 = λ t. Keeps (left t (g.R.Read.remaining c.waited.new.reader)) (left c.waited-2.new.input (g.R.Read.remaining c.waited-2.new.reader)) in
    let R : List ℕ → Type 0 = λ l. IsReaction c.haggle.new.answer.items c.haggle.new.session (haggled c.args.exports.now c.args.session.now c.in-Some.asked.option (take c.in-Some.asked.length l)) in
    subst P (sym c.take-2.ensures)
    (haggles_read c.args.exports.now c.args.session.now c.haggle.new.session c.in-Some.asked c.waited.new.input c.waited-2.new.input _ _ _ c.haggle.new.answer.items
    c.requires c.in_ok-waited.ensures.keeps (c.in_ok-waited.ensures.wanted there (search rules)) (c.in_ok-waited.ensures.there there) is
    (sym c.is_declined.ensures ∙ c.if-is_declined.false) (subst Q c.take.ensures c.in_ok-waited-2.ensures.keeps)
    (c.in_ok-waited-2.ensures.there also) (c.in_ok-waited-2.ensures.wanted also) (subst R c.heard-2.ensures c.in_ok-haggle.ensures))
