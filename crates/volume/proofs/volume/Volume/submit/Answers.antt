-- A request is taken as it is kept.
use Rattle.std.proofs.Common.{sym, ◌∙◌, ap, subst}
use Rattle.plain_machine.specs.declared.request.Request.{Request}
use Rattle.volume.specs.Submitting.{IsAcceptedAs, IsRefusedAs, submit_refusal}
use Rattle.volume.specs.Whole.{IsWhole}
use Rattle.volume.proofs.Accepts.{if_ok, if_err}
use Rattle.volume.proofs.Submits.{submitted_by}
use Rattle.volume.proofs.Unflushed.{accepted_kept, kept_bytes, kept_twice, refusal_kept, rejected_kept}
use Rattle.volume.proofs.volume.Volume.submit.Goals as goal

pub submit_kept-requires-clause-whole : goal.submit_kept-requires-clause-whole
submit_kept-requires-clause-whole g c = rw c.kept.ensures (kept_twice c.args.request.op c.args.request.range)

pub submit_kept-requires-clause-bytes : goal.submit_kept-requires-clause-bytes
submit_kept-requires-clause-bytes g c = rw c.kept.ensures (kept_bytes c.args.request.op c.args.request.range c.requires.bytes)

pub returns-clause-refused : goal.returns-clause-refused
returns-clause-refused g c =
    let v = c.args.self.now in
    let w = c.submit_kept.new.self in
    if_err c.submit_kept.result _ _ (λ refusal e. rejected_kept g.B.Block.contents g.B.Block.layers g.B.Block.size v w c.args.request refusal (subst (λ (r : Request). IsRefusedAs g.B.Block.contents g.B.Block.layers g.B.Block.size r refusal v w) c.kept.ensures e)) c.submit_kept.ensures.refused

pub returns-clause-does : goal.returns-clause-does
returns-clause-does g c =
    let v = c.args.self.now in
    let w = c.submit_kept.new.self in
    let whole : IsWhole g.B.Block.contents g.B.Block.layers g.B.Block.size v = subst (IsWhole g.B.Block.contents g.B.Block.layers g.B.Block.size) c.self.view_is c.self.invariant.whole in
    submitted_by g.B.Block.contents g.B.Block.layers g.B.Block.size v w whole c.args.request c.submit_kept.result
    (if_ok c.submit_kept.result _ _ (λ number e. accepted_kept g.B.Block.contents g.B.Block.layers g.B.Block.size v w c.args.request number (subst (λ (r : Request). IsAcceptedAs g.B.Block.contents g.B.Block.layers r number v w) c.kept.ensures e)) c.submit_kept.ensures.ok)
    (if_ok c.submit_kept.result _ _ (λ number e. sym (refusal_kept g.B.Block.contents g.B.Block.layers g.B.Block.size v v c.args.request) ∙ sym (ap (λ (r : Request). submit_refusal g.B.Block.size r v) c.kept.ensures) ∙ e) c.submit_kept.ensures.admitted)
    (if_err c.submit_kept.result _ _ (λ refusal e. rejected_kept g.B.Block.contents g.B.Block.layers g.B.Block.size v w c.args.request refusal (subst (λ (r : Request). IsRefusedAs g.B.Block.contents g.B.Block.layers g.B.Block.size r refusal v w) c.kept.ensures e)) c.submit_kept.ensures.refused)
