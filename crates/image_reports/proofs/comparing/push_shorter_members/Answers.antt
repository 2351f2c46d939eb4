use Rattle.std.proofs.Common.{◌++◌, ◌*◌, ℕ, List, codes, ap, sym, ◌∙◌}
use Rattle.std.proofs.lemmas.Bool.{lt-ltb, le-ltb, cond-true, cond-false}
use Rattle.std.proofs.lemmas.Result.{on_ok_weaker}
use Rattle.cow_reports.specs.Json.{member_text}
use Rattle.cow_reports.proofs.Lines.{two_more}
use Rattle.image_reports.proofs.comparing.push_shorter_members.Goals as goal

pub returns-then-size-other : goal.returns-then-size-other
returns-then-size-other c =
    on_ok_weaker c.push_member.result
    (λ h. two_more _ _ _ (codes ",\"shorter\":\"A\"") (member_text (codes "length") (512 * c.args.size)) c.in_ok-extend_from_slice.ensures.items h
    ∙ ap (λ (xs : List ℕ). c.args.text.now.items ++ xs) (sym (cond-true _ _ _ (lt-ltb c.args.size c.args.other c.if-size-other.true))))
    c.push_member.ensures

pub returns-then-other-size : goal.returns-then-other-size
returns-then-other-size c =
    on_ok_weaker c.push_member-then-other-size.result
    (λ h. two_more _ _ _ (codes ",\"shorter\":\"B\"") (member_text (codes "length") (512 * c.args.other)) c.in_ok-extend_from_slice-2.ensures.items h
    ∙ ap (λ (xs : List ℕ). c.args.text.now.items ++ xs) (sym (cond-false _ _ _ (le-ltb c.args.size c.args.other c.if-size-other.false) ∙ cond-true _ _ _ (lt-ltb c.args.other c.args.size c.if-other-size.true))))
    c.push_member-then-other-size.ensures
