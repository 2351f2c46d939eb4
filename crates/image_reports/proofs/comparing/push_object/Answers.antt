use Rattle.std.proofs.Common.{◌++◌, ℕ, codes, ap, sym, ◌∙◌}
use Rattle.std.specs.Prelude.{Option}
use Rattle.std.proofs.lemmas.Result.{on_ok_weaker}
use Rattle.cow_reports.specs.Items.{first_member}
use Rattle.cow_reports.specs.Json.{member_text}
use Rattle.image_reports.proofs.Texts.{added}
use Rattle.cow_reports.proofs.Lines.{two_more, three_more}
use Rattle.image_reports.specs.Comparing.{compared_object, shorter_members}
use Rattle.image_reports.proofs.comparing.push_object.Goals as goal

pub returns : goal.returns
returns c =
    on_ok_weaker c.extend_from_slice.result
    (λ h. two_more _ _ _ (first_member (codes "first") c.in-Some.at) (member_text (codes "differing") c.args.found.differing ++ (shorter_members c.args.size c.args.other ++ codes "}\n")) c.in_ok-push_first.ensures
    (three_more _ _ _ _ (member_text (codes "differing") c.args.found.differing) (shorter_members c.args.size c.args.other) (codes "}\n") c.in_ok-push_member.ensures c.in_ok-push_shorter_members.ensures h)
    ∙ ap (λ (first : Option ℕ). c.args.text.now.items ++ compared_object c.args.size c.args.other c.args.found.differing first) (sym c.in-Some.is))
    (added c.extend_from_slice.result _ _ _ c.extend_from_slice.ensures.items)
