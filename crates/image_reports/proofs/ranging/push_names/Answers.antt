use Rattle.std.proofs.Common.{◌++◌, ℕ, List, codes, ap, ◌∙◌}
use Rattle.std.proofs.lemmas.Result.{on_ok_weaker}
use Rattle.cow_reports.specs.Json.{member_text}
use Rattle.image_reports.proofs.Texts.{added}
use Rattle.cow_reports.proofs.Lines.{two_more, three_more}
use Rattle.image_reports.specs.Names.{json_name}
use Rattle.image_reports.proofs.ranging.push_names.Goals as goal

pub returns : goal.returns
returns c =
    on_ok_weaker c.extend_from_slice-2.result
    (λ h. two_more _ _ _ (member_text (codes "offset") c.args.at) (codes ",\"filename\":\"" ++ (json_name c.args.name.now ++ codes "\"}")) c.in_ok-push_member.ensures
    (three_more _ _ _ _ (codes ",\"filename\":\"") (json_name c.args.name.now) (codes "\"}") c.in_ok-extend_from_slice.ensures.items
    (c.in_ok-push_json_name.ensures ∙ ap (λ (name : List ℕ). c.extend_from_slice.new.self.items ++ json_name name) c.as_bytes.ensures.value) h))
    (added c.extend_from_slice-2.result _ _ _ c.extend_from_slice-2.ensures.items)
