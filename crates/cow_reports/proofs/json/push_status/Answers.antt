use Rattle.std.proofs.Common.{codes}
use Rattle.cow_reports.specs.Json.{member_text}
use Rattle.cow_reports.proofs.Lines.{three_more}
use Rattle.cow_reports.proofs.json.push_status.Goals as goal

pub returns : goal.returns
returns c = three_more _ _ _ _ (member_text (codes "allocated") c.args.allocated) (member_text (codes "total") c.args.total) (member_text (codes "metadata") c.args.metadata) c.in_ok-push_member.ensures c.in_ok-push_member-2.ensures c.in_ok-push_member-3.ensures
