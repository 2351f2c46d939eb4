-- A snapshot's request uses no place of the group, nor does a flush.
use Rattle.std.proofs.Common.{◌∙◌, refl, sym}
use Rattle.in_flight.specs.declared.flights.Kind.TheVariants.{OriginFlush, SnapRead, SnapWrite, SnapFlush}
use Rattle.merge.specs.Lists.{group_pairs}
use Rattle.snapshot_list.proofs.Using.{unused}
use Rattle.snapshot_list.proofs.due_in_merge.is_using_group.Goals as goal

pub returns-in-SnapRead : goal.returns-in-SnapRead
returns-in-SnapRead g c = unused (group_pairs c.args.merge.now.group) c.args.flight.now (SnapRead c.in-SnapRead.field-0) (sym c.request_kind.ensures ∙ c.in-SnapRead.is) (λ q. refl)

pub returns-in-SnapWrite : goal.returns-in-SnapWrite
returns-in-SnapWrite g c = unused (group_pairs c.args.merge.now.group) c.args.flight.now (SnapWrite c.in-SnapWrite.field-0) (sym c.request_kind.ensures ∙ c.in-SnapWrite.is) (λ q. refl)

pub returns-in-SnapFlush : goal.returns-in-SnapFlush
returns-in-SnapFlush g c = unused (group_pairs c.args.merge.now.group) c.args.flight.now (SnapFlush c.in-SnapFlush.field-0) (sym c.request_kind.ensures ∙ c.in-SnapFlush.is) (λ q. refl)

pub returns-in-OriginFlush : goal.returns-in-OriginFlush
returns-in-OriginFlush g c = unused (group_pairs c.args.merge.now.group) c.args.flight.now OriginFlush (sym c.request_kind.ensures ∙ c.in-OriginFlush.is) (λ q. refl)
