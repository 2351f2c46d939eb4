-- A place of the store is the group's or not; any other route goes to none.
use Rattle.std.proofs.Common.{◌∙◌, refl}
use Rattle.in_flight.specs.declared.flights.Route.TheVariants.{Held, Origin, Refused, Whole}
use Rattle.merge.specs.Lists.{group_pairs}
use Rattle.snapshot_list.proofs.Using.{stored_read, stored_write, nowhere_read, nowhere_write}
use Rattle.snapshot_list.proofs.due_in_merge.is_routed_there.Goals as goal

pub returns-in-Store-clause-read : goal.returns-in-Store-clause-read
returns-in-Store-clause-read g c = c.has_place.ensures ∙ stored_read (group_pairs c.args.merge.now.group) c.args.route c.in-Store.place c.in-Store.is

pub returns-in-Store-clause-write : goal.returns-in-Store-clause-write
returns-in-Store-clause-write g c = c.has_place.ensures ∙ stored_write (group_pairs c.args.merge.now.group) c.args.route c.in-Store.place c.in-Store.is

pub returns-in-Held-clause-read : goal.returns-in-Held-clause-read
returns-in-Held-clause-read g c = nowhere_read (group_pairs c.args.merge.now.group) c.args.route Held c.in-Held.is (λ q. refl)

pub returns-in-Held-clause-write : goal.returns-in-Held-clause-write
returns-in-Held-clause-write g c = nowhere_write (group_pairs c.args.merge.now.group) c.args.route Held c.in-Held.is (λ q. refl)

pub returns-in-Origin-clause-read : goal.returns-in-Origin-clause-read
returns-in-Origin-clause-read g c = nowhere_read (group_pairs c.args.merge.now.group) c.args.route Origin c.in-Origin.is (λ q. refl)

pub returns-in-Origin-clause-write : goal.returns-in-Origin-clause-write
returns-in-Origin-clause-write g c = nowhere_write (group_pairs c.args.merge.now.group) c.args.route Origin c.in-Origin.is (λ q. refl)

pub returns-in-Refused-clause-read : goal.returns-in-Refused-clause-read
returns-in-Refused-clause-read g c = nowhere_read (group_pairs c.args.merge.now.group) c.args.route Refused c.in-Refused.is (λ q. refl)

pub returns-in-Refused-clause-write : goal.returns-in-Refused-clause-write
returns-in-Refused-clause-write g c = nowhere_write (group_pairs c.args.merge.now.group) c.args.route Refused c.in-Refused.is (λ q. refl)

pub returns-in-Whole-clause-read : goal.returns-in-Whole-clause-read
returns-in-Whole-clause-read g c = nowhere_read (group_pairs c.args.merge.now.group) c.args.route Whole c.in-Whole.is (λ q. refl)

pub returns-in-Whole-clause-write : goal.returns-in-Whole-clause-write
returns-in-Whole-clause-write g c = nowhere_write (group_pairs c.args.merge.now.group) c.args.route Whole c.in-Whole.is (λ q. refl)
