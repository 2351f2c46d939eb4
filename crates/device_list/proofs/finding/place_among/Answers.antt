-- The first volume that has the name.
use Rattle.std.proofs.Common.{rules, ◌≡◌, ◌<◌, ◌≤◌, Some, length, get_or, sym, refl}
use Rattle.command_semantics.specs.Places.{role_of}
use Rattle.device_list.proofs.Firsts.{found_here, found_nowhere}
use Rattle.device_list.proofs.Showing.{shown_there, shown_within}
use Rattle.device_list.proofs.finding.place_among.Goals as goal

pub returns-in-Some-clause-place : goal.returns-in-Some-clause-place
returns-in-Some-clause-place c =
    let volume = c.volume-item.result in
    let volumes = c.args.held.now.volumes.items in
    let lt : c.loop-v.v < length volumes = search rules in
    let at : volume ≡ get_or volumes c.loop-v.v volume = search rules in
    let is : role_of c.args.name.now volume.shown ≡ Some c.in-Some.role = search rules in
    sym (found_here c.args.name.now volumes c.loop-v.v volume c.in-Some.role c.loop-v.invariant lt at is)

pub returns-in-Some-clause-within : goal.returns-in-Some-clause-within
returns-in-Some-clause-within c =
    let volume = c.volume-item.result in
    let volumes = c.args.held.now.volumes.items in
    let lt : c.loop-v.v < length volumes = search rules in
    let at : volume ≡ get_or volumes c.loop-v.v volume = search rules in
    (shown_within volumes c.loop-v.v lt, rw (shown_there volumes c.loop-v.v volume lt at) c.in-Some.ensures.within)

pub returns-clause-place : goal.returns-clause-place
returns-clause-place c =
    let volumes = c.args.held.now.volumes.items in
    let end : length volumes ≤ c.loop-v.v = search rules in
    sym (found_nowhere c.args.name.now volumes c.loop-v.v c.loop-v.invariant end)
