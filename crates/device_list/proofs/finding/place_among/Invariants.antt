-- The volumes so far have no device of the name.
use Rattle.std.proofs.Common.{◌≡◌, ◌+◌, drop}
use Rattle.std.specs.Prelude.{is_some}
use Rattle.std.specs.List.{position_or_len}
use Rattle.command_semantics.specs.Places.{role_of}
use Rattle.device_list.proofs.finding.place_among.Given as goal

abbrev pub invariant-loop-v : goal.invariant-loop-v
invariant-loop-v l = position_or_len (λ v. is_some (role_of l.name v.shown)) l.held.volumes.items ≡ l.v + position_or_len (λ v. is_some (role_of l.name v.shown)) (drop l.v l.held.volumes.items)
