-- A power of two, less one, is a mask of the digits below it.
use Rattle.std.proofs.Common.{◌≡◌, ◌-◌, ◌%◌, bit_and, sym, subst, ◌∙◌}
use Rattle.std.proofs.lemmas.Nat.{and_mask}
use Rattle.std.specs.Int.{w32, trailing_zeros}
use Rattle.snapshot_list.proofs.Shifts.{power_is}
use Rattle.volume.proofs.refusing.rest_of.Goals as goal

pub returns-then-is_power_of_two : goal.returns-then-is_power_of_two
returns-then-is_power_of_two c =
    let power = power_is c.args.piece c.ranges.piece.fits (sym c.is_power_of_two.ensures ∙ c.if-is_power_of_two.true) in
    subst (λ n. bit_and c.args.sectors (n - 1) ≡ c.args.sectors % n) (sym power) (and_mask c.args.sectors (trailing_zeros w32 c.args.piece))
