-- The lines that can be read: what the grammar asks of the parts of a line.
use Rattle.std.specs.Prelude.{◌≡◌, ◌^◌, ◌+◌, Bool, true, ◌&&◌, not, nat_lt}
use Rattle.chunk.specs.Sizes.{is_chunk}
use Rattle.words.specs.Names.{is_name}
use Rattle.table.specs.declared.lines.Line.{Line}
use Rattle.table.specs.declared.lines.Target.{Target}
use Rattle.table.specs.declared.lines.Target.TheVariants.{Origin, Snapshot, Merge, Flakey, Dust, Error}
use Rattle.table.specs.Grammar.{is_block}

-- a target whose names, numbers and features are such as a line may say
abbrev pub is_target : Target → Bool
is_target (Origin device) = is_name device
is_target (Snapshot device store chunk overflow) = is_name device && is_name store && is_chunk chunk
is_target (Merge device store chunk overflow) = is_name device && is_name store && is_chunk chunk
is_target (Flakey device offset up down features) =
    is_name device && nat_lt offset (2 ^ 32) && nat_lt up (2 ^ 31) && nat_lt down (2 ^ 31) && nat_lt 0 (up + down) && not (features.error_writes && features.drop_writes)
is_target (Dust device block) = is_name device && is_block block
is_target Error = true

abbrev pub IsTarget : Target → Type 0
IsTarget target = is_target target ≡ true

-- a line that may be printed and read again
abbrev pub is_line : Line → Bool
is_line line = nat_lt line.sectors (2 ^ 32) && is_target line.target
