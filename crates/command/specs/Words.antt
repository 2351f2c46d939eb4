-- To be believed: `run`'s output, a volume's steps or its attach are said in these words.
-- Forms of words that several commands share. They are this project's own choice.
use Rattle.std.specs.Prelude.{ℕ, ◌&&◌, nat_lt, nat_le, if◌then◌else◌, Result, Ok, Err}
use Rattle.sector.specs.declared.refusal.Refusal.{Refusal}
use Rattle.sector.specs.declared.refusal.Refusal.TheVariants.{OutOfRange}

-- how many sectors one command may move: 1 to 2048
abbrev pub sectors_of : ℕ → Result ℕ Refusal
sectors_of n = if nat_lt 0 n && nat_le n 2048 then Ok n else Err OutOfRange
