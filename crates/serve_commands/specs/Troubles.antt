-- What is told where a command does not end well. This project's own.
use Rattle.std.specs.Prelude.{ℕ, ◌*◌, Bool, true, false, Option, Some}
use Rattle.sector.specs.declared.refusal.Refusal.TheVariants.{StoreTooSmall}
use Rattle.serve_files.specs.declared.trouble.Why.{Why}
use Rattle.serve_files.specs.declared.trouble.Why.TheVariants as why
use Rattle.serve_files.specs.declared.trouble.StoreFault.TheVariants as fault
use Rattle.volume_opening.specs.declared.not_opened.NotOpened.{NotOpened}
use Rattle.volume_opening.specs.declared.not_opened.NotOpened.TheVariants as opening
use Rattle.volume_nbd.specs.declared.faults.Fault.{Fault}
use Rattle.volume_nbd.specs.declared.faults.Fault.TheVariants as ending

-- whether the origin's file is told, where no snapshot is opened, or else the store's
abbrev pub is_of_origin : NotOpened → Bool
is_of_origin opening.OriginFailed = true
is_of_origin _ = false

-- what is told of it: a store has at least a header and an area, in chunks of so many sectors
abbrev pub why_by : ℕ → NotOpened → Why
why_by chunk opening.NoMemory = why.NoMemory
why_by chunk opening.Written = why.Store fault.Written
why_by chunk opening.Fresh = why.Store fault.Fresh
why_by chunk (opening.Refused StoreTooSmall) = why.Store (fault.TooSmall (1024 * chunk))
why_by chunk (opening.Refused refusal) = why.Store (fault.Refused refusal)
why_by chunk opening.OriginFailed = why.Failed
why_by chunk opening.StoreFailed = why.Failed

-- what is told where nothing was to be done any more
abbrev pub stop_by : Option Fault → Why
stop_by (Some ending.Unmarked) = why.Unmarked
stop_by (Some ending.NoMemory) = why.NoMemory
stop_by _ = why.Stopped
