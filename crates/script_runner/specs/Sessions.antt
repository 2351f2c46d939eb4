-- A desk at which a block of lines may be open, and what a line does there. This project's own.
use Rattle.std.specs.Prelude.{◌≡◌, ◌⊎◌, ℕ, true, false, List, [], ◌∷◌, ◌++◌, map, Option, Some, None, Result, Ok, Err}
use Rattle.std.specs.List.{All}
use Rattle.sector.specs.declared.refusal.Refusal.{Refusal}
use Rattle.sector.specs.declared.refusal.Refusal.TheVariants.{NoMemory}
use Rattle.command.specs.Blocks.{Lines, ends_block, opened, with_line}
use Rattle.command.specs.Opening.{is_par, opening_of}
use Rattle.command.specs.declared.opening.Opening.{Opening}
use Rattle.command_semantics.specs.State.{Table}
use Rattle.parallel_lines.specs.Answering.{AreAnswered}
use Rattle.parallel_lines.specs.Looking.{block_refusal}
use Rattle.parallel_lines.specs.Running.{IsOfBlock, IsTableRun, all_told, seat_in}
use Rattle.parallel_lines.specs.Spared.{AreSpared}
use Rattle.command_replies.specs.declared.command_reply.CommandReply.{CommandReply}
use Rattle.command_replies.specs.declared.command_reply.CommandReply.TheVariants.{Done, Refused}
use Rattle.script_runner.specs.Done.{IsLineDone}
use Rattle.script_runner.specs.Output.{LineOutcome, Standing}

-- the desk, and the block that is open at it
pub record Sitting : Type 0 where
  pub desk : Standing
  pub block : Option Lines

-- nothing is told, and no device changed
abbrev pub silent : Table → LineOutcome
silent table = record { replies = []; table = table }

-- a refusal alone is told, and no device changed
abbrev pub refuses : Refusal → Table → LineOutcome
refuses refusal table = record { replies = Refused refusal ∷ []; table = table }

-- for this reason, or for want of memory
abbrev pub IsRefusedFor : Refusal → Table → LineOutcome → Type 0
IsRefusedFor refusal table done = (done ≡ refuses refusal table) ⊎ (done ≡ refuses NoMemory table)

-- the answer of each line, by seat and then by line, how the gate ended where the block holds a ticket, and `ok`
abbrev pub IsTold : Lines → Table → Table → List CommandReply → Type 0
IsTold block old new replies =
    (told : List CommandReply) × All IsOfBlock told × (map seat_in told ≡ all_told block) × AreAnswered block old new told × (replies ≡ told ++ Done ∷ [])

-- want of memory is told alone; each volume is as it was, or what was done in it answers no request of a seat
abbrev pub IsNotRun : Table → LineOutcome → Type 0
IsNotRun old done = (done.replies ≡ Refused NoMemory ∷ []) × AreSpared old.volumes done.table.volumes

-- A block that nothing refuses was run, or memory ran out before any seat made a request. What no line names is as it was.
pub record IsBlockRun (block : Lines) (old : Table) (done : LineOutcome) : Type 0 where
  pub told : IsTold block old done.table done.replies ⊎ IsNotRun old done
  pub table : IsTableRun block.lines old done.table

-- a block that is refused before anything runs changes nothing
abbrev pub IsBlockBy : Lines → Option Refusal → Table → LineOutcome → Type 0
IsBlockBy block (Some refusal) old done = IsRefusedFor refusal old done
IsBlockBy block None old done = IsBlockRun block old done

abbrev pub IsBlockDone : Lines → Table → LineOutcome → Type 0
IsBlockDone block old done = IsBlockBy block (block_refusal block old) old done

-- a block is open then, without a line, and nothing is told; or it is refused, and none is open
abbrev pub IsOpenedBy : Result Opening Refusal → Table → Option Lines → LineOutcome → Type 0
IsOpenedBy (Ok opening) table block done = ((block ≡ Some (opened opening)) × (done ≡ silent table)) ⊎ ((block ≡ None) × (done ≡ refuses NoMemory table))
IsOpenedBy (Err refusal) table block done = (block ≡ None) × IsRefusedFor refusal table done

-- an open block has one more line, unless memory ran out for it
abbrev pub IsTaken : List ℕ → Lines → Option Lines → Type 0
IsTaken line block now = (after : Lines) × (now ≡ Some after) × ((after.refusal ≡ Some NoMemory) ⊎ (after ≡ with_line line block))

-- the block that is open, if one is, was run
abbrev pub IsEndedBy : Option Lines → Table → LineOutcome → Type 0
IsEndedBy None old done = done ≡ silent old
IsEndedBy (Some block) old done = IsBlockDone block old done

-- A line where no block is open does what its command does, or opens one; where one is open, it is one of the block's, or ends it.
pub record IsSessionDone (line : List ℕ) (old new : Sitting) (done : LineOutcome) : Type 0 where
  pub command : old.block ≡ None → is_par 65536 line ≡ false → (new.block ≡ None) × IsLineDone line old.desk.table done
  pub opens : old.block ≡ None → is_par 65536 line ≡ true → IsOpenedBy (opening_of line) old.desk.table new.block done
  pub takes : (block : Lines) → old.block ≡ Some block → ends_block line ≡ false → IsTaken line block new.block × (done ≡ silent old.desk.table)
  pub ends : (block : Lines) → old.block ≡ Some block → ends_block line ≡ true → (new.block ≡ None) × IsBlockDone block old.desk.table done
