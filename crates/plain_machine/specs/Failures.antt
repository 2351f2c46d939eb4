-- To be believed: `run`'s output, a volume's steps or its attach are said in these words.
-- Why a command whose request failed is refused.
use Rattle.sector.specs.declared.refusal.Refusal.{Refusal}
use Rattle.sector.specs.declared.refusal.Refusal.TheVariants.{Invalid as InvalidRefusal, Io as IoRefusal, Overflow as OverflowRefusal}
use Rattle.plain_machine.specs.declared.request.Failure.{Failure}
use Rattle.plain_machine.specs.declared.request.Failure.TheVariants.{Invalid, Io, Overflow}

abbrev pub refusal_of : Failure → Refusal
refusal_of Invalid = InvalidRefusal
refusal_of Io = IoRefusal
refusal_of Overflow = OverflowRefusal
