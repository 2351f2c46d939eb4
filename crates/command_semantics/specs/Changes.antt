-- To be believed: `run`'s output, a volume's steps or its attach are said in these words.
-- How a call of the table compares with its rule.
use Rattle.std.specs.Prelude.{◌≡◌, ◌≢◌, Bool, true, false, Result, Ok, Err}
use Rattle.sector.specs.declared.refusal.Refusal.{Refusal}
use Rattle.sector.specs.declared.refusal.Refusal.TheVariants.{NoMemory}
use Rattle.whole_commands.specs.Refusals.{is_starved}

-- What the call answered and left is what the rule says, unless memory ran out. A refusal changes nothing.
abbrev pub Steps : {A T : Type 0} → Result A Refusal → T → T → Result (A × T) Refusal → Type 0
Steps (Ok answer) old new rule = rule ≡ Ok (answer, new)
Steps (Err e) old new rule = (new ≡ old) × (e ≢ NoMemory → rule ≡ Err e)

-- the same of a call that only changes something
abbrev pub Changes : {T : Type 0} → Result (Unit {0}) Refusal → T → T → Result T Refusal → Type 0
Changes (Ok _) old new rule = rule ≡ Ok new
Changes (Err e) old new rule = (new ≡ old) × (e ≢ NoMemory → rule ≡ Err e)

-- The same of a call that takes a place in a volume's journal, where there may be no room, too.
abbrev pub Enters : {T : Type 0} → Result (Unit {0}) Refusal → T → T → Result T Refusal → Type 0
Enters (Ok _) old new rule = rule ≡ Ok new
Enters (Err e) old new rule = (new ≡ old) × (is_starved e ≡ false → rule ≡ Err e)

-- What a command answers, and what it leaves, also where it is refused: devices that fail are met all the same.
pub record Did (A T : Type 0) : Type 0 where
  pub answer : Result A Refusal
  pub left : T

-- a refusal that leaves things as they are
abbrev pub refused : {A T : Type 0} → T → Refusal → Did A T
refused old refusal = record { answer = Err refusal; left = old }

-- a rule that changes nothing where it refuses
abbrev pub kept : {A T : Type 0} → T → Result (A × T) Refusal → Did A T
kept old (Ok done) = record { answer = Ok done.0; left = done.1 }
kept old (Err e) = refused old e

-- the same of one that only changes something
abbrev pub changed : {T : Type 0} → T → Result T Refusal → Did (Unit {0}) T
changed old (Ok new) = record { answer = Ok tt; left = new }
changed old (Err e) = refused old e

-- What the call answered and left is what the rule says, unless memory ran out; then this holds of what it left.
abbrev pub Does : {A T : Type 0} → Result A Refusal → T → (T → Type 0) → Did A T → Type 0
Does (Ok answer) new starved rule = rule ≡ record { answer = Ok answer; left = new }
Does (Err e) new starved rule = (e ≢ NoMemory → rule ≡ record { answer = Err e; left = new }) × (e ≡ NoMemory → starved new)

-- The same of a call that takes places in a volume's journal, where there may be no room, too.
abbrev pub Serves : {A T : Type 0} → Result A Refusal → T → (T → Type 0) → Did A T → Type 0
Serves (Ok answer) new starved rule = rule ≡ record { answer = Ok answer; left = new }
Serves (Err e) new starved rule = (is_starved e ≡ false → rule ≡ record { answer = Err e; left = new }) × (is_starved e ≡ true → starved new)

-- and of one that may take such a place, or takes none
abbrev pub ServesIf : {A T : Type 0} → Bool → Result A Refusal → T → (T → Type 0) → Did A T → Type 0
ServesIf true result new starved rule = Serves result new starved rule
ServesIf false result new starved rule = Does result new starved rule
