-- What a line does beside what its command does.
use Rattle.std.proofs.Common.{◌≡◌, ◌≢◌, ℕ, true, false, List, Option, Some, None, refl, sym, ap, ◌∙◌, inl, subst}
use Rattle.std.specs.Prelude.{Bool, IfOk, MatchResult, Result, Ok, Err, is_some}
use Rattle.sector.specs.declared.refusal.Refusal.{Refusal}
use Rattle.sector.specs.declared.refusal.Refusal.TheVariants.{NoMemory}
use Rattle.layers.specs.declared.message.Message.{Message}
use Rattle.layers.specs.declared.message.Answer.{Answer}
use Rattle.layers.specs.declared.message.Answer.TheVariants.{Done}
use Rattle.command.specs.Line.{said_of}
use Rattle.command.specs.declared.grammar.Command.{Command}
use Rattle.command.specs.declared.grammar.Command.TheVariants as commands
use Rattle.command_replies.specs.declared.command_reply.CommandReply.{CommandReply}
use Rattle.command_replies.specs.Answers.{reply_to}
use Rattle.command_semantics.specs.State.{Table}
use Rattle.command_semantics.specs.Changes.{Did, Does, ServesIf, kept}
use Rattle.command_semantics.specs.Messages.{tell}
use Rattle.whole_commands.proofs.Starved.{other_memory}
use Rattle.script_runner.specs.Steps.{reworded, told_as, step, obeyed, answer_of}
use Rattle.script_runner.specs.Sound.{is_sound_command, is_sound_said, is_sound_line}
use Rattle.script_runner.specs.Starts.{starts, starts_said, starts_line}
use Rattle.script_runner.specs.Output.{IsPartDone, IsPartSaid, IsStarved, placed, replied}
use Rattle.script_runner.specs.Wants.{enters, enters_said, enters_line}
use Rattle.script_runner.proofs.Quiet.{tell_quiet}

-- what stands in the place of a command's answer stands in that of its line's
pub placed_is : (call : Result (Unit {0}) Refusal) (own : Option CommandReply) → IfOk call (λ _. is_some own ≡ true) → placed call own ≡ reworded Some (replied call own)
placed_is (Ok _) (Some reply) some = refl
placed_is (Ok _) None some = absurd cc
placed_is (Err e) own some = refl

-- a message that was answered, and its answer put into words
pub told_done : (call : Result CommandReply Refusal) (name : List ℕ) (message : Message) (old new : Table) (answer : Answer) → tell name message old ≡ Ok (answer, new) → MatchResult call (λ reply. reply ≡ reply_to answer) (λ e. (e ≡ NoMemory) × (answer ≢ Done)) → Does call new (λ t. t ≡ old) (told_as reply_to (kept old (tell name message old)))
told_done (Ok reply) name message old new answer is words =
    ap (λ r. told_as reply_to (kept old r)) is ∙ ap (λ (x : CommandReply). record { answer = Ok x; left = new }) (sym words)
told_done (Err e) name message old new answer is words =
    ((λ other. absurd (other words.0)), λ memory. tell_quiet name message old new answer is words.1)

-- nothing was done of a command
none_done : (command : Command) (table : Table) → IsPartDone command table table
none_done (commands.Read device first count) table = inl refl
none_done (commands.Write device first bytes) table = inl refl
none_done (commands.Flush device) table = inl refl
none_done (commands.Disk name sectors) table = refl
none_done (commands.Create name line) table = refl
none_done (commands.Remove name) table = refl
none_done (commands.Load disk first bytes) table = refl
none_done (commands.Save disk first count) table = refl
none_done (commands.Copy from first to count) table = refl
none_done commands.List table = refl
none_done (commands.Message device message) table = refl
none_done (commands.Tick seconds) table = refl
none_done (commands.StartRead device first count) table = refl
none_done (commands.StartWrite device first bytes) table = refl
none_done (commands.Step volume event) table = refl
none_done (commands.Settle volume) table = refl
none_done (commands.Merge name) table = refl
none_done (commands.Resume volume) table = refl
none_done (commands.Finish volume) table = refl
none_done (commands.Checkpoint volume) table = refl
none_done (commands.Stop volume) table = refl
none_done (commands.StopLosing volume) table = refl
none_done (commands.Status device) table = refl
none_done (commands.Table device) table = refl
none_done (commands.Map device) table = refl

none_said : (said : Result (Option Command) Refusal) (table : Table) → IsPartSaid said table table
none_said (Ok None) table = refl
none_said (Ok (Some command)) table = none_done command table
none_said (Err refusal) table = refl

-- what is answered is by the rule
answers : {A T : Type 0} (enters : Bool) (answer : A) (new : T) (starved : T → Type 0) (rule : Did A T) → (let d : Did A T = record { answer = Ok answer; left = new } in rule ≡ d) → ServesIf enters (Ok answer) new starved rule
answers true answer new starved rule is = is
answers false answer new starved rule is = is

-- an answer in other words
pub serves_worded : {A B T : Type 0} (words : A → B) (enters : Bool) (call : Result A Refusal) (reply : Result B Refusal) (new : T) (starved : T → Type 0) (rule : Did A T) → reply ≡ reworded words call → ServesIf enters call new starved rule → ServesIf enters reply new starved (told_as words rule)
serves_worded {A = A} {B = B} {T = T} words enters call reply new starved rule is does =
    let P : Result B Refusal → Type 0 = λ r. ServesIf enters r new starved (told_as words rule) in subst P (sym is) (by enters call does)
  where
    by : (enters : Bool) (call : Result A Refusal) → ServesIf enters call new starved rule → ServesIf enters (reworded words call) new starved (told_as words rule)
    by true (Ok answer) does = ap (λ (d : Did A T). told_as words d) does
    by false (Ok answer) does = ap (λ (d : Did A T). told_as words d) does
    by true (Err e) does = (λ other. ap (λ (d : Did A T). told_as words d) (does.0 other), does.1)
    by false (Err e) does = (λ other. ap (λ (d : Did A T). told_as words d) (does.0 other), does.1)

-- a line that says nothing
pub silent_does : (line : List ℕ) (table : Table) → said_of 65536 line ≡ Ok None → ServesIf (enters_line line) (Ok None) table (IsStarved line table) (answer_of line table)
unfolding answer_of
silent_does line table is = answers (enters_line line) None table (IsStarved line table) (answer_of line table) (ap (obeyed table) is)

-- a line that is refused, or for which memory ran out before its command
pub refused_does : (line : List ℕ) (table : Table) (e : Refusal) → (e ≢ NoMemory → said_of 65536 line ≡ Err e) → ServesIf (enters_line line) (Err e) table (IsStarved line table) (answer_of line table)
unfolding answer_of IsStarved
refused_does line table e is = by (enters_line line)
  where
    by : (enters : Bool) → ServesIf enters (Err e) table (λ new. IsPartSaid (said_of 65536 line) table new) (obeyed table (said_of 65536 line))
    by true = ((λ other. ap (obeyed table) (is (other_memory e other))), λ wanting. none_said (said_of 65536 line) table)
    by false = ((λ other. ap (obeyed table) (is other)), λ memory. none_said (said_of 65536 line) table)

-- a line that says a command
pub obeyed_does : (line : List ℕ) (command : Command) (old new : Table) (call : Result CommandReply Refusal) → said_of 65536 line ≡ Ok (Some command) → ServesIf (enters command) call new (IsPartDone command old) (step command old) → ServesIf (enters_line line) (reworded Some call) new (IsStarved line old) (answer_of line old)
unfolding answer_of IsStarved enters_line
obeyed_does line command old new call is does =
    let P : Result (Option Command) Refusal → Type 0 = λ said. ServesIf (enters_said said) (reworded Some call) new (λ t. IsPartSaid said old t) (obeyed old said) in
    subst P (sym is) (serves_worded Some (enters command) call (reworded Some call) new (IsPartDone command old) (step command old) refl does)

-- such a line is sound where its command is
pub sound_said : (line : List ℕ) (command : Command) → said_of 65536 line ≡ Ok (Some command) → is_sound_line line ≡ true → is_sound_command command ≡ true
unfolding is_sound_line
sound_said line command is sound = sym (ap is_sound_said is) ∙ sound

-- such a line starts a request where its command does
pub starts_as : (line : List ℕ) (command : Command) → said_of 65536 line ≡ Ok (Some command) → starts_line line ≡ false → starts command ≡ false
unfolding starts_line
starts_as line command is other = sym (ap starts_said is) ∙ other

sound_starts : (command : Command) → is_sound_command command ≡ true → starts command ≡ false
sound_starts (commands.StartRead device first count) sound = absurd cc
sound_starts (commands.StartWrite device first bytes) sound = absurd cc
sound_starts (commands.Create name line) sound = refl
sound_starts (commands.Disk name sectors) sound = refl
sound_starts (commands.Remove name) sound = refl
sound_starts (commands.Load disk first bytes) sound = refl
sound_starts (commands.Save disk first count) sound = refl
sound_starts (commands.Copy from first to count) sound = refl
sound_starts commands.List sound = refl
sound_starts (commands.Message device message) sound = refl
sound_starts (commands.Tick seconds) sound = refl
sound_starts (commands.Read device first count) sound = refl
sound_starts (commands.Write device first bytes) sound = refl
sound_starts (commands.Flush device) sound = refl
sound_starts (commands.Step volume event) sound = refl
sound_starts (commands.Settle volume) sound = refl
sound_starts (commands.Merge name) sound = refl
sound_starts (commands.Resume volume) sound = refl
sound_starts (commands.Finish volume) sound = refl
sound_starts (commands.Checkpoint volume) sound = refl
sound_starts (commands.Stop volume) sound = refl
sound_starts (commands.StopLosing volume) sound = refl
sound_starts (commands.Status device) sound = refl
sound_starts (commands.Table device) sound = refl
sound_starts (commands.Map device) sound = refl

said_starts : (said : Result (Option Command) Refusal) → is_sound_said said ≡ true → starts_said said ≡ false
said_starts (Ok None) sound = refl
said_starts (Ok (Some command)) sound = sound_starts command sound
said_starts (Err refusal) sound = refl

-- a line that is sound starts no request
pub line_starts : (line : List ℕ) → is_sound_line line ≡ true → starts_line line ≡ false
unfolding is_sound_line starts_line
line_starts line sound = said_starts (said_of 65536 line) sound

-- and so where it does
pub starts_too : (line : List ℕ) (command : Command) → said_of 65536 line ≡ Ok (Some command) → starts_line line ≡ true → starts command ≡ true
unfolding starts_line
starts_too line command is does = sym (ap starts_said is) ∙ does

-- a line that says nothing starts none
pub silent_starts : (P : Type 0) (line : List ℕ) → said_of 65536 line ≡ Ok None → starts_line line ≡ true → P
unfolding starts_line
silent_starts P line is does = let no : false ≡ true = sym (ap starts_said is) ∙ does in absurd cc
