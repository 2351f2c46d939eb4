-- A line where a block may be open.
use Rattle.std.proofs.Common.{◌≡◌, ◌≢◌, ◌⊎◌, ℕ, true, false, List, [], ◌∷◌, Option, Some, None, refl, sym, ap, ◌∙◌, subst, inl, inr}
use Rattle.std.specs.Prelude.{is_some, Result, Ok, Err}
use Rattle.std.specs.Io.KnownBytes.{Appends}
use Rattle.sector.specs.declared.refusal.Refusal.{Refusal}
use Rattle.sector.specs.declared.refusal.Refusal.TheVariants.{NoMemory}
use Rattle.command.specs.Blocks.{Lines, ends_block, opened, with_line}
use Rattle.command.specs.Opening.{opening_of}
use Rattle.command.specs.declared.opening.Opening.{Opening}
use Rattle.command_semantics.specs.State.{Table}
use Rattle.command_replies.specs.declared.command_reply.CommandReply.{CommandReply}
use Rattle.command_replies.specs.declared.command_reply.CommandReply.TheVariants.{Refused}
use Rattle.script_runner.specs.Output.{LineOutcome, Standing, followed, printed}
use Rattle.script_runner.specs.Sessions.{IsEndedBy, IsOpenedBy, IsSessionDone, IsTaken, Sitting, refuses, silent}
use Rattle.script_runner.proofs.AskingLemmas.{memory_or_not}
use Rattle.script_runner.proofs.EndedLemmas.{none_replied}

-- a block is opened
pub opened_by : (line : List ℕ) (old : Sitting) (desk : Standing) (opening : Opening) (block : Lines) (before : Option (List ℕ)) → desk ≡ old.desk → opening_of line ≡ Ok opening → block ≡ opened opening
    → (done : LineOutcome) × IsOpenedBy (opening_of line) old.desk.table (Some block) done × (desk ≡ followed old.desk done) × Appends before before (printed done.replies)
opened_by line old desk opening block before same is made =
    let P : Result Opening Refusal → Type 0 = λ r. IsOpenedBy r old.desk.table (Some block) (silent old.desk.table) in
    (silent old.desk.table, subst P (sym is) (inl (ap (λ b. Some b) made, refl)), same, none_replied before)

-- or is not
not_opened : (r : Result Opening Refusal) (table : Table) (block : Option Lines) (e : Refusal) → block ≡ None → (e ≢ NoMemory → r ≡ Err e) → IsOpenedBy r table block (refuses e table)
not_opened r table block e none why = elim (memory_or_not e) [
  | inl memory ↦ starved r memory
  | inr other ↦ (let P : Result Opening Refusal → Type 0 = λ s. IsOpenedBy s table block (refuses e table) in subst P (sym (why other)) (none, inl refl))
]
  where
    starved : (r : Result Opening Refusal) → e ≡ NoMemory → IsOpenedBy r table block (refuses e table)
    starved (Ok opening) memory = inr (none, ap (λ f. refuses f table) memory)
    starved (Err f) memory = (none, inr (ap (λ f. refuses f table) memory))

pub refused_by : (line : List ℕ) (old : Sitting) (desk now : Standing) (block : Option Lines) (e : Refusal) (P : List CommandReply → Type 0) → desk ≡ old.desk → block ≡ None → (e ≢ NoMemory → opening_of line ≡ Err e) → now ≡ followed desk (refuses e desk.table) → P (Refused e ∷ [])
    → (done : LineOutcome) × IsOpenedBy (opening_of line) old.desk.table block done × (now ≡ followed old.desk done) × P done.replies
refused_by line old desk now block e P same none why is last = (
  refuses e old.desk.table,
  not_opened (opening_of line) old.desk.table block e none why,
  is ∙ ap (λ (d : Standing). followed d (refuses e d.table)) same,
  last,
)

-- no block is open at the end
pub none_ended : (old : Sitting) (desk : Standing) (before : Option (List ℕ)) → desk ≡ old.desk → old.block ≡ None
    → (done : LineOutcome) × IsEndedBy old.block old.desk.table done × (desk ≡ followed old.desk done) × Appends before before (printed done.replies)
none_ended old desk before same none =
    let P : Option Lines → Type 0 = λ b. IsEndedBy b old.desk.table (silent old.desk.table) in
    (silent old.desk.table, subst P (sym none) refl, same, none_replied before)

starved_or_not : (r : Option Refusal) → (r ≡ Some NoMemory) ⊎ (r ≢ Some NoMemory)
starved_or_not None = inr (λ is. let no : ⊥ = cc in no)
starved_or_not (Some e) = elim (memory_or_not e) [
  | inl memory ↦ inl (ap (λ f. Some f) memory)
  | inr other ↦ inr (λ is. other (let same : e ≡ NoMemory = cc in same))
]

taken : (line : List ℕ) (block after : Lines) → (after.refusal ≢ Some NoMemory → after ≡ with_line line block) → IsTaken line block (Some after)
taken line block after why = elim (starved_or_not after.refusal) [
  | inl starved ↦ (after, refl, inl starved)
  | inr other ↦ (after, refl, inr (why other))
]

same_block : (o : Option Lines) (a b : Lines) → o ≡ Some a → o ≡ Some b → a ≡ b
same_block o a b is also = cc

some_block : (P : Type 0) (o : Option Lines) (a : Lines) → o ≡ Some a → o ≡ None → P
some_block P o a is none = absurd (let no : ⊥ = cc in no)

other_end : (P : Type 0) (line : List ℕ) → ends_block line ≡ false → ends_block line ≡ true → P
other_end P line isnt does = absurd (let none : ⊥ = cc in none)

-- an open block takes a line
pub block_taken : (line : List ℕ) (old : Sitting) (desk : Standing) (block after : Lines) (before : Option (List ℕ)) → desk ≡ old.desk → old.block ≡ Some block → ends_block line ≡ false → (after.refusal ≢ Some NoMemory → after ≡ with_line line block)
    → (done : LineOutcome) × IsSessionDone line old (record { desk = desk; block = Some after }) done × (desk ≡ followed old.desk done) × Appends before before (printed done.replies)
block_taken line old desk block after before same is isnt why = (
  silent old.desk.table,
  record {
    command = λ none alone. some_block _ old.block block is none;
    opens = λ none par. some_block _ old.block block is none;
    takes = λ b at ends. (let P : Lines → Type 0 = λ x. IsTaken line x (Some after) in (subst P (same_block old.block block b is at) (taken line block after why), refl));
    ends = λ b at ends. other_end _ line isnt ends;
  },
  same,
  none_replied before,
)

-- no block is open where none is found
pub none_open : (block : Option Lines) → is_some block ≡ false → block ≡ None
none_open None none = refl
none_open (Some block) none = absurd (let no : ⊥ = cc in no)
