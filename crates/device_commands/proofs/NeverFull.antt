-- Rules that never refuse because a journal is full.
use Rattle.std.proofs.Common.{◌≢◌, Bool, true, false}
use Rattle.std.specs.Prelude.{IfErr, Result, Ok, Err, if◌then◌else◌}
use Rattle.sector.specs.declared.refusal.Refusal.{Refusal}
use Rattle.sector.specs.declared.refusal.Refusal.TheVariants.{NoSuchDevice, OutOfRange, Busy, TooMany, BadTable, BadChunk, NotMerging, NotDue, JournalFull}
use Rattle.words.specs.Given.{◌>>=◌}

-- a rule, or a call, that is not refused so
pub record IsNeverFull {A : Type 0} (rule : Result A Refusal) : Type 0 where
  pub other : IfErr rule (λ e. e ≢ JournalFull)

-- one that goes on after another, and one of two
pub then_never : {A B : Type 0} {r : Result A Refusal} {f : A → Result B Refusal} → IsNeverFull r → ((x : A) → IsNeverFull (f x)) → IsNeverFull (r >>= f)
then_never {r = Ok x} first after = after x
then_never {r = Err e} first after = record { other = first.other }

pub either_never : {A : Type 0} (b : Bool) {x y : Result A Refusal} → IsNeverFull x → IsNeverFull y → IsNeverFull (if b then x else y)
either_never true p q = p
either_never false p q = q

-- an answer, and the other refusals
pub answer_never : {A : Type 0} {x : A} → IsNeverFull {A = A} (Ok x)
answer_never = record { other = tt }

pub no_device_never : {A : Type 0} → IsNeverFull {A = A} (Err NoSuchDevice)
no_device_never = record { other = λ h. cc }

pub out_of_range_never : {A : Type 0} → IsNeverFull {A = A} (Err OutOfRange)
out_of_range_never = record { other = λ h. cc }

pub busy_never : {A : Type 0} → IsNeverFull {A = A} (Err Busy)
busy_never = record { other = λ h. cc }

pub too_many_never : {A : Type 0} → IsNeverFull {A = A} (Err TooMany)
too_many_never = record { other = λ h. cc }

pub bad_table_never : {A : Type 0} → IsNeverFull {A = A} (Err BadTable)
bad_table_never = record { other = λ h. cc }

pub bad_chunk_never : {A : Type 0} → IsNeverFull {A = A} (Err BadChunk)
bad_chunk_never = record { other = λ h. cc }

pub not_merging_never : {A : Type 0} → IsNeverFull {A = A} (Err NotMerging)
not_merging_never = record { other = λ h. cc }

pub not_due_never : {A : Type 0} → IsNeverFull {A = A} (Err NotDue)
not_due_never = record { other = λ h. cc }

pub ruleset never = (answer_never, no_device_never, out_of_range_never, busy_never, too_many_never, bad_table_never, bad_chunk_never, not_merging_never, not_due_never, then_never, either_never)
