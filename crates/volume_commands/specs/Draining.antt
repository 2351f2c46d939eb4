-- Requests that end while others are in flight: events are done one after another, each the one that is due first. What one
-- event does is said where events are (`volume`). This project's own.
use Rattle.std.specs.Prelude.{◌≡◌, ◌==◌, ◌&&◌, ◌||◌, not, ℕ, Bool, true, false, List, [], ◌∷◌, ◌++◌, Option, Some, None, if◌then◌else◌}
use Rattle.device.specs.Layers.{Layer}
use Rattle.plain_machine.specs.declared.event.Event.{Event}
use Rattle.plain_machine.specs.declared.event.Outcome.{Outcome}
use Rattle.plain_machine.specs.declared.event.Outcome.TheVariants.{Reply as Replies, Done, Fault}
use Rattle.volume.specs.EventKinds.{is_of_merge}
use Rattle.plain_machine.specs.declared.request.Reply.{Reply}
use Rattle.plain_machine.specs.declared.request.Reply.TheVariants.{Refused}
use Rattle.plain_machine.specs.declared.request.Failure.TheVariants.{Invalid}
use Rattle.plain_machine.specs.Replies.{reply_in}
use Rattle.volume.specs.Volumed.{Volumed, next_of}
use Rattle.plain_machine.specs.declared.request.Replied.{Replied}
use Rattle.counted_volume.specs.DoneDue.{IsDoneFirst}

-- these events were done, in this order
abbrev pub IsChain : {B : Type 0} → (B → ℕ → List ℕ → Type 0) → (B → List ℕ) → (B → List Layer) → (B → ℕ) → (B → ℕ) → List (Event × Outcome) → Volumed B → Volumed B → Type 0
IsChain holds contents layers faults size [] old new = new ≡ old
IsChain holds contents layers faults size (x ∷ xs) old new = (mid : Volumed _) × IsDoneFirst holds contents layers faults size x.0 x.1 old mid × IsChain holds contents layers faults size xs mid new

-- the replies that they gave, in this order
abbrev pub replied_in : List (Event × Outcome) → List Replied
replied_in [] = []
replied_in (x ∷ done) = reply_in x.1 ++ replied_in done

-- Events were done from one volume to another, and their replies come after those that were there.
pub record IsDrained {B : Type 0} (holds : B → ℕ → List ℕ → Type 0) (contents : B → List ℕ) (layers : B → List Layer) (faults size : B → ℕ) (old new : Volumed B) (before after : List Replied) : Type 0 where
  pub done : List (Event × Outcome)
  pub chain : IsChain holds contents layers faults size done old new
  pub told : after ≡ before ++ replied_in done

-- the replies to other requests than this one
abbrev pub others : ℕ → List Replied → List Replied
others number [] = []
others number (x ∷ replies) = if x.number == number then others number replies else x ∷ others number replies

-- the last reply to this one, or else the one that was given before
abbrev pub reply_to : ℕ → Reply → List Replied → Reply
reply_to number before [] = before
reply_to number before (x ∷ replies) = reply_to number (if x.number == number then x.reply else before) replies

-- Nothing is due but events of a merge, if any.
abbrev pub is_idle : Option Event → Bool
is_idle None = true
is_idle (Some event) = is_of_merge event

abbrev pub is_idle_of : {B : Type 0} → (B → List ℕ) → (B → List Layer) → Volumed B → Bool
is_idle_of contents layers v = is_idle (next_of contents layers v)

-- whether an outcome is the reply to this request
abbrev pub tells : ℕ → Outcome → Bool
tells number (Replies other reply) = other == number
tells number Done = false
tells number Fault = false

-- no event of a merge is done after the reply to this request; told says whether that was given before
abbrev pub is_lazy : ℕ → Bool → List (Event × Outcome) → Bool
is_lazy number told [] = true
is_lazy number told (x ∷ done) = not (told && is_of_merge x.0) && is_lazy number (told || tells number x.1) done

-- none of these events is one of a merge
abbrev pub are_apart : List (Event × Outcome) → Bool
are_apart [] = true
are_apart (x ∷ done) = not (is_of_merge x.0) && are_apart done

-- Events were done likewise, none of a merge.
pub record IsDrainedApart {B : Type 0} (holds : B → ℕ → List ℕ → Type 0) (contents : B → List ℕ) (layers : B → List Layer) (faults size : B → ℕ) (old new : Volumed B) (before after : List Replied) : Type 0 where
  pub done : List (Event × Outcome)
  pub chain : IsChain holds contents layers faults size done old new
  pub told : after ≡ before ++ replied_in done
  pub apart : are_apart done ≡ true

-- Events were done likewise, those of a merge only until the reply to this request; that reply is given apart, and is Invalid
-- where none came.
pub record IsAnsweredAmong {B : Type 0} (holds : B → ℕ → List ℕ → Type 0) (contents : B → List ℕ) (layers : B → List Layer) (faults size : B → ℕ) (number : ℕ) (reply : Reply) (old new : Volumed B) (before after : List Replied) : Type 0 where
  pub done : List (Event × Outcome)
  pub chain : IsChain holds contents layers faults size done old new
  pub told : after ≡ before ++ others number (replied_in done)
  pub reply_is : reply ≡ reply_to number (Refused Invalid) (replied_in done)
  pub lazy : is_lazy number false done ≡ true
