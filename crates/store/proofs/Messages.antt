-- A message to a layer leaves whether writes are dropped.
use Rattle.std.proofs.Common.{◌≡◌, ℕ, List, Ok, Err, ap}
use Rattle.std.specs.Prelude.{Result, IfOk, OnErr}
use Rattle.sector.specs.declared.refusal.Refusal.{Refusal}
use Rattle.device.specs.Layers.{Layer, is_loud}
use Rattle.layers.specs.declared.message.Answer.{Answer}
use Rattle.layers.specs.declared.message.Message.{Message}
use Rattle.layers.specs.Messages.{told, Answered}
use Rattle.layers.specs.Loudness.{loud_told}

pub loud_answered : (r : Result Answer Refusal) (old new : List Layer) (depth : ℕ) (message : Message) → IfOk r (λ a. told old depth message ≡ Answered a new) → OnErr r (new ≡ old) → is_loud new ≡ is_loud old
loud_answered (Ok a) old new depth message ok err = loud_told old depth message a new ok
loud_answered (Err e) old new depth message ok err = ap is_loud err
