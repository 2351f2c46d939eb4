-- A drain goes on by each event of a merge that is done in straight line.
use Rattle.std.proofs.Common.{◌≡◌, ℕ, ◌+◌, List, [], ◌∷◌, ◌++◌, length, sym, refl, ap, ◌∙◌, subst, arith}
use Rattle.std.proofs.lemmas.List.{append-nil}
use Rattle.device.specs.Layers.{Layer}
use Rattle.plain_machine.specs.Replies.{reply_in}
use Rattle.plain_machine.specs.declared.event.Event.{Event}
use Rattle.plain_machine.specs.declared.event.Outcome.{Outcome}
use Rattle.plain_machine.specs.declared.request.Replied.{Replied}
use Rattle.volume.specs.Volumed.{Volumed}
use Rattle.counted_volume.specs.Following.{AreSteps}
use Rattle.volume_commands.proofs.Drained.{RunsQuiet, quiet_more}
use Rattle.volume_commands.proofs.Drains.{DrainsSo, drains_more}

none_more : (now replies : List Replied) → replies ≡ [] → now ≡ now ++ replies
none_more now replies silent = sym (ap (λ (rs : List Replied). now ++ rs) silent ∙ append-nil now)

none_longer : (len : ℕ) (replies : List Replied) → replies ≡ [] → len ≡ len + length replies
none_longer len replies silent = (let none : length replies ≡ 0 = ap length silent in omega (arith, none))

module _ {B : Type 0} (holds : B → ℕ → List ℕ → Type 0) (contents : B → List ℕ) (layers : B → List Layer) (faults size : B → ℕ) where
  -- the drain goes on
  pub drains_on : (steps : List (Event × Outcome)) (len cap : ℕ) (u v w : Volumed B) (before now : List Replied) → DrainsSo holds contents layers faults size len cap u v before now → AreSteps holds contents layers faults size steps v w → DrainsSo holds contents layers faults size len cap u w before now
  drains_on [] len cap u v w before now so same = subst (λ (x : Volumed B). DrainsSo holds contents layers faults size len cap u x before now) (sym same) so
  drains_on (x ∷ xs) len cap u v w before now so chain = drains_on xs len cap u chain.0 w before now
      (drains_more holds contents layers faults size len len cap cap u v chain.0 x.0 x.1 before now now so chain.1 (none_more now (reply_in x.1) chain.3) (none_longer len (reply_in x.1) chain.3) refl) chain.4

  pub quiet_on : (steps : List (Event × Outcome)) (u v w : Volumed B) (before now : List Replied) → RunsQuiet contents layers size u v before now → AreSteps holds contents layers faults size steps v w → RunsQuiet contents layers size u w before now
  quiet_on [] u v w before now so same = subst (λ (x : Volumed B). RunsQuiet contents layers size u x before now) (sym same) so
  quiet_on (x ∷ xs) u v w before now so chain = quiet_on xs u chain.0 w before now (quiet_more contents layers size holds faults u v chain.0 x.0 x.1 before now now so chain.1 (none_more now (reply_in x.1) chain.3)) chain.4
