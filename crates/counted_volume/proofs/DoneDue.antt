-- Events that were due, and were done: none, one, or some and then others.
use Rattle.std.proofs.Common.{◌≡◌, ℕ, true, List, [], ◌∷◌, ◌++◌, map, refl, sym, ◌∙◌, ap, subst}
use Rattle.device.specs.Layers.{Layer}
use Rattle.plain_machine.specs.Legal.{IsLegalStep}
use Rattle.plain_machine.specs.declared.event.Event.{Event}
use Rattle.plain_machine.specs.declared.event.Outcome.{Outcome}
use Rattle.plain_machine.specs.declared.request.Reply.{Reply}
use Rattle.in_flight.specs.Kinds.{in_flight}
use Rattle.volume.specs.Causes.{HasCause}
use Rattle.volume.specs.Closing.{ClosesBy}
use Rattle.volume.specs.Exact.{IsExact}
use Rattle.volume.specs.Flying.{IsFlown}
use Rattle.volume.specs.Stepping.{KeepsAll}
use Rattle.volume.specs.Stopping.{StopsVolume, given_by}
use Rattle.volume.specs.Volumed.{Volumed, is_due_of, is_loud_in_all, plain_of}
use Rattle.counted_volume.specs.DoneDue.{AreDone, AreDoneDue, IsDoneDue, last_told, told_by}

last_joined : (before : Reply) (xs ys : List (Event × Outcome)) → last_told before (xs ++ ys) ≡ last_told (last_told before xs) ys
last_joined before [] ys = refl
last_joined before (x ∷ xs) ys = last_joined (told_by x.1 before) xs ys

module _ {B : Type 0} (holds : B → ℕ → List ℕ → Type 0) (contents : B → List ℕ) (layers : B → List Layer) (faults size : B → ℕ) where
  chain_joined : (xs ys : List (Event × Outcome)) (u v w : Volumed B) → AreDoneDue holds contents layers faults size xs u v → AreDoneDue holds contents layers faults size ys v w → AreDoneDue holds contents layers faults size (xs ++ ys) u w
  chain_joined [] ys u v w same rest = subst (λ (x : Volumed B). AreDoneDue holds contents layers faults size ys x w) same rest
  chain_joined (x ∷ xs) ys u v w chain rest = (chain.0, chain.1, chain_joined xs ys chain.0 v w chain.2 rest)

  -- an event that was due was done
  pub due_is : (event : Event) (outcome told : Outcome) (v w : Volumed B) → true ≡ is_due_of contents layers v event → outcome ≡ told → IsExact contents layers event outcome v w
      → (is_loud_in_all layers v ≡ true → IsLegalStep (plain_of contents layers v) event outcome (plain_of contents layers w)) → IsFlown event outcome (map in_flight v.flights) (map in_flight w.flights) → HasCause faults event outcome v w → w.requests ≡ v.requests
      → KeepsAll size v w → is_loud_in_all layers w ≡ is_loud_in_all layers v → ClosesBy holds contents layers size event outcome (map in_flight v.flights) w → (is_loud_in_all layers v ≡ true → StopsVolume holds size (given_by event (map in_flight v.flights)) v w) → IsDoneDue holds contents layers faults size event told v w
  due_is event outcome told v w due is exact legal flown cause requests kept loud closes stops =
      subst (λ (o : Outcome). IsDoneDue holds contents layers faults size event o v w) is (record { due = sym due; exact = exact; legal = legal; flown = flown; cause = cause; requests = requests; kept = kept; loud = loud; closes = closes; stops = stops })

  -- none was done, one, or some and then others
  pub done_none : (reply : Reply) (v : Volumed B) → AreDone holds contents layers faults size reply reply v v
  done_none reply v = record { done = []; chain = refl; reply_is = refl }

  pub done_one : (before : Reply) (event : Event) (outcome : Outcome) (v w : Volumed B) → IsDoneDue holds contents layers faults size event outcome v w → AreDone holds contents layers faults size before (told_by outcome before) v w
  done_one before event outcome v w did = record { done = (event, outcome) ∷ []; chain = (w, did, refl); reply_is = refl }

  pub done_then : (before now after : Reply) (u v w : Volumed B) → AreDone holds contents layers faults size before now u v → AreDone holds contents layers faults size now after v w → AreDone holds contents layers faults size before after u w
  done_then before now after u v w a b = record {
    done = a.done ++ b.done;
    chain = chain_joined a.done b.done u v w a.chain b.chain;
    reply_is = b.reply_is ∙ ap (λ (r : Reply). last_told r b.done) a.reply_is ∙ sym (last_joined before a.done b.done);
  }
