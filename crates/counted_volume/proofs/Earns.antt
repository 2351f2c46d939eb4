-- What a call of a volume earns in its journal: places for the requests and for the snapshots that it numbers.
use Rattle.std.proofs.Common.{◌≡◌, ◌⊎◌, inl, inr, ℕ, ◌+◌, ◌≤◌, Bool, List, [], ◌∷◌, ◌++◌, length, map, Option, Some, None, refl, sym, ◌∙◌, ap, arith}
use Rattle.std.specs.Prelude.{Err, Ok, Result}
use Rattle.std.specs.List.{remove}
use Rattle.std.proofs.lemmas.List.{length-map}
use Rattle.std.proofs.lemmas.List.Edits.{length-remove}
use Rattle.device.specs.Layers.{Layer}
use Rattle.layers.specs.declared.message.Answer.{Answer}
use Rattle.layers.specs.declared.message.Message.{Message}
use Rattle.merge.specs.Merging.{Merging}
use Rattle.plain_machine.specs.Plain.{Plain}
use Rattle.plain_machine.specs.declared.request.Dev.{Dev}
use Rattle.plain_machine.specs.declared.request.Dev.TheVariants.{Origin, Snap}
use Rattle.plain_machine.specs.declared.request.Request.{Request}
use Rattle.sector.specs.declared.refusal.Refusal.{Refusal}
use Rattle.snapshot.specs.Kept.{Kept}
use Rattle.snapshot.specs.declared.opening.StoreDev.{StoreDev}
use Rattle.snapshot_list.specs.Finding.{place_of_snap}
use Rattle.snapshot_list.specs.Keeping.{unkept}
use Rattle.snapshot_list.specs.Numbers.{number_of_snap}
use Rattle.volume.specs.Attached.{IsGained}
use Rattle.volume.specs.Beginning.{IsMergeBegun, IsNotBegun, IsResumed, SameButKept}
use Rattle.volume.specs.DoesMessage.{DoesMessage}
use Rattle.volume.specs.DoesResumeMerge.{DoesResumeMerge}
use Rattle.volume.specs.Finishing.{IsTakenOut}
use Rattle.volume.specs.Layering.{Measures}
use Rattle.volume.specs.Leaving.{IsWithout}
use Rattle.volume.specs.Shown.{shown_begun}
use Rattle.volume.specs.Stepping.{KeepsAll, KeepsDevices, merged_of}
use Rattle.volume.specs.Submitting.{IsAcceptedAs, IsRefusedAs}
use Rattle.volume.specs.Telling.{IsRelayeredAt}
use Rattle.volume.specs.Volumed.{Volumed, plain_of}
use Rattle.volume.proofs.Named.{found_within}
use Rattle.audited_volume.specs.Earned.{AreEarned, merges_of}
use Rattle.counted_volume.proofs.Refusing.{refused_given}

-- what says how many merges there are
numbered_merges : {B : Type 0} (merge : Option (Merging B)) → merges_of (merged_of merge) ≡ merges_of merge
numbered_merges None = refl
numbered_merges (Some m) = refl

shown_merges : {B : Type 0} (merge : Option (Merging B)) → merges_of (shown_begun merge) ≡ merges_of merge
shown_merges None = refl
shown_merges (Some m) = refl

pub merges_few : {A : Type 0} (merge : Option A) → merges_of merge ≤ 1
merges_few None = omega arith
merges_few (Some m) = omega arith

more_by_one : {A : Type 0} (xs : List A) (x : A) → length (xs ++ x ∷ []) ≡ length xs + 1
more_by_one [] x = omega arith
more_by_one (y ∷ xs) x = omega (arith, more_by_one xs x)

module _ {B : Type 0} (v w : Volumed B) where
  -- so many requests are numbered more, and as many snapshots and merges are there
  pub record HasAsMany (more : ℕ) : Type 0 where
    pub snaps : length w.snaps ≡ length v.snaps
    pub merge : merges_of w.merge ≡ merges_of v.merge
    pub requests : w.requests ≡ v.requests + more
    pub attached : w.attached ≡ v.attached

  pub many_earned : (more p q : ℕ) → HasAsMany more → q ≤ p + more → AreEarned p v → AreEarned q w
  many_earned more p q is few earned = omega (arith, is.snaps, is.merge, is.requests, is.attached, few, earned)

  as_long : map number_of_snap w.snaps ≡ map number_of_snap v.snaps → length w.snaps ≡ length v.snaps
  as_long same = sym (length-map w.snaps number_of_snap) ∙ ap (λ (ns : List ℕ). length ns) same ∙ length-map v.snaps number_of_snap

  -- a request that is accepted, and one that is not
  pub accepted_many : (contents : B → List ℕ) (layers : B → List Layer) (request : Request) (number : ℕ) → IsAcceptedAs contents layers request number v w → HasAsMany 1
  accepted_many contents layers request number is =
      record { snaps = as_long is.kept.numbers; merge = ap (λ (m : Option (Merging B)). merges_of m) is.kept.merge; requests = is.given ∙ is.next; attached = is.kept.attached }

  pub refused_many : (contents : B → List ℕ) (layers : B → List Layer) (size : B → ℕ) (request : Request) (refusal : Refusal) → IsRefusedAs contents layers size request refusal v w → KeepsDevices v w → HasAsMany 0
  refused_many contents layers size request refusal is kept =
      let same = refused_given contents layers size request refusal v w (inr is) in
      record { snaps = as_long kept.numbers; merge = ap (λ (m : Option (Merging B)). merges_of m) kept.merge; requests = omega (arith, same); attached = kept.attached }

  -- an event
  pub stepped_many : (size : B → ℕ) → KeepsAll size v w → w.requests ≡ v.requests → HasAsMany 0
  stepped_many size kept same = record {
    snaps = as_long kept.numbers;
    merge = sym (numbered_merges w.merge) ∙ ap (λ (m : Option (ℕ × ℕ)). merges_of m) kept.merged ∙ numbered_merges v.merge;
    requests = omega (arith, same);
    attached = kept.attached;
  }

  -- what nobody sees
  pub unseen_many : (contents : B → List ℕ) (layers : B → List Layer) → plain_of contents layers w ≡ plain_of contents layers v → (w.requests ≡ v.requests) × (w.attached ≡ v.attached) → HasAsMany 0
  unseen_many contents layers same given =
      let saved = ap (λ (p : Plain). length p.saved) same in
      let requests = given.0 in
      record {
        snaps = sym (length-map w.snaps _) ∙ saved ∙ length-map v.snaps _;
        merge = sym (shown_merges w.merge) ∙ ap (λ (p : Plain). merges_of p.begun) same ∙ shown_merges v.merge;
        requests = omega (arith, requests);
        attached = given.1;
      }

  relayered_given : (m : Measures B) (layers : B → List Layer) (dev : Dev) (f : List Layer → List Layer) → IsRelayeredAt m layers dev f v w → (w.requests ≡ v.requests) × (w.attached ≡ v.attached)
  relayered_given m layers Origin f is = (ap (λ (x : Volumed B). x.requests) is.becomes, ap (λ (x : Volumed B). x.attached) is.becomes)
  relayered_given m layers (Snap number) f (inl is) = (ap (λ (x : Volumed B). x.requests) is.becomes, ap (λ (x : Volumed B). x.attached) is.becomes)
  relayered_given m layers (Snap number) f (inr is) = (ap (λ (x : Volumed B). x.requests) is.becomes, ap (λ (x : Volumed B). x.attached) is.becomes)

  same_given : w ≡ v → (w.requests ≡ v.requests) × (w.attached ≡ v.attached)
  same_given same = (ap (λ (x : Volumed B). x.requests) same, ap (λ (x : Volumed B). x.attached) same)

  pub told_given : (holds : B → ℕ → List ℕ → Type 0) (m : Measures B) (layers : B → List Layer) (dev : Dev) (depth : ℕ) (message : Message) (result : Result Answer Refusal) → DoesMessage holds m layers dev depth message result v w → (w.requests ≡ v.requests) × (w.attached ≡ v.attached)
  told_given holds m layers dev depth message (Ok answer) does = relayered_given m layers dev _ does.ok.device
  told_given holds m layers dev depth message (Err refusal) does = elim does.err.same [
    | inl same ↦ same_given same
    | inr told ↦ relayered_given m layers dev _ told
  ]

  pub resumed_given : {A : Type 0} (contents : B → List ℕ) (layers : B → List Layer) (result : Result A Refusal) → DoesResumeMerge contents layers result v w → (w.requests ≡ v.requests) × (w.attached ≡ v.attached)
  resumed_given contents layers (Ok done) does = (let is : IsResumed v w = does.resumed in (ap (λ (x : Volumed B). x.requests) is.becomes, ap (λ (x : Volumed B). x.attached) is.becomes))
  resumed_given contents layers (Err refusal) does = same_given does.err.2

  -- a snapshot that is taken: p places with its mark more than there were
  pub gained_earned : (contents : B → List ℕ) (layers : B → List Layer) (size : B → ℕ) (number : ℕ) (wanted : Bool) (store : StoreDev B) (p q : ℕ) → IsGained contents layers size number wanted store v w → number ≡ v.attached + 1 → q ≤ p + 3 → AreEarned p v → AreEarned q w
  gained_earned contents layers size number wanted store p q is next few earned =
      let snaps = ap (λ (x : Volumed B). length x.snaps) is.becomes in
      let merge = ap (λ (x : Volumed B). merges_of x.merge) is.becomes in
      let requests = ap (λ (x : Volumed B). x.requests) is.becomes in
      let attached = ap (λ (x : Volumed B). x.attached) is.becomes in
      omega (arith, snaps, more_by_one v.snaps is.snap, merge, requests, attached, next, few, earned)

  left_by_one : (number place : ℕ) (snaps : List (Kept B)) → Some place ≡ place_of_snap number v.snaps → length snaps ≡ length (remove v.snaps place) → length snaps + 1 ≡ length v.snaps
  left_by_one number place snaps found same = (let one = length-remove v.snaps place (found_within number v.snaps place found) in omega (arith, same, one))

  -- one that leaves
  pub left_earned : (number : ℕ) (store : StoreDev B) (p q : ℕ) → IsWithout number v w store → q ≤ p + 2 → AreEarned p v → AreEarned q w
  left_earned number store p q is few earned =
      let snaps = left_by_one number is.place w.snaps (sym is.found) (ap (λ (x : Volumed B). length x.snaps) is.becomes) in
      let merge = ap (λ (x : Volumed B). merges_of x.merge) is.becomes in
      let requests = ap (λ (x : Volumed B). x.requests) is.becomes in
      let attached = ap (λ (x : Volumed B). x.attached) is.becomes in
      omega (arith, snaps, merge, requests, attached, few, earned)

  -- and one that begins to be merged, or does not
  pub begun_earned : (number p q : ℕ) → IsMergeBegun number v w → q ≤ p + 1 → AreEarned p v → AreEarned q w
  begun_earned number p q is few earned =
      let snaps = left_by_one number is.place w.snaps (sym is.found) (ap (λ (x : Volumed B). length x.snaps) is.becomes ∙ length-map (remove v.snaps is.place) _) in
      let merge = ap (λ (x : Volumed B). merges_of x.merge) is.becomes in
      let requests = ap (λ (x : Volumed B). x.requests) is.becomes in
      let attached = ap (λ (x : Volumed B). x.attached) is.becomes in
      omega (arith, snaps, merge, requests, attached, few, earned)

  kept_long : (new : List (Kept B)) → (new ≡ v.snaps) ⊎ (new ≡ map unkept v.snaps) → length new ≡ length v.snaps
  kept_long new (inl same) = ap (λ (xs : List (Kept B)). length xs) same
  kept_long new (inr unkept_are) = ap (λ (xs : List (Kept B)). length xs) unkept_are ∙ length-map v.snaps unkept

  pub unbegun_many : (number : ℕ) (refusal : Refusal) → IsNotBegun number refusal v w → HasAsMany 0
  unbegun_many number refusal (inl is) =
      let requests = ap (λ (x : Volumed B). x.requests) is.1 in
      record { snaps = ap (λ (x : Volumed B). length x.snaps) is.1; merge = ap (λ (x : Volumed B). merges_of x.merge) is.1; requests = omega (arith, requests); attached = ap (λ (x : Volumed B). x.attached) is.1 }
  unbegun_many number refusal (inr is) =
      let kept : SameButKept v w = is.2 in
      let requests = ap (λ (x : Volumed B). x.requests) kept.becomes in
      record { snaps = kept_long w.snaps kept.kept; merge = ap (λ (x : Volumed B). merges_of x.merge) kept.becomes; requests = omega (arith, requests); attached = ap (λ (x : Volumed B). x.attached) kept.becomes }

  -- a merge that is taken out
  pub finished_earned : (store : StoreDev B) (p q : ℕ) → IsTakenOut v w store → q ≤ p + 1 → AreEarned p v → AreEarned q w
  finished_earned store p q is few earned =
      let snaps = kept_long w.snaps (inr (ap (λ (x : Volumed B). x.snaps) is.becomes)) in
      let was = ap (λ (m : Option (Merging B)). merges_of m) is.was in
      let merge = ap (λ (x : Volumed B). merges_of x.merge) is.becomes in
      let requests = ap (λ (x : Volumed B). x.requests) is.becomes in
      let attached = ap (λ (x : Volumed B). x.attached) is.becomes in
      omega (arith, snaps, was, merge, requests, attached, few, earned)
