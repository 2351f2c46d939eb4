-- What the calls between requests do as records: one that was refused and changed nothing does it; and of a begin and a resume they say
-- what a list of calls asks.
use Rattle.std.proofs.Common.{◌≡◌, ◌+◌, inl, ℕ, Bool, true, false, List, [], None, refl, sym, ◌∙◌, ap, ⊎_elim}
use Rattle.std.proofs.lemmas.Bool.{true≢false}
use Rattle.std.specs.Prelude.{Err, IfErr, Ok, Result}
use Rattle.sector.specs.declared.refusal.Refusal.{Refusal}
use Rattle.sector.specs.declared.refusal.Refusal.TheVariants.{NotMerging}
use Rattle.device.specs.Layers.{Layer}
use Rattle.plain_machine.specs.Plain.{overflow_of}
use Rattle.whole_commands.specs.Attaching.{attached, refused_attach}
use Rattle.whole_commands.specs.Refusals.{is_starved}
use Rattle.whole_commands.proofs.Starved.{starved_by}
use Rattle.store.specs.Opening.{faults_after}
use Rattle.snapshot.specs.declared.opening.StoreDev.{StoreDev}
use Rattle.volume.specs.Attached.{store_of, volume_in}
use Rattle.volume.specs.Beginning.{IsNotBegun}
use Rattle.volume.specs.DoesAttach.{DoesAttach}
use Rattle.volume.specs.DoesBeginMerge.{DoesBeginMerge}
use Rattle.volume.specs.DoesDetach.{DoesDetach}
use Rattle.volume.specs.DoesFinishMerge.{DoesFinishMerge}
use Rattle.volume.specs.DoesResumeMerge.{DoesResumeMerge}
use Rattle.volume.specs.Layering.{Measures}
use Rattle.volume.specs.Leaving.{is_quiet_of}
use Rattle.volume.specs.Moved.{moving_of}
use Rattle.volume.specs.Running.{IsBeginReturned, IsResumeReturned}
use Rattle.volume.specs.Volumed.{Volumed, is_loud_in_all, plain_of}
use Rattle.volume.proofs.TriedOrigins.{refused_still}

module _ {B : Type 0} (holds : B → ℕ → List ℕ → Type 0) (contents : B → List ℕ) (layers : B → List Layer) (size : B → ℕ) where
  pub not_detached : (number : ℕ) (refusal : Refusal) (old new : Volumed B) → DoesDetach holds contents layers size number (Err refusal) old new
  not_detached number refusal old new = record { ok = tt; taken = tt; plain = tt; loud = tt; stops = tt }

  pub not_finished : (refusal : Refusal) (old new : Volumed B) → DoesFinishMerge holds contents layers size (Err refusal) old new
  not_finished refusal old new = record { ok = tt; taken = tt; legal = tt; disk = tt; exact = tt; loud = tt; stops = tt; opens = tt }

  pub not_begun : {A : Type 0} (number : ℕ) (refusal : Refusal) (old new : Volumed B) → new ≡ old → DoesBeginMerge {A = A} holds contents layers size number (Err refusal) old new
  not_begun number refusal old new same = record {
    admitted = tt;
    begun = tt;
    legal = tt;
    exact = tt;
    loud = ap (is_loud_in_all layers) same;
    stops = tt;
    hands = tt;
    starved = λ replied. ap (moving_of contents layers replied) same;
  }

pub not_resumed : {A B : Type 0} (contents : B → List ℕ) (layers : B → List Layer) (old new : Volumed B) → new ≡ old → old.merge ≡ None → DoesResumeMerge {A = A} contents layers (Err NotMerging) old new
not_resumed contents layers old new same none = record { resumed = tt; exact = tt; plain = ap (plain_of contents layers) same; loud = ap (is_loud_in_all layers) same; err = (refl, none, same) }

-- a store that was not looked at is given back as it was
pub not_attached : {B : Type 0} (holds : B → ℕ → List ℕ → Type 0) (m : Measures B) (layers : B → List Layer) (store : StoreDev B) (chunk : ℕ) (overflow : Bool) (refusal : Refusal) (old new : Volumed B) → new ≡ old
    → (is_starved refusal ≡ false → old.merge ≡ None → is_quiet_of old ≡ true → attached (old.attached + 1) chunk (overflow_of overflow) (store_of m.contents layers store) (volume_in m.contents layers old) ≡ refused_attach refusal (store_of m.contents layers store) (volume_in m.contents layers old))
    → ((faults : ℕ) → faults_after refusal faults ≡ faults) → DoesAttach holds m layers store chunk overflow (Err (refusal, store)) old new
not_attached holds m layers store chunk overflow refusal old new same back faultless = rw same (record {
  number = tt;
  admitted = tt;
  taken = tt;
  unread = λ _. refl;
  gained = tt;
  exact = tt;
  back = λ fed alone calm _ _. back fed alone calm;
  starved = λ _. (refl, ([], refl));
  size = refl;
  loud = refl;
  stops = tt;
  leaves = tt;
  leaves_back = λ _ bytes left. inl left;
  origin_kept = λ s v held. held;
  origin_firm = tt;
  firm = tt;
  same = refused_still m.contents layers m.size old refusal;
  stale = refl;
  faults = inl (sym (faultless (m.faults store.device)));
})

-- so it is where room or memory ran out before
pub not_tried : {B : Type 0} (holds : B → ℕ → List ℕ → Type 0) (m : Measures B) (layers : B → List Layer) (store : StoreDev B) (chunk : ℕ) (overflow : Bool) (refusal : Refusal) (old new : Volumed B) → new ≡ old → is_starved refusal ≡ true
    → DoesAttach holds m layers store chunk overflow (Err (refusal, store)) old new
not_tried holds m layers store chunk overflow refusal old new same starved =
    not_attached holds m layers store chunk overflow refusal old new same (λ fed. absurd (true≢false (sym starved ∙ fed)))
    (λ faults. ⊎_elim (λ is. ap (λ r. faults_after r faults) is) (λ is. ap (λ r. faults_after r faults) is) (starved_by refusal starved))

pub begin_returned : {A B : Type 0} (holds : B → ℕ → List ℕ → Type 0) (m : Measures B) (layers : B → List Layer) (number : ℕ) (result : Result A Refusal) (old new : Volumed B)
    → DoesBeginMerge holds m.contents layers m.size number result old new → IfErr result (λ refusal. IsNotBegun number refusal old new) → IsBeginReturned m layers number result old new
begin_returned holds m layers number (Ok done) old new does refused = (record { admitted = does.admitted; becomes = does.begun; legal = does.legal; exact = does.exact }, does.loud)
begin_returned holds m layers number (Err refusal) old new does refused = (record { why = refused; still = does.starved }, does.loud)

pub resume_returned : {A B : Type 0} (m : Measures B) (layers : B → List Layer) (result : Result A Refusal) (old new : Volumed B) → DoesResumeMerge m.contents layers result old new → IsResumeReturned m layers result old new
resume_returned m layers (Ok done) old new does = (record { becomes = does.resumed; exact = does.exact; plain = does.plain }, does.loud)
resume_returned m layers (Err refusal) old new does = (does.err, does.loud)
