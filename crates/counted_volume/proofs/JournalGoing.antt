-- A journal that kept the entries of a call would go on.
use Rattle.std.proofs.Common.{◌≡◌, ◌≢◌, ◌⊎◌, inl, inr, ℕ, Bool, true, List, [], ◌∷◌, map, refl, sym, ◌∙◌, ap, subst}
use Rattle.std.specs.Prelude.{Err, Ok, OnOk, Result}
use Rattle.device.specs.Layers.{Layer}
use Rattle.sector.specs.declared.refusal.Refusal.{Refusal}
use Rattle.plain_machine.specs.declared.event.Event.{Event}
use Rattle.plain_machine.specs.declared.event.Event.TheVariants.{Issue, CopyRead, CopyWrite, ZeroNext, WriteArea, Publish, WriteInvalid, FlushStore, MergeGroup, MergeAreaRead, MergeRead, MergeWrite, MergeFlush, MergeCommit, MergeRelease}
use Rattle.plain_machine.specs.declared.event.Outcome.{Outcome}
use Rattle.plain_machine.specs.declared.event.Outcome.TheVariants.{Done, Fault, Reply as Replied}
use Rattle.plain_machine.specs.declared.request.Reply.{Reply}
use Rattle.plain_machine.specs.declared.request.Request.{Request}
use Rattle.plain_machine.specs.Plain.{Plain, Shown, overflow_of, shown_of, spoiled_entry}
use Rattle.plain_machine.specs.Serves.{Serves}
use Rattle.plain_machine.specs.Legal.{IsAnswered, IsBegun, IsDeclined, IsDetached, IsFinished, IsLegalStep, IsTaken, Overflows, Spoils}
use Rattle.snapshot.specs.declared.opening.StoreDev.{StoreDev}
use Rattle.volume.specs.Attached.{IsGained}
use Rattle.volume.specs.Beginning.{IsMergeBegun}
use Rattle.volume.specs.Leaving.{IsWithout}
use Rattle.volume.specs.Submitting.{IsAcceptedAs, IsRefusedAs}
use Rattle.volume.specs.Volumed.{Volumed, is_loud_in_all, plain_of}
use Rattle.volume.proofs.Declines.{refused_declined}
use Rattle.audited_volume.specs.declared.entry.Entry.{Entry}
use Rattle.audited_volume.specs.declared.entry.Entry.TheVariants.{Answered, Attached, Begun, Detached, Finished, Overflowed, Spoiled}
use Rattle.audited_volume.specs.Replay.{AllLawful, IsLawful, after, plain_in, replay, served}
use Rattle.audited_volume.proofs.Changes.{finished_does}
use Rattle.audited_volume.proofs.Departed.{begun_does, detached_does}
use Rattle.audited_volume.proofs.Gained.{attached_does}
use Rattle.audited_volume.proofs.Keeping.{spoils_of}
use Rattle.audited_volume.proofs.Replaying.{lawful_is, lawful_then, replay_then, served_is}
use Rattle.audited_volume.proofs.Spoils.{lost_lawful, lost_of, replay_lost}
use Rattle.counted_volume.specs.GoingOn.{ComesTo, GoesOn, IsSubmitNoted}

goes_on : (p q : Plain) (es : List Entry) → AllLawful (shown_of p) es → replay (shown_of p) es ≡ shown_of q → GoesOn p es q
goes_on p q es lawful gives = record {
  lawful = λ base past all was. lawful_then base past es all (subst (λ (s : Shown). AllLawful s es) (sym was) lawful);
  gives = λ base past was. replay_then base past es ∙ ap (λ (s : Shown). replay s es) was ∙ gives;
}

one_goes_on : (p q : Plain) (e : Entry) → IsLawful (shown_of p) e → after (shown_of p) e ≡ shown_of q → GoesOn p (e ∷ []) q
one_goes_on p q e lawful gives = goes_on p q (e ∷ []) (lawful, tt) gives

-- a request that nobody sees
pub none_goes_on : (request : Request) (refusal : Refusal) (p q : Plain) → q ≡ p → (entries : List Entry) × IsSubmitNoted request (Err refusal) entries × GoesOn p entries q
none_goes_on request refusal p q same = ([], inl ([], refl), goes_on p q [] tt (ap shown_of (sym same)))

-- of snapshots that may be spoiled those that are live
spoils_go_on : (which : List ℕ) (p q : Plain) → q.origin ≡ p.origin → q.begun ≡ p.begun → q.saved ≡ map (spoiled_entry which) p.saved → GoesOn p (map Spoiled (lost_of which p.saved)) q
spoils_go_on which p q origin begun saved =
    goes_on p q (map Spoiled (lost_of which p.saved)) (lost_lawful (shown_of p) which) (replay_lost (shown_of p) which ∙ (λ i. record { origin = sym origin i; begun = sym begun i; saved = sym saved i }))

spoilt_goes_on : (which : List ℕ) (p q : Plain) → Spoils which p q → GoesOn p (map Spoiled (lost_of which p.saved)) q
spoilt_goes_on which p q is = spoils_go_on which p q (ap (λ (x : Plain). x.origin) is) (ap (λ (x : Plain). x.begun) is) (ap (λ (x : Plain). x.saved) is)

-- a store that overflowed
marked_goes_on : (number : ℕ) (p q : Plain) → Overflows number p q → GoesOn p (Overflowed number ∷ []) q
marked_goes_on number p q o = one_goes_on p q (Overflowed number) (record { array = o.array; live = o.live; may = o.may; becomes = refl }) (sym (ap shown_of o.becomes))

-- an event
answered_goes_on : (number : ℕ) (reply : Reply) (p q : Plain) (a : IsAnswered p number reply q) → GoesOn p (Answered (record { seat = 1; request = a.request; reply = reply }) ∷ []) q
answered_goes_on number reply p q a =
    let r : Request = a.request in
    let made : shown_of q ≡ served r.dev r.op r.range.first reply (shown_of p) = served_is p q r.dev r.op r.range reply a.served in
    let lawful = subst (λ (s : Shown). Serves (plain_in (shown_of p)) r.dev r.op r.range reply (plain_in s)) made (lawful_is p q r.dev r.op r.range reply a.served) in
    one_goes_on p q (Answered (record { seat = 1; request = a.request; reply = reply })) lawful (sym made)

is_issue : (event : Event) → ((n : ℕ) × (event ≡ Issue n)) ⊎ ((n : ℕ) → event ≢ Issue n)
is_issue (Issue n) = inl (n, refl)
is_issue (CopyRead k) = inr (λ n e. cc)
is_issue (CopyWrite k) = inr (λ n e. cc)
is_issue (ZeroNext k) = inr (λ n e. cc)
is_issue (WriteArea k) = inr (λ n e. cc)
is_issue (Publish k) = inr (λ n e. cc)
is_issue (WriteInvalid k) = inr (λ n e. cc)
is_issue (FlushStore k) = inr (λ n e. cc)
is_issue MergeGroup = inr (λ n e. cc)
is_issue MergeAreaRead = inr (λ n e. cc)
is_issue MergeRead = inr (λ n e. cc)
is_issue MergeWrite = inr (λ n e. cc)
is_issue MergeFlush = inr (λ n e. cc)
is_issue MergeCommit = inr (λ n e. cc)
is_issue MergeRelease = inr (λ n e. cc)

pub stepped_goes_on : (p : Plain) (event : Event) (outcome : Outcome) (q : Plain) → IsLegalStep p event outcome q → (entries : List Entry) × ComesTo p outcome entries × GoesOn p entries q
stepped_goes_on p event (Replied number reply) q legal = (Answered (record { seat = 1; request = legal.1.request; reply = reply }) ∷ [], (legal.1.request, legal.1.asked, refl), answered_goes_on number reply p q legal.1)
stepped_goes_on p event Done q legal = elim (is_issue event) [
  | inl issue ↦ (let l = subst (λ (e : Event). IsLegalStep p e Done q) issue.1 legal in ([], ([], refl), goes_on p q [] tt (ap shown_of (sym l.0))))
  | inr other ↦ (let s = spoils_of p event Done q other legal in (map Spoiled (lost_of s.0 p.saved), (lost_of s.0 p.saved, refl), spoilt_goes_on s.0 p q s.1))
]
stepped_goes_on p event Fault q legal = elim (is_issue event) [
  | inl issue ↦ absurd (subst (λ (e : Event). IsLegalStep p e Fault q) issue.1 legal)
  | inr other ↦ (let s = spoils_of p event Fault q other legal in (map Spoiled (lost_of s.0 p.saved), (lost_of s.0 p.saved, refl), spoilt_goes_on s.0 p q s.1))
]

-- a request
module _ {B : Type 0} (contents : B → List ℕ) (layers : B → List Layer) (v w : Volumed B) where
  abbrev p : Plain
  p = plain_of contents layers v

  abbrev q : Plain
  q = plain_of contents layers w

  pub accepted_goes_on : (request : Request) (number : ℕ) → IsAcceptedAs contents layers request number v w → is_loud_in_all layers v ≡ true → (entries : List Entry) × IsSubmitNoted request (Ok number) entries × GoesOn p entries q
  accepted_goes_on request number is loud =
      let s = is.legal loud in
      (_, (_, refl), spoils_go_on _ p q (ap (λ (x : Plain). x.origin) s.becomes) (ap (λ (x : Plain). x.begun) s.becomes) (ap (λ (x : Plain). x.saved) s.becomes))

  declined_goes_on : (request : Request) (refusal : Refusal) → IsDeclined request refusal p q → (entries : List Entry) × IsSubmitNoted request (Err refusal) entries × GoesOn p entries q
  declined_goes_on request refusal (inl same) = none_goes_on request refusal p q same
  declined_goes_on request refusal (inr (number, bytes, dev, op, inl full)) = (map Spoiled (lost_of (number ∷ []) p.saved), inl (lost_of (number ∷ []) p.saved, refl), spoilt_goes_on (number ∷ []) p q full.2)
  declined_goes_on request refusal (inr (number, bytes, dev, op, inr marked)) = (Overflowed number ∷ [], inr (marked.0, (number, dev, refl)), marked_goes_on number p q marked.1)

  pub refused_goes_on : (size : B → ℕ) (request : Request) (refusal : Refusal) → IsRefusedAs contents layers size request refusal v w → is_loud_in_all layers v ≡ true → (entries : List Entry) × IsSubmitNoted request (Err refusal) entries × GoesOn p entries q
  refused_goes_on size request refusal is loud = declined_goes_on request refusal (refused_declined contents layers size v w request refusal is loud)

  -- what changes a volume between requests
  pub gained_goes_on : (size : B → ℕ) (number : ℕ) (wanted : Bool) (store : StoreDev B) (array : List ℕ) (fresh : Bool) → IsGained contents layers size number wanted store v w → IsTaken p number array (overflow_of wanted) q → (fresh ≡ true → array ≡ p.origin) → GoesOn p (Attached number array (overflow_of wanted) fresh ∷ []) q
  gained_goes_on size number wanted store array fresh gained taken same =
      let d = attached_does contents layers size number wanted store v w gained array fresh [] [] taken same in one_goes_on p q (Attached number array (overflow_of wanted) fresh) d.1 d.0

  pub left_goes_on : (number : ℕ) (store : StoreDev B) → IsWithout number v w store → IsDetached p number q → GoesOn p (Detached number ∷ []) q
  left_goes_on number store without detached =
      let d = detached_does contents layers number v w without.place [] [] without.found detached in one_goes_on p q (Detached number) d.1 d.0

  begun_goes_on : (number : ℕ) → IsMergeBegun number v w → IsBegun p number q → GoesOn p (Begun number ∷ []) q
  begun_goes_on number begun is =
      let d = begun_does contents layers number v w begun.place [] [] begun.found is in one_goes_on p q (Begun number) d.1 d.0

  pub begun_or_goes_on : {A E : Type 0} (number : ℕ) (r : Result A E) → OnOk r (IsMergeBegun number v w) → OnOk r (is_loud_in_all layers v ≡ true → IsBegun p number q) → OnOk r (is_loud_in_all layers v ≡ true → GoesOn p (Begun number ∷ []) q)
  begun_or_goes_on number (Ok a) begun is = λ loud. begun_goes_on number begun (is loud)
  begun_or_goes_on number (Err e) begun is = tt

  pub finished_goes_on : IsFinished p q → GoesOn p (Finished ∷ []) q
  finished_goes_on is = let d = finished_does p q [] [] is in one_goes_on p q Finished d.1 d.0
