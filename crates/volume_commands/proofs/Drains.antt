-- One event more is done.
use Rattle.std.proofs.Common.{◌≡◌, ◌≢◌, inl, inr, ℕ, ◌+◌, ◌≤◌, Bool, true, false, List, [], ◌∷◌, ◌++◌, length, refl, sym, ◌∙◌, ap, subst, arith}
use Rattle.std.specs.Prelude.{◌==◌, ◌&&◌, ◌||◌, not, if◌then◌else◌}
use Rattle.std.proofs.lemmas.Bool.{cases_Bool, cond-true, cond-false, eq-eqb, ne_eqb}
use Rattle.std.proofs.lemmas.List.{append_assoc, append-nil}
use Rattle.device.specs.Layers.{Layer}
use Rattle.plain_machine.specs.declared.event.Event.{Event}
use Rattle.plain_machine.specs.declared.event.Outcome.{Outcome}
use Rattle.plain_machine.specs.declared.event.Outcome.TheVariants.{Reply as Answered}
use Rattle.plain_machine.specs.declared.request.Reply.{Reply}
use Rattle.plain_machine.specs.declared.request.Reply.TheVariants.{Refused}
use Rattle.plain_machine.specs.declared.request.Failure.TheVariants.{Invalid}
use Rattle.volume.specs.Volumed.{Volumed, is_loud_in_all}
use Rattle.volume.specs.EventKinds.{is_of_merge}
use Rattle.volume.specs.Stepping.{KeepsAll}
use Rattle.plain_machine.specs.declared.request.Replied.{Replied}
use Rattle.plain_machine.specs.Replies.{reply_in}
use Rattle.counted_volume.specs.DoneDue.{IsDoneFirst}
use Rattle.volume_commands.specs.Draining.{IsChain, IsDrained, IsDrainedApart, IsAnsweredAmong, replied_in, others, reply_to, tells, is_lazy, are_apart}
use Rattle.counted_volume.specs.Following.{IsStep}
use Rattle.counted_volume.proofs.Settled.{keeps_none, keeps_more}
use Rattle.volume_commands.proofs.Rooms.{room_left}

replied_more : (done : List (Event × Outcome)) (event : Event) (outcome : Outcome) → replied_in (done ++ (event, outcome) ∷ []) ≡ replied_in done ++ reply_in outcome
replied_more [] event outcome = append-nil (reply_in outcome)
replied_more (x ∷ done) event outcome = ap (λ (rs : List Replied). reply_in x.1 ++ rs) (replied_more done event outcome) ∙ sym (append_assoc (reply_in x.1) (replied_in done) (reply_in outcome))

others_more : (number : ℕ) (xs ys : List Replied) → others number (xs ++ ys) ≡ others number xs ++ others number ys
others_more number [] ys = refl
others_more number (x ∷ xs) ys = elim (cases_Bool (x.number == number)) [
  | inl own ↦ cond-true _ _ _ own ∙ others_more number xs ys ∙ ap (λ (rs : List Replied). rs ++ others number ys) (sym (cond-true _ _ _ own))
  | inr other ↦ cond-false _ _ _ other ∙ ap (λ (rs : List Replied). x ∷ rs) (others_more number xs ys) ∙ ap (λ (rs : List Replied). rs ++ others number ys) (sym (cond-false _ _ _ other))
]

reply_more : (number : ℕ) (reply : Reply) (xs ys : List Replied) → reply_to number reply (xs ++ ys) ≡ reply_to number (reply_to number reply xs) ys
reply_more number reply [] ys = refl
reply_more number reply (x ∷ xs) ys = reply_more number (if x.number == number then x.reply else reply) xs ys

-- where the reply was not given, or the event is none of a merge, the drain goes on
pub goes_untold : (told of_merge : Bool) → told ≡ false → told && of_merge ≡ false
goes_untold told of_merge e = ap (λ b. b && of_merge) e

pub goes_apart : (told of_merge : Bool) → of_merge ≡ false → told && of_merge ≡ false
goes_apart true of_merge e = e
goes_apart false of_merge e = refl

-- whether it is given now, or was before
pub told_now : (told here : Bool) → here ≡ true → true ≡ told || here
told_now true here e = refl
told_now false here e = sym e

pub told_before : (told here : Bool) → here ≡ false → told ≡ told || here
told_before true here e = refl
told_before false here e = sym e

-- a reply to this request
module _ (number own : ℕ) (reply before : Reply) where
  pub own_told : number ≡ own → others own (reply_in (Answered number reply)) ≡ []
  own_told e = cond-true _ _ _ (eq-eqb number own e)

  pub own_reply : number ≡ own → reply_to own before (reply_in (Answered number reply)) ≡ reply
  own_reply e = cond-true _ _ _ (eq-eqb number own e)

  pub own_tells : number ≡ own → tells own (Answered number reply) ≡ true
  own_tells e = eq-eqb number own e

  -- and to another
  pub other_told : number ≢ own → others own (reply_in (Answered number reply)) ≡ reply_in (Answered number reply)
  other_told e = cond-false _ _ _ (ne_eqb number own e)

  pub other_reply : number ≢ own → reply_to own before (reply_in (Answered number reply)) ≡ before
  other_reply e = cond-false _ _ _ (ne_eqb number own e)

  pub other_tells : number ≢ own → tells own (Answered number reply) ≡ false
  other_tells e = ne_eqb number own e

and_assoc : (a b c : Bool) → (a && b) && c ≡ a && (b && c)
and_assoc true b c = refl
and_assoc false b c = refl

apart_more : (done : List (Event × Outcome)) (event : Event) (outcome : Outcome) → are_apart done ≡ true → is_of_merge event ≡ false → are_apart (done ++ (event, outcome) ∷ []) ≡ true
apart_more done event outcome apart other = longer done ∙ ap (λ b. b && (not (is_of_merge event) && true)) apart ∙ ap (λ b. not b && true) other
  where
    longer : (xs : List (Event × Outcome)) → are_apart (xs ++ (event, outcome) ∷ []) ≡ are_apart xs && (not (is_of_merge event) && true)
    longer [] = refl
    longer (x ∷ xs) = ap (λ b. not (is_of_merge x.0) && b) (longer xs) ∙ sym (and_assoc (not (is_of_merge x.0)) (are_apart xs) (not (is_of_merge event) && true))

-- whether the reply to a request was given by these events, or before
abbrev pub told_after : ℕ → Bool → List (Event × Outcome) → Bool
told_after number told [] = told
told_after number told (x ∷ done) = told_after number (told || tells number x.1) done

lazy_longer : (number : ℕ) (told : Bool) (done : List (Event × Outcome)) (event : Event) (outcome : Outcome)
    → is_lazy number told (done ++ (event, outcome) ∷ []) ≡ is_lazy number told done && (not (told_after number told done && is_of_merge event) && true)
lazy_longer number told [] event outcome = refl
lazy_longer number told (x ∷ done) event outcome =
    ap (λ b. not (told && is_of_merge x.0) && b) (lazy_longer number (told || tells number x.1) done event outcome)
    ∙ sym (and_assoc (not (told && is_of_merge x.0)) (is_lazy number (told || tells number x.1) done) (not (told_after number (told || tells number x.1) done && is_of_merge event) && true))

lazy_more : (number : ℕ) (told : Bool) (done : List (Event × Outcome)) (event : Event) (outcome : Outcome) → is_lazy number false done ≡ true → told ≡ told_after number false done → told && is_of_merge event ≡ false
    → is_lazy number false (done ++ (event, outcome) ∷ []) ≡ true
lazy_more number told done event outcome lazy is apart =
    lazy_longer number false done event outcome ∙ ap (λ b. b && (not (told_after number false done && is_of_merge event) && true)) lazy
    ∙ ap (λ b. not (b && is_of_merge event) && true) (sym is) ∙ ap (λ b. not b && true) apart

told_more : (number : ℕ) (told : Bool) (done : List (Event × Outcome)) (event : Event) (outcome : Outcome) → told_after number told (done ++ (event, outcome) ∷ []) ≡ told_after number told done || tells number outcome
told_more number told [] event outcome = refl
told_more number told (x ∷ done) event outcome = told_more number (told || tells number x.1) done event outcome

module _ {B : Type 0} (holds : B → ℕ → List ℕ → Type 0) (contents : B → List ℕ) (layers : B → List Layer) (faults size : B → ℕ) where
  chain_more : (done : List (Event × Outcome)) (old mid new : Volumed B) (event : Event) (outcome : Outcome) → IsChain holds contents layers faults size done old mid → IsDoneFirst holds contents layers faults size event outcome mid new → IsChain holds contents layers faults size (done ++ (event, outcome) ∷ []) old new
  chain_more [] old mid new event outcome same next = (new, subst (λ (v : Volumed B). IsDoneFirst holds contents layers faults size event outcome v new) same next, refl)
  chain_more (x ∷ done) old mid new event outcome chain next = (chain.0, chain.1, chain_more done chain.0 mid new event outcome chain.2 next)

  -- what events leave as it is
  pub record KeepsCounts (old new : Volumed B) : Type 0 where
    pub kept : KeepsAll size old new
    pub loud : is_loud_in_all layers new ≡ is_loud_in_all layers old
    pub requests : new.requests ≡ old.requests

  pub counts_none : (v : Volumed B) → KeepsCounts v v
  counts_none v = record { kept = keeps_none size v; loud = refl; requests = refl }

  counts_more : (u v w : Volumed B) (event : Event) (outcome : Outcome) → KeepsCounts u v → IsStep holds contents layers faults size event outcome v w → KeepsCounts u w
  counts_more u v w event outcome h step = record { kept = keeps_more size u v w h.kept step.kept; loud = step.loud ∙ h.loud; requests = step.requests ∙ h.requests }

  pub drained_none : (v : Volumed B) (replies : List Replied) → IsDrained holds contents layers faults size v v replies replies
  drained_none v replies = record { done = []; chain = refl; told = sym (append-nil replies) }

  drained_more : (u v w : Volumed B) (event : Event) (outcome : Outcome) (before now after : List Replied) → IsDrained holds contents layers faults size u v before now → IsDoneFirst holds contents layers faults size event outcome v w → after ≡ now ++ reply_in outcome
      → IsDrained holds contents layers faults size u w before after
  drained_more u v w event outcome before now after so next more = record {
    done = so.done ++ (event, outcome) ∷ [];
    chain = chain_more so.done u v w event outcome so.chain next;
    told = more ∙ ap (λ (rs : List Replied). rs ++ reply_in outcome) so.told ∙ append_assoc before (replied_in so.done) (reply_in outcome) ∙ ap (λ (rs : List Replied). before ++ rs) (sym (replied_more so.done event outcome));
  }

  pub apart_none : (v : Volumed B) (replies : List Replied) → IsDrainedApart holds contents layers faults size v v replies replies
  apart_none v replies = record { done = []; chain = refl; told = sym (append-nil replies); apart = refl }

  -- Between two events of a drain: what was done so far, and that there is room for the replies to come.
  pub record DrainsSo (len cap : ℕ) (old v : Volumed B) (before now : List Replied) : Type 0 where
    pub so : IsDrained holds contents layers faults size old v before now
    pub counts : KeepsCounts old v
    pub room : len + length v.flights ≤ cap

  pub drains_start : (len cap : ℕ) (v : Volumed B) (before now : List Replied) → now ≡ before → len + length v.flights ≤ cap → DrainsSo len cap v v before now
  drains_start len cap v before now same room = record {
    so = subst (λ (rs : List Replied). IsDrained holds contents layers faults size v v before rs) (sym same) (drained_none v before);
    counts = counts_none v;
    room = room;
  }

  pub drains_more : (len len' cap cap' : ℕ) (u v w : Volumed B) (event : Event) (outcome : Outcome) (before now after : List Replied) → DrainsSo len cap u v before now → IsStep holds contents layers faults size event outcome v w → after ≡ now ++ reply_in outcome
      → len' ≡ len + length (reply_in outcome) → cap' ≡ cap → DrainsSo len' cap' u w before after
  drains_more len len' cap cap' u v w event outcome before now after so step more longer same = record {
    so = drained_more u v w event outcome before now after so.so step.done more;
    counts = counts_more u v w event outcome so.counts step;
    room = (let left = room_left event outcome v.flights w.flights step.flown len cap so.room in omega (arith, left, longer, same));
  }

  -- the same of a drain of no event of a merge
  pub record DrainsApart (len cap : ℕ) (old v : Volumed B) (before now : List Replied) : Type 0 where
    pub so : IsDrainedApart holds contents layers faults size old v before now
    pub counts : KeepsCounts old v
    pub room : len + length v.flights ≤ cap

  pub apart_start : (len cap : ℕ) (v : Volumed B) (before : List Replied) → len + length v.flights ≤ cap → DrainsApart len cap v v before before
  apart_start len cap v before room = record { so = apart_none v before; counts = counts_none v; room = room }

  pub apart_next : (len len' cap cap' : ℕ) (u v w : Volumed B) (event : Event) (outcome : Outcome) (before now after : List Replied) → DrainsApart len cap u v before now → is_of_merge event ≡ false → IsStep holds contents layers faults size event outcome v w → after ≡ now ++ reply_in outcome
      → len' ≡ len + length (reply_in outcome) → cap' ≡ cap → DrainsApart len' cap' u w before after
  unfolding drained_more
  apart_next len len' cap cap' u v w event outcome before now after so other step more longer same =
      let next = drained_more u v w event outcome before now after (record { done = so.so.done; chain = so.so.chain; told = so.so.told }) step.done more in
      record {
        so = record { done = so.so.done ++ (event, outcome) ∷ []; chain = next.chain; told = next.told; apart = apart_more so.so.done event outcome so.so.apart other };
        counts = counts_more u v w event outcome so.counts step;
        room = (let left = room_left event outcome v.flights w.flights step.flown len cap so.room in omega (arith, left, longer, same));
      }

  -- and of one that ends with the reply to a request; told says whether that was given
  pub record DrainsFor (number : ℕ) (reply : Reply) (told : Bool) (len cap : ℕ) (old v : Volumed B) (before now : List Replied) : Type 0 where
    pub so : IsAnsweredAmong holds contents layers faults size number reply old v before now
    pub told_is : told ≡ told_after number false so.done
    pub counts : KeepsCounts old v
    pub room : len + length v.flights ≤ cap

  pub for_start : (number len cap : ℕ) (v : Volumed B) (before : List Replied) → len + length v.flights ≤ cap → DrainsFor number (Refused Invalid) false len cap v v before before
  for_start number len cap v before room = record {
    so = record { done = []; chain = refl; told = sym (append-nil before); reply_is = refl; lazy = refl };
    told_is = refl;
    counts = counts_none v;
    room = room;
  }

  pub for_next : (number : ℕ) (reply reply' : Reply) (told told' : Bool) (len len' cap cap' : ℕ) (u v w : Volumed B) (event : Event) (outcome : Outcome) (before now after : List Replied) → DrainsFor number reply told len cap u v before now → told && is_of_merge event ≡ false
      → IsStep holds contents layers faults size event outcome v w → after ≡ now ++ others number (reply_in outcome) → reply' ≡ reply_to number reply (reply_in outcome) → told' ≡ told || tells number outcome → len' ≤ len + length (reply_in outcome) → cap' ≡ cap
      → DrainsFor number reply' told' len' cap' u w before after
  for_next number reply reply' told told' len len' cap cap' u v w event outcome before now after so apart step more new later longer same =
      let all : replied_in (so.so.done ++ (event, outcome) ∷ []) ≡ replied_in so.so.done ++ reply_in outcome = replied_more so.so.done event outcome in
      record {
        so = record {
          done = so.so.done ++ (event, outcome) ∷ [];
          chain = chain_more so.so.done u v w event outcome so.so.chain step.done;
          told = more ∙ ap (λ (rs : List Replied). rs ++ others number (reply_in outcome)) so.so.told ∙ append_assoc before (others number (replied_in so.so.done)) (others number (reply_in outcome))
              ∙ ap (λ (rs : List Replied). before ++ rs) (sym (others_more number (replied_in so.so.done) (reply_in outcome)) ∙ ap (others number) (sym all));
          reply_is = new ∙ ap (λ (r : Reply). reply_to number r (reply_in outcome)) so.so.reply_is ∙ sym (reply_more number (Refused Invalid) (replied_in so.so.done) (reply_in outcome)) ∙ ap (reply_to number (Refused Invalid)) (sym all);
          lazy = lazy_more number told so.so.done event outcome so.so.lazy so.told_is apart;
        };
        told_is = later ∙ ap (λ b. b || tells number outcome) so.told_is ∙ sym (told_more number false so.so.done event outcome);
        counts = counts_more u v w event outcome so.counts step;
        room = (let left = room_left event outcome v.flights w.flights step.flown len cap so.room in omega (arith, left, longer, same));
      }
