-- Events by what is due: one after the other.
use Rattle.std.proofs.Common.{◌≡◌, ℕ, zero, suc, ◌+◌, Option, Some, None, refl, ap, ◌∙◌, sym, arith}
use Rattle.plain_machine.specs.declared.event.Event.{Event}
use Rattle.plain_machine.specs.declared.event.Event.TheVariants.{Issue, CopyRead, CopyWrite, ZeroNext, WriteArea, Publish, WriteInvalid, FlushStore, MergeGroup, MergeAreaRead, MergeRead, MergeWrite, MergeFlush, MergeCommit, MergeRelease}
use Rattle.event_machine.specs.Held.{SnapHeld, Moving}
use Rattle.event_machine.specs.Due.{due}
use Rattle.event_machine.specs.Stepping.{for_some, first_that, publishes, stepped}
use Rattle.event_machine.specs.Settles.{settle_by}

-- what a publication starts besides is done, and nothing after any other event
abbrev pub followed : (Moving → Moving) → Event → Moving → Moving
followed starts (Publish n) v = starts v
followed starts event v = v

-- nothing is started
abbrev pub no_start : Moving → Moving
no_start v = v

pub unfollowed : (event : Event) (v : Moving) → followed no_start event v ≡ v
unfollowed (Issue n) v = refl
unfollowed (CopyRead n) v = refl
unfollowed (CopyWrite n) v = refl
unfollowed (ZeroNext n) v = refl
unfollowed (WriteArea n) v = refl
unfollowed (Publish n) v = refl
unfollowed (WriteInvalid n) v = refl
unfollowed (FlushStore n) v = refl
unfollowed MergeGroup v = refl
unfollowed MergeAreaRead v = refl
unfollowed MergeRead v = refl
unfollowed MergeWrite v = refl
unfollowed MergeFlush v = refl
unfollowed MergeCommit v = refl
unfollowed MergeRelease v = refl

-- the mark that is published is there
abbrev pub IsThere : Event → Moving → Type 0
IsThere (Publish n) v = (h : SnapHeld) × (first_that (publishes v.requests n) v.snaps ≡ Some h)
IsThere event v = Unit {0}

-- A choice of events that takes what is due of snapshots and requests first, and steps that do with it what the machine does,
-- and then start what a publication starts.
pub record TakesDue (starts : Moving → Moving) (choose : Moving → Option Event) (step : Event → Moving → Moving) : Type 0 where
  pub takes : (v : Moving) (event : Event) → due v ≡ Some event → choose v ≡ Some event
  pub steps : (v : Moving) (event : Event) → due v ≡ Some event → IsThere event v → step event v ≡ followed starts event (stepped event v)

pub takes_due : TakesDue no_start due stepped
takes_due = record { takes = λ v event is. is; steps = λ v event is there. sym (unfollowed event (stepped event v)) }

-- a volume goes on to another by so many events that are due first, whatever is chosen where none of these is due
abbrev pub Goes : (Moving → Moving) → Moving → Moving → Type 0
Goes starts v w = (n : ℕ) × ((choose : Moving → Option Event) (step : Event → Moving → Moving) → TakesDue starts choose step → (m : ℕ) → settle_by choose step (n + m) v ≡ settle_by choose step m w)

pub goes_none : {starts : Moving → Moving} → (v : Moving) → Goes starts v v
goes_none v = (0, λ choose step takes m. ap (λ k. settle_by choose step k v) (omega arith))

pub goes_on : {starts : Moving → Moving} → (u v w : Moving) → Goes starts u v → Goes starts v w → Goes starts u w
goes_on u v w a b = (a.0 + b.0, λ choose step takes m. ap (λ k. settle_by choose step k u) (omega arith) ∙ a.1 choose step takes (b.0 + m) ∙ b.1 choose step takes m)

pub goes_by : {starts : Moving → Moving} → (v w : Moving) (event : Event) → due v ≡ Some event → IsThere event v → followed starts event (stepped event v) ≡ w → Goes starts v w
goes_by v w event is there does = (
  1,
  λ choose step takes m. (let more : 1 + m ≡ suc m = omega arith in
      ap (λ k. settle_by choose step k v) more ∙ ap (λ o. for_some o (λ e. settle_by choose step m (step e v)) v) (takes.takes v event is) ∙ ap (settle_by choose step m) (takes.steps v event is there ∙ does)),
)

-- where nothing is due, it stays
pub settled_there : (v w : Moving) → Goes no_start v w → due w ≡ None → (n : ℕ) × ((m : ℕ) → settle_by due stepped (n + m) v ≡ w)
settled_there v w goes quiet = (goes.0, λ m. goes.1 due stepped takes_due m ∙ stays m)
  where
    stays : (m : ℕ) → settle_by due stepped m w ≡ w
    stays zero = refl
    stays (suc m) = ap (λ o. for_some o (λ e. settle_by due stepped m (stepped e w)) w) quiet
