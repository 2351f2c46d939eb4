-- A snapshot is taken.
use Rattle.std.proofs.Common.{◌≡◌, ◌≢◌, inl, inr, ℕ, Bool, true, false, List, [], ◌∷◌, ◌++◌, length, map, Option, Some, None, refl, sym, ◌∙◌, ap}
use Rattle.std.specs.Prelude.{◌==◌, ◌&&◌, ◌||◌, ◌⊎◌, not, nat_le, is_some, if◌then◌else◌}
use Rattle.std.specs.List.{list_all}
use Rattle.std.proofs.lemmas.Bool.{cases_Bool, cond-true, cond-false, true≢false}
use Rattle.sector.specs.declared.refusal.Refusal.{Refusal}
use Rattle.sector.specs.declared.refusal.Refusal.TheVariants.{BadChunk, Io, MergeInProgress, Stale, TooMany}
use Rattle.whole_commands.specs.Refusals.{is_starved}
use Rattle.chunk.specs.Sizes.{is_chunk}
use Rattle.device.specs.Layers.{Layer, is_loud}
use Rattle.plain_machine.specs.Plain.{overflow_of}
use Rattle.whole_commands.specs.Snaps.{Volume}
use Rattle.whole_commands.specs.Attaching.{attached, refused_attach}
use Rattle.snapshot.specs.declared.opening.StoreDev.{StoreDev}
use Rattle.merge.specs.Merging.{Merging}
use Rattle.volume.specs.Volumed.{Volumed, is_loud_in_all}
use Rattle.volume.specs.Leaving.{has_group_in, is_done_of, is_quiet_of}
use Rattle.volume.specs.Taking.{taking_refusal, attach_refusal, IsNotTaken}
use Rattle.volume_commands.specs.Rested.{attached_of, rested_of, settled_of, IsSettled}
use Rattle.volume_commands.specs.Taking.{IsRefusedAt, IsTakenAs}
use Rattle.volume.specs.Attached.{store_of, volume_in, IsGained, IsRefusedOver, IsAttachedAs}
use Rattle.volume_commands.proofs.Seen.{settled_same, loud_same}

all_one_more : {X : Type 0} (test : X → Bool) (xs : List X) (x : X) → list_all test (xs ++ x ∷ []) ≡ (list_all test xs && test x)
all_one_more test [] x = both (test x)
  where
    both : (b : Bool) → (b && true) ≡ (true && b)
    both true = refl
    both false = refl
all_one_more test (y ∷ ys) x = ap (λ b. test y && b) (all_one_more test ys x) ∙ assoc (test y) (list_all test ys) (test x)
  where
    assoc : (a b c : Bool) → (a && (b && c)) ≡ ((a && b) && c)
    assoc true b c = refl
    assoc false b c = refl

map_one_more : {X Y : Type 0} (f : X → Y) (xs : List X) (x : X) → map f (xs ++ x ∷ []) ≡ map f xs ++ f x ∷ []
map_one_more f [] x = refl
map_one_more f (y ∷ ys) x = ap (λ (zs : List _). f y ∷ zs) (map_one_more f ys x)

and_first : (a b : Bool) → (a && b) ≡ true → a ≡ true
and_first true b e = refl
and_first false b e = e

and_second : (a b : Bool) → (a && b) ≡ true → b ≡ true
and_second true b e = e
and_second false b e = absurd (cc)

-- quiet before
quiet_before : (stale begun quiet : Bool) (count attached chunk : ℕ) → taking_refusal stale begun quiet count attached chunk ≡ None → quiet ≡ true
quiet_before true begun quiet count attached chunk e = absurd (cc)
quiet_before false true quiet count attached chunk e = absurd (cc)
quiet_before false false false count attached chunk e = absurd (cc)
quiet_before false false true count attached chunk e = refl

-- nor a merge begun
not_begun : (stale begun quiet : Bool) (count attached chunk : ℕ) → taking_refusal stale begun quiet count attached chunk ≡ None → begun ≡ false
not_begun true begun quiet count attached chunk e = absurd (cc)
not_begun false true quiet count attached chunk e = absurd (cc)
not_begun false false quiet count attached chunk e = refl

-- none of the reasons that come before the store is looked at is a failed operation
last_io : (many fits : Bool) → (if many then Some TooMany else (if fits then None else Some BadChunk)) ≡ Some Io → ⊥
last_io true fits e = absurd (cc)
last_io false true e = absurd (cc)
last_io false false e = absurd (cc)

never_io : (stale begun quiet : Bool) (count attached chunk : ℕ) → taking_refusal stale begun quiet count attached chunk ≡ Some Io → ⊥
never_io true begun quiet count attached chunk e = absurd (cc)
never_io false true quiet count attached chunk e = absurd (cc)
never_io false false false count attached chunk e = absurd (cc)
never_io false false true count attached chunk e = last_io (nat_le 8 count || (attached == 4_294_967_295)) (is_chunk chunk) e

none_begun_in : {B : Type 0} (o : Option (Merging B)) → is_some o ≡ false → o ≡ None
none_begun_in None e = refl
none_begun_in (Some m) e = absurd (cc)

module _ {B : Type 0} (contents : B → List ℕ) (layers : B → List Layer) (size : B → ℕ) (number chunk : ℕ) (overflow : Bool) (store : StoreDev B) (old new : Volumed B) (gained : IsGained contents layers size number overflow store old new) where
  done_snap : is_done_of gained.snap ≡ true
  done_snap = rw (gained.copies, gained.marks, gained.untried) refl

  -- the volume was quiet, and is
  pub taken_quiet : attach_refusal store.stale chunk old ≡ None → (is_quiet_of old ≡ true) × (is_quiet_of new ≡ true)
  taken_quiet admitted =
      let was = quiet_before store.stale (is_some old.merge) (is_quiet_of old) (length old.snaps) old.attached chunk admitted in
      let done : list_all is_done_of (old.snaps ++ gained.snap ∷ []) ≡ list_all is_done_of old.snaps =
      all_one_more is_done_of old.snaps gained.snap ∙ ap (λ b. list_all is_done_of old.snaps && b) done_snap ∙ and_true (list_all is_done_of old.snaps) in
      (was, ap (λ (v : Volumed B). is_quiet_of v) gained.becomes ∙ ap (λ b. (length old.flights == 0) && (not (has_group_in old.merge) && b)) done ∙ was)
    where
      and_true : (a : Bool) → (a && true) ≡ a
      and_true true = refl
      and_true false = refl

  -- no merge was begun, nor is
  pub taken_alone : attach_refusal store.stale chunk old ≡ None → (old.merge ≡ None) × (new.merge ≡ None)
  taken_alone admitted =
      let was = none_begun_in old.merge (not_begun store.stale (is_some old.merge) (is_quiet_of old) (length old.snaps) old.attached chunk admitted) in
      (was, ap (λ (v : Volumed B). v.merge) gained.becomes ∙ was)

  pub taken_as : IsTakenAs contents layers size number overflow store (rested_of old) (rested_of new)
  taken_as = record {
    snap = attached_of gained.snap;
    origin = gained.origin;
    snaps = ap (λ (v : Volumed B). map attached_of v.snaps) gained.becomes ∙ map_one_more attached_of old.snaps gained.snap;
    requests = ap (λ (v : Volumed B). v.requests) gained.becomes;
    copies = ap (λ (v : Volumed B). v.copies) gained.becomes;
    attached = ap (λ (v : Volumed B). v.attached) gained.becomes;
    number_is = gained.number_is;
    live = gained.live;
    stale = gained.stale;
    overflow = gained.overflow_is;
    sizes = gained.sizes;
    loud = gained.loud;
  }

  -- a settled volume and a store that drops no writes make a settled volume
  pub taken_settles : attach_refusal store.stale chunk old ≡ None → is_loud_in_all layers new ≡ (is_loud_in_all layers old && is_loud (layers store.device)) → IsSettled layers (rested_of old) → is_loud (layers store.device) ≡ true → IsSettled layers (rested_of new)
  taken_settles admitted both settled given = record {
    loud = loud_same contents layers new ∙ both ∙ ap (λ b. b && is_loud (layers store.device)) (sym (loud_same contents layers old) ∙ settled.loud) ∙ given;
    quiet = (taken_quiet admitted).1;
  }

module _ {B : Type 0} (contents : B → List ℕ) (layers : B → List Layer) (number chunk : ℕ) (overflow : Bool) where
  -- in the words of what callers see
  pub attached_seen : (store : StoreDev B) (old new : Volumed B) → IsAttachedAs contents layers number chunk overflow store old new
      → attached number chunk (overflow_of overflow) (store_of contents layers store) (settled_of contents layers (rested_of old)) ≡ record { volume = settled_of contents layers (rested_of new); refused = None; back = None }
  attached_seen store old new a =
      ap (attached number chunk (overflow_of overflow) (store_of contents layers store)) (settled_same contents layers None old) ∙ a.exact
      ∙ ap (λ (v : Volume). record { volume = v; refused = None; back = None }) (sym (settled_same contents layers None new))

  pub refused_seen : (refusal : Refusal) (store back : StoreDev B) (old new : Volumed B) → attached number chunk (overflow_of overflow) (store_of contents layers store) (volume_in contents layers old) ≡ refused_attach refusal (store_of contents layers back) (volume_in contents layers new)
      → attached number chunk (overflow_of overflow) (store_of contents layers store) (settled_of contents layers (rested_of old)) ≡ refused_attach refusal (store_of contents layers back) (settled_of contents layers (rested_of new))
  refused_seen refusal store back old new e =
      ap (attached number chunk (overflow_of overflow) (store_of contents layers store)) (settled_same contents layers None old) ∙ e ∙ ap (refused_attach refusal (store_of contents layers back)) (sym (settled_same contents layers None new))

  -- where a merge is begun only a stale store is refused for its own sake
  module _ (store back : StoreDev B) (old : Volumed B) (m : Merging B) (begun : old.merge ≡ Some m) (refusal : Refusal) (unread : attach_refusal store.stale chunk old ≡ Some refusal → back ≡ store) where
    began : attach_refusal store.stale chunk old ≡ (if store.stale then Some Stale else Some MergeInProgress)
    began = ap (λ o. taking_refusal store.stale (is_some o) (is_quiet_of old) (length old.snaps) old.attached chunk) begun

    pub refused_begun : (first : attach_refusal store.stale chunk old ≡ Some refusal) → refusal ≢ MergeInProgress → (v : Volume) → attached number chunk (overflow_of overflow) (store_of contents layers store) v ≡ refused_attach refusal (store_of contents layers back) v
    unfolding attached
    refused_begun first other v = elim (cases_Bool store.stale) [
      | inl stale ↦ (let why : Some Stale ≡ Some refusal = sym (cond-true _ _ _ stale) ∙ sym began ∙ first in
          let same : Stale ≡ refusal = cc in
          cond-true _ _ _ stale
          ∙ ap (λ r. refused_attach r (store_of contents layers store) v) same
          ∙ ap (λ (s : StoreDev B). refused_attach refusal (store_of contents layers s) v) (sym (unread first)))
      | inr fresh ↦ absurd (let why : Some MergeInProgress ≡ Some refusal = sym (cond-false _ _ _ fresh) ∙ sym began ∙ first in let same : refusal ≡ MergeInProgress = cc in other same)
    ]

    never_admitted : attach_refusal store.stale chunk old ≡ None → ⊥
    never_admitted none = not_begun_at store.stale (sym began ∙ none)
      where
        not_begun_at : (stale : Bool) → (if stale then Some Stale else Some MergeInProgress) ≡ None → ⊥
        not_begun_at true e = absurd (cc)
        not_begun_at false e = absurd (cc)

    pub begun_back : (origin size : ℕ) (bytes : List ℕ) → IsNotTaken store.stale chunk origin size bytes old refusal → refusal ≢ MergeInProgress → (v : Volume)
        → attached number chunk (overflow_of overflow) (store_of contents layers store) v ≡ refused_attach refusal (store_of contents layers back) v
    begun_back origin size bytes (inl first) other v = refused_begun first other v
    begun_back origin size bytes (inr later) other v = absurd (never_admitted later.0)

    -- and for no operation that failed
    pub begun_answers : (origin size : ℕ) (bytes : List ℕ) → IsNotTaken store.stale chunk origin size bytes old refusal → refusal ≢ Io
    begun_answers origin size bytes (inl first) io = never_io store.stale (is_some old.merge) (is_quiet_of old) (length old.snaps) old.attached chunk (first ∙ ap (λ (r : Refusal). let x : Option Refusal = Some r in x) io)
    begun_answers origin size bytes (inr later) io = never_admitted later.0

  -- whether one is begun or not
  pub back_seen : (store back : StoreDev B) (old new : Volumed B) (refusal : Refusal) (kept : refusal ≢ Io → new ≡ old) (origin size : ℕ) (bytes : List ℕ) → IsNotTaken store.stale chunk origin size bytes old refusal → (attach_refusal store.stale chunk old ≡ Some refusal → back ≡ store)
      → (old.merge ≡ None → attached number chunk (overflow_of overflow) (store_of contents layers store) (volume_in contents layers old) ≡ refused_attach refusal (store_of contents layers back) (volume_in contents layers new)) → refusal ≢ MergeInProgress
      → attached number chunk (overflow_of overflow) (store_of contents layers store) (settled_of contents layers (rested_of old)) ≡ refused_attach refusal (store_of contents layers back) (settled_of contents layers (rested_of new))
  back_seen store back old new refusal kept origin size bytes refused unread alone other = seen_of old.merge refl
    where
      seen_of : (o : Option (Merging B)) → old.merge ≡ o → attached number chunk (overflow_of overflow) (store_of contents layers store) (settled_of contents layers (rested_of old)) ≡ refused_attach refusal (store_of contents layers back) (settled_of contents layers (rested_of new))
      seen_of None none = refused_seen refusal store back old new (alone none)
      seen_of (Some m) begun =
          begun_back store back old m begun refusal unread origin size bytes refused other (settled_of contents layers (rested_of old))
          ∙ ap (λ (v : Volumed B). refused_attach refusal (store_of contents layers back) (settled_of contents layers (rested_of v))) (sym (kept (begun_answers store back old m begun refusal unread origin size bytes refused)))

-- what is left of a volume that refused a store
pub refused_at : {B : Type 0} (contents : B → List ℕ) (layers : B → List Layer) (size : B → ℕ) (refusal : Refusal) (old new : Volumed B) → IsRefusedOver contents layers size refusal old new → IsRefusedAt contents layers size refusal (rested_of old) (rested_of new)
refused_at contents layers size refusal old new is = record {
  becomes = ap rested_of is.becomes;
  origin = is.origin;
  kept = λ answered. ap rested_of (is.kept answered);
}

-- a store that is refused for another reason than want of room
pub untaken : {A C : Type 0} (refusal : Refusal) → is_starved refusal ≡ false → ((is_starved refusal ≡ true) × A) ⊎ C → C
untaken refusal fed (inl starved) = absurd (true≢false (sym starved.0 ∙ fed))
untaken refusal fed (inr other) = other
