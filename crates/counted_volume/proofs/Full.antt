-- When a journal is full; and that no other reason is told so.
use Rattle.std.proofs.Common.{◌≡◌, ◌≢◌, ◌⊎◌, inl, inr, ℕ, ◌+◌, ◌<◌, ◌≤◌, Bool, true, false, List, Option, Some, None, refl, sym, ◌∙◌, ap, subst}
use Rattle.std.specs.Prelude.{◌==◌, ◌||◌, nat_le, not, if◌then◌else◌}
use Rattle.std.specs.Option.{is_some}
use Rattle.std.proofs.lemmas.Bool.{le-ltb, lt-ltb}
use Rattle.sector.specs.declared.refusal.Refusal.{Refusal}
use Rattle.sector.specs.declared.refusal.Refusal.TheVariants.{BadChunk, Invalid, JournalFull, MergeInProgress, MergingSnapshot, NoMemory, NoSuchDevice, NotFinished, NotQuiet, OutOfRange, Overflow, Stale, TooMany}
use Rattle.device.specs.Layers.{Layer}
use Rattle.chunk.specs.Sizes.{is_chunk}
use Rattle.plain_machine.specs.Kept.{kept_range}
use Rattle.plain_machine.specs.declared.request.Dev.{Dev}
use Rattle.plain_machine.specs.declared.request.Dev.TheVariants.{Origin, Snap}
use Rattle.plain_machine.specs.declared.request.Request.{Request}
use Rattle.in_flight.specs.Kinds.{kind_of}
use Rattle.in_flight.specs.declared.flights.Kind.{Kind}
use Rattle.in_flight.specs.declared.flights.Kind.TheVariants.{OriginRead, OriginWrite, OriginFlush, SnapRead, SnapWrite, SnapFlush}
use Rattle.whole_commands.specs.Refusals.{is_starved}
use Rattle.whole_commands.proofs.Starved.{other_full}
use Rattle.store.specs.Opening.{IsRefused}
use Rattle.snapshot.specs.Kept.{Kept}
use Rattle.snapshot_list.specs.Finding.{place_of_snap}
use Rattle.merge.specs.Due.{is_finished_of}
use Rattle.merge.specs.Merging.{Merging}
use Rattle.volume.specs.Beginning.{IsNotBegun, begin_refusal, begin_with, beside_refusal, place_refusal}
use Rattle.volume.specs.Causes.{lives_of}
use Rattle.volume.specs.Finishing.{finish_refusal, finish_with}
use Rattle.volume.specs.Leaving.{detach_refusal, is_quiet_of, leaving_refusal}
use Rattle.volume.specs.Submitting.{IsRefusedAs, dev_refusal, first_of_two, is_merging, limit_refusal, range_refusal, refusal_at, shut_at, shut_refusal, starting, submit_refusal}
use Rattle.volume.specs.Taking.{IsNotTaken, attach_refusal, taking_refusal}
use Rattle.volume.specs.Volumed.{Volumed, piece_with}
use Rattle.counted_volume.specs.Places.{is_full_for}

pub is_full : (more taken : ℕ) → 65_536 < taken + more → is_full_for more taken ≡ true
is_full more taken over = lt-ltb 65_536 (taken + more) over

pub has_room : (more taken : ℕ) → taken + more ≤ 65_536 → is_full_for more taken ≡ false
has_room more taken within = le-ltb 65_536 (taken + more) within

-- a call that found it full leaves it so
pub still_full : (e : Refusal) (was now : ℕ) → (((is_full_for 1 was ≡ true) × (e ≡ JournalFull)) ⊎ ((is_full_for 1 was ≡ false) × (e ≢ JournalFull))) → now ≡ was → e ≡ JournalFull → is_full_for 1 now ≡ true
still_full e was now (inl full) same is = ap (is_full_for 1) same ∙ full.0
still_full e was now (inr other) same is = absurd (other.1 is)

-- whether a reason, if there is one, is that the program has no room
abbrev starves : Option Refusal → Bool
starves None = false
starves (Some e) = is_starved e

fed_other : (e : Refusal) (o : Option Refusal) → starves o ≡ false → o ≡ Some e → e ≢ JournalFull
fed_other e o fed is = other_full e (ap starves (sym is) ∙ fed)

memory_other : (e : Refusal) → e ≡ NoMemory → e ≢ JournalFull
memory_other e memory full = absurd (let differ : NoMemory ≡ JournalFull = sym memory ∙ full in cc)

invalid_other : (e : Refusal) → e ≡ Invalid → e ≢ JournalFull
invalid_other e invalid full = absurd (let differ : Invalid ≡ JournalFull = sym invalid ∙ full in cc)

overflow_other : (e : Refusal) → e ≡ Overflow → e ≢ JournalFull
overflow_other e overflow full = absurd (let differ : Overflow ≡ JournalFull = sym overflow ∙ full in cc)

-- choices
one : (b : Bool) (e : Refusal) (o : Option Refusal) → is_starved e ≡ false → starves o ≡ false → starves (if b then Some e else o) ≡ false
one true e o fed rest = fed
one false e o fed rest = rest

other : (b : Bool) (e : Refusal) (o : Option Refusal) → is_starved e ≡ false → starves o ≡ false → starves (if b then o else Some e) ≡ false
other true e o fed rest = rest
other false e o fed rest = fed

two : (a b : Option Refusal) → starves a ≡ false → starves b ≡ false → starves (first_of_two a b) ≡ false
two None b first second = second
two (Some e) b first second = first

taking_fed : (stale begun quiet : Bool) (count given chunk : ℕ) → starves (taking_refusal stale begun quiet count given chunk) ≡ false
taking_fed stale begun quiet count given chunk =
    let chunks : Option Refusal = if is_chunk chunk then None else Some BadChunk in
    let limits : Option Refusal = if nat_le 8 count || (given == 4_294_967_295) then Some TooMany else chunks in
    let rest : Option Refusal = if not quiet then Some NotQuiet else limits in
    one stale Stale (if begun then Some MergeInProgress else rest) refl
    (one begun MergeInProgress rest refl (one (not quiet) NotQuiet limits refl (one (nat_le 8 count || (given == 4_294_967_295)) TooMany chunks refl (other (is_chunk chunk) BadChunk None refl refl))))

module _ {B : Type 0} where
  at_fed : (snaps : List (Kept B)) (o : Option ℕ) → starves (refusal_at snaps o) ≡ false
  at_fed snaps None = refl
  at_fed snaps (Some k) = other _ Invalid None refl refl

  dev_fed : (dev : Dev) (merge : Option (Merging B)) (snaps : List (Kept B)) → starves (dev_refusal dev merge snaps) ≡ false
  dev_fed Origin merge snaps = refl
  dev_fed (Snap number) merge snaps = one (is_merging number merge) MergingSnapshot (refusal_at snaps (place_of_snap number snaps)) refl (at_fed snaps (place_of_snap number snaps))

  shut_fed : (kind : Kind) (snaps : List (Kept B)) → starves (shut_refusal kind snaps) ≡ false
  shut_fed OriginRead snaps = refl
  shut_fed OriginWrite snaps = refl
  shut_fed OriginFlush snaps = refl
  shut_fed (SnapRead number) snaps = refl
  shut_fed (SnapWrite number) snaps = at (place_of_snap number snaps)
    where
      at : (o : Option ℕ) → starves (shut_at snaps o) ≡ false
      at None = refl
      at (Some k) = one _ Overflow None refl refl
  shut_fed (SnapFlush number) snaps = refl

  submit_fed : (size : B → ℕ) (request : Request) (v : Volumed B) → starves (submit_refusal size request v) ≡ false
  submit_fed size request v =
      let limit : Option Refusal = limit_refusal (starting (kind_of request) request.range.first v.merge v.snaps) v in
      let range : Option Refusal = range_refusal (piece_with v.merge v.snaps) (size v.origin) (kept_range request.op request.range) in
      two (dev_refusal request.dev v.merge v.snaps) (first_of_two (shut_refusal (kind_of request) v.snaps) (first_of_two range limit)) (dev_fed request.dev v.merge v.snaps)
      (two (shut_refusal (kind_of request) v.snaps) (first_of_two range limit) (shut_fed (kind_of request) v.snaps)
      (two range limit (other _ OutOfRange None refl refl) (one _ TooMany None refl refl)))

  -- a request
  pub unsent_other : (contents : B → List ℕ) (layers : B → List Layer) (size : B → ℕ) (request : Request) (e : Refusal) (v w : Volumed B) → IsRefusedAs contents layers size request e v w → e ≢ JournalFull
  unsent_other contents layers size request e v w (inl is) = fed_other e (submit_refusal size request v) (submit_fed size request v) is.0
  unsent_other contents layers size request e v w (inr (inl is)) = memory_other e is.1
  unsent_other contents layers size request e v w (inr (inr (inl is))) = invalid_other e is.1
  unsent_other contents layers size request e v w (inr (inr (inr is))) = overflow_other e is.1

  -- a snapshot that is not taken
  pub untaken_other : (stale : Bool) (chunk origin size : ℕ) (bytes : List ℕ) (v : Volumed B) (e : Refusal) → IsNotTaken stale chunk origin size bytes v e → e ≢ JournalFull
  untaken_other stale chunk origin size bytes v e (inl is) = fed_other e (attach_refusal stale chunk v) (taking_fed stale (is_some v.merge) (is_quiet_of v) _ v.attached chunk) is
  untaken_other stale chunk origin size bytes v e (inr is) = elim is.1 [
    | inl memory ↦ memory_other e memory
    | inr why ↦ (λ full. subst (λ (x : Refusal). IsRefused chunk origin size bytes x) full why)
  ]

  -- one that does not leave
  pub unleft_other : (number : ℕ) (v : Volumed B) (e : Refusal) → detach_refusal number v ≡ Some e → e ≢ JournalFull
  unleft_other number v e is = fed_other e (detach_refusal number v) (one (is_merging number v.merge) MergeInProgress _ refl (leaving (place_of_snap number v.snaps))) is
    where
      leaving : (o : Option ℕ) → starves (leaving_refusal o (is_quiet_of v)) ≡ false
      leaving None = refl
      leaving (Some k) = other (is_quiet_of v) NotQuiet None refl refl

  begin_fed : (merge : Option (Merging B)) (number : ℕ) (v : Volumed B) → starves (begin_with merge number v) ≡ false
  begin_fed None number v = at (place_of_snap number v.snaps)
    where
      at : (o : Option ℕ) → starves (place_refusal (lives_of v) (is_quiet_of v) o) ≡ false
      at None = refl
      at (Some k) = other _ Invalid _ refl (other (is_quiet_of v) NotQuiet None refl refl)
  begin_fed (Some m) number v = beside (place_of_snap number v.snaps)
    where
      mine : (b : Bool) → is_starved (if b then MergeInProgress else NoSuchDevice) ≡ false
      mine true = refl
      mine false = refl

      beside : (o : Option ℕ) → is_starved (beside_refusal (m.number == number) o) ≡ false
      beside None = mine (m.number == number)
      beside (Some k) = refl

  -- a merge that does not begin
  pub unbegun_other : (number : ℕ) (e : Refusal) (v w : Volumed B) → IsNotBegun number e v w → e ≢ JournalFull
  unbegun_other number e v w (inl is) = fed_other e (begin_refusal number v) (begin_fed v.merge number v) is.0
  unbegun_other number e v w (inr is) = memory_other e is.1

  -- one that is not taken out
  pub unfinished_other : (v : Volumed B) (e : Refusal) → finish_refusal v ≡ Some e → e ≢ JournalFull
  unfinished_other v e is = fed_other e (finish_refusal v) (by v.merge) is
    where
      by : (m : Option (Merging B)) → starves (finish_with m (is_quiet_of v)) ≡ false
      by None = refl
      by (Some m) = other (is_finished_of m) NotFinished _ refl (other (is_quiet_of v) NotQuiet None refl refl)
