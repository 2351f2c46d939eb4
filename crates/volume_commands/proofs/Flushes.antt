-- A flush of a settled volume is answered by what its device shows, and changes nothing that is shown, whether a merge is begun or not.
use Rattle.std.proofs.Common.{◌≡◌, inl, inr, ℕ, ◌/◌, ◌<◌, true, List, [], ◌∷◌, map, Option, Some, None, arith, refl, ap, ◌∙◌, sym, subst}
use Rattle.std.specs.Prelude.{◌==◌, IfErr, Ok, Err, Result}
use Rattle.std.specs.List.{All}
use Rattle.std.proofs.lemmas.Bool.{cases_Bool, cond-true, cond-false}
use Rattle.sector.specs.declared.refusal.Refusal.{Refusal}
use Rattle.device.specs.Layers.{Layer}
use Rattle.device.specs.declared.operation.Operation.TheVariants.{Flushes}
use Rattle.chunk.specs.Sizes.{is_chunk}
use Rattle.chunk.specs.Pieces.{Span}
use Rattle.cow_format.specs.Picture.{picture}
use Rattle.plain_machine.specs.Failures.{refusal_of}
use Rattle.plain_machine.specs.Plain.{Saved, Live, Invalid, Entry, Shown}
use Rattle.plain_machine.specs.declared.request.Dev.{Dev}
use Rattle.plain_machine.specs.declared.request.Dev.TheVariants.{Origin, Snap as ToSnap}
use Rattle.plain_machine.specs.declared.request.Failure.{Failure}
use Rattle.plain_machine.specs.declared.request.Failure.TheVariants.{Invalid as Declined, Io, Overflow}
use Rattle.plain_machine.specs.declared.request.Op.TheVariants.{Flush}
use Rattle.plain_machine.specs.declared.request.Reply.{Reply}
use Rattle.plain_machine.specs.declared.request.Reply.TheVariants.{Data, Written, Flushed, Refused}
use Rattle.plain_machine.specs.declared.request.Replied.{Replied as Ended}
use Rattle.plain_machine.specs.declared.request.Request.{Request}
use Rattle.whole_commands.specs.Devices.{Device, answers, flush_reply}
use Rattle.whole_commands.specs.Snaps.{Snap, Volume}
use Rattle.whole_commands.specs.Pieces.{Answered, flush_snap, in_snap}
use Rattle.whole_commands.specs.Commands.{flushed}
use Rattle.whole_commands.specs.Merges.{Merge, Merged, Merging, merged_of as in_one, flush_through, flushed_through}
use Rattle.whole_commands.specs.Requests.{FitsRange, answered_by}
use Rattle.event_machine.specs.MergeSettles.{part_of}
use Rattle.whole_commands.specs.Beside.{served, served_by, flushed_beside}
use Rattle.volume.specs.Volumed.{Volumed, piece_with}
use Rattle.volume_commands.specs.Rested.{Rested, rested_of, merged_of, IsSettled, has_dev}
use Rattle.volume_commands.specs.Commands.{IsDoneBy, IsFlushRefused}
use Rattle.volume_commands.specs.Serving.{CanServe, IsAsLarge, IsGood, part_done}
use Rattle.volume_commands.specs.Among.{IsFlushRefusedAmong, IsPieceFailed, IsRequestOf, flush_piece}
use Rattle.volume_commands.specs.Showing.{entry_of, arrays_of, arrays_in, saved_at, saved_of, IsPlainFlush, IsReadLost, IsPlainReadRefused}
use Rattle.volume_commands.proofs.Shown.{arrays_by, arrays_with, seen}
use Rattle.volume_commands.proofs.BesideReads.{with_merge}
use Rattle.volume_commands.proofs.WriteRuns.{answer}
use Rattle.volume_commands.proofs.ShownReads.{IsSame, either_same, IsKeptBy, either_kept, arrays_same}
use Rattle.volume_commands.proofs.PlainReads.{missing_by, read_starved}
use Rattle.whole_commands.specs.Saving.{Saving}

-- what a flush is answered, by what its device shows
abbrev pub IsFlushBy : Saved → Reply → Type 0
IsFlushBy saved (Data bytes) = ⊥
IsFlushBy saved Written = ⊥
IsFlushBy saved Flushed = (array : List ℕ) × (saved ≡ Live array)
IsFlushBy saved (Refused Declined) = saved ≡ Invalid
IsFlushBy saved (Refused Io) = (array : List ℕ) × (saved ≡ Live array)
IsFlushBy saved (Refused Overflow) = ⊥

device_flush : (device : Device) (saved : Saved) (array : List ℕ) → saved ≡ Live array → IsFlushBy saved (flush_reply device)
device_flush device saved array live = elim (cases_Bool (answers device Flushes)) [
  | inl ok ↦ subst (IsFlushBy saved) (sym (cond-true _ _ _ ok)) (array, live)
  | inr failed ↦ subst (IsFlushBy saved) (sym (cond-false _ _ _ failed)) (array, live)
]

-- of the first snapshot with a number
at_flush : (number : ℕ) (b : List ℕ) (origin : Device) (snaps : List Snap) → IsFlushBy (saved_at number (map (entry_of b) snaps)) (in_snap number flush_snap origin snaps).reply
at_flush number b origin [] = refl
at_flush number b origin (s ∷ snaps) =
    let here : Saved = saved_at number (map (entry_of b) (s ∷ snaps)) in
    elim (cases_Bool (s.number == number)) [
      | inl this ↦ subst (λ (a : Answered Volume). IsFlushBy here a.reply) (sym (cond-true _ _ _ this)) (elim (cases_Bool s.live) [
        | inl live ↦ subst (λ (a : Answered Saving). IsFlushBy here a.reply) (sym (cond-true _ _ _ live)) (device_flush s.store here (picture s.chunk b s.store.bytes) (cond-true _ _ _ this ∙ cond-true _ _ _ live))
        | inr dead ↦ subst (λ (a : Answered Saving). IsFlushBy here a.reply) (sym (cond-false _ _ _ dead)) (cond-true _ _ _ this ∙ cond-false _ _ _ dead)
      ])
      | inr other ↦ subst (λ (a : Answered Volume). IsFlushBy here a.reply) (sym (cond-false _ _ _ other))
          (subst (λ (x : Saved). IsFlushBy x (in_snap number flush_snap origin snaps).reply) (sym (cond-false _ _ _ other)) (at_flush number b origin snaps))
    ]

-- the origin beside a merge: the merging store comes first
through_flush : (m : Merging) (saved : Saved) (array : List ℕ) → saved ≡ Live array → IsFlushBy saved (flush_through m).reply
through_flush m saved array live = elim (cases_Bool (answers m.merge.store Flushes)) [
  | inl ok ↦ subst (λ (r : Answered Merging). IsFlushBy saved r.reply) (sym (cond-true _ _ _ ok)) (device_flush m.volume.origin saved array live)
  | inr failed ↦ subst (λ (r : Answered Merging). IsFlushBy saved r.reply) (sym (cond-false _ _ _ failed)) (array, live)
]

said_by : (dev : Dev) (o : Option Merge) (v : Volume) → (let m : Merged = record { volume = v; merge = o } in IsFlushBy (saved_of dev (arrays_with m)) (served_by (flushed dev) (flushed_through dev) o v).reply)
said_by Origin None v = device_flush v.origin _ v.origin.bytes refl
said_by Origin (Some g) v = through_flush (record { volume = v; merge = g }) _ _ refl
said_by (ToSnap number) None v = at_flush number v.origin.bytes v.origin v.snaps
said_by (ToSnap number) (Some g) v = at_flush number v.origin.bytes v.origin v.snaps

flush_said : (dev : Dev) (m : Merged) → IsFlushBy (saved_of dev (arrays_with m)) (flushed_beside dev m).reply
unfolding flushed_beside
flush_said dev m = said_by dev m.merge m.volume

-- what is shown stays
snap_same : (o : Device) (s : Snap) → IsSame o s (flush_snap o s)
snap_same o s = either_same s.live o s _ _ (record { origin = refl; snap = λ b. refl }) (record { origin = refl; snap = λ b. refl })

in_same : (number : ℕ) (o : Device) (snaps : List Snap) → IsKeptBy o.bytes snaps (in_snap number flush_snap o snaps)
in_same number o [] = (refl, λ c. refl)
in_same number o (s ∷ snaps) =
    let here = snap_same o s in
    let later = in_same number o snaps in
    either_kept (s.number == number) o.bytes (s ∷ snaps) _ _
    (here.origin, λ c. ap (λ (e : Entry). e ∷ map (entry_of c) snaps) (here.snap c))
    (later.0, λ c. ap (λ (es : List Entry). entry_of c s ∷ es) (later.1 c))

alone_shown : (dev : Dev) (v : Volume) → arrays_of (flushed dev v).state ≡ arrays_of v
alone_shown Origin v = refl
alone_shown (ToSnap number) v = arrays_same v (in_snap number flush_snap v.origin v.snaps) (in_same number v.origin v.snaps)

through_shown : (m : Merging) → arrays_with (in_one (flush_through m).state) ≡ arrays_with (in_one m)
through_shown m = elim (cases_Bool (answers m.merge.store Flushes)) [
  | inl ok ↦ ap (λ (r : Answered Merging). arrays_with (in_one r.state)) (cond-true _ _ _ ok)
  | inr failed ↦ ap (λ (r : Answered Merging). arrays_with (in_one r.state)) (cond-false _ _ _ failed)
]

shown_by : (dev : Dev) (o : Option Merge) (v : Volume) → (let m : Merged = record { volume = v; merge = o } in arrays_with (served_by (flushed dev) (flushed_through dev) o v).state ≡ arrays_with m)
shown_by dev None v = alone_shown dev v
shown_by Origin (Some g) v = through_shown (record { volume = v; merge = g })
shown_by (ToSnap number) (Some g) v = ap (with_merge (Some g)) (alone_shown (ToSnap number) v)

flush_shown : (dev : Dev) (m : Merged) → arrays_with (flushed_beside dev m).state ≡ arrays_with m
unfolding flushed_beside
flush_shown dev m = shown_by dev m.merge m.volume

-- the request of a flush
pub flush_part : (dev : Dev) (request : Request) (m : Merged) → IsRequestOf dev Flush flush_piece request → part_done request m ≡ flushed_beside dev m
unfolding flushed_beside
flush_part dev request m is = λ i. served (λ (v : Volume). answered_by (is.dev_is i) (is.op_is i) (is.range_is i) v) (λ (n : Merging). part_of (is.dev_is i) (is.op_is i) (is.range_is i) n) m

pub flush_can : {B : Type 0} (size : B → ℕ) (dev : Dev) (request : Request) (v : Volumed B) → IsRequestOf dev Flush flush_piece request → has_dev dev (rested_of v) ≡ true → 0 < size v.origin → v.requests < 9_223_372_036_854_775_808
    → is_chunk (piece_with v.merge v.snaps) ≡ true → All (IsAsLarge (piece_with v.merge v.snaps)) v.snaps → CanServe size request.dev request.op request.range v
flush_can size dev request v is there some requests allowed chunks =
    let first : request.range.first ≡ 0 = ap (λ (p : Span). p.first) is.range_is in
    let count : request.range.count ≡ 1 = ap (λ (p : Span). p.count) is.range_is in record {
      there = subst (λ (d : Dev). has_dev d (rested_of v) ≡ true) (sym is.dev_is) there;
      some = omega (arith, count);
      inside = omega (arith, first, count, some);
      one = ap (λ (n : ℕ). n / piece_with v.merge v.snaps) (omega (arith, count));
      bytes = subst (λ op. FitsRange op request.range.count) (sym is.op_is) tt;
      allowed = allowed;
      chunks = chunks;
      requests = requests;
    }

-- one that is done and not refused is answered so
good_flushed : (saved : Saved) (reply : Reply) → IsGood reply → IsFlushBy saved reply → reply ≡ Flushed
good_flushed saved (Data bytes) good is = absurd is
good_flushed saved Written good is = absurd is
good_flushed saved Flushed good is = refl
good_flushed saved (Refused failure) good is = absurd good

module _ {B : Type 0} (contents : B → List ℕ) (layers : B → List Layer) (dev : Dev) (v w : Volumed B) where
  abbrev old : Merged
  old = merged_of contents layers (rested_of v)

  -- in the words of a command
  pub flush_did : (request : Request) (reply : Reply) → IsRequestOf dev Flush flush_piece request → IsDoneBy contents layers (part_done request) reply (rested_of v) (rested_of w) → IsDoneBy contents layers (flushed_beside dev) reply (rested_of v) (rested_of w)
  flush_did request reply is done = λ settled. sym (flush_part dev request old is) ∙ done settled

  pub flush_good : (reply : Reply) → IsGood reply → IsDoneBy contents layers (flushed_beside dev) reply (rested_of v) (rested_of w) → IsDoneBy contents layers (flushed_beside dev) Flushed (rested_of v) (rested_of w)
  flush_good reply good done = λ settled.
      let said : IsFlushBy (saved_of dev (arrays_with old)) reply = subst (λ (a : Answered Merged). IsFlushBy (saved_of dev (arrays_with old)) a.reply) (done settled) (flush_said dev old) in
      done settled ∙ ap (answer (merged_of contents layers (rested_of w))) (good_flushed (saved_of dev (arrays_with old)) reply good said)

  -- and in those of arrays
  done_flush : (reply : Reply) → IsDoneBy contents layers (flushed_beside dev) reply (rested_of v) (rested_of w) → IsSettled layers (rested_of v)
      → IsFlushBy (saved_of dev (arrays_by contents layers (rested_of v))) reply × (arrays_by contents layers (rested_of w) ≡ arrays_by contents layers (rested_of v))
  done_flush reply done settled = (
    subst (λ (a : Answered Merged). IsFlushBy (saved_of dev (arrays_with old)) a.reply) (done settled) (flush_said dev old),
    ap (λ (a : Answered Merged). arrays_with a.state) (sym (done settled)) ∙ flush_shown dev old,
  )

  lost_by : (failure : Failure) (a : Shown) → IsFlushBy (saved_of dev a) (Refused failure) → IsReadLost dev (refusal_of failure) a
  lost_by Declined a is = is
  lost_by Io a is = is
  lost_by Overflow a is = absurd is

  refused_by : (refusal : Refusal) → IsFlushRefused contents layers dev refusal (rested_of v) (rested_of w) → IsSettled layers (rested_of v)
      → IsPlainReadRefused dev refusal (arrays_by contents layers (rested_of v)) (arrays_by contents layers (rested_of w))
  refused_by refusal why settled =
      let before : Shown = arrays_by contents layers (rested_of v) in
      let after : Shown = arrays_by contents layers (rested_of w) in
      elim why [
        | inl missing ↦ subst (λ (r : Refusal). IsPlainReadRefused dev r before after) (sym missing.0) (missing_by contents layers dev (rested_of v) missing.1, ap (arrays_by contents layers) missing.2)
        | inr there ↦ elim there [
          | inl failed ↦ (
              let did = done_flush (Refused failed.1.0) failed.1.2 settled in
              subst (λ (r : Refusal). IsPlainReadRefused dev r before after) (sym failed.1.1) (lost_by failed.1.0 before did.0, did.1))
          | inr starved ↦ (read_starved dev refusal before starved.1, ap arrays_with starved.2)
        ]
      ]

  pub plain_flush : IsDoneBy contents layers (flushed_beside dev) Flushed (rested_of v) (rested_of w) → IsSettled layers (rested_of v)
      → IsPlainFlush dev (arrays_in contents layers (rested_of v)) (arrays_in contents layers (rested_of w))
  plain_flush done settled = seen contents layers (IsPlainFlush dev) (rested_of v) (rested_of w) (done_flush Flushed done settled)

  pub plain_flush_refused : (refusal : Refusal) → IsFlushRefused contents layers dev refusal (rested_of v) (rested_of w) → IsSettled layers (rested_of v)
      → IsPlainReadRefused dev refusal (arrays_in contents layers (rested_of v)) (arrays_in contents layers (rested_of w))
  plain_flush_refused refusal why settled = seen contents layers (IsPlainReadRefused dev refusal) (rested_of v) (rested_of w) (refused_by refusal why settled)

-- one that fails among requests in flight
pub flush_refused_among : {A B : Type 0} (holds : B → ℕ → List ℕ → Type 0) (contents : B → List ℕ) (layers : B → List Layer) (faults size : B → ℕ) (dev : Dev) (r : Result A Refusal) (old new : Rested B) (before after : List Ended) → has_dev dev old ≡ true
    → IfErr r (λ refusal. IsPieceFailed holds contents layers faults size dev Flush flush_piece refusal old.events new.events before after) → IfErr r (λ refusal. IsFlushRefusedAmong holds contents layers faults size dev refusal old new before after)
flush_refused_among holds contents layers faults size dev (Ok x) old new before after there failed = tt
flush_refused_among holds contents layers faults size dev (Err e) old new before after there failed = inr (there, failed)
