-- What a call did to the volume of events, as the volume with names shows it.
use Rattle.std.proofs.Common.{◌≡◌, ◌⊎◌, ◌≤◌, ℕ, true, List, map, refl, sym, ap, ◌∙◌, inl, inr, subst}
use Rattle.std.specs.Prelude.{Result, Ok, Err, IfOk, IfErr, OnOk, is_ok}
use Rattle.sector.specs.declared.range.Range.{Range}
use Rattle.sector.specs.declared.refusal.Refusal.{Refusal}
use Rattle.chunk.specs.Pieces.{span_of}
use Rattle.layers.specs.declared.stack.Stack.{Stack}
use Rattle.layers.specs.Stack.{stack_contents, stack_layers, stack_size, stack_faults, stack_done, stack_may_hold}
use Rattle.plain_machine.specs.declared.event.Event.{Event}
use Rattle.plain_machine.specs.declared.event.Outcome.{Outcome}
use Rattle.plain_machine.specs.declared.event.NotDue.{NotDue}
use Rattle.plain_machine.specs.Legal.{IsLegalStep}
use Rattle.whole_commands.specs.Refusals.{IsStarved}
use Rattle.volume.specs.Volumed.{is_due_of, is_loud_in_all, plain_of}
use Rattle.volume.specs.Causes.{HasCause, IsOneAtMost}
use Rattle.volume.specs.Closing.{ClosesBy}
use Rattle.volume.specs.Stopping.{StopsVolume, given_by}
use Rattle.in_flight.specs.Kinds.{in_flight}
use Rattle.volume.specs.Exact.{IsExact}
use Rattle.plain_machine.specs.declared.request.Dev.{Dev}
use Rattle.plain_machine.specs.declared.request.Op.{Op}
use Rattle.volume.specs.Leaving.{is_quiet_of}
use Rattle.volume.specs.Submitting.{IsAcceptedAs, IsRefusedAs}
use Rattle.plain_machine.specs.declared.request.Replied.{Replied}
use Rattle.volume_commands.specs.Rested.{Rested, rested_of}
use Rattle.volume_commands.specs.Flying.{IsWhole}
use Rattle.volume_commands.specs.AtRest.{AreReadAtRest, AreWrittenAtRest, IsFlushDone, IsFlushUndone, IsReadUndone, IsWriteCut}
use Rattle.volume_commands.specs.Among.{AreReadAmong, AreWrittenAmong, IsFlushedAmong, IsFlushRefusedAmong, IsReadRefusedAmong, IsWriteRefusedAmong, pieces_among}
use Rattle.command_semantics.specs.State.{Volume, merge_in}
use Rattle.command_semantics.specs.Sectors.{Asked}
use Rattle.device_list.specs.Held.{flying_in, merged_inside, settled_in}
use Rattle.device_list.specs.Backed.{Backed, InBacked}
use Rattle.device_list.specs.Flights.{ClosesFor, Declines, FlushesAmong, FlushesAtRest, IsBehind, IsEventDone, ReadsAmong, ReadsAtRest, Starts, WritesAmong, WritesAtRest}

-- the volume of events that stands behind
pub behind : (before : Rested Stack) (volume : Volume) → IsWhole before → volume.state ≡ settled_in before → merge_in volume.merging ≡ (merged_inside before).merge → volume.quiet ≡ is_quiet_of before.events → volume.flying ≡ flying_in before.events → before.requests ≤ volume.asked
    → IsBehind before.events volume
behind before volume whole state merge quiet flying few = record {
  state = state ∙ ap settled_in whole;
  merge = merge ∙ ap (λ (v : Rested Stack). (merged_inside v).merge) whole;
  quiet = quiet;
  flying = flying;
  requests = subst (λ (n : ℕ). n ≤ volume.asked) (ap (λ (v : Rested Stack). v.requests) whole) few;
}

-- a volume with what stands behind it
abbrev pub backed : Rested Stack → Volume → Backed
backed v volume = record { shown = volume; events = v.events }

-- an event that was due is done
pub stepped : (event : Event) (before after : Rested Stack) (old new : Volume) → IsBehind before.events old → IsBehind after.events new → (r : Result Outcome NotDue) → is_ok r ≡ is_due_of stack_contents stack_layers before.events event
    → IfOk r (λ outcome. IsExact stack_contents stack_layers event outcome before.events after.events)
    → IfOk r (λ outcome. is_loud_in_all stack_layers before.events ≡ true → IsLegalStep (plain_of stack_contents stack_layers before.events) event outcome (plain_of stack_contents stack_layers after.events))
    → IfOk r (λ outcome. HasCause stack_faults event outcome before.events after.events) → OnOk r (IsOneAtMost stack_done before.events after.events)
    → IfOk r (λ outcome. ClosesBy stack_may_hold stack_contents stack_layers stack_size event outcome (map in_flight before.events.flights) after.events)
    → IfOk r (λ outcome. is_loud_in_all stack_layers before.events ≡ true → StopsVolume stack_may_hold stack_size (given_by event (map in_flight before.events.flights)) before.events after.events) → IfOk r (λ outcome. InBacked (IsEventDone event outcome) (backed before old) (backed after new))
stepped event before after old new was is (Err e) due exact legal cause one closes stops = tt
stepped event before after old new was is (Ok outcome) due exact legal cause one closes stops =
    record { was = was; is = is; did = record { due = sym due; exact = exact; legal = legal; cause = cause; one = one; closes = closes; stops = stops } }

module _ (before after : Rested Stack) (old new : Volume) (was : IsBehind before.events old) (is : IsBehind after.events new) (dev : Dev) (range : Range) (asked : Result Asked Refusal) (asked_is : asked ≡ Ok (record { dev = dev; span = span_of range })) where
  -- a request that is started, or isn't
  pub started : (op : Op) (r : Result ℕ Refusal) → IfOk r (λ number. IsAcceptedAs stack_contents stack_layers (record { dev = dev; op = op; range = range }) number before.events after.events) → IfOk r (λ number. IfOk asked (λ asks. InBacked (Starts op number asks) (backed before old) (backed after new)))
  started op (Err e) did = tt
  started op (Ok number) did =
      let P : Result Asked Refusal → Type 0 = λ x. IfOk x (λ asks. InBacked (Starts op number asks) (backed before old) (backed after new)) in
      subst P (sym asked_is) (record { was = was; is = is; did = (record { dev = dev; op = op; range = range }, record { dev_is = refl; op_is = refl; range_is = refl }, did) })

  pub not_started : (op : Op) (r : Result ℕ Refusal) → IfErr r (λ e. IsStarved e before.events after.events ⊎ IsRefusedAs stack_contents stack_layers stack_size (record { dev = dev; op = op; range = range }) e before.events after.events) → IfErr r (λ e. IfOk asked (λ asks. InBacked (Declines op e asks) (backed before old) (backed after new)))
  not_started op (Ok number) did = tt
  not_started op (Err e) did =
      let P : Result Asked Refusal → Type 0 = λ x. IfOk x (λ asks. InBacked (Declines op e asks) (backed before old) (backed after new)) in
      subst P (sym asked_is) (record {
        was = was;
        is = is;
        did = elim did [
          | inl starved ↦ inl starved
          | inr why ↦ inr (record { dev = dev; op = op; range = range }, record { dev_is = refl; op_is = refl; range_is = refl }, why)
        ];
      })

  -- what was read, written or flushed where nothing was in flight
  pub read_rested : (r : Result (List ℕ) Refusal) → IfOk r (λ bytes. AreReadAtRest stack_may_hold stack_contents stack_layers stack_faults stack_size dev (pieces_among (span_of range) before) bytes before.events after.events)
      → IfErr r (λ e. IsReadUndone stack_may_hold stack_contents stack_layers stack_faults stack_size dev (pieces_among (span_of range) before) e before.events after.events) → IfOk asked (λ asks. InBacked (ReadsAtRest r asks) (backed before old) (backed after new))
  read_rested (Ok bytes) did why =
      let P : Result Asked Refusal → Type 0 = λ x. IfOk x (λ asks. InBacked (ReadsAtRest (Ok bytes) asks) (backed before old) (backed after new)) in
      subst P (sym asked_is) (record { was = was; is = is; did = did })
  read_rested (Err e) did why =
      let P : Result Asked Refusal → Type 0 = λ x. IfOk x (λ asks. InBacked (ReadsAtRest (Err e) asks) (backed before old) (backed after new)) in
      subst P (sym asked_is) (record { was = was; is = is; did = why })

  pub write_rested : (bytes : List ℕ) (r : Result (Unit {0}) Refusal) → OnOk r (AreWrittenAtRest stack_may_hold stack_contents stack_layers stack_faults stack_size dev (pieces_among (span_of range) before) bytes before.events after.events)
      → IfErr r (λ e. IsWriteCut stack_may_hold stack_contents stack_layers stack_faults stack_size dev (pieces_among (span_of range) before) bytes e before.events after.events) → IfOk asked (λ asks. InBacked (WritesAtRest bytes r asks) (backed before old) (backed after new))
  write_rested bytes (Ok unit) did why =
      let P : Result Asked Refusal → Type 0 = λ x. IfOk x (λ asks. InBacked (WritesAtRest bytes (Ok unit) asks) (backed before old) (backed after new)) in
      subst P (sym asked_is) (record { was = was; is = is; did = did })
  write_rested bytes (Err e) did why =
      let P : Result Asked Refusal → Type 0 = λ x. IfOk x (λ asks. InBacked (WritesAtRest bytes (Err e) asks) (backed before old) (backed after new)) in
      subst P (sym asked_is) (record { was = was; is = is; did = why })

  pub flush_rested : (r : Result (Unit {0}) Refusal) → OnOk r (IsFlushDone stack_may_hold stack_contents stack_layers stack_faults stack_size dev before.events after.events)
      → IfErr r (λ e. IsFlushUndone stack_may_hold stack_contents stack_layers stack_faults stack_size dev e before.events after.events) → OnOk r (ClosesFor dev before.events after.events) → IfOk asked (λ asks. InBacked (FlushesAtRest r asks) (backed before old) (backed after new))
  flush_rested (Ok unit) did why closes =
      let P : Result Asked Refusal → Type 0 = λ x. IfOk x (λ asks. InBacked (FlushesAtRest (Ok unit) asks) (backed before old) (backed after new)) in
      subst P (sym asked_is) (record { was = was; is = is; did = (did, closes) })
  flush_rested (Err e) did why closes =
      let P : Result Asked Refusal → Type 0 = λ x. IfOk x (λ asks. InBacked (FlushesAtRest (Err e) asks) (backed before old) (backed after new)) in
      subst P (sym asked_is) (record { was = was; is = is; did = why })

  module _ (whole_before : IsWhole before) (whole_after : IsWhole after) (earlier later : List Replied) where
    -- what was read among requests in flight
    pub read_served : (r : Result (List ℕ) Refusal) → IfOk r (λ bytes. AreReadAmong stack_may_hold stack_contents stack_layers stack_faults stack_size dev (pieces_among (span_of range) before) bytes before.events after.events earlier later)
        → IfErr r (λ e. IsReadRefusedAmong stack_may_hold stack_contents stack_layers stack_faults stack_size dev (pieces_among (span_of range) before) e before after earlier later)
        → IfOk asked (λ asks. InBacked (ReadsAmong r earlier later asks) (backed before old) (backed after new))
    read_served (Ok bytes) did why =
        let P : Result Asked Refusal → Type 0 = λ x. IfOk x (λ asks. InBacked (ReadsAmong (Ok bytes) earlier later asks) (backed before old) (backed after new)) in
        subst P (sym asked_is) (record { was = was; is = is; did = did })
    read_served (Err e) did why =
        let P : Result Asked Refusal → Type 0 = λ x. IfOk x (λ asks. InBacked (ReadsAmong (Err e) earlier later asks) (backed before old) (backed after new)) in
        let F : Rested Stack → Type 0 = λ x. IsReadRefusedAmong stack_may_hold stack_contents stack_layers stack_faults stack_size dev (pieces_among (span_of range) before) e x after earlier later in
        let G : Rested Stack → Type 0 = λ y. IsReadRefusedAmong stack_may_hold stack_contents stack_layers stack_faults stack_size dev (pieces_among (span_of range) before) e (rested_of before.events) y earlier later in
        subst P (sym asked_is) (record { was = was; is = is; did = subst G whole_after (subst F whole_before why) })

    -- and what was written
    pub write_served : (bytes : List ℕ) (r : Result (Unit {0}) Refusal) → OnOk r (AreWrittenAmong stack_may_hold stack_contents stack_layers stack_faults stack_size dev (pieces_among (span_of range) before) bytes before.events after.events earlier later)
        → IfErr r (λ e. IsWriteRefusedAmong stack_may_hold stack_contents stack_layers stack_faults stack_size dev (pieces_among (span_of range) before) bytes e before after earlier later)
        → IfOk asked (λ asks. InBacked (WritesAmong bytes r earlier later asks) (backed before old) (backed after new))
    write_served bytes (Ok unit) did why =
        let P : Result Asked Refusal → Type 0 = λ x. IfOk x (λ asks. InBacked (WritesAmong bytes (Ok unit) earlier later asks) (backed before old) (backed after new)) in
        subst P (sym asked_is) (record { was = was; is = is; did = did })
    write_served bytes (Err e) did why =
        let P : Result Asked Refusal → Type 0 = λ x. IfOk x (λ asks. InBacked (WritesAmong bytes (Err e) earlier later asks) (backed before old) (backed after new)) in
        let F : Rested Stack → Type 0 = λ x. IsWriteRefusedAmong stack_may_hold stack_contents stack_layers stack_faults stack_size dev (pieces_among (span_of range) before) bytes e x after earlier later in
        let G : Rested Stack → Type 0 = λ y. IsWriteRefusedAmong stack_may_hold stack_contents stack_layers stack_faults stack_size dev (pieces_among (span_of range) before) bytes e (rested_of before.events) y earlier later in
        subst P (sym asked_is) (record { was = was; is = is; did = subst G whole_after (subst F whole_before why) })

    -- and what was flushed
    pub flush_served : (r : Result (Unit {0}) Refusal) → OnOk r (IsFlushedAmong stack_may_hold stack_contents stack_layers stack_faults stack_size dev before.events after.events earlier later)
        → IfErr r (λ e. IsFlushRefusedAmong stack_may_hold stack_contents stack_layers stack_faults stack_size dev e before after earlier later)
        → IfOk asked (λ asks. InBacked (FlushesAmong r earlier later asks) (backed before old) (backed after new))
    flush_served (Ok unit) did why =
        let P : Result Asked Refusal → Type 0 = λ x. IfOk x (λ asks. InBacked (FlushesAmong (Ok unit) earlier later asks) (backed before old) (backed after new)) in
        subst P (sym asked_is) (record { was = was; is = is; did = did })
    flush_served (Err e) did why =
        let P : Result Asked Refusal → Type 0 = λ x. IfOk x (λ asks. InBacked (FlushesAmong (Err e) earlier later asks) (backed before old) (backed after new)) in
        let F : Rested Stack → Type 0 = λ x. IsFlushRefusedAmong stack_may_hold stack_contents stack_layers stack_faults stack_size dev e x after earlier later in
        let G : Rested Stack → Type 0 = λ y. IsFlushRefusedAmong stack_may_hold stack_contents stack_layers stack_faults stack_size dev e (rested_of before.events) y earlier later in
        subst P (sym asked_is) (record { was = was; is = is; did = subst G whole_after (subst F whole_before why) })
