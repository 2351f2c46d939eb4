-- A read, a write and a flush, as the volume does them.
use Rattle.std.proofs.Common.{◌≡◌, ◌⊎◌, ℕ, true, false, List, refl, sym, ap, ◌∙◌, inl, inr, subst, ◌<◌}
use Rattle.std.specs.Prelude.{Bool, Result, Ok, Err, IfOk, IfErr, OnOk}
use Rattle.sector.specs.declared.refusal.Refusal.{Refusal}
use Rattle.layers.specs.declared.stack.Stack.{Stack}
use Rattle.layers.specs.Stack.{stack_contents, stack_layers}
use Rattle.layers.specs.Beneath.{stack_reads}
use Rattle.chunk.specs.Pieces.{Span}
use Rattle.plain_machine.specs.declared.request.Dev.{Dev}
use Rattle.plain_machine.specs.declared.request.Reply.{Reply}
use Rattle.plain_machine.specs.declared.request.Reply.TheVariants.{Data, Written, Flushed, Refused}
use Rattle.plain_machine.specs.declared.request.Failure.{Failure}
use Rattle.plain_machine.specs.declared.request.Failure.TheVariants.{Invalid, Io, Overflow}
use Rattle.whole_commands.specs.Merges.{Merged}
use Rattle.whole_commands.specs.Beside.{read_beside, written_beside, flushed_beside, written_first_beside, count_beside}
use Rattle.whole_commands.specs.Refusals.{is_starved}
use Rattle.volume_commands.specs.Rested.{Rested, has_dev}
use Rattle.plain_machine.specs.Failures.{refusal_of}
use Rattle.volume_commands.specs.Commands.{IsDoneBy, IsFlushRefused, IsReadRefused, IsWriteRefused}
use Rattle.volume_commands.proofs.Unread.{read_leaves, refused_read_leaves}
use Rattle.command_semantics.specs.declared.place.Role.{Role}
use Rattle.command_semantics.specs.State.{Volume, merged_in}
use Rattle.command_semantics.specs.Changes.{Did, Serves}
use Rattle.command_semantics.specs.Sectors.{Asked, asked_of, after_asking, flush_by, flushed_in, read_answer, read_by, read_in, IsReadAsked, write_answer, write_by, written_in, ArePartWritten, IsPartWritten, IsPartWrittenBy}
use Rattle.device_list.specs.Flights.{IsDenied}
use Rattle.device_list.specs.Held.{merged_inside, IsSettledIn}
use Rattle.device_list.proofs.Unflushed.{flush_leaves}
use Rattle.whole_commands.specs.Pieces.{Answered}

-- the same answer, and the same left
did : {A T : Type 0} (a b : Result A Refusal) (x y : T) → a ≡ b → x ≡ y → (let d : Did A T = record { answer = a; left = x } in d) ≡ record { answer = b; left = y }
did a b x y ab xy = rw ab (rw xy refl)

-- a piece that failed does not want for room
served : (failure : Failure) → is_starved (refusal_of failure) ≡ false
served Invalid = refl
served Io = refl
served Overflow = refl

not_both : (b : Bool) → b ≡ true → b ≡ false → ⊥
not_both b is isnt = absurd (cc)

-- what a command asks for is refused, and nothing changed
pub read_refused : (role : Role) (first count : ℕ) (volume new : Volume) (e : Refusal) → asked_of role first count volume ≡ Err e → new ≡ volume → Serves {A = List ℕ} (Err e) new (λ v. (v ≡ volume) ⊎ IsReadAsked count volume v) (read_in role first count volume)
unfolding read_in
read_refused role first count volume new e why same =
    (λ other. ap (read_by count volume) why ∙ did (Err e) (Err e) volume new refl (sym same), λ none. inl same)

pub write_refused : (role : Role) (first count : ℕ) (bytes : List ℕ) (volume new : Volume) (e : Refusal) → asked_of role first count volume ≡ Err e → new ≡ volume → Serves {A = Unit {0}} (Err e) new (λ v. (v ≡ volume) ⊎ IsPartWritten role first count bytes volume v) (written_in role first count bytes volume)
unfolding written_in
write_refused role first count bytes volume new e why same =
    (λ other. ap (write_by count bytes volume) why ∙ did (Err e) (Err e) volume new refl (sym same), λ none. inl same)

pub flush_refused : (role : Role) (volume new : Volume) (e : Refusal) → asked_of role 0 1 volume ≡ Err e → new ≡ volume → Serves {A = Unit {0}} (Err e) new (λ v. (v ≡ volume) ⊎ IsReadAsked 1 volume v) (flushed_in role volume)
unfolding flushed_in
flush_refused role volume new e why same = (λ other. ap (flush_by volume) why ∙ did (Err e) (Err e) volume new refl (sym same), λ none. inl same)

-- A command that asks for these sectors of a settled volume.
module _ (role : Role) (first count : ℕ) (volume new : Volume) (dev : Dev) (span : Span) (before after : Rested Stack) (asked : asked_of role first count volume ≡ Ok (record { dev = dev; span = span })) (state : merged_in volume ≡ merged_inside before) (left : new ≡ after_asking count (merged_inside after) volume) (settled : IsSettledIn before) (there : has_dev dev before ≡ true) where
  -- a read leaves the state
  read_left : merged_inside after ≡ merged_inside before → after_asking count (merged_in volume) volume ≡ new
  read_left same = ap (λ (m : Merged). after_asking count m volume) (state ∙ sym same) ∙ sym left

  read_by_reply : (reply : Reply) (answer : Result (List ℕ) Refusal) → IsDoneBy stack_contents stack_layers (read_beside dev span) reply before after → read_answer reply ≡ answer → read_in role first count volume ≡ record { answer = answer; left = new }
  unfolding read_in
  read_by_reply reply answer done is =
      ap (read_by count volume) asked
      ∙ did (read_answer (read_beside dev span (merged_in volume)).reply) answer (after_asking count (merged_in volume) volume) new
      (ap (λ (m : Merged). read_answer (read_beside dev span m).reply) state ∙ ap (λ (a : Answered Merged). read_answer a.reply) (done settled) ∙ is)
      (read_left (read_leaves stack_contents stack_layers stack_reads dev span reply before after done settled))

  pub read_does : (result : Result (List ℕ) Refusal) → IfOk result (λ bytes. IsDoneBy stack_contents stack_layers (read_beside dev span) (Data bytes) before after) → IfErr result (λ refusal. IsReadRefused stack_contents stack_layers dev span refusal before after)
      → Serves result new (λ v. (v ≡ volume) ⊎ IsReadAsked count volume v) (read_in role first count volume)
  read_does (Ok bytes) done why = read_by_reply (Data bytes) (Ok bytes) done refl
  read_does (Err e) done why =
      let same = sym (read_left (refused_read_leaves stack_contents stack_layers stack_reads dev span e before after why settled)) in (
        λ other. elim why [
          | inl missing ↦ absurd (cc)
          | inr more ↦ elim more [
            | inl failed ↦ read_by_reply (Refused failed.1.0) (Err e) failed.1.2 (ap (λ (r : Refusal). let x : Result (List ℕ) Refusal = Err r in x) (sym failed.1.1))
            | inr starved ↦ absurd (not_both (is_starved e) starved.1 other)
          ]
        ],
        λ none. inr same,
      )

  write_by_reply : (bytes : List ℕ) (reply : Reply) (answer : Result (Unit {0}) Refusal) → IsDoneBy stack_contents stack_layers (written_beside dev span bytes) reply before after → write_answer reply ≡ answer → written_in role first count bytes volume ≡ record { answer = answer; left = new }
  unfolding written_in
  write_by_reply bytes reply answer done is =
      let here : written_beside dev span bytes (merged_in volume) ≡ record { state = merged_inside after; reply = reply } = ap (written_beside dev span bytes) state ∙ done settled in
      ap (write_by count bytes volume) asked
      ∙ did (write_answer (written_beside dev span bytes (merged_in volume)).reply) answer (after_asking count (written_beside dev span bytes (merged_in volume)).state volume) new
      (ap (λ (a : Answered Merged). write_answer a.reply) here ∙ is)
      (ap (λ (a : Answered Merged). after_asking count a.state volume) here ∙ sym left)

  part : (bytes : List ℕ) (pieces : ℕ) → pieces < count_beside span (merged_inside before) → IsDoneBy stack_contents stack_layers (written_first_beside pieces dev span bytes) Written before after → IsPartWritten role first count bytes volume new
  unfolding IsPartWritten
  part bytes pieces fewer done =
      let asks : Asked = record { dev = dev; span = span } in
      let here : written_first_beside pieces dev span bytes (merged_in volume) ≡ record { state = merged_inside after; reply = Written } = ap (written_first_beside pieces dev span bytes) state ∙ done settled in
      let some : ArePartWritten count bytes asks volume new = record {
        pieces = pieces;
        fewer = subst (λ (m : Merged). pieces < count_beside span m) (sym state) fewer;
        done = ap (λ (a : Answered Merged). a.reply) here;
        left = left ∙ ap (λ (a : Answered Merged). after_asking count a.state volume) (sym here);
      } in
      subst (λ (r : Result Asked Refusal). IsPartWrittenBy count bytes volume new r) (sym asked) some

  pub write_does : (bytes : List ℕ) (result : Result (Unit {0}) Refusal) → OnOk result (IsDoneBy stack_contents stack_layers (written_beside dev span bytes) Written before after) → IfErr result (λ refusal. IsWriteRefused stack_contents stack_layers dev span bytes refusal before after)
      → Serves result new (λ v. (v ≡ volume) ⊎ IsPartWritten role first count bytes volume v) (written_in role first count bytes volume)
  write_does bytes (Ok unit) done why = write_by_reply bytes Written (Ok unit) done refl
  write_does bytes (Err e) done why = elim why [
    | inl missing ↦ absurd (cc)
    | inr more ↦ elim more [
      | inl failed ↦ (λ other. write_by_reply bytes (Refused failed.1.0) (Err e) failed.1.2 (ap (λ (r : Refusal). let x : Result (Unit {0}) Refusal = Err r in x) (sym failed.1.1)), λ none. absurd (not_both (is_starved e) none (ap is_starved failed.1.1 ∙ served failed.1.0)))
      | inr starved ↦ (λ other. absurd (not_both (is_starved e) starved.1 other), λ none. inr (part bytes starved.2.0 starved.2.1 starved.2.2))
    ]
  ]

-- A flush of a settled volume.
module _ (role : Role) (volume new : Volume) (dev : Dev) (span : Span) (before after : Rested Stack) (asked : asked_of role 0 1 volume ≡ Ok (record { dev = dev; span = span })) (state : merged_in volume ≡ merged_inside before) (left : new ≡ after_asking 1 (merged_inside after) volume) (settled : IsSettledIn before) (there : has_dev dev before ≡ true) where
  -- it leaves the state
  flush_left : merged_inside after ≡ merged_inside before → after_asking 1 (merged_in volume) volume ≡ new
  flush_left same = ap (λ (m : Merged). after_asking 1 m volume) (state ∙ sym same) ∙ sym left

  flush_by_reply : (reply : Reply) (answer : Result (Unit {0}) Refusal) → IsDoneBy stack_contents stack_layers (flushed_beside dev) reply before after → write_answer reply ≡ answer → flushed_in role volume ≡ record { answer = answer; left = new }
  unfolding flushed_in
  flush_by_reply reply answer done is =
      ap (flush_by volume) asked
      ∙ did (write_answer (flushed_beside dev (merged_in volume)).reply) answer (after_asking 1 (merged_in volume) volume) new
      (ap (λ (m : Merged). write_answer (flushed_beside dev m).reply) state ∙ ap (λ (a : Answered Merged). write_answer a.reply) (done settled) ∙ is)
      (flush_left (flush_leaves dev reply before after done settled))

  pub flush_does : (result : Result (Unit {0}) Refusal) → OnOk result (IsDoneBy stack_contents stack_layers (flushed_beside dev) Flushed before after) → IfErr result (λ refusal. IsFlushRefused stack_contents stack_layers dev refusal before after)
      → Serves result new (λ v. (v ≡ volume) ⊎ IsReadAsked 1 volume v) (flushed_in role volume)
  flush_does (Ok unit) done why = flush_by_reply Flushed (Ok unit) done refl
  flush_does (Err e) done why = elim why [
    | inl missing ↦ absurd (cc)
    | inr more ↦ elim more [
      | inl failed ↦ (λ other. flush_by_reply (Refused failed.1.0) (Err e) failed.1.2 (ap (λ (r : Refusal). let x : Result (Unit {0}) Refusal = Err r in x) (sym failed.1.1)), λ none. absurd (not_both (is_starved e) none (ap is_starved failed.1.1 ∙ served failed.1.0)))
      | inr starved ↦ (λ other. absurd (not_both (is_starved e) starved.1 other), λ none. inr (sym (flush_left starved.2)))
    ]
  ]

-- Why what may be asked of a volume is refused, whichever device drops writes.
module _ (dev : Dev) (before after : Rested Stack) (there : has_dev dev before ≡ true) (asks : Result Asked Refusal) where
  of_it : (e : Refusal) → IsDenied e → IfOk asks (λ _. IsDenied e)
  of_it e why = for asks
    where
      for : (r : Result Asked Refusal) → IfOk r (λ _. IsDenied e)
      for (Ok a) = why
      for (Err x) = tt

  pub read_denied : (span : Span) (result : Result (List ℕ) Refusal) → IfErr result (λ e. IsReadRefused stack_contents stack_layers dev span e before after) → IfErr result (λ e. IfOk asks (λ _. IsDenied e))
  read_denied span (Ok bytes) why = tt
  read_denied span (Err e) why = of_it e (elim why [
    | inl missing ↦ absurd (not_both (has_dev dev before) there missing.1)
    | inr more ↦ elim more [
      | inl failed ↦ inr (failed.1.0, failed.1.1)
      | inr starved ↦ inl starved.1
    ]
  ])

  pub write_denied : (span : Span) (bytes : List ℕ) (result : Result (Unit {0}) Refusal) → IfErr result (λ e. IsWriteRefused stack_contents stack_layers dev span bytes e before after) → IfErr result (λ e. IfOk asks (λ _. IsDenied e))
  write_denied span bytes (Ok unit) why = tt
  write_denied span bytes (Err e) why = of_it e (elim why [
    | inl missing ↦ absurd (not_both (has_dev dev before) there missing.1)
    | inr more ↦ elim more [
      | inl failed ↦ inr (failed.1.0, failed.1.1)
      | inr starved ↦ inl starved.1
    ]
  ])

  pub flush_denied : (result : Result (Unit {0}) Refusal) → IfErr result (λ e. IsFlushRefused stack_contents stack_layers dev e before after) → IfErr result (λ e. IfOk asks (λ _. IsDenied e))
  flush_denied (Ok unit) why = tt
  flush_denied (Err e) why = of_it e (elim why [
    | inl missing ↦ absurd (not_both (has_dev dev before) there missing.1)
    | inr more ↦ elim more [
      | inl failed ↦ inr (failed.1.0, failed.1.1)
      | inr starved ↦ inl starved.1
    ]
  ])
