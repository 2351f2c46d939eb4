-- What seats made of all volumes that they used.
use Rattle.std.proofs.Common.{◌≡◌, ℕ, zero, suc, ◌+◌, ◌<◌, ◌≤◌, Bool, List, [], ◌∷◌, ◌++◌, length, get_or, map, refl, sym, ap, ◌∙◌, subst, inl, inr, arith}
use Rattle.std.proofs.lemmas.Bool.{cases_lt}
use Rattle.std.proofs.lemmas.List.{append_assoc, append_cancel_left, get_or-map}
use Rattle.layers.specs.declared.stack.Stack.{Stack}
use Rattle.audited_volume.specs.declared.entry.Entry.{Entry}
use Rattle.audited_volume.specs.Books.{AuditShape}
use Rattle.audited_volume.specs.Entries.{answered_of, entries_by}
use Rattle.command_semantics.specs.State.{Volume}
use Rattle.volume_threads.specs.Rigs.{fixed_in, receipts_at, seen_at, start_in}
use Rattle.parallel_threads.specs.declared.task.Task.{Task}
use Rattle.parallel_threads.specs.Left.{AllAddAskedFor}
use Rattle.parallel_threads.specs.Tasks.{AreTold, IsEnded, denied_of, merges_among, pieces_at}
use Rattle.parallel_lines.specs.Answering.{AreEnded, AreForTasks}
use Rattle.layers.specs.Stack.{stack_layers, stack_size}
use Rattle.locked_volume.specs.Denying.{Wish, WasDenied}
use Rattle.locked_volume.specs.Fixed.{Fixed, fixed_of, piece_at}
use Rattle.locked_volume.specs.Names.{nothing_fixed}
use Rattle.sector.specs.declared.refusal.Refusal.{Refusal}
use Rattle.parallel_threads.proofs.Mapping.{ended_by}
use Rattle.parallel_lines.specs.Played.{ArePlayed, Story, denied_in, no_story, pieces_in}
use Rattle.parallel_lines.specs.Running.{AreRun, IsRunIf}
use Rattle.parallel_lines.specs.Taking.{IsMade}
use Rattle.parallel_lines.proofs.Made.{AreMade, made_at, made_few, made_long, made_of, uses_of}
use Rattle.parallel_lines.proofs.Runs.{still_if}

-- lines were run at each that is used
pub made_run : (uses : List Bool) (befores afters : List (AuditShape Stack)) (entries : List Story) (olds news : List Volume) → AreMade IsMade uses befores afters entries olds news → AreRun uses olds news
made_run [] bs cs es [] [] h = tt
made_run [] bs cs es [] (n ∷ ns) h = absurd h
made_run [] bs cs es (o ∷ os) ns h = absurd h
made_run (u ∷ us) bs cs es [] ns h = absurd h
made_run (u ∷ us) bs cs es (o ∷ os) [] h = absurd h
made_run (u ∷ us) bs cs es (o ∷ os) (n ∷ ns) (inl h) = (subst (λ (v : Volume). IsRunIf u o v) (sym h.0) (still_if u o), made_run us bs cs es os ns h.1)
made_run (u ∷ us) bs cs es (o ∷ os) (n ∷ ns) (inr (used, bs', cs', es', last, h)) = (subst (λ (b : Bool). IsRunIf b o n) (sym used) last.made.run, made_run us bs' cs' es' os ns h)

-- there are entries of each that is used, where all of these were taken out
pub made_played : (uses : List Bool) (befores afters : List (AuditShape Stack)) (entries : List Story) (olds news : List Volume) → AreMade IsMade uses befores afters entries olds news → uses_of uses ≤ length afters → ArePlayed uses entries olds news
made_played uses bs cs es olds news made all =
    let few = made_few IsMade uses bs cs es olds news made in
    let long = made_long IsMade uses bs cs es olds news made in
    let many : length es ≡ uses_of uses = omega (arith, few, long.1, all) in
    record {
      many = many;
      each = λ v o n low used. (made_of IsMade uses bs cs es olds news made many v o n no_story low used).2.played;
    }

some_of : {X : Type 0} (xs : List X) (k : ℕ) → k < length xs → X
some_of [] k low = absurd (omega (arith, low))
some_of (x ∷ xs) k low = x

beyond : {X Y : Type 0} (f : X → Y) (xs : List X) (k : ℕ) (y : Y) → length xs ≤ k → get_or (map f xs) k y ≡ y
beyond f [] k y le = refl
beyond f (x ∷ xs) zero y le = absurd (omega (arith, le))
beyond f (x ∷ xs) (suc k) y le = beyond f xs k y (omega (arith, le))

beyond_all : (es : List Story) (k : ℕ) → length es ≤ k → get_or es k no_story ≡ no_story
beyond_all [] k le = refl
beyond_all (e ∷ es) zero le = absurd (omega (arith, le))
beyond_all (e ∷ es) (suc k) le = beyond_all es k (omega (arith, le))

-- what was denied by the volumes' journals is denied by what was made
made_denied : (uses : List Bool) (befores afters : List (AuditShape Stack)) (entries : List Story) (olds news : List Volume) → AreMade IsMade uses befores afters entries olds news
    → (k : ℕ) (seen : List Entry) (wish : Wish) (refusal : Refusal) → denied_of (start_in befores) (fixed_in stack_size stack_layers befores) k seen wish refusal → denied_in entries k seen wish refusal
made_denied uses bs cs es olds news made k seen wish refusal h = elim (cases_lt k (length bs)) [
  | inl here ↦
      let long = made_long IsMade uses bs cs es olds news made in
      let d = some_of bs k here in
      let one = (made_at IsMade uses bs cs es olds news made k d d no_story (omega (arith, here, long.0))).2 in
      one.denied seen wish refusal
      (subst (λ (x : List Entry × Fixed). WasDenied x.0 x.1 seen wish refusal)
      (λ i. (get_or-map (λ (a : AuditShape Stack). a.entries) bs k d [] here i, get_or-map (fixed_of stack_size stack_layers) bs k d nothing_fixed here i))
      h)
  | inr high ↦
      let long = made_long IsMade uses bs cs es olds news made in
      let none : get_or es k no_story ≡ no_story = beyond_all es k (omega (arith, high, long.0)) in
      subst (λ (s : Story). WasDenied [] s.stood seen wish refusal) (sym none)
      (subst (λ (x : List Entry × Fixed). WasDenied x.0 x.1 seen wish refusal)
      (λ i. (beyond (λ (a : AuditShape Stack). a.entries) bs k [] high i, beyond (fixed_of stack_size stack_layers) bs k nothing_fixed high i))
      h)
]

-- and their pieces are the same
made_piece : (uses : List Bool) (befores afters : List (AuditShape Stack)) (entries : List Story) (olds news : List Volume) → AreMade IsMade uses befores afters entries olds news
    → (k : ℕ) → pieces_at (fixed_in stack_size stack_layers befores) k ≡ pieces_in entries k
made_piece uses bs cs es olds news made k = elim (cases_lt k (length bs)) [
  | inl here ↦
      let long = made_long IsMade uses bs cs es olds news made in
      let d = some_of bs k here in
      let one = (made_at IsMade uses bs cs es olds news made k d d no_story (omega (arith, here, long.0))).2 in
      ap piece_at (get_or-map (fixed_of stack_size stack_layers) bs k d nothing_fixed here) ∙ one.piece
  | inr high ↦
      let long = made_long IsMade uses bs cs es olds news made in
      ap piece_at (beyond (fixed_of stack_size stack_layers) bs k nothing_fixed high) ∙ ap (λ (s : Story). piece_at s.stood) (sym (beyond_all es k (omega (arith, high, long.0))))
]

-- and the tasks of each seat are answered by its own
pub made_told : (uses : List Bool) (befores afters : List (AuditShape Stack)) (entries : List Story) (olds news : List Volume) (asked told : ℕ → List Task) → AreMade IsMade uses befores afters entries olds news
    → ((i : ℕ) → i < 8 → AreTold stack_size stack_layers befores afters (i + 1) (asked i) (told i)) → AreEnded entries asked told
made_told uses bs cs es olds news asked told made seats i low =
    let t = seats i low in
    let long = made_long IsMade uses bs cs es olds news made in (
      t.0,
      ended_by (denied_of (start_in bs) (fixed_in stack_size stack_layers bs)) (denied_in es) (pieces_in es) (made_denied uses bs cs es olds news made) (asked i) (told i) (i + 1) t.0
          (subst (λ (p : ℕ → ℕ). IsEnded (denied_of (start_in bs) (fixed_in stack_size stack_layers bs)) p (asked i) (told i) (i + 1) t.0) (λ j k. made_piece uses bs cs es olds news made k j) t.1),
      λ k small.
          let here : k < length bs = omega (arith, small, long.0) in
          let d = some_of bs k here in
          let one = (made_at IsMade uses bs cs es olds news made k d d no_story small).2 in
          let start : start_in bs k ≡ (get_or bs k d).entries = get_or-map (λ (a : AuditShape Stack). a.entries) bs k d [] here in
          let both = t.2 k d here in
          let settled : entries_by (i + 1) (get_or cs k d).entries ≡ entries_by (i + 1) (get_or bs k d).entries ++ map answered_of (receipts_at t.0 k) =
          subst (λ (n : ℕ). entries_by n (get_or cs k d).entries ≡ entries_by n (get_or bs k d).entries ++ map answered_of (receipts_at t.0 k)) t.1.0
          (subst (λ (l : List Entry). entries_by t.0.number (get_or cs k d).entries ≡ entries_by t.0.number l ++ map answered_of (receipts_at t.0 k)) start both.own) in
          record {
            own = append_cancel_left (entries_by (i + 1) (get_or bs k d).entries) (entries_by (i + 1) (get_or es k no_story).entries) (map answered_of (receipts_at t.0 k)) (sym (one.added (i + 1)) ∙ settled);
            seen = one.first (seen_at t.0 k) (both.seen.0, both.seen.1 ∙ ap (λ (l : List Entry). l ++ (seen_at t.0 k ++ both.seen.0)) start ∙ sym (append_assoc (get_or bs k d).entries (seen_at t.0 k) both.seen.0));
          },
    )

-- and each entry was asked for
pub made_asked : (uses : List Bool) (befores afters : List (AuditShape Stack)) (entries : List Story) (olds news : List Volume) (asked : ℕ → List Task) → AreMade IsMade uses befores afters entries olds news
    → AllAddAskedFor asked befores afters → AreForTasks entries asked
made_asked uses bs cs es olds news asked made adds k small =
    let long = made_long IsMade uses bs cs es olds news made in
    let here : k < length bs = omega (arith, small, long.0) in
    let d = some_of bs k here in
    (made_at IsMade uses bs cs es olds news made k d d no_story small).2.asked (merges_among asked k) (adds k d here)
