-- The entries that seats made at a volume lead from what it showed to what it shows.
use Rattle.std.proofs.Common.{◌≡◌, inl, inr, ℕ, ◌+◌, Bool, true, false, List, [], ◌∷◌, ◌++◌, length, map, sym, ap, ◌∙◌, subst, refl, arith, length-append}
use Rattle.std.specs.Prelude.{◌==◌, if◌then◌else◌}
use Rattle.std.specs.List.{All}
use Rattle.std.proofs.lemmas.List.{append_assoc, append_cancel_left}
use Rattle.std.proofs.lemmas.List.Elements.{All-append, All-map}
use Rattle.layers.specs.declared.stack.Stack.{Stack}
use Rattle.audited_volume.specs.declared.entry.Answered.{Answered}
use Rattle.audited_volume.specs.declared.entry.Entry.{Entry}
use Rattle.audited_volume.specs.declared.entry.Entry.TheVariants.{Answered as IsAnswered, Spoiled, Overflowed, Attached, Detached, Begun, Finished}
use Rattle.audited_volume.specs.Books.{AuditShape}
use Rattle.audited_volume.specs.Entries.{entries_by}
use Rattle.plain_machine.specs.Plain.{Shown, saved_under, overflow_under}
use Rattle.audited_volume.specs.Inside.{AllInside}
use Rattle.audited_volume.specs.Replay.{AllLawful, replay}
use Rattle.audited_volume.specs.Undone.{AllShow, left_of, taken_in}
use Rattle.audited_volume.proofs.Own.{inside_rest, lawful_rest, meets_own}
use Rattle.audited_volume.proofs.Replaying.{entries_by_spoils, replay_then}
use Rattle.audited_volume.proofs.Undone.{lawful_shown, lawful_undone}
use Rattle.command_semantics.specs.State.{Volume}
use Rattle.device_list.specs.Flights.{IsBehind}
use Rattle.device_list.specs.Parting.{Parts}
use Rattle.locked_volume.specs.AskedFor.{AddsAskedFor, IsAskedFor}
use Rattle.locked_volume.specs.Keeping.{Begins}
use Rattle.layers.specs.Stack.{stack_layers, stack_size}
use Rattle.plain_machine.specs.declared.request.Dev.{Dev}
use Rattle.plain_machine.specs.declared.request.Dev.TheVariants.{Origin, Snap}
use Rattle.plain_machine.specs.declared.request.Request.{Request}
use Rattle.sector.specs.declared.refusal.Refusal.{Refusal}
use Rattle.snapshot_list.specs.Numbers.{number_of_snap}
use Rattle.volume.specs.Stepping.{merged_of}
use Rattle.volume.specs.Volumed.{is_loud_in_all}
use Rattle.locked_volume.specs.Denying.{IsClosed, IsCrowded, IsDenied, IsLost, IsOpen, IsShut, WasDenied, Wish, Serve, Begin}
use Rattle.locked_volume.specs.Fixed.{Fixed, fixed_of}
use Rattle.parallel_lines.specs.Played.{IsPlayedIn, Story, shown_by}
use Rattle.parallel_lines.specs.Running.{IsRun}
use Rattle.parallel_lines.specs.Taking.{IsBack, IsMade, IsRested, IsTrue}
use Rattle.parallel_lines.proofs.Backs.{stood}

in_front : (b : Bool) (a : Answered) (xs ys : List Answered) → (if b then (a ∷ (xs ++ ys)) else (xs ++ ys)) ≡ (if b then (a ∷ xs) else xs) ++ ys
in_front true a xs ys = refl
in_front false a xs ys = refl

entries_by-append : (n : ℕ) (es fs : List Entry) → entries_by n (es ++ fs) ≡ entries_by n es ++ entries_by n fs
entries_by-append n [] fs = refl
entries_by-append n (Spoiled m ∷ es) fs = entries_by-append n es fs
entries_by-append n (Overflowed m ∷ es) fs = entries_by-append n es fs
entries_by-append n (Attached m x o f ∷ es) fs = entries_by-append n es fs
entries_by-append n (Detached m ∷ es) fs = entries_by-append n es fs
entries_by-append n (Begun m ∷ es) fs = entries_by-append n es fs
entries_by-append n (Finished ∷ es) fs = entries_by-append n es fs
entries_by-append n (IsAnswered a ∷ es) fs = ap (λ x. if a.seat == n then (a ∷ x) else x) (entries_by-append n es fs) ∙ in_front (a.seat == n) a (entries_by n es) (entries_by n fs)

-- the entries of the seats, and the spoils after them
goes_on : (before : AuditShape Stack) (p : Parts) (audit rested : AuditShape Stack) (old : Volume) → (back : IsBack before p audit old) → (done : IsRested audit rested) → rested.entries ≡ before.entries ++ (back.left.more ++ map Spoiled done.spoils.which)
goes_on before p audit rested old back done =
    done.spoils.entries ∙ ap (λ (l : List Entry). l ++ map Spoiled done.spoils.which) back.left.grows ∙ append_assoc before.entries back.left.more (map Spoiled done.spoils.which)

-- how the volume stood
abbrev stood_of : AuditShape Stack → Fixed
stood_of a = record {
  attached = a.volume.attached;
  sectors = stack_size a.volume.origin;
  numbers = map number_of_snap a.volume.snaps;
  chunks = map (λ s. s.state.chunk) a.volume.snaps;
  merged = merged_of a.volume.merge;
  sound = is_loud_in_all stack_layers a.volume;
  loud = a.loud;
  base = shown_by a.volume;
  taken = a.taken + length a.entries;
  folded = [];
}

-- What is denied by one list of entries is denied by another that shows the same, where the entries in front of it count as places
-- that were taken before.
module _ (g : Fixed) (base s t : Shown) (more : ℕ) (same : g.loud ≡ true → t ≡ s) where
  still_lost : (number : ℕ) → IsLost g s number → IsLost (record g { base = base; taken = g.taken + more; folded = [] }) t number
  still_lost number h = (h.0, h.1, λ loud. ap (λ (x : Shown). saved_under number x.saved) (same loud) ∙ h.2 loud)

  still_closed : (dev : Dev) (refusal : Refusal) → IsClosed g s dev refusal → IsClosed (record g { base = base; taken = g.taken + more; folded = [] }) t dev refusal
  still_closed Origin refusal h = absurd h
  still_closed (Snap number) refusal (inl merging) = inl merging
  still_closed (Snap number) refusal (inr (inl missing)) = inr (inl missing)
  still_closed (Snap number) refusal (inr (inr lost)) = inr (inr (lost.0, still_lost number lost.1))

  still_open : (dev : Dev) → IsOpen g s dev → IsOpen (record g { base = base; taken = g.taken + more; folded = [] }) t dev
  still_open Origin h = tt
  still_open (Snap number) h = (h.0, h.1, λ loud lost. h.2 loud (ap (λ (x : Shown). saved_under number x.saved) (sym (same loud)) ∙ lost))

  still_shut : (request : Request) → IsShut g s request → IsShut (record g { base = base; taken = g.taken + more; folded = [] }) t request
  still_shut request h = (h.0, h.1, h.2, h.3, h.4, h.5, λ loud. ap (λ (x : Shown). overflow_under h.0 x.saved) (same loud) ∙ h.6 loud)

  still_crowded : (count : ℕ) → IsCrowded g (more + count) → IsCrowded (record g { base = base; taken = g.taken + more; folded = [] }) count
  still_crowded count full = omega (arith, full)

  still_denied : (count : ℕ) (wish : Wish) (refusal : Refusal) → IsDenied g s (more + count) wish refusal → IsDenied (record g { base = base; taken = g.taken + more; folded = [] }) t count wish refusal
  still_denied count (Serve request) refusal (inl closed) = inl (still_closed request.dev refusal closed)
  still_denied count (Serve request) refusal (inr (inl shut)) = inr (inl (shut.0, still_shut request shut.1))
  still_denied count (Serve request) refusal (inr (inr (inl out))) = inr (inr (inl (out.0, still_open request.dev out.1, out.2)))
  still_denied count (Serve request) refusal (inr (inr (inr (inl many)))) = inr (inr (inr (inl (many.0, still_open request.dev many.1, many.2))))
  still_denied count (Serve request) refusal (inr (inr (inr (inr full)))) = inr (inr (inr (inr (full.0, still_crowded count full.1))))
  still_denied count (Begin number) refusal (inl begun) = inl begun
  still_denied count (Begin number) refusal (inr (inl missing)) = inr (inl missing)
  still_denied count (Begin number) refusal (inr (inr (inl lost))) = inr (inr (inl (lost.0, lost.1, still_lost number lost.2)))
  still_denied count (Begin number) refusal (inr (inr (inr full))) = inr (inr (inr (full.0, still_crowded count full.1)))

denied_so : (before : AuditShape Stack) → IsTrue before → (seen : List Entry) (wish : Wish) (refusal : Refusal) → WasDenied before.entries (fixed_of stack_size stack_layers before) seen wish refusal
    → WasDenied [] (stood_of before) seen wish refusal
denied_so before truth seen wish refusal (inl starved) = inl starved
denied_so before truth seen wish refusal (inr (g, stays, agrees, denied)) =
    let same : g.loud ≡ true → replay (shown_by before.volume) seen ≡ replay g.base (before.entries ++ seen) =
    λ loud. ap (λ (x : Shown). replay x seen) (sym (truth.gives (sym stays.loud ∙ loud))) ∙ sym (replay_then before.base before.entries seen) ∙ ap (λ (x : Shown). replay x (before.entries ++ seen)) (sym stays.base) in
    inr (
      record g { base = shown_by before.volume; taken = g.taken + length before.entries; folded = [] },
      record {
        attached = stays.attached;
        sectors = stays.sectors;
        snaps = stays.snaps;
        sound = stays.sound;
        loud = stays.loud;
        base = refl;
        taken = ap (λ (n : ℕ). n + length before.entries) stays.taken;
        folded = refl;
        piece = stays.piece;
      },
      (λ loud. ap (λ (x : Shown). x.begun) (same loud) ∙ agrees loud),
      still_denied g (shown_by before.volume) (replay g.base (before.entries ++ seen)) (replay (shown_by before.volume) seen) (length before.entries) same (length seen) wish refusal
          (subst (λ (n : ℕ). IsDenied g (replay g.base (before.entries ++ seen)) n wish refusal) (length-append before.entries seen) denied),
    )

-- what is said of them
plays : (before : AuditShape Stack) (p : Parts) (audit rested : AuditShape Stack) (old new : Volume) → (back : IsBack before p audit old) → (done : IsRested audit rested) → IsTrue rested → IsBehind rested.volume new
    → IsPlayedIn (record { stood = stood_of before; entries = back.left.more ++ map Spoiled done.spoils.which }) old new
plays before p audit rested old new back done truth is sound =
    let entries = back.left.more ++ map Spoiled done.spoils.which in
    let was_loud : before.loud ≡ true = back.out.loud (ap (λ (o : Volume). o.sound) (sym back.out.named) ∙ sound) in
    let loud : rested.loud ≡ true = done.base.loud ∙ back.left.stays.loud ∙ was_loud in
    let base : rested.base ≡ before.base = done.base.base ∙ back.left.stays.base in
    let all : rested.entries ≡ before.entries ++ entries = goes_on before p audit rested old back done in
    let shown : replay before.base before.entries ≡ shown_by before.volume = back.out.truth.gives was_loud in
    let lawful : AllLawful before.base (before.entries ++ entries) = subst (λ (s : Shown). AllLawful s (before.entries ++ entries)) base (subst (λ (l : List Entry). AllLawful rested.base l) all (truth.lawful loud)) in
    let inside : AllInside before.base (before.entries ++ entries) = subst (λ (s : Shown). AllInside s (before.entries ++ entries)) base (subst (λ (l : List Entry). AllInside rested.base l) all (truth.inside loud)) in
    let rest : AllLawful (shown_by before.volume) entries = subst (λ (s : Shown). AllLawful s entries) shown (lawful_rest before.base before.entries entries lawful) in
    let gives : replay (shown_by before.volume) entries ≡ shown_by rested.volume = ap (λ (s : Shown). replay s entries) (sym shown) ∙ sym (replay_then before.base before.entries entries) ∙ ap (λ (l : List Entry). replay before.base l) (sym all) ∙ ap (λ (s : Shown). replay s rested.entries) (sym base) ∙ truth.gives loud in
    record {
      before = before.volume;
      after = rested.volume;
      was = stood before p audit old back;
      is = is;
      did = record {
        stood = λ i. record {
          attached = before.volume.attached;
          sectors = stack_size before.volume.origin;
          numbers = map number_of_snap before.volume.snaps;
          chunks = map (λ s. s.state.chunk) before.volume.snaps;
          merged = merged_of before.volume.merge;
          sound = is_loud_in_all stack_layers before.volume;
          loud = was_loud i;
          base = shown_by before.volume;
          taken = before.taken + length before.entries;
          folded = [];
        };
        earned = back.out.earned;
        lawful = rest;
        own = meets_own (shown_by before.volume) entries rest (subst (λ (s : Shown). AllInside s entries) shown (inside_rest before.base before.entries entries inside));
        gives = gives;
        undone = lawful_undone (shown_by before.volume) entries rest;
        keeps = subst (λ (s : Shown). AllShow (left_of (taken_in (shown_by before.volume)) (shown_by before.volume) entries) s) gives (lawful_shown (shown_by before.volume) entries rest);
      };
    }

-- each seat's are those that it added
adds : (before : AuditShape Stack) (p : Parts) (audit rested : AuditShape Stack) (old : Volume) → (back : IsBack before p audit old) → (done : IsRested audit rested) → (seat : ℕ)
    → entries_by seat audit.entries ≡ entries_by seat before.entries ++ entries_by seat (back.left.more ++ map Spoiled done.spoils.which)
adds before p audit rested old back done seat =
    ap (entries_by seat) back.left.grows ∙ entries_by-append seat before.entries back.left.more
    ∙ ap (λ (l : List Answered). entries_by seat before.entries ++ l) (sym (entries_by_spoils seat back.left.more done.spoils.which))

-- what was seen of the audit are the first of them
first_of : (before : AuditShape Stack) (p : Parts) (audit rested : AuditShape Stack) (old : Volume) → (back : IsBack before p audit old) → (done : IsRested audit rested) → (seen : List Entry)
    → Begins (before.entries ++ seen) audit.entries → Begins seen (back.left.more ++ map Spoiled done.spoils.which)
first_of before p audit rested old back done seen h =
    let spoils = map Spoiled done.spoils.which in
    let more : back.left.more ≡ seen ++ h.0 = append_cancel_left before.entries back.left.more (seen ++ h.0) (sym back.left.grows ∙ h.1 ∙ append_assoc before.entries seen h.0) in
    (h.0 ++ spoils, ap (λ (l : List Entry). l ++ spoils) more ∙ append_assoc seen h.0 spoils)

-- the spoils after them are nobody's
asked_all : (before : AuditShape Stack) (p : Parts) (audit rested : AuditShape Stack) (old : Volume) → (back : IsBack before p audit old) → (done : IsRested audit rested) → (merges : ℕ → Bool)
    → AddsAskedFor merges before.entries audit.entries → All (IsAskedFor merges) (back.left.more ++ map Spoiled done.spoils.which)
asked_all before p audit rested old back done merges h =
    All-append (IsAskedFor merges) back.left.more (map Spoiled done.spoils.which) (h back.left.more back.left.grows) (All-map (IsAskedFor merges) Spoiled done.spoils.which (λ k d low. tt))

pub is_made : (before : AuditShape Stack) (p : Parts) (audit rested : AuditShape Stack) (old new : Volume) → IsBack before p audit old → IsRested audit rested → IsTrue rested → IsBehind rested.volume new → IsRun old new
    → (story : Story) × IsMade before audit story old new
is_made before p audit rested old new back done truth is run = (
  record { stood = stood_of before; entries = back.left.more ++ map Spoiled done.spoils.which },
  record {
    run = run;
    played = plays before p audit rested old new back done truth is;
    added = adds before p audit rested old back done;
    first = first_of before p audit rested old back done;
    denied = denied_so before back.out.truth;
    piece = refl;
    asked = asked_all before p audit rested old back done;
  },
)
