-- Events that are done one after another until a volume is quiet: none of them is one of a merge.
use Rattle.std.proofs.Common.{◌≡◌, ◌⊎◌, ℕ, inl, inr, Bool, true, false, List, [], ◌∷◌, length, map, Option, Some, None, refl, sym, ◌∙◌, ap, subst}
use Rattle.std.specs.Prelude.{◌==◌, ◌&&◌, ◌||◌}
use Rattle.std.specs.List.{list_all, list_any}
use Rattle.std.proofs.lemmas.Bool.{and_parts, cases_Bool, true≢false}
use Rattle.std.proofs.lemmas.List.{length-map}
use Rattle.device.specs.Layers.{Layer}
use Rattle.plain_machine.specs.declared.event.Event.{Event}
use Rattle.plain_machine.specs.declared.event.Event.TheVariants.{CopyRead}
use Rattle.plain_machine.specs.declared.event.Outcome.{Outcome}
use Rattle.plain_machine.specs.declared.event.Outcome.TheVariants.{Done}
use Rattle.plain_machine.specs.declared.request.Dev.{Dev}
use Rattle.plain_machine.specs.declared.request.Dev.TheVariants.{Origin, Snap}
use Rattle.plain_machine.specs.declared.request.Reply.{Reply}
use Rattle.in_flight.specs.declared.copies.ChunkCopy.{ChunkCopy}
use Rattle.in_flight.specs.declared.copies.Stage.TheVariants.{Read, Waiting}
use Rattle.in_flight.specs.declared.flights.Flight.{Flight}
use Rattle.in_flight.specs.Due.{first_by, is_issuable, number_of_flight}
use Rattle.volume_laws.specs.Due.{copy_of, least_of}
use Rattle.whole_commands.proofs.Each.{Each}
use Rattle.volume_laws.specs.MergeDue.{has_group}
use Rattle.event_machine.specs.Held.{SnapHeld, Moving}
use Rattle.event_machine.specs.Due.{due}
use Rattle.event_machine.specs.MergeDue.{due_all}
use Rattle.event_machine.specs.Seen.{copying_of, going_of, replied_by}
use Rattle.event_machine.specs.Stepping.{is_copy, stepped}
use Rattle.snapshot.specs.Kept.{Kept, due_of_kept}
use Rattle.snapshot_list.specs.Finding.{has_copy_at, is_copy_of}
use Rattle.merge.specs.Due.{has_group_of}
use Rattle.merge.specs.Merging.{Merging, books_of as merging_books}
use Rattle.volume.specs.EventKinds.{is_of_merge}
use Rattle.volume.specs.Exact.{IsExact}
use Rattle.volume.specs.Leaving.{has_group_in, is_quiet_of}
use Rattle.volume.specs.Moved.{held_of, moving_of}
use Rattle.volume.specs.Reaching.{IsRun, Reaches}
use Rattle.volume.specs.Stepping.{KeepsAll}
use Rattle.volume.specs.Volumed.{Volumed, is_loud_in_all}
use Rattle.volume.proofs.Reaches.{reaches_none, reaches_more}
use Rattle.counted_volume.proofs.Freed.{step_keeps, beside_steps, beside_due, freed, free_seen}
use Rattle.counted_volume.specs.Following.{following, all_following, grouped, is_alone, is_of_origin, is_origin, AreAllDone, AreCarried, GoesOn, IsAlone, IsFollowed, IsNextDue, IsOn, IsReadFirst, StandsAt}
use Rattle.counted_volume.proofs.Follows.{Follows}
use Rattle.counted_volume.proofs.Carried.{AllFollow, follows}
use Rattle.counted_volume.proofs.NextRead.{dull_after, next_first, no_merge, stands_map}
use Rattle.counted_volume.proofs.Unmarked.{AreDullBut, IsAloneIn, IsOrigins, all_follow, held_alone}
use Rattle.counted_volume.proofs.Settled.{keeps_none, keeps_more}

-- so far
pub record RunsBeside {B : Type 0} (contents : B → List ℕ) (layers : B → List Layer) (size : B → ℕ) (before after : Option Reply) (old new : Volumed B) : Type 0 where
  pub run : IsRun contents layers before after old new
  pub kept : KeepsAll size old new
  pub requests : new.requests ≡ old.requests
  pub free : is_loud_in_all layers old ≡ true → grouped (moving_of contents layers None new).merge ≡ []

module _ {B : Type 0} (contents : B → List ℕ) (layers : B → List Layer) (size : B → ℕ) where
  pub beside_none : (replied : Option Reply) (v : Volumed B) → has_group_in v.merge ≡ false → RunsBeside contents layers size replied replied v v
  beside_none replied v free = record {
    run = record { reaches = λ loud. reaches_none (moving_of contents layers replied v); loud = refl };
    kept = keeps_none size v;
    requests = refl;
    free = λ loud. freed contents layers v.merge free;
  }

  module _ (before after : Option Reply) (v w u : Volumed B) (event : Event) (outcome : Outcome) (r : RunsBeside contents layers size before after v w) (busy : is_quiet_of w ≡ false)
      (first : (replied : Option Reply) → due_all (moving_of contents layers replied w) ≡ Some event)
      (calm : is_of_merge event ≡ true → has_group_in w.merge ≡ false → is_quiet_of w ≡ true)
      (seen : is_of_merge event ≡ true → (m : Merging B) → w.merge ≡ Some m → has_group_of m.group ≡ has_group (merging_books contents true m)) where
    -- where no device drops writes, the event is none of the merge
    beside : is_loud_in_all layers v ≡ true → is_of_merge event ≡ false
    beside loud = elim (cases_Bool (is_of_merge event)) [
      | inl merges ↦ absurd (true≢false (sym (calm merges (free_seen contents layers w.merge (r.free loud) (seen merges))) ∙ busy))
      | inr other ↦ other
    ]

    -- one event more
    pub beside_more : IsExact contents layers event outcome w u → is_loud_in_all layers u ≡ is_loud_in_all layers w → KeepsAll size w u → u.requests ≡ w.requests → RunsBeside contents layers size before (replied_by outcome after) v u
    beside_more e loud kept requests = record {
      run = record {
        reaches = λ all. reaches_more (moving_of contents layers before v) (moving_of contents layers after w) (moving_of contents layers (replied_by outcome after) u) event (r.run.reaches all)
            (beside_due event (moving_of contents layers after w) (first after) (beside all)) (sym (beside_steps event (moving_of contents layers after w) (r.free all) (beside all)) ∙ e.step (r.run.loud ∙ all) after);
        loud = loud ∙ r.run.loud;
      };
      kept = keeps_more size v w u r.kept kept;
      requests = requests ∙ r.requests;
      free = λ all.
          let step : stepped event (moving_of contents layers None w) ≡ moving_of contents layers (replied_by outcome None) u = sym (beside_steps event (moving_of contents layers None w) (r.free all) (beside all)) ∙ e.step (r.run.loud ∙ all) None in
          ap (λ (x : Moving). grouped x.merge) (sym step) ∙ step_keeps [] event (moving_of contents layers None w) (r.free all);
    }

-- a copy that is alone in a volume is so in the machine
origin_dev : (dev : Dev) → is_origin dev ≡ true → dev ≡ Origin
origin_dev Origin e = refl
origin_dev (Snap n) e = absurd (true≢false (sym e))

module _ {B : Type 0} (contents : B → List ℕ) (layers : B → List Layer) (n : ℕ) where
  same_copy : (copies : List ChunkCopy) → list_any (is_copy Read n) (map copying_of copies) ≡ list_any (is_copy_of Read n) copies
  same_copy [] = refl
  same_copy (p ∷ copies) = ap (λ (b : Bool). is_copy_of Read n p || b) (same_copy copies)

  same_alone : (s : Kept B) → held_alone n (held_of contents layers s) ≡ is_alone n s
  same_alone s = ap (λ (b : Bool). b && (length (map copying_of s.copies) == 1)) (same_copy s.copies) ∙ ap (λ (k : ℕ). has_copy_at Read n s && (k == 1)) (length-map s.copies copying_of)

  all_alone : (snaps : List (Kept B)) → list_any (held_alone n) (map (held_of contents layers) snaps) ≡ list_any (is_alone n) snaps
  all_alone [] = refl
  all_alone (s ∷ snaps) = ap (λ (b : Bool). b || list_any (held_alone n) (map (held_of contents layers) snaps)) (same_alone s) ∙ ap (λ (b : Bool). is_alone n s || b) (all_alone snaps)

  all_origins : (flights : List Flight) → list_all is_of_origin flights ≡ true → Each IsOrigins (map going_of flights)
  all_origins [] e = tt
  all_origins (f ∷ flights) e = (let both = and_parts (is_of_origin f) (list_all is_of_origin flights) e in (origin_dev f.request.dev both.0, all_origins flights both.1))

  seen_alone : (v : Volumed B) (replied : Option Reply) → IsAlone n v → IsAloneIn n (moving_of contents layers replied v)
  seen_alone v replied a = record { copy = all_alone v.snaps ∙ a.copy; requests = all_origins v.flights a.requests }

-- what is known to follow an event that was due first is done, or nothing is
module _ {B : Type 0} (contents : B → List ℕ) (layers : B → List Layer) (size : B → ℕ) where
  -- of the machine: it is a step of it, or none
  follow_reaches : (m w u : Moving) (next : Event) → Reaches m w → (due w ≡ Some next) ⊎ (stepped next w ≡ w) → stepped next w ≡ u → Reaches m u
  follow_reaches m w u next r first step = elim first [
    | inl due_first ↦ reaches_more m w u next r due_first step
    | inr still ↦ subst (Reaches m) (sym still ∙ step) r
  ]

  module _ (first before after : Reply) (v p x : Volumed B) (event : Event) (outcome : Outcome) (on : IsOn contents layers first before v p) (exact : IsExact contents layers event outcome p x) (loud : is_loud_in_all layers x ≡ is_loud_in_all layers p)
      (other : is_loud_in_all layers v ≡ true → is_of_merge event ≡ false) where
    on_step : is_loud_in_all layers v ≡ true → (replied : Option Reply) → stepped event (moving_of contents layers replied p) ≡ moving_of contents layers (replied_by outcome replied) x
    on_step all replied = sym (beside_steps event (moving_of contents layers replied p) (on.free all) (other all)) ∙ exact.step (on.run.loud ∙ all) replied

    -- one event more, which is first due or changes nothing
    on_more : (is_loud_in_all layers v ≡ true → Follows event (moving_of contents layers (Some before) p)) → Some after ≡ replied_by outcome (Some before) → IsOn contents layers first after v x
    on_more law told = record {
      run = record {
        reaches = λ all. follow_reaches (moving_of contents layers (Some first) v) (moving_of contents layers (Some before) p) (moving_of contents layers (Some after) x) event (on.run.reaches all) (law all)
            (on_step all (Some before) ∙ ap (λ (a : Option Reply). moving_of contents layers a x) (sym told));
        loud = loud ∙ on.run.loud;
      };
      free = λ all. ap (λ (m : Moving). grouped m.merge) (sym (on_step all None)) ∙ step_keeps [] event (moving_of contents layers None p) (on.free all);
    }

  -- and some more that follow one another
  carried_on : (events : List Event) (first before after : Reply) (v p q : Volumed B) → IsOn contents layers first before v p → (is_loud_in_all layers v ≡ true → (replied : Option Reply) → AllFollow events (moving_of contents layers replied p))
      → AreCarried contents layers events before after p q → IsOn contents layers first after v q
  carried_on [] first before after v p q on law (same, told) = subst (λ (y : Volumed B). IsOn contents layers first after v y) (sym same) (subst (λ (a : Reply). IsOn contents layers first a v p) (sym told) on)
  carried_on (event ∷ events) first before after v p q on law (inl (same, told)) = subst (λ (y : Volumed B). IsOn contents layers first after v y) (sym same) (subst (λ (a : Reply). IsOn contents layers first a v p) (sym told) on)
  carried_on (event ∷ events) first before after v p q on law (inr (outcome, x, exact, loud, inl (same, told))) =
      subst (λ (y : Volumed B). IsOn contents layers first after v y) (sym same) (on_more first before after v p x event outcome on exact loud (λ all. (law all None).1) (λ all. (law all (Some before)).0) told)
  carried_on (event ∷ events) first before after v p q on law (inr (outcome, x, exact, loud, inr (done, rest))) =
      let told : Some before ≡ replied_by outcome (Some before) = sym (ap (λ (o : Outcome). replied_by o (Some before)) done) in
      let next : IsOn contents layers first before v x = on_more first before before v p x event outcome on exact loud (λ all. (law all None).1) (λ all. (law all (Some before)).0) told in
      let reached : is_loud_in_all layers v ≡ true → (replied : Option Reply) → stepped event (moving_of contents layers replied p) ≡ moving_of contents layers replied x =
      λ all replied. on_step first before before v p x event outcome on exact loud (λ sure. (law sure None).1) all replied ∙ ap (λ (o : Outcome). moving_of contents layers (replied_by o replied) x) done in
      carried_on events first before after v x q next (λ all replied. subst (AllFollow events) (reached all replied) (law all replied).2) rest

  -- and all of some that follow one another: the machine's steps
  abbrev steps_of : List Event → Moving → Moving
  steps_of [] m = m
  steps_of (event ∷ events) m = steps_of events (stepped event m)

  all_done_on : (events : List Event) (first before : Reply) (v p q : Volumed B) → IsOn contents layers first before v p → (is_loud_in_all layers v ≡ true → (replied : Option Reply) → AllFollow events (moving_of contents layers replied p))
      → AreAllDone contents layers events p q → is_loud_in_all layers v ≡ true → (replied : Option Reply) → steps_of events (moving_of contents layers replied p) ≡ moving_of contents layers replied q
  all_done_on [] first before v p q on law same all replied = ap (moving_of contents layers replied) (sym same)
  all_done_on (event ∷ events) first before v p q on law (x, exact, loud, rest) all replied =
      let next : IsOn contents layers first before v x = on_more first before before v p x event Done on exact loud (λ sure. (law sure None).1) (λ sure. (law sure (Some before)).0) refl in
      let reached : is_loud_in_all layers v ≡ true → (last : Option Reply) → stepped event (moving_of contents layers last p) ≡ moving_of contents layers last x = on_step first before before v p x event Done on exact loud (λ sure. (law sure None).1) in
      ap (steps_of events) (reached all replied) ∙ all_done_on events first before v x q next (λ sure last. subst (AllFollow events) (reached sure last) (law sure last).2) rest all replied

  -- from a volume itself
  self_on : (reply : Reply) (v : Volumed B) → (is_loud_in_all layers v ≡ true → grouped (moving_of contents layers None v).merge ≡ []) → IsOn contents layers reply reply v v
  self_on reply v free = record { run = record { reaches = λ all. reaches_none (moving_of contents layers (Some reply) v); loud = refl }; free = free }

  -- after the read of the copy n, which was due first
  module _ (n : ℕ) (u : Volumed B) (was : IsReadFirst contents layers n u) where
    read_law : (s : ℕ) → is_loud_in_all layers u ≡ true → (replied : Option Reply) → AllFollow (following (CopyRead n) s) (moving_of contents layers replied u)
    read_law s all replied = (let f = was.first all replied in subst (AllFollow (following (CopyRead n) s)) f.2 (follows (CopyRead n) s f.0 f.1))

    alone_law : (s : ℕ) → IsAlone n u → is_loud_in_all layers u ≡ true → (replied : Option Reply) → AllFollow (all_following n s) (moving_of contents layers replied u)
    alone_law s alone all replied =
        let f = was.first all replied in
        subst (AllFollow (all_following n s)) f.2 (all_follow n s f.0 f.1 (subst (IsAloneIn n) (sym f.2) (seen_alone contents layers n u replied alone)))

    pub read_goes : (before after : Reply) (x : Volumed B) → IsFollowed contents layers (CopyRead n) before after u x → GoesOn contents layers before after u x
    read_goes before after x (inl (s, carried)) first v on = carried_on (following (CopyRead n) s) first before after v u x on (λ all replied. read_law s (on.run.loud ∙ all) replied) carried
    read_goes before after x (inr (t, s, is, alone, carried)) first v on =
        let same : t ≡ n = cc in
        let law : (j : ℕ) → j ≡ n → IsAlone j u → is_loud_in_all layers u ≡ true → (replied : Option Reply) → AllFollow (all_following j s) (moving_of contents layers replied u) =
        λ j e one all replied. subst (λ (i : ℕ). AllFollow (all_following i s) (moving_of contents layers replied u)) (sym e) (alone_law s (subst (λ (i : ℕ). IsAlone i u) e one) all replied) in
        carried_on (all_following t s) first before after v u x on (λ all replied. law t same alone (on.run.loud ∙ all) replied) carried

    -- and after all that follows it, what comes next is due first
    module _ (next : Event) (x : Volumed B) (r : IsNextDue contents layers n next u x) where
      next_due : Reply → is_loud_in_all layers u ≡ true → (replied : Option Reply) → due (moving_of contents layers replied x) ≡ Some next
      next_due reply all replied =
          let f = was.first all replied in
          let held : SnapHeld = held_of contents layers r.here.0 in
          let at : StandsAt r.place (stepped (CopyRead n) f.0).snaps held = subst (λ (m : Moving). StandsAt r.place m.snaps held) (sym f.2) (stands_map (held_of contents layers) u.snaps r.place r.here.0 r.here.1) in
          let dull = dull_after n r.snap r.place f.0 held f.1 (subst (IsAloneIn n) (sym f.2) (seen_alone contents layers n u replied r.alone)) at (same_copy contents layers n r.here.0.copies ∙ r.here.2) in
          let ends = ap (steps_of (all_following n r.snap)) f.2 ∙ all_done_on (all_following n r.snap) reply reply u u x (self_on reply u was.free) (alone_law r.snap r.alone) r.done all replied in
          next_first contents layers r.place next (moving_of contents layers replied x) x.snaps x.flights r.there.0 refl refl (subst (AreDullBut r.place) ends dull) r.there.1 r.there.2 r.waiting

      none_merges : is_of_merge next ≡ false
      none_merges = no_merge (least_of (copy_of Waiting) (map (due_of_kept contents layers) x.snaps)) (first_by is_issuable number_of_flight x.flights) next r.waiting

      pub next_goes : (before mid after : Reply) (y : Volumed B) → IsFollowed contents layers (CopyRead n) before mid u x → AreCarried contents layers (next ∷ []) mid after x y → GoesOn contents layers before after u y
      next_goes before mid after y followed carried first v on =
          carried_on (next ∷ []) first mid after v x y (read_goes before mid x followed first v on) (λ all replied. (inl (next_due mid (on.run.loud ∙ all) replied), none_merges, tt)) carried

      -- where that is a read
      pub next_read : (k : ℕ) (before mid : Reply) (y : Volumed B) → next ≡ CopyRead k → IsFollowed contents layers (CopyRead n) before mid u x → is_loud_in_all layers x ≡ is_loud_in_all layers u → IsExact contents layers (CopyRead k) Done x y
          → is_loud_in_all layers y ≡ is_loud_in_all layers x → IsReadFirst contents layers k y
      next_read k before mid y is followed quiet exact loud =
          let on : IsOn contents layers before mid u x = read_goes before mid x followed before u (self_on before u was.free) in
          let other : is_loud_in_all layers u ≡ true → is_of_merge (CopyRead k) ≡ false = λ all. refl in
          record {
            first = λ all replied. (moving_of contents layers replied x, next_due mid (sym quiet ∙ sym loud ∙ all) replied ∙ ap Some is, on_step before mid mid u x y (CopyRead k) Done on exact loud other (sym quiet ∙ sym loud ∙ all) replied);
            free = λ all. (on_more before mid mid u x y (CopyRead k) Done on exact loud other (λ sure. inl (next_due mid sure (Some mid) ∙ ap Some is)) refl).free (sym quiet ∙ sym loud ∙ all);
          }

  module _ (before after again : Reply) (v w u x : Volumed B) (event : Event) (r : RunsBeside contents layers size (Some before) (Some after) v w) (busy : is_quiet_of w ≡ false)
      (first : (replied : Option Reply) → due_all (moving_of contents layers replied w) ≡ Some event)
      (calm : is_of_merge event ≡ true → has_group_in w.merge ≡ false → is_quiet_of w ≡ true)
      (seen : is_of_merge event ≡ true → (m : Merging B) → w.merge ≡ Some m → has_group_of m.group ≡ has_group (merging_books contents true m))
      (exact : IsExact contents layers event Done w u) (loud : is_loud_in_all layers u ≡ is_loud_in_all layers w) (kept : KeepsAll size w u) (requests : u.requests ≡ w.requests)
      (more_loud : is_loud_in_all layers x ≡ is_loud_in_all layers u) (more_kept : KeepsAll size u x) (more_requests : x.requests ≡ u.requests) where
    so_far : RunsBeside contents layers size (Some before) (Some after) v u
    so_far = beside_more contents layers size (Some before) (Some after) v w u event Done r busy first calm seen exact loud kept requests

    -- the event that was done, in the machine
    was_due : (all : is_loud_in_all layers v ≡ true) (replied : Option Reply) → due (moving_of contents layers replied w) ≡ Some event
    was_due all replied = beside_due event (moving_of contents layers replied w) (first replied) (beside contents layers size (Some before) (Some after) v w u event Done r busy first calm seen all)

    was_done : (all : is_loud_in_all layers v ≡ true) (replied : Option Reply) → stepped event (moving_of contents layers replied w) ≡ moving_of contents layers replied u
    was_done all replied =
        sym (beside_steps event (moving_of contents layers replied w) (r.free all) (beside contents layers size (Some before) (Some after) v w u event Done r busy first calm seen all)) ∙ exact.step (r.run.loud ∙ all) replied

    -- these events follow, and were done
    followed : (events : List Event) → (is_loud_in_all layers v ≡ true → (replied : Option Reply) → AllFollow events (moving_of contents layers replied u)) → AreCarried contents layers events after again u x → RunsBeside contents layers size (Some before) (Some again) v x
    followed events law carried =
        let on : IsOn contents layers before again v x = carried_on events before after again v u x (record { run = so_far.run; free = so_far.free }) law carried in
        record {
          run = on.run;
          kept = keeps_more size v u x so_far.kept more_kept;
          requests = more_requests ∙ so_far.requests;
          free = on.free;
        }

    pub beside_followed : IsFollowed contents layers event after again u x → RunsBeside contents layers size (Some before) (Some again) v x
    beside_followed (inl (s, carried)) =
        followed (following event s) (λ all replied. subst (AllFollow (following event s)) (was_done all replied) (follows event s (moving_of contents layers replied w) (was_due all replied))) carried
    beside_followed (inr (n, s, is, alone, carried)) =
        let law : is_loud_in_all layers v ≡ true → (replied : Option Reply) → AllFollow (all_following n s) (moving_of contents layers replied u) = λ all replied.
        (let step : stepped (CopyRead n) (moving_of contents layers replied w) ≡ moving_of contents layers replied u = ap (λ (e : Event). stepped e (moving_of contents layers replied w)) (sym is) ∙ was_done all replied in
        subst (AllFollow (all_following n s)) step
        (all_follow n s (moving_of contents layers replied w) (was_due all replied ∙ ap Some is) (subst (IsAloneIn n) (sym step) (seen_alone contents layers n u replied alone)))) in
        followed (all_following n s) law carried
