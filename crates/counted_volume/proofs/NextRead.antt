-- After the copy that was read first is done, its mark taken away, the read of the copy with the least number is due first, or a request.
use Rattle.std.proofs.Common.{◌≡◌, ℕ, zero, suc, ◌+◌, Bool, true, false, List, [], ◌∷◌, ◌++◌, length, map, get_or, Option, Some, None, refl, ap, ◌∙◌, sym, subst, arith}
use Rattle.std.specs.Prelude.{◌==◌, ◌&&◌, ◌||◌, not, if◌then◌else◌, IfSome}
use Rattle.std.specs.List.{list_any}
use Rattle.std.proofs.lemmas.Bool.{cond-false, eqb-true, not-false, or_parts, true≢false}
use Rattle.std.proofs.lemmas.List.{length-map}
use Rattle.device.specs.Layers.{Layer}
use Rattle.plain_machine.specs.declared.event.Event.{Event}
use Rattle.plain_machine.specs.declared.event.Event.TheVariants.{Issue, CopyRead, CopyWrite, WriteArea, Publish, FlushStore}
use Rattle.in_flight.specs.declared.copies.ChunkCopy.{ChunkCopy}
use Rattle.in_flight.specs.declared.copies.Mark.{Mark}
use Rattle.in_flight.specs.declared.copies.Stage.{Stage}
use Rattle.in_flight.specs.declared.copies.Stage.TheVariants.{Waiting, Read, Written, Flushed}
use Rattle.in_flight.specs.declared.flights.Flight.{Flight}
use Rattle.in_flight.specs.Due.{first_by, is_copy_at, is_issuable as is_issuable_in, is_stage, least, number_of_copy, number_of_flight, number_of_mark}
use Rattle.volume_laws.specs.Due.{copy_of, event_or, is_unsafe, least_of}
use Rattle.whole_commands.proofs.Each.{Each, each_weaker}
use Rattle.event_machine.specs.Held.{Copying, SnapHeld, Moving, number_of}
use Rattle.event_machine.specs.Due.{can_mark, can_flush_store, can_commit, can_zero, copy_at, is_at, is_front_ready, is_front_unflushed, needs_area, waits_for_area, publishable_in, is_issuable, is_publishable, least_in, number_of_copying, number_of_going, due}
use Rattle.event_machine.specs.Seen.{copying_of, going_of}
use Rattle.event_machine.specs.Stepping.{stepped}
use Rattle.event_machine.proofs.Lists.{nowhere_by, nowhere_least}
use Rattle.snapshot.specs.Kept.{Kept, due_of_kept}
use Rattle.snapshot_list.specs.Busy.{is_begun, is_busy, waiting_due}
use Rattle.volume.specs.EventKinds.{is_of_merge}
use Rattle.volume.specs.Moved.{held_of}
use Rattle.counted_volume.specs.Following.{StandsAt}
use Rattle.counted_volume.proofs.Follows.{has_read, read_chosen}
use Rattle.counted_volume.proofs.Unmarked.{AreDullBut, IsAloneIn, IsDull, flush_none, five_rest, stepped_stands}

-- of what there may be
pub if_any : {X P : Type 0} (o : Option X) → P → IfSome o (λ x. P)
if_any None p = tt
if_any (Some x) p = p

pub if_is : {X : Type 0} (o p : Option X) → p ≡ o → IfSome o (λ x. p ≡ Some x)
if_is None p e = tt
if_is (Some x) p e = e

pub if_both : {X P : Type 0} {Q R : X → Type 0} (o : Option X) → IfSome o (λ x. P) → IfSome o Q → ((x : X) → P → Q x → R x) → IfSome o R
if_both None p q f = tt
if_both (Some x) p q f = f x p q

-- the place of an element that passes a test as no other does
each_stands : {X : Type 0} (P : X → Type 0) (xs : List X) (k : ℕ) (x : X) → Each P xs → StandsAt k xs x → P x
each_stands P [] k x all at = absurd (omega (arith, at.0))
each_stands P (y ∷ xs) zero x all at = subst P (sym at.1) all.0
each_stands P (y ∷ xs) (suc k) x all at = (let lt = at.0 in each_stands P xs k x all.1 (omega (arith, lt), at.1))

stands_place : {X : Type 0} (test : X → Bool) (done rest : List X) (h x : X) (k : ℕ) → Each (λ d. test d ≡ false) done → Each (λ d. test d ≡ false) rest → StandsAt k (done ++ h ∷ rest) x → test x ≡ true → length done ≡ k
stands_place test [] rest h x zero before later at pass = refl
stands_place test [] rest h x (suc k) before later at pass = (let lt = at.0 in absurd (true≢false (sym pass ∙ each_stands (λ d. test d ≡ false) rest k x later (omega (arith, lt), at.1))))
stands_place test (d ∷ done) rest h x zero before later at pass = absurd (true≢false (sym pass ∙ ap test at.1 ∙ before.0))
stands_place test (d ∷ done) rest h x (suc k) before later at pass = (let lt = at.0 in ap suc (stands_place test done rest h x k before.1 later (omega (arith, lt), at.1) pass))

stands_here : {X : Type 0} (done rest : List X) (h x : X) (k : ℕ) → length done ≡ k → StandsAt k (done ++ h ∷ rest) x → x ≡ h
stands_here [] rest h x zero e at = at.1
stands_here [] rest h x (suc k) e at = absurd (cc)
stands_here (d ∷ done) rest h x zero e at = absurd (cc)
stands_here (d ∷ done) rest h x (suc k) e at = (let lt = at.0 in stands_here done rest h x k (omega (arith, e)) (omega (arith, lt), at.1))

get_map : {X Y : Type 0} (f : X → Y) (xs : List X) (k : ℕ) (x : X) → get_or (map f xs) k (f x) ≡ f (get_or xs k x)
get_map f [] k x = refl
get_map f (y ∷ xs) zero x = refl
get_map f (y ∷ xs) (suc k) x = get_map f xs k x

pub stands_map : {X Y : Type 0} (f : X → Y) (xs : List X) (k : ℕ) (x : X) → StandsAt k xs x → StandsAt k (map f xs) (f x)
stands_map f xs k x at = (let lt = at.0 in let same = length-map xs f in omega (arith, lt, same), ap f at.1 ∙ sym (get_map f xs k x))

-- a copy that does not wait to be read any more, and where there is none
abbrev begun : Copying → Bool
begun p = not (is_stage Waiting p.stage)

no_stage : (stage : Stage) → not (is_stage Waiting stage) ≡ false → (is_stage Read stage ≡ false) × (is_stage Written stage ≡ false) × (is_stage Flushed stage ≡ false)
no_stage Waiting e = (refl, refl, refl)
no_stage Read e = absurd (true≢false e)
no_stage Written e = absurd (true≢false e)
no_stage Flushed e = absurd (true≢false e)

none_read : (cs : List Copying) → list_any begun cs ≡ false → first_by (is_at Read) number_of_copying cs ≡ None
none_read [] e = refl
none_read (p ∷ cs) e = (let both = or_parts (begun p) (list_any begun cs) e in cond-false _ _ _ (no_stage p.stage both.0).0 ∙ none_read cs both.1)

none_unflushed : (cs : List Copying) → list_any begun cs ≡ false → is_front_unflushed cs ≡ false
none_unflushed [] e = refl
none_unflushed (p ∷ cs) e = (no_stage p.stage (or_parts (begun p) (list_any begun cs) e).0).1

none_ready : (cs : List Copying) → list_any begun cs ≡ false → is_front_ready cs ≡ false
none_ready [] e = refl
none_ready (p ∷ cs) e = (no_stage p.stage (or_parts (begun p) (list_any begun cs) e).0).2

-- one snapshot has no mark, none of its copies is begun, and no mark of its store is to be written; all others are dull
module _ (k : ℕ) (m : Moving) (d : AreDullBut k m) (tried : d.here.untried ≡ false) (marks : d.here.marks ≡ []) (waits : list_any begun d.here.copies ≡ false) where
  no_first : (test : SnapHeld → Bool) → ((h : SnapHeld) → IsDull h → test h ≡ false) → test d.here ≡ false → first_by test number_of m.snaps ≡ None
  no_first test dull own =
      ap (first_by test number_of) d.is ∙ nowhere_by test number_of d.done d.rest d.here (each_weaker IsDull (λ h. test h ≡ false) d.done dull d.before) own (each_weaker IsDull (λ h. test h ≡ false) d.rest dull d.later)

  no_least : (f : SnapHeld → Option ℕ) → ((h : SnapHeld) → IsDull h → f h ≡ None) → f d.here ≡ None → least_in f m.snaps ≡ None
  no_least f dull own = ap (least_in f) d.is ∙ nowhere_least f d.done d.rest d.here (each_weaker IsDull (λ h. f h ≡ None) d.done dull d.before) own (each_weaker IsDull (λ h. f h ≡ None) d.rest dull d.later)

  waiting_first : due m ≡ event_or (least_in (copy_at Waiting) m.snaps) CopyRead (event_or (first_by is_issuable number_of_going m.requests) Issue None)
  waiting_first =
      let here : SnapHeld = d.here in
      let ready : is_front_ready here.copies ≡ false = none_ready here.copies waits in
      rw (
        no_first can_mark (λ h i. i.mark) (ap (λ (b : Bool). b && not here.marked) tried),
        no_first can_flush_store (λ h i. i.flush) (flush_none here.untried here.marked (is_front_unflushed here.copies) (is_front_ready here.copies) (waits_for_area here && not (needs_area here)) (list_any is_unsafe here.marks) tried
            (none_unflushed here.copies waits) ready (ap (list_any is_unsafe) marks)),
        no_least (publishable_in m.requests) (λ h i. ap (first_by (is_publishable m.requests h) number_of_mark) i.marks) (ap (first_by (is_publishable m.requests here) number_of_mark) marks),
        no_first can_commit (λ h i. i.commit) (ap (λ (b : Bool). b && not (waits_for_area here)) ready),
        no_first can_zero (λ h i. i.zero) (ap (λ (b : Bool). b && needs_area here) ready),
        no_least (copy_at Read) (λ h i. i.read) (none_read here.copies waits),
      ) refl

-- the snapshot that had the copy n, which was read first and alone, is the one that may not be dull after all that follows
pub dull_after : (n s k : ℕ) (m : Moving) (h : SnapHeld) → due m ≡ Some (CopyRead n) → IsAloneIn n (stepped (CopyRead n) m) → StandsAt k (stepped (CopyRead n) m).snaps h → has_read n h ≡ true
    → AreDullBut k (stepped (Publish n) (stepped (FlushStore s) (stepped (WriteArea s) (stepped (FlushStore s) (stepped (CopyWrite n) (stepped (CopyRead n) m))))))
dull_after n s k m h is alone at has =
    let u : Moving = stepped (CopyRead n) m in
    let t = stepped_stands n m (read_chosen n _ _ _ _ _ _ _ _ is) alone in
    let place : length t.1.done ≡ k = stands_place (has_read n) t.1.done t.1.rest t.1.here h k t.2 t.3 (subst (λ (xs : List SnapHeld). StandsAt k xs h) t.1.is at) has in
    subst (λ (j : ℕ). AreDullBut j (stepped (Publish n) (stepped (FlushStore s) (stepped (WriteArea s) (stepped (FlushStore s) (stepped (CopyWrite n) u)))))) (sym t.1.place ∙ place) (five_rest n s u t)

-- what the volume's lists say is so in the machine
module _ {B : Type 0} (contents : B → List ℕ) (layers : B → List Layer) where
  same_begun : (cs : List ChunkCopy) → list_any begun (map copying_of cs) ≡ list_any is_begun cs
  same_begun [] = refl
  same_begun (c ∷ cs) = ap (λ (b : Bool). is_begun c || b) (same_begun cs)

  same_waiting : (cs : List ChunkCopy) → first_by (is_at Waiting) number_of_copying (map copying_of cs) ≡ first_by (is_copy_at Waiting) number_of_copy cs
  same_waiting [] = refl
  same_waiting (c ∷ cs) = ap (λ (o : Option ℕ). if is_copy_at Waiting c then Some c.number else o) (same_waiting cs)

  least_seen : (snaps : List (Kept B)) → least_in (copy_at Waiting) (map (held_of contents layers) snaps) ≡ least_of (copy_of Waiting) (map (due_of_kept contents layers) snaps)
  least_seen [] = refl
  least_seen (s ∷ snaps) = ap (λ (o : Option ℕ). least o (least_in (copy_at Waiting) (map (held_of contents layers) snaps))) (same_waiting s.copies) ∙ ap (least (first_by (is_copy_at Waiting) number_of_copy s.copies)) (least_seen snaps)

  no_marks : (marks : List Mark) → not (length marks == 0) ≡ false → marks ≡ []
  no_marks [] e = refl
  no_marks (m ∷ marks) e = (let z : length (m ∷ marks) ≡ 0 = eqb-true (length (m ∷ marks)) 0 (not-false _ e) in absurd (omega (arith, z)))

  same_routed : (fs : List Flight) → first_by is_issuable number_of_going (map going_of fs) ≡ first_by is_issuable_in number_of_flight fs
  same_routed [] = refl
  same_routed (f ∷ fs) = ap (λ (o : Option ℕ). if is_issuable_in f then Some f.number else o) (same_routed fs)

  -- so what comes first of those that wait is due first
  pub next_first : (k : ℕ) (next : Event) (m : Moving) (snaps : List (Kept B)) (fs : List Flight) (s : Kept B) → m.snaps ≡ map (held_of contents layers) snaps → m.requests ≡ map going_of fs → AreDullBut k m → StandsAt k snaps s → is_busy (due_of_kept contents layers s) ≡ false
      → waiting_due (map (due_of_kept contents layers) snaps) fs ≡ Some next → due m ≡ Some next
  next_first k next m snaps fs s is requests d at only waiting =
      let most = or_parts (s.untried || not (length s.marks == 0)) (list_any is_begun s.copies) only in
      let parts = or_parts s.untried (not (length s.marks == 0)) most.0 in
      let here : held_of contents layers s ≡ d.here = stands_here d.done d.rest d.here (held_of contents layers s) k d.place (subst (λ (xs : List SnapHeld). StandsAt k xs (held_of contents layers s)) (sym is ∙ d.is) (stands_map (held_of contents layers) snaps k s at)) in
      waiting_first k m d (ap (λ (h : SnapHeld). h.untried) (sym here) ∙ parts.0) (ap (λ (h : SnapHeld). h.marks) (sym here) ∙ no_marks s.marks parts.1)
      (ap (λ (h : SnapHeld). list_any begun h.copies) (sym here) ∙ same_begun s.copies ∙ most.1)
      ∙ ap (λ (o : Option ℕ). event_or o CopyRead (event_or (first_by is_issuable number_of_going m.requests) Issue None)) (ap (least_in (copy_at Waiting)) is ∙ least_seen snaps)
      ∙ ap (λ (o : Option ℕ). event_or (least_of (copy_of Waiting) (map (due_of_kept contents layers) snaps)) CopyRead (event_or o Issue None)) (ap (first_by is_issuable number_of_going) requests ∙ same_routed fs)
      ∙ waiting

-- and it is none of the merge
pub no_merge : (a b : Option ℕ) (next : Event) → event_or a CopyRead (event_or b Issue None) ≡ Some next → is_of_merge next ≡ false
no_merge (Some n) b next e = (let same : CopyRead n ≡ next = cc in ap is_of_merge (sym same))
no_merge None (Some n) next e = (let same : Issue n ≡ next = cc in ap is_of_merge (sym same))
no_merge None None next e = absurd (cc)
