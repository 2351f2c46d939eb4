-- What is found first is due first, and where nothing is, the volume is quiet.
use Rattle.std.proofs.Common.{◌≡◌, true, false, None, Some, refl, sym, ap, map, ◌∙◌, subst}
use Rattle.std.proofs.lemmas.Bool.{false≢true}
use Rattle.std.specs.Prelude.{IfNone, IfSome, Option}
use Rattle.plain_machine.specs.declared.event.Event.{Event}
use Rattle.volume_laws.specs.Due.{due_of}
use Rattle.volume_laws.specs.MergeDue.{has_group, merge_due as due_of_merge}
use Rattle.snapshot.specs.Kept.{due_of_kept, books_of as snap_books}
use Rattle.merge.specs.Due.{has_group_of}
use Rattle.merge.specs.Merging.{Merging, due_of as merging_due, books_of as merging_books}
use Rattle.volume.specs.Volumed.{Volumed, dues_of, next_of}
use Rattle.volume.proofs.MergeDue.{next_first, next_merge, next_none, due_all_is, full_starts, quiet_alone, quiet_merging}
use Rattle.volume.specs.EventKinds.{is_of_merge}
use Rattle.volume.specs.Leaving.{has_group_in, is_quiet_of}
use Rattle.volume.proofs.OwnKinds.{due_own, quiet_unmerged}
use Rattle.volume.proofs.volume.Volume.due.Goals as goal

pub merge_due-requires : goal.merge_due-requires
merge_due-requires g c =
    let v : Volumed g.row.B.Denot = record { origin = c.self.inside.origin; snaps = c.self.inside.snaps.items; merge = c.self.inside.merge; flights = c.self.inside.flights.items; requests = c.self.inside.requests; copies = c.self.inside.copies; attached = c.self.inside.attached } in
    record { begins = λ q full. full_starts g.B.Block.contents g.B.Block.layers g.B.Block.size v c.self.invariant.whole c.in-Some-merge.merge q c.in-Some-merge.is full }

pub returns-in-Some-clause-event : goal.returns-in-Some-clause-event
returns-in-Some-clause-event g c =
    let v : Volumed g.row.B.Denot = record { origin = c.self.inside.origin; snaps = c.self.inside.snaps.items; merge = c.self.inside.merge; flights = c.self.inside.flights.items; requests = c.self.inside.requests; copies = c.self.inside.copies; attached = c.self.inside.attached } in
    let first : c.first_due.result ≡ due_of (dues_of g.B.Block.contents g.B.Block.layers v) v.flights =
    c.first_due.ensures ∙ ap (λ xs. due_of (map (due_of_kept g.B.Block.contents g.B.Block.layers) xs) c.deref-2.result.now) c.deref.ensures.value
    ∙ ap (due_of (map (due_of_kept g.B.Block.contents g.B.Block.layers) c.self.inside.snaps.items)) c.deref-2.ensures.value in
    rw (← c.self.view_is) (sym (next_first g.B.Block.contents g.B.Block.layers v c.in-Some.event (sym first ∙ c.in-Some.is)))

pub returns-in-Some-clause-machine : goal.returns-in-Some-clause-machine
returns-in-Some-clause-machine g c =
    let v : Volumed g.row.B.Denot = record { origin = c.self.inside.origin; snaps = c.self.inside.snaps.items; merge = c.self.inside.merge; flights = c.self.inside.flights.items; requests = c.self.inside.requests; copies = c.self.inside.copies; attached = c.self.inside.attached } in
    let first : c.first_due.result ≡ due_of (dues_of g.B.Block.contents g.B.Block.layers v) v.flights =
    c.first_due.ensures ∙ ap (λ xs. due_of (map (due_of_kept g.B.Block.contents g.B.Block.layers) xs) c.deref-2.result.now) c.deref.ensures.value
    ∙ ap (due_of (map (due_of_kept g.B.Block.contents g.B.Block.layers) c.self.inside.snaps.items)) c.deref-2.ensures.value in
    rw (← c.self.view_is) (λ replied. due_all_is g.B.Block.contents g.B.Block.layers g.B.Block.size v c.self.invariant.whole replied ∙ next_first g.B.Block.contents g.B.Block.layers v c.in-Some.event (sym first ∙ c.in-Some.is))

pub returns-in-Some-merge-clause-event : goal.returns-in-Some-merge-clause-event
returns-in-Some-merge-clause-event g c =
    let v : Volumed g.row.B.Denot = record { origin = c.self.inside.origin; snaps = c.self.inside.snaps.items; merge = c.self.inside.merge; flights = c.self.inside.flights.items; requests = c.self.inside.requests; copies = c.self.inside.copies; attached = c.self.inside.attached } in
    let first : c.first_due.result ≡ due_of (dues_of g.B.Block.contents g.B.Block.layers v) v.flights =
    c.first_due.ensures ∙ ap (λ xs. due_of (map (due_of_kept g.B.Block.contents g.B.Block.layers) xs) c.deref-2.result.now) c.deref.ensures.value
    ∙ ap (due_of (map (due_of_kept g.B.Block.contents g.B.Block.layers) c.self.inside.snaps.items)) c.deref-2.ensures.value in
    let m = c.in-Some-merge.merge in
    let here : c.merge_due.result ≡ next_of g.B.Block.contents g.B.Block.layers v =
    c.merge_due.ensures
    ∙ ap (λ xs. due_of_merge (map (snap_books g.B.Block.contents g.B.Block.layers) xs) c.deref-in-Some-merge-2.result.now (merging_due g.B.Block.contents true m)) c.deref-in-Some-merge.ensures.value
    ∙ ap (λ fs. due_of_merge (map (snap_books g.B.Block.contents g.B.Block.layers) v.snaps) fs (merging_due g.B.Block.contents true m)) c.deref-in-Some-merge-2.ensures.value
    ∙ sym (next_merge g.B.Block.contents g.B.Block.layers v m c.in-Some-merge.is (sym first ∙ c.in-None.is)) in
    rw (← c.self.view_is) here

pub returns-in-Some-merge-clause-machine : goal.returns-in-Some-merge-clause-machine
returns-in-Some-merge-clause-machine g c =
    let v : Volumed g.row.B.Denot = record { origin = c.self.inside.origin; snaps = c.self.inside.snaps.items; merge = c.self.inside.merge; flights = c.self.inside.flights.items; requests = c.self.inside.requests; copies = c.self.inside.copies; attached = c.self.inside.attached } in
    let first : c.first_due.result ≡ due_of (dues_of g.B.Block.contents g.B.Block.layers v) v.flights =
    c.first_due.ensures ∙ ap (λ xs. due_of (map (due_of_kept g.B.Block.contents g.B.Block.layers) xs) c.deref-2.result.now) c.deref.ensures.value
    ∙ ap (due_of (map (due_of_kept g.B.Block.contents g.B.Block.layers) c.self.inside.snaps.items)) c.deref-2.ensures.value in
    let m = c.in-Some-merge.merge in
    let here : c.merge_due.result ≡ next_of g.B.Block.contents g.B.Block.layers v =
    c.merge_due.ensures
    ∙ ap (λ xs. due_of_merge (map (snap_books g.B.Block.contents g.B.Block.layers) xs) c.deref-in-Some-merge-2.result.now (merging_due g.B.Block.contents true m)) c.deref-in-Some-merge.ensures.value
    ∙ ap (λ fs. due_of_merge (map (snap_books g.B.Block.contents g.B.Block.layers) v.snaps) fs (merging_due g.B.Block.contents true m)) c.deref-in-Some-merge-2.ensures.value
    ∙ sym (next_merge g.B.Block.contents g.B.Block.layers v m c.in-Some-merge.is (sym first ∙ c.in-None.is)) in
    rw (← c.self.view_is) (λ replied. due_all_is g.B.Block.contents g.B.Block.layers g.B.Block.size v c.self.invariant.whole replied ∙ sym here)

pub returns-in-Some-merge-clause-quiet : goal.returns-in-Some-merge-clause-quiet
returns-in-Some-merge-clause-quiet g c =
    let v : Volumed g.row.B.Denot = record { origin = c.self.inside.origin; snaps = c.self.inside.snaps.items; merge = c.self.inside.merge; flights = c.self.inside.flights.items; requests = c.self.inside.requests; copies = c.self.inside.copies; attached = c.self.inside.attached } in
    let first : c.first_due.result ≡ due_of (dues_of g.B.Block.contents g.B.Block.layers v) v.flights =
    c.first_due.ensures ∙ ap (λ xs. due_of (map (due_of_kept g.B.Block.contents g.B.Block.layers) xs) c.deref-2.result.now) c.deref.ensures.value
    ∙ ap (due_of (map (due_of_kept g.B.Block.contents g.B.Block.layers) c.self.inside.snaps.items)) c.deref-2.ensures.value in
    let m = c.in-Some-merge.merge in
    let here : c.merge_due.result ≡ next_of g.B.Block.contents g.B.Block.layers v =
    c.merge_due.ensures
    ∙ ap (λ xs. due_of_merge (map (snap_books g.B.Block.contents g.B.Block.layers) xs) c.deref-in-Some-merge-2.result.now (merging_due g.B.Block.contents true m)) c.deref-in-Some-merge.ensures.value
    ∙ ap (λ fs. due_of_merge (map (snap_books g.B.Block.contents g.B.Block.layers) v.snaps) fs (merging_due g.B.Block.contents true m)) c.deref-in-Some-merge-2.ensures.value
    ∙ sym (next_merge g.B.Block.contents g.B.Block.layers v m c.in-Some-merge.is (sym first ∙ c.in-None.is)) in
    rw (← c.self.view_is) (none_quiet c.merge_due.result _
    (λ none. quiet_merging g.B.Block.contents g.B.Block.layers g.B.Block.size v c.self.invariant.whole m c.in-Some-merge.is (c.has_group.ensures.looks true) (sym here ∙ none)))
  where
    none_quiet : (found : Option Event) (A : Type 0) → (found ≡ None → A) → IfNone found A
    none_quiet None A h = h refl
    none_quiet (Some e) A h = tt

pub returns-in-None-merge-clause-event : goal.returns-in-None-merge-clause-event
returns-in-None-merge-clause-event g c =
    let v : Volumed g.row.B.Denot = record { origin = c.self.inside.origin; snaps = c.self.inside.snaps.items; merge = c.self.inside.merge; flights = c.self.inside.flights.items; requests = c.self.inside.requests; copies = c.self.inside.copies; attached = c.self.inside.attached } in
    let first : c.first_due.result ≡ due_of (dues_of g.B.Block.contents g.B.Block.layers v) v.flights =
    c.first_due.ensures ∙ ap (λ xs. due_of (map (due_of_kept g.B.Block.contents g.B.Block.layers) xs) c.deref-2.result.now) c.deref.ensures.value
    ∙ ap (due_of (map (due_of_kept g.B.Block.contents g.B.Block.layers) c.self.inside.snaps.items)) c.deref-2.ensures.value in
    rw (← c.self.view_is) (sym (next_none g.B.Block.contents g.B.Block.layers v c.in-None-merge.is (sym first ∙ c.in-None.is)))

pub returns-in-None-merge-clause-machine : goal.returns-in-None-merge-clause-machine
returns-in-None-merge-clause-machine g c =
    let v : Volumed g.row.B.Denot = record { origin = c.self.inside.origin; snaps = c.self.inside.snaps.items; merge = c.self.inside.merge; flights = c.self.inside.flights.items; requests = c.self.inside.requests; copies = c.self.inside.copies; attached = c.self.inside.attached } in
    let first : c.first_due.result ≡ due_of (dues_of g.B.Block.contents g.B.Block.layers v) v.flights =
    c.first_due.ensures ∙ ap (λ xs. due_of (map (due_of_kept g.B.Block.contents g.B.Block.layers) xs) c.deref-2.result.now) c.deref.ensures.value
    ∙ ap (due_of (map (due_of_kept g.B.Block.contents g.B.Block.layers) c.self.inside.snaps.items)) c.deref-2.ensures.value in
    rw (← c.self.view_is) (λ replied. due_all_is g.B.Block.contents g.B.Block.layers g.B.Block.size v c.self.invariant.whole replied ∙ next_none g.B.Block.contents g.B.Block.layers v c.in-None-merge.is (sym first ∙ c.in-None.is))

pub returns-in-None-merge-clause-quiet : goal.returns-in-None-merge-clause-quiet
returns-in-None-merge-clause-quiet g c =
    let v : Volumed g.row.B.Denot = record { origin = c.self.inside.origin; snaps = c.self.inside.snaps.items; merge = c.self.inside.merge; flights = c.self.inside.flights.items; requests = c.self.inside.requests; copies = c.self.inside.copies; attached = c.self.inside.attached } in
    let first : c.first_due.result ≡ due_of (dues_of g.B.Block.contents g.B.Block.layers v) v.flights =
    c.first_due.ensures ∙ ap (λ xs. due_of (map (due_of_kept g.B.Block.contents g.B.Block.layers) xs) c.deref-2.result.now) c.deref.ensures.value
    ∙ ap (due_of (map (due_of_kept g.B.Block.contents g.B.Block.layers) c.self.inside.snaps.items)) c.deref-2.ensures.value in
    rw (← c.self.view_is) (quiet_alone g.B.Block.contents g.B.Block.layers g.B.Block.size v c.self.invariant.whole c.in-None-merge.is
    (next_none g.B.Block.contents g.B.Block.layers v c.in-None-merge.is (sym first ∙ c.in-None.is)))

pub returns-in-Some-clause-calm : goal.returns-in-Some-clause-calm
returns-in-Some-clause-calm g c = λ merges free.
    let v : Volumed g.row.B.Denot = record { origin = c.self.inside.origin; snaps = c.self.inside.snaps.items; merge = c.self.inside.merge; flights = c.self.inside.flights.items; requests = c.self.inside.requests; copies = c.self.inside.copies; attached = c.self.inside.attached } in
    let first : c.first_due.result ≡ due_of (dues_of g.B.Block.contents g.B.Block.layers v) v.flights =
    c.first_due.ensures ∙ ap (λ xs. due_of (map (due_of_kept g.B.Block.contents g.B.Block.layers) xs) c.deref-2.result.now) c.deref.ensures.value
    ∙ ap (due_of (map (due_of_kept g.B.Block.contents g.B.Block.layers) c.self.inside.snaps.items)) c.deref-2.ensures.value in
    absurd (false≢true (sym (due_own (dues_of g.B.Block.contents g.B.Block.layers v) v.flights c.in-Some.event (sym first ∙ c.in-Some.is)) ∙ merges))

pub returns-in-Some-merge-clause-calm : goal.returns-in-Some-merge-clause-calm
returns-in-Some-merge-clause-calm g c =
    let v : Volumed g.row.B.Denot = record { origin = c.self.inside.origin; snaps = c.self.inside.snaps.items; merge = c.self.inside.merge; flights = c.self.inside.flights.items; requests = c.self.inside.requests; copies = c.self.inside.copies; attached = c.self.inside.attached } in
    let first : c.first_due.result ≡ due_of (dues_of g.B.Block.contents g.B.Block.layers v) v.flights =
    c.first_due.ensures ∙ ap (λ xs. due_of (map (due_of_kept g.B.Block.contents g.B.Block.layers) xs) c.deref-2.result.now) c.deref.ensures.value
    ∙ ap (due_of (map (due_of_kept g.B.Block.contents g.B.Block.layers) c.self.inside.snaps.items)) c.deref-2.ensures.value in
    rw (← c.self.view_is) (some_by c.merge_due.result (λ event. is_of_merge event ≡ true → has_group_in v.merge ≡ false → is_quiet_of v ≡ true)
    (λ event merges free. quiet_unmerged g.B.Block.contents g.B.Block.layers g.B.Block.size v c.self.invariant.whole c.in-Some-merge.merge c.in-Some-merge.is (c.has_group.ensures.looks true) free (sym first ∙ c.in-None.is)))
  where
    some_by : (found : Option Event) (P : Event → Type 0) → ((e : Event) → P e) → IfSome found P
    some_by None P h = tt
    some_by (Some e) P h = h e

pub returns-in-Some-clause-seen : goal.returns-in-Some-clause-seen
returns-in-Some-clause-seen g c = λ merges m is.
    let v : Volumed g.row.B.Denot = record { origin = c.self.inside.origin; snaps = c.self.inside.snaps.items; merge = c.self.inside.merge; flights = c.self.inside.flights.items; requests = c.self.inside.requests; copies = c.self.inside.copies; attached = c.self.inside.attached } in
    let first : c.first_due.result ≡ due_of (dues_of g.B.Block.contents g.B.Block.layers v) v.flights =
    c.first_due.ensures ∙ ap (λ xs. due_of (map (due_of_kept g.B.Block.contents g.B.Block.layers) xs) c.deref-2.result.now) c.deref.ensures.value
    ∙ ap (due_of (map (due_of_kept g.B.Block.contents g.B.Block.layers) c.self.inside.snaps.items)) c.deref-2.ensures.value in
    absurd (false≢true (sym (due_own (dues_of g.B.Block.contents g.B.Block.layers v) v.flights c.in-Some.event (sym first ∙ c.in-Some.is)) ∙ merges))

pub returns-in-Some-merge-clause-seen : goal.returns-in-Some-merge-clause-seen
returns-in-Some-merge-clause-seen g c =
    let v : Volumed g.row.B.Denot = record { origin = c.self.inside.origin; snaps = c.self.inside.snaps.items; merge = c.self.inside.merge; flights = c.self.inside.flights.items; requests = c.self.inside.requests; copies = c.self.inside.copies; attached = c.self.inside.attached } in
    rw (← c.self.view_is) (some_by c.merge_due.result (λ event. is_of_merge event ≡ true → (m : Merging g.row.B.Denot) → v.merge ≡ Some m → has_group_of m.group ≡ has_group (merging_books g.B.Block.contents true m))
    (λ event merges m is.
    (let two : Some c.in-Some-merge.merge ≡ Some m = sym c.in-Some-merge.is ∙ is in
    let same : c.in-Some-merge.merge ≡ m = cc in
    subst (λ (x : Merging g.row.B.Denot). has_group_of x.group ≡ has_group (merging_books g.B.Block.contents true x)) same (c.has_group.ensures.looks true).present)))
  where
    some_by : (found : Option Event) (P : Event → Type 0) → ((e : Event) → P e) → IfSome found P
    some_by None P h = tt
    some_by (Some e) P h = h e
