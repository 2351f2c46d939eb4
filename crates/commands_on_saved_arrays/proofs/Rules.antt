-- What each rule of a volume leaves of what is shown.
use Rattle.std.proofs.Common.{◌≡◌, inl, inr, ℕ, true, List, [], ◌∷◌, length, arith, refl, ap, ◌∙◌, sym, subst}
use Rattle.std.specs.Prelude.{if◌then◌else◌, Option, Some, None, Ok, Err, nat_lt, slice_get}
use Rattle.std.specs.List.{remove}
use Rattle.std.proofs.lemmas.Bool.{cases_Bool, cond-true, cond-false, lt-ltb}
use Rattle.sector.specs.declared.refusal.Refusal.TheVariants.{Invalid, NotFinished, NotMerging}
use Rattle.sector.specs.declared.pair.Pair.{Pair}
use Rattle.cow_format.specs.Picture.{picture}
use Rattle.volume_laws.proofs.Attaching.{picture_none}
use Rattle.whole_commands.specs.Snaps.{Snap, shown}
use Rattle.whole_commands.specs.Attaching.{detached, given_back}
use Rattle.whole_commands.specs.Merges.{Merge, pairs_in}
use Rattle.command_semantics.specs.State.{Stacked, Merging as Begun, Volume, merge_in}
use Rattle.command_semantics.specs.Messages.{snap_at}
use Rattle.command_semantics.specs.Raw.{names_at}
use Rattle.command_semantics.specs.Origins.{still}
use Rattle.command_semantics.specs.Merging.{unmerged, alive, begun, resumed_by, resumed, all_merged, finished_by, finished}
use Rattle.command_semantics.specs.Snapshots.{stack_of, parted}
use Rattle.command_semantics.proofs.Keeping.{came_by, same_ok, not_ok}
use Rattle.commands_on_saved_arrays.specs.Arrays.{Arrays, named_by, arrays_of}
use Rattle.commands_on_saved_arrays.specs.Shown.{IsMergedBack}
use Rattle.commands_on_saved_arrays.specs.Commands.{IsTakenAway}
use Rattle.commands_on_saved_arrays.specs.Well.{IsNumbered}
use Rattle.commands_on_saved_arrays.proofs.Lists.{snap_there, detached_here, named_less}
use Rattle.commands_on_saved_arrays.proofs.Tables.{names_here, named_at}
use Rattle.commands_on_saved_arrays.proofs.Settles.{arrays_by}

-- a merge begins
pub begun_shows : (k : ℕ) (volume new : Volume) → IsNumbered volume → begun k volume ≡ Ok new → IsMergedBack k (arrays_of volume) (arrays_of new)
unfolding begun
begun_shows k volume new numbered is =
    let a = came_by (unmerged volume) _ new is in
    let b = came_by (names_at k volume) _ new a.2 in
    let c = came_by (snap_at k volume.state) _ new b.2 in
    let d = came_by (alive c.0) _ new c.2 in
    let e = came_by (still volume) _ new d.2 in
    let disk : List ℕ = volume.state.origin.bytes in
    let at : slice_get volume.state.snaps k ≡ Some c.0 = snap_there k volume.state c.0 c.1 in
    let name : slice_get volume.snaps k ≡ Some b.0 = names_here k volume b.0 b.1 in
    let less : named_by disk (remove volume.snaps k) (detached c.0.number volume.state.snaps) ≡ remove (named_by disk volume.snaps volume.state.snaps) k =
    ap (named_by disk (remove volume.snaps k)) (detached_here k volume.state.snaps c.0 numbered.numbers at) ∙ named_less disk k volume.snaps volume.state.snaps numbered.named in
    subst (λ (v : Volume). IsMergedBack k (arrays_of volume) (arrays_of v)) (same_ok _ new e.2) (record {
      snapshot = record { name = b.0.snapshot; saved = shown disk c.0 };
      was = named_at disk k volume.snaps volume.state.snaps b.0 c.0 name at;
      name = refl;
      array = cond-true _ _ _ (live c.0 d.0 d.1);
      snaps = less;
    })
  where
    live : (s : Snap) (done : Unit {0}) → alive s ≡ Ok done → s.live ≡ true
    live s done h = elim (cases_Bool s.live) [
      | inl on ↦ on
      | inr out ↦ absurd (not_ok Invalid done (sym (cond-false _ _ _ out) ∙ h))
    ]

-- a merge that failed goes on
pub resumed_shows : (volume new : Volume) → resumed volume ≡ Ok new → arrays_of new ≡ arrays_of volume
unfolding resumed
resumed_shows volume new is = by volume.merging refl is
  where
    by : (g : Option Begun) → volume.merging ≡ g → resumed_by g volume ≡ Ok new → arrays_of new ≡ arrays_of volume
    by None e h = absurd (not_ok NotMerging new h)
    by (Some g) e h = ap arrays_of (sym (same_ok _ new h)) ∙ ap (λ (o : Option Begun). arrays_by volume.origin volume.snaps (merge_in o) volume.state) (sym e)

-- a merge is finished
pub finished_shows : (volume : Volume) (parts : Stacked × Volume) → finished volume ≡ Ok parts → arrays_of parts.1 ≡ arrays_of volume
unfolding finished
finished_shows volume parts is = by volume.merging refl is
  where
    none_left : (g : Merge) (done : Unit {0}) → all_merged g ≡ Ok done → pairs_in g ≡ []
    none_left g done h = of (pairs_in g) h
      where
        of : (ps : List Pair) → (if nat_lt 0 (length ps) then Err NotFinished else Ok tt) ≡ Ok done → ps ≡ []
        of [] h = refl
        of (p ∷ ps) h = absurd (not_ok NotFinished done (sym (cond-true _ _ _ (lt-ltb 0 (length (p ∷ ps)) (omega arith))) ∙ h))

    by : (g : Option Begun) → volume.merging ≡ g → finished_by g volume ≡ Ok parts → arrays_of parts.1 ≡ arrays_of volume
    by None e h = absurd (not_ok NotFinished parts h)
    by (Some g) e h =
        let a = came_by (all_merged g.merge) _ parts h in
        let b = came_by (still volume) _ parts a.2 in
        let disk : List ℕ = volume.state.origin.bytes in
        let plain : picture g.merge.chunk disk g.merge.store.bytes ≡ disk = picture_none g.merge.chunk disk g.merge.store.bytes (none_left g.merge a.0 a.1) in
        ap (λ (p : Stacked × Volume). arrays_of p.1) (sym (same_ok _ parts b.2))
        ∙ ap (λ xs. let r : Arrays = record { name = volume.origin; array = xs; snaps = named_by disk volume.snaps volume.state.snaps } in r) (sym plain)
        ∙ ap (λ (o : Option Begun). arrays_by volume.origin volume.snaps (merge_in o) volume.state) (sym e)

-- a snapshot goes
pub parted_shows : (k : ℕ) (volume : Volume) (parts : Stacked × Volume) → IsNumbered volume → parted k volume ≡ Ok parts → IsTakenAway k (arrays_of volume) (arrays_of parts.1)
unfolding parted
parted_shows k volume parts numbered is =
    let a = came_by (names_at k volume) _ parts is in
    let b = came_by (snap_at k volume.state) _ parts a.2 in
    let c = came_by (still volume) _ parts b.2 in
    let d = came_by (stack_of a.0 (given_back b.0.number volume.state.snaps)) _ parts c.2 in
    let disk : List ℕ = volume.state.origin.bytes in
    let at : slice_get volume.state.snaps k ≡ Some b.0 = snap_there k volume.state b.0 b.1 in
    let less : named_by disk (remove volume.snaps k) (detached b.0.number volume.state.snaps) ≡ remove (named_by disk volume.snaps volume.state.snaps) k =
    ap (named_by disk (remove volume.snaps k)) (detached_here k volume.state.snaps b.0 numbered.numbers at) ∙ named_less disk k volume.snaps volume.state.snaps numbered.named in
    subst (λ (p : Stacked × Volume). IsTakenAway k (arrays_of volume) (arrays_of p.1)) (same_ok _ parts d.2) (record { name = refl; array = refl; snaps = less })
