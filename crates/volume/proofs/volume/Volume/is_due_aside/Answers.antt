-- What is found is due, and where nothing is found it is not.
use Rattle.std.proofs.Common.{ap, map, sym, refl, ◌∙◌}
use Rattle.in_flight.specs.declared.copies.Stage.TheVariants.{Waiting, Read}
use Rattle.snapshot.specs.Kept.{due_of_kept}
use Rattle.snapshot_list.specs.Finding.{is_committing, is_flushing, is_trying, is_zeroing}
use Rattle.volume_laws.specs.Due.{is_due}
use Rattle.volume.proofs.DueLooks.{copy_look, mark_look, snap_look}
use Rattle.volume.proofs.volume.Volume.is_due_aside.Goals as goal

pub returns-in-CopyRead : goal.returns-in-CopyRead
returns-in-CopyRead g c =
    let v = c.self.inside in
    rw (← c.self.view_is) (copy_look g.B.Block.contents g.B.Block.layers Waiting c.in-CopyRead.number v.snaps.items c.deref-in-CopyRead.result.now c.find_copy.result c.is_some.result c.deref-in-CopyRead.ensures.value c.is_some.ensures c.find_copy.ensures.found c.find_copy.ensures.none
    ∙ ap (is_due (map (due_of_kept g.B.Block.contents g.B.Block.layers) v.snaps.items) v.flights.items) (sym c.in-CopyRead.is))

pub returns-in-CopyWrite : goal.returns-in-CopyWrite
returns-in-CopyWrite g c =
    let v = c.self.inside in
    rw (← c.self.view_is) (copy_look g.B.Block.contents g.B.Block.layers Read c.in-CopyWrite.number v.snaps.items c.deref-in-CopyWrite.result.now c.find_copy-in-CopyWrite.result c.is_some-in-CopyWrite.result c.deref-in-CopyWrite.ensures.value c.is_some-in-CopyWrite.ensures c.find_copy-in-CopyWrite.ensures.found c.find_copy-in-CopyWrite.ensures.none
    ∙ ap (is_due (map (due_of_kept g.B.Block.contents g.B.Block.layers) v.snaps.items) v.flights.items) (sym c.in-CopyWrite.is))

pub returns-in-ZeroNext : goal.returns-in-ZeroNext
returns-in-ZeroNext g c =
    let v = c.self.inside in
    rw (← c.self.view_is) (snap_look g.B.Block.contents g.B.Block.layers _ (is_zeroing c.in-ZeroNext.number) v.snaps.items c.deref-in-ZeroNext.result.now c.zeroing_at.result c.is_some-in-ZeroNext.result c.deref-in-ZeroNext.ensures.value (λ s. refl) c.is_some-in-ZeroNext.ensures c.zeroing_at.ensures.found c.zeroing_at.ensures.none
    ∙ ap (is_due (map (due_of_kept g.B.Block.contents g.B.Block.layers) v.snaps.items) v.flights.items) (sym c.in-ZeroNext.is))

pub returns-in-WriteArea : goal.returns-in-WriteArea
returns-in-WriteArea g c =
    let v = c.self.inside in
    rw (← c.self.view_is) (snap_look g.B.Block.contents g.B.Block.layers _ (is_committing c.in-WriteArea.number) v.snaps.items c.deref-in-WriteArea.result.now c.committing_at.result c.is_some-in-WriteArea.result c.deref-in-WriteArea.ensures.value (λ s. refl) c.is_some-in-WriteArea.ensures c.committing_at.ensures.found c.committing_at.ensures.none
    ∙ ap (is_due (map (due_of_kept g.B.Block.contents g.B.Block.layers) v.snaps.items) v.flights.items) (sym c.in-WriteArea.is))

pub returns-in-WriteInvalid : goal.returns-in-WriteInvalid
returns-in-WriteInvalid g c =
    let v = c.self.inside in
    rw (← c.self.view_is) (snap_look g.B.Block.contents g.B.Block.layers _ (is_trying c.in-WriteInvalid.number) v.snaps.items c.deref-in-WriteInvalid.result.now c.trying_at.result c.is_some-in-WriteInvalid.result c.deref-in-WriteInvalid.ensures.value (λ s. refl) c.is_some-in-WriteInvalid.ensures c.trying_at.ensures.found c.trying_at.ensures.none
    ∙ ap (is_due (map (due_of_kept g.B.Block.contents g.B.Block.layers) v.snaps.items) v.flights.items) (sym c.in-WriteInvalid.is))

pub returns-in-FlushStore : goal.returns-in-FlushStore
returns-in-FlushStore g c =
    let v = c.self.inside in
    rw (← c.self.view_is) (snap_look g.B.Block.contents g.B.Block.layers _ (is_flushing c.in-FlushStore.number) v.snaps.items c.deref-in-FlushStore.result.now c.flushing_at.result c.is_some-in-FlushStore.result c.deref-in-FlushStore.ensures.value (λ s. refl) c.is_some-in-FlushStore.ensures c.flushing_at.ensures.found c.flushing_at.ensures.none
    ∙ ap (is_due (map (due_of_kept g.B.Block.contents g.B.Block.layers) v.snaps.items) v.flights.items) (sym c.in-FlushStore.is))

pub returns-in-Publish : goal.returns-in-Publish
returns-in-Publish g c =
    let v = c.self.inside in
    rw (← c.self.view_is) (mark_look g.B.Block.contents g.B.Block.layers c.in-Publish.number v.snaps.items c.deref-in-Publish.result.now v.flights.items c.deref-in-Publish-2.result.now c.find_mark.result c.is_some-in-Publish.result c.deref-in-Publish.ensures.value c.deref-in-Publish-2.ensures.value c.is_some-in-Publish.ensures c.find_mark.ensures.found c.find_mark.ensures.none
    ∙ ap (is_due (map (due_of_kept g.B.Block.contents g.B.Block.layers) v.snaps.items) v.flights.items) (sym c.in-Publish.is))
