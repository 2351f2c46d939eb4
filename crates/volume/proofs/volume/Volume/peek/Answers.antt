-- The snapshot that is found is live, and its store's bytes say its pairs.
use Rattle.std.proofs.Common.{◌≡◌, arith, ℕ, List, Some, true, false, refl, sym, ◌∙◌, ap, subst}
use Rattle.std.specs.Prelude.{◌==◌, length}
use Rattle.std.proofs.lemmas.Option.{slice_get_read}
use Rattle.sector.specs.Bytes.{sectors_at}
use Rattle.plain_machine.specs.Serves.{Shows}
use Rattle.plain_machine.specs.declared.request.Dev.{Dev}
use Rattle.plain_machine.specs.declared.request.Dev.TheVariants.{Origin, Snap}
use Rattle.snapshot.specs.Kept.{Kept}
use Rattle.volume.specs.Peeking.{is_loud_under, IsListed}
use Rattle.volume.specs.Volumed.{Volumed, plain_of}
use Rattle.snapshot_list.specs.Finding.{place_of_snap}
use Rattle.volume.specs.Submitting.{is_merging}
use Rattle.volume.proofs.MovedLists.{IsFirst, first_position}
use Rattle.volume.proofs.Listed.{listed_is}
use Rattle.volume.proofs.Named.{found_within}
use Rattle.volume.proofs.Peeked.{places_inside, pairs_stored, shown_snap, snap_loud, live_refusal, spoilt_refusal}
use Rattle.volume.proofs.volume.Volume.peek.Goals as goal

pub index-snap-requires : goal.index-snap-requires
index-snap-requires g c =
    let below = found_within c.in-Snap.number c.as_slice.result.now c.in-Some.k c.in-Some.ensures in
    omega (arith, below, c.as_slice.ensures.len)

pub peek_pieces-requires-clause-places : goal.peek_pieces-requires-clause-places
peek_pieces-requires-clause-places g c =
    let v : Volumed g.row.B.Denot = record { origin = c.self.inside.origin; snaps = c.self.inside.snaps.items; merge = c.self.inside.merge; flights = c.self.inside.flights.items; requests = c.self.inside.requests; copies = c.self.inside.copies; attached = c.self.inside.attached } in
    let s : Kept g.row.B.Denot = c.index-snap.result.now in
    let found : Some c.in-Some.k ≡ place_of_snap c.in-Snap.number v.snaps = c.in-Some.ensures ∙ ap (place_of_snap c.in-Snap.number) c.as_slice.ensures.value in
    places_inside g.B.Block.contents g.B.Block.layers g.B.Block.size v c.self.invariant.whole c.in-Some.k s (found_within c.in-Snap.number v.snaps c.in-Some.k found) c.index-snap.ensures (sym c.if-not-is_live.ensures) g.met.B.Block.whole

pub returns-then-not-is_live-clause-err : goal.returns-then-not-is_live-clause-err
returns-then-not-is_live-clause-err g c =
    let s : Kept g.row.B.Denot = c.index-snap.result.now in
    let found : Some c.in-Some.k ≡ place_of_snap c.in-Snap.number c.self.inside.snaps.items = c.in-Some.ensures ∙ ap (place_of_snap c.in-Snap.number) c.as_slice.ensures.value in
    let other : is_merging c.in-Snap.number c.self.inside.merge ≡ false = ap (λ (x : Volumed g.row.B.Denot). is_merging c.in-Snap.number x.merge) c.self.view_is ∙ sym c.is_merging.ensures ∙ c.if-is_merging.false in
    rw (← c.self.view_is) (spoilt_refusal c.self.inside.merge c.self.inside.snaps.items c.args.dev c.in-Snap.number c.in-Some.k s c.in-Snap.is other found c.index-snap.ensures (sym c.is_live.ensures ∙ c.if-not-is_live.true), refl)

pub returns-else-not-is_live-clause-there : goal.returns-else-not-is_live-clause-there
returns-else-not-is_live-clause-there g c =
    let s : Kept g.row.B.Denot = c.index-snap.result.now in
    let found : Some c.in-Some.k ≡ place_of_snap c.in-Snap.number c.self.inside.snaps.items = c.in-Some.ensures ∙ ap (place_of_snap c.in-Snap.number) c.as_slice.ensures.value in
    let other : is_merging c.in-Snap.number c.self.inside.merge ≡ false = ap (λ (x : Volumed g.row.B.Denot). is_merging c.in-Snap.number x.merge) c.self.view_is ∙ sym c.is_merging.ensures ∙ c.if-is_merging.false in
    rw (← c.self.view_is) (live_refusal c.self.inside.merge c.self.inside.snaps.items c.args.dev c.in-Snap.number c.in-Some.k s c.in-Snap.is other found c.index-snap.ensures (sym c.if-not-is_live.ensures))

pub returns-else-not-is_live-clause-bytes : goal.returns-else-not-is_live-clause-bytes
returns-else-not-is_live-clause-bytes g c = λ loud array shown.
    let v : Volumed g.row.B.Denot = record { origin = c.self.inside.origin; snaps = c.self.inside.snaps.items; merge = c.self.inside.merge; flights = c.self.inside.flights.items; requests = c.self.inside.requests; copies = c.self.inside.copies; attached = c.self.inside.attached } in
    let s : Kept g.row.B.Denot = c.index-snap.result.now in
    let live : s.live ≡ true = sym c.if-not-is_live.ensures in
    let found : Some c.in-Some.k ≡ place_of_snap c.in-Snap.number v.snaps = c.in-Some.ensures ∙ ap (place_of_snap c.in-Snap.number) c.as_slice.ensures.value in
    let first : IsFirst (λ (x : Kept g.row.B.Denot). x.number == c.in-Snap.number) c.in-Some.k s v.snaps = first_position (λ (x : Kept g.row.B.Denot). x.number == c.in-Snap.number) c.in-Some.k s v.snaps c.index-snap.ensures (sym found) in
    let mine : Shows (plain_of g.B.Block.contents g.B.Block.layers v) (Snap c.in-Snap.number) array =
    subst (λ (d : Dev). Shows (plain_of g.B.Block.contents g.B.Block.layers v) d array) c.in-Snap.is (subst (λ (x : Volumed g.row.B.Denot). Shows (plain_of g.B.Block.contents g.B.Block.layers x) c.args.dev array) (sym c.self.view_is) shown) in
    let stored = pairs_stored g.B.Block.contents g.B.Block.layers g.B.Block.size v c.self.invariant.whole c.in-Some.k s (found_within c.in-Snap.number v.snaps c.in-Some.k found) c.index-snap.ensures live (snap_loud g.B.Block.layers v.merge v.snaps c.args.dev c.in-Snap.number c.in-Some.k s c.in-Snap.is found c.index-snap.ensures (ap (λ (x : Volumed g.row.B.Denot). is_loud_under g.B.Block.layers c.args.dev x.merge x.snaps) c.self.view_is ∙ loud)) in
    c.peek_pieces.ensures
    ∙ ap (λ (a : List ℕ). sectors_at a c.args.range.first c.args.range.count) (listed_is s.state.chunk (g.B.Block.contents v.origin) (g.B.Block.contents s.device) s.pairs stored)
    ∙ ap (λ (a : List ℕ). sectors_at a c.args.range.first c.args.range.count) (sym (shown_snap g.B.Block.contents (g.B.Block.contents v.origin) c.in-Snap.number c.in-Some.k s v.snaps array first live mine))

pub returns-in-Origin-clause-bytes : goal.returns-in-Origin-clause-bytes
returns-in-Origin-clause-bytes g c = λ loud array shown.
    let now = c.args.self.now in
    let mine : Shows (plain_of g.B.Block.contents g.B.Block.layers now) Origin array = subst (λ (d : Dev). Shows (plain_of g.B.Block.contents g.B.Block.layers now) d array) c.in-Origin.is shown in
    c.peek_origin.ensures.shown (ap (λ (d : Dev). is_loud_under g.B.Block.layers d now.merge now.snaps) (sym c.in-Origin.is) ∙ loud) ∙ ap (λ (a : List ℕ). sectors_at a c.args.range.first c.args.range.count) (sym mine)

pub returns-else-not-is_live-clause-listed : goal.returns-else-not-is_live-clause-listed
returns-else-not-is_live-clause-listed g c =
    let v : Volumed g.row.B.Denot = record { origin = c.self.inside.origin; snaps = c.self.inside.snaps.items; merge = c.self.inside.merge; flights = c.self.inside.flights.items; requests = c.self.inside.requests; copies = c.self.inside.copies; attached = c.self.inside.attached } in
    let s : Kept g.row.B.Denot = c.index-snap.result.now in
    let found : Some c.in-Some.k ≡ place_of_snap c.in-Snap.number v.snaps = c.in-Some.ensures ∙ ap (place_of_snap c.in-Snap.number) c.as_slice.ensures.value in
    let mine : IsListed g.B.Block.contents (Snap c.in-Snap.number) c.args.range.first c.args.range.count v c.peek_pieces.new.out = (c.in-Some.k, sym found, (s, slice_get_read v.snaps (length v.snaps) c.in-Some.k s refl (found_within c.in-Snap.number v.snaps c.in-Some.k found) c.index-snap.ensures, c.peek_pieces.ensures)) in
    rw (← c.self.view_is) (subst (λ (d : Dev). IsListed g.B.Block.contents d c.args.range.first c.args.range.count v c.peek_pieces.new.out) (sym c.in-Snap.is) mine)

pub returns-in-Origin-clause-listed : goal.returns-in-Origin-clause-listed
returns-in-Origin-clause-listed g c =
    subst (λ (d : Dev). IsListed g.B.Block.contents d c.args.range.first c.args.range.count c.args.self.now c.peek_origin.new.out) (sym c.in-Origin.is) c.peek_origin.ensures.listed
