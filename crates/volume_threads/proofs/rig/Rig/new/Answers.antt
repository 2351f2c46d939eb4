-- The tables, the queue and the audits are those of the room.
use Rattle.std.proofs.Common.{◌≤◌, length, slice_index_or, vec_capacity, sym, ap, ◌∙◌, subst}
use Rattle.volume_threads.proofs.Begun.{dealt_first, starts_are}
use Rattle.volume_threads.proofs.Rows.{has_room}
use Rattle.volume_threads.proofs.rig.Rig.new.Goals as goal

pub seats_of-requires-clause-dealt : goal.seats_of-requires-clause-dealt
seats_of-requires-clause-dealt g c =
    dealt_first g.B.Block.size g.B.Block.layers c.args.audits.items c.args.opened g.J.Room.volumes g.J.Room.history g.J.Room.boards g.J.Room.start g.J.Room.queue g.J.Room.fixed c.requires.room

pub place_all-requires-clause-many : goal.place_all-requires-clause-many
place_all-requires-clause-many g c =
    (sym c.requires.room.volumes_are, ap (λ o. length o.volumes) c.opened-2.view_is ∙ ap length c.in-Ok-workers_of.ensures.same ∙ c.in-Ok.ensures.volumes.many)

pub place_all-requires-clause-room : goal.place_all-requires-clause-room
place_all-requires-clause-room g c =
    (c.in-Ok-with_capacity.ensures.items, has_room g.J.Room.volumes (length c.args.audits.items) c.len.result (vec_capacity c.in-Ok-with_capacity.places) c.requires.room.volumes_are (c.len.ensures ∙ c.args.audits.ok.0) c.in-Ok-with_capacity.ensures.capacity)

pub place_all-requires-clause-tables : goal.place_all-requires-clause-tables
place_all-requires-clause-tables g c k d low =
    ap (λ l. (slice_index_or l k d).table) (ap (λ o. o.volumes) c.opened-2.view_is ∙ c.in-Ok-workers_of.ensures.same) ∙ c.in-Ok.ensures.volumes.tables k d low

pub place_all-requires-clause-boards : goal.place_all-requires-clause-boards
place_all-requires-clause-boards g c k d low =
    ap (λ l. (slice_index_or l k d).boards) (ap (λ o. o.volumes) c.opened-2.view_is ∙ c.in-Ok-workers_of.ensures.same) ∙ c.in-Ok.ensures.volumes.boards_are k d low

pub place_all-requires-clause-audits : goal.place_all-requires-clause-audits
place_all-requires-clause-audits g c =
    starts_are g.B.Block.size g.B.Block.layers c.args.audits.items c.args.opened g.J.Room.volumes g.J.Room.history g.J.Room.boards g.J.Room.start g.J.Room.queue g.J.Room.fixed c.requires.room c.requires.quiet

pub invariant_of-rig : goal.invariant_of-rig
invariant_of-rig g c = (
  c.place_all.ensures.places.0,
  c.place_all.ensures.places.1,
  c.place_all.ensures.audits.0,
  subst (λ n. length c.place_all.new.places.items ≤ n) (sym c.place_all.ensures.audits.1)
      (has_room (length c.place_all.new.places.items) (length c.args.audits.items) c.args.audits.len (vec_capacity c.args.audits) (c.place_all.ensures.places.1 ∙ c.requires.room.volumes_are) c.args.audits.ok.0 c.args.audits.ok.1),
)
