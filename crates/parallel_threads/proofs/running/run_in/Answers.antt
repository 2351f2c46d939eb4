-- What the seats did is what their journals tell.
use Rattle.std.proofs.Common.{◌≡◌, ℕ, Bool, ◌+◌, ◌-◌, ◌<◌, List, [], length, slice_index_or, refl, subst, sym, ap, ◌∙◌, arith}
use Rattle.std.specs.List.{All}
use Rattle.std.proofs.lemmas.List.{get_or-map}
use Rattle.volume_threads.specs.Rigs.{IsSettledAt, SeatShape, fixed_in, receipts_at, start_in}
use Rattle.audited_volume.specs.declared.entry.Entry.{Entry}
use Rattle.locked_volume.specs.Fixed.{Fixed}
use Rattle.parallel_threads.specs.Left.{AllAddAskedFor, AreLeft, NothingRan}
use Rattle.parallel_threads.specs.Tasks.{IsEnded, MayMerge, denied_of, pieces_at, tasks_at}
use Rattle.parallel_threads.proofs.Merging.{all_may, closed_asked, same_asked}
use Rattle.parallel_threads.proofs.Places.{tasks_same}
use Rattle.parallel_threads.proofs.Stays.{closed, entries_same, none_ran, same_spared}
use Rattle.parallel_threads.proofs.running.run_in.Goals as goal

-- stands where no seat is
nobody : SeatShape
nobody = record { number = 0; sittings = []; watches = [] }

pub returns-then-ran-clause-told : goal.returns-then-ran-clause-told
returns-then-ran-clause-told g c i low within =
    let seats = c.close-audits.ensures.seats ∙ c.as_mut_slice-2.ensures.value in
    let seat = slice_index_or c.end_all.new.seats.items i nobody in
    let ended = c.end_all.ensures.ended i nobody low (subst (λ n. i < n) (sym c.begin_all.ensures.many) within) in (
      seat,
      subst (λ asked. IsEnded (denied_of (start_in c.args.audits.items) (fixed_in g.B.Block.size g.B.Block.layers c.args.audits.items)) (pieces_at (fixed_in g.B.Block.size g.B.Block.layers c.args.audits.items)) asked (tasks_at c.end_all.new.tasks.items i) (i + 1) seat) (c.requires.plan i)
          (subst (λ (x : (ℕ → List Entry) × (ℕ → Fixed)). IsEnded (denied_of x.0 x.1) (pieces_at x.1) (g.J.Plan.tasks (i + 1)) (tasks_at c.end_all.new.tasks.items i) (i + 1) seat) (λ j. (c.requires.room.starts j, c.requires.room.fixed_is j)) ended),
      λ k d at. subst (λ (x : List SeatShape). IsSettledAt (start_in c.args.audits.items k) (slice_index_or c.close-audits.result.items k d) k (slice_index_or x i nobody)) seats
          (subst (λ start. IsSettledAt (start k) (slice_index_or c.close-audits.result.items k d) k (slice_index_or c.close-audits.new.seats i nobody)) c.requires.room.starts
          (c.close-audits.ensures.settled k d i nobody
          (subst (λ n. k < n) (sym c.requires.room.volumes_are) at)
          (subst (λ n. i < n) (sym (ap length seats ∙ c.end_all.ensures.many.1)) low))),
    )

pub returns-then-ran-clause-others : goal.returns-then-ran-clause-others
returns-then-ran-clause-others g c =
    (c.end_all.ensures.many.0 ∙ c.begin_all.ensures.many, λ i behind. c.end_all.ensures.others i behind ∙ c.begin_all.ensures.others i behind)

pub returns-clause-others : goal.returns-clause-others
returns-clause-others g c =
    (c.end_all.ensures.many.0 ∙ c.begin_all.ensures.many, λ i behind. c.end_all.ensures.others i behind ∙ c.begin_all.ensures.others i behind)

pub returns-in_default-clause-err : goal.returns-in_default-clause-err
returns-in_default-clause-err g c = (refl, none_ran g.B.Block.size g.B.Block.layers c.args.audits.items c.requires.quiet)

pub returns-in_default-with_capacity-clause-err : goal.returns-in_default-with_capacity-clause-err
returns-in_default-with_capacity-clause-err g c = (refl, none_ran g.B.Block.size g.B.Block.layers c.args.audits.items c.requires.quiet)

pub returns-in-Err-clause-err : goal.returns-in-Err-clause-err
returns-in-Err-clause-err g c =
    let same = c.in-Err.ensures.err in (
      ap (λ e. e.0) same,
      subst (λ e. AreLeft g.B.Block.size g.B.Block.layers c.args.audits.items e.1.items) (sym same) (none_ran g.B.Block.size g.B.Block.layers c.args.audits.items c.requires.quiet),
    )

pub returns-then-ran-clause-ok : goal.returns-then-ran-clause-ok
returns-then-ran-clause-ok g c =
    let closing = c.close-audits.ensures in
    closed g.B.Block.size g.B.Block.layers c.args.audits.items c.close-audits.result.items g.J.Room.volumes g.J.Room.start g.J.Room.fixed c.requires.room.volumes_are c.requires.room.starts c.requires.room.fixed_is
    closing.many closing.quiet closing.stays closing.grows

pub returns-clause-err : goal.returns-clause-err
returns-clause-err g c =
    let closing = c.close-audits.ensures in (
      refl,
      closed g.B.Block.size g.B.Block.layers c.args.audits.items c.close-audits.result.items g.J.Room.volumes g.J.Room.start g.J.Room.fixed c.requires.room.volumes_are c.requires.room.starts c.requires.room.fixed_is
          closing.many closing.quiet closing.stays closing.grows,
    )

pub returns-in_default-clause-spared : goal.returns-in_default-clause-spared
returns-in_default-clause-spared g c = same_spared c.args.audits.items (tasks_at c.args.tasks.now.items)

pub returns-in_default-with_capacity-clause-spared : goal.returns-in_default-with_capacity-clause-spared
returns-in_default-with_capacity-clause-spared g c = same_spared c.args.audits.items (tasks_at c.args.tasks.now.items)

pub returns-in-Err-clause-spared : goal.returns-in-Err-clause-spared
returns-in-Err-clause-spared g c =
    let asked = tasks_at c.args.tasks.now.items in
    subst (λ e. NothingRan c.args.audits.items e.1.items asked asked) (sym c.in-Err.ensures.err) (same_spared c.args.audits.items asked)

pub returns-clause-spared : goal.returns-clause-spared
returns-clause-spared g c =
    let old = c.args.tasks.now.items in
    let new = c.end_all.new.tasks.items in
    let seats = c.close-audits.ensures.seats ∙ c.as_mut_slice-2.ensures.value in
    let fresh = c.work_all-runs.ensures.unbegun c.if-ran.false in
    let many : length new ≡ length old = c.end_all.ensures.many.0 ∙ c.begin_all.ensures.many in
    let numbers = c.end_all.ensures.numbers in
    let unbegun = c.end_all.ensures.unbegun fresh in
    record {
      tasks = tasks_same old new many
          (λ i low within. c.end_all.ensures.kept fresh i low (subst (λ n. i < n) (sym c.begin_all.ensures.many) within) ∙ c.requires.plan i)
          (λ i behind. c.end_all.ensures.others i behind ∙ c.begin_all.ensures.others i behind);
      entries = λ s k d some few low.
          let i : ℕ = s - 1 in
          let within : i < 8 = omega (arith, some, few) in
          let seat = slice_index_or c.end_all.new.seats.items i nobody in
          let settled = subst (λ (x : List SeatShape). IsSettledAt (start_in c.args.audits.items k) (slice_index_or c.close-audits.result.items k d) k (slice_index_or x i nobody)) seats
          (subst (λ start. IsSettledAt (start k) (slice_index_or c.close-audits.result.items k d) k (slice_index_or c.close-audits.new.seats i nobody)) c.requires.room.starts
          (c.close-audits.ensures.settled k d i nobody
          (subst (λ n. k < n) (sym c.requires.room.volumes_are) low)
          (subst (λ n. i < n) (sym (ap length seats ∙ c.end_all.ensures.many.1)) within))) in
          entries_same s (start_in c.args.audits.items k) (slice_index_or c.args.audits.items k d).entries (slice_index_or c.close-audits.result.items k d).entries (receipts_at seat k) seat.number
          (numbers i nobody within ∙ omega (arith, some)) (get_or-map (λ a. a.entries) c.args.audits.items k d [] low) (unbegun i nobody within k) settled.own;
    }

pub begin_all-requires-clause-asked : goal.begin_all-requires-clause-asked
begin_all-requires-clause-asked g c i low =
    subst (λ (m : ℕ → ℕ → Bool). All (MayMerge m) (tasks_at c.args.tasks.now.items i)) (sym c.requires.merges) (all_may (tasks_at c.args.tasks.now.items) i low)

pub returns-then-ran-clause-asked : goal.returns-then-ran-clause-asked
returns-then-ran-clause-asked g c =
    closed_asked (tasks_at c.args.tasks.now.items) c.args.audits.items c.close-audits.result.items g.J.Room.volumes g.J.Room.start g.J.Room.merges c.requires.room.volumes_are c.requires.room.starts c.requires.merges
    c.close-audits.ensures.asked

pub returns-clause-asked : goal.returns-clause-asked
returns-clause-asked g c =
    closed_asked (tasks_at c.args.tasks.now.items) c.args.audits.items c.close-audits.result.items g.J.Room.volumes g.J.Room.start g.J.Room.merges c.requires.room.volumes_are c.requires.room.starts c.requires.merges
    c.close-audits.ensures.asked

pub returns-in_default-clause-asked : goal.returns-in_default-clause-asked
returns-in_default-clause-asked g c = same_asked (tasks_at c.args.tasks.now.items) c.args.audits.items

pub returns-in_default-with_capacity-clause-asked : goal.returns-in_default-with_capacity-clause-asked
returns-in_default-with_capacity-clause-asked g c = same_asked (tasks_at c.args.tasks.now.items) c.args.audits.items

pub returns-in-Err-clause-asked : goal.returns-in-Err-clause-asked
returns-in-Err-clause-asked g c =
    subst (λ e. AllAddAskedFor (tasks_at c.args.tasks.now.items) c.args.audits.items e.1.items) (sym c.in-Err.ensures.err) (same_asked (tasks_at c.args.tasks.now.items) c.args.audits.items)
