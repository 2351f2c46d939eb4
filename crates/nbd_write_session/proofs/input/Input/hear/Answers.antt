use Rattle.std.proofs.Common.{rules, ◌≡◌, ℕ, ◌+◌, ◌-◌, ◌≤◌, List, length, ap, ◌∙◌, sym, subst, slice_range}
use Rattle.std.proofs.lemmas.List.{with_items_is}
use Rattle.std.specs.Io.KnownBytes.{Keeps}
use Rattle.std.specs.Vec.{with_items}
use Rattle.nbd_write_session.specs.Stream.{left}
use Rattle.nbd_write_session.proofs.Heard.{none_kept, put_kept, range_put_none, room_behind, same_kept, stream}
use Rattle.nbd_write_session.proofs.input.Input.hear.Goals as goal
use borrow.Rule.Slice.PartMut.{put_mid, same_len_mid}

pub returns-then-eq : goal.returns-then-eq
returns-then-eq g c =
    let lent : List ℕ = c.as_mut_slice.result.now in
    let from : ℕ = c.self.inside.from in
    let to : ℕ = c.self.inside.to in
    let room : List ℕ = put_mid to (length lent - to) lent c.read.new.buf in
    let full : (with_items c.self.inside.room room).items ≡ room = with_items_is c.self.inside.room room (same_len_mid to (length lent - to) lent c.read.new.buf c.read.auto.buf ∙ c.as_mut_slice.ensures.len) in
    let value : lent ≡ c.self.inside.room.items = c.as_mut_slice.ensures.value in
    let P : List ℕ → Type 0 = λ l. to ≤ length l in
    let inside : to ≤ length lent = subst P (sym value) c.self.invariant.1 in
    let len : length c.read.new.buf ≡ length lent - to = c.read.auto.buf ∙ room_behind lent to inside in
    let is : stream (slice_range lent from to) c.self.inside.unwanted ≡ c.args.self.now = ap (λ (l : List ℕ). stream (slice_range l from to) c.self.inside.unwanted) value ∙ c.self.view_is ∙ c.make_room.ensures in
    let same : stream (slice_range (with_items c.self.inside.room room).items from to) c.self.inside.unwanted ≡ c.args.self.now =
    ap (λ (l : List ℕ). stream (slice_range l from to) c.self.inside.unwanted) full
    ∙ ap (λ (l : List ℕ). stream l c.self.inside.unwanted) (range_put_none lent c.read.new.buf from to c.self.invariant.0 inside len) ∙ is in
    (same_kept c.args.self.now _ _ _ same c.in-Err.ensures.bytes, tt)

pub returns-in-Ok-eq0 : goal.returns-in-Ok-eq0
returns-in-Ok-eq0 g c =
    let lent : List ℕ = c.as_mut_slice.result.now in
    let from : ℕ = c.self.inside.from in
    let to : ℕ = c.self.inside.to in
    let room : List ℕ = put_mid to (length lent - to) lent c.read.new.buf in
    let full : (with_items c.self.inside.room room).items ≡ room = with_items_is c.self.inside.room room (same_len_mid to (length lent - to) lent c.read.new.buf c.read.auto.buf ∙ c.as_mut_slice.ensures.len) in
    let value : lent ≡ c.self.inside.room.items = c.as_mut_slice.ensures.value in
    let P : List ℕ → Type 0 = λ l. to ≤ length l in
    let inside : to ≤ length lent = subst P (sym value) c.self.invariant.1 in
    let len : length c.read.new.buf ≡ length lent - to = c.read.auto.buf ∙ room_behind lent to inside in
    let is : stream (slice_range lent from to) c.self.inside.unwanted ≡ c.args.self.now = ap (λ (l : List ℕ). stream (slice_range l from to) c.self.inside.unwanted) value ∙ c.self.view_is ∙ c.make_room.ensures in
    let same : stream (slice_range (with_items c.self.inside.room room).items from to) c.self.inside.unwanted ≡ c.args.self.now =
    ap (λ (l : List ℕ). stream (slice_range l from to) c.self.inside.unwanted) full
    ∙ ap (λ (l : List ℕ). stream l c.self.inside.unwanted) (range_put_none lent c.read.new.buf from to c.self.invariant.0 inside len) ∙ is in
    (none_kept c.read.new.buf c.in-Ok-eq0.field-0 c.args.self.now _ _ _ c.in-Ok-eq0.field-0-test same c.in-Ok-eq0.ensures.bytes.0, (search rules, same))

pub returns-in-Ok : goal.returns-in-Ok
returns-in-Ok g c =
    let lent : List ℕ = c.as_mut_slice.result.now in
    let from : ℕ = c.self.inside.from in
    let to : ℕ = c.self.inside.to in
    let room : List ℕ = put_mid to (length lent - to) lent c.read.new.buf in
    let full : (with_items c.self.inside.room room).items ≡ room = with_items_is c.self.inside.room room (same_len_mid to (length lent - to) lent c.read.new.buf c.read.auto.buf ∙ c.as_mut_slice.ensures.len) in
    let value : lent ≡ c.self.inside.room.items = c.as_mut_slice.ensures.value in
    let P : List ℕ → Type 0 = λ l. to ≤ length l in
    let inside : to ≤ length lent = subst P (sym value) c.self.invariant.1 in
    let len : length c.read.new.buf ≡ length lent - to = c.read.auto.buf ∙ room_behind lent to inside in
    let is : stream (slice_range lent from to) c.self.inside.unwanted ≡ c.args.self.now = ap (λ (l : List ℕ). stream (slice_range l from to) c.self.inside.unwanted) value ∙ c.self.view_is ∙ c.make_room.ensures in
    let Q : List ℕ → Type 0 = λ l. Keeps (left c.args.self.now (g.R.Read.remaining c.args.reader.now)) (left (stream (slice_range l (from + c.min-gone.result) (to + c.in-Ok.count)) (c.self.inside.unwanted - c.min-gone.result)) (g.R.Read.remaining c.read.new.self)) in
    (subst Q (sym full) (put_kept lent c.read.new.buf from to c.in-Ok.count c.self.inside.unwanted c.min-gone.result c.args.self.now _ _ c.self.invariant.0 inside len c.in-Ok.ensures.bound.0 c.min-gone.ensures is c.in-Ok.ensures.bytes.0), tt)
