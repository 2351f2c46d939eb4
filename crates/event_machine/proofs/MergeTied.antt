-- The event of a merge that is due first is that of `volume_laws`, and so are the routes beside a merge.
use Rattle.std.proofs.Common.{◌≡◌, ℕ, ◌*◌, Bool, true, false, List, [], ◌∷◌, length, map, Option, Some, None, arith, refl, ap, ◌∙◌}
use Rattle.std.specs.Prelude.{◌==◌, ◌&&◌, not, nat_lt}
use Rattle.std.proofs.lemmas.List.{length-drop}
use Rattle.sector.specs.declared.pair.Pair.{Pair}
use Rattle.plain_machine.specs.declared.request.Reply.{Reply}
use Rattle.in_flight.specs.declared.flights.Flight.{Flight}
use Rattle.in_flight.specs.declared.flights.Route.{Route}
use Rattle.in_flight.specs.Copies.{count_of}
use Rattle.in_flight.specs.Kinds.{kind_of}
use Rattle.in_flight.specs.Routes.{write_route_of, again_route_of}
use Rattle.volume_laws.specs.Published.{is_clear as is_clear_in}
use Rattle.volume_laws.specs.Again.{merged_place as place_in_books, new_route, again_of}
use Rattle.volume_laws.specs.Waits.{is_grouped as grouped_in_books}
use Rattle.volume_laws.specs.MergeDue.{is_none, last_of, due_or, can_group as groups, can_read_area as reads_area, can_read as reads, can_write as writes, can_release as releases, is_readable as readable, is_writable as writable, is_copied as all_copied, merge_due as due_in_books, due_with}
use Rattle.volume_laws.specs.Due.{books_of, due_of}
use Rattle.whole_commands.specs.Devices.{Device, sectors_of}
use Rattle.event_machine.specs.Held.{Going, MergeHeld, group_in}
use Rattle.event_machine.specs.Again.{again, is_grouped, merged_place, write_route}
use Rattle.event_machine.specs.MergeDue.{in_area, is_free, can_group, can_read_area, can_read, can_write, can_release, is_readable, is_writable, is_using, is_writing, is_copied, merge_due, due_all}
use Rattle.event_machine.specs.Seen.{Seen, going_of, held_of, due_in, NeedsAsSeen}
use Rattle.event_machine.specs.MergeSeen.{MergeSeen, merge_held_of, held_in, books_in, merging_as, IsFilledAsSeen}
use Rattle.whole_commands.proofs.Each.{Each}
use Rattle.event_machine.proofs.Tied.{any_map, clear_seen, clear_over_seen, due_tied, seen_alike}

module _ (s : MergeSeen) where
  abbrev held : MergeHeld
  held = merge_held_of s

  pub filled_same : IsFilledAsSeen s → length (in_area held) ≡ s.due.filled
  filled_same filled =
      length-drop (s.due.current * (32 * s.due.books.chunk)) s.due.books.pairs ∙ (omega (arith, filled))

  free_and : (a b c : Bool) → ((not a && b) && c) ≡ ((not a && not (not b)) && c)
  free_and false false c = refl
  free_and false true c = refl
  free_and true b c = refl

  pub group_same : IsFilledAsSeen s → can_group held ≡ groups s.due
  group_same filled = ap (λ n. is_free held && nat_lt 0 n) (filled_same filled) ∙ free_and s.due.failed (is_none (group_in held)) (nat_lt 0 s.due.filled)

  area_and : (a b c d : Bool) → ((not a && b) && (c && d)) ≡ (((not a && not (not b)) && c) && d)
  area_and false false c d = refl
  area_and false true c d = refl
  area_and true b c d = refl

  pub area_same : IsFilledAsSeen s → can_read_area held ≡ reads_area s.due
  area_same filled =
      ap (λ n. is_free held && ((n == 0) && nat_lt 0 s.due.current)) (filled_same filled)
      ∙ area_and s.due.failed (is_none (group_in held)) (s.due.filled == 0) (nat_lt 0 s.due.current)

  copied_and : (a b c : Bool) → (a && (b && c)) ≡ ((a && b) && c)
  copied_and false b c = refl
  copied_and true b c = refl

  pub copied_same : is_copied held ≡ all_copied s.due.books
  copied_same = copied_and (is_none s.due.books.waiting) (is_none s.due.books.reading) (not (is_none s.due.books.copied))

  pub read_same : (fs : List Flight) → can_read (map going_of fs) held ≡ reads fs s.due.books
  read_same fs = ap (λ b. is_none s.due.books.reading && b) (readable_same (last_of s.due.books.waiting))
    where
      readable_same : (o : Option Pair) → is_readable (map going_of fs) o ≡ readable fs o
      readable_same None = refl
      readable_same (Some q) = ap not (any_map going_of (is_writing q.new) fs)

  pub write_same : (snaps : List Seen) → can_write s.due.books.sectors (map held_of snaps) held ≡ writes (map (λ (x : Seen). x.due.books) snaps) s.due.books
  write_same snaps = writable_same s.due.books.reading
    where
      writable_same : (pairs : List Pair) → is_writable (map held_of snaps) s.due.books.chunk s.due.books.sectors pairs ≡ writable (map (λ (x : Seen). x.due.books) snaps) s.due.books.chunk s.due.books.sectors pairs
      writable_same [] = refl
      writable_same (q ∷ pairs) = clear_over_seen (s.due.books.chunk * q.old) (count_of s.due.books.chunk s.due.books.sectors q.old) snaps

  pub release_same : (fs : List Flight) → can_release (map going_of fs) held ≡ releases fs s.due.books
  release_same fs = ap (λ b. not (is_none s.due.books.released) && not b) (any_map going_of (is_using s.due.books.released) fs)

  pub merge_due_tied : (snaps : List Seen) (fs : List Flight) → IsFilledAsSeen s → merge_due s.due.books.sectors (map held_of snaps) (map going_of fs) (Some held) ≡ due_in_books (map (λ (x : Seen). x.due.books) snaps) fs s.due
  merge_due_tied snaps fs filled = rw (
    release_same fs,
    copied_same,
    write_same snaps,
    read_same fs,
    area_same filled,
    group_same filled,
  ) refl

  -- of the whole volume
  pub due_all_tied : (origin : Device) (snaps : List Seen) (fs : List Flight) (a : Option Reply) (k : ℕ) → Each NeedsAsSeen snaps → IsFilledAsSeen s → sectors_of origin ≡ s.due.books.sectors → due_all (merging_as s origin snaps fs a k) ≡ due_with (map due_in snaps) fs s.due
  due_all_tied origin snaps fs a k needs filled sectors =
      ap (λ o. due_or o (merge_due (sectors_of origin) (map held_of snaps) (map going_of fs) (Some held))) (due_tied origin snaps fs a k needs)
      ∙ ap (due_or (due_of (map due_in snaps) fs)) (ap (λ n. merge_due n (map held_of snaps) (map going_of fs) (Some held)) sectors ∙ merge_due_tied snaps fs filled ∙ ap (λ bs. due_in_books bs fs s.due) (books_same snaps))
    where
      books_same : (xs : List Seen) → map (λ (x : Seen). x.due.books) xs ≡ map books_of (map due_in xs)
      books_same [] = refl
      books_same (x ∷ xs) = ap (λ ys. x.due.books ∷ ys) (books_same xs)

-- Origin requests are routed, and held ones again, as `volume_laws` has it, with a merge or without one.
pub place_tied : (merge : Option MergeSeen) (f : Flight) → merged_place (held_in merge) f.request.range.first ≡ place_in_books (books_in merge) f
place_tied None f = refl
place_tied (Some s) f = refl

pub grouped_tied : (merge : Option MergeSeen) (f : Flight) → is_grouped (held_in merge) f.request.range.first ≡ grouped_in_books (books_in merge) f
grouped_tied None f = refl
grouped_tied (Some s) f = refl

pub route_tied : (merge : Option MergeSeen) (snaps : List Seen) (f : Flight) →
    write_route (held_in merge) (map held_of snaps) f.request.range.first ≡ new_route (books_in merge) (is_clear_in (map (λ (x : Seen). x.due.books) snaps)) f
route_tied None snaps f = ap (write_route_of false None) (clear_seen f.request.range.first snaps)
route_tied (Some s) snaps f = ap (write_route_of (is_grouped (Some (merge_held_of s)) f.request.range.first) (merged_place (Some (merge_held_of s)) f.request.range.first)) (clear_seen f.request.range.first snaps)

pub again_tied : (merge : Option MergeSeen) (snaps : List Seen) (fs : List Flight) →
    map (again (held_in merge) (map held_of snaps)) (map going_of fs) ≡ map going_of (map (again_of (books_in merge) (is_clear_in (map (λ (x : Seen). x.due.books) snaps))) fs)
again_tied merge snaps fs =
    seen_alike (again (held_in merge) (map held_of snaps)) (again_of (books_in merge) (is_clear_in (map (λ (x : Seen). x.due.books) snaps))) fs (λ f. ap (routed f) (route_tied merge snaps f))
  where
    routed : Flight → Route → Going
    routed f route = record { number = f.number; request = f.request; route = again_route_of (kind_of f.request) f.route route }
