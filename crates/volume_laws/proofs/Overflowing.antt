-- A write finds the full store of a snapshot that may overflow, in a whole volume: it is marked, and all else stays.
use Rattle.std.proofs.Common.{◌≡◌, ℕ, true, Some, set, map, refl, sym, ◌∙◌, ap, subst}
use Rattle.std.proofs.lemmas.List.{map-set}
use Rattle.cow_format.specs.Picture.{picture}
use Rattle.plain_machine.specs.declared.request.Overflowing.TheVariants.{Did}
use Rattle.plain_machine.specs.Legal.{Overflows as PlainOverflows}
use Rattle.in_flight.specs.Kinds.{in_flight}
use Rattle.volume_laws.specs.Books.{SnapBooks, Books}
use Rattle.volume_laws.specs.Held.{LiveHolds, SnapHolds}
use Rattle.volume_laws.specs.Whole.{Holds, IsLoud, plain_of, entry_of, origin_of, begun_of}
use Rattle.volume_laws.specs.Waits.{Waits}
use Rattle.volume_laws.specs.Steps.{ChangesSnap, Overflows}
use Rattle.volume_laws.proofs.Same.{same_volume, plain}
use Rattle.volume_laws.proofs.Entries.{saved_at, overflow_at, marked_at}
use Rattle.volume_laws.proofs.WholeOne.{shown, one_holds, snap_holds, live_snap}
use Rattle.volume_laws.proofs.Composing.{loud_one}
use Rattle.volume_laws.proofs.Waiting.{KeepsWaiting, waits_changed}
use Rattle.volume_laws.proofs.MergeSaved.{KeepsSaved, KeepsNext, next_by}

-- a snapshot that holds is marked
marked_holds : (v : Books) (s : SnapBooks) → s.live ≡ true → LiveHolds v.loud v.origin v.requests s → SnapHolds v.loud v.origin v.requests (record s { overflow = Did })
marked_holds v s live h = live_snap v.origin v.requests (record s { overflow = Did }) live (record {
  text = h.text;
  stored = h.stored;
  fits = h.fits;
  tried = h.tried;
  agree = h.agree;
  few = h.few;
  link = h.link;
  copies = h.copies;
  unpublished = h.unpublished;
  routes = h.routes;
})

-- nothing that waits goes sooner
pub overflow_keeps : (s s' : SnapBooks) → Overflows s s' → KeepsWaiting s s'
overflow_keeps s s' o = subst (KeepsWaiting s) (sym o.becomes) (record {
  number = refl;
  live = refl;
  untried = refl;
  chunk = refl;
  unsaved = λ first e. e;
  saving = λ c e. e;
  copying = λ c e. e;
})

-- a merge beside it finds saved what was saved
pub overflow_saved : (s s' : SnapBooks) → Overflows s s' → KeepsSaved s s'
overflow_saved s s' o = subst (KeepsSaved s) (sym o.becomes) (record {
  live = λ live. live;
  chunk = λ _. refl;
  saving = λ _ c e. e;
  published = λ _ c e. e;
})

pub overflow_next : (s s' : SnapBooks) → Overflows s s' → KeepsNext s s'
overflow_next s s' o = next_by s s' (overflow_saved s s' o) (ap (λ (x : SnapBooks). x.pairs) o.becomes) (ap (λ (x : SnapBooks). x.marks) o.becomes)

module _ (k : ℕ) (s s' : SnapBooks) (v w : Books) (e : ChangesSnap k s s' v w) (o : Overflows s s') where
  -- the volume holds again, and the plain machine is marked, whatever its devices did
  pub overflow_event : Holds v → Holds w × PlainOverflows s.number (plain_of v) (plain_of w)
  overflow_event h =
      let after : Books = record v { snaps = set v.snaps k s' } in
      let now : w ≡ after = same_volume w after e.origin e.sectors e.loud e.snaps e.merge e.requests in (
        one_holds k s s' v w h e (ap (λ (x : SnapBooks). x.number) o.becomes)
            (subst (SnapHolds v.loud v.origin v.requests) (sym o.becomes) (marked_holds v s o.was ((snap_holds v k s h e.within e.was).alive o.was))),
        record {
          array = picture s.chunk v.origin s.store;
          live = saved_at v.origin v.snaps k s h.numbers e.within e.was ∙ ap (λ b. Some (shown s.number s.overflow b (picture s.chunk v.origin s.store)).saved) o.was;
          may = overflow_at v.origin v.snaps k s h.numbers e.within e.was ∙ o.may;
          becomes = ap plain_of now
              ∙ ap (λ x. plain (origin_of v.origin v.merge) (begun_of v.merge) x (map in_flight v.requests))
              (map-set (entry_of v.origin) v.snaps k s' ∙ ap (λ (x : SnapBooks). set (map (entry_of v.origin) v.snaps) k (entry_of v.origin x)) o.becomes
              ∙ sym (marked_at v.origin v.snaps k s h.numbers e.within e.was));
        },
      )

  pub overflow_waits : Waits v → Waits w
  overflow_waits h = waits_changed k s s' v w h e (overflow_keeps s s' o)

  pub overflow_loud : IsLoud v → IsLoud w
  overflow_loud = loud_one k s s' v w e (ap (λ (x : SnapBooks). x.loud) o.becomes)
