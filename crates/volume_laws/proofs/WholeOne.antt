-- One snapshot changes, in a whole volume: the copies' own events.
use Rattle.std.proofs.Common.{◌≡◌, ◌≢◌, inl, inr, ℕ, zero, suc, ◌<◌, Bool, true, false, List, [], ◌∷◌, length, get_or, set, map, refl, sym, ◌∙◌, ap, subst, arith, if◌then◌else◌}
use Rattle.std.specs.List.{list_any}
use Rattle.std.specs.Prelude.{◌&&◌, AllPairs}
use Rattle.std.proofs.lemmas.Bool.{false≢true, cases_Bool}
use Rattle.std.proofs.lemmas.List.{map-set, length-map, get_or-map}
use Rattle.std.proofs.lemmas.List.Elements.{All-set}
use Rattle.std.proofs.Math.Seq.{map-set_same}
use Rattle.cow_format.specs.Picture.{picture}
use Rattle.plain_machine.specs.declared.request.Overflowing.{Overflowing}
use Rattle.plain_machine.specs.Plain.{Plain, Entry, Live, Invalid, spoiled_entry}
use Rattle.plain_machine.specs.Legal.{Spoils}
use Rattle.in_flight.specs.Kinds.{in_flight}
use Rattle.in_flight.specs.Routes.{is_reading}
use Rattle.in_flight.specs.declared.copies.ChunkCopy.{ChunkCopy}
use Rattle.in_flight.specs.declared.copies.Mark.{Mark}
use Rattle.in_flight.specs.declared.flights.Flight.{Flight}
use Rattle.volume_laws.proofs.Heard.{store_loud, both_loud}
use Rattle.volume_laws.specs.Books.{SnapBooks, Books, number_of}
use Rattle.volume_laws.specs.Held.{LiveHolds, SnapHolds}
use Rattle.volume_laws.specs.Whole.{Holds, IsLoud, plain_of, entry_of, origin_of, begun_of}
use Rattle.volume_laws.specs.Steps.{ChangesSnap, ReadsCopy, WritesCopy, ZeroesArea, Commits, FlushesStore, Unmarks, StartsCopy, IsSame}
use Rattle.volume_laws.specs.Outcomes.{IsSilent}
use Rattle.volume_laws.proofs.Same.{same_volume, plain}
use Rattle.volume_laws.proofs.Copying.{copy_read, copy_write, copy_write_picture}
use Rattle.volume_laws.proofs.Committing.{area_zeroed, area_zeroed_picture, commit, commit_picture}
use Rattle.volume_laws.proofs.Publishing.{unmark}
use Rattle.volume_laws.proofs.Flushing.{flush}
use Rattle.volume_laws.proofs.Starting.{start}

-- a spoil of none changes nothing
spoiled_none : (es : List Entry) → map (spoiled_entry []) es ≡ es
spoiled_none [] = refl
spoiled_none (e ∷ es) = ap (λ x. e ∷ x) (spoiled_none es)

pub silent_step : (old new : Plain) → new ≡ old → Spoils [] old new
silent_step old new same = same ∙ ap (λ x. plain old.origin old.begun x old.requests) (sym (spoiled_none old.saved))

-- a snapshot of the volume
pub snap_holds : (v : Books) (k : ℕ) (s : SnapBooks) → Holds v → k < length v.snaps → s ≡ get_or v.snaps k s → SnapHolds v.loud v.origin v.requests s
snap_holds v k s h within is = subst (SnapHolds v.loud v.origin v.requests) (sym is) (h.snaps k s within)

pub snap_loud : (v : Books) (k : ℕ) (s : SnapBooks) → IsLoud v → k < length v.snaps → s ≡ get_or v.snaps k s → s.loud ≡ true
snap_loud v k s loud within is = subst (λ (x : SnapBooks). x.loud ≡ true) (sym is) (loud.snaps k s within)

-- a live one
pub live_snap : {l : Bool} (o : List ℕ) (rs : List Flight) (s : SnapBooks) → s.live ≡ true → LiveHolds l o rs s → SnapHolds l o rs s
live_snap o rs s live h = record { alive = λ _. h; spoilt = λ dead. absurd (false≢true (sym dead ∙ live)) }

-- one with a copy, or with a mark, is live
pub live_by_copy : {l : Bool} (o : List ℕ) (rs : List Flight) (s : SnapBooks) (j : ℕ) → SnapHolds l o rs s → j < length s.copies → s.live ≡ true
live_by_copy o rs s j h within = elim (cases_Bool s.live) [ inl live ↦ live | inr dead ↦ absurd (omega (arith, ap length (h.spoilt dead).copies)) ]

pub live_by_mark : {l : Bool} (o : List ℕ) (rs : List Flight) (s : SnapBooks) (j : ℕ) → SnapHolds l o rs s → j < length s.marks → s.live ≡ true
live_by_mark o rs s j h within = elim (cases_Bool s.live) [ inl live ↦ live | inr dead ↦ absurd (omega (arith, ap length (h.spoilt dead).unpublished)) ]

-- the numbers of the snapshots
pub same_numbers : (snaps : List SnapBooks) (k : ℕ) (s s' : SnapBooks) → s ≡ get_or snaps k s → s'.number ≡ s.number → map number_of (set snaps k s') ≡ map number_of snaps
same_numbers snaps k s s' is same = map-set_same number_of snaps k s' s (same ∙ ap number_of is)

pub one_holds : (k : ℕ) (s s' : SnapBooks) (v w : Books) → Holds v → ChangesSnap k s s' v w → s'.number ≡ s.number → SnapHolds v.loud v.origin v.requests s' → Holds w
one_holds k s s' v w h e number one =
    let u : Books = record v { snaps = set v.snaps k s' } in
    let now : w ≡ u = same_volume w u e.origin e.sectors e.loud e.snaps e.merge e.requests in
    subst Holds (sym now) (record {
      whole = h.whole;
      merge = h.merge;
      snaps = All-set (SnapHolds v.loud v.origin v.requests) v.snaps k s' one h.snaps;
      requests = h.requests;
      numbers = subst (AllPairs (λ m n. m ≢ n)) (sym (same_numbers v.snaps k s s' e.was number)) h.numbers;
    })

pub set_same : (xs : List Entry) (k : ℕ) (x : Entry) → k < length xs → x ≡ get_or xs k x → set xs k x ≡ xs
set_same [] k x within is = absurd (omega (arith, within))
set_same (y ∷ ys) zero x within is = ap (λ z. z ∷ ys) is
set_same (y ∷ ys) (suc k) x within is = ap (λ zs. y ∷ zs) (set_same ys k x (omega (arith, within)) is)

pub one_plain : (k : ℕ) (s s' : SnapBooks) (v w : Books) → ChangesSnap k s s' v w → entry_of v.origin s' ≡ entry_of v.origin s → plain_of w ≡ plain_of v
one_plain k s s' v w e same =
    let u : Books = record v { snaps = set v.snaps k s' } in
    let now : w ≡ u = same_volume w u e.origin e.sectors e.loud e.snaps e.merge e.requests in
    ap plain_of now
    ∙ ap (λ x. plain (origin_of v.origin v.merge) (begun_of v.merge) x (map in_flight v.requests))
    (map-set (entry_of v.origin) v.snaps k s' ∙ set_same (map (entry_of v.origin) v.snaps) k (entry_of v.origin s') (omega (arith, e.within, length-map v.snaps (entry_of v.origin)))
    (same ∙ ap (entry_of v.origin) e.was ∙ sym (get_or-map (entry_of v.origin) v.snaps k s (entry_of v.origin s') e.within)))

abbrev pub shown : ℕ → Overflowing → Bool → List ℕ → Entry
shown number overflow live array = record { number = number; saved = if live then Live array else Invalid; overflow = overflow }

entry_as : (b : Bool) (number : ℕ) (overflow : Overflowing) (a a' : List ℕ) → (b ≡ true → a' ≡ a) → shown number overflow b a' ≡ shown number overflow b a
entry_as true number overflow a a' same = ap (shown number overflow true) (same refl)
entry_as false number overflow a a' same = refl

-- a snapshot shows the same where its picture is the same
pub same_entry : (o o' : List ℕ) (s s' : SnapBooks) → s'.number ≡ s.number → s'.live ≡ s.live → s'.overflow ≡ s.overflow → (s.live ≡ true → picture s'.chunk o' s'.store ≡ picture s.chunk o s.store) → entry_of o' s' ≡ entry_of o s
same_entry o o' s s' number live overflow same =
    ap (λ n. shown n s'.overflow s'.live (picture s'.chunk o' s'.store)) number ∙ ap (λ b. shown s.number s'.overflow b (picture s'.chunk o' s'.store)) live
    ∙ ap (λ x. shown s.number x s.live (picture s'.chunk o' s'.store)) overflow ∙ entry_as s.live s.number s.overflow (picture s.chunk o s.store) (picture s'.chunk o' s'.store) same

-- a live snapshot stays live, and shows the same
pub one_silent : (k : ℕ) (s s' : SnapBooks) (v w : Books) → Holds v → ChangesSnap k s s' v w → IsSame s s' → s.live ≡ true → LiveHolds v.loud v.origin v.requests s'
    → ((v.loud && s.loud) ≡ true → picture s'.chunk v.origin s'.store ≡ picture s.chunk v.origin s.store) → IsSilent v w
one_silent k s s' v w h e same live one shows = record {
  holds = one_holds k s s' v w h e same.number (live_snap v.origin v.requests s' (same.live ∙ live) one);
  step = λ loud. silent_step (plain_of v) (plain_of w) (one_plain k s s' v w e (same_entry v.origin v.origin s s' same.number same.live same.overflow (λ _. shows (both_loud v.loud s.loud loud.origin (snap_loud v k s loud e.within e.was)))));
}

-- the array over an unchanged store
pub same_array : (o : List ℕ) (s s' : SnapBooks) → IsSame s s' → s'.store ≡ s.store → picture s'.chunk o s'.store ≡ picture s.chunk o s.store
same_array o s s' same store = ap (λ c. picture c o s'.store) same.chunk ∙ ap (picture s.chunk o) store

module _ (k : ℕ) (s s' : SnapBooks) (v w : Books) (h : Holds v) (e : ChangesSnap k s s' v w) where
  here : SnapHolds v.loud v.origin v.requests s
  here = snap_holds v k s h e.within e.was

  -- CopyRead
  pub copy_read_event : (j : ℕ) (p q : ChunkCopy) → ReadsCopy v.origin j p q s s' → IsSilent v w
  copy_read_event j p q r =
      let live = live_by_copy v.origin v.requests s j here r.copy.within in
      one_silent k s s' v w h e r.same live (copy_read v.origin v.requests j p q s s' (here.alive live) r) (λ _. same_array v.origin s s' r.same r.store.store)

  -- CopyWrite
  pub copy_write_event : (j : ℕ) (p q : ChunkCopy) → WritesCopy j p q s s' → IsSilent v w
  copy_write_event j p q r =
      let live = live_by_copy v.origin v.requests s j here r.copy.within in
      one_silent k s s' v w h e r.same live (copy_write v.origin v.requests j p q s s' (here.alive live) r) (λ both. copy_write_picture v.origin v.requests j p q s s' (here.alive live) r (store_loud v.loud s.loud both))

  -- ZeroNext
  pub zero_event : (a : ℕ) → s.live ≡ true → ZeroesArea a s s' → IsSilent v w
  zero_event a live r = one_silent k s s' v w h e r.same live (area_zeroed v.origin v.requests a s s' (here.alive live) r) (λ both. area_zeroed_picture v.origin v.requests a s s' (here.alive live) r (store_loud v.loud s.loud both))

  -- WriteArea
  pub commit_event : (count a : ℕ) → s.live ≡ true → Commits count a s s' → IsSilent v w
  commit_event count a live r = one_silent k s s' v w h e r.same live (commit v.origin v.requests count a s s' (here.alive live) r) (commit_picture v.origin v.requests count a s s' (here.alive live) r)

  -- FlushStore
  pub flush_event : s.live ≡ true → FlushesStore s s' → IsSilent v w
  flush_event live r = one_silent k s s' v w h e r.same live (flush v.origin v.requests s s' (here.alive live) r) (λ _. same_array v.origin s s' r.same r.store)

  -- Publish, before held writes are routed again
  pub unmark_event : (j : ℕ) (m : Mark) → Unmarks j m s s' → list_any (is_reading s.number s.chunk m.chunk) v.requests ≡ false → IsSilent v w
  unmark_event j m r unread =
      let live = live_by_mark v.origin v.requests s j here r.within in
      one_silent k s s' v w h e r.same live (unmark v.origin v.requests j m s s' (here.alive live) r unread) (λ _. same_array v.origin s s' r.same r.store.store)

  -- a copy is started
  pub start_event : (p : ChunkCopy) → s.live ≡ true → StartsCopy p s s' → IsSilent v w
  start_event p live r = one_silent k s s' v w h e r.same live (start v.origin v.requests p s s' (here.alive live) r) (λ _. same_array v.origin s s' r.same r.store)
