-- A snapshot that leaves the list of those that are looked at keeps what is true of an audit.
use Rattle.std.proofs.Common.{◌≡◌, ◌≢◌, ℕ, zero, suc, ◌+◌, ◌<◌, ◌≤◌, Bool, true, false, List, [], ◌∷◌, ◌++◌, length, get_or, map, Option, Some, None, nat_lt, cond, refl, sym, ◌∙◌, ap, arith, inl, inr}
use Rattle.std.specs.Prelude.{◌==◌, ◌&&◌}
use Rattle.std.specs.List.{position, position_or_len, remove}
use Rattle.std.proofs.lemmas.Bool.{cases_Bool, ne_eqb}
use Rattle.std.proofs.lemmas.List.{length-map}
use Rattle.std.proofs.lemmas.List.Edits.{length-remove}
use Rattle.device.specs.Layers.{Layer}
use Rattle.plain_machine.specs.Plain.{Plain, Entry as ShownEntry, Saved, without_saved, shown_of}
use Rattle.plain_machine.specs.Legal.{IsBegun, IsDetached}
use Rattle.in_flight.specs.Kinds.{in_flight}
use Rattle.snapshot.specs.Kept.{Kept}
use Rattle.snapshot.specs.declared.opening.StoreDev.{StoreDev}
use Rattle.snapshot_list.specs.Finding.{place_of_snap}
use Rattle.snapshot_list.proofs.Finds.{position_within}
use Rattle.snapshot_list.specs.Keeping.{kept_for}
use Rattle.volume.specs.Shown.{shown_entry}
use Rattle.volume.specs.Beginning.{IsMergeBegun}
use Rattle.volume.specs.Leaving.{IsWithout}
use Rattle.volume.specs.Volumed.{Volumed, plain_of}
use Rattle.audited_volume.specs.declared.entry.Entry.{Entry}
use Rattle.audited_volume.specs.declared.entry.Entry.TheVariants.{Begun, Detached}
use Rattle.audited_volume.specs.Entries.{entries_by}
use Rattle.audited_volume.specs.Replay.{after, array_in, IsLawful}
use Rattle.audited_volume.specs.Noted.{is_live, is_open, kept_count, live_count}
use Rattle.audited_volume.specs.Books.{Books, IsAudit}
use Rattle.audited_volume.proofs.Changes.{entry_keeps, first_on}
use Rattle.audited_volume.proofs.Mays.{may_removed}
use Rattle.audited_volume.proofs.Receipts.{saved_count}
use Rattle.audited_volume.proofs.Replaying.{entries_by_silent}

-- a search that finds nothing
ends : {X : Type 0} (test : X → Bool) (xs : List X) → ((j : ℕ) (d : X) → j < length xs → test (get_or xs j d) ≡ false) → position_or_len test xs ≡ length xs
ends test [] none = refl
ends test (x ∷ xs) none =
    let rest = ends test xs (λ j d lt. none (suc j) d (omega (arith, lt))) in
    rw (none 0 x (omega arith)) (omega (arith, rest))

not_under : (n : ℕ) → nat_lt n n ≡ false
not_under n = search (arith)

pub not_found : {B : Type 0} (number : ℕ) (snaps : List (Kept B)) → ((j : ℕ) (d : Kept B) → j < length snaps → (get_or snaps j d).number ≢ number) → place_of_snap number snaps ≡ None
not_found number snaps none =
    let end = ends (λ s. s.number == number) snaps (λ j d lt. ne_eqb (get_or snaps j d).number number (none j d lt)) in
    ap (λ k. cond (nat_lt k (length snaps)) (Some k) None) end ∙ ap (λ b. cond b (Some (length snaps)) None) (not_under (length snaps))

-- and one that finds its place
pub found_at : {X : Type 0} (test : X → Bool) (xs : List X) (k : ℕ) → position test xs ≡ Some k → position_or_len test xs ≡ k
found_at test xs k found = elim (cases_Bool (nat_lt (position_or_len test xs) (length xs))) [
  | inl lt ↦ (let at : Some (position_or_len test xs) ≡ Some k = ap (λ b. cond b (Some (position_or_len test xs)) None) (sym lt) ∙ found in cc)
  | inr ge ↦ (let at : None ≡ Some k = ap (λ b. cond b (Some (position_or_len test xs)) None) (sym ge) ∙ found in absurd (cc))
]

remove_next : {X : Type 0} (x : X) (xs : List X) (n : ℕ) → x ∷ remove xs n ≡ remove (x ∷ xs) (1 + n)
remove_next x xs n = ap (λ k. remove (x ∷ xs) k) (next n) where
  next : (n : ℕ) → suc n ≡ 1 + n
  next n = omega arith

-- a snapshot less shows what is left of a list
left_list : (f : ShownEntry → Bool) {B : Type 0} (contents : B → List ℕ) (origin : List ℕ) (number : ℕ) (snaps : List (Kept B))
    → map f (without_saved number (map (shown_entry contents origin) snaps)) ≡ remove (map f (map (shown_entry contents origin) snaps)) (position_or_len (λ s. s.number == number) snaps)
left_list f contents origin number [] = refl
left_list f contents origin number (s ∷ snaps) = elim (cases_Bool (s.number == number)) [
  | inl here ↦ rw here refl
  | inr other ↦ rw other (ap (λ (bs : List Bool). f (shown_entry contents origin s) ∷ bs) (left_list f contents origin number snaps)
      ∙ remove_next (f (shown_entry contents origin s)) (map f (map (shown_entry contents origin) snaps)) (position_or_len (λ x. x.number == number) snaps))
]

same_place : (k j : ℕ) → Some k ≡ Some j → j ≡ k
same_place k j e = cc

-- fewer are live
pub fewer : (bs : List Bool) (k : ℕ) → live_count (remove bs k) ≤ live_count bs
fewer [] zero = omega arith
fewer [] (suc k) = omega arith
fewer (true ∷ bs) zero = omega arith
fewer (false ∷ bs) zero = omega arith
fewer (true ∷ bs) (suc k) = omega (arith, fewer bs k)
fewer (false ∷ bs) (suc k) = fewer bs k

none_detached : (number s : ℕ) (es : List Entry) → entries_by s (es ++ Detached number ∷ []) ≡ entries_by s es
none_detached number s es = entries_by_silent s es (Detached number) refl

none_begun : (number s : ℕ) (es : List Entry) → entries_by s (es ++ Begun number ∷ []) ≡ entries_by s es
none_begun number s es = entries_by_silent s es (Begun number) refl

module _ {B : Type 0} (contents : B → List ℕ) (layers : B → List Layer) (number : ℕ) (w w' : Volumed B) where
  abbrev p : Plain
  p = plain_of contents layers w

  abbrev q : Plain
  q = plain_of contents layers w'

  are_left : (f : ShownEntry → Bool) (k : ℕ) (bits : List Bool) → place_of_snap number w.snaps ≡ Some k → q.saved ≡ without_saved number p.saved → bits ≡ map f p.saved → remove bits k ≡ map f q.saved
  are_left f k bits found left was =
      ap (λ (bs : List Bool). remove bs k) was ∙ ap (remove (map f p.saved)) (sym (found_at (λ s. s.number == number) w.snaps k found))
      ∙ sym (left_list f contents (contents w.origin) number w.snaps) ∙ ap (map f) (sym left)

  -- one is looked at less
  count_left : (k : ℕ) (lives : List Bool) → place_of_snap number w.snaps ≡ Some k → length lives ≡ length p.saved → length w'.snaps ≡ length (remove w.snaps k) → length (remove lives k) ≡ length q.saved
  count_left k lives found count left =
      let within = position_within (λ s. s.number == number) w.snaps k found in
      let were = count ∙ saved_count contents layers w in
      omega (arith, length-remove lives k (omega (arith, within, were)), length-remove w.snaps k within, were, left, saved_count contents layers w')

  pub left_within : (k : ℕ) (lives : List Bool) → place_of_snap number w.snaps ≡ Some k → length lives ≡ length p.saved → k < length lives
  left_within k lives found count = omega (arith, position_within (λ s. s.number == number) w.snaps k found, count, saved_count contents layers w)

  pub detached_does : (k : ℕ) (lives may : List Bool) → place_of_snap number w.snaps ≡ Some k → IsDetached p number q
      → (after (shown_of p) (Detached number) ≡ shown_of q) × IsLawful (shown_of p) (Detached number) × (lives ≡ map is_live p.saved → remove lives k ≡ map is_live q.saved) × (may ≡ map is_open p.saved → remove may k ≡ map is_open q.saved)
  detached_does k lives may found d = (
    sym (ap shown_of d.becomes),
    (d.saved, d.found),
    are_left is_live k lives found (ap (λ (x : Plain). x.saved) d.becomes),
    are_left is_open k may found (ap (λ (x : Plain). x.saved) d.becomes),
  )

  pub begun_does : (k : ℕ) (lives may : List Bool) → place_of_snap number w.snaps ≡ Some k → IsBegun p number q
      → (after (shown_of p) (Begun number) ≡ shown_of q) × IsLawful (shown_of p) (Begun number) × (lives ≡ map is_live p.saved → remove lives k ≡ map is_live q.saved) × (may ≡ map is_open p.saved → remove may k ≡ map is_open q.saved)
  begun_does k lives may found b = (
    ap (λ (o : Option Saved). record { origin = array_in o; begun = Some number; saved = without_saved number p.saved }) b.found ∙ sym (ap shown_of b.becomes),
    (b.alone, (b.array, b.found)),
    are_left is_live k lives found (ap (λ (x : Plain). x.saved) b.becomes),
    are_left is_open k may found (ap (λ (x : Plain). x.saved) b.becomes),
  )

  module _ (loud loud' more told : Bool) (v : Books) (room' : ℕ) (h : IsAudit loud told p v) (free : v.taken + length v.entries + length v.held + kept_count v.lives v.may + 1 ≤ 65_536) (room : room' ≡ v.room) (k : ℕ) (found : place_of_snap number w.snaps ≡ Some k) where
    abbrev left_books : Entry → Books
    left_books e = record v { entries = v.entries ++ e ∷ []; lives = remove v.lives k; may = remove v.may k; room = room' }

    fewer_left : (store : StoreDev B) → IsWithout number w w' store → length w'.snaps ≡ length (remove w.snaps k)
    fewer_left store taken = ap (λ (x : Volumed B). length x.snaps) taken.becomes ∙ ap (λ j. length (remove w.snaps j)) (same_place k taken.place (sym found ∙ taken.found))

    fewer_begun : IsMergeBegun number w w' → length w'.snaps ≡ length (remove w.snaps k)
    fewer_begun begun =
        ap (λ (x : Volumed B). length x.snaps) begun.becomes ∙ length-map (remove w.snaps begun.place) (kept_for number (length begun.snap.pairs) begun.snap.state.chunk) ∙ ap (λ j. length (remove w.snaps j)) (same_place k begun.place (sym found ∙ begun.found))

    pub detached_keeps : loud ≡ (loud' && more) → (store : StoreDev B) → IsWithout number w w' store → (loud ≡ true → IsDetached p number q) → IsAudit loud' told q (left_books (Detached number))
    detached_keeps both store taken detached =
        entry_keeps loud loud' told told p q v (Detached number) (remove v.lives k) (remove v.may k) room' h (λ on. on) (λ on was. first_on loud loud' more both was)
        (ap (λ (x : Volumed B). map in_flight x.flights) taken.becomes)
        (count_left k v.lives found h.counted.lives (fewer_left store taken)) (count_left k v.may found h.counted.may (fewer_left store taken))
        (none_detached number) (omega (arith, free, fewer v.lives k, may_removed v.lives v.may k)) room (λ on was. detached_does k v.lives v.may found (detached was))

    pub begun_keeps : loud' ≡ loud → IsMergeBegun number w w' → (loud ≡ true → IsBegun p number q) → IsAudit loud' told q (left_books (Begun number))
    begun_keeps same begun legal =
        entry_keeps loud loud' told told p q v (Begun number) (remove v.lives k) (remove v.may k) room' h (λ on. on) (λ on was. same ∙ was)
        (ap (λ (x : Volumed B). map in_flight x.flights) begun.becomes)
        (count_left k v.lives found h.counted.lives (fewer_begun begun)) (count_left k v.may found h.counted.may (fewer_begun begun))
        (none_begun number) (omega (arith, free, fewer v.lives k, may_removed v.lives v.may k)) room (λ on was. begun_does k v.lives v.may found (legal was))
