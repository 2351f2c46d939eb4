-- What a call does to a merge: what lasts of it afterwards, and what a stop before, within or after it leaves of the origin's array.
use Rattle.std.proofs.Common.{◌≡◌, ◌⊎◌, inl, ℕ, ◌+◌, ◌*◌, ◌/◌, ◌<◌, ◌≤◌, Bool, true, false, List, [], ◌∷◌, ◌++◌, Option, None, Some, length, refl, sym, ◌∙◌, ap, subst, arith, eqb-true}
use Rattle.std.specs.Prelude.{◌==◌, ◌&&◌, not}
use Rattle.std.specs.List.{All}
use Rattle.std.proofs.Math.ListN.{get_or-append}
use Rattle.std.proofs.lemmas.List.{length-append}
use Rattle.sector.specs.Bytes.{sector_at, with_sectors}
use Rattle.sector.specs.declared.pair.Pair.{Pair}
use Rattle.device.specs.Layers.{Layer, is_loud}
use Rattle.cow_format.specs.Places.{area_place, slot, ChangesOnly}
use Rattle.cow_format.specs.Pairs.{pairs_of, IsInside}
use Rattle.cow_format.specs.Picture.{place_of, IsCopied}
use Rattle.in_flight.specs.declared.flights.Flight.{Flight}
use Rattle.crash_laws.specs.Stop.{MayLeave}
use Rattle.crash_laws.specs.Firm.{AddsNow, IsFirm}
use Rattle.crash_laws.specs.Clauses.{Given, Gives, StopsMerge}
use Rattle.crash_laws.specs.May.{sector_of}
use Rattle.cache_loss_laws.specs.Lasting.{ClearsSlots}
use Rattle.cache_loss_laws.specs.Lost.{NoneGiven, GivesPlace}
use Rattle.cache_loss_laws.specs.Merging.{Merging as Lost, IsMergeThere, MergeLasts, StopsMergeLost, KeepsBack}
use Rattle.cache_loss_laws.proofs.Clauses.{merge_gives}
use Rattle.cache_loss_laws.proofs.MergeKept.{disk_stops, disk_lasts, origin_flush_lasts, place_stops, place_lasts, clear_stops, clear_lasts, finish_opens}
use Rattle.cache_loss_laws.proofs.Premises.{disk_clause}
use Rattle.cache_loss_laws.proofs.StaysOut.{stays_out, short_lists, placed_slots, cleared_slots}
use Rattle.volume_laws.specs.Merging.{MergeHolds}
use Rattle.volume_laws.specs.Whole.{OriginHolds}
use Rattle.merge.specs.Due.{is_finished_of, has_group_of}
use Rattle.merge.specs.Lists.{copied_of}
use Rattle.merge.specs.Merging.{Merging, flushed_of, books_of as merging_books}
use Rattle.snapshot_list.specs.Rooms.{merge_books}
use Rattle.volume.specs.Volumed.{Volumed}
use Rattle.volume.specs.Whole.{IsWhole, GoesOn}
use Rattle.volume.specs.Stopping.{StaysOut, StopsFinished}
use Rattle.volume.specs.MergeLasting.{merging_of, MergeLasting, StopsOriginOn}
use Rattle.volume.proofs.Shown.{and_left}
use Rattle.volume.proofs.LastOne.{IsSameDevice, IsCalled, leaves, called}

-- what a volume keeps of a merge
pub record IsKeptMerge {B : Type 0} (contents : B → List ℕ) (layers : B → List Layer) (size : B → ℕ) (o : B) (rs : List Flight) (m : Merging B) : Type 0 where
  pub fits : m.state.origin ≡ size o
  pub holds : MergeHolds (contents o) rs (merging_books contents (is_loud (layers o) && is_loud (layers m.device)) m)

pub kept_merge : {B : Type 0} (contents : B → List ℕ) (layers : B → List Layer) (size : B → ℕ) (v : Volumed B) (m : Merging B) → IsWhole contents layers size v → v.merge ≡ Some m → IsKeptMerge contents layers size v.origin v.flights m
kept_merge contents layers size v m h e = record {
  fits = (subst (λ (x : Option (Merging _)). GoesOn contents layers size x v) e h.merge).origin;
  holds = subst (λ (x : Option (Merging _)). OriginHolds (contents v.origin) v.flights (merge_books contents layers (is_loud (layers v.origin)) x)) e h.holds.merge;
}

both : (a b : Bool) → a ≡ true → b ≡ true → (a && b) ≡ true
both true b e f = f
both false b e f = e

all_left : {X : Type 0} (P : X → Type 0) (xs ys : List X) → All P (xs ++ ys) → All P xs
all_left P xs ys all = λ k d lt. subst P (get_or-append xs ys d k lt) (all k d (omega (arith, lt, length-append xs ys)))

none_left : {X : Type 0} (xs : List X) → length xs ≡ 0 → xs ≡ []
none_left [] e = refl
none_left (x ∷ xs) e = absurd (omega (arith, e))

-- a finished merge has no pair
pub finished_none : {B : Type 0} (m : Merging B) → is_finished_of m ≡ true → m.pairs ≡ []
finished_none m e = none_left m.pairs (eqb-true (length m.pairs) 0 (and_left (length m.pairs == 0) (not (has_group_of m.group)) e))

-- of a group that is committed nothing is said to be copied back
unsaid : (oh sh : ℕ → List ℕ → Type 0) (o c : List ℕ) (m : Lost) (flushed : Bool) → m.copied ≡ [] → MergeLasts oh sh o c m → MergeLasts oh sh o c (record m { flushed = flushed })
unsaid oh sh o c m flushed none h = record {
  gone = h.gone;
  last = h.last;
  header = h.header;
  list = h.list;
  inside = h.inside;
  cleared = h.cleared;
  formed = h.formed;
  back = λ f k d lt. absurd (omega (arith, lt, ap length none));
}

lost_is : (chunk chunk' sectors sectors' size size' : ℕ) (pairs pairs' copied copied' : List Pair) (flushed flushed' : Bool) → chunk' ≡ chunk → sectors' ≡ sectors → size' ≡ size → pairs' ≡ pairs → copied' ≡ copied → flushed' ≡ flushed
    → (let x : Lost = record { chunk = chunk; sectors = sectors; size = size; pairs = pairs; copied = copied; flushed = flushed } in x) ≡ (let y : Lost = record { chunk = chunk'; sectors = sectors'; size = size'; pairs = pairs'; copied = copied'; flushed = flushed' } in y)
lost_is chunk chunk' sectors sectors' size size' pairs pairs' copied copied' flushed flushed' a b c d e f = cc

module _ {B : Type 0} (holds : B → ℕ → List ℕ → Type 0) (contents : B → List ℕ) (layers : B → List Layer) (size : B → ℕ) (whole : (d : B) → length (contents d) ≡ 512 * size d) (here : (d : B) (s : ℕ) → s < size d → holds d s (sector_at (contents d) s)) where
  -- What lasts of the merge, and what a stop leaves of the origin's array, after a call.
  pub record GoesMerge (given : Option Given) (o o' : B) (m m' : Merging B) : Type 0 where
    pub stops : StopsOriginOn holds layers size given o o' (Some m) (Some m')
    pub lasts : MergeLasting holds contents layers size o' (Some m')

  module _ (o : B) (rs : List Flight) (m : Merging B) (k : IsKeptMerge contents layers size o rs m) (l : MergeLasting holds contents layers size o (Some m)) where
    pub there_of : is_loud (layers o) ≡ true → is_loud (layers m.device) ≡ true → IsMergeThere (holds o) (holds m.device) (contents o) (contents m.device) (merging_of size o m)
    there_of lo lm = record {
      some = k.holds.text.some;
      disk_now = leaves holds contents layers size whole here o;
      store_now = leaves holds contents layers size whole here m.device;
      listed = k.holds.stored (both (is_loud (layers o)) (is_loud (layers m.device)) lo lm);
    }

    pub copied_there : is_loud (layers o) ≡ true → is_loud (layers m.device) ≡ true → All (IsCopied m.state.chunk (contents o) (contents m.device)) (copied_of m.group)
    copied_there lo lm = all_left (IsCopied m.state.chunk (contents o) (contents m.device)) (copied_of m.group) _ (k.holds.back (both (is_loud (layers o)) (is_loud (layers m.device)) lo lm))

    -- the clauses, of what the laws say
    clauses : (given : Option Given) (o' : B) (m' : Merging B) → is_loud (layers o) ≡ true → is_loud (layers m.device) ≡ true → StopsMergeLost (holds o) (holds m.device) (holds o') (holds m'.device) (Gives given None) (merging_of size o m) → StaysOut holds size m.state.chunk m.device m'.device
        → StopsMerge holds size given m.state.chunk o o' m.device m'.device × (is_finished_of m ≡ true → StopsFinished holds size given m.state.chunk o o' m.device) × StaysOut holds size m.state.chunk m.device m'.device
    clauses given o' m' lo lm stops out = (
      stops,
      λ finished. finish_opens (holds o) (holds m.device) (holds o') (holds m'.device) (Gives given None) (contents o) (contents m.device) (merging_of size o m) (there_of lo lm) (finished_none m finished) stops,
      out,
    )

    -- no chunk comes back to a list through a call that fills no slot
    stays : (o' : B) (m' : Merging B) → is_loud (layers o) ≡ true → is_loud (layers m.device) ≡ true → is_loud (layers o') ≡ is_loud (layers o) → IsCalled holds contents layers size m.device m'.device → m'.state.chunk ≡ m.state.chunk
        → ((i : ℕ) → (slot m.state.chunk (contents m'.device) i ≡ slot m.state.chunk (contents m.device) i) ⊎ ((slot m.state.chunk (contents m'.device) i).new ≡ 0)) → MergeLasting holds contents layers size o' (Some m') → StaysOut holds size m.state.chunk m.device m'.device
    stays o' m' lo lm loud store chunk fewer after c out d left =
        let t = there_of lo lm in
        let a = after (loud ∙ lo) (store.loud ∙ lm) in
        let left_d : MayLeave (holds m'.device) (size m.device) d = subst (λ n. MayLeave (holds m'.device) n d) store.sectors left in
        let short : (i : ℕ) → i < length (pairs_of m'.state.chunk d) → sector_of m'.state.chunk i < size m'.device =
        short_lists m'.state.chunk (length m'.pairs) a.last (size m'.device) (m'.pairs ++ a.gone) (holds m'.device) d (subst (λ n. 0 < n) (sym chunk) t.some) a.list a.inside left in
        stays_out m.state.chunk (size m.device) (holds m.device) (holds m'.device) (contents m.device) (contents m'.device) t.some t.store_now (store.adds lm) fewer d left_d
        (λ i lt. subst (λ n. sector_of m.state.chunk i < n) store.sectors (subst (λ n. sector_of n i < size m'.device) chunk (short i (subst (λ n. i < length (pairs_of n d)) (sym chunk) lt)))) c out

    module _ (given : Option Given) (o' : B) (m' : Merging B) (chunk : m'.state.chunk ≡ m.state.chunk) where
      -- The merging store is not written, but maybe the origin disk: where the store has no pair a value is as it was, or given.
      module _ (disk : IsCalled holds contents layers size o o') (store : IsSameDevice holds contents layers size m.device m'.device) (pairs : m'.pairs ≡ m.pairs) where
        store_adds : is_loud (layers m.device) ≡ true → AddsNow (holds m.device) (holds m'.device) (contents m.device)
        store_adds lm = subst (AddsNow (holds m.device) (holds m'.device)) store.bytes (store.adds lm)

        abbrev GivesDisk : Type 0
        GivesDisk = is_loud (layers o) ≡ true → is_loud (layers m.device) ≡ true → (s : ℕ) → s < size o → place_of m.pairs (s / m.state.chunk) ≡ None → (sector_at (contents o') s ≡ sector_at (contents o) s) ⊎ Gives given None s (sector_at (contents o') s)

        abbrev KeepsCopied : Type 0
        KeepsCopied = is_loud (layers o) ≡ true → is_loud (layers m.device) ≡ true → KeepsBack (contents o) (contents o') (copied_of m'.group) (flushed_of m'.group) (merging_of size o m)

        disk_clauses : GivesDisk → MergeLasting holds contents layers size o' (Some m') → StopsOriginOn holds layers size given o o' (Some m) (Some m')
        disk_clauses gives after lo lm =
            clauses given o' m' lo lm (disk_stops (holds o) (holds m.device) (holds o') (holds m'.device) (contents o) (contents o') (contents m.device) (merging_of size o m) (Gives given None) (there_of lo lm) (l lo lm) (disk.adds lo) (store_adds lm) (gives lo lm))
            (stays o' m' lo lm disk.loud (called holds contents layers size whole here m.device m'.device store) chunk (λ i. inl (ap (λ c. slot m.state.chunk c i) store.bytes)) after)

        -- what lasts, of what lasts over the bytes that the store had
        lasts_as : (copied : List Pair) (flushed : Bool) → copied_of m'.group ≡ copied → flushed_of m'.group ≡ flushed → MergeLasts (holds o') (holds m'.device) (contents o') (contents m.device) (record { chunk = m.state.chunk; sectors = size o; size = size m.device; pairs = m.pairs; copied = copied; flushed = flushed })
            → MergeLasts (holds o') (holds m'.device) (contents o') (contents m'.device) (merging_of size o' m')
        lasts_as copied flushed ec ef h =
            subst (λ (z : Lost). MergeLasts (holds o') (holds m'.device) (contents o') (contents m'.device) z)
            (lost_is m.state.chunk m'.state.chunk (size o) (size o') (size m.device) (size m'.device) m.pairs m'.pairs copied (copied_of m'.group) flushed (flushed_of m'.group) chunk disk.sectors store.sectors pairs ec ef)
            (subst (λ c. MergeLasts (holds o') (holds m'.device) (contents o') c (record { chunk = m.state.chunk; sectors = size o; size = size m.device; pairs = m.pairs; copied = copied; flushed = flushed })) (sym store.bytes) h)

        pub disk_goes : GivesDisk → KeepsCopied → GoesMerge given o o' m m'
        disk_goes gives back = record { stops = disk_clauses gives after; lasts = after }
          where
            after : MergeLasting holds contents layers size o' (Some m')
            after lo' lm' =
                let lo : is_loud (layers o) ≡ true = sym disk.loud ∙ lo' in
                let lm : is_loud (layers m.device) ≡ true = sym store.loud ∙ lm' in
                lasts_as (copied_of m'.group) (flushed_of m'.group) refl refl
                (disk_lasts (holds o) (holds m.device) (holds o') (holds m'.device) (contents o) (contents o') (contents m.device) (merging_of size o m) (Gives given None) (there_of lo lm) (l lo lm) (disk.adds lo) (store_adds lm) (copied_of m'.group) (flushed_of m'.group) (back lo lm))

        -- the origin's device is flushed, to which the group's chunks were copied back
        pub flush_goes : contents o' ≡ contents o → (is_loud (layers o) ≡ true → IsFirm (holds o') (contents o') (size o')) → copied_of m'.group ≡ copied_of m.group → flushed_of m'.group ≡ true → GoesMerge given o o' m m'
        flush_goes same firm copied flushed = record { stops = disk_clauses (λ lo lm s lt none. inl (ap (λ z. sector_at z s) same)) after; lasts = after }
          where
            after : MergeLasting holds contents layers size o' (Some m')
            after lo' lm' =
                let lo : is_loud (layers o) ≡ true = sym disk.loud ∙ lo' in
                let lm : is_loud (layers m.device) ≡ true = sym store.loud ∙ lm' in
                lasts_as (copied_of m.group) true copied flushed
                (subst (λ z. MergeLasts (holds o') (holds m'.device) z (contents m.device) (record { chunk = m.state.chunk; sectors = size o; size = size m.device; pairs = m.pairs; copied = copied_of m.group; flushed = true })) (sym same)
                (origin_flush_lasts (holds o) (holds m.device) (holds o') (holds m'.device) (contents o) (contents m.device) (merging_of size o m) (there_of lo lm) (l lo lm) (store_adds lm)
                (subst (λ n. IsFirm (holds o') (contents o) n) disk.sectors (subst (λ z. IsFirm (holds o') z (size o')) same (firm lo)))))

      -- neither is written
      pub still_goes : IsSameDevice holds contents layers size o o' → IsSameDevice holds contents layers size m.device m'.device → m'.pairs ≡ m.pairs → (flushed_of m'.group ≡ true → (flushed_of m.group ≡ true) × (copied_of m'.group ≡ copied_of m.group)) → GoesMerge given o o' m m'
      still_goes disk store pairs back =
          disk_goes (called holds contents layers size whole here o o' disk) store pairs (λ lo lm s lt none. inl (ap (λ z. sector_at z s) disk.bytes))
          (λ lo lm f. (let b = back f in (b.0, b.1, λ i d lt s low at. ap (λ z. sector_at z s) disk.bytes)))

      -- So many sectors are written at a pair's place of the merging store.
      module _ (disk : IsSameDevice holds contents layers size o o') (store : IsCalled holds contents layers size m.device m'.device) (pairs : m'.pairs ≡ m.pairs) (copied : copied_of m'.group ≡ copied_of m.group) (flushed : flushed_of m'.group ≡ flushed_of m.group)
          (named n r count : ℕ) (bytes : List ℕ) (at : place_of m.pairs named ≡ Some n) (within : r + count ≤ m.state.chunk) (long : length bytes ≡ 512 * count)
          (written : is_loud (layers m.device) ≡ true → contents m'.device ≡ with_sectors (contents m.device) (m.state.chunk * n + r) bytes)
          (gives : (s : ℕ) (w : List ℕ) → s < size o → GivesPlace m.state.chunk named r count bytes s w → Gives given None s w) where
        disk_same : is_loud (layers o) ≡ true → AddsNow (holds o) (holds o') (contents o)
        disk_same lo = subst (AddsNow (holds o) (holds o')) disk.bytes (disk.adds lo)

        placed_adds : is_loud (layers m.device) ≡ true → AddsNow (holds m.device) (holds m'.device) (with_sectors (contents m.device) (m.state.chunk * n + r) bytes)
        placed_adds lm = subst (AddsNow (holds m.device) (holds m'.device)) (written lm) (store.adds lm)

        pub place_goes : GoesMerge given o o' m m'
        place_goes = record {
          stops = λ lo lm. clauses given o' m' lo lm (merge_gives (holds o) (holds m.device) (holds o') (holds m'.device) (GivesPlace m.state.chunk named r count bytes) (Gives given None) (merging_of size o m) gives
              (place_stops (holds o) (holds m.device) (holds o') (holds m'.device) (contents o) (contents m.device) bytes (merging_of size o m) named n r count (there_of lo lm) (l lo lm) at within long (disk_same lo) (placed_adds lm)))
              (stays o' m' lo lm disk.loud store chunk (λ i. inl (ap (λ c. slot m.state.chunk c i) (written lm) ∙ slots lo lm i)) after);
          lasts = after;
        }
          where
            slots : is_loud (layers o) ≡ true → is_loud (layers m.device) ≡ true → (i : ℕ) → slot m.state.chunk (with_sectors (contents m.device) (m.state.chunk * n + r) bytes) i ≡ slot m.state.chunk (contents m.device) i
            slots lo lm i =
                let t = there_of lo lm in
                let a = l lo lm in
                placed_slots m.state.chunk (size o) (size m.device) named n r count m.pairs (contents m.device) bytes t.some (all_left (IsInside m.state.chunk (size o) (size m.device)) m.pairs a.gone a.formed.inside) at within long (whole m.device) i

            after : MergeLasting holds contents layers size o' (Some m')
            after lo' lm' =
                let lo : is_loud (layers o) ≡ true = sym disk.loud ∙ lo' in
                let lm : is_loud (layers m.device) ≡ true = sym store.loud ∙ lm' in
                let is : contents m'.device ≡ with_sectors (contents m.device) (m.state.chunk * n + r) bytes = written lm in
                let left_o : MayLeave (holds o') (size o) (contents o) = subst (λ z. MayLeave (holds o') (size o) z) disk.bytes (subst (λ x. MayLeave (holds o') x (contents o')) disk.sectors (leaves holds contents layers size whole here o')) in
                let left_m : MayLeave (holds m'.device) (size m.device) (with_sectors (contents m.device) (m.state.chunk * n + r) bytes) =
                subst (λ z. MayLeave (holds m'.device) (size m.device) z) is (subst (λ x. MayLeave (holds m'.device) x (contents m'.device)) store.sectors (leaves holds contents layers size whole here m'.device)) in
                subst (λ (z : Lost). MergeLasts (holds o') (holds m'.device) (contents o') (contents m'.device) z)
                (lost_is m.state.chunk m'.state.chunk (size o) (size o') (size m.device) (size m'.device) m.pairs m'.pairs (copied_of m.group) (copied_of m'.group) (flushed_of m.group) (flushed_of m'.group) chunk disk.sectors store.sectors pairs copied flushed)
                (subst (λ z. MergeLasts (holds o') (holds m'.device) z (contents m'.device) (merging_of size o m)) (sym disk.bytes)
                (subst (λ z. MergeLasts (holds o') (holds m'.device) (contents o) z (merging_of size o m)) (sym is)
                (place_lasts (holds o) (holds m.device) (holds o') (holds m'.device) (contents o) (contents m.device) bytes (merging_of size o m) named n r count (there_of lo lm) (l lo lm) at within long (disk_same lo) (placed_adds lm) left_o left_m)))

      -- The slots of the group are cleared, whose chunks were copied back and flushed.
      module _ (disk : IsSameDevice holds contents layers size o o') (store : IsCalled holds contents layers size m.device m'.device) (kept : List Pair) (a : ℕ) (parts : m.pairs ≡ kept ++ copied_of m.group) (was : flushed_of m.group ≡ true) (pairs : m'.pairs ≡ kept) (none : copied_of m'.group ≡ [])
          (only : is_loud (layers m.device) ≡ true → ChangesOnly m.state.chunk (area_place m.state.chunk a) (contents m.device) (contents m'.device))
          (now : is_loud (layers o) ≡ true → is_loud (layers m.device) ≡ true → pairs_of m.state.chunk (contents m'.device) ≡ kept)
          (zero : is_loud (layers m.device) ≡ true → (i : ℕ) → length kept ≤ i → i < length (kept ++ copied_of m.group) → (slot m.state.chunk (contents m'.device) i).new ≡ 0)
          (others : is_loud (layers m.device) ≡ true → (i : ℕ) → length (kept ++ copied_of m.group) ≤ i → slot m.state.chunk (contents m'.device) i ≡ slot m.state.chunk (contents m.device) i)
          (clears : is_loud (layers m.device) ≡ true → ClearsSlots m.state.chunk (size m.device) (length kept) (length (kept ++ copied_of m.group)) (contents m.device) (contents m'.device)) where
        abbrev back_lost : Lost
        back_lost = record { chunk = m.state.chunk; sectors = size o; size = size m.device; pairs = kept; copied = []; flushed = flushed_of m'.group }

        unwritten : is_loud (layers o) ≡ true → AddsNow (holds o) (holds o') (contents o)
        unwritten lo = subst (AddsNow (holds o) (holds o')) disk.bytes (disk.adds lo)

        pub commit_goes : GoesMerge given o o' m m'
        commit_goes = record {
          stops = λ lo lm. clauses given o' m' lo lm (merge_gives (holds o) (holds m.device) (holds o') (holds m'.device) NoneGiven (Gives given None) (merging_of size o m) (λ s w lt g. absurd g)
              (clear_stops (holds o) (holds m.device) (holds o') (holds m'.device) (contents o) (contents m.device) (contents m'.device) (merging_of size o m) kept a (there_of lo lm) (l lo lm) parts was (unwritten lo) (store.adds lm) (only lm) (now lo lm) (zero lm) (others lm) (clears lm) (copied_there lo lm)))
              (stays o' m' lo lm disk.loud store chunk (cleared_slots m.state.chunk kept (copied_of m.group) (contents m.device) (contents m'.device) (there_of lo lm).some ((there_of lo lm).listed ∙ parts) (now lo lm) (zero lm) (others lm)) after);
          lasts = after;
        }
          where
            after : MergeLasting holds contents layers size o' (Some m')
            after lo' lm' =
                let lo : is_loud (layers o) ≡ true = sym disk.loud ∙ lo' in
                let lm : is_loud (layers m.device) ≡ true = sym store.loud ∙ lm' in
                let left_o : MayLeave (holds o') (size o) (contents o) = subst (λ z. MayLeave (holds o') (size o) z) disk.bytes (subst (λ x. MayLeave (holds o') x (contents o')) disk.sectors (leaves holds contents layers size whole here o')) in
                let left_m : MayLeave (holds m'.device) (size m.device) (contents m'.device) = subst (λ x. MayLeave (holds m'.device) x (contents m'.device)) store.sectors (leaves holds contents layers size whole here m'.device) in
                subst (λ (z : Lost). MergeLasts (holds o') (holds m'.device) (contents o') (contents m'.device) z)
                (lost_is m.state.chunk m'.state.chunk (size o) (size o') (size m.device) (size m'.device) kept m'.pairs [] (copied_of m'.group) (flushed_of m'.group) (flushed_of m'.group) chunk disk.sectors store.sectors pairs none refl)
                (subst (λ z. MergeLasts (holds o') (holds m'.device) z (contents m'.device) back_lost) (sym disk.bytes)
                (unsaid (holds o') (holds m'.device) (contents o) (contents m'.device) (record { chunk = m.state.chunk; sectors = size o; size = size m.device; pairs = kept; copied = []; flushed = false }) (flushed_of m'.group) refl
                (clear_lasts (holds o) (holds m.device) (holds o') (holds m'.device) (contents o) (contents m.device) (contents m'.device) (merging_of size o m) kept a (there_of lo lm) (l lo lm) parts was (unwritten lo) (store.adds lm) (only lm) (now lo lm) (zero lm) (others lm) (clears lm) (copied_there lo lm) [] left_o left_m)))

  -- Where no merge is begun, the origin disk is the array: a value is as it was, or given.
  pub plain_stops : (given : Option Given) (o o' : B) (after : Option (Merging B)) → IsCalled holds contents layers size o o'
      → (is_loud (layers o) ≡ true → (s : ℕ) → s < size o → (sector_at (contents o') s ≡ sector_at (contents o) s) ⊎ Gives given None s (sector_at (contents o') s)) → StopsOriginOn holds layers size given o o' None after
  plain_stops given o o' after disk cases lo = disk_clause holds contents size given o o' (disk.adds lo) (leaves holds contents layers size whole here o) (cases lo)
