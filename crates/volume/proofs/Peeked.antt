-- What a volume's devices show, by their own bytes.
use Rattle.std.proofs.Common.{◌≡◌, ℕ, zero, suc, ◌+◌, ◌*◌, ◌%◌, ◌<◌, ◌≤◌, Bool, true, false, List, [], ◌∷◌, Option, Some, None, length, get_or, map, refl, sym, ◌∙◌, ap, subst, arith}
use Rattle.std.specs.Prelude.{◌==◌, if◌then◌else◌}
use Rattle.std.proofs.lemmas.List.{get_or-map, length-map}
use Rattle.device.specs.Layers.{Layer, is_loud}
use Rattle.cow_format.specs.Pairs.{pairs_of, IsInside}
use Rattle.cow_format.specs.Picture.{picture, place_of}
use Rattle.plain_machine.specs.declared.request.Dev.{Dev}
use Rattle.plain_machine.specs.declared.request.Dev.TheVariants.{Snap}
use Rattle.plain_machine.specs.Plain.{Entry, Live, Invalid, saved_under}
use Rattle.whole_commands.proofs.PictureSectors.{all_front, place_inside}
use Rattle.snapshot.specs.Kept.{Kept, books_of as snap_books}
use Rattle.volume_laws.specs.Held.{LiveHolds, SnapHolds}
use Rattle.volume.specs.Shown.{shown_entry, shown_origin}
use Rattle.volume.specs.Peeking.{is_loud_at, is_loud_under}
use Rattle.volume.specs.Volumed.{Volumed, plain_of}
use Rattle.volume.specs.Whole.{IsWhole}
use Rattle.snapshot_list.specs.Finding.{place_of_snap}
use Rattle.volume.specs.Submitting.{dev_refusal, is_merging, refusal_at}
use Rattle.merge.specs.InStep.{IsInStep}
use Rattle.merge.specs.Merging.{Merging}
use Rattle.sector.specs.declared.refusal.Refusal.TheVariants.{MergingSnapshot, Invalid as Invalidated}
use Rattle.volume.proofs.MovedLists.{IsFirst}
use Rattle.volume.proofs.Named.{found_within}
use Rattle.volume.proofs.Told.{later_first}

-- sectors of a chunk's place lie inside a device that has the whole chunk
pub place_low : (chunk k n size : ℕ) → k ≡ chunk → chunk * (n + 1) ≤ size → k * n ≤ size
place_low chunk k n size same room = let end : chunk * (n + 1) ≡ chunk * n + chunk = grind arith in rw same (omega (arith, end, room))

pub place_high : (chunk k n size first count : ℕ) → k ≡ chunk → first % chunk + count ≤ chunk → chunk * (n + 1) ≤ size → k * n + first % k + count ≤ size
place_high chunk k n size first count same fits room = let end : chunk * (n + 1) ≡ chunk * n + chunk = grind arith in rw same (omega (arith, end, room, fits))

-- of a live snapshot
module _ {B : Type 0} (contents : B → List ℕ) (layers : B → List Layer) (size : B → ℕ) (v : Volumed B) (whole : IsWhole contents layers size v) (k : ℕ) (s : Kept B) (within : k < length v.snaps) (is : s ≡ get_or v.snaps k s) (live : s.live ≡ true) where
  snap_holds : SnapHolds (is_loud (layers v.origin)) (contents v.origin) v.flights (snap_books contents layers s)
  snap_holds =
      let held : SnapHolds (is_loud (layers v.origin)) (contents v.origin) v.flights (get_or (map (snap_books contents layers) v.snaps) k (snap_books contents layers s)) =
      whole.holds.snaps k (snap_books contents layers s) (omega (arith, within, length-map v.snaps (snap_books contents layers))) in
      subst (SnapHolds (is_loud (layers v.origin)) (contents v.origin) v.flights) (get_or-map (snap_books contents layers) v.snaps k s (snap_books contents layers s) within ∙ ap (snap_books contents layers) (sym is)) held

  pub live_holds : LiveHolds (is_loud (layers v.origin)) (contents v.origin) v.flights (snap_books contents layers s)
  live_holds = snap_holds.alive live

  -- the places of its pairs lie inside its device
  pub places_inside : ((d : B) → length (contents d) ≡ 512 * size d) → (c n : ℕ) → place_of s.pairs c ≡ Some n → s.state.chunk * (n + 1) ≤ size s.device
  places_inside wholes c n found =
      let low = place_inside s.state.chunk s.state.origin s.state.size c n s.pairs (all_front (IsInside s.state.chunk s.state.origin s.state.size) s.pairs s.begun live_holds.text.inside) found in
      omega (arith, low, wholes s.device, live_holds.text.whole)

  -- its pairs are those of its store's bytes
  pub pairs_stored : is_loud (layers s.device) ≡ true → pairs_of s.state.chunk (contents s.device) ≡ s.pairs
  pairs_stored loud = live_holds.stored loud

-- no layer drops writes of the store of the snapshot that was found
pub snap_loud : {B : Type 0} (layers : B → List Layer) (merge : Option (Merging B)) (snaps : List (Kept B)) (dev : Dev) (number k : ℕ) (s : Kept B) → dev ≡ Snap number → Some k ≡ place_of_snap number snaps → s ≡ get_or snaps k s → is_loud_under layers dev merge snaps ≡ true → is_loud (layers s.device) ≡ true
snap_loud layers merge snaps dev number k s is found at loud =
    let within = found_within number snaps k found in
    sym (get_or-map (λ (x : Kept _). is_loud (layers x.device)) snaps k s true within ∙ ap (λ (x : Kept _). is_loud (layers x.device)) (sym at))
    ∙ ap (is_loud_at layers snaps) found ∙ ap (λ (d : Dev). is_loud_under layers d merge snaps) (sym is) ∙ loud

-- what the snapshot with a number shows
abbrev pub entries_in : {B : Type 0} → (B → List ℕ) → List ℕ → List (Kept B) → List Entry
entries_in contents origin xs = map (shown_entry contents origin) xs

saved_first : {B : Type 0} (contents : B → List ℕ) (origin : List ℕ) (number k : ℕ) (s : Kept B) (xs : List (Kept B)) → IsFirst (λ (x : Kept B). x.number == number) k s xs
    → saved_under number (entries_in contents origin xs) ≡ Some (shown_entry contents origin s).saved
saved_first contents origin number k s [] first = absurd (omega (arith, first.within))
saved_first contents origin number zero s (y ∷ ys) first =
    rw (subst (λ (x : Kept _). (x.number == number) ≡ true) first.is first.passes) (ap (λ (x : Kept _). Some (shown_entry contents origin x).saved) (sym first.is))
saved_first contents origin number (suc k) s (y ∷ ys) first = rw (first.before 0 y (omega arith)) (saved_first contents origin number k s ys (later_first number k s y ys first))

live_saved : (b : Bool) (array other : List ℕ) → b ≡ true → Some (if b then Live array else Invalid) ≡ Some (Live other) → other ≡ array
live_saved true array other is same = cc
live_saved false array other is same = absurd (cc)

pub shown_snap : {B : Type 0} (contents : B → List ℕ) (origin : List ℕ) (number k : ℕ) (s : Kept B) (xs : List (Kept B)) (array : List ℕ) → IsFirst (λ (x : Kept B). x.number == number) k s xs → s.live ≡ true
    → saved_under number (entries_in contents origin xs) ≡ Some (Live array) → array ≡ picture s.state.chunk origin (contents s.device)
shown_snap contents origin number k s xs array first live shown = live_saved s.live (picture s.state.chunk origin (contents s.device)) array live (sym (saved_first contents origin number k s xs first) ∙ shown)

-- a snapshot that is found and live, and not being merged, is not refused
pub live_refusal : {B : Type 0} (merge : Option (Merging B)) (snaps : List (Kept B)) (dev : Dev) (number k : ℕ) (s : Kept B) → dev ≡ Snap number → is_merging number merge ≡ false → Some k ≡ place_of_snap number snaps → s ≡ get_or snaps k s → s.live ≡ true
    → dev_refusal dev merge snaps ≡ None
live_refusal merge snaps dev number k s is other found at live =
    let within = found_within number snaps k found in
    let alive : get_or (map (λ (x : Kept _). x.live) snaps) k false ≡ true = get_or-map (λ (x : Kept _). x.live) snaps k s false within ∙ ap (λ (x : Kept _). x.live) (sym at) ∙ live in
    ap (λ d. dev_refusal d merge snaps) is ∙ ap (λ b. if b then Some MergingSnapshot else refusal_at snaps (place_of_snap number snaps)) other ∙ ap (refusal_at snaps) (sym found) ∙ rw alive refl

-- one that is spoiled is
pub spoilt_refusal : {B : Type 0} (merge : Option (Merging B)) (snaps : List (Kept B)) (dev : Dev) (number k : ℕ) (s : Kept B) → dev ≡ Snap number → is_merging number merge ≡ false → Some k ≡ place_of_snap number snaps → s ≡ get_or snaps k s → s.live ≡ false
    → dev_refusal dev merge snaps ≡ Some Invalidated
spoilt_refusal merge snaps dev number k s is other found at spoilt =
    let within = found_within number snaps k found in
    let dead : get_or (map (λ (x : Kept _). x.live) snaps) k false ≡ false = get_or-map (λ (x : Kept _). x.live) snaps k s false within ∙ ap (λ (x : Kept _). x.live) (sym at) ∙ spoilt in
    ap (λ d. dev_refusal d merge snaps) is ∙ ap (λ b. if b then Some MergingSnapshot else refusal_at snaps (place_of_snap number snaps)) other ∙ ap (refusal_at snaps) (sym found) ∙ rw dead refl

-- beside a merge the origin shows the picture over the merging store
pub origin_merged : {B : Type 0} (contents : B → List ℕ) (layers : B → List Layer) (v : Volumed B) (m : Merging B) → v.merge ≡ Some m → (plain_of contents layers v).origin ≡ picture m.state.chunk (contents v.origin) (contents m.device)
origin_merged contents layers v m is = ap (λ x. shown_origin contents v.origin x) is

-- the places of the merge's pairs lie inside its device
pub merged_places : {B : Type 0} (contents : B → List ℕ) (layers : B → List Layer) (size : B → ℕ) (m : Merging B) → IsInStep contents layers size m → (c n : ℕ) → place_of m.pairs c ≡ Some n → m.state.chunk * (n + 1) ≤ size m.device
merged_places contents layers size m h c n found =
    let low = place_inside m.state.chunk m.state.origin m.state.size c n m.pairs h.formed.inside found in
    omega (arith, low, h.sized)
