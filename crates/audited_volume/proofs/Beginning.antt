-- What a volume shows when its journal begins.
use Rattle.std.proofs.Common.{◌≡◌, inl, inr, ℕ, suc, ◌+◌, ◌<◌, Bool, true, false, List, [], ◌∷◌, ◌++◌, length, get_or, map, take, Option, Some, None, refl, sym, ◌∙◌, ap, arith}
use Rattle.std.specs.Prelude.{◌==◌, ◌&&◌, not, if◌then◌else◌}
use Rattle.std.specs.List.{list_all, position_or_len}
use Rattle.std.proofs.lemmas.Bool.{cases_Bool, false≢true, eq-eqb}
use Rattle.std.proofs.lemmas.List.{get_or-map, map-append}
use Rattle.std.proofs.lemmas.List.Folds.{list_all-append}
use Rattle.std.proofs.Math.Seq.{take-suc, take-length}
use Rattle.device.specs.Layers.{Layer, is_loud}
use Rattle.cow_format.specs.Picture.{picture}
use Rattle.cow_format.proofs.Pictures.{length-picture}
use Rattle.plain_machine.specs.Plain.{Entry as ShownEntry, Saved as State, Live, Invalid, may_overflow, saved_under}
use Rattle.plain_machine.specs.Serves.{Shows}
use Rattle.plain_machine.specs.declared.request.Dev.{Dev}
use Rattle.plain_machine.specs.declared.request.Dev.TheVariants.{Origin, Snap}
use Rattle.sector.specs.declared.refusal.Refusal.TheVariants.{MergingSnapshot, Invalid as IsInvalid}
use Rattle.snapshot.specs.Kept.{Kept}
use Rattle.snapshot_list.specs.Finding.{place_of_snap}
use Rattle.merge.specs.Merging.{Merging}
use Rattle.volume.specs.Shown.{shown_entry, shown_origin, shown_begun}
use Rattle.volume.specs.Asking.{HoldsOf, merging_number}
use Rattle.volume.specs.Peeking.{is_loud_merging, is_loud_under}
use Rattle.volume.specs.Submitting.{dev_refusal, is_merging, refusal_at}
use Rattle.volume.specs.Volumed.{Volumed, is_loud_in_all, is_loud_with, plain_of}
use Rattle.audited_volume.specs.declared.entry.Saved.{Saved}
use Rattle.audited_volume.specs.Books.{shown_in}
use Rattle.audited_volume.specs.Noted.{is_live, is_open}
use Rattle.audited_volume.proofs.Departed.{found_at}
use Rattle.audited_volume.proofs.Gained.{loud_under}
use Rattle.audited_volume.proofs.Lost.{live_shown, shown_at}

-- an array that is shown is as long as the origin disk
origin_long : {B : Type 0} (contents : B → List ℕ) (origin : B) (merge : Option (Merging B)) → length (shown_origin contents origin merge) ≡ length (contents origin)
origin_long contents origin None = refl
origin_long contents origin (Some m) = length-picture m.state.chunk (contents origin) (contents m.device)

long_by : (b live : Bool) (shown array origin : List ℕ) (rest : Option State) → length shown ≡ length origin → (rest ≡ Some (Live array) → length array ≡ length origin)
    → (if b then Some (if live then Live shown else Invalid) else rest) ≡ Some (Live array) → length array ≡ length origin
long_by true true shown array origin rest whole more e = let same : shown ≡ array = cc in ap length (sym same) ∙ whole
long_by true false shown array origin rest whole more e = absurd (cc)
long_by false live shown array origin rest whole more e = more e

saved_long : {B : Type 0} (contents : B → List ℕ) (origin : List ℕ) (number : ℕ) (snaps : List (Kept B)) (array : List ℕ) → saved_under number (map (shown_entry contents origin) snaps) ≡ Some (Live array) → length array ≡ length origin
saved_long contents origin number [] array e = absurd (cc)
saved_long contents origin number (s ∷ snaps) array e =
    long_by (s.number == number) s.live (picture s.state.chunk origin (contents s.device)) array origin (saved_under number (map (shown_entry contents origin) snaps))
    (length-picture s.state.chunk origin (contents s.device)) (saved_long contents origin number snaps array) e

module _ {B : Type 0} (contents : B → List ℕ) (layers : B → List Layer) (w : Volumed B) where
  pub plain_long : length (plain_of contents layers w).origin ≡ length (contents w.origin)
  plain_long = origin_long contents w.origin w.merge

  pub shows_long : (dev : Dev) (array : List ℕ) → Shows (plain_of contents layers w) dev array → length array ≡ length (contents w.origin)
  shows_long Origin array shows = ap length shows ∙ plain_long
  shows_long (Snap number) array shows = saved_long contents (contents w.origin) number w.snaps array shows

pub both_empty : (xs ys : List ℕ) → length xs ≡ 0 → length ys ≡ 0 → xs ≡ ys
both_empty [] [] a b = refl
both_empty [] (y ∷ ys) a b = absurd (omega (arith, b))
both_empty (x ∷ xs) ys a b = absurd (omega (arith, a))

pub not_live : (b : Bool) → not b ≡ true → b ≡ false
not_live true e = absurd (false≢true e)
not_live false e = refl

pub is_live_too : (b : Bool) → not b ≡ false → b ≡ true
is_live_too true e = refl
is_live_too false e = absurd (false≢true (sym e))

-- where no device drops writes, none drops those that a look at a device needs
loud_merging : {B : Type 0} (layers : B → List Layer) (merge : Option (Merging B)) (others : Bool) → is_loud_with layers merge others ≡ (others && is_loud_merging layers merge)
loud_merging layers None true = refl
loud_merging layers None false = refl
loud_merging layers (Some m) others = refl

and_second : (a b : Bool) → (a && b) ≡ true → b ≡ true
and_second true b all = all
and_second false b all = absurd (false≢true all)

pub loud_dev : {B : Type 0} (layers : B → List Layer) (dev : Dev) (w : Volumed B) → is_loud_in_all layers w ≡ true → is_loud_under layers dev w.merge w.snaps ≡ true
loud_dev layers Origin w all =
    let others : Bool = is_loud (layers w.origin) && list_all (λ s. is_loud (layers s.device)) w.snaps in
    and_second others (is_loud_merging layers w.merge) (sym (loud_merging layers w.merge others) ∙ all)
loud_dev layers (Snap number) w all = loud_under layers number w all

-- whether no device drops writes, device after device
pub loud_more : {B : Type 0} (layers : B → List Layer) (first : Bool) (snaps : List (Kept B)) (k : ℕ) (s : Kept B) → k < length snaps → s ≡ get_or snaps k s
    → ((first && list_all (λ x. is_loud (layers x.device)) (take k snaps)) && is_loud (layers s.device)) ≡ (first && list_all (λ x. is_loud (layers x.device)) (take (k + 1) snaps))
loud_more layers first snaps k s within is =
    let next : suc k ≡ k + 1 = omega arith in
    let split : take (k + 1) snaps ≡ take k snaps ++ s ∷ [] = ap (λ n. take n snaps) (sym next) ∙ take-suc snaps k s within ∙ ap (λ x. take k snaps ++ x ∷ []) (sym is) in
    assoc first (list_all (λ x. is_loud (layers x.device)) (take k snaps)) (is_loud (layers s.device))
    ∙ ap (λ b. first && b) (sym (ap (list_all (λ x. is_loud (layers x.device))) split ∙ list_all-append (λ x. is_loud (layers x.device)) (take k snaps) (s ∷ [])))
  where
    assoc : (a b c : Bool) → ((a && b) && c) ≡ (a && (b && (c && true)))
    assoc true true true = refl
    assoc true true false = refl
    assoc true false c = refl
    assoc false b c = refl

pub loud_all : {B : Type 0} (layers : B → List Layer) (w : Volumed B) (k : ℕ) (loud : Bool) → k ≡ length w.snaps → loud ≡ (is_loud (layers w.origin) && list_all (λ s. is_loud (layers s.device)) (take k w.snaps))
    → (loud && is_loud_merging layers w.merge) ≡ is_loud_in_all layers w
loud_all layers w k loud all is =
    ap (λ b. b && is_loud_merging layers w.merge) (is ∙ ap (λ ss. is_loud (layers w.origin) && list_all (λ s. is_loud (layers s.device)) ss) (ap (λ n. take n w.snaps) all ∙ take-length w.snaps))
    ∙ sym (loud_merging layers w.merge (is_loud (layers w.origin) && list_all (λ s. is_loud (layers s.device)) w.snaps))

-- the merging store
merged_by : {B : Type 0} (number : ℕ) (merge : Option (Merging B)) → merging_number merge ≡ Some number → is_merging number merge ≡ true
merged_by number None is = absurd (cc)
merged_by number (Some m) is = let same : m.number ≡ number = cc in eq-eqb m.number number same

pub merged_here : {B : Type 0} (number : ℕ) (merge : Option (Merging B)) → merging_number merge ≡ Some number → is_merging number merge ≡ false → ⊥
merged_here number merge is other = false≢true (sym other ∙ merged_by number merge is)

pub merged_loud : {B : Type 0} (layers : B → List Layer) (number : ℕ) (w : Volumed B) (device : B) → merging_number w.merge ≡ Some number → HoldsOf (λ m. device ≡ m.device) (λ s. device ≡ s.device) number w
    → is_loud (layers device) ≡ is_loud_merging layers w.merge
merged_loud layers number w device is (inl found) = ap (λ d. is_loud (layers d)) found.3 ∙ sym (ap (is_loud_merging layers) found.1)
merged_loud layers number w device is (inr other) = absurd (merged_here number w.merge is other.0)

pub begun_is : {B : Type 0} (merge : Option (Merging B)) → merging_number merge ≡ shown_begun merge
begun_is None = refl
begun_is (Some m) = refl

-- which snapshots are live
pub lives_shown : {B : Type 0} (contents : B → List ℕ) (origin : List ℕ) (snaps : List (Kept B)) → map (λ s. s.live) snaps ≡ map is_live (map (shown_entry contents origin) snaps)
lives_shown contents origin [] = refl
lives_shown contents origin (s ∷ snaps) = (λ i. sym (live_shown s.live (picture s.state.chunk origin (contents s.device))) i ∷ lives_shown contents origin snaps i)

pub lives_more : {B : Type 0} (snaps : List (Kept B)) (k : ℕ) (s : Kept B) (lives : List Bool) → k < length snaps → s ≡ get_or snaps k s → lives ≡ map (λ x. x.live) (take k snaps) → lives ++ s.live ∷ [] ≡ map (λ x. x.live) (take (k + 1) snaps)
lives_more snaps k s lives within is so =
    let next : suc k ≡ k + 1 = omega arith in
    ap (λ bs. bs ++ s.live ∷ []) so ∙ sym (map-append (λ x. x.live) (take k snaps) (s ∷ [])) ∙ ap (λ x. map (λ y. y.live) (take k snaps ++ x ∷ [])) is ∙ ap (map (λ y. y.live)) (sym (take-suc snaps k s within) ∙ ap (λ n. take n snaps) next)

-- and which of their stores may still overflow
pub mays_shown : {B : Type 0} (contents : B → List ℕ) (origin : List ℕ) (snaps : List (Kept B)) → map (λ s. may_overflow s.overflow) snaps ≡ map is_open (map (shown_entry contents origin) snaps)
mays_shown contents origin [] = refl
mays_shown contents origin (s ∷ snaps) = ap (λ bs. may_overflow s.overflow ∷ bs) (mays_shown contents origin snaps)

pub mays_more : {B : Type 0} (snaps : List (Kept B)) (k : ℕ) (s : Kept B) (may : List Bool) → k < length snaps → s ≡ get_or snaps k s → may ≡ map (λ x. may_overflow x.overflow) (take k snaps) → may ++ may_overflow s.overflow ∷ [] ≡ map (λ x. may_overflow x.overflow) (take (k + 1) snaps)
mays_more snaps k s may within is so =
    let next : suc k ≡ k + 1 = omega arith in
    ap (λ bs. bs ++ may_overflow s.overflow ∷ []) so ∙ sym (map-append (λ x. may_overflow x.overflow) (take k snaps) (s ∷ [])) ∙ ap (λ x. map (λ y. may_overflow y.overflow) (take k snaps ++ x ∷ [])) is ∙ ap (map (λ y. may_overflow y.overflow)) (sym (take-suc snaps k s within) ∙ ap (λ n. take n snaps) next)

-- what the snapshot at a place shows is what the one with its number shows
get_next : {X : Type 0} (x : X) (xs : List X) (n : ℕ) (d : X) → get_or (x ∷ xs) (1 + n) d ≡ get_or xs n d
get_next x xs n d = ap (λ k. get_or (x ∷ xs) k d) (next n) where
  next : (n : ℕ) → 1 + n ≡ suc n
  next n = omega arith

under_place : {B : Type 0} (contents : B → List ℕ) (origin : List ℕ) (number : ℕ) (snaps : List (Kept B)) (s : Kept B) → position_or_len (λ x. x.number == number) snaps < length snaps → s ≡ get_or snaps (position_or_len (λ x. x.number == number) snaps) s
    → saved_under number (map (shown_entry contents origin) snaps) ≡ Some (shown_entry contents origin s).saved
under_place contents origin number [] s within is = absurd (omega (arith, within))
under_place contents origin number (x ∷ snaps) s within is = elim (cases_Bool (x.number == number)) [
  | inl here ↦ rw here (ap (λ (y : Kept _). Some (shown_entry contents origin y).saved) (sym (rw here at is)))
  | inr other ↦ rw other (under_place contents origin number snaps s (let lt = rw other at within in omega (arith, lt)) ((rw other at is) ∙ get_next x snaps (position_or_len (λ y. y.number == number) snaps) s))
]

if_live : (b : Bool) (array : List ℕ) → b ≡ true → (if b then Live array else Invalid) ≡ Live array
if_live true array e = refl
if_live false array e = absurd (false≢true e)

if_spoilt : (b : Bool) (array : List ℕ) → b ≡ false → (if b then Live array else Invalid) ≡ Invalid
if_spoilt true array e = absurd (false≢true (sym e))
if_spoilt false array e = refl

module _ {B : Type 0} (contents : B → List ℕ) (layers : B → List Layer) (w : Volumed B) (k : ℕ) (s : Kept B) (within : k < length w.snaps) (is : s ≡ get_or w.snaps k s) where
  shown_here : (d : ShownEntry) → get_or (plain_of contents layers w).saved k d ≡ shown_entry contents (contents w.origin) s
  shown_here d = shown_at contents (contents w.origin) w.snaps k s within d ∙ ap (shown_entry contents (contents w.origin)) (sym is)

  pub spoilt_here : (number : ℕ) → s.number ≡ number → s.live ≡ false → (d : ShownEntry) → get_or (plain_of contents layers w).saved k d ≡ shown_in (record { number = number; array = None; overflow = s.overflow })
  spoilt_here number mine spoilt d = shown_here d ∙ (λ i. record { number = mine i; saved = if_spoilt s.live (picture s.state.chunk (contents w.origin) (contents s.device)) spoilt i; overflow = s.overflow })

  module _ (live : s.live ≡ true) (number : ℕ) (mine : s.number ≡ number) (first : place_of_snap s.number w.snaps ≡ Some k) where
    found : place_of_snap number w.snaps ≡ Some k
    found = ap (λ n. place_of_snap n w.snaps) (sym mine) ∙ first

    pub live_there : is_merging s.number w.merge ≡ false → dev_refusal (Snap number) w.merge w.snaps ≡ None
    live_there other =
        let alive : get_or (map (λ x. x.live) w.snaps) k false ≡ true = get_or-map (λ x. x.live) w.snaps k s false within ∙ ap (λ x. x.live) (sym is) ∙ live in
        ap (λ b. if b then Some MergingSnapshot else refusal_at w.snaps (place_of_snap number w.snaps)) (ap (λ n. is_merging n w.merge) (sym mine) ∙ other)
        ∙ ap (refusal_at w.snaps) found ∙ ap (λ b. if b then None else Some IsInvalid) alive

    array_here : saved_under number (plain_of contents layers w).saved ≡ Some (Live (picture s.state.chunk (contents w.origin) (contents s.device)))
    array_here =
        let place : position_or_len (λ x. x.number == number) w.snaps ≡ k = found_at (λ x. x.number == number) w.snaps k found in
        under_place contents (contents w.origin) number w.snaps s (omega (arith, place, within)) (is ∙ ap (λ n. get_or w.snaps n s) (sym place))
        ∙ ap Some (if_live s.live (picture s.state.chunk (contents w.origin) (contents s.device)) live)

    pub live_here : (bytes : List ℕ) → ((array : List ℕ) → Shows (plain_of contents layers w) (Snap number) array → bytes ≡ array) → (d : ShownEntry) → get_or (plain_of contents layers w).saved k d ≡ shown_in (record { number = number; array = Some bytes; overflow = s.overflow })
    live_here bytes shown d =
        let same : bytes ≡ picture s.state.chunk (contents w.origin) (contents s.device) = shown (picture s.state.chunk (contents w.origin) (contents s.device)) array_here in
        shown_here d ∙ (λ i. record { number = mine i; saved = (if_live s.live (picture s.state.chunk (contents w.origin) (contents s.device)) live ∙ ap Live (sym same)) i; overflow = s.overflow })

-- one snapshot more
pub saved_more : (saved : List ShownEntry) (xs : List Saved) (k : ℕ) (x : Saved) → k < length saved → map shown_in xs ≡ take k saved → ((d : ShownEntry) → get_or saved k d ≡ shown_in x) → map shown_in (xs ++ x ∷ []) ≡ take (k + 1) saved
saved_more saved xs k x within so here =
    let next : suc k ≡ k + 1 = omega arith in
    map-append shown_in xs (x ∷ []) ∙ ap (λ es. es ++ shown_in x ∷ []) so ∙ ap (λ e. take k saved ++ e ∷ []) (sym (here (shown_in x))) ∙ sym (take-suc saved k (shown_in x) within) ∙ ap (λ n. take n saved) next

pub all_saved : (saved es : List ShownEntry) (k : ℕ) → k ≡ length saved → es ≡ take k saved → es ≡ saved
all_saved saved es k all is = is ∙ ap (λ n. take n saved) all ∙ take-length saved
