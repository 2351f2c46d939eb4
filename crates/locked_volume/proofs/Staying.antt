-- What a rig leaves of a volume as it was.
use Rattle.std.proofs.Common.{◌≡◌, ◌⊎◌, inl, inr, ℕ, zero, suc, ◌*◌, ◌/◌, ◌<◌, ◌==◌, if◌then◌else◌, Bool, true, false, List, [], ◌∷◌, length, get_or, map, Option, Some, None, refl, sym, ap, ◌∙◌, subst, arith}
use Rattle.std.specs.Prelude.{◌&&◌, max, min, not}
use Rattle.std.specs.List.{list_all, remove}
use Rattle.std.proofs.lemmas.List.{get_or-map, length-map}
use Rattle.device.specs.Layers.{Layer, is_loud}
use Rattle.sector.specs.declared.refusal.Refusal.{Refusal}
use Rattle.merge.specs.Merging.{Merging}
use Rattle.snapshot_list.specs.Keeping.{kept_back, kept_for, unkept}
use Rattle.snapshot.specs.Kept.{Kept}
use Rattle.snapshot_list.specs.Numbers.{number_of_snap}
use Rattle.snapshot_list.proofs.Finds.{position_within}
use Rattle.volume_laws.proofs.Lists.{map-remove}
use Rattle.volume.specs.Beginning.{IsMergeBegun, IsNotBegun, SameButKept, begin_with, begin_refusal}
use Rattle.volume.specs.Causes.{counts_with, counts_of}
use Rattle.volume.specs.Stepping.{KeepsAll, merged_of}
use Rattle.volume.specs.Volumed.{Volumed, is_loud_in_all, is_loud_with}
use Rattle.audited_volume.specs.Books.{AuditShape}
use Rattle.audited_volume.specs.PlacesTaken.{KeepsBase, KeepsJournal}
use Rattle.locked_volume.specs.Fixed.{Fixed, StaysFrom, fixed_of, least_of, piece_at, piece_in}

-- device 0 is the origin disk
first_count : {B : Type 0} (size : B → ℕ) (merge : Option (Merging B)) (n : ℕ) (ns : List ℕ) → get_or (counts_with size merge (n ∷ ns)) 0 0 ≡ n
first_count size None n ns = refl
first_count size (Some m) n ns = refl

origin_same : {B : Type 0} (size : B → ℕ) (v w : Volumed B) → counts_of size w ≡ counts_of size v → size w.origin ≡ size v.origin
origin_same size v w same = sym (first_count size w.merge _ _) ∙ ap (λ (l : List ℕ). get_or l 0 0) same ∙ first_count size v.merge _ _

pub stays_same : {B : Type 0} (size : B → ℕ) (layers : B → List Layer) (f : Fixed) (a b : AuditShape B) → StaysFrom f (fixed_of size layers a)
    → KeepsAll size a.volume b.volume → is_loud_in_all layers b.volume ≡ is_loud_in_all layers a.volume → KeepsBase a b → StaysFrom f (fixed_of size layers b)
stays_same size layers f a b stays kept sound base =
    let same : fixed_of size layers a ≡ fixed_of size layers b = λ i. record {
      attached = sym kept.attached i;
      sectors = sym (origin_same size a.volume b.volume kept.sizes) i;
      numbers = sym kept.numbers i;
      chunks = sym kept.chunks i;
      merged = sym kept.merged i;
      sound = sym sound i;
      loud = sym base.loud i;
      base = sym base.base i;
      taken = sym base.taken i;
      folded = sym base.folded i;
    } in
    subst (StaysFrom f) same stays

none_merged : {B : Type 0} (merge : Option (Merging B)) (number : ℕ) (v : Volumed B) → begin_with merge number v ≡ None → merge ≡ None
none_merged None number v e = refl
none_merged (Some m) number v e = absurd (let h : Some _ ≡ None = e in cc)

no_merge : (x : ℕ × ℕ) → None ≡ Some x → ⊥
no_merge x e = cc

-- keeping back for a merge changes neither numbers nor chunks
if_number : {B : Type 0} (b : Bool) (count : ℕ) (s : Kept B) → (if b then kept_back count s else s).number ≡ s.number
if_number true count s = refl
if_number false count s = refl

if_chunk : {B : Type 0} (b : Bool) (count : ℕ) (s : Kept B) → (if b then kept_back count s else s).state.chunk ≡ s.state.chunk
if_chunk true count s = refl
if_chunk false count s = refl

numbers_kept : {B : Type 0} (number count chunk : ℕ) (xs : List (Kept B)) → map number_of_snap (map (kept_for number count chunk) xs) ≡ map number_of_snap xs
numbers_kept number count chunk [] = refl
numbers_kept number count chunk (x ∷ xs) = λ i. if_number (x.live && not (x.number == number)) (count * max 1 (chunk / x.state.chunk)) x i ∷ numbers_kept number count chunk xs i

chunks_kept : {B : Type 0} (number count chunk : ℕ) (xs : List (Kept B)) → map (λ s. s.state.chunk) (map (kept_for number count chunk) xs) ≡ map (λ s. s.state.chunk) xs
chunks_kept number count chunk [] = refl
chunks_kept number count chunk (x ∷ xs) = λ i. if_chunk (x.live && not (x.number == number)) (count * max 1 (chunk / x.state.chunk)) x i ∷ chunks_kept number count chunk xs i

-- what was there of a list that is known by another name
at_mapped : {B : Type 0} (f : Kept B → ℕ) (xs : List (Kept B)) (ns : List ℕ) (k : ℕ) (s : Kept B) → map f xs ≡ ns → k < length xs → s ≡ get_or xs k s → f s ≡ get_or ns k 0
at_mapped f xs ns k s named within is = ap f is ∙ sym (get_or-map f xs k s 0 within) ∙ ap (λ (l : List ℕ). get_or l k 0) named

-- the least of some sizes, one of which stands apart
min_swap : (a b c : ℕ) → min a (min b c) ≡ min b (min a c)
min_swap a b c = search (arith)

least_without : (chunks : List ℕ) (k : ℕ) → k < length chunks → min (get_or chunks k 0) (least_of (remove chunks k)) ≡ least_of chunks
least_without [] k low = absurd (omega (arith, low))
least_without (c ∷ chunks) zero low = refl
least_without (c ∷ chunks) (suc k) low = min_swap (get_or chunks k 0) c (least_of (remove chunks k)) ∙ ap (min c) (least_without chunks k (omega (arith, low)))

pub stays_begun : {B : Type 0} (size : B → ℕ) (layers : B → List Layer) (f : Fixed) (a b : AuditShape B) (number : ℕ) → StaysFrom f (fixed_of size layers a)
    → begin_refusal number a.volume ≡ None → IsMergeBegun number a.volume b.volume → is_loud_in_all layers b.volume ≡ is_loud_in_all layers a.volume → b.loud ≡ a.loud → b.base ≡ a.base → b.taken ≡ a.taken → b.folded ≡ a.folded
    → StaysFrom f (fixed_of size layers b)
stays_begun {B} size layers f a b number stays admitted begun sound loud base taken folded =
    let k = begun.place in
    let s = begun.snap in
    let alone : a.volume.merge ≡ None = none_merged a.volume.merge number a.volume admitted in
    let within : k < length a.volume.snaps = position_within _ a.volume.snaps k begun.found in
    let merge_now : merged_of b.volume.merge ≡ Some (s.number, s.state.chunk) = ap (λ (v : Volumed B). merged_of v.merge) begun.becomes in
    let numbers_now : map number_of_snap b.volume.snaps ≡ remove (map number_of_snap a.volume.snaps) k =
    ap (λ (v : Volumed B). map number_of_snap v.snaps) begun.becomes ∙ numbers_kept number _ _ (remove a.volume.snaps k) ∙ map-remove number_of_snap a.volume.snaps k in
    let chunks_now : map (λ (t : Kept B). t.state.chunk) b.volume.snaps ≡ remove (map (λ t. t.state.chunk) a.volume.snaps) k =
    ap (λ (v : Volumed B). map (λ (t : Kept B). t.state.chunk) v.snaps) begun.becomes ∙ chunks_kept number _ _ (remove a.volume.snaps k) ∙ map-remove (λ (t : Kept B). t.state.chunk) a.volume.snaps k in
    let chunks : List ℕ = map (λ (t : Kept B). t.state.chunk) a.volume.snaps in
    let chunk_is : s.state.chunk ≡ get_or chunks k 0 = at_mapped (λ t. t.state.chunk) a.volume.snaps chunks k s refl within begun.is in
    let piece_now : piece_at (fixed_of size layers b) ≡ piece_at (fixed_of size layers a) =
    (λ i. piece_in (merge_now i) (chunks_now i)) ∙ ap (λ n. min n (least_of (remove chunks k))) chunk_is
    ∙ least_without chunks k (subst (λ n. k < n) (sym (length-map a.volume.snaps (λ (t : Kept B). t.state.chunk))) within) ∙ ap (λ m. piece_in m chunks) (sym (ap merged_of alone)) in
    record {
      attached = ap (λ (v : Volumed B). v.attached) begun.becomes ∙ stays.attached;
      sectors = ap (λ (v : Volumed B). size v.origin) begun.becomes ∙ stays.sectors;
      snaps = elim stays.snaps [
        | inl same ↦ inr (
          sym same.2 ∙ ap merged_of alone,
          (
            k,
            subst (λ n. k < n) (sym (length-map a.volume.snaps number_of_snap) ∙ ap length same.0) within,
            numbers_now ∙ ap (λ (l : List ℕ). remove l k) same.0,
            chunks_now ∙ ap (λ (l : List ℕ). remove l k) same.1,
            merge_now ∙ (λ i. Some (at_mapped number_of_snap a.volume.snaps f.numbers k s same.0 within begun.is i, at_mapped (λ t. t.state.chunk) a.volume.snaps f.chunks k s same.1 within begun.is i)),
          ),
        )
        | inr other ↦ absurd (no_merge _ (sym (ap merged_of alone) ∙ other.1.4))
      ];
      sound = sound ∙ stays.sound;
      loud = loud ∙ stays.loud;
      base = base ∙ stays.base;
      taken = taken ∙ stays.taken;
      folded = folded ∙ stays.folded;
      piece = piece_now ∙ stays.piece;
    }

unkept_numbers : {B : Type 0} (xs : List (Kept B)) → map number_of_snap (map unkept xs) ≡ map number_of_snap xs
unkept_numbers [] = refl
unkept_numbers (x ∷ xs) = ap (λ (l : List ℕ). x.number ∷ l) (unkept_numbers xs)

unkept_chunks : {B : Type 0} (xs : List (Kept B)) → map (λ s. s.state.chunk) (map unkept xs) ≡ map (λ s. s.state.chunk) xs
unkept_chunks [] = refl
unkept_chunks (x ∷ xs) = ap (λ (l : List ℕ). x.state.chunk ∷ l) (unkept_chunks xs)

unkept_devices : {B : Type 0} (layers : B → List Layer) (xs : List (Kept B)) → list_all (λ s. is_loud (layers s.device)) (map unkept xs) ≡ list_all (λ s. is_loud (layers s.device)) xs
unkept_devices layers [] = refl
unkept_devices layers (x ∷ xs) = ap (λ b. is_loud (layers x.device) && b) (unkept_devices layers xs)

-- snapshots that may keep nothing back any more
kept_same : {B : Type 0} (size : B → ℕ) (layers : B → List Layer) (a : AuditShape B) (snaps : List (Kept B)) → (snaps ≡ a.volume.snaps) ⊎ (snaps ≡ map unkept a.volume.snaps)
    → fixed_of size layers (record a { volume = record a.volume { snaps = snaps } }) ≡ fixed_of size layers a
kept_same size layers a snaps (inl same) = ap (λ ss. fixed_of size layers (record a { volume = record a.volume { snaps = ss } })) same
kept_same size layers a snaps (inr freed) =
    ap (λ ss. fixed_of size layers (record a { volume = record a.volume { snaps = ss } })) freed ∙ (λ i. record {
      attached = a.volume.attached;
      sectors = size a.volume.origin;
      numbers = unkept_numbers a.volume.snaps i;
      chunks = unkept_chunks a.volume.snaps i;
      merged = merged_of a.volume.merge;
      sound = is_loud_with layers a.volume.merge (is_loud (layers a.volume.origin) && unkept_devices layers a.volume.snaps i);
      loud = a.loud;
      base = a.base;
      taken = a.taken;
      folded = a.folded;
    })

-- a merge did not begin
pub stays_not_begun : {B : Type 0} (size : B → ℕ) (layers : B → List Layer) (f : Fixed) (a b : AuditShape B) (number : ℕ) (refusal : Refusal) → StaysFrom f (fixed_of size layers a)
    → IsNotBegun number refusal a.volume b.volume → KeepsJournal a b → StaysFrom f (fixed_of size layers b)
stays_not_begun {B} size layers f a b number refusal stays (inl refused) kept =
    let same : fixed_of size layers b ≡ fixed_of size layers a = ap (fixed_of size layers) kept.becomes ∙ ap (λ (v : Volumed B). fixed_of size layers (record a { volume = v })) refused.1 in
    subst (StaysFrom f) (sym same) stays
stays_not_begun {B} size layers f a b number refusal stays (inr starved) kept =
    let freed : SameButKept a.volume b.volume = starved.2 in
    let same : fixed_of size layers b ≡ fixed_of size layers a =
    ap (fixed_of size layers) kept.becomes ∙ ap (λ (v : Volumed B). fixed_of size layers (record a { volume = v })) freed.becomes ∙ kept_same size layers a b.volume.snaps freed.kept in
    subst (StaysFrom f) (sym same) stays
