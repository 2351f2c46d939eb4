-- A request changes no device, and neither which snapshots there are nor their chunks.
use Rattle.std.proofs.Common.{◌≡◌, inl, inr, ℕ, ◌+◌, ◌/◌, List, [], ◌∷◌, get_or, set, map, refl, sym, ◌∙◌, ap, subst}
use Rattle.std.specs.Prelude.{Result, Ok, Err, IfOk, IfErr}
use Rattle.std.proofs.lemmas.Bool.{cases_Bool, MatchBool-at_true, MatchBool-at_false}
use Rattle.std.proofs.Math.Seq.{map-set_same}
use Rattle.device.specs.Layers.{Layer}
use Rattle.sector.specs.declared.refusal.Refusal.{Refusal}
use Rattle.plain_machine.specs.declared.request.Request.{Request}
use Rattle.in_flight.specs.declared.copies.ChunkCopy.{ChunkCopy}
use Rattle.in_flight.specs.declared.flights.Flight.{Flight}
use Rattle.snapshot.specs.Kept.{Kept}
use Rattle.snapshot.specs.Calls.{StartsAt, started}
use Rattle.volume.specs.Volumed.{Volumed}
use Rattle.snapshot_list.specs.Numbers.{number_of_snap}
use Rattle.volume.specs.Causes.{counts_with}
use Rattle.volume.specs.Stepping.{KeepsAll, KeepsDevices, merged_of}
use Rattle.plain_machine.specs.declared.request.Overflowing.TheVariants.{Did}
use Rattle.snapshot_list.specs.Starting.{unroomed, starts, overflows, spoilt_of, IsSavedIn, AreSavedIn, own_of}
use Rattle.volume.specs.Submitting.{entered_of, SameButRoom, IsFoundFull, IsOverflown, IsRefusedAs}
use Rattle.snapshot_list.proofs.Roomed.{roomed}

-- what each device has of a kind
sizes_of : {B : Type 0} (size : B → ℕ) (xs ys : List (Kept B)) → map (λ (s : Kept B). s.device) xs ≡ map (λ (s : Kept B). s.device) ys → map (λ (s : Kept B). size s.device) xs ≡ map (λ (s : Kept B). size s.device) ys
sizes_of {B = B} size xs ys same = sym (seen xs) ∙ ap (map size) same ∙ seen ys
  where
    seen : (zs : List (Kept B)) → map size (map (λ (s : Kept B). s.device) zs) ≡ map (λ (s : Kept B). size s.device) zs
    seen [] = refl
    seen (z ∷ zs) = ap (λ ns. size z.device ∷ ns) (seen zs)

pub keeps_all : {B : Type 0} (size : B → ℕ) (v w : Volumed B) → KeepsDevices v w → KeepsAll size v w
keeps_all size v w k = record {
  attached = k.attached;
  numbers = k.numbers;
  chunks = k.chunks;
  merged = ap merged_of k.merge;
  sizes = ap (λ m. counts_with size m (size w.origin ∷ map (λ (s : Kept _). size s.device) w.snaps)) k.merge
      ∙ ap (counts_with size v.merge) (ap (λ d. size d ∷ map (λ (s : Kept _). size s.device) w.snaps) k.origin ∙ ap (λ ns. size v.origin ∷ ns) (sizes_of size w.snaps v.snaps k.devices));
}

-- what neither a copy that starts nor a spoil changes
pub record IsFixed {B X : Type 0} (contents : B → List ℕ) (layers : B → List Layer) (f : Kept B → X) : Type 0 where
  pub room : (s : Kept B) → f (unroomed s) ≡ f s
  pub begun : (s t : Kept B) (p : ChunkCopy) → StartsAt contents layers p s t → f t ≡ f s
  pub spoilt : (s : Kept B) → f (spoilt_of s) ≡ f s

module _ {B : Type 0} (contents : B → List ℕ) (layers : B → List Layer) where
  fixed_device : IsFixed contents layers (λ (s : Kept B). s.device)
  fixed_device = record { room = λ s. refl; begun = λ s t p at. ap (λ (x : Kept B). x.device) at.fields; spoilt = λ s. refl }

  fixed_number : IsFixed contents layers number_of_snap
  fixed_number = record { room = λ s. refl; begun = λ s t p at. ap number_of_snap at.fields; spoilt = λ s. refl }

  fixed_chunk : IsFixed contents layers (λ (s : Kept B). s.state.chunk)
  fixed_chunk = record { room = λ s. refl; begun = λ s t p at. ap (λ (x : Kept B). x.state.chunk) at.fields; spoilt = λ s. refl }

  module _ {X : Type 0} (f : Kept B → X) (fixed : IsFixed contents layers f) where
    one_fixed : (first : ℕ) (s t : Kept B) (n m : ℕ) (fs gs : List Flight) → IsSavedIn contents layers (own_of first s) s t n m fs gs → f t ≡ f s
    one_fixed first s t n m fs gs e = elim (cases_Bool (starts first s)) [
      | inl begins ↦ (let (buffer, at, m_is, g) = MatchBool-at_true _ _ begins e in fixed.begun s t (started (n + 1) (first / s.state.chunk) s.next buffer) at)
      | inr unsaid ↦ elim (cases_Bool (overflows first s)) [
        | inl over ↦ (let (same, m_is, g) = MatchBool-at_true _ _ over (MatchBool-at_false _ _ unsaid e) in ap f same ∙ fixed.spoilt s)
        | inr fine ↦ (let (same, m_is, g) = MatchBool-at_false _ _ fine (MatchBool-at_false _ _ unsaid e) in ap f same)
      ]
    ]

    all_fixed : (first : ℕ) (ss ts : List (Kept B)) (n m : ℕ) (fs gs : List Flight) → AreSavedIn contents layers (own_of first) ss ts n m fs gs → map f ts ≡ map f ss
    all_fixed first [] [] n m fs gs e = refl
    all_fixed first [] (t ∷ ts) n m fs gs e = absurd e
    all_fixed first (s ∷ ss) [] n m fs gs e = absurd e
    all_fixed first (s ∷ ss) (t ∷ ts) n m fs gs (k, hs, one, rest) = ap (λ x. x ∷ map f ts) (one_fixed first s t n k fs hs one) ∙ ap (λ xs. f s ∷ xs) (all_fixed first ss ts k m hs gs rest)

    -- one of them changes
    set_fixed : (xs : List (Kept B)) (k : ℕ) (s t : Kept B) → s ≡ get_or xs k s → f t ≡ f s → map f (set xs k t) ≡ map f xs
    set_fixed xs k s t is same = map-set_same f xs k t s (same ∙ ap f is)

  fixed_overflow : IsFixed contents layers (λ (s : Kept B). s.overflow)
  fixed_overflow = record { room = λ s. refl; begun = λ s t p at. ap (λ (x : Kept B). x.overflow) at.fields; spoilt = λ s. refl }

  -- what a full store does to each stays where a request is accepted
  pub overflows_saved : (first n m : ℕ) (snaps before after : List (Kept B)) (fs gs : List Flight) → map unroomed before ≡ map unroomed snaps → AreSavedIn contents layers (own_of first) before after n m fs gs
      → map (λ (s : Kept B). s.overflow) after ≡ map (λ (s : Kept B). s.overflow) snaps
  overflows_saved first n m snaps before after fs gs room saved =
      all_fixed (λ (s : Kept B). s.overflow) fixed_overflow first before after n m fs gs saved ∙ roomed (λ (s : Kept B). s.overflow) before snaps room (λ s. refl)

  pub overflows_begun : (snaps : List (Kept B)) (k : ℕ) (before : List (Kept B)) (s t : Kept B) (p : ChunkCopy) → map unroomed before ≡ map unroomed snaps → s ≡ get_or before k s → StartsAt contents layers p s t
      → map (λ (s : Kept B). s.overflow) (set before k t) ≡ map (λ (s : Kept B). s.overflow) snaps
  overflows_begun snaps k before s t p room is at =
      set_fixed (λ (s : Kept B). s.overflow) fixed_overflow before k s t is (fixed_overflow.begun s t p at) ∙ roomed (λ (s : Kept B). s.overflow) before snaps room (λ s. refl)

  -- by what each snapshot keeps
  keeps_by : (v w : Volumed B) → w.origin ≡ v.origin → w.merge ≡ v.merge → w.attached ≡ v.attached → ((X : Type 0) (f : Kept B → X) → IsFixed contents layers f → map f w.snaps ≡ map f v.snaps) → KeepsDevices v w
  keeps_by v w origin merge attached same = record {
    origin = origin;
    devices = same B (λ (s : Kept B). s.device) fixed_device;
    attached = attached;
    numbers = same ℕ number_of_snap fixed_number;
    chunks = same ℕ (λ (s : Kept B). s.state.chunk) fixed_chunk;
    merge = merge;
  }

  pub keeps_same : (v w : Volumed B) → w ≡ v → KeepsDevices v w
  keeps_same v w e = subst (λ (x : Volumed B). KeepsDevices v x) (sym e) (keeps_by v v refl refl refl (λ X f fixed. refl))

  pub keeps_entered : (v w : Volumed B) (f : Flight) → w ≡ entered_of f v → KeepsDevices v w
  keeps_entered v w f e = subst (λ (x : Volumed B). KeepsDevices v x) (sym e) (keeps_by v (entered_of f v) refl refl refl (λ X g fixed. refl))

  -- room was made, and copies were started
  pub keeps_saved : (v w : Volumed B) (first n m : ℕ) (before : List (Kept B)) (fs gs : List Flight) → w.origin ≡ v.origin → w.merge ≡ v.merge → w.attached ≡ v.attached → map unroomed before ≡ map unroomed v.snaps → AreSavedIn contents layers (own_of first) before w.snaps n m fs gs → KeepsDevices v w
  keeps_saved v w first n m before fs gs origin merge attached room saved = keeps_by v w origin merge attached (λ X f fixed. all_fixed f fixed first before w.snaps n m fs gs saved ∙ roomed f before v.snaps room fixed.room)

  -- in one of them
  pub keeps_begun : (v w : Volumed B) (k : ℕ) (before : List (Kept B)) (s t : Kept B) (p : ChunkCopy) → w.origin ≡ v.origin → w.merge ≡ v.merge → w.attached ≡ v.attached → w.snaps ≡ set before k t → map unroomed before ≡ map unroomed v.snaps → s ≡ get_or before k s
      → StartsAt contents layers p s t → KeepsDevices v w
  keeps_begun v w k before s t p origin merge attached snaps room is at =
      keeps_by v w origin merge attached (λ X f fixed. ap (map f) snaps ∙ set_fixed f fixed before k s t is (fixed.begun s t p at) ∙ roomed f before v.snaps room fixed.room)

  keeps_room : (v w : Volumed B) → SameButRoom v w → KeepsDevices v w
  keeps_room v w e = keeps_by v w (ap (λ (x : Volumed B). x.origin) e.becomes) (ap (λ (x : Volumed B). x.merge) e.becomes) (ap (λ (x : Volumed B). x.attached) e.becomes) (λ X f fixed. roomed f w.snaps v.snaps e.roomed fixed.room)

  keeps_full : (number first : ℕ) (v w : Volumed B) → IsFoundFull contents layers number first v w → KeepsDevices v w
  keeps_full number first v w e = keeps_by v w (ap (λ (x : Volumed B). x.origin) e.becomes) (ap (λ (x : Volumed B). x.merge) e.becomes) (ap (λ (x : Volumed B). x.attached) e.becomes)
      (λ X f fixed. roomed f w.snaps (set v.snaps e.place (spoilt_of e.snap)) e.spoilt fixed.room ∙ set_fixed f fixed v.snaps e.place e.snap (spoilt_of e.snap) e.is (fixed.spoilt e.snap))

  -- one is marked
  keeps_overflown : (number first : ℕ) (v w : Volumed B) → IsOverflown contents layers number first v w → KeepsDevices v w
  keeps_overflown number first v w e = record {
    origin = ap (λ (x : Volumed B). x.origin) e.becomes;
    devices = same (λ (s : Kept B). s.device) (λ s. refl) (λ s. refl);
    attached = ap (λ (x : Volumed B). x.attached) e.becomes;
    numbers = same number_of_snap (λ s. refl) (λ s. refl);
    chunks = same (λ (s : Kept B). s.state.chunk) (λ s. refl) (λ s. refl);
    merge = ap (λ (x : Volumed B). x.merge) e.becomes;
  }
    where
      same : {X : Type 0} (f : Kept B → X) → ((s : Kept B) → f (unroomed s) ≡ f s) → ((s : Kept B) → f (record s { overflow = Did }) ≡ f s) → map f w.snaps ≡ map f v.snaps
      same f room marked = roomed f w.snaps (set v.snaps e.place (record e.snap { overflow = Did })) e.marked room
          ∙ map-set_same f v.snaps e.place (record e.snap { overflow = Did }) e.snap (marked e.snap ∙ ap f e.is)

  pub keeps_refused : (size : B → ℕ) (request : Request) (refusal : Refusal) (v w : Volumed B) → IsRefusedAs contents layers size request refusal v w → KeepsDevices v w
  keeps_refused size request refusal v w e = elim e [
    | inl early ↦ keeps_same v w early.1
    | inr later ↦ elim later [
      | inl lacking ↦ (let (free, memory, same) = lacking in keeps_room v w same)
      | inr full ↦ elim full [
        | inl spoilt ↦ (let (free, invalid, rest) = spoilt in let (number, kind, found) = rest in keeps_full number _ v w found)
        | inr marked ↦ (let (free, overflow, rest) = marked in let (number, kind, found) = rest in keeps_overflown number _ v w found)
      ]
    ]
  ]

-- what holds whatever the result
pub of_both : {X E C : Type 0} (r : Result X E) (P : X → Type 0) (Q : E → Type 0) → ((x : X) → P x → C) → ((e : E) → Q e → C) → IfOk r P → IfErr r Q → C
of_both (Ok x) P Q f g p q = f x p
of_both (Err e) P Q f g p q = g e q
