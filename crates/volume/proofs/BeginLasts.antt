-- A merge is begun, and one is taken out: what lasts of their volumes, and what is open there.
use Rattle.std.proofs.Common.{◌≡◌, inl, inr, ℕ, ◌*◌, ◌<◌, Bool, true, List, [], ◌∷◌, ◌++◌, None, Some, length, get_or, map, sym, ◌∙◌, ap, subst, arith, nat_eq}
use Rattle.std.specs.List.{All, remove}
use Rattle.std.proofs.lemmas.Bool.{cases_Bool, cond-false}
use Rattle.std.proofs.lemmas.List.{length-map, get_or-map, get_or_default}
use Rattle.std.proofs.lemmas.List.Elements.{All-push}
use Rattle.sector.specs.Bytes.{sector_at}
use Rattle.device.specs.Layers.{Layer}
use Rattle.crash_laws.specs.Stop.{MayLeave}
use Rattle.crash_laws.specs.Again.{IsOpen}
use Rattle.volume_laws.proofs.Lists.{All-remove}
use Rattle.snapshot.specs.Kept.{Kept}
use Rattle.snapshot_list.proofs.Finds.{position_within}
use Rattle.merge.specs.Due.{is_finished_of}
use Rattle.merge.specs.Merging.{Merging}
use Rattle.snapshot_list.specs.Keeping.{unkept}
use Rattle.volume.specs.Beginning.{merging_from, IsMergeBegun}
use Rattle.volume.specs.Finishing.{finish_with}
use Rattle.volume.specs.Handing.{HandsOver, OpensTaken}
use Rattle.volume.specs.SnapLasting.{SnapLasting}
use Rattle.volume.specs.MergeLasting.{MergeLasting}
use Rattle.volume.specs.Stopping.{StopsOrigin, StopsVolume}
use Rattle.volume.specs.Volumed.{Volumed}
use Rattle.volume.specs.Whole.{IsWhole}
use Rattle.volume.proofs.LastAll.{kept_at, lasting_at}
use Rattle.volume.proofs.MergeStarts.{unkept_same, begun_lasts}

-- a merge that is taken out is finished
pub taken_finished : {B : Type 0} (m : Merging B) (quiet : Bool) → finish_with (Some m) quiet ≡ None → is_finished_of m ≡ true
taken_finished m quiet e = elim (cases_Bool (is_finished_of m)) [
  | inl is ↦ is
  | inr other ↦ absurd (let refused = sym (cond-false _ _ _ other) ∙ e in cc)
]

-- what a merge's begin hands over: its devices are the snapshot's
pub hands_over : {B : Type 0} (holds : B → ℕ → List ℕ → Type 0) (size : B → ℕ) (number : ℕ) (old new : Volumed B) → IsMergeBegun number old new → HandsOver holds size number old new
hands_over {B} holds size number old new begun k s m found at is x value here =
    let same : Some m ≡ Some (merging_from begun.snap begun.buffer) = sym is ∙ ap (λ (y : Volumed _). y.merge) begun.becomes in
    let em : m ≡ merging_from begun.snap begun.buffer = cc in
    let place : Some begun.place ≡ Some k = sym begun.found ∙ found in
    let ek : begun.place ≡ k = cc in
    let es : begun.snap ≡ s = by_place old.snaps begun.place k ek begun.snap s begun.is at (position_within (λ (t : Kept B). nat_eq t.number number) old.snaps k found) in
    let eo : new.origin ≡ old.origin = ap (λ (y : Volumed _). y.origin) begun.becomes in
    subst (λ (y : Kept _). IsOpen y.state.chunk (holds old.origin) (holds y.device) (size old.origin) (size y.device) x value) es
    (subst (λ z. IsOpen begun.snap.state.chunk (holds z) (holds begun.snap.device) (size z) (size begun.snap.device) x value) eo
    (subst (λ (y : Merging _). IsOpen y.state.chunk (holds new.origin) (holds y.device) (size new.origin) (size y.device) x value) em here))
  where
    by_place : (xs : List (Kept B)) (i j : ℕ) → i ≡ j → (a b : Kept B) → a ≡ get_or xs i a → b ≡ get_or xs j b → j < length xs → a ≡ b
    by_place xs i j e a b ea eb lt = ea ∙ ap (λ n. get_or xs n a) e ∙ get_or_default xs j a b lt ∙ sym eb

-- what may be left of the origin disk once a merge is taken out, of what a stop leaves before
pub taken_opens : {B : Type 0} (holds : B → ℕ → List ℕ → Type 0) (size : B → ℕ) (v w : Volumed B) (m : Merging B) → v.merge ≡ Some m → is_finished_of m ≡ true → StopsVolume holds size None v v → w.origin ≡ v.origin → OpensTaken holds size v w
taken_opens holds size v w m was finished stops same m' was' o left x lt =
    let e : Some m ≡ Some m' = sym was ∙ was' in
    let em : m ≡ m' = cc in
    let left_v : MayLeave (holds v.origin) (size v.origin) o = subst (λ z. MayLeave (holds z) (size z) o) same left in
    let lt_v : x < size v.origin = subst (λ z. x < size z) same lt in
    let origin : StopsOrigin holds size None v.origin v.origin (Some m) (Some m) = subst (λ z. StopsOrigin holds size None v.origin v.origin z z) was stops.origin in
    subst (λ (y : Merging _). IsOpen y.state.chunk (holds v.origin) (holds y.device) (size v.origin) (size y.device) x (sector_at o x)) em
    (elim (origin.1 finished o (record { whole = left_v.whole; each = λ s below. inl (left_v.each s below) }) x lt_v) [ inl open_there ↦ open_there | inr given ↦ absurd given ])

module _ {B : Type 0} (holds : B → ℕ → List ℕ → Type 0) (contents : B → List ℕ) (layers : B → List Layer) (size : B → ℕ) (whole : (d : B) → length (contents d) ≡ 512 * size d) (here : (d : B) (s : ℕ) → s < size d → holds d s (sector_at (contents d) s)) where
  -- snapshots that differ in what they keep back alone
  pub all_hidden : (o : B) (ss ts : List (Kept B)) → map unkept ts ≡ map unkept ss → All (SnapLasting holds contents layers size o) ss → All (SnapLasting holds contents layers size o) ts
  all_hidden o ss ts same all = λ k d lt.
      let below : k < length ss = omega (arith, lt, length-map ss (unkept {B = B}), length-map ts (unkept {B = B}), ap length same) in
      unkept_same holds contents layers size whole here o (get_or ss k d) (get_or ts k d) (sym (get_or-map unkept ts k d (unkept d) lt) ∙ ap (λ xs. get_or xs k (unkept d)) same ∙ get_or-map unkept ss k d (unkept d) below) (all k d below)

  -- the snapshot at a place is merged, and is none of the others any more
  pub begun_both : (u : Volumed B) (k : ℕ) (s : Kept B) → IsWhole contents layers size u → All (SnapLasting holds contents layers size u.origin) u.snaps → k < length u.snaps → s ≡ get_or u.snaps k s → s.live ≡ true → s.marks ≡ [] → (buffer : List ℕ)
      → All (SnapLasting holds contents layers size u.origin) (remove u.snaps k) × MergeLasting holds contents layers size u.origin (Some (merging_from s buffer))
  begun_both u k s h all lt is live none buffer = (
    All-remove (SnapLasting holds contents layers size u.origin) u.snaps k all,
    begun_lasts holds contents layers size whole here u.origin u.flights s (kept_at holds contents layers size whole here u h all k s lt is) (lasting_at holds contents layers size whole here u h all k s lt is) live none buffer,
  )

  -- one more is attached
  pub attached_all : (o : B) (ss : List (Kept B)) (s : Kept B) → All (SnapLasting holds contents layers size o) ss → SnapLasting holds contents layers size o s → All (SnapLasting holds contents layers size o) (ss ++ s ∷ [])
  attached_all o ss s all one = All-push (SnapLasting holds contents layers size o) ss s all one
