-- What a volume needs to give the laws' premises, and to say what they leave in the clauses of a stop.
use Rattle.std.proofs.Common.{◌≡◌, ◌⊎◌, inl, inr, ℕ, ◌+◌, ◌*◌, ◌<◌, ◌≤◌, List, ◌++◌, length, take, drop, arith, refl, ap, ◌∙◌, sym, subst}
use Rattle.std.specs.Prelude.{Option, Some, None}
use Rattle.std.specs.List.{All}
use Rattle.std.proofs.lemmas.List.{drop-append-le}
use Rattle.std.proofs.lemmas.List.Elements.{All-append}
use Rattle.sector.specs.Bytes.{sector_at, with_sectors}
use Rattle.sector.proofs.Sectors.{sectors_at-with_inside}
use Rattle.sector.specs.declared.pair.Pair.{Pair}
use Rattle.cow_format.specs.Picture.{place_of}
use Rattle.crash_laws.specs.Stop.{MayLeave, Within, IsTorn}
use Rattle.crash_laws.specs.Firm.{AddsNow, IsFirm}
use Rattle.crash_laws.specs.Clauses.{Given, Gives, StopsDisk}
use Rattle.cache_loss_laws.proofs.Parts.{place_first}
use Rattle.cache_loss_laws.proofs.Places.{place_later, place_all}

-- A call that changes no byte adds no value: a read, a fault, a flush.
pub adds_nothing : (old new : ℕ → List ℕ → Type 0) (now : List ℕ) (size s : ℕ) (v : List ℕ) → AddsNow old new now → MayLeave old size now → s < size → new s v → old s v
adds_nothing old new now size s v adds left lt there = elim (adds s v there) [ inl was ↦ was | inr e ↦ subst (old s) (sym e) (left.each s lt) ]

-- nor what may be left within it
pub left_nothing : (old new : ℕ → List ℕ → Type 0) (now d : List ℕ) (size : ℕ) → AddsNow old new now → MayLeave old size now → MayLeave (Within old new) size d → MayLeave old size d
left_nothing old new now d size adds left within = record {
  whole = within.whole;
  each = λ s lt. elim (within.each s lt) [ inl was ↦ was | inr there ↦ adds_nothing old new now size s (sector_at d s) adds left lt there ];
}

-- Within a write of a device that was flushed before, each sector is old or new, as on a disk that writes through.
pub firm_torn : (old new : ℕ → List ℕ → Type 0) (was now d : List ℕ) (size : ℕ) → IsFirm old was size → AddsNow old new now → MayLeave (Within old new) size d → IsTorn size was now d
firm_torn old new was now d size firm adds within = record {
  whole = within.whole;
  each = λ s lt. elim (within.each s lt) [
    | inl before ↦ inl (firm s lt (sector_at d s) before)
    | inr there ↦ elim (adds s (sector_at d s) there) [ inl before ↦ inl (firm s lt (sector_at d s) before) | inr e ↦ inr e ]
  ];
}

-- A chunk has its pair surely in the list where it has one and is not late: each pair that is not surely there is of a late chunk.
-- A volume's late chunks are those with a mark whose area was not flushed since, so a published chunk is sure.
pub published_sure : (late : ℕ → Type 0) (sure : ℕ) (ps : List Pair) (x n : ℕ) → All (λ q. late q.old) (drop sure ps) → (late x → ⊥) → place_of ps x ≡ Some n → place_of (take sure ps) x ≡ Some n
published_sure late sure ps x n link timely at = by (place_of (take sure ps) x) refl where
  some_same : (m n : ℕ) → Some m ≡ Some n → m ≡ n
  some_same m n e = cc

  by : (y : Option ℕ) → place_of (take sure ps) x ≡ y → place_of (take sure ps) x ≡ Some n
  by (Some m) e = e ∙ ap Some (some_same m n (sym (place_first sure ps x m e) ∙ at))
  by None e =
      let (q, is, old, new) = place_all (λ q. late q.old) (drop sure ps) x n link (sym (place_later sure ps x e) ∙ at) in
      absurd (timely (subst late old is))

-- and stays so where pairs of late chunks are committed
pub late_more : (late : ℕ → Type 0) (sure : ℕ) (ps qs : List Pair) → sure ≤ length ps → All (λ q. late q.old) (drop sure ps) → All (λ q. late q.old) qs → All (λ q. late q.old) (drop sure (ps ++ qs))
late_more late sure ps qs low link more = subst (All (λ q. late q.old)) (sym (drop-append-le sure ps qs low)) (All-append (λ (q : Pair). late q.old) (drop sure ps) qs link more)

-- A write of so many sectors gives the array these values.
pub disk_given : (o o' bytes : List ℕ) (first count : ℕ) (array : Option ℕ) (s : ℕ) (v : List ℕ) → o' ≡ with_sectors o first bytes → 512 * first + length bytes ≤ length o → length bytes ≡ 512 * count → first ≤ s → s < first + count → v ≡ sector_at o' s → Gives (Some (record { array = array; first = first; count = count; bytes = bytes })) array s v
disk_given o o' bytes first count array s v written fits long lo hi is = (refl, lo, hi, is ∙ ap (λ z. sector_at z s) written ∙ sectors_at-with_inside o first count bytes s 1 fits long lo (omega (arith, hi)))

-- The second clause where no merge is begun: the origin disk itself.
pub disk_clause : {B : Type 0} (holds : B → ℕ → List ℕ → Type 0) (contents : B → List ℕ) (size : B → ℕ) (given : Option Given) (origin origin' : B) → AddsNow (holds origin) (holds origin') (contents origin') → MayLeave (holds origin) (size origin) (contents origin)
    → ((s : ℕ) → s < size origin → (sector_at (contents origin') s ≡ sector_at (contents origin) s) ⊎ Gives given None s (sector_at (contents origin') s)) → StopsDisk holds size given origin origin'
disk_clause holds contents size given origin origin' adds left cases o within s lt = elim (within.each s lt) [
  | inl was ↦ inl was
  | inr there ↦ elim (adds s (sector_at o s) there) [
    | inl was ↦ inl was
    | inr e ↦ elim (cases s lt) [
      | inl same ↦ inl (subst (holds origin s) (sym (e ∙ same)) (left.each s lt))
      | inr g ↦ inr (subst (Gives given None s) (sym e) g)
    ]
  ]
]
