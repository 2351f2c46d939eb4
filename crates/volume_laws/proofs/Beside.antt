-- The merged snapshot's number stays apart from the others', and so a request of another one, or of the origin, is accepted
-- beside the merge.
use Rattle.std.proofs.Common.{◌≡◌, ◌≢◌, inl, inr, ℕ, ◌+◌, ◌<◌, Bool, List, Option, Some, None, length, get_or, set, map, refl, sym, ◌∙◌, ap, subst, arith}
use Rattle.std.specs.List.{All, remove}
use Rattle.std.specs.Prelude.{AllPairs}
use Rattle.std.proofs.lemmas.Bool.{cases_lt}
use Rattle.std.proofs.lemmas.List.{get_or_default}
use Rattle.std.proofs.lemmas.List.Edits.{get_or-remove_below, get_or-remove_above, length-remove}
use Rattle.std.proofs.lemmas.List.Elements.{All-set}
use Rattle.in_flight.specs.Kinds.{kind_of}
use Rattle.in_flight.specs.declared.flights.Flight.{Flight}
use Rattle.in_flight.specs.declared.flights.Kind.TheVariants.{OriginRead, OriginWrite, OriginFlush, SnapRead, SnapWrite, SnapFlush}
use Rattle.volume_laws.specs.Books.{SnapBooks, MergeBooks, number_of}
use Rattle.volume_laws.specs.Published.{IsPiece}
use Rattle.volume_laws.specs.Accepting.{IsBeside, IsNumberedApart}
use Rattle.volume_laws.proofs.Lists.{All-remove}
use Rattle.volume_laws.proofs.Spoiling.{numbers_differ}
use Rattle.volume_laws.proofs.MergeEvents.{begun}
use Rattle.volume_laws.proofs.Routing.{origin_read_ne_read, origin_read_ne_write, origin_write_ne_read, origin_write_ne_write, reads_ne_writes, snap_of_read, snap_of_write, snap_of_flush}

-- without a merge
pub apart_alone : (merge : Option MergeBooks) (snaps : List SnapBooks) → merge ≡ None → IsNumberedApart merge snaps
apart_alone merge snaps none m is = absurd (none_ne_some m (sym none ∙ is))
  where
    none_ne_some : (x : MergeBooks) → None ≢ Some x
    none_ne_some x e = cc

-- begin_merge of snapshot k
pub apart_begun : (snaps : List SnapBooks) (k : ℕ) (s : SnapBooks) (loud : Bool) (buffer : List ℕ) → AllPairs (λ m n. m ≢ n) (map number_of snaps) → k < length snaps → s ≡ get_or snaps k s → IsNumberedApart (Some (begun s loud buffer)) (remove snaps k)
apart_begun snaps k s loud buffer numbers within was m is j d lt =
    let same : (begun s loud buffer).number ≡ m.number = (let one : begun s loud buffer ≡ m = cc in ap (λ (x : MergeBooks). x.number) one) in
    subst (λ n. (get_or (remove snaps k) j d).number ≢ n) same (other j d lt)
  where
    differ : (i : ℕ) (d : SnapBooks) → i < length snaps → i ≢ k → (get_or snaps i d).number ≢ s.number
    differ i d lt ne = numbers_differ snaps i k (get_or snaps i d) s numbers lt within (get_or_default snaps i d (get_or snaps i d) lt) was ne

    other : (j : ℕ) (d : SnapBooks) → j < length (remove snaps k) → (get_or (remove snaps k) j d).number ≢ s.number
    other j d lt = elim (cases_lt j k) [
      | inl below ↦ subst (λ (x : SnapBooks). x.number ≢ s.number) (sym (get_or-remove_below snaps k d j below within)) (differ j d (omega (arith, below, within)) (omega (arith, below)))
      | inr above ↦ subst (λ (x : SnapBooks). x.number ≢ s.number) (sym (get_or-remove_above snaps k d j above within)) (differ (j + 1) d (omega (arith, lt, length-remove snaps k within)) (omega (arith, above)))
    ]

-- a snapshot changes under its number, and one is detached
pub apart_set : (merge : Option MergeBooks) (snaps : List SnapBooks) (k : ℕ) (s s' : SnapBooks) → k < length snaps → s ≡ get_or snaps k s → s'.number ≡ s.number → IsNumberedApart merge snaps → IsNumberedApart merge (set snaps k s')
apart_set merge snaps k s s' within was same h m is = All-set (λ (x : SnapBooks). x.number ≢ m.number) snaps k s'
    (subst (λ n. n ≢ m.number) (ap (λ (x : SnapBooks). x.number) (sym was) ∙ sym same) (h m is k s within)) (h m is)

pub apart_removed : (merge : Option MergeBooks) (snaps : List SnapBooks) (k : ℕ) → IsNumberedApart merge snaps → IsNumberedApart merge (remove snaps k)
apart_removed merge snaps k h m is = All-remove (λ (x : SnapBooks). x.number ≢ m.number) snaps k (h m is)

-- an event of the merge
pub apart_merge : (m m' : MergeBooks) (snaps : List SnapBooks) → m'.number ≡ m.number → IsNumberedApart (Some m) snaps → IsNumberedApart (Some m') snaps
apart_merge m m' snaps same h x is =
    let number : m.number ≡ x.number = sym same ∙ (let one : m' ≡ x = cc in ap (λ (y : MergeBooks). y.number) one) in
    subst (λ n. All (λ (s : SnapBooks). s.number ≢ n) snaps) number (h m refl)

-- a request of the origin, and one of another snapshot
pub beside_origin_read : (f : Flight) (m : MergeBooks) → kind_of f.request ≡ OriginRead → IsPiece m.chunk f.request.range → IsBeside f m
beside_origin_read f m kind piece = record { piece = piece; no_read = λ e. origin_read_ne_read m.number (sym kind ∙ e); no_write = λ e. origin_read_ne_write m.number (sym kind ∙ e); no_flush = λ e. cc }

pub beside_origin_write : (f : Flight) (m : MergeBooks) → kind_of f.request ≡ OriginWrite → IsPiece m.chunk f.request.range → IsBeside f m
beside_origin_write f m kind piece = record { piece = piece; no_read = λ e. origin_write_ne_read m.number (sym kind ∙ e); no_write = λ e. origin_write_ne_write m.number (sym kind ∙ e); no_flush = λ e. cc }

pub beside_origin_flush : (f : Flight) (m : MergeBooks) → kind_of f.request ≡ OriginFlush → IsPiece m.chunk f.request.range → IsBeside f m
beside_origin_flush f m kind piece = record { piece = piece; no_read = λ e. cc; no_write = λ e. cc; no_flush = λ e. cc }

module _ (merge : Option MergeBooks) (snaps : List SnapBooks) (h : IsNumberedApart merge snaps) (f : Flight) (m : MergeBooks) (is : merge ≡ Some m) (j : ℕ) (s : SnapBooks) (within : j < length snaps) (was : s ≡ get_or snaps j s) (piece : IsPiece m.chunk f.request.range) where
  other : s.number ≢ m.number
  other = subst (λ (x : SnapBooks). x.number ≢ m.number) (sym was) (h m is j s within)

  pub beside_snap_read : kind_of f.request ≡ SnapRead s.number → IsBeside f m
  beside_snap_read kind = record { piece = piece; no_read = λ e. other (snap_of_read s.number m.number (sym kind ∙ e)); no_write = λ e. reads_ne_writes s.number m.number (sym kind ∙ e); no_flush = λ e. cc }

  pub beside_snap_write : kind_of f.request ≡ SnapWrite s.number → IsBeside f m
  beside_snap_write kind = record { piece = piece; no_read = λ e. reads_ne_writes m.number s.number (sym e ∙ kind); no_write = λ e. other (snap_of_write s.number m.number (sym kind ∙ e)); no_flush = λ e. cc }

  pub beside_snap_flush : kind_of f.request ≡ SnapFlush s.number → IsBeside f m
  beside_snap_flush kind = record { piece = piece; no_read = λ e. cc; no_write = λ e. cc; no_flush = λ e. other (snap_of_flush s.number m.number (sym kind ∙ e)) }
