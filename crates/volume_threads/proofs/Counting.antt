-- The counts of receipts, and that `check` agrees with them.
use Rattle.std.proofs.Common.{◌≡◌, ℕ, zero, suc, ◌+◌, ◌-◌, ◌<◌, List, [], ◌∷◌, ◌++◌, length, map, get_or, Some, refl, sym, ap, ◌∙◌, subst, arith}
use Rattle.std.specs.Prelude.{slice_get, slice_index_or}
use Rattle.std.proofs.lemmas.List.{length-map, map-append}
use Rattle.atomic_table.specs.Seated.{TableId}
use Rattle.atomic_table.specs.declared.badge.Badge.{Badge}
use Rattle.atomic_table.specs.declared.shared.Seat.{Seat}
use Rattle.plain_machine.specs.declared.request.Reply.{Reply}
use Rattle.locked_volume.specs.declared.rule.View.{View}
use Rattle.locked_volume.specs.declared.told.Told.{Told}
use Rattle.locked_volume.specs.Seats.{IsReceipted}
use Rattle.audited_volume.specs.declared.entry.Answered.{Answered}
use Rattle.audited_volume.specs.declared.entry.Entry.{Entry}
use Rattle.audited_volume.specs.declared.entry.Receipt.{Receipt}
use Rattle.audited_volume.specs.Entries.{Agreeing, answered_of, entries_by}
use Rattle.volume_threads.specs.Sittings.{AreCounted, SittingHolds}

-- one receipt more
pub counted_more : (seat first : ℕ) (rs : List Receipt) (r : Receipt) → AreCounted seat first rs → r.seat ≡ seat → r.count ≡ first + length rs + 1 → AreCounted seat first (rs ++ r ∷ [])
counted_more seat first [] r h by count = (by, omega (arith, count), tt)
counted_more seat first (x ∷ rs) r h by count = (h.0, h.1, counted_more seat (first + 1) rs r h.2 by (omega (arith, count)))

counted_at : (seat first : ℕ) (rs : List Receipt) (i : ℕ) (d : Receipt) → AreCounted seat first rs → i < length rs → ((get_or rs i d).seat ≡ seat) × ((get_or rs i d).count ≡ first + i + 1)
counted_at seat first [] i d h low = absurd (omega (arith, low))
counted_at seat first (r ∷ rs) zero d h low = (h.0, omega (arith, h.1))
counted_at seat first (r ∷ rs) (suc i) d h low =
    let next = counted_at seat (first + 1) rs i d h.2 (omega (arith, low)) in
    (next.0, omega (arith, next.1))

-- the entry behind some others
behind : (xs ys : List Answered) (n i : ℕ) → n ≡ length xs + i → slice_get (xs ++ ys) n ≡ slice_get ys i
behind [] ys n i e = ap (slice_get ys) (omega (arith, e))
behind (x ∷ xs) ys zero i e = absurd (omega (arith, e))
behind (x ∷ xs) ys (suc n) i e = behind xs ys n i (omega (arith, e))

answered_at : (rs : List Receipt) (i : ℕ) (d : Receipt) → i < length rs → slice_get (map answered_of rs) i ≡ Some (answered_of (get_or rs i d))
answered_at [] i d low = absurd (omega (arith, low))
answered_at (r ∷ rs) zero d low = refl
answered_at (r ∷ rs) (suc i) d low = answered_at rs i d (omega (arith, low))

pub agreeing : (folded : List ℕ) (start entries : List Entry) (n : ℕ) (rs : List Receipt) → entries_by n entries ≡ entries_by n start ++ map answered_of rs
    → AreCounted n (slice_index_or folded n 0 + length (entries_by n start)) rs → (i : ℕ) (d : Receipt) → i < length rs → Agreeing (slice_index_or folded (get_or rs i d).seat 0) entries (get_or rs i d)
agreeing folded start entries n rs own counts i d low =
    let r = get_or rs i d in
    let folds = slice_index_or folded n 0 in
    let had = length (entries_by n start) in
    let at = counted_at n (folds + had) rs i d counts low in
    let place : r.count - folds - 1 ≡ had + i = omega (arith, at.1) in
    subst (λ (s : ℕ). (slice_index_or folded s 0 < r.count) × (slice_get (entries_by s entries) (r.count - slice_index_or folded s 0 - 1) ≡ Some (answered_of r))) (sym at.0)
    (omega (arith, at.1), ap (λ l. slice_get l (r.count - folds - 1)) own ∙ behind (entries_by n start) (map answered_of rs) (r.count - folds - 1) i place ∙ answered_at rs i d low)

-- a list of one view has one first view
pub one_view : (views : List View) (v w : View) → views ≡ v ∷ [] → views ≡ w ∷ [] → v ≡ w
one_view views v w a b = ap first (sym a ∙ b)
  where
    first : List View → View
    first [] = v
    first (x ∷ xs) = x

-- a seat at a volume has one receipt more
pub holds_more : (history : TableId) (first seat : ℕ) (pass badge : Badge View) (receipts more : List Receipt) (me after : Seat Told View) (reply : Reply) (r : Receipt) → SittingHolds history first seat pass receipts
    → pass.views ≡ me.me.0 ∷ [] → IsReceipted history first seat me after reply r → badge.table_id ≡ after.table_id → badge.views ≡ after.me.0 ∷ [] → more ≡ receipts ++ r ∷ [] → SittingHolds history first seat badge more
holds_more history first seat pass badge receipts more me after reply r held at h table has grown =
    let same : held.view ≡ me.me.0 = one_view pass.views held.view me.me.0 held.has at in
    let old : me.me.0.old ≡ [] = ap (λ (v : View). v.old) (sym same) ∙ held.old in
    let mine : me.me.0.mine ≡ map answered_of receipts = ap (λ (v : View). v.mine) (sym same) ∙ held.mine in
    let long : length (entries_by seat me.me.0.old ++ me.me.0.mine) ≡ length receipts = (λ i. length (entries_by seat (old i) ++ mine i)) ∙ length-map receipts answered_of in
    record {
      view = after.me.0;
      has = has;
      table = table ∙ h.is_seat.table;
      sits = h.is_seat.sits;
      number = h.is_seat.number;
      old = h.old ∙ old;
      mine = h.mine ∙ ap (λ l. l ++ answered_of r ∷ []) mine ∙ sym (map-append answered_of receipts (r ∷ [])) ∙ ap (map answered_of) (sym grown);
      counts = subst (AreCounted seat first) (sym grown) (counted_more seat first receipts r held.counts h.by (omega (arith, h.count, long)));
    }
