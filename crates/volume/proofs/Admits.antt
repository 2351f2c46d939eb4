-- A request that no limit, range or missing snapshot refuses.
use Rattle.std.proofs.Common.{◌≡◌, inl, inr, ℕ, ◌+◌, ◌*◌, ◌/◌, ◌%◌, ◌<◌, ◌≤◌, Bool, true, false, length, Option, Some, None, refl, sym, ◌∙◌, ap, arith}
use Rattle.std.specs.Prelude.{◌&&◌, ◌||◌, nat_lt, nat_le, sum_by}
use Rattle.std.proofs.lemmas.Bool.{cases_Bool, leb-true, ltb-true, ltb-false}
use Rattle.std.proofs.lemmas.Bool.Decides.{leb_tells}
use Rattle.std.proofs.lemmas.Nat.{div-add-mod'}
use Rattle.sector.specs.declared.range.Range.{Range}
use Rattle.sector.specs.declared.refusal.Refusal.{Refusal}
use Rattle.sector.specs.declared.refusal.Refusal.TheVariants.{OutOfRange, TooMany}
use Rattle.plain_machine.specs.declared.request.Request.{Request}
use Rattle.plain_machine.specs.declared.request.Op.{Op}
use Rattle.plain_machine.specs.declared.request.Op.TheVariants.{Read, Write, Flush}
use Rattle.plain_machine.specs.Kept.{kept_range}
use Rattle.plain_machine.specs.declared.request.Dev.TheVariants.{Origin}
use Rattle.in_flight.specs.declared.flights.Kind.TheVariants.{SnapRead, SnapWrite}
use Rattle.in_flight.specs.Kinds.{kind_of, kind_at}
use Rattle.volume_laws.specs.Published.{IsPiece}
use Rattle.volume.specs.Volumed.{Volumed, piece_with}
use Rattle.snapshot_list.specs.Numbers.{count_in}
use Rattle.volume.specs.Submitting.{first_of_two, range_refusal, limit_refusal, dev_refusal, shut_refusal, submit_refusal, is_piece_of, are_too_many, starting}

both_none : (a b : Option Refusal) → first_of_two a b ≡ None → (a ≡ None) × (b ≡ None)
both_none None b e = (refl, e)
both_none (Some r) b e = absurd (cc)

and_first : (a b : Bool) → (a && b) ≡ true → a ≡ true
and_first true b e = refl
and_first false b e = e

and_second : (a b : Bool) → (a && b) ≡ true → b ≡ true
and_second true b e = e
and_second false b e = absurd (cc)

or_first : (a b : Bool) → (a || b) ≡ false → a ≡ false
or_first true b e = e
or_first false b e = refl

or_second : (a b : Bool) → (a || b) ≡ false → b ≡ false
or_second true b e = absurd (cc)
or_second false b e = e

range_fits : (piece sectors : ℕ) (range : Range) → range_refusal piece sectors range ≡ None → is_piece_of piece sectors range ≡ true
range_fits piece sectors range e = elim (cases_Bool (is_piece_of piece sectors range)) [
  | inl fits ↦ fits
  | inr misfit ↦ (let got : Some OutOfRange ≡ None = rw misfit at e in absurd (cc))
]

limits_fit : {B : Type 0} (new : ℕ) (v : Volumed B) → limit_refusal new v ≡ None → are_too_many new v ≡ false
limits_fit new v e = elim (cases_Bool (are_too_many new v)) [
  | inr fits ↦ fits
  | inl many ↦ (let got : Some TooMany ≡ None = rw many at e in absurd (cc))
]

leb_false : (a b : ℕ) → nat_le a b ≡ false → b < a
leb_false a b e = elim (leb_tells a b) [ inl t ↦ absurd (let both : true ≡ false = sym t.0 ∙ e in cc) | inr f ↦ f.1 ]

inside_piece : (first count piece q r : ℕ) → r + count ≤ piece → q * piece + r ≡ first → first + count ≤ piece * q + piece
inside_piece first count piece q r within whole = let turned : q * piece ≡ piece * q = grind arith in omega (arith, within, whole, turned)

-- what holds of it
pub record IsAdmitted {B : Type 0} (size : B → ℕ) (request : Request) (v : Volumed B) : Type 0 where
  pub dev : dev_refusal request.dev v.merge v.snaps ≡ None
  pub writable : shut_refusal (kind_of request) v.snaps ≡ None
  pub some : 0 < request.range.count
  pub inside : request.range.first + request.range.count ≤ size v.origin
  pub piece : IsPiece (piece_with v.merge v.snaps) request.range
  pub flights : length v.flights < 64
  pub requests : v.requests < 18_446_744_073_709_551_615
  pub few : sum_by count_in v.snaps + starting (kind_of request) request.range.first v.merge v.snaps ≤ 256

pub admitted : {B : Type 0} (size : B → ℕ) (request : Request) (v : Volumed B) → kept_range request.op request.range ≡ request.range → submit_refusal size request v ≡ None → IsAdmitted size request v
admitted size request v whole refused =
    let new = starting (kind_of request) request.range.first v.merge v.snaps in
    let e : first_of_two (dev_refusal request.dev v.merge v.snaps) (first_of_two (shut_refusal (kind_of request) v.snaps) (first_of_two (range_refusal (piece_with v.merge v.snaps) (size v.origin) request.range) (limit_refusal new v))) ≡ None =
    ap (λ (r : Range). first_of_two (dev_refusal request.dev v.merge v.snaps) (first_of_two (shut_refusal (kind_of request) v.snaps) (first_of_two (range_refusal (piece_with v.merge v.snaps) (size v.origin) r) (limit_refusal new v)))) (sym whole) ∙ refused in
    let one = both_none (dev_refusal request.dev v.merge v.snaps) _ e in
    let then = both_none (shut_refusal (kind_of request) v.snaps) _ one.1 in
    let two = both_none (range_refusal (piece_with v.merge v.snaps) (size v.origin) request.range) _ then.1 in
    let range = range_fits (piece_with v.merge v.snaps) (size v.origin) request.range two.0 in
    let limits = limits_fit new v two.1 in
    let count = request.range.count in
    let first = request.range.first in
    let piece = piece_with v.merge v.snaps in
    let range_two = and_first (nat_lt 0 request.range.count && nat_le (request.range.first + request.range.count) (size v.origin)) (nat_le (request.range.first % piece_with v.merge v.snaps + request.range.count) (piece_with v.merge v.snaps)) range in
    let range_last = and_second (nat_lt 0 request.range.count && nat_le (request.range.first + request.range.count) (size v.origin)) (nat_le (request.range.first % piece_with v.merge v.snaps + request.range.count) (piece_with v.merge v.snaps)) range in
    let a : Bool = nat_le 64 (length v.flights) in
    let b : Bool = nat_le 18_446_744_073_709_551_615 v.requests in
    let d : Bool = nat_lt 256 (sum_by count_in v.snaps + starting (kind_of request) request.range.first v.merge v.snaps) in
    let limit_two = or_first (a || b) d limits in
    let within : request.range.first % piece_with v.merge v.snaps + request.range.count ≤ piece_with v.merge v.snaps = leb-true (request.range.first % piece_with v.merge v.snaps + request.range.count) (piece_with v.merge v.snaps) range_last in
    let whole : request.range.first / piece_with v.merge v.snaps * piece_with v.merge v.snaps + request.range.first % piece_with v.merge v.snaps ≡ request.range.first = div-add-mod' request.range.first (piece_with v.merge v.snaps) in
    record {
      dev = one.0;
      writable = then.0;
      some = ltb-true 0 request.range.count (and_first (nat_lt 0 request.range.count) (nat_le (request.range.first + request.range.count) (size v.origin)) range_two);
      inside = leb-true (request.range.first + request.range.count) (size v.origin) (and_second (nat_lt 0 request.range.count) (nat_le (request.range.first + request.range.count) (size v.origin)) range_two);
      piece = record { within = inside_piece request.range.first request.range.count (piece_with v.merge v.snaps) (request.range.first / piece_with v.merge v.snaps) (request.range.first % piece_with v.merge v.snaps) within whole };
      flights = leb_false 64 (length v.flights) (or_first a b limit_two);
      requests = leb_false 18_446_744_073_709_551_615 v.requests (or_second a b limit_two);
      few = ltb-false 256 (sum_by count_in v.snaps + starting (kind_of request) request.range.first v.merge v.snaps) (or_second (a || b) d limits);
    }

-- a request of the origin has an origin's kind
pub origin_kind_read : (request : Request) (n : ℕ) → request.dev ≡ Origin → SnapRead n ≡ kind_of request → ⊥
origin_kind_read request n dev e = not_read request.op (e ∙ ap (λ d. kind_at d request.op) dev)
  where
    not_read : (op : Op) → SnapRead n ≡ kind_at Origin op → ⊥
    not_read Read e = cc
    not_read (Write bytes) e = cc
    not_read Flush e = cc

pub origin_kind_write : (request : Request) (n : ℕ) → request.dev ≡ Origin → SnapWrite n ≡ kind_of request → ⊥
origin_kind_write request n dev e = not_write request.op (e ∙ ap (λ d. kind_at d request.op) dev)
  where
    not_write : (op : Op) → SnapWrite n ≡ kind_at Origin op → ⊥
    not_write Read e = cc
    not_write (Write bytes) e = cc
    not_write Flush e = cc
