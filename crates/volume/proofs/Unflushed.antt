-- A request as it is kept: a read and a write as they were asked, and a flush with the first sector. What a volume says of a
-- request is the same of it as it was asked, and as it is kept.
use Rattle.std.proofs.Common.{◌≡◌, inl, inr, ℕ, ◌*◌, List, length, refl, sym, ap, subst}
use Rattle.device.specs.Layers.{Layer}
use Rattle.sector.specs.declared.range.Range.{Range}
use Rattle.sector.specs.declared.refusal.Refusal.{Refusal}
use Rattle.plain_machine.specs.declared.request.Dev.{Dev}
use Rattle.plain_machine.specs.declared.request.Dev.TheVariants.{Origin, Snap}
use Rattle.plain_machine.specs.declared.request.Op.{Op}
use Rattle.plain_machine.specs.declared.request.Op.TheVariants.{Read, Write, Flush}
use Rattle.plain_machine.specs.declared.request.Request.{Request}
use Rattle.plain_machine.specs.Kept.{kept, kept_range}
use Rattle.in_flight.specs.Kinds.{kind_at, kind_of}
use Rattle.in_flight.specs.declared.flights.Kind.{Kind}
use Rattle.in_flight.specs.declared.flights.Kind.TheVariants.{OriginRead, OriginWrite, OriginFlush, SnapRead, SnapWrite, SnapFlush}
use Rattle.volume.specs.Volumed.{Volumed}
use Rattle.volume.specs.Submitting.{IsAcceptedAs, IsRefusedAs, submit_refusal}

-- what is no flush
abbrev pub IsUnflushed : Kind → Type 0
IsUnflushed OriginRead = Unit {0}
IsUnflushed OriginWrite = Unit {0}
IsUnflushed OriginFlush = ⊥
IsUnflushed (SnapRead n) = Unit {0}
IsUnflushed (SnapWrite n) = Unit {0}
IsUnflushed (SnapFlush n) = ⊥

unflushed_at : (dev : Dev) (op : Op) (range : Range) → IsUnflushed (kind_at dev op) → kept_range op range ≡ range
unflushed_at dev Read range u = refl
unflushed_at dev (Write bytes) range u = refl
unflushed_at Origin Flush range u = absurd u
unflushed_at (Snap n) Flush range u = absurd u

pub unflushed : (request : Request) (kind : Kind) → kind_of request ≡ kind → IsUnflushed kind → kept_range request.op request.range ≡ request.range
unflushed request kind is u = unflushed_at request.dev request.op request.range (subst IsUnflushed (sym is) u)

-- it is kept as it is
pub kept_is : (request : Request) → kept_range request.op request.range ≡ request.range → kept request ≡ request
kept_is request whole = ap (λ (r : Range). let q : Request = record request { range = r } in q) whole

-- and then once more
pub kept_twice : (op : Op) (range : Range) → kept_range op (kept_range op range) ≡ kept_range op range
kept_twice Read range = refl
kept_twice (Write bytes) range = refl
kept_twice Flush range = refl

pub kept_bytes : (op : Op) (range : Range) → ((bytes : List ℕ) → op ≡ Write bytes → length bytes ≡ 512 * range.count) → (bytes : List ℕ) → op ≡ Write bytes → length bytes ≡ 512 * (kept_range op range).count
kept_bytes Read range fits = fits
kept_bytes (Write bytes) range fits = fits
kept_bytes Flush range fits = λ bytes e. absurd (cc)

module _ {B : Type 0} (contents : B → List ℕ) (layers : B → List Layer) (size : B → ℕ) (v w : Volumed B) where
  refused_at : (dev : Dev) (op : Op) (range : Range) → let r : Request = record { dev = dev; op = op; range = range } in submit_refusal size (kept r) v ≡ submit_refusal size r v
  refused_at dev Read range = refl
  refused_at dev (Write bytes) range = refl
  refused_at Origin Flush range = refl
  refused_at (Snap n) Flush range = refl

  pub refusal_kept : (request : Request) → submit_refusal size (kept request) v ≡ submit_refusal size request v
  refusal_kept request = refused_at request.dev request.op request.range

  accepted_at : (dev : Dev) (op : Op) (range : Range) (number : ℕ) → let r : Request = record { dev = dev; op = op; range = range } in IsAcceptedAs contents layers (kept r) number v w → IsAcceptedAs contents layers r number v w
  accepted_at dev Read range number e = e
  accepted_at dev (Write bytes) range number e = e
  accepted_at Origin Flush range number e = record {
    next = e.next;
    origin = e.origin;
    given = e.given;
    fresh = e.fresh;
    loud = e.loud;
    legal = λ loud. (let s = e.legal loud in record { writable = s.writable; becomes = s.becomes });
    lives = e.lives;
    overflows = e.overflows;
    flown = e.flown;
    exact = e.exact;
    kept = e.kept;
  }
  accepted_at (Snap n) Flush range number e = record {
    next = e.next;
    origin = e.origin;
    given = e.given;
    fresh = e.fresh;
    loud = e.loud;
    legal = λ loud. (let s = e.legal loud in record { writable = s.writable; becomes = s.becomes });
    lives = e.lives;
    overflows = e.overflows;
    flown = e.flown;
    exact = e.exact;
    kept = e.kept;
  }

  pub accepted_kept : (request : Request) (number : ℕ) → IsAcceptedAs contents layers (kept request) number v w → IsAcceptedAs contents layers request number v w
  accepted_kept request number e = accepted_at request.dev request.op request.range number e

  rejected_at : (dev : Dev) (op : Op) (range : Range) (refusal : Refusal) → let r : Request = record { dev = dev; op = op; range = range } in IsRefusedAs contents layers size (kept r) refusal v w → IsRefusedAs contents layers size r refusal v w
  rejected_at dev Read range refusal e = e
  rejected_at dev (Write bytes) range refusal e = e
  rejected_at Origin Flush range refusal e = elim e [
    | inl first ↦ inl first
    | inr later ↦ elim later [
      | inl starved ↦ inr (inl starved)
      | inr full ↦ elim full [
        | inl spoilt ↦ (let (free, invalid, rest) = spoilt in let (number, kind, found) = rest in absurd (cc))
        | inr marked ↦ (let (free, overflow, rest) = marked in let (number, kind, found) = rest in absurd (cc))
      ]
    ]
  ]
  rejected_at (Snap n) Flush range refusal e = elim e [
    | inl first ↦ inl first
    | inr later ↦ elim later [
      | inl starved ↦ inr (inl starved)
      | inr full ↦ elim full [
        | inl spoilt ↦ (let (free, invalid, rest) = spoilt in let (number, kind, found) = rest in absurd (cc))
        | inr marked ↦ (let (free, overflow, rest) = marked in let (number, kind, found) = rest in absurd (cc))
      ]
    ]
  ]

  pub rejected_kept : (request : Request) (refusal : Refusal) → IsRefusedAs contents layers size (kept request) refusal v w → IsRefusedAs contents layers size request refusal v w
  rejected_kept request refusal e = rejected_at request.dev request.op request.range refusal e
