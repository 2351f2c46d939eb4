-- A refused request, as the plain machine has it.
use Rattle.std.proofs.Common.{◌≡◌, inl, inr, ℕ, zero, suc, true, List, [], ◌∷◌, map, refl, sym, ◌∙◌, ap, arith}
use Rattle.std.specs.Prelude.{◌==◌}
use Rattle.device.specs.Layers.{Layer}
use Rattle.sector.specs.declared.refusal.Refusal.{Refusal}
use Rattle.plain_machine.specs.declared.request.Dev.{Dev}
use Rattle.plain_machine.specs.declared.request.Dev.TheVariants.{Origin, Snap}
use Rattle.plain_machine.specs.declared.request.Op.{Op}
use Rattle.plain_machine.specs.declared.request.Op.TheVariants.{Read, Write, Flush}
use Rattle.plain_machine.specs.declared.request.Request.{Request}
use Rattle.plain_machine.specs.Plain.{overflow_under}
use Rattle.plain_machine.specs.Legal.{IsDeclined}
use Rattle.in_flight.specs.Kinds.{kind_at, in_flight}
use Rattle.in_flight.specs.declared.flights.Kind.TheVariants.{SnapWrite}
use Rattle.volume.specs.Shown.{shown_entry}
use Rattle.volume_laws.specs.Waits.{IsQuiet}
use Rattle.snapshot.specs.Kept.{Kept}
use Rattle.volume.specs.Volumed.{Volumed, books_of, plain_of, is_loud_in_all}
use Rattle.volume.specs.Submitting.{SameButRoom, IsRefusedAs}
use Rattle.volume.proofs.Finishes.{plain_roomed, loud_roomed}
use Rattle.volume.proofs.MovedLists.{IsFirst, first_position}
use Rattle.volume.proofs.Named.{dev_of_write}

op_at_write : (dev : Dev) (op : Op) (n : ℕ) → kind_at dev op ≡ SnapWrite n → (bytes : List ℕ) × (op ≡ Write bytes)
op_at_write Origin Read n e = absurd (cc)
op_at_write Origin (Write b) n e = absurd (cc)
op_at_write Origin Flush n e = absurd (cc)
op_at_write (Snap m) Read n e = absurd (cc)
op_at_write (Snap m) (Write b) n e = (b, refl)
op_at_write (Snap m) Flush n e = absurd (cc)

-- what a write of the snapshot of a number does that finds its store full, as the plain machine has it
overflow_found : {B : Type 0} (contents : B → List ℕ) (origin : List ℕ) (n k : ℕ) (s : Kept B) (snaps : List (Kept B)) → IsFirst (λ (x : Kept B). x.number == n) k s snaps
    → overflow_under n (map (shown_entry contents origin) snaps) ≡ s.overflow
overflow_found contents origin n k s [] first = absurd (omega (arith, first.within))
overflow_found contents origin n zero s (x ∷ xs) first =
    rw (ap (λ (y : Kept _). y.number == n) (sym first.is) ∙ first.passes) (ap (λ (y : Kept _). y.overflow) (sym first.is))
overflow_found contents origin n (suc k) s (x ∷ xs) first =
    rw (first.before 0 x (omega arith)) (overflow_found contents origin n k s xs
    (record { within = omega (arith, first.within); is = first.is; passes = first.passes; before = λ i d lt. first.before (suc i) d (omega (arith, lt)) }))

module _ {B : Type 0} (contents : B → List ℕ) (layers : B → List Layer) (size : B → ℕ) (v w : Volumed B) where
  plain_same : SameButRoom v w → plain_of contents layers w ≡ plain_of contents layers v
  plain_same e = ap (plain_of contents layers) e.becomes ∙ plain_roomed contents layers size v w.snaps e.roomed

  pub refused_declined : (request : Request) (refusal : Refusal) → IsRefusedAs contents layers size request refusal v w → is_loud_in_all layers v ≡ true → IsDeclined request refusal (plain_of contents layers v) (plain_of contents layers w)
  refused_declined request refusal e loud = elim e [
    | inl first ↦ inl (ap (plain_of contents layers) first.1)
    | inr later ↦ elim later [
      | inl lacks ↦ (let (admitted, refused, roomed) = lacks in inl (plain_same roomed))
      | inr full ↦ elim full [
        | inl spoilt ↦
            (let (admitted, invalid, rest) = spoilt in let (number, kind, found) = rest in
            let (bytes, op) = op_at_write request.dev request.op number kind in
            let first = first_position (λ (s : Kept B). s.number == number) found.place found.snap v.snaps found.is found.found in
            let never = overflow_found contents (contents v.origin) number found.place found.snap v.snaps first ∙ found.strict in
            inr (number, bytes, dev_of_write request number kind, op, inl (invalid, never, found.spoils loud)))
        | inr marked ↦
            (let (admitted, overflow, rest) = marked in let (number, kind, found) = rest in
            let (bytes, op) = op_at_write request.dev request.op number kind in
            inr (number, bytes, dev_of_write request number kind, op, inr (overflow, found.legal loud)))
      ]
    ]
  ]

  pub refused_loud : (request : Request) (refusal : Refusal) → IsRefusedAs contents layers size request refusal v w → is_loud_in_all layers w ≡ is_loud_in_all layers v
  refused_loud request refusal e = elim e [
    | inl first ↦ ap (is_loud_in_all layers) first.1
    | inr later ↦ elim later [
      | inl lacks ↦ (let (admitted, refused, roomed) = lacks in ap (is_loud_in_all layers) roomed.becomes ∙ loud_roomed contents layers size v w.snaps roomed.roomed)
      | inr full ↦ elim full [
        | inl spoilt ↦ (let (admitted, invalid, rest) = spoilt in let (number, kind, found) = rest in found.loud)
        | inr marked ↦ (let (admitted, overflow, rest) = marked in let (number, kind, found) = rest in found.loud)
      ]
    ]
  ]

pub quiet_requests : {B : Type 0} (contents : B → List ℕ) (layers : B → List Layer) (size : B → ℕ) (v : Volumed B) → IsQuiet (books_of contents layers size v) → (plain_of contents layers v).requests ≡ []
quiet_requests contents layers size v e = ap (map in_flight) e.requests
