-- A request is answered and taken out: what a step promises of it.
use Rattle.std.proofs.Common.{◌≡◌, ℕ, ◌+◌, ◌*◌, ◌<◌, ◌≤◌, List, length, get_or, map, refl, sym, ap, subst, arith}
use Rattle.std.specs.Prelude.{sum_by}
use Rattle.std.specs.List.{All, remove}
use Rattle.std.proofs.lemmas.List.{length-map}
use Rattle.std.proofs.lemmas.List.Edits.{length-remove}
use Rattle.std.proofs.lemmas.List.Quantifiers.{all_pairs_remove}
use Rattle.device.specs.Layers.{Layer}
use Rattle.plain_machine.specs.Legal.{IsAnswered}
use Rattle.plain_machine.specs.declared.event.Event.TheVariants.{Issue}
use Rattle.plain_machine.specs.declared.event.Outcome.TheVariants.{Reply as Replied}
use Rattle.sector.specs.declared.range.Range.{Range}
use Rattle.plain_machine.specs.declared.request.Op.{Op}
use Rattle.plain_machine.specs.declared.request.Op.TheVariants.{Read, Write, Flush}
use Rattle.plain_machine.specs.declared.request.Reply.{Reply}
use Rattle.plain_machine.specs.declared.request.Reply.TheVariants.{Data, Written as IsWritten, Flushed as IsFlushed}
use Rattle.in_flight.specs.Kinds.{in_flight}
use Rattle.volume_laws.specs.Books.{Books}
use Rattle.volume_laws.specs.Steps.{TakesOut}
use Rattle.volume_laws.proofs.Requests.{asked, gone}
use Rattle.volume.specs.Flying.{Fits, IsTakenOut}
use Rattle.in_flight.specs.Due.{number_of_flight}
use Rattle.in_flight.specs.declared.flights.Flight.{Flight}
use Rattle.volume_laws.specs.Due.{left_in, weight_of}
use Rattle.volume_laws.specs.Held.{RequestHolds}
use Rattle.volume_laws.specs.Waits.{Waits}
use Rattle.volume_laws.specs.Outcomes.{IsReply}
use Rattle.volume_laws.proofs.Lists.{All-remove, map-remove}
use Rattle.volume.specs.Volumed.{Volumed, books_of, plain_of, dues_of, is_loud_in_all, merge_due, left_by}
use Rattle.snapshot.specs.Kept.{Kept}
use Rattle.snapshot_list.specs.Numbers.{number_of_snap}
use Rattle.volume.specs.Whole.{AreNumbers, GoesOn, IsAttached, IsWhole, starts_left}
use Rattle.volume.specs.Causes.{HasReplied, IsOneAtMost}
use Rattle.volume.specs.Stepping.{KeepsAll, has_failed}
use Rattle.volume.proofs.Shown.{shown, loud_books}
use Rattle.volume.proofs.Changing.{SnapsFit}
use Rattle.volume.proofs.Good.{IsGood}
use Rattle.volume.proofs.Weights.{removed_weights}

-- as much
pub no_more : (n : ℕ) → n ≤ n
no_more n = omega arith

-- one number fewer
fewer_numbers : (most : ℕ) (rs : List Flight) (k : ℕ) → k < length rs → AreNumbers most (map number_of_flight rs) → AreNumbers most (map number_of_flight (remove rs k))
fewer_numbers most rs k lt h = subst (AreNumbers most) (sym (map-remove number_of_flight rs k)) (record {
  given = All-remove (λ n. n ≤ most) (map number_of_flight rs) k h.given;
  ascending = all_pairs_remove (λ m n. m < n) (map number_of_flight rs) k (omega (arith, lt, length-map rs number_of_flight)) h.ascending;
})

module _ {B : Type 0} (contents : B → List ℕ) (layers : B → List Layer) (size faults done : B → ℕ) (v w : Volumed B) (h : IsWhole contents layers size v) (number place : ℕ) (reply : Reply) (in_list : place < length v.flights)
    (flights : w.flights ≡ remove v.flights place) (requests : w.requests ≡ v.requests) (copies : w.copies ≡ v.copies) (attached : w.attached ≡ v.attached) (fit : SnapsFit v.copies v.attached (size w.origin) w.snaps)
    (goes : GoesOn contents layers size w.merge w) (failed : has_failed w.merge ≡ has_failed v.merge) (left : left_by (dues_of contents layers w) (merge_due contents w.merge) ≤ left_by (dues_of contents layers v) (merge_due contents v.merge))
    (lefts : sum_by left_in (dues_of contents layers w) ≤ sum_by left_in (dues_of contents layers v)) (loud : is_loud_in_all layers w ≡ is_loud_in_all layers v) (kept : KeepsAll size v w)
    (overflows : map (λ (s : Kept B). s.overflow) w.snaps ≡ map (λ (s : Kept B). s.overflow) v.snaps) where
  pub reply_good : IsReply number reply (books_of contents layers size v) (books_of contents layers size w) → Waits (books_of contents layers size w) → HasReplied faults number reply v w → IsOneAtMost done v w
      → IsTakenOut number reply (map in_flight v.flights) (map in_flight w.flights) → IsGood contents layers size faults done (Issue number) (Replied number reply) v w
  reply_good answered waits cause one taken =
      let no_more : w.copies ≤ v.copies + 0 = omega (arith, copies) in
      let no_less : v.copies ≤ w.copies = omega (arith, copies) in
      record {
        whole = record {
          holds = answered.holds;
          waits = waits;
          merge = goes;
          snaps = subst (λ n. All (IsAttached n (size w.origin)) w.snaps) (sym copies) fit.snaps;
          counted = fit.counted;
          apart = fit.apart;
          numbers = subst (λ n. AreNumbers n (map number_of_snap w.snaps)) (sym attached) fit.numbers;
          requests = subst (λ n. AreNumbers n (map number_of_flight w.flights)) (sym requests) (subst (λ fs. AreNumbers v.requests (map number_of_flight fs)) (sym flights) (fewer_numbers v.requests v.flights place in_list h.requests));
          few = fit.few;
          few_copies = fit.few_copies;
          numbers_left = subst (λ n. n + sum_by starts_left w.snaps ≤ 2_147_483_648 * w.attached) (sym copies) (subst (λ n. v.copies + sum_by starts_left w.snaps ≤ 2_147_483_648 * n) (sym attached) fit.numbers_left);
          few_requests = omega (arith, h.few_requests, ap length flights, length-remove v.flights place in_list);
        };
        stepped = record {
          legal = λ l. (refl, subst (λ p. IsAnswered p number reply (plain_of contents layers w)) (sym (shown contents layers size v)) (subst (IsAnswered _ number reply) (sym (shown contents layers size w)) (answered.step (loud_books contents layers size v l))));
          flown = (refl, taken);
          lower = (let lighter = removed_weights v.flights place in_list in omega (arith, lefts, left, ap (sum_by weight_of) flights, lighter));
          loud = loud;
          cause = cause;
          failed = failed;
          one = one;
          kept = kept;
          requests = requests;
          copies = no_more;
          given = no_less;
          overflows = overflows;
        };
      }

-- the request that was taken out is the one that was asked
pub taken_out : (number place : ℕ) (reply : Reply) (r : Flight) (vb wb : Books) → TakesOut number place r vb wb → Fits r.request.op r.request.range reply → IsTakenOut number reply (map in_flight vb.requests) (map in_flight wb.requests)
taken_out number place reply r vb wb out fits = record { request = r.request; asked = asked number place r vb wb out; gone = gone number place r vb wb out; fits = fits }

-- a reply to a read, to a write, and to a flush
pub fits_read : (op : Op) (range : Range) (bytes : List ℕ) → op ≡ Read → length bytes ≡ 512 * range.count → Fits op range (Data bytes)
fits_read op range bytes is len = subst (λ (o : Op). Fits o range (Data bytes)) (sym is) len

pub fits_write : (op : Op) (range : Range) (bytes : List ℕ) → op ≡ Write bytes → Fits op range IsWritten
fits_write op range bytes is = subst (λ (o : Op). Fits o range IsWritten) (sym is) tt

pub fits_flush : (op : Op) (range : Range) → op ≡ Flush → Fits op range IsFlushed
fits_flush op range is = subst (λ (o : Op). Fits o range IsFlushed) (sym is) tt

-- what is so of the request
pub request_at : {B : Type 0} (contents : B → List ℕ) (layers : B → List Layer) (size : B → ℕ) (v : Volumed B) → IsWhole contents layers size v → (place : ℕ) (r : Flight) → place < length v.flights → r ≡ get_or v.flights place r → RequestHolds (size v.origin) r
request_at contents layers size v h place r within is = subst (RequestHolds (size v.origin)) (sym is) (h.holds.requests place r within)
