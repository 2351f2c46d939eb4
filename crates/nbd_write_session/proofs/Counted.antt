-- Of each request's pieces those that were taken came back or are out.
use Rattle.std.proofs.Common.{◌≡◌, ◌⊎◌, inl, inr, ℕ, zero, suc, ◌+◌, ◌<◌, ◌==◌, ◌||◌, Bool, true, false, Option, None, Some, Result, Ok, Err, List, [], ◌∷◌, ◌++◌, length, get_or, if◌then◌else◌, refl, ap, ◌∙◌, sym, subst, arith}
use Rattle.std.specs.List.{list_any, position, remove}
use Rattle.std.proofs.lemmas.List.Quantifiers.{position-Some}
use Rattle.nbd_jobs.specs.declared.jobs.Piece.{Piece}
use Rattle.nbd_jobs.specs.declared.work.Work.{Work}
use Rattle.nbd_jobs.specs.Steps.{is_out}
use Rattle.nbd_messages.specs.declared.errors.ErrorValue.{ErrorValue}
use Rattle.nbd_backend.specs.Calls.{Call, Choose, Submit, Step}
use Rattle.nbd_backend.specs.declared.array.Refused.{Refused}
use Rattle.nbd_backend.specs.declared.array.Refused.TheVariants.{Full, Error}
use Rattle.nbd_backend.specs.declared.array.Stepped.{Stepped}
use Rattle.nbd_backend.specs.declared.array.Stepped.TheVariants.{Still, Idle, Done, Slow, Back, Ended}
use Rattle.nbd_write_session.specs.Pieces.{Deal, Taken, Declined, Came, back_at, came_count, deals_after, deals_back, deals_of, deals_with, out_after, out_of, out_with, piece_at, taken_count, without}

-- no piece
abbrev pub nowhere : Piece
nowhere = record { number = 0; serial = 0; at = 0 }

-- how many of some pieces are of a request
abbrev pub one_if : Bool → ℕ
one_if false = 0
one_if true = 1

abbrev pub open_count : ℕ → List Piece → ℕ
open_count serial [] = 0
open_count serial (p ∷ out) = one_if (p.serial == serial) + open_count serial out

open_append : (serial : ℕ) (out : List Piece) (p : Piece) → open_count serial (out ++ p ∷ []) ≡ open_count serial out + one_if (p.serial == serial)
open_append serial [] p = let e : one_if (p.serial == serial) + 0 ≡ 0 + one_if (p.serial == serial) = omega arith in e
open_append serial (q ∷ out) p =
    let e = open_append serial out p in
    let f : one_if (q.serial == serial) + open_count serial (out ++ p ∷ []) ≡ (one_if (q.serial == serial) + open_count serial out) + one_if (p.serial == serial) = omega (arith, e) in
    f

open_remove : (serial : ℕ) (out : List Piece) (k : ℕ) (d : Piece) → k < length out → open_count serial out ≡ open_count serial (remove out k) + one_if ((get_or out k d).serial == serial)
open_remove serial [] k d inside = absurd (omega (arith, inside))
open_remove serial (q ∷ out) zero d inside = let e : one_if (q.serial == serial) + open_count serial out ≡ open_count serial out + one_if (q.serial == serial) = omega arith in e
open_remove serial (q ∷ out) (suc k) d inside =
    let less : k < length out = omega (arith, inside) in
    let e = open_remove serial out k d less in
    let f : one_if (q.serial == serial) + open_count serial out ≡ (one_if (q.serial == serial) + open_count serial (remove out k)) + one_if ((get_or out k d).serial == serial) = omega (arith, e) in
    f

-- none is out of a request of which none passes
pub none_open : (serial : ℕ) (out : List Piece) → is_out out serial ≡ false → open_count serial out ≡ 0
none_open serial [] none = refl
none_open serial (q ∷ out) none = of (q.serial == serial) refl none (λ rest. none_open serial out rest) where
  of : (b : Bool) → (q.serial == serial) ≡ b → (b || is_out out serial) ≡ false → (is_out out serial ≡ false → open_count serial out ≡ 0) → one_if (q.serial == serial) + open_count serial out ≡ 0
  of true is never rest = absurd (let t : true ≡ false = never in cc)
  of false is never rest = let e : one_if (q.serial == serial) ≡ 0 = ap one_if is in let f : open_count serial out ≡ 0 = rest never in omega (arith, e, f)

-- one that is out is of its request
pub some_open : (serial : ℕ) (out : List Piece) (k : ℕ) (d : Piece) → k < length out → ((get_or out k d).serial == serial) ≡ true → 0 < open_count serial out
some_open serial out k d inside is =
    let e = open_remove serial out k d inside in
    let one : one_if ((get_or out k d).serial == serial) ≡ 1 = ap one_if is in
    omega (arith, e, one)

taken_one : (b : Bool) (work : Work) (part : List ℕ) (deals : List Deal) (n : ℕ) → taken_count deals ≡ came_count deals + n
    → taken_count (if b then Taken work part ∷ deals else deals) ≡ came_count (if b then Taken work part ∷ deals else deals) + (n + one_if b)
taken_one true work part deals n h = let e : taken_count deals + 1 ≡ came_count deals + (n + 1) = omega (arith, h) in e
taken_one false work part deals n h = let e : taken_count deals ≡ came_count deals + (n + 0) = omega (arith, h) in e

declined_one : (b : Bool) (work : Work) (part : List ℕ) (error : ErrorValue) (deals : List Deal) (n : ℕ) → taken_count deals ≡ came_count deals + n
    → taken_count (if b then Declined work part error ∷ deals else deals) ≡ came_count (if b then Declined work part error ∷ deals else deals) + n
declined_one true work part error deals n h = h
declined_one false work part error deals n h = h

full_one : (b : Bool) (deals : List Deal) (n : ℕ) → taken_count deals ≡ came_count deals + n → taken_count (if b then deals else deals) ≡ came_count (if b then deals else deals) + n
full_one true deals n h = h
full_one false deals n h = h

came_one : (b : Bool) (at : ℕ) (bytes : List ℕ) (error : Option ErrorValue) (deals : List Deal) (m : ℕ) → taken_count deals ≡ came_count deals + (m + one_if b)
    → taken_count (if b then Came at bytes error ∷ deals else deals) ≡ came_count (if b then Came at bytes error ∷ deals else deals) + m
came_one true at bytes error deals m h =
    let g : taken_count deals ≡ came_count deals + (m + 1) = h in
    let e : taken_count deals ≡ (came_count deals + 1) + m = omega (arith, g) in
    e
came_one false at bytes error deals m h =
    let g : taken_count deals ≡ came_count deals + (m + 0) = h in
    let e : taken_count deals ≡ came_count deals + m = omega (arith, g) in
    e

back_one : (serial : ℕ) (out : List Piece) (found : Option ℕ) (bytes : List ℕ) (error : Option ErrorValue) (deals : List Deal) → ((k : ℕ) → found ≡ Some k → k < length out)
    → taken_count deals ≡ came_count deals + open_count serial out
    → taken_count (deals_back serial (piece_at out found) bytes error deals) ≡ came_count (deals_back serial (piece_at out found) bytes error deals) + open_count serial (without out found)
back_one serial out None bytes error deals inside h = h
back_one serial out (Some k) bytes error deals inside h =
    let e = open_remove serial out k nowhere (inside k refl) in
    came_one ((get_or out k nowhere).serial == serial) (get_or out k nowhere).at bytes error deals (open_count serial (remove out k)) (h ∙ ap (λ n. came_count deals + n) e)

pub counted : (serial : ℕ) (calls : List Call) → taken_count (deals_of serial calls) ≡ came_count (deals_of serial calls) + open_count serial (out_of calls)
counted serial [] = refl
counted serial (Choose place told ∷ calls) = refl
counted serial (Submit work part (Ok number) ∷ calls) =
    taken_one (work.serial == serial) work part (deals_of serial calls) (open_count serial (out_of calls)) (counted serial calls)
    ∙ ap (λ n. came_count (deals_of serial (Submit work part (Ok number) ∷ calls)) + n) (sym (open_append serial (out_of calls) (record { number = number; serial = work.serial; at = work.at })))
counted serial (Submit work part (Err Full) ∷ calls) = full_one (work.serial == serial) (deals_of serial calls) (open_count serial (out_of calls)) (counted serial calls)
counted serial (Submit work part (Err (Error error)) ∷ calls) = declined_one (work.serial == serial) work part error (deals_of serial calls) (open_count serial (out_of calls)) (counted serial calls)
counted serial (Step Still ∷ calls) = counted serial calls
counted serial (Step Idle ∷ calls) = counted serial calls
counted serial (Step Done ∷ calls) = counted serial calls
counted serial (Step Slow ∷ calls) = counted serial calls
counted serial (Step (Back number bytes error) ∷ calls) =
    back_one serial (out_of calls) (back_at number (out_of calls)) bytes error (deals_of serial calls)
    (λ k is. (position-Some (λ (p : Piece). p.number == number) (out_of calls) k nowhere is).0) (counted serial calls)
counted serial (Step Ended ∷ calls) = counted serial calls
