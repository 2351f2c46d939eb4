-- What a call noted, as callers see it.
use Rattle.std.proofs.Common.{◌≡◌, ◌≢◌, inl, inr, ℕ, ◌+◌, ◌<◌, Bool, true, false, List, [], ◌∷◌, ◌++◌, length, get_or, map, Option, Some, None, refl, sym, ◌∙◌, ap, subst}
use Rattle.std.specs.Prelude.{◌==◌, Result, Ok, Err, IfOk}
use Rattle.std.specs.List.{remove}
use Rattle.std.proofs.Common.{eq-eqb}
use Rattle.std.proofs.lemmas.Bool.{ne_eqb}
use Rattle.std.proofs.lemmas.List.{length-map, map-append}
use Rattle.device.specs.Layers.{Layer}
use Rattle.plain_machine.specs.declared.event.Event.{Event}
use Rattle.plain_machine.specs.declared.event.Event.TheVariants.{Issue, CopyRead, CopyWrite, ZeroNext, WriteArea, Publish, WriteInvalid, FlushStore, MergeGroup, MergeAreaRead, MergeRead, MergeWrite, MergeFlush, MergeCommit, MergeRelease}
use Rattle.plain_machine.specs.declared.event.Outcome.{Outcome}
use Rattle.plain_machine.specs.declared.event.Outcome.TheVariants.{Done, Fault, Reply as Replied}
use Rattle.plain_machine.specs.declared.request.Reply.{Reply}
use Rattle.plain_machine.specs.declared.request.Request.{Request}
use Rattle.plain_machine.specs.Plain.{InFlight, Entry as ShownEntry}
use Rattle.volume.specs.Shown.{shown_entry}
use Rattle.snapshot_list.specs.Numbers.{number_of_snap}
use Rattle.volume.specs.Volumed.{Volumed, plain_of}
use Rattle.in_flight.specs.Kinds.{in_flight}
use Rattle.sector.specs.declared.refusal.Refusal.{Refusal}
use Rattle.volume_laws.proofs.Refusing.{refused_in_flight}
use Rattle.volume.specs.Submitting.{IsRefusedAs, SameButRoom, IsFoundFull, IsOverflown}
use Rattle.volume.specs.Flying.{IsFlown}
use Rattle.audited_volume.specs.declared.entry.Entry.{Entry}
use Rattle.audited_volume.specs.declared.entry.Entry.TheVariants.{Answered, Spoiled}
use Rattle.audited_volume.specs.declared.entry.HeldRequest.{HeldRequest}
use Rattle.audited_volume.specs.declared.entry.Receipt.{Receipt}
use Rattle.audited_volume.specs.Books.{AuditShape, count_of, in_flight as held_in_flight}
use Rattle.audited_volume.specs.PlacesTaken.{HasReceipt, IsNoted, IsSilent, KeepsBase, OnlySpoils}
use Rattle.audited_volume.specs.Noted.{Noted}
use Rattle.audited_volume.specs.Seats.{IsUnanswered, Seated, flight_in, is_of, may_do, seated, seated_under, without_seated}
use Rattle.audited_volume.proofs.Replaying.{IsFirst, seated_first, seated_none, unseated_first}
use Rattle.audited_volume.proofs.Keeping.{answer_of}

-- a volume's snapshots, counted
pub saved_count : {B : Type 0} (contents : B → List ℕ) (layers : B → List Layer) (w : Volumed B) → length (plain_of contents layers w).saved ≡ length w.snaps
saved_count contents layers w = length-map w.snaps (shown_entry contents (contents w.origin))

pub snaps_same : {B : Type 0} (w w' : Volumed B) → map number_of_snap w'.snaps ≡ map number_of_snap w.snaps → length w'.snaps ≡ length w.snaps
snaps_same w w' numbers = sym (length-map w'.snaps number_of_snap) ∙ ap length numbers ∙ length-map w.snaps number_of_snap

pub saved_same : {B : Type 0} (contents : B → List ℕ) (layers : B → List Layer) (w w' : Volumed B) → map number_of_snap w'.snaps ≡ map number_of_snap w.snaps → length (plain_of contents layers w').saved ≡ length (plain_of contents layers w).saved
saved_same contents layers w w' numbers = saved_count contents layers w' ∙ snaps_same w w' numbers ∙ sym (saved_count contents layers w)

pub noted_all : {B : Type 0} (contents : B → List ℕ) (layers : B → List Layer) (w : Volumed B) (lives lives' : List Bool) (es es' : List Entry) → Noted (length w.snaps) (plain_of contents layers w).saved lives lives' es es'
    → Noted (length (plain_of contents layers w).saved) (plain_of contents layers w).saved lives lives' es es'
noted_all contents layers w lives lives' es es' noted = subst (λ (k : ℕ). Noted k (plain_of contents layers w).saved lives lives' es es') (sym (saved_count contents layers w)) noted

-- whether a request is a seat's
pub mine_none : (seat n : ℕ) (hs : List HeldRequest) (held : List Seated) → map seated hs ≡ held → ((j : ℕ) (d : HeldRequest) → j < length hs → (get_or hs j d).number ≢ n) → is_of seat (seated_under n held) ≡ false
mine_none seat n hs held same none = ap (λ (l : List Seated). is_of seat (seated_under n l)) (sym same) ∙ ap (is_of seat) (seated_none n hs none)

pub mine_is : (seat n : ℕ) (hs : List HeldRequest) (held : List Seated) (k : ℕ) (x : HeldRequest) → map seated hs ≡ held → IsFirst n hs k x → is_of seat (seated_under n held) ≡ (x.seat == seat)
mine_is seat n hs held k x same first = ap (λ (l : List Seated). is_of seat (seated_under n l)) (sym same) ∙ ap (is_of seat) (seated_first n hs k x first)

pub mine_other : (seat n : ℕ) (hs : List HeldRequest) (held : List Seated) (k : ℕ) (x : HeldRequest) → map seated hs ≡ held → IsFirst n hs k x → x.seat ≢ seat → is_of seat (seated_under n held) ≡ false
mine_other seat n hs held k x same first apart = mine_is seat n hs held k x same first ∙ ne_eqb x.seat seat apart

pub mine_own : (seat n : ℕ) (hs : List HeldRequest) (held : List Seated) (k : ℕ) (x : HeldRequest) → map seated hs ≡ held → IsFirst n hs k x → x.seat ≡ seat → is_of seat (seated_under n held) ≡ true
mine_own seat n hs held k x same first mine = mine_is seat n hs held k x same first ∙ eq-eqb x.seat seat mine

-- an event that is no Issue any seat may do
pub may_other : (seat : ℕ) (event : Event) (held : List Seated) → ((n : ℕ) → event ≢ Issue n) → may_do seat event held ≡ true
may_other seat (Issue n) held other = absurd (other n refl)
may_other seat (CopyRead n) held other = refl
may_other seat (CopyWrite n) held other = refl
may_other seat (ZeroNext n) held other = refl
may_other seat (WriteArea n) held other = refl
may_other seat (Publish n) held other = refl
may_other seat (WriteInvalid n) held other = refl
may_other seat (FlushStore n) held other = refl
may_other seat MergeGroup held other = refl
may_other seat MergeAreaRead held other = refl
may_other seat MergeRead held other = refl
may_other seat MergeWrite held other = refl
may_other seat MergeFlush held other = refl
may_other seat MergeCommit held other = refl
may_other seat MergeRelease held other = refl

-- and none is of a flush
pub none_unanswered : {E : Type 0} (event : Event) (result : Result (Outcome × Option Receipt) E) (held : List Seated) → ((n : ℕ) → event ≢ Issue n) → IfOk result (λ r. IsUnanswered event r.0 held)
none_unanswered event (Err e) held other = tt
none_unanswered event (Ok r) held other = of_none event r.0 held other
  where
    of_none : (event : Event) (outcome : Outcome) (held : List Seated) → ((n : ℕ) → event ≢ Issue n) → IsUnanswered event outcome held
    of_none (Issue n) outcome held other = absurd (other n refl)
    of_none (CopyRead n) outcome held other = tt
    of_none (CopyWrite n) outcome held other = tt
    of_none (ZeroNext n) outcome held other = tt
    of_none (WriteArea n) outcome held other = tt
    of_none (Publish n) outcome held other = tt
    of_none (WriteInvalid n) outcome held other = tt
    of_none (FlushStore n) outcome held other = tt
    of_none MergeGroup outcome held other = tt
    of_none MergeAreaRead outcome held other = tt
    of_none MergeRead outcome held other = tt
    of_none MergeWrite outcome held other = tt
    of_none MergeFlush outcome held other = tt
    of_none MergeCommit outcome held other = tt
    of_none MergeRelease outcome held other = tt

-- a reply's receipt
pub receipt_has : {B : Type 0} (old new : AuditShape B) (hs : List HeldRequest) (n m k seat count : ℕ) (x : HeldRequest) (reply : Reply) → m ≡ n → IsFirst n hs k x → x.seat ≡ seat → x.for_receipt ≡ x.for_entry
    → map seated hs ≡ old.held → new.held ≡ map seated (remove hs k) → count ≡ count_of seat old + 1 → new.entries ≡ old.entries ++ Answered (answer_of x seat reply) ∷ []
    → HasReceipt seat m reply (record { seat = seat; count = count; request = x.for_receipt; reply = reply }) old new
receipt_has old new hs n m k seat count x reply same first mine copied was now counted added = record {
  by = refl;
  answer = refl;
  asked = ap (λ (j : ℕ). seated_under j old.held) same ∙ ap (seated_under n) (sym was) ∙ seated_first n hs k x first ∙ (λ i. Some (record { number = (first.number ∙ sym same) i; seat = mine i; request = sym copied i }));
  gone = now ∙ sym (unseated_first n hs k x first) ∙ ap (without_seated n) was ∙ ap (λ (j : ℕ). without_seated j old.held) (sym same);
  count = counted;
  added = added ∙ ap (λ (y : Request). old.entries ++ Answered (record { seat = seat; request = y; reply = reply }) ∷ []) (sym copied);
}

-- spoils alone
pub only_spoils : {B : Type 0} (old new : AuditShape B) (n : ℕ) (saved : List ShownEntry) (lives lives' : List Bool) (es es' : List Entry) → Noted n saved lives lives' es es' → es ≡ old.entries → new.entries ≡ es' → OnlySpoils old new
only_spoils old new n saved lives lives' es es' noted was now = record { which = noted.which; entries = now ∙ noted.entries_are ∙ ap (λ (l : List Entry). l ++ map Spoiled noted.which) was }

pub none_new : {B : Type 0} (old new : AuditShape B) → new.entries ≡ old.entries → OnlySpoils old new
none_new old new same = record { which = []; entries = same ∙ sym (append_none old.entries) }
  where
    append_none : (l : List Entry) → l ++ [] ≡ l
    append_none [] = refl
    append_none (x ∷ l) = ap (λ (m : List Entry). x ∷ m) (append_none l)

pub silent_noted : {B : Type 0} (old new : AuditShape B) (seat : ℕ) (event : Event) (outcome : Outcome) (fl fl' : List InFlight) → ((n : ℕ) → event ≢ Issue n) → IsFlown event outcome fl fl' → IsSilent old new → IsNoted seat outcome None old new
silent_noted old new seat event (Replied n reply) fl fl' other flown s = absurd (other n flown.0)
silent_noted old new seat event Done fl fl' other flown s = s
silent_noted old new seat event Fault fl fl' other flown s = s

pub noted_any : {B : Type 0} (old new : AuditShape B) (seat seat' : ℕ) (outcome : Outcome) → IsNoted seat outcome None old new → IsNoted seat' outcome None old new
noted_any old new seat seat' (Replied n reply) s = absurd s
noted_any old new seat seat' Done s = s
noted_any old new seat seat' Fault s = s

-- what the journal began with, as callers see it
pub base_kept : {B : Type 0} (was old new : AuditShape B) → was ≡ old → KeepsBase was new → KeepsBase old new
base_kept was old new same kept = subst (λ (a : AuditShape _). KeepsBase a new) same kept

-- a request that is in flight now
pub held_more : (hs : List HeldRequest) (held : List Seated) (x : HeldRequest) (number seat : ℕ) (request : Request) → map seated hs ≡ held → x.number ≡ number → x.seat ≡ seat → x.for_entry ≡ request
    → map seated (hs ++ x ∷ []) ≡ held ++ record { number = number; seat = seat; request = request } ∷ []
held_more hs held x number seat request was numbered by asked =
    map-append seated hs (x ∷ []) ∙ (λ i. was i ++ record { number = numbered i; seat = by i; request = asked i } ∷ [])

-- a request that was refused is not in flight
pub refused_requests : {B : Type 0} (contents : B → List ℕ) (layers : B → List Layer) (size : B → ℕ) (request : Request) (refusal : Refusal) (w w' : Volumed B) → IsRefusedAs contents layers size request refusal w w'
    → map in_flight w'.flights ≡ map in_flight w.flights
refused_requests contents layers size request refusal w w' (inl same) = ap (λ (y : Volumed _). map in_flight y.flights) same.1
refused_requests contents layers size request refusal w w' (inr (inl same)) = let room : SameButRoom w w' = same.2 in ap (λ (y : Volumed _). map in_flight y.flights) room.becomes
refused_requests contents layers size request refusal w w' (inr (inr (inl full))) =
    let found : IsFoundFull contents layers full.2.0 _ w w' = full.2.2 in ap (λ (y : Volumed _). map in_flight y.flights) found.becomes ∙ refused_in_flight (full.2.0 ∷ []) w.flights
refused_requests contents layers size request refusal w w' (inr (inr (inr full))) = let found : IsOverflown contents layers full.2.0 _ w w' = full.2.2 in ap (λ (y : Volumed _). map in_flight y.flights) found.becomes

-- the requests that seats submitted, whoever they are
pub flights_in : (hs : List HeldRequest) → map flight_in (map seated hs) ≡ map held_in_flight hs
flights_in [] = refl
flights_in (h ∷ hs) = ap (λ (fs : List InFlight). held_in_flight h ∷ fs) (flights_in hs)
