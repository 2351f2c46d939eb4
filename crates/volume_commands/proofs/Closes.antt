-- What callers ask of a volume between two commands, and how it is closed.
use Rattle.std.proofs.Common.{◌≡◌, ◌⊎◌, inl, inr, ℕ, true, false, List, [], ◌∷◌, length, get_or, map, Option, Some, None, refl, sym, ◌∙◌, ap, arith}
use Rattle.std.specs.Prelude.{◌==◌, ◌&&◌, not, is_some, if◌then◌else◌}
use Rattle.std.specs.List.{list_all}
use Rattle.std.proofs.lemmas.Bool.{cond-false}
use Rattle.std.proofs.lemmas.List.Quantifiers.{position-Some}
use Rattle.sector.specs.declared.refusal.Refusal.{Refusal}
use Rattle.sector.specs.declared.refusal.Refusal.TheVariants.{Busy, NotQuiet}
use Rattle.in_flight.specs.declared.flights.Flight.{Flight}
use Rattle.snapshot.specs.Kept.{Kept}
use Rattle.merge.specs.Merging.{Merging}
use Rattle.volume.specs.Volumed.{Volumed}
use Rattle.snapshot_list.specs.Finding.{place_of_snap}
use Rattle.volume.specs.Leaving.{has_group_in, is_done_of, is_quiet_of, close_refusal}
use Rattle.volume_commands.specs.Rested.{attached_of, rested_of, snap_at}
use Rattle.volume_commands.proofs.Leaves.{at_place}

-- the snapshot that is found
pub found_snap : {B : Type 0} (n k : ℕ) (d : Kept B) (v : Volumed B) → place_of_snap n v.snaps ≡ Some k → snap_at n (rested_of v).snaps ≡ Some (attached_of (get_or v.snaps k d))
found_snap n k d v e =
    let found = position-Some (λ (s : Kept _). s.number == n) v.snaps k d e in
    (at_place n d v.snaps k found.0 found.1 found.2).0

refused_as : {B : Type 0} (snaps : List (Kept B)) (merge : Option (Merging B)) (flights : List Flight) → Option Refusal
refused_as snaps merge flights = if (length snaps == 0) && not (is_some merge) then (if length flights == 0 then None else Some NotQuiet) else Some Busy

-- a snapshot is attached, or a merge is begun
busy_snap : {B : Type 0} (s : Kept B) (snaps : List (Kept B)) (merge : Option (Merging B)) (flights : List Flight) → refused_as (s ∷ snaps) merge flights ≡ Some Busy
unfolding refused_as
busy_snap s snaps merge flights = (let some : (length (s ∷ snaps) == 0) ≡ false = search (arith) in ap (λ b. if b && not (is_some merge) then (if length flights == 0 then None else Some NotQuiet) else Some Busy) some)

busy_merge : {B : Type 0} (m : Merging B) (flights : List Flight) → refused_as [] (Some m) flights ≡ Some Busy
unfolding refused_as
busy_merge m flights = refl

-- or a request is in flight
flies : (B : Type 0) (f : Flight) (flights : List Flight) → refused_as {B = B} [] None (f ∷ flights) ≡ Some NotQuiet
unfolding refused_as
flies B f flights = (let some : (length (f ∷ flights) == 0) ≡ false = search (arith) in cond-false _ _ _ some)

-- or nothing at all
nothing : (B : Type 0) → refused_as {B = B} [] None [] ≡ None
unfolding refused_as
nothing B = refl

-- where it is closed it has none of them
none_left : {B : Type 0} (snaps : List (Kept B)) (merge : Option (Merging B)) (flights : List Flight) → refused_as snaps merge flights ≡ None → (snaps ≡ []) × (merge ≡ None) × (flights ≡ [])
none_left [] None [] e = (refl, refl, refl)
none_left {B = B} [] None (f ∷ flights) e = absurd (let got = sym (flies B f flights) ∙ e in cc)
none_left [] (Some m) flights e = absurd (let got = sym (busy_merge m flights) ∙ e in cc)
none_left (s ∷ snaps) merge flights e = absurd (let got = sym (busy_snap s snaps merge flights) ∙ e in cc)

-- why it is not
abbrev pub WhyOpen : {B : Type 0} → Volumed B → Refusal → Type 0
WhyOpen v refusal = ((refusal ≡ Busy) × (((rested_of v).snaps ≡ [] → ⊥) ⊎ (is_some v.merge ≡ true))) ⊎ ((refusal ≡ NotQuiet) × ((rested_of v).snaps ≡ []) × (v.merge ≡ None) × (is_quiet_of v ≡ false))

open_as : {B : Type 0} (v : Volumed B) (snaps : List (Kept B)) (merge : Option (Merging B)) (flights : List Flight) (refusal : Refusal) → v.snaps ≡ snaps → v.merge ≡ merge → v.flights ≡ flights → refused_as snaps merge flights ≡ Some refusal → WhyOpen v refusal
open_as {B = B} v [] None [] refusal snaps begun flights e = absurd (let none : None ≡ Some refusal = sym (nothing B) ∙ e in cc)
open_as {B = B} v [] None (f ∷ rest) refusal snaps begun flights e =
    let got : Some NotQuiet ≡ Some refusal = sym (flies B f rest) ∙ e in
    let same : refusal ≡ NotQuiet = cc in
    let some : (length (f ∷ rest) == 0) ≡ false = search (arith) in
    let busy : (length v.flights == 0) ≡ false = ap (λ (fs : List Flight). length fs == 0) flights ∙ some in
    inr (same, ap (map attached_of) snaps, begun, ap (λ b. b && (not (has_group_in v.merge) && list_all is_done_of v.snaps)) busy)
open_as v [] (Some m) flights' refusal snaps begun flights e =
    let got : Some Busy ≡ Some refusal = sym (busy_merge m flights') ∙ e in
    let same : refusal ≡ Busy = cc in
    inl (same, inr (ap is_some begun))
open_as v (s ∷ rest) merge flights' refusal snaps begun flights e =
    let got : Some Busy ≡ Some refusal = sym (busy_snap s rest merge flights') ∙ e in
    let same : refusal ≡ Busy = cc in
    let there : map attached_of v.snaps ≡ attached_of s ∷ map attached_of rest = ap (map attached_of) snaps in
    inl (same, inl (λ empty. (let two : attached_of s ∷ map attached_of rest ≡ [] = sym there ∙ empty in cc)))

pub closed : {B : Type 0} (v : Volumed B) → close_refusal v ≡ None → ((rested_of v).snaps ≡ []) × (v.merge ≡ None) × (is_quiet_of v ≡ true)
unfolding refused_as
closed v e =
    let none = none_left v.snaps v.merge v.flights e in (
      ap (map attached_of) none.0,
      none.1,
      ap (λ (fs : List Flight). (length fs == 0) && (not (has_group_in v.merge) && list_all is_done_of v.snaps)) none.2
          ∙ ap (λ m. not (has_group_in m) && list_all is_done_of v.snaps) none.1
          ∙ ap (list_all is_done_of) none.0,
    )

pub not_closed : {B : Type 0} (v : Volumed B) → (refusal : Refusal) → close_refusal v ≡ Some refusal → WhyOpen v refusal
unfolding refused_as
not_closed v refusal e = open_as v v.snaps v.merge v.flights refusal refl refl refl e
