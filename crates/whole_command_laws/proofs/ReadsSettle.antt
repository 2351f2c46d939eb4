-- A read of the origin or of a snapshot, submitted to a volume at rest, settles to the big step.
use Rattle.std.proofs.Common.{◌≡◌, inl, inr, ℕ, ◌+◌, ◌*◌, ◌/◌, ◌%◌, Bool, true, false, List, [], ◌∷◌, ◌++◌, length, map, Option, Some, None, refl, ap, ◌∙◌, sym, subst}
use Rattle.std.specs.Prelude.{◌==◌}
use Rattle.std.proofs.lemmas.Bool.{cases_Bool, cond-true, cond-false}
use Rattle.sector.specs.declared.range.Range.{Range}
use Rattle.device.specs.declared.operation.Operation.{Operation}
use Rattle.device.specs.declared.operation.Operation.TheVariants.{Reads}
use Rattle.chunk.specs.Pieces.{span_of}
use Rattle.plain_machine.specs.declared.request.Request.{Request}
use Rattle.plain_machine.specs.declared.request.Dev.TheVariants.{Origin as ToOrigin, Snap as ToSnap}
use Rattle.plain_machine.specs.declared.request.Op.TheVariants.{Read}
use Rattle.plain_machine.specs.declared.request.Reply.{Reply}
use Rattle.plain_machine.specs.declared.request.Reply.TheVariants.{Refused}
use Rattle.plain_machine.specs.declared.request.Failure.TheVariants.{Invalid}
use Rattle.cow_format.specs.Picture.{place_of}
use Rattle.cow_format.specs.Pairs.{pairs_of}
use Rattle.in_flight.specs.Routes.{read_route_of}
use Rattle.in_flight.specs.declared.flights.Route.{Route}
use Rattle.in_flight.specs.declared.flights.Route.TheVariants.{Origin, Store}
use Rattle.whole_commands.proofs.Laws.{option_cases}
use Rattle.whole_commands.specs.Devices.{Device, met, read_reply}
use Rattle.whole_commands.specs.Pieces.{Answered, read_origin, read_snap, read_place, in_snap}
use Rattle.event_machine.specs.Held.{SnapHeld, Going, MergeHeld, Moving, with_store}
use Rattle.event_machine.specs.Again.{merged_place}
use Rattle.event_machine.specs.Stepping.{for_some, answer, on_store}
use Rattle.event_machine.specs.Submitting.{submitted, accepted, declined, read_snap as submit_read}
use Rattle.event_machine.specs.Rest.{IsResting, IsAtRest}
use Rattle.event_machine.specs.Settles.{SettlesTo}
use Rattle.whole_commands.proofs.Each.{Each, each_weaker, each_from}
use Rattle.event_machine.proofs.Lists.{here_that}
use Rattle.whole_command_laws.proofs.Goes.{Goes, goes_none}
use Rattle.event_machine.proofs.Around.{at, at_with, at_alone, IsIdle}
use Rattle.whole_command_laws.proofs.Stages.{put_here}
use Rattle.whole_command_laws.proofs.Primed.{resting_idle}
use Rattle.event_machine.proofs.Found.{split_at, none_that, served_nowhere}
use Rattle.whole_command_laws.proofs.Issued.{mine_of, issued, answered_here, Serves, serves_there, serves_settles}
use Rattle.whole_command_laws.proofs.Served.{snap_of, each_here, served_by}
use Rattle.whole_commands.specs.Snaps.{Volume}

pub goes_to : {starts : Moving → Moving} → (u v w : Moving) → Goes starts u v → v ≡ w → Goes starts u w
goes_to {starts} u v w goes same = subst (Goes starts u) same goes

-- the request
abbrev pub read_request : Range → Request
read_request range = record { dev = ToOrigin; op = Read; range = range }

-- beside a merge that has no place of its chunk
pub origin_read_serves : (g : Option MergeHeld) (sectors number : ℕ) (range : Range) (origin : Device) (snaps : List SnapHeld) (a : Option Reply) (k : ℕ) → merged_place g range.first ≡ None → length origin.bytes ≡ 512 * sectors → Each (IsResting sectors) snaps →
    Serves sectors g (submitted number (read_request range) (at_with g origin snaps [] a k)) (read_origin (span_of range) (record { origin = origin; snaps = map snap_of snaps }))
origin_read_serves g sectors number range origin snaps a k unplaced whole resting =
    let r : Going = record { number = number; request = read_request range; route = Origin } in
    let after : Device = met origin (Reads range.first range.count) in
    let reply : Reply = read_reply origin range.first range.count in
    serves_there sectors g (submitted number (read_request range) (at_with g origin snaps [] a k)) (at_with g origin snaps (r ∷ []) a k) after snaps reply k
    (read_origin (span_of range) (record { origin = origin; snaps = map snap_of snaps }))
    (ap (λ o. accepted number (read_request range) (read_route_of o) (at_with g origin snaps [] a k)) unplaced)
    (goes_to _ _ _ (issued g origin snaps r a k (each_weaker (IsResting sectors) IsIdle snaps (resting_idle sectors) resting) refl)
    (answered_here g after snaps r reply a k))
    whole resting refl

pub origin_read_settles : (sectors number : ℕ) (range : Range) (v : Moving) → IsAtRest sectors v → SettlesTo sectors (submitted number (read_request range) v) (read_origin (span_of range) (record { origin = v.origin; snaps = map snap_of v.snaps }))
origin_read_settles sectors number range v rest =
    let answer : Answered Volume = read_origin (span_of range) (record { origin = v.origin; snaps = map snap_of v.snaps }) in
    let Settles : Moving → Type 0 = λ (w : Moving). SettlesTo sectors (submitted number (read_request range) w) answer in
    subst Settles (sym (at_alone v rest.alone))
    (subst (λ (rs : List Going). Settles (at v.origin v.snaps rs v.replied v.started)) (sym rest.requests)
    (serves_settles sectors _ answer (origin_read_serves None sectors number range v.origin v.snaps v.replied v.started refl rest.whole (each_from (IsResting sectors) v.snaps rest.snaps))))

-- an operation that changes no byte of the store
pub met_rests : (sectors : ℕ) (h : SnapHeld) (op : Operation) → IsResting sectors h → IsResting sectors (with_store h (met h.snap.store op))
met_rests sectors h op rest = record {
  tried = rest.tried;
  copies = rest.copies;
  marks = rest.marks;
  live = λ live. (let kept = rest.live live in record { order = kept.order; pairs = kept.pairs; next = kept.next; zeroed = kept.zeroed; firm = kept.firm; unmarked = kept.unmarked });
}

abbrev pub snap_read_request : ℕ → Range → Request
snap_read_request n range = record { dev = ToSnap n; op = Read; range = range }

module _ (g : Option MergeHeld) (sectors number n : ℕ) (range : Range) (origin : Device) (a : Option Reply) (k : ℕ) (whole : length origin.bytes ≡ 512 * sectors) where
  abbrev pub read_begun : List SnapHeld → Moving
  read_begun snaps = submitted number (snap_read_request n range) (at_with g origin snaps [] a k)

  abbrev pub ReadServes : List SnapHeld → Type 0
  ReadServes snaps = Serves sectors g (read_begun snaps) (in_snap n (read_snap (span_of range)) origin (map snap_of snaps))

  abbrev pub is_this : SnapHeld → Bool
  is_this h = h.snap.number == n

  nowhere : (snaps : List SnapHeld) → Each (IsResting sectors) snaps → Each (λ h. is_this h ≡ false) snaps → ReadServes snaps
  nowhere snaps rest none =
      serves_there sectors g (read_begun snaps) (at_with g origin snaps [] (Some (Refused Invalid)) k) origin snaps (Refused Invalid) k _
      (ap (λ o. for_some o (λ h. submit_read number (snap_read_request n range) h (at_with g origin snaps [] a k)) (declined Invalid (at_with g origin snaps [] a k))) (none_that is_this snaps none))
      (goes_none _) whole rest (served_nowhere n (read_snap (span_of range)) origin snaps none)

  module _ (done rest : List SnapHeld) (h : SnapHeld) (all : Each (IsResting sectors) (done ++ h ∷ rest)) (before : Each (λ d. is_this d ≡ false) done) (pass : is_this h ≡ true) where
    here : IsResting sectors h
    here = each_here (IsResting sectors) done rest h all

    idle : Each IsIdle (done ++ h ∷ rest)
    idle = each_weaker (IsResting sectors) IsIdle (done ++ h ∷ rest) (resting_idle sectors) all

    begun : read_begun (done ++ h ∷ rest) ≡ submit_read number (snap_read_request n range) h (at_with g origin (done ++ h ∷ rest) [] a k)
    begun = ap (λ o. for_some o (λ x. submit_read number (snap_read_request n range) x (at_with g origin (done ++ h ∷ rest) [] a k)) (declined Invalid (at_with g origin (done ++ h ∷ rest) [] a k))) (here_that is_this done rest h before pass)

    abbrev routed : Route → Going
    routed route = record { number = number; request = snap_read_request n range; route = route }

    -- a snapshot that is not live
    read_dead : h.snap.live ≡ false → ReadServes (done ++ h ∷ rest)
    read_dead out =
        served_by sectors g n (read_snap (span_of range)) origin origin done rest h h (Refused Invalid) k _ (at_with g origin (done ++ h ∷ rest) [] (Some (Refused Invalid)) k) before pass all here whole
        (cond-false _ _ _ out) (begun ∙ cond-false _ _ _ out) (goes_none _)

    chunk_at_place : h.snap.live ≡ true → place_of (pairs_of h.snap.chunk h.snap.store.bytes) (range.first / h.snap.chunk) ≡ place_of h.pairs (range.first / h.snap.chunk)
    chunk_at_place on = ap (λ ps. place_of ps (range.first / h.snap.chunk)) (here.live on).pairs

    routed_as : (o : Option ℕ) → h.snap.live ≡ true → place_of h.pairs (range.first / h.snap.chunk) ≡ o → read_begun (done ++ h ∷ rest) ≡ at_with g origin (done ++ h ∷ rest) (routed (read_route_of o) ∷ []) a k
    routed_as o on is = begun ∙ cond-true _ _ _ on ∙ ap (λ x. at_with g origin (done ++ h ∷ rest) (routed (read_route_of x) ∷ []) a k) is

    served_as : (o : Option ℕ) → h.snap.live ≡ true → place_of h.pairs (range.first / h.snap.chunk) ≡ o → read_snap (span_of range) origin h.snap ≡ read_place (span_of range) origin h.snap o
    served_as o on is = cond-true _ _ _ on ∙ ap (read_place (span_of range) origin h.snap) (chunk_at_place on ∙ is)

    read_origin_disk : h.snap.live ≡ true → place_of h.pairs (range.first / h.snap.chunk) ≡ None → ReadServes (done ++ h ∷ rest)
    read_origin_disk on none =
        let after : Device = met origin (Reads range.first range.count) in
        let reply : Reply = read_reply origin range.first range.count in
        served_by sectors g n (read_snap (span_of range)) origin after done rest h h reply k _ (at_with g origin (done ++ h ∷ rest) (routed Origin ∷ []) a k) before pass all here whole
        (served_as None on none) (routed_as None on none)
        (goes_to _ _ _ (issued g origin (done ++ h ∷ rest) (routed Origin) a k idle refl) (answered_here g after (done ++ h ∷ rest) (routed Origin) reply a k))

    read_store : (place : ℕ) → h.snap.live ≡ true → place_of h.pairs (range.first / h.snap.chunk) ≡ Some place → ReadServes (done ++ h ∷ rest)
    read_store place on some =
        let first : ℕ = h.snap.chunk * place + range.first % h.snap.chunk in
        let now : SnapHeld = with_store h (met h.snap.store (Reads first range.count)) in
        let reply : Reply = read_reply h.snap.store first range.count in
        let r : Going = routed (Store place) in
        let v : Moving = at_with g origin (done ++ h ∷ rest) (r ∷ []) a k in
        served_by sectors g n (read_snap (span_of range)) origin origin done rest h now reply k _ v before pass all (met_rests sectors h (Reads first range.count) here) whole
        (served_as (Some place) on some) (routed_as (Some place) on some)
        (goes_to _ _ _ (issued g origin (done ++ h ∷ rest) r a k idle refl)
        (ap (λ o. for_some o (λ x. on_store Read (x.snap.chunk * place + range.first % x.snap.chunk) range.count (mine_of r) is_this x v) v) (here_that is_this done rest h before pass)
        ∙ ap (answer (mine_of r) reply) (put_here g origin done rest (r ∷ []) a k is_this h before pass now)
        ∙ answered_here g origin (done ++ now ∷ rest) r reply a k))

    read_here : ReadServes (done ++ h ∷ rest)
    read_here = elim (cases_Bool h.snap.live) [
      | inr out ↦ read_dead out
      | inl on ↦ elim (option_cases (place_of h.pairs (range.first / h.snap.chunk))) [ inl none ↦ read_origin_disk on none | inr some ↦ read_store some.0 on some.1 ]
    ]

  pub snap_read_serves : (snaps : List SnapHeld) → Each (IsResting sectors) snaps → ReadServes snaps
  snap_read_serves snaps rest = elim (split_at is_this snaps) [
    | inl none ↦ nowhere snaps rest none
    | inr s ↦ subst ReadServes (sym s.is) (read_here s.done s.rest s.here (subst (Each (IsResting sectors)) s.is rest) s.before s.pass)
  ]

pub snap_read_settles : (sectors number n : ℕ) (range : Range) (v : Moving) → IsAtRest sectors v → SettlesTo sectors (submitted number (snap_read_request n range) v) (in_snap n (read_snap (span_of range)) v.origin (map snap_of v.snaps))
snap_read_settles sectors number n range v rest =
    let answer : Answered Volume = in_snap n (read_snap (span_of range)) v.origin (map snap_of v.snaps) in
    let Settles : Moving → Type 0 = λ (w : Moving). SettlesTo sectors (submitted number (snap_read_request n range) w) answer in
    subst Settles (sym (at_alone v rest.alone))
    (subst (λ (rs : List Going). Settles (at v.origin v.snaps rs v.replied v.started)) (sym rest.requests)
    (serves_settles sectors _ answer (snap_read_serves None sectors number n range v.origin v.replied v.started rest.whole v.snaps (each_from (IsResting sectors) v.snaps rest.snaps))))
