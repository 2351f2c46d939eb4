-- A flush of the origin or of a snapshot, submitted to a volume at rest, settles to the big step.
use Rattle.std.proofs.Common.{◌≡◌, inl, inr, ℕ, ◌*◌, Bool, true, false, List, [], ◌∷◌, ◌++◌, length, map, Option, Some, None, refl, ap, ◌∙◌, sym, subst}
use Rattle.std.specs.Prelude.{◌==◌}
use Rattle.std.proofs.lemmas.Bool.{cases_Bool, cond-true, cond-false}
use Rattle.sector.specs.declared.range.Range.{Range}
use Rattle.device.specs.declared.operation.Operation.TheVariants.{Flushes}
use Rattle.plain_machine.specs.Kept.{kept}
use Rattle.plain_machine.specs.declared.request.Request.{Request}
use Rattle.plain_machine.specs.declared.request.Dev.{Dev}
use Rattle.plain_machine.specs.declared.request.Dev.TheVariants.{Origin as ToOrigin, Snap as ToSnap}
use Rattle.plain_machine.specs.declared.request.Op.TheVariants.{Flush}
use Rattle.plain_machine.specs.declared.request.Reply.{Reply}
use Rattle.plain_machine.specs.declared.request.Reply.TheVariants.{Flushed, Refused}
use Rattle.plain_machine.specs.declared.request.Failure.TheVariants.{Invalid, Io}
use Rattle.in_flight.specs.Flushed.{safe_mark}
use Rattle.in_flight.specs.declared.flights.Route.TheVariants.{Origin, Whole}
use Rattle.whole_commands.specs.Devices.{Device, answers, met, flush_reply}
use Rattle.whole_commands.specs.Snaps.{Snap, Volume}
use Rattle.whole_commands.specs.Pieces.{Answered, flush_origin, flush_snap, in_snap}
use Rattle.event_machine.specs.Held.{SnapHeld, Going, MergeHeld, Moving, with_store, flushed_copying, flushed_held}
use Rattle.event_machine.specs.Stepping.{for_some, put, answer, flush_asked}
use Rattle.event_machine.specs.Submitting.{submitted, declined, flush_snap as submit_flush}
use Rattle.event_machine.specs.Rest.{IsResting, IsAtRest}
use Rattle.event_machine.specs.Settles.{SettlesTo}
use Rattle.whole_commands.proofs.Each.{Each, each_weaker, each_from}
use Rattle.event_machine.proofs.Lists.{here_that}
use Rattle.whole_command_laws.proofs.Goes.{no_start, Goes, goes_none}
use Rattle.event_machine.proofs.Around.{at, at_with, at_alone, IsIdle}
use Rattle.whole_command_laws.proofs.Stages.{put_here}
use Rattle.whole_command_laws.proofs.Primed.{resting_idle}
use Rattle.event_machine.proofs.Found.{split_at, none_that, served_nowhere}
use Rattle.whole_command_laws.proofs.Issued.{mine_of, issued, answered_here, Serves, serves_there, serves_settles}
use Rattle.whole_command_laws.proofs.ReadsSettle.{goes_to, met_rests}
use Rattle.whole_command_laws.proofs.Served.{snap_of, each_here, served_by}
use Rattle.whole_commands.specs.Saving.{Saving}

-- the request
abbrev pub flush_request : Dev → Range → Request
flush_request dev range = record { dev = dev; op = Flush; range = range }

-- of the origin, where no merge is begun
pub origin_flush_settles : (sectors number : ℕ) (range : Range) (v : Moving) → IsAtRest sectors v → SettlesTo sectors (submitted number (flush_request ToOrigin range) v) (flush_origin (record { origin = v.origin; snaps = map snap_of v.snaps }))
origin_flush_settles sectors number range v rest =
    let answered : Answered Volume = flush_origin (record { origin = v.origin; snaps = map snap_of v.snaps }) in
    let Settles : Moving → Type 0 = λ (w : Moving). SettlesTo sectors (submitted number (flush_request ToOrigin range) w) answered in
    let all : Each (IsResting sectors) v.snaps = each_from (IsResting sectors) v.snaps rest.snaps in
    let r : Going = record { number = number; request = kept (flush_request ToOrigin range); route = Origin } in
    let after : Device = met v.origin Flushes in
    let begun : Moving = at v.origin v.snaps [] v.replied v.started in
    subst Settles (sym (at_alone v rest.alone))
    (subst (λ (rs : List Going). Settles (at v.origin v.snaps rs v.replied v.started)) (sym rest.requests)
    (serves_settles sectors _ answered
    (serves_there sectors None (submitted number (flush_request ToOrigin range) begun) (at_with None v.origin v.snaps (r ∷ []) v.replied v.started) after v.snaps (flush_reply v.origin) v.started answered
    refl
    (goes_to _ _ _ (issued None v.origin v.snaps r v.replied v.started (each_weaker (IsResting sectors) IsIdle v.snaps (resting_idle sectors) all) refl) (answered_here None after v.snaps r (flush_reply v.origin) v.replied v.started))
    rest.whole all refl)))

-- a flush of a store changes no byte of it, and nothing was waiting for it
flush_rests : (sectors : ℕ) (h : SnapHeld) → IsResting sectors h → IsResting sectors (flushed_held (with_store h (met h.snap.store Flushes)))
flush_rests sectors h rest = record {
  tried = rest.tried;
  copies = ap (map flushed_copying) rest.copies;
  marks = ap (map safe_mark) rest.marks;
  live = λ live. (let kept = rest.live live in record { order = kept.order; pairs = kept.pairs; next = kept.next; zeroed = kept.zeroed; firm = kept.zeroed; unmarked = kept.unmarked });
}

-- of a snapshot, beside a merge or without one
module _ (g : Option MergeHeld) (sectors number n : ℕ) (range : Range) (origin : Device) (a : Option Reply) (k : ℕ) (whole : length origin.bytes ≡ 512 * sectors) where
  abbrev pub flush_begun : List SnapHeld → Moving
  flush_begun snaps = submitted number (flush_request (ToSnap n) range) (at_with g origin snaps [] a k)

  abbrev pub FlushServes : List SnapHeld → Type 0
  FlushServes snaps = Serves sectors g (flush_begun snaps) (in_snap n flush_snap origin (map snap_of snaps))

  abbrev pub is_this : SnapHeld → Bool
  is_this h = h.snap.number == n

  -- the request in flight
  abbrev pub flying : Going
  flying = record { number = number; request = kept (flush_request (ToSnap n) range); route = Whole }

  abbrev entered : SnapHeld → Moving → Moving
  entered h v = submit_flush number (kept (flush_request (ToSnap n) range)) h v

  nowhere : (snaps : List SnapHeld) → Each (IsResting sectors) snaps → Each (λ h. is_this h ≡ false) snaps → FlushServes snaps
  nowhere snaps rest none =
      serves_there sectors g (flush_begun snaps) (at_with g origin snaps [] (Some (Refused Invalid)) k) origin snaps (Refused Invalid) k _
      (ap (λ o. for_some o (λ h. entered h (at_with g origin snaps [] a k)) (declined Invalid (at_with g origin snaps [] a k))) (none_that is_this snaps none))
      (goes_none _) whole rest (served_nowhere n flush_snap origin snaps none)

  module _ (done rest : List SnapHeld) (h : SnapHeld) (all : Each (IsResting sectors) (done ++ h ∷ rest)) (before : Each (λ d. is_this d ≡ false) done) (pass : is_this h ≡ true) where
    here : IsResting sectors h
    here = each_here (IsResting sectors) done rest h all

    idle : Each IsIdle (done ++ h ∷ rest)
    idle = each_weaker (IsResting sectors) IsIdle (done ++ h ∷ rest) (resting_idle sectors) all

    begun : flush_begun (done ++ h ∷ rest) ≡ entered h (at_with g origin (done ++ h ∷ rest) [] a k)
    begun = ap (λ o. for_some o (λ x. entered x (at_with g origin (done ++ h ∷ rest) [] a k)) (declined Invalid (at_with g origin (done ++ h ∷ rest) [] a k))) (here_that is_this done rest h before pass)

    -- a snapshot that is not live
    flush_dead : h.snap.live ≡ false → FlushServes (done ++ h ∷ rest)
    flush_dead out =
        served_by sectors g n flush_snap origin origin done rest h h (Refused Invalid) k _ (at_with g origin (done ++ h ∷ rest) [] (Some (Refused Invalid)) k) before pass all here whole
        (cond-false _ _ _ out) (begun ∙ cond-false _ _ _ out) (goes_none _)

    abbrev in_flight : Moving
    in_flight = at_with g origin (done ++ h ∷ rest) (flying ∷ []) a k

    abbrev met_here : SnapHeld
    met_here = with_store h (met h.snap.store Flushes)

    -- its event leaves this of the snapshot, with this reply
    flush_met : h.snap.live ≡ true → (now : SnapHeld) (reply : Reply) → now.snap ≡ met_here.snap → flush_reply h.snap.store ≡ reply → IsResting sectors now → flush_asked (mine_of flying) is_this h in_flight ≡ answer (mine_of flying) reply (put is_this now in_flight) → FlushServes (done ++ h ∷ rest)
    flush_met on now reply snap same resting is =
        let made : Snap → Reply → Answered Saving = λ (s : Snap) (r : Reply). record { state = record { origin = origin; snap = s }; reply = r } in
        served_by sectors g n flush_snap origin origin done rest h now reply k _ in_flight before pass all resting whole
        (cond-true _ _ _ on ∙ ap (made met_here.snap) same ∙ ap (λ s. made s reply) (sym snap))
        (begun ∙ cond-true _ _ _ on)
        (goes_to _ _ _ (issued g origin (done ++ h ∷ rest) flying a k idle refl)
        (ap (λ o. for_some o (λ x. flush_asked (mine_of flying) is_this x in_flight) in_flight) (here_that is_this done rest h before pass) ∙ is
        ∙ ap (answer (mine_of flying) reply) (put_here g origin done rest (flying ∷ []) a k is_this h before pass now)
        ∙ answered_here g origin (done ++ now ∷ rest) flying reply a k))

    flush_live : h.snap.live ≡ true → FlushServes (done ++ h ∷ rest)
    flush_live on = elim (cases_Bool (answers h.snap.store Flushes)) [
      | inl ok ↦ flush_met on (flushed_held met_here) Flushed refl (cond-true _ _ _ ok) (flush_rests sectors h here) (cond-true _ _ _ ok)
      | inr failed ↦ flush_met on met_here (Refused Io) refl (cond-false _ _ _ failed) (met_rests sectors h Flushes here) (cond-false _ _ _ failed)
    ]

    flush_here : FlushServes (done ++ h ∷ rest)
    flush_here = elim (cases_Bool h.snap.live) [
      | inr out ↦ flush_dead out
      | inl on ↦ flush_live on
    ]

  pub snap_flush_serves : (snaps : List SnapHeld) → Each (IsResting sectors) snaps → FlushServes snaps
  snap_flush_serves snaps rest = elim (split_at is_this snaps) [
    | inl none ↦ nowhere snaps rest none
    | inr s ↦ subst FlushServes (sym s.is) (flush_here s.done s.rest s.here (subst (Each (IsResting sectors)) s.is rest) s.before s.pass)
  ]

pub snap_flush_settles : (sectors number n : ℕ) (range : Range) (v : Moving) → IsAtRest sectors v → SettlesTo sectors (submitted number (flush_request (ToSnap n) range) v) (in_snap n flush_snap v.origin (map snap_of v.snaps))
snap_flush_settles sectors number n range v rest =
    let answered : Answered Volume = in_snap n flush_snap v.origin (map snap_of v.snaps) in
    let Settles : Moving → Type 0 = λ (w : Moving). SettlesTo sectors (submitted number (flush_request (ToSnap n) range) w) answered in
    subst Settles (sym (at_alone v rest.alone))
    (subst (λ (rs : List Going). Settles (at v.origin v.snaps rs v.replied v.started)) (sym rest.requests)
    (serves_settles sectors _ answered (snap_flush_serves None sectors number n range v.origin v.replied v.started rest.whole v.snaps (each_from (IsResting sectors) v.snaps rest.snaps))))
