-- An origin write, event by event: its chunk is saved in each snapshot while it is held, and then the write itself.
use Rattle.std.proofs.Common.{◌≡◌, inl, inr, ℕ, ◌/◌, Bool, true, false, List, [], ◌∷◌, ◌++◌, map, Option, Some, None, refl, ap, ◌∙◌, sym, eq-eqb}
use Rattle.std.specs.Prelude.{◌==◌, ◌||◌}
use Rattle.std.proofs.lemmas.Bool.{cases_Bool, cond-true, cond-false}
use Rattle.sector.specs.Bytes.{with_sectors}
use Rattle.sector.specs.declared.range.Range.{Range}
use Rattle.device.specs.declared.operation.Operation.TheVariants.{Writes}
use Rattle.plain_machine.specs.declared.event.Event.TheVariants.{Issue}
use Rattle.plain_machine.specs.declared.request.Request.{Request}
use Rattle.plain_machine.specs.declared.request.Dev.TheVariants.{Origin as ToOrigin}
use Rattle.plain_machine.specs.declared.request.Op.TheVariants.{Write}
use Rattle.plain_machine.specs.declared.request.Reply.{Reply}
use Rattle.in_flight.specs.Routes.{write_route_of}
use Rattle.in_flight.specs.declared.flights.Route.{Route}
use Rattle.in_flight.specs.declared.flights.Route.TheVariants.{Held as Waits, Origin}
use Rattle.whole_commands.specs.Devices.{Device, written_by}
use Rattle.event_machine.specs.Held.{SnapHeld, Going, MergeHeld, Moving, is_untried}
use Rattle.event_machine.specs.Again.{again, is_saved, is_clear, is_grouped, merged_place, write_route}
use Rattle.event_machine.specs.Stepping.{for_some, issue, write_reply}
use Rattle.event_machine.proofs.Lists.{same_number}
use Rattle.whole_commands.proofs.Each.{Each, each_weaker}
use Rattle.whole_command_laws.proofs.Goes.{no_start, Goes, goes_by}
use Rattle.event_machine.proofs.Around.{at_with, IsIdle, due_request}
use Rattle.whole_command_laws.proofs.Ends.{IsUnread, requests_after}
use Rattle.event_machine.proofs.Clears.{and_last, unclear_unsaved, unclear_untried, clear_all}
use Rattle.whole_command_laws.proofs.SavesSettle.{goes_between, AreRouted, with_requests}

module _ (g : Option MergeHeld) (sectors number : ℕ) (range : Range) (ungrouped : is_grouped g range.first ≡ false) (unplaced : merged_place g range.first ≡ None) (bytes : List ℕ) (a : Option Reply) (k : ℕ) where
  abbrev pub request : Request
  request = record { dev = ToOrigin; op = Write bytes; range = range }

  abbrev pub going : Route → Going
  going route = record { number = number; request = request; route = route }

  abbrev pub route_for : List SnapHeld → Route
  route_for snaps = write_route g snaps range.first

  routed_by : (snaps : List SnapHeld) → route_for snaps ≡ write_route_of false None (is_clear snaps range.first)
  routed_by snaps = ap (λ b. write_route_of b (merged_place g range.first) (is_clear snaps range.first)) ungrouped ∙ ap (λ o. write_route_of false o (is_clear snaps range.first)) unplaced

  -- that write in flight, routed by the snapshots
  abbrev pub held_write : List SnapHeld → List Going
  held_write snaps = going (route_for snaps) ∷ []

  unread : (route : Route) → IsUnread (going route ∷ [])
  unread route h c = ap (λ b. b || false) (and_last ((range.first / h.snap.chunk) == c) false refl)

  held_here : (snaps : List SnapHeld) → is_clear snaps range.first ≡ false → held_write snaps ≡ going Waits ∷ []
  held_here snaps e = ap (λ r. going r ∷ []) (routed_by snaps ∙ ap (write_route_of false None) e)

  routed_again : (snaps : List SnapHeld) (h : SnapHeld) → requests_after g snaps h (going Waits ∷ []) ≡ held_write snaps
  routed_again snaps h = elim (cases_Bool h.snap.live) [
    | inl on ↦ ap (λ (f : Going → Going). map (again g snaps) (map f (going Waits ∷ []))) (cond-true _ _ _ on)
    | inr out ↦ ap (λ (f : Going → Going). map (again g snaps) (map f (going Waits ∷ []))) (cond-false _ _ _ out)
  ]

  pub write_routed : AreRouted g range.first held_write
  write_routed = record {
    unread = λ snaps. unread (route_for snaps);
    tried = λ done rest h after is. ap (map (again g (done ++ after ∷ rest))) (held_here (done ++ h ∷ rest) (unclear_untried range.first done rest h is));
    marked = λ done rest h after is still. held_here (done ++ h ∷ rest) (unclear_untried range.first done rest h is) ∙ sym (held_here (done ++ after ∷ rest) (unclear_untried range.first done rest after still));
    saved = λ done rest h after is. ap (requests_after g (done ++ after ∷ rest) after) (held_here (done ++ h ∷ rest) (unclear_unsaved range.first done rest h is)) ∙ routed_again (done ++ after ∷ rest) after;
  }

  -- the volume with that write in flight
  abbrev pub writing : Device → List SnapHeld → Moving
  writing origin snaps = with_requests g sectors range.first held_write write_routed a k origin snaps

  -- the write itself, once each snapshot is idle and has the chunk
  pub issues : (origin : Device) (snaps : List SnapHeld) → Each IsIdle snaps → Each (λ d. is_saved range.first d ≡ true) snaps →
      Goes no_start (writing origin snaps) (at_with g (written_by origin (Writes range.first range.count) (with_sectors origin.bytes range.first bytes)) snaps [] (Some (write_reply origin range.first range.count)) k)
  issues origin snaps idle saved =
      let clear : is_clear snaps range.first ≡ true = clear_all range.first snaps saved (each_weaker IsIdle (λ d. is_untried d ≡ false) snaps (λ d i. i.tried) idle) in
      let v : Moving = at_with g origin snaps (going Origin ∷ []) a k in
      let mine : Going → Bool = λ r. r.number == number in
      let after : Device = written_by origin (Writes range.first range.count) (with_sectors origin.bytes range.first bytes) in
      goes_between _ _ _ _ (ap (λ r. at_with g origin snaps (going r ∷ []) a k) (routed_by snaps ∙ ap (write_route_of false None) clear)) refl
      (goes_by v _ (Issue number) (due_request origin snaps (going Origin ∷ []) a k idle (Some number) refl) tt
      (ap (λ o. for_some o (λ (r : Going). issue r.route mine r v) v) (cond-true _ _ _ (same_number number true))
      ∙ ap (λ rs. at_with g after snaps rs (Some (write_reply origin range.first range.count)) k) (cond-true _ _ _ (eq-eqb number number refl))))
