-- Each deed: what is noted of arrays that were made last holds after it.
use Rattle.std.proofs.Common.{◌≡◌, ◌≢◌, ◌⊎◌, inl, inr, ℕ, ◌*◌, ◌/◌, ◌<◌, Bool, true, false, List, [], ◌∷◌, ◌++◌, filter, length, get_or, map, Option, None, Some, refl, sym, ◌∙◌, ap, subst, if◌then◌else◌}
use Rattle.std.specs.Prelude.{◌==◌, AllPairs, Err, IfErr, IfOk, OnErr, OnOk, Result, not, Ok}
use Rattle.std.specs.List.{All}
use Rattle.std.specs.Option.{is_some}
use Rattle.std.proofs.lemmas.Bool.{cases_Bool, cond-false, cond-true, eq-eqb, false≢true, ne_eqb, true≢false}
use Rattle.std.proofs.lemmas.List.Elements.{All-head, All-tail}
use Rattle.sector.specs.Bytes.{sector_at}
use Rattle.sector.specs.declared.refusal.Refusal.{Refusal}
use Rattle.sector.specs.declared.refusal.Refusal.TheVariants.{NotFinished, NotQuiet}
use Rattle.device.specs.Layers.{Layer, is_loud}
use Rattle.crash_laws.specs.Again.{IsOpen}
use Rattle.crash_laws.specs.Firm.{IsFirm}
use Rattle.crash_laws.specs.Stop.{MayLeave}
use Rattle.crash_laws.specs.Clauses.{Given, Gives}
use Rattle.plain_machine.specs.Kept.{kept}
use Rattle.plain_machine.specs.Legal.{IsTaken}
use Rattle.plain_machine.specs.Plain.{InFlight, Live, Plain, asked_under, overflow_of, saved_under}
use Rattle.plain_machine.specs.declared.request.Dev.{Dev}
use Rattle.plain_machine.specs.declared.request.Dev.TheVariants.{Origin as AtOrigin, Snap}
use Rattle.plain_machine.specs.declared.request.Op.{Op}
use Rattle.plain_machine.specs.declared.request.Op.TheVariants.{Read, Write, Flush}
use Rattle.plain_machine.specs.declared.request.Request.{Request}
use Rattle.layers.specs.declared.message.Answer.{Answer}
use Rattle.layers.specs.declared.message.Message.{Message}
use Rattle.in_flight.specs.Kinds.{in_flight, kind_at, kind_of}
use Rattle.in_flight.specs.Routes.{flush_route_of, refused_of}
use Rattle.in_flight.specs.declared.flights.Flight.{Flight}
use Rattle.in_flight.specs.declared.flights.Kind.TheVariants.{OriginFlush}
use Rattle.in_flight.specs.declared.flights.Route.TheVariants.{Whole}
use Rattle.event_machine.specs.Again.{refused}
use Rattle.event_machine.specs.Held.{Going, Moving}
use Rattle.event_machine.specs.MergeSeen.{held_in}
use Rattle.event_machine.specs.Seen.{going_of}
use Rattle.event_machine.specs.Stepping.{first_that}
use Rattle.event_machine.specs.Submitting.{submitted, submitted_as}
use Rattle.snapshot.specs.Kept.{Kept}
use Rattle.snapshot.specs.declared.opening.StoreDev.{StoreDev}
use Rattle.snapshot.specs.Opening.{shown_array}
use Rattle.snapshot_list.specs.Keeping.{unkept}
use Rattle.snapshot_list.specs.Numbers.{number_of_snap}
use Rattle.merge.specs.Due.{is_finished_of}
use Rattle.merge.specs.Merging.{Merging}
use Rattle.volume.specs.AddedUp.{GivesAsked, IsLeftAt, IsOpenIn, IsOpenOrigin, IsOpenSnap, IsSomeOf, OpensOnly}
use Rattle.volume.specs.Adding.{LeavesNoMore, MergeLeavesNoMore, OpensNothing}
use Rattle.volume.specs.Attached.{IsGained, IsRefusedOver}
use Rattle.volume.specs.Beginning.{IsMergeBegun, IsNotBegun, begin_refusal, merging_from}
use Rattle.volume.specs.Causes.{IsAt}
use Rattle.volume.specs.DoesAttach.{DoesAttach}
use Rattle.volume.specs.DoesBeginMerge.{DoesBeginMerge}
use Rattle.volume.specs.DoesFinishMerge.{DoesFinishMerge}
use Rattle.volume.specs.DoesMessage.{DoesMessage}
use Rattle.volume.specs.DoesResumeMerge.{DoesResumeMerge}
use Rattle.volume.specs.DoesSubmit.{DoesSubmit}
use Rattle.volume.specs.DoesTick.{DoesTick}
use Rattle.volume.specs.Finishing.{IsTakenOut, finish_refusal, finish_with}
use Rattle.volume.specs.Handing.{HandsOver}
use Rattle.volume.specs.Layering.{Measures}
use Rattle.volume.specs.Leaving.{IsWithout, is_quiet_of}
use Rattle.volume.specs.Moved.{merge_seen, moving_of}
use Rattle.volume.specs.Stopping.{IsOut, StaysOut, array_of, given_in}
use Rattle.volume.specs.Submitting.{IsAcceptedAs, IsRefusedAs}
use Rattle.volume.specs.Telling.{dev_relayered}
use Rattle.volume.specs.Volumed.{Volumed, is_loud_in_all, plain_of}
use Rattle.volume.proofs.Beginnings.{calm, live_at, number_at, within}
use Rattle.volume.proofs.Opened.{IsEarlierMerge, origin_before}
use Rattle.volume.proofs.OpenedCalls.{no_more, opens_alike, opens_none, opens_resume, opens_submitted, opens_told, kept_snaps, same_snaps}
use Rattle.volume.proofs.Quieted.{quiet_flights}
use Rattle.volume.proofs.Relayered.{IsMergeAlike, IsVolumeAlike, ticked_alike}
use Rattle.volume.proofs.Told.{told_alike, untold_alike}
use Rattle.volume_lifetime.specs.declared.deed.Deed.{Deed}
use Rattle.volume_lifetime.specs.declared.deed.Deed.TheVariants.{Attach, BeginMerge, Detach, FinishMerge}
use Rattle.volume_lifetime.specs.declared.deed.Done.{Done}
use Rattle.volume_lifetime.specs.declared.deed.Done.TheVariants.{Attached, Begun, Detached, Finished}
use Rattle.volume_lifetime.specs.Flushed.{Allows, Asked, Flushed, History, accepted, array_in, bytes_of, handed, is_not_of, is_of, is_same, more_asked, more_write, noted_at, of_origin, with_bytes, with_write, with_writes}
use Rattle.volume_lifetime.specs.Lasted.{OpensByDeed, TakesAs}
use Rattle.volume_lifetime.proofs.Closes.{disk_closed}
use Rattle.volume_lifetime.proofs.Histories.{EachOf, Fewer, Follows, Holds, Known, MergeFollows, Opened, Pends, Waits, HalfOf, allows_bytes, allows_given, allows_more, each_append, each_as, each_filter, each_map, given_kept, half_more, half_on, holds_on, known_on, none_asked, opened_of, same_is, same_true, some_split, under_more, with_array, writes_allow, writes_array}
use Rattle.volume_lifetime.proofs.Lasts.{same_attach}
use Rattle.volume_lifetime.proofs.Plains.{saved_last}
use Rattle.volume_lifetime.proofs.Routes.{refuses, submit_keeps}

-- a request that is accepted last is found where none has its number
under_last : (n : ℕ) (q : Request) (rs : List InFlight) → All (λ r. r.number ≢ n) rs → asked_under n (rs ++ record { number = n; request = q } ∷ []) ≡ Some q
under_last n q [] fresh = cond-true _ _ _ (eq-eqb n n refl)
under_last n q (r ∷ rs) fresh = cond-false _ _ _ (ne_eqb r.number n (All-head (λ (x : InFlight). x.number ≢ n) r rs fresh)) ∙ under_last n q rs (All-tail (λ (x : InFlight). x.number ≢ n) r rs fresh)

going_last : (n : ℕ) (y : Going) (fs : List Flight) → y.number ≡ n → All (λ r. r.number ≢ n) (map in_flight fs) → first_that (λ (k : Going). k.number == n) (map going_of fs ++ y ∷ []) ≡ Some y
going_last n y [] is fresh = cond-true _ _ _ (eq-eqb y.number n is)
going_last n y (f ∷ fs) is fresh = cond-false _ _ _ (ne_eqb f.number n (All-head (λ (x : InFlight). x.number ≢ n) (in_flight f) (map in_flight fs) fresh)) ∙ going_last n y fs is (All-tail (λ (x : InFlight). x.number ≢ n) (in_flight f) (map in_flight fs) fresh)

origin_array : (dev : Dev) → array_of dev ≡ None → dev ≡ AtOrigin
origin_array AtOrigin e = refl
origin_array (Snap n) e = absurd (let no : Some n ≡ None = e in cc)

refused_asks : (which : List ℕ) (fs : List Flight) → map in_flight (map (refused_of which) fs) ≡ map in_flight fs
refused_asks which [] = refl
refused_asks which (f ∷ fs) = ap (λ (rs : List InFlight). in_flight f ∷ rs) (refused_asks which fs)

refused_goings : (n : ℕ) (fs : List Flight) → map going_of (map (refused_of (n ∷ [])) fs) ≡ map (refused n) (map going_of fs)
refused_goings n [] = refl
refused_goings n (f ∷ fs) = ap (λ (rs : List Going). going_of (refused_of (n ∷ []) f) ∷ rs) (refused_goings n fs)

taken_quiet : {B : Type 0} (merge : Option (Merging B)) (quiet : Bool) → finish_with merge quiet ≡ None → quiet ≡ true
taken_quiet None quiet e = absurd (cc)
taken_quiet (Some g) quiet e = by (is_finished_of g) quiet e
  where
    by : (b quiet : Bool) → (if b then (if quiet then None else Some NotQuiet) else Some NotFinished) ≡ None → quiet ≡ true
    by true true e = refl
    by true false e = absurd (cc)
    by false quiet e = absurd (cc)

module _ {B : Type 0} (holds : B → ℕ → List ℕ → Type 0) (m : Measures B) (layers : B → List Layer) where
  abbrev asks : Volumed B → List InFlight
  asks v = map in_flight v.flights

  merge_itself : (x : Option (Merging B)) → MergeFollows holds m layers x x
  merge_itself None = tt
  merge_itself (Some g) = (refl, λ c out. out)

  earlier_itself : (x : Option (Merging B)) → IsEarlierMerge holds m.size x x
  earlier_itself None = tt
  earlier_itself (Some g) = (refl, refl, no_more holds m.contents layers m.size g.device)

  merge_earlier : (x y : Option (Merging B)) → y ≡ x → IsEarlierMerge holds m.size x y
  merge_earlier x y same = subst (IsEarlierMerge holds m.size x) (sym same) (earlier_itself x)

  merge_kept : (x y : Option (Merging B)) → y ≡ x → MergeFollows holds m layers x y
  merge_kept x y same = subst (MergeFollows holds m layers x) (sym same) (merge_itself x)

  waits_flights : (v w : Volumed B) → w.flights ≡ v.flights → (n : ℕ) → Waits holds m layers v n → Waits holds m layers w n
  waits_flights v w same n waits = record { going = waits.going; first = ap (λ fs. first_that (λ (k : Going). k.number == n) (map going_of fs)) same ∙ waits.first; whole = waits.whole; kind = waits.kind }

  waits_moving : (v w : Volumed B) → (moving_of m.contents layers None w).requests ≡ (moving_of m.contents layers None v).requests → (n : ℕ) → Waits holds m layers v n → Waits holds m layers w n
  waits_moving v w same n waits = record { going = waits.going; first = ap (first_that (λ (k : Going). k.number == n)) same ∙ waits.first; whole = waits.whole; kind = waits.kind }

  pub known_same : (v w : Volumed B) (h : History) → w ≡ v → Known holds m layers v h → Known holds m layers w h
  known_same v w h same known = subst (λ (y : Volumed B). Known holds m layers y h) (sym same) known

  -- A request is accepted.
  module _ (request : Request) (number : ℕ) (v w : Volumed B) (does : DoesSubmit m.contents layers m.size request (Ok number) v w) (refused : IfErr (Ok number) (λ refusal. IsRefusedAs m.contents layers m.size request refusal v w)) where
    abbrev given : Option Given
    given = given_in (Some request)

    is_accepted : IsAcceptedAs m.contents layers request number v w
    is_accepted = does.ok

    submits : Follows holds m layers v w
    submits = record {
      sectors = ap m.size does.untouched.origin;
      opened = opened_of holds m layers v w (opens_submitted holds m.contents layers m.size [] request (Ok number) v w does.ok refused does.untouched);
      merge = merge_kept v.merge w.merge does.untouched.merge;
    }

    still : (n : ℕ) → Waits holds m layers v n → Waits holds m layers w n
    still n waits = record {
      going = waits.going;
      first = sym (ap (λ (u : Moving). first_that (λ (k : Going). k.number == n) u.requests) (does.exact None)) ∙ submit_keeps n number request (moving_of m.contents layers None v) waits.going waits.first waits.kind;
      whole = waits.whole;
      kind = waits.kind;
    }

    asked_more : (f : Flushed) → ((s : ℕ) (x : List ℕ) → IsSomeOf (GivesAsked f.array s x) (asks v) → Allows f s x) → (s : ℕ) (x : List ℕ) → IsSomeOf (GivesAsked (with_write given f).array s x) (asks w) → Allows (with_write given f) s x
    asked_more f old s x gives = by (some_split (GivesAsked f.array s x) (asks v) (record { number = number; request = kept request } ∷ []) (subst (IsSomeOf (GivesAsked f.array s x)) is_accepted.flown (subst (λ a. IsSomeOf (GivesAsked a s x) (asks w)) (with_array given f) gives)))
      where
        by : IsSomeOf (GivesAsked f.array s x) (asks v) ⊎ (Gives (given_in (Some (kept request))) f.array s x ⊎ ⊥) → Allows (with_write given f) s x
        by (inl before) = allows_more given f s x (old s x before)
        by (inr (inl new)) = allows_given given f s x (subst (λ g. Gives g f.array s x) (given_kept request) new)
        by (inr (inr none)) = absurd none

    holds_more : (f : Flushed) → Holds holds m layers v f → Holds holds m layers w (with_write given f)
    holds_more f h = record {
      shows = λ s x may. allows_more given f s x (elim (submits.opened f.array s x (subst (λ a. IsOpenIn holds m.size w a s x) (with_array given f) may)) [ inl before ↦ h.shows s x before | inr gives ↦ h.asked s x gives ]);
      asked = asked_more f h.asked;
    }

    pends_more : (a : Asked) → Pends holds m layers v a → Pends holds m layers w (more_write given a)
    pends_more a p = record {
      request = p.request;
      under = ap (asked_under a.number) is_accepted.flown ∙ under_more a.number p.request (asks v) (record { number = number; request = kept request } ∷ []) p.under;
      flush = p.flush;
      array = p.array ∙ sym (with_array given a.will);
      asked = asked_more a.will p.asked;
      half = λ none.
          let was : a.will.array ≡ None = sym (with_array given a.will) ∙ none in
          half_more holds m layers w a (more_write given a) w.merge refl (allows_more given a.will)
          (half_on holds m layers v w a submits (still a.number) (λ s x gives. p.asked s x (subst (λ o. IsSomeOf (GivesAsked o s x) (asks v)) (sym was) gives)) (p.half was));
    }

    -- a flush is one that is asked from then on
    new_waits : request.op ≡ Flush → array_of request.dev ≡ None → (g : Merging B) → w.merge ≡ Some g → Waits holds m layers w number
    new_waits op none g at =
        let dev : request.dev ≡ AtOrigin = origin_array request.dev none in
        let kind : kind_of request ≡ OriginFlush = ap (λ d. kind_at d request.op) dev ∙ ap (kind_at AtOrigin) op in
        let begun : v.merge ≡ Some g = sym does.untouched.merge ∙ at in
        let y : Going = record { number = number; request = kept request; route = flush_route_of (is_some (moving_of m.contents layers None v).merge) } in
        let is : (moving_of m.contents layers None w).requests ≡ map going_of v.flights ++ y ∷ [] = sym (ap (λ (u : Moving). u.requests) (does.exact None)) ∙ ap (λ k. (submitted_as k number request (moving_of m.contents layers None v)).requests) kind in
        record {
          going = y;
          first = ap (first_that (λ (k : Going). k.number == number)) is ∙ going_last number y v.flights refl is_accepted.fresh;
          whole = ap (λ z. flush_route_of (is_some (held_in (merge_seen m.contents layers z)))) begun;
          kind = kind;
        }

    new_pends : request.op ≡ Flush → Pends holds m layers w (record { number = number; will = noted_at (array_of request.dev) (plain_of m.contents layers w) })
    new_pends op =
        let base : Flushed = record { array = array_of request.dev; bytes = []; since = [] } in
        let its : (with_writes (asks w) base).array ≡ array_of request.dev = writes_array (asks w) base in
        record {
          request = kept request;
          under = ap (asked_under number) is_accepted.flown ∙ under_last number (kept request) (asks v) is_accepted.fresh;
          flush = op;
          array = sym its;
          asked = λ s x gives. writes_allow (asks w) base s x (subst (λ a. IsSomeOf (GivesAsked a s x) (asks w)) its gives);
          half = λ none. by (sym its ∙ none) w.merge refl;
        }
      where
        by : array_of request.dev ≡ None → (z : Option (Merging B)) → w.merge ≡ z → HalfOf holds m layers w (record { number = number; will = noted_at (array_of request.dev) (plain_of m.contents layers w) }) z
        by none None at = tt
        by none (Some g) at = inl (new_waits op none g at)

    pub accepted_known : (h : History) → Known holds m layers v h → Known holds m layers w (accepted request number (plain_of m.contents layers w) h)
    accepted_known h known = record {
      made = each_map (Holds holds m layers v) (Holds holds m layers w) (with_write given) h.made holds_more known.made;
      asked = by request.op refl;
    }
      where
        rest : EachOf (Pends holds m layers w) (map (more_write given) h.asked)
        rest = each_map (Pends holds m layers v) (Pends holds m layers w) (more_write given) h.asked pends_more known.asked

        by : (op : Op) → request.op ≡ op → EachOf (Pends holds m layers w) (more_asked op number (array_of request.dev) (plain_of m.contents layers w) (map (more_write given) h.asked))
        by Flush is = (new_pends is, rest)
        by Read is = rest
        by (Write bytes) is = rest

  -- or refused
  pub declined_known : (request : Request) (refusal : Refusal) (v w : Volumed B) → DoesSubmit m.contents layers m.size request (Err refusal) v w → IsRefusedAs m.contents layers m.size request refusal v w → (h : History) → Known holds m layers v h → Known holds m layers w h
  declined_known request refusal v w does why h known = by why
    where
      follows : Follows holds m layers v w
      follows = record {
        sectors = ap m.size does.untouched.origin;
        opened = opened_of holds m layers v w (opens_submitted holds m.contents layers m.size [] request (Err refusal) v w does.ok why does.untouched);
        merge = merge_kept v.merge w.merge does.untouched.merge;
      }

      same_flights : w.flights ≡ v.flights → Known holds m layers w h
      same_flights same = known_on holds m layers v w h follows (waits_flights v w same) (ap (map in_flight) same) known

      by : IsRefusedAs m.contents layers m.size request refusal v w → Known holds m layers w h
      by (inl first) = known_same v w h first.1 known
      by (inr (inl room)) = same_flights (ap (λ (y : Volumed B). y.flights) room.2.becomes)
      by (inr (inr (inl (a, b, (number, kind, full))))) =
          let same : w.flights ≡ map (refused_of (number ∷ [])) v.flights = ap (λ (y : Volumed B). y.flights) full.becomes in
          known_on holds m layers v w h follows
          (λ n waits. record {
            going = waits.going;
            first = ap (λ fs. first_that (λ (k : Going). k.number == n) (map going_of fs)) same ∙ ap (first_that (λ (k : Going). k.number == n)) (refused_goings number v.flights) ∙ refuses n number (map going_of v.flights) waits.going waits.first waits.kind;
            whole = waits.whole;
            kind = waits.kind;
          })
          (ap (map in_flight) same ∙ refused_asks (number ∷ []) v.flights) known
      by (inr (inr (inr (a, b, (number, kind, over))))) = same_flights (ap (λ (y : Volumed B). y.flights) over.becomes)

  -- The layers of devices change.
  less_left : (d d' : B) (b : List ℕ) → m.size d' ≡ m.size d → LeavesNoMore holds m.size d d' → MayLeave (holds d') (m.size d') b → MayLeave (holds d) (m.size d) b
  less_left d d' b same less left = record { whole = left.whole ∙ ap (λ k. 512 * k) same; each = λ s lt. less s (sector_at b s) lt (left.each s (subst (λ n. s < n) (sym same) lt)) }

  alike_merge : (x y : Option (Merging B)) → IsMergeAlike m.contents layers m.size x y → MergeLeavesNoMore holds m.size x y → MergeFollows holds m layers x y
  alike_merge None None a less = tt
  alike_merge None (Some g) a less = absurd a
  alike_merge (Some g) None a less = absurd a
  alike_merge (Some g) (Some g') a less = (ap (λ (y : Merging B). y.state.chunk) a.1, λ c out d left. out d (less_left g.device g'.device d a.0.sectors less left))

  alike_follows : (v w : Volumed B) → IsVolumeAlike m.contents layers m.size v w → OpensNothing holds m.size v w → Follows holds m layers v w
  alike_follows v w alike opens = record {
    sectors = alike.origin.sectors;
    opened = opened_of holds m layers v w (opens_alike holds m.contents layers m.size v w alike opens []);
    merge = alike_merge v.merge w.merge alike.merge opens.merge;
  }

  pub ticked_known : (seconds : ℕ) (v w : Volumed B) → DoesTick holds m layers seconds v w → (h : History) → Known holds m layers v h → Known holds m layers w h
  ticked_known seconds v w does h known = known_on holds m layers v w h (alike_follows v w (ticked_alike m layers seconds v w does.ticked) does.opens) (waits_moving v w (ap (λ (u : Moving). u.requests) (does.moving None))) (ap (λ (p : Plain). p.requests) does.plain) known

  told_requests : (dev : Dev) (f : List Layer → List Layer) (u : Moving) → (dev_relayered dev f u).requests ≡ u.requests
  told_requests AtOrigin f u = refl
  told_requests (Snap n) f u = refl

  pub told_known : (dev : Dev) (depth : ℕ) (message : Message) (result : Result Answer Refusal) (v w : Volumed B) → DoesMessage holds m layers dev depth message result v w → (h : History) → Known holds m layers v h → Known holds m layers w h
  told_known dev depth message (Ok answer) v w does h known = known_on holds m layers v w h (alike_follows v w (told_alike m layers dev depth message v w answer does.ok) does.opens)
      (waits_moving v w (ap (λ (u : Moving). u.requests) (does.moving None) ∙ told_requests dev _ (moving_of m.contents layers None v))) (ap (λ (p : Plain). p.requests) does.plain) known
  told_known dev depth message (Err refusal) v w does h known = known_on holds m layers v w h (alike_follows v w (untold_alike m layers dev depth message v w refusal does.err) does.opens)
      (waits_moving v w (ap (λ (u : Moving). u.requests) (does.still None))) (ap (λ (p : Plain). p.requests) does.plain) known

  -- A merge goes on.
  pub resumed_known : (result : Result (Unit {0}) Refusal) (v w : Volumed B) → DoesResumeMerge m.contents layers result v w → (h : History) → Known holds m layers v h → Known holds m layers w h
  resumed_known (Err refusal) v w does h known = known_same v w h does.err.2 known
  resumed_known (Ok done) v w does h known =
      let becomes = does.resumed.becomes in
      let flights : w.flights ≡ v.flights = ap (λ (y : Volumed B). y.flights) becomes in
      let merge : MergeFollows holds m layers (Some does.resumed.merge) (Some (record does.resumed.merge { failed = false })) = (refl, λ c out. out) in
      known_on holds m layers v w h
      (record {
        sectors = ap (λ (y : Volumed B). m.size y.origin) becomes;
        opened = opened_of holds m layers v w (opens_resume holds m.contents layers m.size [] (Ok done) v w does.resumed does.err);
        merge = subst (λ x. MergeFollows holds m layers x w.merge) (sym does.resumed.was) (subst (MergeFollows holds m layers (Some does.resumed.merge)) (sym (ap (λ (y : Volumed B). y.merge) becomes)) merge);
      })
      (waits_flights v w flights) (ap (map in_flight) flights) known

  -- Deeds that look at the snapshots alone; of the origin no more may be left.
  takes_none : (deed : Deed B) (done : Done B) (v w : Volumed B) → OpensByDeed holds m layers deed done v w → ((number : ℕ) (array : List ℕ) → TakesAs m.contents deed done (plain_of m.contents layers v) number array → ⊥)
      → ((s : ℕ) (x : List ℕ) → IsOpenIn holds m.size w None s x → IsOpenIn holds m.size v None s x) → Opened holds m layers v w
  takes_none deed done v w opens none origin None s x may = inl (origin s x may)
  takes_none deed done v w opens none origin (Some number) s x may = by (opens number s x may)
    where
      by : IsOpenIn holds m.size v (Some number) s x ⊎ (IsSomeOf (GivesAsked (Some number) s x) (asks v) ⊎ ((array : List ℕ) × TakesAs m.contents deed done (plain_of m.contents layers v) number array × (x ≡ sector_at array s))) → IsOpenIn holds m.size v (Some number) s x ⊎ IsSomeOf (GivesAsked (Some number) s x) (asks v)
      by (inl before) = inl before
      by (inr (inl gives)) = inr gives
      by (inr (inr (array, takes, is))) = absurd (none number array takes)

  origin_same : (v w : Volumed B) → w.origin ≡ v.origin → w.merge ≡ v.merge → (s : ℕ) (x : List ℕ) → IsOpenIn holds m.size w None s x → IsOpenIn holds m.size v None s x
  origin_same v w origin merge s x may = (subst (λ d. s < m.size d) origin may.0, subst (λ d. IsOpenOrigin holds m.size d v.merge s x) origin (subst (λ z. IsOpenOrigin holds m.size w.origin z s x) merge may.1))

  no_detach : (number : ℕ) (done : Done B) (p : Plain) (n : ℕ) (array : List ℕ) → TakesAs m.contents (Detach number) done p n array → ⊥
  no_detach number done p n array takes = (let no : Detach number ≡ Attach takes.store takes.chunk takes.overflow = takes.attach in cc)

  pub detached_known : (number : ℕ) (store : StoreDev B) (v w : Volumed B) → IsWithout number v w store → OpensByDeed holds m layers (Detach number) (Detached (Ok store)) v w → (h : History) → Known holds m layers v h → Known holds m layers w h
  detached_known number store v w is opens h known =
      let origin : w.origin ≡ v.origin = ap (λ (y : Volumed B). y.origin) is.becomes in
      let merge : w.merge ≡ v.merge = ap (λ (y : Volumed B). y.merge) is.becomes in
      let flights : w.flights ≡ v.flights = ap (λ (y : Volumed B). y.flights) is.becomes in
      known_on holds m layers v w h
      (record {
        sectors = ap m.size origin;
        opened = takes_none (Detach number) (Detached (Ok store)) v w opens (no_detach number (Detached (Ok store)) (plain_of m.contents layers v)) (origin_same v w origin merge);
        merge = merge_kept v.merge w.merge merge;
      })
      (waits_flights v w flights) (ap (map in_flight) flights) known

  -- A merge is taken out of a quiet volume.
  no_finish : (done : Done B) (p : Plain) (n : ℕ) (array : List ℕ) → TakesAs m.contents FinishMerge done p n array → ⊥
  no_finish done p n array takes = (let no : FinishMerge ≡ Attach takes.store takes.chunk takes.overflow = takes.attach in cc)

  pub finished_known : (store : StoreDev B) (v w : Volumed B) → is_loud_in_all layers v ≡ true → DoesFinishMerge holds m.contents layers m.size (Ok store) v w → OpensByDeed holds m layers FinishMerge (Finished (Ok store)) v w → (h : History) → Known holds m layers v h → Known holds m layers w h
  finished_known store v w loud does opens h known =
      let quiet : v.flights ≡ [] = quiet_flights v (taken_quiet v.merge (is_quiet_of v) does.ok) in
      let none : asks v ≡ [] = ap (map in_flight) quiet in
      let flights : w.flights ≡ v.flights = ap (λ (y : Volumed B). y.flights) does.taken.becomes in
      let same : asks w ≡ asks v = ap (map in_flight) flights in
      record {
        made = each_as (Holds holds m layers v) (Holds holds m layers w) h.made (λ f. holds_on holds m layers v w f (takes_none FinishMerge (Finished (Ok store)) v w opens (no_finish (Finished (Ok store)) (plain_of m.contents layers v)) origin) (λ array s x gives. subst (IsSomeOf (GivesAsked array s x)) same gives)) known.made;
        asked = none_asked holds m layers v w h.asked none known.asked;
      }
    where
      origin : (s : ℕ) (x : List ℕ) → IsOpenIn holds m.size w None s x → IsOpenIn holds m.size v None s x
      origin s x may =
          let gone : w.merge ≡ None = ap (λ (y : Volumed B). y.merge) does.taken.becomes in
          let disk : w.origin ≡ v.origin = ap (λ (y : Volumed B). y.origin) does.taken.becomes in
          let left : IsLeftAt (holds w.origin) (m.size w.origin) s x = subst (λ z. IsOpenOrigin holds m.size w.origin z s x) gone may.1 in
          let g = does.taken.merge in
          let shown : IsOpen g.state.chunk (holds v.origin) (holds g.device) (m.size v.origin) (m.size g.device) s (sector_at left.bytes s) = does.opens loud g does.taken.was left.bytes left.left s may.0 in
          (subst (λ d. s < m.size d) disk may.0, subst (λ z. IsOpenOrigin holds m.size v.origin z s x) (sym does.taken.was) (subst (IsOpen g.state.chunk (holds v.origin) (holds g.device) (m.size v.origin) (m.size g.device) s) (sym left.is) shown))

  -- A merge begins of a snapshot of a quiet volume.
  no_begin : (number : ℕ) (done : Done B) (p : Plain) (n : ℕ) (array : List ℕ) → TakesAs m.contents (BeginMerge number) done p n array → ⊥
  no_begin number done p n array takes = (let no : BeginMerge number ≡ Attach takes.store takes.chunk takes.overflow = takes.attach in cc)

  pub unbegun_known : (number : ℕ) (refusal : Refusal) (v w : Volumed B) → IsNotBegun number refusal v w → (h : History) → Known holds m layers v h → Known holds m layers w h
  unbegun_known number refusal v w (inl first) h known = known_same v w h first.1 known
  unbegun_known number refusal v w (inr lacks) h known =
      let is = lacks.2 in
      let origin : w.origin ≡ v.origin = ap (λ (y : Volumed B). y.origin) is.becomes in
      let merge : w.merge ≡ v.merge = ap (λ (y : Volumed B). y.merge) is.becomes in
      let flights : w.flights ≡ v.flights = ap (λ (y : Volumed B). y.flights) is.becomes in
      known_on holds m layers v w h
      (record {
        sectors = ap m.size origin;
        opened = opened_of holds m layers v w (opens_none holds m.contents layers m.size [] v w (ap m.size origin) (subst (λ (d : B). LeavesNoMore holds m.size v.origin d) (sym origin) (no_more holds m.contents layers m.size v.origin)) (merge_earlier v.merge w.merge merge) (kept_snaps holds m.contents layers m.size v w is.kept));
        merge = merge_kept v.merge w.merge merge;
      })
      (waits_flights v w flights) (ap (map in_flight) flights) known

  pub begun_known : (number : ℕ) (v w : Volumed B) (done : Unit {0}) → DoesBeginMerge holds m.contents layers m.size number (Ok done) v w → OpensByDeed holds m layers (BeginMerge number) (Begun (Ok done)) v w → (h : History) → Known holds m layers v h → Known holds m layers w (record h { made = handed number h.made })
  begun_known number v w done does opens h known =
      record {
        made = each_append (Holds holds m layers w) (map of_origin (filter (is_of (Some number)) h.made)) (filter (is_not_of None) h.made)
            (each_map Over (Holds holds m layers w) of_origin (filter (is_of (Some number)) h.made) (λ f over. over) (each_filter (Holds holds m layers v) Over (is_of (Some number)) h.made handed_on known.made))
            (each_filter (Holds holds m layers v) (Holds holds m layers w) (is_not_of None) h.made kept_on known.made);
        asked = none_asked holds m layers v w h.asked none known.asked;
      }
    where
      begun : IsMergeBegun number v w
      begun = does.begun

      none : asks v ≡ []
      none = ap (map in_flight) (quiet_flights v (calm v number begun.place does.admitted (sym begun.found)))

      no_asks : (array : Option ℕ) (s : ℕ) (x : List ℕ) → IsSomeOf (GivesAsked array s x) (asks w) → ⊥
      no_asks array s x gives = subst (IsSomeOf (GivesAsked array s x)) (ap (λ (y : Volumed B). asks y) begun.becomes ∙ none) gives

      Over : Flushed → Type 0
      Over f = Holds holds m layers w (of_origin f)

      -- what is open for the origin was open for the snapshot
      came : (s : ℕ) (x : List ℕ) → IsOpenIn holds m.size w None s x → IsOpenIn holds m.size v (Some number) s x
      came s x may =
          let g = merging_from begun.snap begun.buffer in
          let is : w.merge ≡ Some g = ap (λ (y : Volumed B). y.merge) begun.becomes in
          let disk : w.origin ≡ v.origin = ap (λ (y : Volumed B). y.origin) begun.becomes in
          let lt = within v number begun.place does.admitted (sym begun.found) in
          let shows : IsOpen g.state.chunk (holds w.origin) (holds g.device) (m.size w.origin) (m.size g.device) s x = subst (λ z. IsOpenOrigin holds m.size w.origin z s x) is may.1 in (
            subst (λ d. s < m.size d) disk may.0,
            record {
              place = begun.place;
              snap = begun.snap;
              at = record { within = lt; is = begun.is };
              mine = number_at v number begun.place does.admitted (sym begun.found) begun.snap begun.is;
              live = live_at v number begun.place does.admitted (sym begun.found) begun.snap begun.is;
              shows = does.hands begun.place begun.snap g begun.found begun.is is s x shows;
            },
          )

      handed_on : (f : Flushed) → is_of (Some number) f ≡ true → Holds holds m layers v f → Over f
      handed_on f t hold = record {
        shows = λ s x may. hold.shows s x (subst (λ a. IsOpenIn holds m.size v a s x) (sym (same_is f.array (Some number) t)) (came s x may));
        asked = λ s x gives. absurd (no_asks None s x gives);
      }

      kept_on : (f : Flushed) → is_not_of None f ≡ true → Holds holds m layers v f → Holds holds m layers w f
      kept_on f t hold = by f.array refl
        where
          by : (a : Option ℕ) → f.array ≡ a → Holds holds m layers w f
          by None e = absurd (let here : is_same f.array None ≡ true = same_true f.array None e in false≢true (ap not (sym here) ∙ t))
          by (Some n) e = record {
            shows = λ s x may. at n e s x (opens n s x (subst (λ z. IsOpenIn holds m.size w z s x) e may));
            asked = λ s x gives. absurd (no_asks f.array s x gives);
          }
            where
              at : (n : ℕ) → f.array ≡ Some n → (s : ℕ) (x : List ℕ) → IsOpenIn holds m.size v (Some n) s x ⊎ (IsSomeOf (GivesAsked (Some n) s x) (asks v) ⊎ ((array : List ℕ) × TakesAs m.contents (BeginMerge number) (Begun (Ok done)) (plain_of m.contents layers v) n array × (x ≡ sector_at array s))) → Allows f s x
              at n e s x (inl before) = hold.shows s x (subst (λ z. IsOpenIn holds m.size v z s x) (sym e) before)
              at n e s x (inr (inl gives)) = hold.asked s x (subst (λ z. IsSomeOf (GivesAsked z s x) (asks v)) (sym e) gives)
              at n e s x (inr (inr (array, takes, is))) = absurd (no_begin number (Begun (Ok done)) (plain_of m.contents layers v) n array takes)

  -- A snapshot is taken of a quiet volume, or it is not.
  module _ (whole : (d : B) → length (m.contents d) ≡ 512 * m.size d) (here : (d : B) (s : ℕ) → s < m.size d → holds d s (sector_at (m.contents d) s)) (store : StoreDev B) (chunk : ℕ) (overflow : Bool) (v w : Volumed B) where
    pub refused_known : (refused : Refusal × StoreDev B) → DoesAttach holds m layers store chunk overflow (Err refused) v w → (h : History) → Known holds m layers v h → Known holds m layers w h
    refused_known refused does h known =
        let is : IsRefusedOver m.contents layers m.size refused.0 v w = does.same in
        let merge : w.merge ≡ v.merge = ap (λ (y : Volumed B). y.merge) is.becomes in
        let flights : w.flights ≡ v.flights = ap (λ (y : Volumed B). y.flights) is.becomes in
        known_on holds m layers v w h
        (record {
          sectors = is.origin.size_is;
          opened = opened_of holds m layers v w (opens_none holds m.contents layers m.size [] v w is.origin.size_is (λ s x lt may. does.origin_kept s x may) (merge_earlier v.merge w.merge merge) (same_snaps holds m.contents layers m.size v w (ap (λ (y : Volumed B). y.snaps) is.becomes)));
          merge = merge_kept v.merge w.merge merge;
        })
        (waits_flights v w flights) (ap (map in_flight) flights) known

    module _ (number : ℕ) (does : DoesAttach holds m layers store chunk overflow (Ok number) v w) (opens : OpensByDeed holds m layers (Attach store chunk overflow) (Attached (Ok number)) v w) (alone : v.merge ≡ None) (quiet : asks v ≡ []) (fresh : saved_under number (plain_of m.contents layers v).saved ≡ None)
        (taken : IsTaken (plain_of m.contents layers v) number (shown_array (plain_of m.contents layers v).origin (m.contents store.device)) (overflow_of overflow) (plain_of m.contents layers w)) (loud : is_loud (layers v.origin) ≡ true) where
      gained : IsGained m.contents layers m.size number overflow store v w
      gained = does.gained

      none : asks w ≡ []
      none = ap (λ (p : Plain). p.requests) taken.becomes ∙ quiet

      no_asks : (array : Option ℕ) (s : ℕ) (x : List ℕ) → IsSomeOf (GivesAsked array s x) (asks w) → ⊥
      no_asks array s x gives = subst (IsSomeOf (GivesAsked array s x)) none gives

      no_begun : w.merge ≡ None
      no_begun = ap (λ (y : Volumed B). y.merge) gained.becomes ∙ alone

      firm : IsFirm (holds w.origin) (m.contents w.origin) (m.size w.origin)
      firm = does.origin_firm loud

      origin_old : (s : ℕ) (x : List ℕ) → IsOpenIn holds m.size w None s x → IsOpenIn holds m.size v None s x
      origin_old s x may = (
        subst (λ n. s < n) gained.origin.size_is may.0,
        origin_before holds m.size v.origin w.origin v.merge w.merge gained.origin.size_is (λ s x lt there. does.origin_kept s x there) (merge_earlier v.merge w.merge (ap (λ (y : Volumed B). y.merge) gained.becomes)) s x may.1,
      )

      old_on : (f : Flushed) → is_not_of (Some number) f ≡ true → Holds holds m layers v f → Holds holds m layers w f
      old_on f t hold = record { shows = λ s x may. by f.array refl s x may; asked = λ s x gives. absurd (no_asks f.array s x gives) }
        where
          at : (n : ℕ) → f.array ≡ Some n → (s : ℕ) (x : List ℕ) → IsOpenIn holds m.size v (Some n) s x ⊎ (IsSomeOf (GivesAsked (Some n) s x) (asks v) ⊎ ((array : List ℕ) × TakesAs m.contents (Attach store chunk overflow) (Attached (Ok number)) (plain_of m.contents layers v) n array × (x ≡ sector_at array s))) → Allows f s x
          at n e s x (inl before) = hold.shows s x (subst (λ z. IsOpenIn holds m.size v z s x) (sym e) before)
          at n e s x (inr (inl gives)) = hold.asked s x (subst (λ z. IsSomeOf (GivesAsked z s x) (asks v)) (sym e) gives)
          at n e s x (inr (inr (array, takes, is))) =
              (let same : Attached (Ok number) ≡ Attached (Ok n) = takes.attached in
              let one : number ≡ n = cc in
              absurd (let mine : is_same f.array (Some number) ≡ true = same_true f.array (Some number) (e ∙ ap Some (sym one)) in false≢true (ap not (sym mine) ∙ t)))

          by : (a : Option ℕ) → f.array ≡ a → (s : ℕ) (x : List ℕ) → IsOpenIn holds m.size w f.array s x → Allows f s x
          by None e s x may = hold.shows s x (subst (λ z. IsOpenIn holds m.size v z s x) (sym e) (origin_old s x (subst (λ z. IsOpenIn holds m.size w z s x) e may)))
          by (Some n) e s x may = at n e s x (opens n s x (subst (λ z. IsOpenIn holds m.size w z s x) e may))

      abbrev pub base : Option ℕ → Flushed
      base array = noted_at array (plain_of m.contents layers w)

      its : (array : Option ℕ) → (base array).array ≡ array
      its array = writes_array (asks w) (record { array = array; bytes = []; since = [] })

      new_origin : Holds holds m layers w (with_bytes (plain_of m.contents layers w) (base None))
      new_origin = record {
        shows = λ s x may. disk_closed holds m layers whole here w no_begun firm (base None) (its None) s x (subst (λ z. IsOpenIn holds m.size w z s x) (its None) may);
        asked = λ s x gives. absurd (no_asks (base None).array s x gives);
      }

      shown : array_in (Some number) (plain_of m.contents layers w) ≡ shown_array (plain_of m.contents layers v).origin (m.contents store.device)
      shown = ap (λ (p : Plain). array_in (Some number) p) taken.becomes ∙ ap bytes_of (saved_last number (Live (shown_array (plain_of m.contents layers v).origin (m.contents store.device))) (overflow_of overflow) (plain_of m.contents layers v).saved fresh)

      new_snap : Holds holds m layers w (with_bytes (plain_of m.contents layers w) (base (Some number)))
      new_snap = record { shows = λ s x may. by s x (opens number s x (subst (λ z. IsOpenIn holds m.size w z s x) (its (Some number)) may)); asked = λ s x gives. absurd (no_asks (base (Some number)).array s x gives) }
        where
          by : (s : ℕ) (x : List ℕ) → IsOpenIn holds m.size v (Some number) s x ⊎ (IsSomeOf (GivesAsked (Some number) s x) (asks v) ⊎ ((array : List ℕ) × TakesAs m.contents (Attach store chunk overflow) (Attached (Ok number)) (plain_of m.contents layers v) number array × (x ≡ sector_at array s)))
              → Allows (with_bytes (plain_of m.contents layers w) (base (Some number))) s x
          by s x (inl before) = (let o = before.1 in absurd (gained.fresh o.place o.snap o.at.within (ap (λ (y : Kept B). y.number) (sym o.at.is) ∙ o.mine)))
          by s x (inr (inl gives)) = absurd (subst (IsSomeOf (GivesAsked (Some number) s x)) quiet gives)
          by s x (inr (inr (array, takes, is))) =
              let same : store ≡ takes.store = same_attach holds m layers store takes.store chunk takes.chunk overflow takes.overflow takes.attach in
              inl (inl (is ∙ ap (λ b. sector_at b s) (takes.shown ∙ ap (λ (d : StoreDev B). shown_array (plain_of m.contents layers v).origin (m.contents d.device)) (sym same) ∙ sym shown ∙ sym (ap (λ a. array_in a (plain_of m.contents layers w)) (its (Some number))))))

      pub attached_known : (h : History) → Known holds m layers v h
          → Known holds m layers w (record h { made = with_bytes (plain_of m.contents layers w) (base (Some number)) ∷ with_bytes (plain_of m.contents layers w) (base None) ∷ filter (is_not_of (Some number)) h.made })
      attached_known h known = record {
        made = (new_snap, (new_origin, each_filter (Holds holds m layers v) (Holds holds m layers w) (is_not_of (Some number)) h.made old_on known.made));
        asked = none_asked holds m layers v w h.asked quiet known.asked;
      }
