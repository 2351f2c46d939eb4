-- An event: what is noted of arrays that were made last holds after it, with what a flush that it answers makes last.
use Rattle.std.proofs.Common.{◌≡◌, ◌≢◌, ◌⊎◌, inl, inr, ℕ, ◌*◌, ◌/◌, ◌<◌, Bool, true, false, List, [], ◌∷◌, ◌++◌, filter, length, get_or, map, Option, None, Some, refl, sym, ◌∙◌, ap, subst}
use Rattle.std.specs.Prelude.{◌==◌, ◌&&◌, AllPairs, not, Ok}
use Rattle.std.specs.List.{list_all}
use Rattle.std.proofs.lemmas.Bool.{cases_Bool, cond-false, cond-true, eqb-true, eq-eqb, false≢true, true≢false}
use Rattle.sector.specs.Bytes.{sector_at}
use Rattle.device.specs.Layers.{Layer, is_loud}
use Rattle.plain_machine.specs.Plain.{InFlight, asked_under, without}
use Rattle.plain_machine.specs.declared.event.Event.{Event}
use Rattle.plain_machine.specs.declared.event.Event.TheVariants.{Issue, CopyRead, CopyWrite, ZeroNext, WriteArea, Publish, WriteInvalid, FlushStore, MergeGroup, MergeAreaRead, MergeRead, MergeWrite, MergeFlush, MergeCommit, MergeRelease}
use Rattle.plain_machine.specs.declared.event.Outcome.{Outcome}
use Rattle.plain_machine.specs.declared.event.Outcome.TheVariants.{Done as Silent, Fault, Reply as Replied}
use Rattle.plain_machine.specs.declared.request.Dev.{Dev}
use Rattle.plain_machine.specs.declared.request.Dev.TheVariants.{Origin as AtOrigin, Snap}
use Rattle.plain_machine.specs.declared.request.Reply.{Reply}
use Rattle.plain_machine.specs.declared.request.Reply.TheVariants.{Data, Written, Flushed as IsFlushed, Refused}
use Rattle.plain_machine.specs.declared.request.Request.{Request}
use Rattle.in_flight.specs.Kinds.{in_flight, kind_at, kind_of}
use Rattle.in_flight.specs.declared.flights.Flight.{Flight}
use Rattle.in_flight.specs.declared.flights.Kind.TheVariants.{OriginFlush}
use Rattle.in_flight.specs.declared.flights.Route.TheVariants.{Whole}
use Rattle.event_machine.specs.Held.{Going, MergeHeld, Moving}
use Rattle.event_machine.specs.MergeSeen.{held_in}
use Rattle.event_machine.specs.MergeStepping.{stepped_all}
use Rattle.event_machine.specs.Seen.{going_of, replied_by}
use Rattle.event_machine.specs.Stepping.{first_that}
use Rattle.crash_laws.specs.Firm.{IsFirm}
use Rattle.snapshot.specs.Kept.{Kept}
use Rattle.snapshot_list.specs.Numbers.{number_of_snap}
use Rattle.merge.specs.Merging.{Merging}
use Rattle.volume.specs.AddedUp.{GivesAsked, IsOpenIn, IsSomeOf}
use Rattle.volume.specs.Causes.{counts_of}
use Rattle.volume.specs.Closing.{ClosesArray, ClosesBy, ClosesMerging}
use Rattle.volume.specs.DoesStep.{DoesStep}
use Rattle.volume.specs.Flying.{IsFlown}
use Rattle.volume.specs.Layering.{Measures}
use Rattle.volume.specs.Moved.{merge_seen, moving_of}
use Rattle.volume.specs.Stepping.{merged_of}
use Rattle.volume.specs.Stopping.{IsOut, StopsOrigin, StopsVolume, array_of, given_by}
use Rattle.volume.specs.Volumed.{Volumed, is_loud_in_all, is_loud_with, plain_of}
use Rattle.volume.proofs.Opened.{event_sectors}
use Rattle.volume.proofs.OpenedCalls.{opens_stepped}
use Rattle.volume.proofs.LastCloses.{origin_dev}
use Rattle.volume.proofs.Shown.{and_right}
use Rattle.volume_lifetime.specs.Flushed.{Allows, Asked, Flushed, History, answered, issued, not_of, of_number, stepped_on, will_of, with_bytes}
use Rattle.volume_lifetime.proofs.Closes.{disk_closed, merging_closed, origin_loud, out_closed, snap_answered}
use Rattle.volume_lifetime.proofs.Histories.{EachOf, Fewer, Follows, HalfOf, Holds, Known, MergeFollows, Pends, Waits, allows_bytes, each_append, each_as, each_filter, each_map, fewer_flown, flipped, given_some, half_more, half_on, holds_on, known_on, opened_of, pends_on, under_without}
use Rattle.volume_lifetime.proofs.Routes.{event_keeps, merging_unanswered}

-- of a merge's number and chunk
abbrev chunk_in : Option (ℕ × ℕ) → ℕ
chunk_in None = 0
chunk_in (Some p) = p.1

not_is : (b : Bool) → not b ≡ true → b ≡ false
not_is true e = sym e
not_is false e = refl

same_number : (a b : ℕ) → Issue a ≡ Issue b → a ≡ b
same_number a b e = cc

module _ {B : Type 0} (holds : B → ℕ → List ℕ → Type 0) (m : Measures B) (layers : B → List Layer) (whole : (d : B) → length (m.contents d) ≡ 512 * m.size d) (here : (d : B) (s : ℕ) → s < m.size d → holds d s (sector_at (m.contents d) s)) where
  merge_by : (given : _) (o o' : B) (x y : Option (Merging B)) → merged_of y ≡ merged_of x → StopsOrigin holds m.size given o o' x y → MergeFollows holds m layers x y
  merge_by given o o' None None e stops = tt
  merge_by given o o' None (Some g) e stops = absurd (let no : Some (g.number, g.state.chunk) ≡ None = e in cc)
  merge_by given o o' (Some g) None e stops = absurd stops
  merge_by given o o' (Some g) (Some g') e stops = (ap chunk_in e, stops.2)

  module _ (event : Event) (outcome : Outcome) (v w : Volumed B) (loud : is_loud_in_all layers v ≡ true) (does : DoesStep holds m.contents layers m.size m.faults m.done true event (Ok outcome) v w)
      (unique : AllPairs (λ a b. a < b) (map number_of_snap w.snaps)) (some : (g : Merging B) → w.merge ≡ Some g → 0 < g.state.chunk) where
    loud_w : is_loud_in_all layers w ≡ true
    loud_w = does.loud ∙ loud

    pub follows : Follows holds m layers v w
    follows = record {
      sectors = event_sectors holds m.size (given_by event (map in_flight v.flights)) v w does.kept (does.stops loud);
      opened = opened_of holds m layers v w (opens_stepped holds m.contents layers m.size [] event (Ok outcome) m.faults m.done v w whole here loud does);
      merge = merge_by (given_by event (map in_flight v.flights)) v.origin w.origin v.merge w.merge does.kept.merged (does.stops loud).origin;
    }

    fewer : Fewer holds m layers v w
    fewer array s x gives = fewer_flown event outcome (map in_flight v.flights) (map in_flight w.flights) does.flown (GivesAsked array s x) gives

    -- a flush of the origin that did not begin, through the Issue of another
    still_waits : (n : ℕ) → ((k : ℕ) → event ≡ Issue k → (k == n) ≡ false) → Waits holds m layers v n → Waits holds m layers w n
    still_waits n ne waits = record {
      going = waits.going;
      first = sym (ap (λ (u : Moving). first_that (λ (k : Going). k.number == n) u.requests) (does.exact.step loud None)) ∙ event_keeps n event (moving_of m.contents layers None v) ne waits.going waits.first waits.kind;
      whole = waits.whole;
      kind = waits.kind;
    }

    same_event : (k j : ℕ) → event ≡ Issue k → event ≡ Issue j → k ≡ j
    same_event k j a b = same_number k j (sym a ∙ b)

    other_event : (k n : ℕ) → event ≡ Issue k → (k == n) ≡ false → (j : ℕ) → event ≡ Issue j → (j == n) ≡ false
    other_event k n is ne j ej = ap (λ i. i == n) (sym (same_event k j is ej)) ∙ ne

    store_loud : (g : Merging B) → w.merge ≡ Some g → is_loud (layers g.device) ≡ true
    store_loud g is = (let others : Bool = is_loud (layers w.origin) && list_all (λ (s : Kept B). is_loud (layers s.device)) w.snaps in and_right others (is_loud (layers g.device)) (ap (λ (x : Option (Merging B)). is_loud_with layers x others) (sym is) ∙ loud_w))

    made_on : (made : List Flushed) → EachOf (Holds holds m layers v) made → EachOf (Holds holds m layers w) made
    made_on made all = each_as (Holds holds m layers v) (Holds holds m layers w) made (λ f. holds_on holds m layers v w f follows.opened fewer) all

    -- a flush in flight, through the Issue of another
    other_pends : (k : ℕ) (a : Asked) → event ≡ Issue k → (k == a.number) ≡ false → asked_under a.number (map in_flight w.flights) ≡ asked_under a.number (map in_flight v.flights) → Pends holds m layers v a → Pends holds m layers w a
    other_pends k a is ne same p = pends_on holds m layers v w a follows (still_waits a.number (other_event k a.number is ne)) fewer same p

    -- One that is answered.
    module _ (k : ℕ) (is : event ≡ Issue k) (a : Asked) (p : Pends holds m layers v a) (mine : (a.number == k) ≡ true) where
      number : a.number ≡ k
      number = eqb-true a.number k mine

      under : asked_under k (map in_flight v.flights) ≡ Some p.request
      under = subst (λ n. asked_under n (map in_flight v.flights) ≡ Some p.request) number p.under

      module _ (out : outcome ≡ Replied k IsFlushed) where
        closes : ClosesArray holds m.contents layers m.size p.request.dev w.origin w.snaps
        closes = subst (λ o. ClosesBy holds m.contents layers m.size (Issue k) o (map in_flight v.flights) w) out (subst (λ e. ClosesBy holds m.contents layers m.size e outcome (map in_flight v.flights) w) is does.closes) p.request under

        unanswered : (g : Merging B) → v.merge ≡ Some g → Waits holds m layers v a.number → ⊥
        unanswered g at waits =
            let its : Waits holds m layers v k = subst (Waits holds m layers v) number waits in
            merging_unanswered k (moving_of m.contents layers None v) its.going _ its.first its.whole (origin_dev its.going.request.dev its.going.request.op its.kind) (ap (λ z. held_in (merge_seen m.contents layers z)) at) refl
            (ap (λ (u : Moving). u.replied) (subst (λ e. stepped_all e (moving_of m.contents layers None v) ≡ moving_of m.contents layers (replied_by outcome None) w) is (does.exact.step loud None)) ∙ ap (λ o. replied_by o None) out)

        at_origin : a.will.array ≡ None → IsFirm (holds w.origin) (m.contents w.origin) (m.size w.origin) → (s : ℕ) (x : List ℕ) → IsOpenIn holds m.size w None s x → Allows (with_bytes (plain_of m.contents layers w) a.will) s x
        at_origin none firm s x may = by v.merge w.merge refl refl follows.merge (p.half none)
          where
            more : Allows a.will s x → Allows (with_bytes (plain_of m.contents layers w) a.will) s x
            more = allows_bytes (plain_of m.contents layers w) a.will s x

            by : (y z : Option (Merging B)) → v.merge ≡ y → w.merge ≡ z → MergeFollows holds m layers y z → HalfOf holds m layers v a y → Allows (with_bytes (plain_of m.contents layers w) a.will) s x
            by None None ev ew f half = disk_closed holds m layers whole here w ew firm a.will none s x may
            by None (Some g) ev ew f half = absurd f
            by (Some g) None ev ew f half = absurd f
            by (Some g) (Some g') ev ew f (inl waits) = absurd (unanswered g ev waits)
            by (Some g) (Some g') ev ew f (inr each) = elim (each s (subst (λ n. s < n) follows.sectors may.0)) [
              | inl closed ↦ more (elim (follows.opened None s x may) [ inl before ↦ closed x before | inr gives ↦ p.asked s x (subst (λ o. IsSomeOf (GivesAsked o s x) (map in_flight v.flights)) (sym none) gives) ])
              | inr gone ↦ out_closed holds m layers whole here w g' ew (some g' ew) firm a.will none s x (subst (λ c. IsOut holds m.size c g'.device (s / c)) (sym f.0) (f.1 (s / g.state.chunk) gone)) may
            ]

        by_dev : (dev : Dev) → p.request.dev ≡ dev → (s : ℕ) (x : List ℕ) → IsOpenIn holds m.size w a.will.array s x → Allows (with_bytes (plain_of m.contents layers w) a.will) s x
        by_dev AtOrigin at s x may =
            let none : a.will.array ≡ None = sym p.array ∙ ap array_of at in
            at_origin none (subst (λ d. ClosesArray holds m.contents layers m.size d w.origin w.snaps) at closes (origin_loud holds m layers whole here w loud_w)) s x (subst (λ o. IsOpenIn holds m.size w o s x) none may)
        by_dev (Snap n) at s x may =
            let its : a.will.array ≡ Some n = sym p.array ∙ ap array_of at in
            snap_answered holds m layers whole here w loud_w unique n a.will its (subst (λ d. ClosesArray holds m.contents layers m.size d w.origin w.snaps) at closes) s x (subst (λ o. IsOpenIn holds m.size w o s x) its may)

        pub answered_holds : Holds holds m layers w (with_bytes (plain_of m.contents layers w) a.will)
        answered_holds = record {
          shows = by_dev p.request.dev refl;
          asked = λ s x gives. allows_bytes (plain_of m.contents layers w) a.will s x (p.asked s x (fewer a.will.array s x gives));
        }

      -- the first Issue of two
      module _ (out : outcome ≡ Silent) (same : map in_flight w.flights ≡ map in_flight v.flights) where
        firm_store : (g : Merging B) → w.merge ≡ Some g → IsFirm (holds g.device) (m.contents g.device) (m.size g.device)
        firm_store g at =
            let closes : ClosesMerging holds m.contents layers m.size w.merge = subst (λ o. ClosesBy holds m.contents layers m.size (Issue k) o (map in_flight v.flights) w) out (subst (λ e. ClosesBy holds m.contents layers m.size e outcome (map in_flight v.flights) w) is does.closes) in
            subst (ClosesMerging holds m.contents layers m.size) at closes (store_loud g at)

        pub began : Pends holds m layers w (record a { will = with_bytes (plain_of m.contents layers w) a.will })
        began = record {
          request = p.request;
          under = ap (asked_under a.number) same ∙ p.under;
          flush = p.flush;
          array = p.array;
          asked = λ s x gives. allows_bytes (plain_of m.contents layers w) a.will s x (p.asked s x (fewer a.will.array s x gives));
          half = λ none. by none w.merge refl;
        }
          where
            by : a.will.array ≡ None → (z : Option (Merging B)) → w.merge ≡ z → HalfOf holds m layers w (record a { will = with_bytes (plain_of m.contents layers w) a.will }) z
            by none None at = tt
            by none (Some g) at = inr (λ s lt. merging_closed holds m layers whole here w g at (some g at) (firm_store g at) a.will none s lt)

    -- what a reply leaves asked, and what it makes last
    asked_left : (k : ℕ) (reply : Reply) (asked : List Asked) → event ≡ Issue k → outcome ≡ Replied k reply → EachOf (Pends holds m layers v) asked → EachOf (Pends holds m layers w) (filter (not_of k) asked)
    asked_left k reply asked is out all =
        let gone : map in_flight w.flights ≡ without k (map in_flight v.flights) = (subst (λ o. IsFlown event o (map in_flight v.flights) (map in_flight w.flights)) out does.flown).1.gone in
        each_filter (Pends holds m layers v) (Pends holds m layers w) (not_of k) asked
        (λ a t p. (let ne : (k == a.number) ≡ false = flipped a.number k (not_is (a.number == k) t) in other_pends k a is ne (ap (asked_under a.number) gone ∙ under_without a.number k (map in_flight v.flights) ne) p)) all

    made_last : (k : ℕ) (asked : List Asked) → event ≡ Issue k → outcome ≡ Replied k IsFlushed → EachOf (Pends holds m layers v) asked
        → EachOf (Holds holds m layers w) (map will_of (filter (of_number k) (map (issued k (plain_of m.contents layers w)) asked)))
    made_last k asked is out all =
        each_map (λ a. Holds holds m layers w a.will) (Holds holds m layers w) will_of (filter (of_number k) (map (issued k (plain_of m.contents layers w)) asked)) (λ a h. h)
        (each_filter If (λ a. Holds holds m layers w a.will) (of_number k) (map (issued k (plain_of m.contents layers w)) asked) (λ a t h. h t)
        (each_map (Pends holds m layers v) If (issued k (plain_of m.contents layers w)) asked one all))
      where
        If : Asked → Type 0
        If a = (a.number == k) ≡ true → Holds holds m layers w a.will

        one : (a : Asked) → Pends holds m layers v a → If (issued k (plain_of m.contents layers w) a)
        one a p = elim (cases_Bool (a.number == k)) [
          | inl mine ↦ subst If (sym (cond-true _ _ _ mine)) (λ again. answered_holds k is a p mine out)
          | inr other ↦ subst If (sym (cond-false _ _ _ other)) (λ mine. absurd (true≢false (sym mine ∙ other)))
        ]

    -- a reply
    replied_known : (k : ℕ) (reply : Reply) (h : History) → event ≡ Issue k → outcome ≡ Replied k reply → Known holds m layers v h → Known holds m layers w (answered k reply (plain_of m.contents layers w) h)
    replied_known k IsFlushed h is out known = record {
      made = each_append (Holds holds m layers w) (map will_of (filter (of_number k) (map (issued k (plain_of m.contents layers w)) h.asked))) h.made (made_last k h.asked is out known.asked) (made_on h.made known.made);
      asked = asked_left k IsFlushed h.asked is out known.asked;
    }
    replied_known k (Data bytes) h is out known = record { made = made_on h.made known.made; asked = asked_left k (Data bytes) h.asked is out known.asked }
    replied_known k Written h is out known = record { made = made_on h.made known.made; asked = asked_left k Written h.asked is out known.asked }
    replied_known k (Refused failure) h is out known = record { made = made_on h.made known.made; asked = asked_left k (Refused failure) h.asked is out known.asked }

    -- the first Issue of a flush of the origin beside a merge
    began_known : (k : ℕ) (h : History) → event ≡ Issue k → outcome ≡ Silent → map in_flight w.flights ≡ map in_flight v.flights → Known holds m layers v h → Known holds m layers w (record h { asked = map (issued k (plain_of m.contents layers w)) h.asked })
    began_known k h is out same known = record {
      made = made_on h.made known.made;
      asked = each_map (Pends holds m layers v) (Pends holds m layers w) (issued k (plain_of m.contents layers w)) h.asked one known.asked;
    }
      where
        one : (a : Asked) → Pends holds m layers v a → Pends holds m layers w (issued k (plain_of m.contents layers w) a)
        one a p = elim (cases_Bool (a.number == k)) [
          | inl mine ↦ subst (Pends holds m layers w) (sym (cond-true _ _ _ mine)) (began k is a p mine out same)
          | inr other ↦ subst (Pends holds m layers w) (sym (cond-false _ _ _ other)) (other_pends k a is (flipped a.number k other) (ap (asked_under a.number) same) p)
        ]

    -- any other event
    silent_known : (h : History) → ((k : ℕ) → event ≡ Issue k → ⊥) → map in_flight w.flights ≡ map in_flight v.flights → Known holds m layers v h → Known holds m layers w h
    silent_known h none same known = known_on holds m layers v w h follows (λ n. still_waits n (λ k e. absurd (none k e))) same known

  pub step_known : (event : Event) (outcome : Outcome) (v w : Volumed B) → is_loud_in_all layers v ≡ true → DoesStep holds m.contents layers m.size m.faults m.done true event (Ok outcome) v w → AllPairs (λ a b. a < b) (map number_of_snap w.snaps) → ((g : Merging B) → w.merge ≡ Some g → 0 < g.state.chunk) → (h : History) → Known holds m layers v h
      → Known holds m layers w (stepped_on event outcome (plain_of m.contents layers w) h)
  step_known event (Replied k reply) v w loud does unique some h known = replied_known event (Replied k reply) v w loud does unique some k reply h does.flown.0 refl known
  step_known (Issue k) Silent v w loud does unique some h known = began_known (Issue k) Silent v w loud does unique some k h refl refl does.flown.same known
  step_known (Issue k) Fault v w loud does unique some h known = absurd does.flown
  step_known (CopyRead n) Silent v w loud does unique some h known = silent_known (CopyRead n) Silent v w loud does unique some h (λ k e. cc) does.flown known
  step_known (CopyRead n) Fault v w loud does unique some h known = silent_known (CopyRead n) Fault v w loud does unique some h (λ k e. cc) does.flown known
  step_known (CopyWrite n) Silent v w loud does unique some h known = silent_known (CopyWrite n) Silent v w loud does unique some h (λ k e. cc) does.flown known
  step_known (CopyWrite n) Fault v w loud does unique some h known = silent_known (CopyWrite n) Fault v w loud does unique some h (λ k e. cc) does.flown known
  step_known (ZeroNext n) Silent v w loud does unique some h known = silent_known (ZeroNext n) Silent v w loud does unique some h (λ k e. cc) does.flown known
  step_known (ZeroNext n) Fault v w loud does unique some h known = silent_known (ZeroNext n) Fault v w loud does unique some h (λ k e. cc) does.flown known
  step_known (WriteArea n) Silent v w loud does unique some h known = silent_known (WriteArea n) Silent v w loud does unique some h (λ k e. cc) does.flown known
  step_known (WriteArea n) Fault v w loud does unique some h known = silent_known (WriteArea n) Fault v w loud does unique some h (λ k e. cc) does.flown known
  step_known (Publish n) Silent v w loud does unique some h known = silent_known (Publish n) Silent v w loud does unique some h (λ k e. cc) does.flown known
  step_known (Publish n) Fault v w loud does unique some h known = silent_known (Publish n) Fault v w loud does unique some h (λ k e. cc) does.flown known
  step_known (WriteInvalid n) Silent v w loud does unique some h known = silent_known (WriteInvalid n) Silent v w loud does unique some h (λ k e. cc) does.flown known
  step_known (WriteInvalid n) Fault v w loud does unique some h known = silent_known (WriteInvalid n) Fault v w loud does unique some h (λ k e. cc) does.flown known
  step_known (FlushStore n) Silent v w loud does unique some h known = silent_known (FlushStore n) Silent v w loud does unique some h (λ k e. cc) does.flown known
  step_known (FlushStore n) Fault v w loud does unique some h known = silent_known (FlushStore n) Fault v w loud does unique some h (λ k e. cc) does.flown known
  step_known MergeGroup Silent v w loud does unique some h known = silent_known MergeGroup Silent v w loud does unique some h (λ k e. cc) does.flown known
  step_known MergeGroup Fault v w loud does unique some h known = silent_known MergeGroup Fault v w loud does unique some h (λ k e. cc) does.flown known
  step_known MergeAreaRead Silent v w loud does unique some h known = silent_known MergeAreaRead Silent v w loud does unique some h (λ k e. cc) does.flown known
  step_known MergeAreaRead Fault v w loud does unique some h known = silent_known MergeAreaRead Fault v w loud does unique some h (λ k e. cc) does.flown known
  step_known MergeRead Silent v w loud does unique some h known = silent_known MergeRead Silent v w loud does unique some h (λ k e. cc) does.flown known
  step_known MergeRead Fault v w loud does unique some h known = silent_known MergeRead Fault v w loud does unique some h (λ k e. cc) does.flown known
  step_known MergeWrite Silent v w loud does unique some h known = silent_known MergeWrite Silent v w loud does unique some h (λ k e. cc) does.flown known
  step_known MergeWrite Fault v w loud does unique some h known = silent_known MergeWrite Fault v w loud does unique some h (λ k e. cc) does.flown known
  step_known MergeFlush Silent v w loud does unique some h known = silent_known MergeFlush Silent v w loud does unique some h (λ k e. cc) does.flown known
  step_known MergeFlush Fault v w loud does unique some h known = silent_known MergeFlush Fault v w loud does unique some h (λ k e. cc) does.flown known
  step_known MergeCommit Silent v w loud does unique some h known = silent_known MergeCommit Silent v w loud does unique some h (λ k e. cc) does.flown known
  step_known MergeCommit Fault v w loud does unique some h known = silent_known MergeCommit Fault v w loud does unique some h (λ k e. cc) does.flown known
  step_known MergeRelease Silent v w loud does unique some h known = silent_known MergeRelease Silent v w loud does unique some h (λ k e. cc) does.flown known
  step_known MergeRelease Fault v w loud does unique some h known = silent_known MergeRelease Fault v w loud does unique some h (λ k e. cc) does.flown known
