-- A flush of the origin beside a merge, in a volume in which nothing was in flight: the first event that is done is its first Issue, which
-- flushes the merging store; so each sector is taken from there and closed, or is in no list of the store, and stays so until the
-- second Issue closes the disk.
use Rattle.std.proofs.Common.{◌≡◌, ◌≢◌, ◌⊎◌, inl, inr, ℕ, ◌*◌, ◌/◌, ◌<◌, Bool, true, false, List, [], ◌∷◌, length, map, Option, None, Some, refl, sym, ◌∙◌, ap, subst, arith}
use Rattle.std.specs.Prelude.{◌==◌, ◌&&◌, AllPairs, if◌then◌else◌}
use Rattle.std.specs.List.{list_all}
use Rattle.std.proofs.lemmas.Bool.{cond-true}
use Rattle.sector.specs.Bytes.{sector_at}
use Rattle.sector.specs.declared.range.Range.{Range}
use Rattle.device.specs.Layers.{Layer, is_loud}
use Rattle.device.specs.declared.operation.Operation.TheVariants.{Flushes}
use Rattle.cow_format.specs.Pairs.{pairs_of}
use Rattle.cow_format.specs.Picture.{picture, place_of}
use Rattle.crash_laws.specs.Again.{IsOpen}
use Rattle.crash_laws.specs.Stop.{MayLeave}
use Rattle.crash_laws.proofs.Open.{sector_plain}
use Rattle.cache_loss_laws.specs.Lost.{IsFirmOn}
use Rattle.cache_loss_laws.proofs.Closing.{firm_same, store_closes}
use Rattle.plain_machine.specs.Kept.{kept}
use Rattle.plain_machine.specs.Plain.{InFlight}
use Rattle.plain_machine.specs.Failures.{refusal_of}
use Rattle.plain_machine.specs.declared.event.Event.{Event}
use Rattle.plain_machine.specs.declared.event.Event.TheVariants.{Issue}
use Rattle.plain_machine.specs.declared.event.Outcome.{Outcome}
use Rattle.plain_machine.specs.declared.event.Outcome.TheVariants.{Done, Fault, Reply as Answered}
use Rattle.plain_machine.specs.declared.request.Dev.{Dev}
use Rattle.plain_machine.specs.declared.request.Dev.TheVariants.{Origin as ToOrigin, Snap as ToSnap}
use Rattle.plain_machine.specs.declared.request.Failure.{Failure}
use Rattle.plain_machine.specs.declared.request.Failure.TheVariants.{Io}
use Rattle.plain_machine.specs.declared.request.Op.{Op}
use Rattle.plain_machine.specs.declared.request.Op.TheVariants.{Flush}
use Rattle.plain_machine.specs.declared.request.Reply.{Reply}
use Rattle.plain_machine.specs.declared.request.Reply.TheVariants.{Flushed, Refused}
use Rattle.plain_machine.specs.declared.request.Request.{Request}
use Rattle.in_flight.specs.Kinds.{in_flight}
use Rattle.in_flight.specs.declared.flights.Route.TheVariants.{Origin, Whole}
use Rattle.whole_commands.specs.Devices.{answers, met}
use Rattle.whole_commands.proofs.Each.{Each, each_from, each_weaker}
use Rattle.event_machine.specs.Due.{due}
use Rattle.event_machine.specs.Held.{Going, MergeHeld, Moving, on_device, with_merge}
use Rattle.event_machine.specs.MergeDue.{due_all}
use Rattle.event_machine.specs.MergeRest.{IsBetween}
use Rattle.event_machine.specs.MergeStepping.{stepped_all}
use Rattle.event_machine.specs.Rest.{IsResting}
use Rattle.event_machine.specs.Stepping.{answer, for_some, issue, with_first}
use Rattle.event_machine.specs.Submitting.{submitted}
use Rattle.event_machine.proofs.Around.{IsIdle, at_with, due_request}
use Rattle.event_machine.proofs.Lists.{same_number}
use Rattle.whole_command_laws.proofs.Primed.{resting_idle}
use Rattle.snapshot.specs.Kept.{Kept}
use Rattle.snapshot_list.specs.Numbers.{number_of_snap}
use Rattle.merge.specs.Merging.{Merging}
use Rattle.volume.specs.AddedUp.{GivesAsked, IsOpenIn, IsOpenOrigin, IsSomeOf}
use Rattle.volume.specs.Closing.{ClosesArray, ClosesMerging}
use Rattle.volume.specs.Moved.{moving_of}
use Rattle.volume.specs.Stepping.{merged_of}
use Rattle.volume.specs.Stopping.{IsOut, StopsOrigin, array_of, given_by}
use Rattle.volume.specs.Volumed.{Volumed, is_loud_in_all, is_loud_with}
use Rattle.volume.proofs.Opened.{event_sectors}
use Rattle.volume.proofs.Shown.{and_right, loud_books}
use Rattle.counted_volume.specs.DoneDue.{AreDone, AreDoneDue, IsDoneDue, last_told, told_by}
use Rattle.volume_commands.specs.Among.{IsRequestOf, flush_piece}
use Rattle.volume_commands.specs.AtRest.{IsAnswered, IsEntered, IsLed}
use Rattle.volume_commands.specs.Closing.{IsClosed}
use Rattle.volume_commands.proofs.AtRest.{AtMost, entered_few, one_answered, refused_none}
use Rattle.volume_commands.proofs.Closing.{answered_closes, few_next, flush_closes, none_given, none_told, opens_less, refused_flushed, told_case}

-- the request, and the machine with it alone in flight
abbrev pub flush_of : Range → Request
flush_of range = record { dev = ToOrigin; op = Flush; range = range }

abbrev pub flying_of : ℕ → Range → Going
flying_of number range = record { number = number; request = kept (flush_of range); route = Whole }

abbrev pub mine : ℕ → Going → Bool
mine n k = k.number == n

abbrev pub begun_at : ℕ → Range → MergeHeld → Moving → Moving
begun_at number range h v = at_with (Some h) v.origin v.snaps (flying_of number range ∷ []) v.replied v.started

module _ (sectors number : ℕ) (range : Range) (v : Moving) (h : MergeHeld) (rest : IsBetween sectors v) (is : v.merge ≡ Some h) where
  begun : submitted number (flush_of range) v ≡ begun_at number range h v
  begun = ap (λ (m : Option MergeHeld). submitted number (flush_of range) (record v { merge = m })) is ∙ ap (λ (rs : List Going). submitted number (flush_of range) (at_with (Some h) v.origin v.snaps rs v.replied v.started)) rest.requests

  idle : Each IsIdle v.snaps
  idle = each_weaker (IsResting sectors) IsIdle v.snaps (resting_idle sectors) (each_from (IsResting sectors) v.snaps rest.snaps)

  due_here : due (begun_at number range h v) ≡ Some (Issue number)
  due_here = due_request v.origin v.snaps (flying_of number range ∷ []) v.replied v.started idle (Some number) refl

  -- its Issue is due first
  pub first_issue : (event : Event) → due_all (submitted number (flush_of range) v) ≡ Some event → event ≡ Issue number
  first_issue event first =
      let all : due_all (begun_at number range h v) ≡ Some (Issue number) = first_or (begun_at number range h v) (Issue number) due_here in
      let same : Some event ≡ Some (Issue number) = sym first ∙ ap due_all begun ∙ all in
      cc
    where
      first_or : (m : Moving) (e : Event) (d : due m ≡ Some e) → due_all m ≡ Some e
      first_or m e d = rw d refl

  not_flushed : (b : Bool) (x y : Moving) (failure : Failure) → x.replied ≡ Some (Refused failure) → y.replied ≡ Some (Refused Io) → (if b then x else y).replied ≡ Some Flushed → ⊥
  not_flushed true x y failure a c e = (let no : Some (Refused failure) ≡ Some Flushed = sym a ∙ e in cc)
  not_flushed false x y failure a c e = (let no : Some (Refused Io) ≡ Some Flushed = sym c ∙ e in cc)

  -- and does not answer that it is flushed
  pub first_unanswered : (failure : Failure) → v.replied ≡ Some (Refused failure) → (stepped_all (Issue number) (submitted number (flush_of range) v)).replied ≡ Some Flushed → ⊥
  first_unanswered failure before told =
      let m : Moving = begun_at number range h v in
      let r : Going = flying_of number range in
      let found : stepped_all (Issue number) m ≡ issue Whole (mine number) r m =
      ap (λ (o : Option Going). for_some o (λ (x : Going). issue x.route (mine number) x m) m) (cond-true _ _ _ (same_number number true)) in
      let w : Moving = with_merge (on_device h (met h.merge.store Flushes)) m in
      not_flushed (answers h.merge.store Flushes) (record w { requests = with_first (mine number) (record r { route = Origin }) w.requests }) (answer (mine number) (Refused Io) w) failure before refl
      (sym (ap (λ (x : Moving). (stepped_all (Issue number) x).replied) begun ∙ ap (λ (x : Moving). x.replied) found) ∙ told)

some_merged : {B : Type 0} (o : Option (Merging B)) (p : ℕ × ℕ) → merged_of o ≡ Some p → (m : Merging B) × (o ≡ Some m) × (m.state.chunk ≡ p.1)
some_merged None p e = absurd (let no : None ≡ Some p = e in cc)
some_merged (Some m) p e = (m, refl, (let same : (m.number, m.state.chunk) ≡ p = cc in ap (λ (q : ℕ × ℕ). q.1) same))

module _ {B : Type 0} (holds : B → ℕ → List ℕ → Type 0) (contents : B → List ℕ) (layers : B → List Layer) (faults size : B → ℕ) (whole : (d : B) → length (contents d) ≡ 512 * size d) (here : (d : B) (s : ℕ) → s < size d → holds d s (sector_at (contents d) s)) where
  leaves : (d : B) → MayLeave (holds d) (size d) (contents d)
  leaves d = record { whole = whole d; each = here d }

  -- each sector of the origin's array is closed, or its chunk is in no list that may be left of the merging store
  abbrev Half : Volumed B → Merging B → Type 0
  Half w m = (s : ℕ) → s < size w.origin → ((x y : List ℕ) → IsOpenIn holds size w None s x → IsOpenIn holds size w None s y → x ≡ y) ⊎ IsOut holds size m.state.chunk m.device (s / m.state.chunk)

  module _ (w : Volumed B) (m : Merging B) (is : w.merge ≡ Some m) (pos : 0 < m.state.chunk) where
    shows : (s : ℕ) (x : List ℕ) → IsOpenIn holds size w None s x → IsOpen m.state.chunk (holds w.origin) (holds m.device) (size w.origin) (size m.device) s x
    shows s x may = subst (λ o. IsOpenOrigin holds size w.origin o s x) is may.1

    half_first : IsFirmOn holds contents size m.device → Half w m
    half_first firm s lt = by (place_of (pairs_of m.state.chunk (contents m.device)) (s / m.state.chunk)) refl
      where
        only : (c : List ℕ) → MayLeave (holds m.device) (size m.device) c → c ≡ contents m.device
        only c left = firm_same (holds m.device) (contents m.device) c (size m.device) (whole m.device) firm left

        by : (p : Option ℕ) → place_of (pairs_of m.state.chunk (contents m.device)) (s / m.state.chunk) ≡ p → ((x y : List ℕ) → IsOpenIn holds size w None s x → IsOpenIn holds size w None s y → x ≡ y) ⊎ IsOut holds size m.state.chunk m.device (s / m.state.chunk)
        by None at = inr (λ d left. ap (λ b. place_of (pairs_of m.state.chunk b) (s / m.state.chunk)) (only d left) ∙ at)
        by (Some n) at = inl (λ x y mx my. one x mx ∙ sym (one y my))
          where
            one : (z : List ℕ) → IsOpenIn holds size w None s z → z ≡ sector_at (picture m.state.chunk (contents w.origin) (contents m.device)) s
            one z may = store_closes m.state.chunk (size w.origin) (size m.device) (holds w.origin) (holds m.device) (contents w.origin) (contents m.device) pos (leaves w.origin) (leaves m.device) firm s z lt
                (λ o c lo lc e. (let no : Some n ≡ None = sym at ∙ ap (λ b. place_of (pairs_of m.state.chunk b) (s / m.state.chunk)) (sym (only c lc)) ∙ e in cc)) (shows s z may)

    half_closes : Half w m → IsFirmOn holds contents size w.origin → IsClosed holds size w None
    half_closes half firm s x y mx my = elim (half s mx.0) [
      | inl closed ↦ closed x y mx my
      | inr out ↦ one out x mx ∙ sym (one out y my)
    ]
      where
        one : IsOut holds size m.state.chunk m.device (s / m.state.chunk) → (z : List ℕ) → IsOpenIn holds size w None s z → z ≡ sector_at (contents w.origin) s
        one out z may =
            let o = shows s z may in
            o.is ∙ sector_plain m.state.chunk (size w.origin) s o.origin o.store (pairs_of m.state.chunk o.store) pos o.origin_left.whole may.0 refl (out o.store o.store_left)
            ∙ ap (λ b. sector_at b s) (firm_same (holds w.origin) (contents w.origin) o.origin (size w.origin) (whole w.origin) firm o.origin_left)

  module _ (event : Event) (outcome : Outcome) (v w : Volumed B) (m : Merging B) (is : v.merge ≡ Some m) (loud : is_loud_in_all layers v ≡ true) (did : IsDoneDue holds contents layers faults size event outcome v w)
      (none : (array : Option ℕ) (s : ℕ) (x : List ℕ) → IsSomeOf (GivesAsked array s x) (map in_flight v.flights) → ⊥) where
    -- a merge stays begun
    merge_next : (m' : Merging B) × (w.merge ≡ Some m') × (m'.state.chunk ≡ m.state.chunk)
    merge_next = some_merged w.merge (m.number, m.state.chunk) (did.kept.merged ∙ ap merged_of is)

    half_next : (m' : Merging B) → w.merge ≡ Some m' → m'.state.chunk ≡ m.state.chunk → Half v m → Half w m'
    half_next m' next chunk half s lt = elim (half s (let so = event_sectors holds size (given_by event (map in_flight v.flights)) v w did.kept (did.stops loud) in omega (arith, lt, so))) [
      | inl closed ↦ inl (λ x y mx my. closed x y (opens_less holds contents layers faults size whole here event outcome v w loud did none None s x mx) (opens_less holds contents layers faults size whole here event outcome v w loud did none None s y my))
      | inr out ↦ inr (subst (λ c. IsOut holds size c m'.device (s / c)) (sym chunk) (stays (s / m.state.chunk) out))
    ]
      where
        origin : StopsOrigin holds size (given_by event (map in_flight v.flights)) v.origin w.origin (Some m) (Some m')
        origin = subst (λ o. StopsOrigin holds size (given_by event (map in_flight v.flights)) v.origin w.origin (Some m) o) next (subst (λ o. StopsOrigin holds size (given_by event (map in_flight v.flights)) v.origin w.origin o w.merge) is (did.stops loud).origin)

        stays : (c : ℕ) → IsOut holds size m.state.chunk m.device c → IsOut holds size m.state.chunk m'.device c
        stays = origin.2

  module _ (own : InFlight) (flush : own.request.op ≡ Flush) (dev : own.request.dev ≡ ToOrigin) where
    -- from the first Issue on
    chain_half : (before : Reply) → before ≢ Flushed → (done : List (Event × Outcome)) (v w : Volumed B) (m : Merging B) → v.merge ≡ Some m → 0 < m.state.chunk → AtMost own (map in_flight v.flights) → is_loud_in_all layers v ≡ true → Half v m
        → AreDoneDue holds contents layers faults size done v w → last_told before done ≡ Flushed → IsClosed holds size w None
    chain_half before other [] v w m is pos few loud half chain told = absurd (other told)
    chain_half before other (x ∷ done) v w m is pos few loud half chain told =
        let did = chain.1 in
        let none = none_given own flush (map in_flight v.flights) few in
        let next = merge_next x.0 x.1 v chain.0 m is loud did none in
        let later : is_loud_in_all layers chain.0 ≡ true = did.loud ∙ loud in
        let pos' : 0 < next.0.state.chunk = subst (λ c. 0 < c) (sym next.2) pos in
        let half' : Half chain.0 next.0 = half_next x.0 x.1 v chain.0 m is loud did none next.0 next.1 next.2 half in
        elim (told_case x.1 before) [
          | inl t ↦ subst (λ (a : Dev). IsClosed holds size w (array_of a)) dev
              (answered_closes holds contents layers faults size whole here own flush t.0 t.1 x.0 done v chain.0 w few later
              (λ closes. subst (λ (a : Dev). IsClosed holds size chain.0 (array_of a)) (sym dev) (half_closes chain.0 next.0 next.1 pos' half' (subst (λ (a : Dev). ClosesArray holds contents layers size a chain.0.origin chain.0.snaps) dev closes (loud_books contents layers size chain.0 later).origin)))
              (subst (λ (o : Outcome). IsDoneDue holds contents layers faults size x.0 o v chain.0) t.2 did) chain.2 (sym (ap (λ (o : Outcome). last_told (told_by o before) done) t.2) ∙ told))
          | inr same ↦ chain_half before other done chain.0 w next.0 next.1 pos' (few_next holds contents layers faults size whole here own flush x.0 x.1 v chain.0 few did) later half' chain.2 (sym (ap (λ (r : Reply). last_told r done) same) ∙ told)
        ]

    -- the first event
    module _ (number : ℕ) (failure : Failure) (v mid w : Volumed B) (m : Merging B) (is : v.merge ≡ Some m) (pos : 0 < m.state.chunk) (few : AtMost own (map in_flight v.flights)) (loud : is_loud_in_all layers v ≡ true)
        (silent : (stepped_all (Issue number) (moving_of contents layers (Some (Refused failure)) v)).replied ≡ Some Flushed → ⊥) where
      store_loud : (u : Volumed B) (g : Merging B) → u.merge ≡ Some g → is_loud_in_all layers u ≡ true → is_loud (layers g.device) ≡ true
      store_loud u g at all = (let others : Bool = is_loud (layers u.origin) && list_all (λ (s : Kept B). is_loud (layers s.device)) u.snaps in and_right others (is_loud (layers g.device)) (ap (λ (x : Option (Merging B)). is_loud_with layers x others) (sym at) ∙ all))

      led_closes : (outcome : Outcome) → IsDoneDue holds contents layers faults size (Issue number) outcome v mid → (rest : AreDone holds contents layers faults size (told_by outcome (Refused failure)) Flushed mid w) → IsClosed holds size w None
      led_closes (Answered n reply) did rest =
          let gone = (one_answered own n reply (map in_flight v.flights) (map in_flight mid.flights) few did.flown.1).0 in
          let flushed : reply ≡ Flushed = sym (none_told holds contents layers faults size whole here reply rest.done mid w gone rest.chain) ∙ sym rest.reply_is in
          absurd (silent (ap (λ (x : Moving). x.replied) (did.exact.step loud (Some (Refused failure))) ∙ ap Some flushed))
      led_closes Done did rest =
          let none = none_given own flush (map in_flight v.flights) few in
          let next = merge_next (Issue number) Done v mid m is loud did none in
          let later : is_loud_in_all layers mid ≡ true = did.loud ∙ loud in
          let firm : IsFirmOn holds contents size next.0.device = subst (λ o. ClosesMerging holds contents layers size o) next.1 did.closes (store_loud mid next.0 next.1 later) in
          let pos' : 0 < next.0.state.chunk = subst (λ c. 0 < c) (sym next.2) pos in
          chain_half (Refused failure) (refused_flushed holds contents layers faults size whole here failure) rest.done mid w next.0 next.1 pos' (few_next holds contents layers faults size whole here own flush (Issue number) Done v mid few did) later (half_first mid next.0 next.1 pos' firm) rest.chain (sym rest.reply_is)
      led_closes Fault did rest = absurd did.flown

  -- so does one of a volume in which nothing was in flight
  pub merging_closes : (sectors : ℕ) (request : Request) (old new : Volumed B) (m : Merging B) → IsRequestOf ToOrigin Flush flush_piece request → old.flights ≡ [] → is_loud_in_all layers old ≡ true → old.merge ≡ Some m → 0 < m.state.chunk
      → ((replied : Option Reply) → IsBetween sectors (moving_of contents layers replied old)) → IsAnswered holds contents layers faults size request Flushed old new → IsClosed holds size new None
  merging_closes sectors request old new m asked none loud is pos between answered = by answered.entered answered.led
    where
      f : Failure
      f = answered.failure

      moved : Moving
      moved = moving_of contents layers (Some (Refused f)) old

      plain : request ≡ flush_of request.range
      plain = ap (λ (d : Dev). (let q : Request = record { dev = d; op = request.op; range = request.range } in q)) asked.dev_is ∙ ap (λ (o : Op). (let q : Request = record { dev = ToOrigin; op = o; range = request.range } in q)) asked.op_is

      held : (h : MergeHeld) × (moved.merge ≡ Some h)
      held = by_merge old.merge is
        where
          by_merge : (o : Option (Merging B)) → o ≡ Some m → (h : MergeHeld) × ((moving_of contents layers (Some (Refused f)) (record old { merge = o })).merge ≡ Some h)
          by_merge None e = absurd (let no : None ≡ Some m = e in cc)
          by_merge (Some g) e = (_, refl)

      there : submitted answered.number (flush_of request.range) moved ≡ moving_of contents layers (Some (Refused f)) answered.mid
      there = ap (λ (q : Request). submitted answered.number q moved) (sym plain) ∙ answered.exact

      by : IsEntered contents layers size request f old answered.mid → IsLed holds contents layers faults size (Refused f) Flushed answered.mid new → IsClosed holds size new None
      by (inr refused) led =
          let gone = refused_none holds contents layers faults size request (refusal_of f) old answered.mid none refused in
          absurd (refused_flushed holds contents layers faults size whole here f (sym (none_told holds contents layers faults size whole here (Refused f) answered.did.done answered.mid new (ap (λ fs. map in_flight fs) gone) answered.did.chain) ∙ sym answered.did.reply_is))
      by (inl accepted) (inl same) = absurd (refused_flushed holds contents layers faults size whole here f (sym same.1))
      by (inl accepted) (inr led) =
          let few = entered_few holds contents layers faults size request f old answered.mid none (inl accepted) in
          let ok = accepted.2 in
          let due : due_all (submitted answered.number (flush_of request.range) moved) ≡ Some led.0 = ap due_all there ∙ led.3 (Some (Refused f)) in
          let event : led.0 ≡ Issue answered.number = first_issue sectors answered.number request.range moved held.0 (between (Some (Refused f))) held.1 led.0 due in
          led_closes few.0 (ap (λ (r : Request). r.op) few.2 ∙ asked.op_is) (ap (λ (r : Request). r.dev) few.2 ∙ asked.dev_is) answered.number f answered.mid led.2 new m (ok.kept.merge ∙ is) pos few.1 (ok.loud ∙ loud)
          (λ e. first_unanswered sectors answered.number request.range moved held.0 (between (Some (Refused f))) held.1 f refl (ap (λ (x : Moving). (stepped_all (Issue answered.number) x).replied) there ∙ e)) led.1
          (subst (λ (e : Event). IsDoneDue holds contents layers faults size e led.1 answered.mid led.2) event led.4) led.5

  snap_origin : (n : ℕ) → ToSnap n ≡ ToOrigin → ⊥
  snap_origin n e = cc

  -- of a snapshot, and of the origin, whether a merge is begun or not
  pub all_closes : (sectors : ℕ) (dev : Dev) (request : Request) (old new : Volumed B) → IsRequestOf dev Flush flush_piece request → old.flights ≡ [] → is_loud_in_all layers old ≡ true → AllPairs (λ a b. a < b) (map number_of_snap old.snaps) → ((m : Merging B) → old.merge ≡ Some m → 0 < m.state.chunk)
      → ((replied : Option Reply) → IsBetween sectors (moving_of contents layers replied old)) → IsAnswered holds contents layers faults size request Flushed old new → IsClosed holds size new (array_of dev)
  all_closes sectors (ToSnap n) request old new asked none loud ascending some between answered = flush_closes holds contents layers faults size whole here (ToSnap n) request old new asked none loud ascending (λ e. absurd (snap_origin n e)) answered
  all_closes sectors ToOrigin request old new asked none loud ascending some between answered = by old.merge refl
    where
      by : (o : Option (Merging B)) → old.merge ≡ o → IsClosed holds size new None
      by None e = flush_closes holds contents layers faults size whole here ToOrigin request old new asked none loud ascending (λ _. e) answered
      by (Some m) e = merging_closes sectors request old new m asked none loud e (some m e) between answered
