-- A flush that is answered closes its array: the Issue that answers it does, and what is done behind that opens nothing, for no write is
-- in flight.
use Rattle.std.proofs.Common.{◌≡◌, ◌≢◌, ◌⊎◌, inl, inr, ℕ, ◌*◌, ◌<◌, true, List, [], ◌∷◌, length, get_or, map, Option, None, Some, refl, sym, ◌∙◌, ap, subst, arith}
use Rattle.std.specs.Prelude.{◌==◌, AllPairs}
use Rattle.std.proofs.lemmas.Bool.{cases_Bool, cond-true, cond-false}
use Rattle.std.proofs.lemmas.List.{get_or-map, get_or_default, length-map}
use Rattle.sector.specs.Bytes.{sector_at}
use Rattle.sector.specs.declared.range.Range.{Range}
use Rattle.device.specs.Layers.{Layer, is_loud}
use Rattle.cow_format.specs.Picture.{picture}
use Rattle.crash_laws.specs.Clauses.{Gives}
use Rattle.plain_machine.specs.Plain.{InFlight, asked_under}
use Rattle.plain_machine.specs.Failures.{refusal_of}
use Rattle.plain_machine.specs.declared.event.Event.{Event}
use Rattle.plain_machine.specs.declared.event.Event.TheVariants.{Issue}
use Rattle.plain_machine.specs.declared.event.Outcome.{Outcome}
use Rattle.plain_machine.specs.declared.event.Outcome.TheVariants.{Done, Fault, Reply as Answered}
use Rattle.plain_machine.specs.declared.request.Dev.{Dev}
use Rattle.plain_machine.specs.declared.request.Dev.TheVariants.{Origin, Snap}
use Rattle.plain_machine.specs.declared.request.Failure.{Failure}
use Rattle.plain_machine.specs.declared.request.Failure.TheVariants.{Invalid}
use Rattle.plain_machine.specs.declared.request.Op.{Op}
use Rattle.plain_machine.specs.declared.request.Op.TheVariants.{Flush}
use Rattle.plain_machine.specs.declared.request.Reply.{Reply}
use Rattle.plain_machine.specs.declared.request.Reply.TheVariants.{Data, Flushed, Refused, Written}
use Rattle.plain_machine.specs.declared.request.Request.{Request}
use Rattle.in_flight.specs.Kinds.{in_flight}
use Rattle.snapshot.specs.Kept.{Kept, books_of as snap_books}
use Rattle.snapshot_list.specs.Numbers.{number_of_snap}
use Rattle.merge.specs.Merging.{Merging}
use Rattle.volume.specs.AddedUp.{GivesAsked, IsFrom, IsLeftAt, IsOpenIn, IsOpenOrigin, IsSomeOf}
use Rattle.volume.specs.Causes.{IsAt}
use Rattle.volume.specs.Closing.{ClosesArray, ClosesBy}
use Rattle.volume.specs.Flying.{Fits, IsFlown}
use Rattle.volume.specs.Stepping.{merged_of}
use Rattle.volume.specs.Stopping.{array_of, given_as}
use Rattle.volume.specs.Volumed.{Volumed, is_loud_in_all}
use Rattle.volume.proofs.LastCloses.{apart_numbers}
use Rattle.volume.proofs.OpenedCalls.{opens_event}
use Rattle.volume.proofs.Shown.{loud_books}
use Rattle.counted_volume.specs.DoneDue.{AreDone, AreDoneDue, IsDoneDue, last_told, told_by}
use Rattle.volume_commands.specs.Among.{IsRequestOf, flush_piece}
use Rattle.volume_commands.specs.AtRest.{IsAnswered, IsEntered}
use Rattle.volume_commands.specs.Closing.{IsClosed}
use Rattle.volume_commands.proofs.AtRest.{AtMost, entered_few, flown_next, one_answered, refused_none, stays_done, stays_fault}

none_some : {X : Type 0} (x : X) → None ≡ Some x → ⊥
none_some x e = cc

-- a request under whose number something is asked is the one that is in flight
own_asked : (own : InFlight) (n : ℕ) (old : List InFlight) (r : Request) → AtMost own old → asked_under n old ≡ Some r → r ≡ own.request
own_asked own n old r (inl none) asked = absurd (none_some r (sym (ap (asked_under n) none) ∙ asked))
own_asked own n old r (inr one) asked = elim (cases_Bool (own.number == n)) [
  | inl mine ↦ (let same : Some own.request ≡ Some r = sym (cond-true _ _ _ mine) ∙ sym (ap (asked_under n) one) ∙ asked in cc)
  | inr other ↦ absurd (none_some r (sym (cond-false _ _ _ other) ∙ sym (ap (asked_under n) one) ∙ asked))
]

-- an outcome replies, or the last reply is the one before
pub told_case : (outcome : Outcome) (before : Reply) → ((n : ℕ) × (reply : Reply) × (outcome ≡ Answered n reply)) ⊎ (told_by outcome before ≡ before)
told_case (Answered n reply) before = inl (n, reply, refl)
told_case Done before = inr refl
told_case Fault before = inr refl

-- where nothing is in flight, nothing is replied
none_next : (event : Event) (outcome : Outcome) (before : Reply) (old new : List InFlight) → old ≡ [] → IsFlown event outcome old new → (new ≡ []) × (told_by outcome before ≡ before)
none_next event (Answered n reply) before old new none f = absurd (none_some f.1.request (sym (ap (asked_under n) none) ∙ f.1.asked))
none_next event Done before old new none f = (stays_done event old new f ∙ none, refl)
none_next event Fault before old new none f = (stays_fault event old new f ∙ none, refl)

-- a flush gives no value
pub none_given : (own : InFlight) → own.request.op ≡ Flush → (rs : List InFlight) → AtMost own rs → (array : Option ℕ) (s : ℕ) (x : List ℕ) → IsSomeOf (GivesAsked array s x) rs → ⊥
none_given own flush rs (inl none) array s x given = subst (IsSomeOf (GivesAsked array s x)) none given
none_given own flush rs (inr one) array s x given = by (subst (IsSomeOf (GivesAsked array s x)) one given)
  where
    by : IsSomeOf (GivesAsked array s x) (own ∷ []) → ⊥
    by (inl gives) = subst (λ (o : Op). Gives (given_as own.request.dev own.request.range o) array s x) flush gives
    by (inr rest) = rest

-- it is answered with no bytes, and as no write is
pub flush_fits : (op : Op) (range : Range) (reply : Reply) → op ≡ Flush → ((reply ≡ Written) ⊎ ((bytes : List ℕ) × (reply ≡ Data bytes))) → Fits op range reply → ⊥
flush_fits op range reply flush (inl written) fits = subst (λ (r : Reply). Fits Flush range r) written (subst (λ (o : Op). Fits o range reply) flush fits)
flush_fits op range reply flush (inr read) fits = subst (λ (r : Reply). Fits Flush range r) read.1 (subst (λ (o : Op). Fits o range reply) flush fits)

none_merged : {B : Type 0} (m : Option (Merging B)) → merged_of m ≡ None → m ≡ None
none_merged None e = refl
none_merged (Some m) e = absurd (none_some (m.number, m.state.chunk) (sym e))

module _ {B : Type 0} (holds : B → ℕ → List ℕ → Type 0) (contents : B → List ℕ) (layers : B → List Layer) (faults size : B → ℕ) (whole : (d : B) → length (contents d) ≡ 512 * size d) (here : (d : B) (s : ℕ) → s < size d → holds d s (sector_at (contents d) s)) where
  -- an event opens nothing then
  pub opens_less : (event : Event) (outcome : Outcome) (v w : Volumed B) → is_loud_in_all layers v ≡ true → IsDoneDue holds contents layers faults size event outcome v w
      → ((array : Option ℕ) (s : ℕ) (x : List ℕ) → IsSomeOf (GivesAsked array s x) (map in_flight v.flights) → ⊥) → (array : Option ℕ) (s : ℕ) (x : List ℕ) → IsOpenIn holds size w array s x → IsOpenIn holds size v array s x
  opens_less event outcome v w loud did none array s x may = by (opens_event holds contents layers size event outcome faults v w did.kept did.cause (did.stops loud) whole here [] array s x may)
    where
      by : IsFrom holds size [] v array s x → IsOpenIn holds size v array s x
      by from = elim from.comes [
        | inl same ↦ elim from.is [
          | inl before ↦ subst (λ (a : Option ℕ). IsOpenIn holds size v a s x) same before
          | inr given ↦ elim given [
            | inl asked ↦ absurd (none from.from s x asked)
            | inr called ↦ absurd called
          ]
        ]
        | inr merged ↦ absurd merged.1
      ]

  closed_less : (event : Event) (outcome : Outcome) (v w : Volumed B) → is_loud_in_all layers v ≡ true → IsDoneDue holds contents layers faults size event outcome v w
      → ((array : Option ℕ) (s : ℕ) (x : List ℕ) → IsSomeOf (GivesAsked array s x) (map in_flight v.flights) → ⊥) → (array : Option ℕ) → IsClosed holds size v array → IsClosed holds size w array
  closed_less event outcome v w loud did none array closed s x y mx my = closed s x y (opens_less event outcome v w loud did none array s x mx) (opens_less event outcome v w loud did none array s y my)

  module _ (own : InFlight) (flush : own.request.op ≡ Flush) where
    pub few_next : (event : Event) (outcome : Outcome) (v w : Volumed B) → AtMost own (map in_flight v.flights) → IsDoneDue holds contents layers faults size event outcome v w → AtMost own (map in_flight w.flights)
    few_next event outcome v w few did = (flown_next own (Refused Invalid) event outcome (map in_flight v.flights) (map in_flight w.flights) few did.flown tt).0

    -- what is done behind it
    rest_closed : (done : List (Event × Outcome)) (v w : Volumed B) → AtMost own (map in_flight v.flights) → is_loud_in_all layers v ≡ true → AreDoneDue holds contents layers faults size done v w → (array : Option ℕ) → IsClosed holds size v array → IsClosed holds size w array
    rest_closed [] v w few loud same array closed = subst (λ (u : Volumed B). IsClosed holds size u array) (sym same) closed
    rest_closed (x ∷ done) v w few loud chain array closed =
        rest_closed done chain.0 w (few_next x.0 x.1 v chain.0 few chain.1) (chain.1.loud ∙ loud) chain.2 array (closed_less x.0 x.1 v chain.0 loud chain.1 (none_given own flush (map in_flight v.flights) few) array closed)

  pub none_told : (before : Reply) (done : List (Event × Outcome)) (v w : Volumed B) → map in_flight v.flights ≡ [] → AreDoneDue holds contents layers faults size done v w → last_told before done ≡ before
  none_told before [] v w none chain = refl
  none_told before (x ∷ done) v w none chain =
      let next = none_next x.0 x.1 before (map in_flight v.flights) (map in_flight chain.0.flights) none chain.1.flown in
      ap (λ (r : Reply). last_told r done) next.1 ∙ none_told before done chain.0 w next.0 chain.2

  -- what the Issue closes that answers
  module _ (w : Volumed B) (loud : is_loud_in_all layers w ≡ true) (ascending : AllPairs (λ a b. a < b) (map number_of_snap w.snaps)) where
    origin_loud : is_loud (layers w.origin) ≡ true
    origin_loud = (loud_books contents layers size w loud).origin

    snap_loud : (k : ℕ) (s : Kept B) → IsAt k s w → is_loud (layers s.device) ≡ true
    snap_loud k s at =
        let sb = snap_books contents layers in
        let lt = at.within in
        ap (λ (x : Kept B). is_loud (layers x.device)) at.is ∙ sym (ap (λ x. x.loud) (get_or-map sb w.snaps k s (sb s) lt)) ∙ (loud_books contents layers size w loud).snaps k (sb s) (omega (arith, lt, length-map w.snaps sb))

    same_place : (k j : ℕ) (s t : Kept B) → IsAt k s w → IsAt j t w → s.number ≡ t.number → s ≡ t
    same_place k j s t a b same =
        let la = a.within in
        let lb = b.within in
        let long = length-map w.snaps number_of_snap in
        let na : get_or (map number_of_snap w.snaps) k 0 ≡ s.number = get_or-map number_of_snap w.snaps k s 0 la ∙ ap number_of_snap (sym a.is) in
        let nb : get_or (map number_of_snap w.snaps) j 0 ≡ t.number = get_or-map number_of_snap w.snaps j t 0 lb ∙ ap number_of_snap (sym b.is) in
        let one : k ≡ j = apart_numbers (map number_of_snap w.snaps) ascending k j 0 (omega (arith, la, long)) (omega (arith, lb, long)) (na ∙ same ∙ sym nb) in
        a.is ∙ ap (λ i. get_or w.snaps i s) one ∙ get_or_default w.snaps j s t lb ∙ sym b.is

    here_closed : (dev : Dev) → (dev ≡ Origin → w.merge ≡ None) → ClosesArray holds contents layers size dev w.origin w.snaps → IsClosed holds size w (array_of dev)
    here_closed Origin alone closes s x y mx my = is x mx ∙ sym (is y my)
      where
        is : (z : List ℕ) → IsOpenIn holds size w None s z → z ≡ sector_at (contents w.origin) s
        is z may = (let left : IsLeftAt (holds w.origin) (size w.origin) s z = subst (λ m. IsOpenOrigin holds size w.origin m s z) (alone refl) may.1 in left.is ∙ closes origin_loud s may.0 (sector_at left.bytes s) (left.left.each s may.0))
    here_closed (Snap n) alone closes s x y mx my =
        is x mx ∙ ap (λ (t : Kept B). sector_at (picture t.state.chunk (contents w.origin) (contents t.device)) s) (same_place mx.1.place my.1.place mx.1.snap my.1.snap mx.1.at my.1.at (mx.1.mine ∙ sym my.1.mine)) ∙ sym (is y my)
      where
        is : (z : List ℕ) (may : IsOpenIn holds size w (Some n) s z) → z ≡ sector_at (picture may.1.snap.state.chunk (contents w.origin) (contents may.1.snap.device)) s
        is z may = (let o = may.1 in closes o.place o.snap o.at.within o.at.is o.mine origin_loud (snap_loud o.place o.snap o.at) s z may.0 o.shows)

  module _ (own : InFlight) (flush : own.request.op ≡ Flush) where
    pub answered_closes : (n : ℕ) (reply : Reply) (event : Event) (done : List (Event × Outcome)) (v mid w : Volumed B) → AtMost own (map in_flight v.flights) → is_loud_in_all layers mid ≡ true → (ClosesArray holds contents layers size own.request.dev mid.origin mid.snaps → IsClosed holds size mid (array_of own.request.dev))
        → IsDoneDue holds contents layers faults size event (Answered n reply) v mid → AreDoneDue holds contents layers faults size done mid w → last_told reply done ≡ Flushed → IsClosed holds size w (array_of own.request.dev)
    answered_closes n reply event done v mid w few loud closed did chain told =
        let out = did.flown.1 in
        let gone : map in_flight mid.flights ≡ [] = (one_answered own n reply (map in_flight v.flights) (map in_flight mid.flights) few out).0 in
        let flushed : reply ≡ Flushed = sym (none_told reply done mid w gone chain) ∙ told in
        let closes : ClosesBy holds contents layers size (Issue n) (Answered n Flushed) (map in_flight v.flights) mid =
        subst (λ (e : Event). ClosesBy holds contents layers size e (Answered n Flushed) (map in_flight v.flights) mid) did.flown.0 (subst (λ (r : Reply). ClosesBy holds contents layers size event (Answered n r) (map in_flight v.flights) mid) flushed did.closes) in
        let mine : out.request ≡ own.request = own_asked own n (map in_flight v.flights) out.request few out.asked in
        rest_closed own flush done mid w (inl gone) loud chain (array_of own.request.dev) (closed (subst (λ (r : Request). ClosesArray holds contents layers size r.dev mid.origin mid.snaps) mine (closes out.request out.asked)))

    chain_closes : (before : Reply) → before ≢ Flushed → (done : List (Event × Outcome)) (v w : Volumed B) → AtMost own (map in_flight v.flights) → is_loud_in_all layers v ≡ true → AllPairs (λ a b. a < b) (map number_of_snap v.snaps) → (own.request.dev ≡ Origin → v.merge ≡ None)
        → AreDoneDue holds contents layers faults size done v w → last_told before done ≡ Flushed → IsClosed holds size w (array_of own.request.dev)
    chain_closes before other [] v w few loud ascending alone chain told = absurd (other told)
    chain_closes before other (x ∷ done) v w few loud ascending alone chain told =
        let did = chain.1 in
        let later : is_loud_in_all layers chain.0 ≡ true = did.loud ∙ loud in
        let rising : AllPairs (λ a b. a < b) (map number_of_snap chain.0.snaps) = subst (AllPairs (λ a b. a < b)) (sym did.kept.numbers) ascending in
        let still : own.request.dev ≡ Origin → chain.0.merge ≡ None = λ origin. none_merged chain.0.merge (did.kept.merged ∙ ap merged_of (alone origin)) in
        elim (told_case x.1 before) [
          | inl t ↦ answered_closes t.0 t.1 x.0 done v chain.0 w few later (here_closed chain.0 later rising own.request.dev still) (subst (λ (o : Outcome). IsDoneDue holds contents layers faults size x.0 o v chain.0) t.2 did) chain.2 (sym (ap (λ (o : Outcome). last_told (told_by o before) done) t.2) ∙ told)
          | inr same ↦ chain_closes before other done chain.0 w (few_next own flush x.0 x.1 v chain.0 few did) later rising still chain.2 (sym (ap (λ (r : Reply). last_told r done) same) ∙ told)
        ]

  pub refused_flushed : (failure : Failure) → Refused failure ≡ Flushed → ⊥
  refused_flushed failure e = cc

  -- so does one of a volume in which nothing was in flight
  pub flush_closes : (dev : Dev) (request : Request) (old new : Volumed B) → IsRequestOf dev Flush flush_piece request → old.flights ≡ [] → is_loud_in_all layers old ≡ true → AllPairs (λ a b. a < b) (map number_of_snap old.snaps) → (dev ≡ Origin → old.merge ≡ None)
      → IsAnswered holds contents layers faults size request Flushed old new → IsClosed holds size new (array_of dev)
  flush_closes dev request old new asked none loud ascending alone answered = by answered.entered
    where
      told : last_told (Refused answered.failure) answered.did.done ≡ Flushed
      told = sym answered.did.reply_is

      by : IsEntered contents layers size request answered.failure old answered.mid → IsClosed holds size new (array_of dev)
      by (inl accepted) =
          let few = entered_few holds contents layers faults size request answered.failure old answered.mid none (inl accepted) in
          let ok = accepted.2 in
          subst (λ (d : Dev). IsClosed holds size new (array_of d)) (ap (λ (r : Request). r.dev) few.2 ∙ asked.dev_is)
          (chain_closes few.0 (ap (λ (r : Request). r.op) few.2 ∙ asked.op_is) (Refused answered.failure) (refused_flushed answered.failure) answered.did.done answered.mid new few.1 (ok.loud ∙ loud)
          (subst (AllPairs (λ a b. a < b)) (sym ok.kept.numbers) ascending) (λ origin. ok.kept.merge ∙ alone (sym (ap (λ (r : Request). r.dev) few.2 ∙ asked.dev_is) ∙ origin)) answered.did.chain told)
      by (inr refused) =
          let gone = refused_none holds contents layers faults size request (refusal_of answered.failure) old answered.mid none refused in
          absurd (refused_flushed answered.failure (sym (none_told (Refused answered.failure) answered.did.done answered.mid new (ap (λ fs. map in_flight fs) gone) answered.did.chain) ∙ told))
