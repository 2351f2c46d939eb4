-- What is told ahead of an event, by what its device told of the operation that it was asked for.
use Rattle.std.proofs.Common.{◌≡◌, ℕ, ◌<◌, Bool, true, false, List, Option, Some, None, length, get_or, refl, sym, ◌∙◌, ap, subst, arith}
use Rattle.std.proofs.lemmas.List.{get_or_default}
use Rattle.std.specs.Prelude.{IfSome}
use Rattle.device.specs.CanDoAhead.{CanDoAhead, IsWrite}
use Rattle.device.specs.Layers.{Layer, fate, is_answered}
use Rattle.device.specs.declared.operation.Operation.{Operation}
use Rattle.device.specs.declared.operation.Operation.TheVariants.{Writes}
use Rattle.plain_machine.specs.declared.event.Event.{Event}
use Rattle.plain_machine.specs.declared.event.Event.TheVariants.{Issue, CopyRead, CopyWrite, ZeroNext, WriteArea, Publish, WriteInvalid, FlushStore, MergeGroup, MergeAreaRead, MergeRead, MergeWrite, MergeFlush, MergeCommit, MergeRelease}
use Rattle.snapshot.specs.Kept.{Kept}
use Rattle.merge.specs.Merging.{Merging}
use Rattle.volume.specs.Answered.{is_told, reads_too_many}
use Rattle.volume.specs.Asks.{Asks, Tells, IsOfStore, IsOfNone}
use Rattle.volume.specs.Calm.{AllAnswer}
use Rattle.volume.specs.DoesAhead.{AreAhead, IsMergeAhead}
use Rattle.volume.specs.FreshMarks.{IsFresh, FreshFor}
use Rattle.volume.specs.Moved.{moving_of}
use Rattle.volume.specs.Volumed.{Volumed}
use Rattle.volume.specs.declared.ahead.Ask.TheVariants.{Nobody, TooMany, Origin, Store, Merging as ToMerging}
use Rattle.volume.specs.Whole.{IsWhole}
use Rattle.volume.proofs.AsksEvents.{element, tells_of}
use Rattle.volume.proofs.Faultless.{same_place}

module _ {B : Type 0} (holds : B → ℕ → List ℕ → Type 0) (contents : B → List ℕ) (layers : B → List Layer) (size faults done : B → ℕ) (v w : Volumed B) (a : AreAhead holds contents layers size faults done v w) (event : Event) where
  some_after : (x y : Option (Merging B)) (m : Merging B) → IsMergeAhead holds contents layers size faults done x y → x ≡ Some m → (g : Merging B) × (y ≡ Some g)
  some_after None y m a e = (let no : None ≡ Some m = e in absurd (cc))
  some_after (Some x) None m a e = absurd a
  some_after (Some x) (Some y) m a e = (y, refl)

  pub nobody_told : Asks holds contents layers size faults done event Nobody v → true ≡ is_told event (moving_of contents layers None w)
  nobody_told asks = sym (asks.1 w a)

  pub many_told : Asks holds contents layers size faults done event TooMany v → false ≡ is_told event (moving_of contents layers None w)
  many_told asks = sym (asks.1 w a)

  pub origin_told : (op : Operation) → Asks holds contents layers size faults done event (Origin op) v → (told : Bool) → (CanDoAhead (size v.origin) op → told ≡ is_answered (fate (layers w.origin) op))
      → ((f n : ℕ) → IsWrite op → told ≡ is_answered (fate (layers w.origin) (Writes f n))) → told ≡ is_told event (moving_of contents layers None w)
  origin_told op asks told one all = asks.2 w a told (tells_of (size v.origin) op (layers w.origin) told one all asks.1)

  pub store_told : (k : ℕ) (op : Operation) → Asks holds contents layers size faults done event (Store k op) v → (told : Bool)
      → ((s : Kept B) → k < length v.snaps → CanDoAhead (size (get_or v.snaps k s).device) op → Tells op (layers (get_or w.snaps k s).device) told) → told ≡ is_told event (moving_of contents layers None w)
  store_told k op asks told tells = (let it = element v.snaps k asks.0 in asks.2 w a it.0 told (tells it.0 asks.0 (asks.1 it.0).1))

  pub merging_told : (op : Operation) → Asks holds contents layers size faults done event (ToMerging op) v → (told : Bool)
      → ((m : Merging B) → v.merge ≡ Some m → IfSome w.merge (λ g. CanDoAhead (size m.device) op → Tells op (layers g.device) told)) → told ≡ is_told event (moving_of contents layers None w)
  merging_told op asks told tells =
      let m : Merging B = asks.1.0 in
      let g = some_after v.merge w.merge m a.merge asks.1.1 in
      let both : IfSome (Some g.0) (λ x. CanDoAhead (size m.device) op → Tells op (layers x.device) told) = subst (λ (o : Option (Merging B)). IfSome o (λ x. CanDoAhead (size m.device) op → Tells op (layers x.device) told)) g.1 (tells m asks.1.1) in
      asks.2 w a g.0 g.1 told (both asks.1.2)

  -- while no file left a call unanswered, that is so of the event
  pub many_sure : Asks holds contents layers size faults done event TooMany v → reads_too_many event (moving_of contents layers None v) ≡ false → false ≡ true
  many_sure asks few = sym few ∙ asks.2

  module _ (unanswered : B → Bool) (all : AllAnswer unanswered w) (told : Bool) where
    pub origin_sure : (op : Operation) → Asks holds contents layers size faults done event (Origin op) v → (CanDoAhead (size v.origin) op → unanswered w.origin ≡ false → told ≡ true) → told ≡ true
    origin_sure op asks sure = sure asks.1 all.origin

    pub store_sure : (k : ℕ) (op : Operation) → Asks holds contents layers size faults done event (Store k op) v
        → ((s : Kept B) → k < length v.snaps → CanDoAhead (size (get_or v.snaps k s).device) op → unanswered (get_or w.snaps k s).device ≡ false → told ≡ true) → told ≡ true
    store_sure k op asks sure = (let it = element v.snaps k asks.0 in sure it.0 asks.0 (asks.1 it.0).1 (all.snaps k it.0 (subst (λ n. k < n) (sym a.count) asks.0)))

    pub merging_sure : (op : Operation) → Asks holds contents layers size faults done event (ToMerging op) v
        → ((m : Merging B) → v.merge ≡ Some m → IfSome w.merge (λ g. CanDoAhead (size m.device) op → unanswered g.device ≡ false → told ≡ true)) → told ≡ true
    merging_sure op asks sure =
        let m : Merging B = asks.1.0 in
        let g = some_after v.merge w.merge m a.merge asks.1.1 in
        let both : IfSome (Some g.0) (λ x. CanDoAhead (size m.device) op → unanswered x.device ≡ false → told ≡ true) = subst (λ (o : Option (Merging B)). IfSome o (λ x. CanDoAhead (size m.device) op → unanswered x.device ≡ false → told ≡ true)) g.1 (sure m asks.1.1) in
        both asks.1.2 (all.merging g.0 g.1)

  -- no mark is tried of an event that asks no store
  pub none_fresh : (e : Event) → IsOfNone e → FreshFor e w
  none_fresh (Issue n) none = tt
  none_fresh (CopyRead n) none = tt
  none_fresh (CopyWrite n) none = tt
  none_fresh (ZeroNext n) none = tt
  none_fresh (WriteArea n) none = tt
  none_fresh (Publish n) none = tt
  none_fresh (WriteInvalid n) none = absurd none
  none_fresh (FlushStore n) none = absurd none
  none_fresh MergeGroup none = tt
  none_fresh MergeAreaRead none = tt
  none_fresh MergeRead none = tt
  none_fresh MergeWrite none = tt
  none_fresh MergeFlush none = tt
  none_fresh MergeCommit none = tt
  none_fresh MergeRelease none = tt

  -- the snapshot that was asked has none that failed
  module _ (whole : IsWhole contents layers size v) (k : ℕ) (within : k < length v.snaps) (fresh : (s : Kept B) → k < length v.snaps → (get_or v.snaps k s).untried ≡ true → (get_or v.snaps k s).stale ≡ false) where
    fresh_of : (n : ℕ) → ((s : Kept B) → (get_or v.snaps k s).number ≡ n) → IsFresh n w
    fresh_of n mine i t at number untried =
        let i_in : i < length v.snaps = omega (arith, at.within, a.count) in
        let s : Kept B = get_or v.snaps i t in
        let s_is : s ≡ get_or v.snaps i s = get_or_default v.snaps i t s i_in in
        let same : t ≡ record s { device = (get_or w.snaps i t).device } = at.is ∙ (a.snaps i t i_in).same in
        let it = element v.snaps k within in
        let apart : i ≡ k = same_place contents layers size faults done v w whole i k s it.0 i_in within s_is it.1 (sym (ap (λ (x : Kept B). x.number) same) ∙ number ∙ sym (ap (λ (x : Kept B). x.number) it.1 ∙ mine it.0)) in
        let here : get_or v.snaps k t ≡ s = ap (λ j. get_or v.snaps j t) (sym apart) in
        ap (λ (x : Kept B). x.stale) same
        ∙ ap (λ (x : Kept B). x.stale) (sym here)
        ∙ fresh t within (ap (λ (x : Kept B). x.untried) here ∙ sym (ap (λ (x : Kept B). x.untried) same) ∙ untried)

    pub store_fresh : (e : Event) → ((s : Kept B) → IsOfStore e (get_or v.snaps k s).number) → FreshFor e w
    store_fresh (Issue n) of = tt
    store_fresh (CopyRead n) of = tt
    store_fresh (CopyWrite n) of = tt
    store_fresh (ZeroNext n) of = tt
    store_fresh (WriteArea n) of = tt
    store_fresh (Publish n) of = tt
    store_fresh (WriteInvalid n) of = fresh_of n of
    store_fresh (FlushStore n) of = fresh_of n of
    store_fresh MergeGroup of = tt
    store_fresh MergeAreaRead of = tt
    store_fresh MergeRead of = tt
    store_fresh MergeWrite of = tt
    store_fresh MergeFlush of = tt
    store_fresh MergeCommit of = tt
    store_fresh MergeRelease of = tt
