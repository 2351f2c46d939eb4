-- The flushes and writes of a load, one after the other, as `whole_commands` has them.
use Rattle.std.proofs.Common.{◌≡◌, ℕ, ◌∙◌, Bool, true, false, List, refl, sym, ap, subst}
use Rattle.std.proofs.lemmas.Bool.{true≢false, false≢true, cond-true, cond-false}
use Rattle.sector.specs.declared.refusal.Refusal.TheVariants.{Io}
use Rattle.device.specs.declared.operation.Operation.TheVariants.{Flushes}
use Rattle.device.specs.Layers.{Layer}
use Rattle.cow_format.specs.Places.{ChangesOnly}
use Rattle.store.specs.Loading.{after_write, chunk_left, is_left}
use Rattle.store.specs.Operations.{IsOneOperation}
use Rattle.store.specs.declared.state.Left.{Left}
use Rattle.store.specs.declared.state.Left.TheVariants.{FirstArea, HeaderChunk, Tail, Nothing}
use Rattle.store.specs.declared.state.State.{State}
use Rattle.whole_commands.specs.Devices.{Device}
use Rattle.whole_commands.specs.Attaching.{Tried, refuse, flush_on, flush_both, done}
use Rattle.snapshot.specs.Attaching.{last_by, next_by, prepared_by}
use Rattle.snapshot.specs.Opening.{ChangesFront}
use Rattle.snapshot.proofs.Tries.{over}

-- what follows the next write, with its flush
abbrev pub then_by : Left → State → Device → Device → Tried
then_by FirstArea s origin device = flush_on origin (last_by HeaderChunk s origin) device
then_by HeaderChunk s origin device = flush_on origin (done s.chunk origin) device
then_by Tail s origin device = flush_on origin (done s.chunk origin) device
then_by Nothing s origin device = done s.chunk origin device

pub prepared_is : (left : Left) (s : State) (origin device : Device) → prepared_by left s origin device ≡ next_by left s origin (then_by left s origin) device
prepared_is FirstArea s origin device = refl
prepared_is HeaderChunk s origin device = refl
prepared_is Tail s origin device = refl
prepared_is Nothing s origin device = refl

pub then_none : (left : Left) (s : State) (origin device : Device) → is_left left ≡ false → then_by left s origin device ≡ done s.chunk origin device
then_none FirstArea s origin device none = absurd (true≢false none)
then_none HeaderChunk s origin device none = absurd (true≢false none)
then_none Tail s origin device none = absurd (true≢false none)
then_none Nothing s origin device none = refl

-- the store's state after a write of its load
abbrev pub wrote : State → ℕ → State
wrote s n = record s { left = after_write s.left; sure = n; awaits = is_left s.left }

then_at : (left : Left) (s : State) (b : Bool) (n : ℕ) (origin device : Device) → is_left left ≡ true
    → then_by left s origin device ≡ next_by (after_write left) (record s { left = after_write left; sure = n; awaits = b }) origin (then_by (after_write left) (record s { left = after_write left; sure = n; awaits = b }) origin) device
then_at FirstArea s b n origin device some = refl
then_at HeaderChunk s b n origin device some = refl
then_at Tail s b n origin device some = refl
then_at Nothing s b n origin device some = absurd (false≢true some)

-- a second write is left, or none
pub then_next : (s t : State) (n : ℕ) (origin device : Device) → t ≡ record s { left = after_write s.left; sure = n; awaits = is_left s.left } → is_left s.left ≡ true → then_by s.left s origin device ≡ next_by t.left t origin (then_by t.left t origin) device
then_next s t n origin device is some =
    then_at s.left s (is_left s.left) n origin device some ∙ sym (ap (λ (x : State). next_by x.left x origin (then_by x.left x origin) device) is)

last_at : (left : Left) (s : State) (b : Bool) (n : ℕ) (origin device : Device) → is_left (after_write left) ≡ true → then_by (after_write left) (record s { left = after_write left; sure = n; awaits = b }) origin device ≡ flush_on origin (done s.chunk origin) device
last_at FirstArea s b n origin device some = refl
last_at HeaderChunk s b n origin device some = absurd (false≢true some)
last_at Tail s b n origin device some = absurd (false≢true some)
last_at Nothing s b n origin device some = absurd (false≢true some)

-- after a second one a flush alone
pub then_last : (s t : State) (n : ℕ) (origin device : Device) → t ≡ record s { left = after_write s.left; sure = n; awaits = is_left s.left } → is_left t.left ≡ true → then_by t.left t origin device ≡ flush_on origin (done s.chunk origin) device
then_last s t n origin device is some =
    ap (λ (x : State). then_by x.left x origin device) is ∙ last_at s.left s (is_left s.left) n origin device (sym (ap (λ (x : State). is_left x.left) is) ∙ some)

-- a flush that is answered, and one that is not
pub flush_goes : (origin : Device) (bytes bytes' : List ℕ) (old new : List Layer) (f f' d d' : ℕ) (next : Device → Tried) → IsOneOperation Flushes true old new f f' d d' → bytes' ≡ bytes → flush_on origin next (over bytes old) ≡ next (over bytes' new)
flush_goes origin bytes bytes' old new f f' d d' next one same =
    cond-true _ _ _ (sym one.answer) ∙ ap (λ (l : List Layer). next (over bytes l)) (sym one.layers) ∙ ap (λ (b : List ℕ). next (over b new)) (sym same)

pub flush_stays : (origin : Device) (bytes bytes' : List ℕ) (old new : List Layer) (f f' d d' : ℕ) (next : Device → Tried) → IsOneOperation Flushes false old new f f' d d' → bytes' ≡ bytes → flush_on origin next (over bytes old) ≡ refuse Io origin (over bytes' new)
flush_stays origin bytes bytes' old new f f' d d' next one same =
    cond-false _ _ _ (sym one.answer) ∙ ap (λ (l : List Layer). refuse Io origin (over bytes l)) (sym one.layers) ∙ ap (λ (b : List ℕ). refuse Io origin (over b new)) (sym same)

-- the origin is flushed first
pub origin_goes : (bytes bytes' : List ℕ) (old new : List Layer) (f f' d d' : ℕ) (device : Device) (next : Device → Device → Tried) → IsOneOperation Flushes true old new f f' d d' → bytes' ≡ bytes
    → flush_both (over bytes old) device next ≡ flush_on (over bytes' new) (next (over bytes' new)) device
origin_goes bytes bytes' old new f f' d d' device next one same =
    cond-true _ _ _ (sym one.answer) ∙ ap (λ (l : List Layer). flush_on (over bytes l) (next (over bytes l)) device) (sym one.layers) ∙ ap (λ (b : List ℕ). flush_on (over b new) (next (over b new)) device) (sym same)

-- what each write may change
pub front_of : (left : Left) (s : State) (old new : List ℕ) → ChangesOnly s.chunk (chunk_left left s) old new → ChangesFront s.chunk s.current old new
front_of FirstArea s old new only = record { len = only.len; rest = λ n low other. only.rest n other }
front_of HeaderChunk s old new only = record { len = only.len; rest = λ n low other. only.rest n low }
front_of Tail s old new only = record { len = only.len; rest = λ n low other. only.rest n other }
front_of Nothing s old new only = record { len = only.len; rest = λ n low other. only.rest n low }

pub front_more : (chunk a : ℕ) (old mid new : List ℕ) → ChangesFront chunk a old mid → ChangesFront chunk a mid new → ChangesFront chunk a old new
front_more chunk a old mid new first second = record { len = second.len ∙ first.len; rest = λ n low other. second.rest n low other ∙ first.rest n low other }

pub front_like : (s t : State) (n : ℕ) (old new : List ℕ) → t ≡ record s { left = after_write s.left; sure = n; awaits = is_left s.left } → ChangesFront t.chunk t.current old new → ChangesFront s.chunk s.current old new
front_like s t n old new is only = subst (λ (x : State). ChangesFront x.chunk x.current old new) is only
