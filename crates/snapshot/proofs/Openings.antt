-- What an opened store is, and what its snapshot shows.
use Rattle.std.proofs.Common.{◌≡◌, ◌≢◌, inl, inr, ℕ, ◌+◌, ◌*◌, ◌/◌, ◌%◌, ◌<◌, List, [], get_or, length, refl, sym, ◌∙◌, ap, subst, arith, Bool, true, false, Option, Some, None}
use Rattle.std.specs.Prelude.{map}
use Rattle.std.specs.List.{All}
use Rattle.std.proofs.lemmas.Bool.{true≢false}
use Rattle.std.proofs.lemmas.Nat.{mod_below}
use Rattle.sector.proofs.Sectors.{byte_read}
use Rattle.sector.specs.declared.pair.Pair.{Pair}
use Rattle.cow_format.specs.Places.{area_place, is_area_place}
use Rattle.cow_format.specs.Pairs.{pairs_of, IsInside}
use Rattle.cow_format.specs.Picture.{place_of, picture, picture_at, byte_of}
use Rattle.cow_format.proofs.AreaPlaces.{place_is}
use Rattle.cow_format.proofs.Pictures.{same_picture}
use Rattle.store.specs.declared.state.Left.TheVariants.{Nothing}
use Rattle.store.specs.declared.state.State.{State}
use Rattle.store.specs.Stored.{new_of}
use Rattle.device.specs.Layers.{Layer, is_loud}
use Rattle.plain_machine.specs.Plain.{overflow_of}
use Rattle.cow_format.specs.NextPlace.{IsNextPlace}
use Rattle.snapshot.specs.Kept.{Kept}
use Rattle.snapshot.specs.Opened.{IsOpened}
use Rattle.store.specs.declared.opening.Loaded.{Loaded}
use Rattle.store.specs.declared.opening.Loaded.TheVariants.{Fresh as LoadedFresh, Written}
use Rattle.store.specs.Opened.{MatchLoaded}
use Rattle.store.specs.Opening.{IsOpenedFresh, IsOpenedWritten}
use Rattle.volume_laws.proofs.Pairs.{place_of-All}
use Rattle.volume_laws.proofs.Attaching.{picture_none}
use Rattle.snapshot.specs.Opening.{IsOpenedAs, ChangesFront, prepared, shown_array, shown_as}

-- an opened store was fresh or written
pub opened_by : (l : Loaded) (line origin size : ℕ) (bytes : List ℕ) (s : State) (ps : List Pair) → MatchLoaded l (IsOpenedFresh line origin size bytes s ps) (IsOpenedWritten origin size bytes s ps) → IsOpenedAs line origin size bytes s ps
opened_by LoadedFresh line origin size bytes s ps is = inl is
opened_by Written line origin size bytes s ps is = inr is

-- a pair's place is neither the header nor the current area
apart_front : (chunk origin size a : ℕ) (p : Pair) → 0 < chunk → IsInside chunk origin size p → (p.new ≢ 0) × (p.new ≢ area_place chunk a)
apart_front chunk origin size a p pos inside = (
  λ e. absurd (omega (arith, e, inside.low)),
  λ e. true≢false (sym (place_is chunk a pos) ∙ sym (ap (is_area_place chunk) e) ∙ inside.free),
)

-- a byte of a chunk that was not written
front_byte : (chunk a n r : ℕ) (old new : List ℕ) → ChangesFront chunk a old new → n ≢ 0 → n ≢ area_place chunk a → r < 512 * chunk → get_or new (512 * (chunk * n) + r) 0 ≡ get_or old (512 * (chunk * n) + r) 0
front_byte chunk a n r old new only low other lt =
    sym (byte_read new (chunk * n) chunk r lt) ∙ ap (λ x. get_or x r 0) (only.rest n low other) ∙ byte_read old (chunk * n) chunk r lt

front_picture_at : (chunk origin size a : ℕ) (o old new : List ℕ) (ps : List Pair) (i : ℕ) → 0 < chunk → All (IsInside chunk origin size) ps → ChangesFront chunk a old new → picture_at chunk o new ps i ≡ picture_at chunk o old ps i
front_picture_at chunk origin size a o old new ps i pos inside only = at (place_of ps (i / (512 * chunk))) refl
  where
    at : (found : Option ℕ) → place_of ps (i / (512 * chunk)) ≡ found → picture_at chunk o new ps i ≡ picture_at chunk o old ps i
    at None is = ap (byte_of chunk o new i) is ∙ sym (ap (byte_of chunk o old i) is)
    at (Some n) is =
        (let found = place_of-All (IsInside chunk origin size) ps (i / (512 * chunk)) n inside is in
        let apart = apart_front chunk origin size a found.0 pos found.3 in
        let low : n ≢ 0 = λ e. apart.0 (found.2 ∙ e) in
        let other : n ≢ area_place chunk a = λ e. apart.1 (found.2 ∙ e) in
        ap (byte_of chunk o new i) is ∙ front_byte chunk a n (i % (512 * chunk)) old new only low other (mod_below i (512 * chunk) (omega arith)) ∙ sym (ap (byte_of chunk o old i) is))

-- what the snapshot of an opened store shows, once its load is written
pub shows : (line origin size a : ℕ) (bytes bytes' : List ℕ) (s : State) (ps : List Pair) → 0 < s.chunk → IsOpenedAs line origin size bytes s ps → ChangesFront s.chunk a bytes bytes' → pairs_of s.chunk bytes' ≡ ps → (o : List ℕ) → picture s.chunk o bytes' ≡ shown_array o bytes
shows line origin size a bytes bytes' s ps pos (inl f) only listed o =
    picture_none s.chunk o bytes' (listed ∙ f.none) ∙ sym (ap (shown_as o bytes) f.found)
shows line origin size a bytes bytes' s ps pos (inr w) only listed o =
    same_picture s.chunk o bytes o bytes' ps refl listed
    (λ i lt. front_picture_at s.chunk origin size a o bytes bytes' ps i pos w.formed.inside only ∙ sym (ap (λ qs. picture_at s.chunk o bytes qs i) w.pairs))
    ∙ sym (ap (shown_as o bytes) w.found)

-- the origin's sectors
pub opened_origin : (line origin size : ℕ) (bytes : List ℕ) (s : State) (ps : List Pair) → IsOpenedAs line origin size bytes s ps → s.origin ≡ origin
opened_origin line origin size bytes s ps (inl f) = ap (λ (t : State). t.origin) f.state
opened_origin line origin size bytes s ps (inr w) = w.rest.0

pub opened_copying : (line origin size : ℕ) (bytes : List ℕ) (s : State) (ps : List Pair) → IsOpenedAs line origin size bytes s ps → s.copying ≡ true
opened_copying line origin size bytes s ps (inl f) = ap (λ (t : State). t.copying) f.state
opened_copying line origin size bytes s ps (inr w) = w.rest.5

pub opened_waits : (line origin size : ℕ) (bytes : List ℕ) (s : State) (ps : List Pair) → IsOpenedAs line origin size bytes s ps → s.awaits ≡ true
opened_waits line origin size bytes s ps (inl f) = ap (λ (t : State). t.awaits) f.state
opened_waits line origin size bytes s ps (inr w) = w.rest.4

-- a snapshot over an opened store whose load is written
pub opened_is : {B : Type 0} (contents : B → List ℕ) (layers : B → List Layer) (number line origin size : ℕ) (overflow : Bool) (device dev : B) (loaded st : State) (next : ℕ) (pairs : List Pair) (s : Kept B)
    → s ≡ record { number = number; live = true; untried = false; marked = false; stale = false; overflow = overflow_of overflow; device = dev; state = st; next = next; pairs = pairs; begun = []; copies = []; marks = []; room = 0; kept_back = 0; spare = false; merging = None }
    → st ≡ record loaded { left = Nothing; sure = length pairs; awaits = false } → IsOpenedAs line origin size (contents device) loaded pairs → IsNextPlace st.chunk (map new_of pairs) next
    → (is_loud (layers device) ≡ true → contents dev ≡ prepared loaded.left loaded (contents device)) → IsOpened contents layers number line origin size overflow device s
opened_is {B} contents layers number line origin size overflow device dev loaded st next pairs s fields state opened place bytes =
    let kept : State → Kept B = λ t. record { number = number; live = true; untried = false; marked = false; stale = false; overflow = overflow_of overflow; device = dev; state = t; next = next; pairs = pairs; begun = []; copies = []; marks = []; room = 0; kept_back = 0; spare = false; merging = None } in
    subst (IsOpened contents layers number line origin size overflow device) (sym fields) (record {
      loaded = loaded;
      opened = opened;
      fields = ap kept state;
      next = place;
      bytes = bytes;
    })
