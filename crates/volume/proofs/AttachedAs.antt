-- A volume that takes a snapshot does what the machine of `whole_commands` does.
use Rattle.std.proofs.Common.{◌≡◌, inl, inr, ℕ, ◌+◌, ◌*◌, ◌<◌, ◌≤◌, Bool, true, false, List, [], ◌∷◌, ◌++◌, length, map, refl, sym, ap, ◌∙◌, subst, arith}
use Rattle.std.specs.Prelude.{◌==◌, ◌&&◌, ◌||◌, not, nat_lt, nat_le, Option, Some, None}
use Rattle.std.specs.List.{All, list_all}
use Rattle.std.proofs.lemmas.List.Folds.{list_all-append}
use Rattle.std.proofs.lemmas.Bool.{cases_Bool, cases_lt, cases_eq, cond-true, cond-false, false≢true, lt-ltb, le-ltb, lt-leb, le-leb, eq-eqb, ne_eqb}
use Rattle.std.proofs.lemmas.List.Elements.{All-push}
use Rattle.sector.specs.declared.refusal.Refusal.{Refusal}
use Rattle.sector.specs.declared.refusal.Refusal.TheVariants.{Stale, MergeInProgress, TooMany, BadChunk, NoMemory, NotQuiet}
use Rattle.chunk.specs.Sizes.{is_chunk}
use Rattle.device.specs.Layers.{Layer, is_loud}
use Rattle.cow_format.specs.NextPlace.{IsNextPlace}
use Rattle.plain_machine.specs.declared.request.Overflowing.{Overflowing}
use Rattle.plain_machine.specs.declared.request.Reply.{Reply}
use Rattle.plain_machine.specs.Plain.{overflow_of}
use Rattle.whole_commands.specs.Devices.{Device}
use Rattle.whole_commands.specs.Snaps.{Snap, Volume}
use Rattle.event_machine.specs.Held.{SnapHeld}
use Rattle.event_machine.specs.Rest.{IsResting, IsAtRest}
use Rattle.event_machine.specs.Seen.{copying_of}
use Rattle.whole_commands.specs.Attaching.{Tried, Store, Attached, refuse, done, open_store, attached, with_tried, refused_attach}
use Rattle.whole_commands.proofs.FaultlessAttaching.{size_of}
use Rattle.whole_commands.proofs.Opened.{IsSound, open_sound}
use Rattle.whole_commands.proofs.Nexts.{next_place_is}
use Rattle.volume_laws.specs.Steps.{IsNewSnap}
use Rattle.snapshot.specs.declared.opening.StoreDev.{StoreDev}
use Rattle.snapshot.specs.Kept.{Kept, books_of as snap_books}
use Rattle.snapshot.specs.Opened.{IsOpened}
use Rattle.snapshot.specs.Opening.{IsOpenedAs}
use Rattle.store.specs.declared.state.State.{State}
use Rattle.store.specs.Stored.{new_of}
use Rattle.volume.specs.Volumed.{Volumed, is_loud_in_all, is_loud_with}
use Rattle.volume.specs.Moved.{device_of, held_of, moving_of}
use Rattle.volume.specs.Taking.{taking_refusal}
use Rattle.volume.specs.Attached.{store_of, volume_in, IsAttachedAs}
use Rattle.volume.proofs.Shown.{one_loud}

-- both limits
neither : (a b c d : Bool) → a ≡ not c → b ≡ not d → (a && b) ≡ not (c || d)
neither a b true d p q = ap (λ x. x && b) p
neither a b false d p q = ap (λ x. x && b) p ∙ q

limit_same : (count given : ℕ) → given ≤ 4_294_967_295 → (nat_lt count 8 && nat_lt (given + 1) 4_294_967_296) ≡ not (nat_le 8 count || (given == 4_294_967_295))
limit_same count given few = neither (nat_lt count 8) (nat_lt (given + 1) 4_294_967_296) (nat_le 8 count) (given == 4_294_967_295) counts numbers
  where
    counts : nat_lt count 8 ≡ not (nat_le 8 count)
    counts = elim (cases_lt count 8) [
      | inl lt ↦ lt-ltb _ _ lt ∙ sym (ap not (lt-leb _ _ lt))
      | inr ge ↦ le-ltb _ _ ge ∙ sym (ap not (le-leb _ _ ge))
    ]

    numbers : nat_lt (given + 1) 4_294_967_296 ≡ not (given == 4_294_967_295)
    numbers = elim (cases_eq given 4_294_967_295) [
      | inl last ↦ le-ltb _ _ (omega arith) ∙ sym (ap not (eq-eqb _ _ last))
      | inr other ↦ lt-ltb _ _ (omega arith) ∙ sym (ap not (ne_eqb _ _ other))
    ]

some_same : (r s : Refusal) → Some r ≡ Some s → r ≡ s
some_same r s e = cc

limit_here : (v : Volume) (count given : ℕ) (b : Bool) → given ≤ 4_294_967_295 → length v.snaps ≡ count → (nat_le 8 count || (given == 4_294_967_295)) ≡ b → (nat_lt (length v.snaps) 8 && nat_lt (given + 1) 4_294_967_296) ≡ not b
limit_here v count given b few len is = ap (λ n. nat_lt n 8 && nat_lt (given + 1) 4_294_967_296) len ∙ limit_same count given few ∙ ap not is

-- refused before the store is looked at
pub refused_before : (stale begun quiet : Bool) (count given chunk : ℕ) (overflow : Overflowing) (store : Store) (v : Volume) (refusal : Refusal) → given ≤ 4_294_967_295 → begun ≡ false → quiet ≡ true → store.stale ≡ stale → length v.snaps ≡ count → taking_refusal stale begun quiet count given chunk ≡ Some refusal → attached (given + 1) chunk overflow store v ≡ refused_attach refusal store v
unfolding attached
refused_before true begun quiet count given chunk overflow store v refusal few alone calm is len e = cond-true _ _ _ is ∙ ap (λ r. refused_attach r store v) (some_same Stale refusal e)
refused_before false true quiet count given chunk overflow store v refusal few alone calm is len e = absurd (false≢true (sym alone))
refused_before false false false count given chunk overflow store v refusal few alone calm is len e = absurd (false≢true calm)
refused_before false false true count given chunk overflow store v refusal few alone calm is len e = cond-false _ _ _ is ∙ elim (cases_Bool (nat_le 8 count || (given == 4_294_967_295))) [
  | inl many ↦ cond-false _ _ _ (limit_here v count given true few len many) ∙ ap (λ r. refused_attach r store v) (some_same TooMany refusal (sym (cond-true _ _ _ many) ∙ e))
  | inr room ↦ cond-true _ _ _ (limit_here v count given false few len room) ∙ elim (cases_Bool (is_chunk chunk)) [
    | inl allowed ↦ (let got : ◌≡◌ {A = Option Refusal} None (Some refusal) = sym (cond-false _ _ _ room ∙ cond-true _ _ _ allowed) ∙ e in absurd (cc))
    | inr bad ↦ cond-false _ _ _ bad ∙ ap (λ r. refused_attach r store v) (some_same BadChunk refusal (sym (cond-false _ _ _ room ∙ cond-false _ _ _ bad) ∙ e))
  ]
]

-- a number is left
pub number_left : (stale begun quiet : Bool) (count given chunk : ℕ) → given ≤ 4_294_967_295 → taking_refusal stale begun quiet count given chunk ≡ None → given < 4_294_967_295
number_left true begun quiet count given chunk few e = absurd (cc)
number_left false true quiet count given chunk few e = absurd (cc)
number_left false false false count given chunk few e = absurd (cc)
number_left false false true count given chunk few e = elim (cases_eq given 4_294_967_295) [
  | inr other ↦ omega (arith, few, other)
  | inl last ↦ (let many : (nat_le 8 count || (given == 4_294_967_295)) ≡ true = or_last (nat_le 8 count) (given == 4_294_967_295) (eq-eqb _ _ last) in
      let got : ◌≡◌ {A = Option Refusal} (Some TooMany) None = sym (cond-true _ _ _ many) ∙ e in absurd (cc))
]
  where
    or_last : (a b : Bool) → b ≡ true → (a || b) ≡ true
    or_last true b e = refl
    or_last false b e = e

-- for want of memory none is
pub no_memory : (stale begun quiet : Bool) (count given chunk : ℕ) → taking_refusal stale begun quiet count given chunk ≡ Some NoMemory → ⊥
no_memory true begun quiet count given chunk e = let same = some_same Stale NoMemory e in absurd (cc)
no_memory false true quiet count given chunk e = let same = some_same MergeInProgress NoMemory e in absurd (cc)
no_memory false false false count given chunk e = let same = some_same NotQuiet NoMemory e in absurd (cc)
no_memory false false true count given chunk e = elim (cases_Bool (nat_le 8 count || (given == 4_294_967_295))) [
  | inl many ↦ (let same = some_same TooMany NoMemory (sym (cond-true _ _ _ many) ∙ e) in absurd (cc))
  | inr room ↦ elim (cases_Bool (is_chunk chunk)) [
    | inl allowed ↦ (let got : ◌≡◌ {A = Option Refusal} None (Some NoMemory) = sym (cond-false _ _ _ room ∙ cond-true _ _ _ allowed) ∙ e in absurd (cc))
    | inr bad ↦ (let same = some_same BadChunk NoMemory (sym (cond-false _ _ _ room ∙ cond-false _ _ _ bad) ∙ e) in absurd (cc))
  ]
]

-- not refused before that: the store is opened
pub admitted : (stale begun quiet : Bool) (count given chunk : ℕ) (overflow : Overflowing) (store : Store) (v : Volume) → given ≤ 4_294_967_295 → store.stale ≡ stale → length v.snaps ≡ count → taking_refusal stale begun quiet count given chunk ≡ None → (is_chunk chunk ≡ true) × (store.stale ≡ false) × (attached (given + 1) chunk overflow store v ≡ with_tried (given + 1) overflow (open_store chunk v.origin store.device) v)
unfolding attached
admitted true begun quiet count given chunk overflow store v few is len e = absurd (cc)
admitted false true quiet count given chunk overflow store v few is len e = absurd (cc)
admitted false false false count given chunk overflow store v few is len e = absurd (cc)
admitted false false true count given chunk overflow store v few is len e = elim (cases_Bool (nat_le 8 count || (given == 4_294_967_295))) [
  | inl many ↦ (let got : ◌≡◌ {A = Option Refusal} (Some TooMany) None = sym (cond-true _ _ _ many) ∙ e in absurd (cc))
  | inr room ↦ elim (cases_Bool (is_chunk chunk)) [
    | inl allowed ↦ (allowed, is, cond-false _ _ _ is ∙ cond-true _ _ _ (limit_here v count given false few len room) ∙ cond-true _ _ _ allowed)
    | inr bad ↦ (let got : ◌≡◌ {A = Option Refusal} (Some BadChunk) None = sym (cond-false _ _ _ room ∙ cond-false _ _ _ bad) ∙ e in absurd (cc))
  ]
]

snap_same : (number number' chunk : ℕ) (live live' : Bool) (overflow overflow' : Overflowing) (stale stale' : Bool) (store : Device) → number ≡ number' → live ≡ live' → overflow ≡ overflow' → stale ≡ stale' →
    (let a : Snap = record { number = number; chunk = chunk; live = live; overflow = overflow; stale = stale; store = store } in a) ≡ record { number = number'; chunk = chunk; live = live'; overflow = overflow'; stale = stale'; store = store }
snap_same number number' chunk live live' overflow overflow' stale stale' store p q o r = cc

map_push : {X Y : Type 0} (f : X → Y) (xs : List X) (x : X) → map f (xs ++ x ∷ []) ≡ map f xs ++ f x ∷ []
map_push f [] x = refl
map_push f (y ∷ xs) x = ap (λ ys. f y ∷ ys) (map_push f xs x)

module _ {B : Type 0} (contents : B → List ℕ) (layers : B → List Layer) where
  abbrev pub snap_of : Kept B → Snap
  snap_of s = (held_of contents layers s).snap

  snaps_length : (ss : List (Kept B)) → length (map (λ (h : SnapHeld). h.snap) (map (held_of contents layers) ss)) ≡ length ss
  snaps_length [] = refl
  snaps_length (s ∷ ss) = let same = snaps_length ss in omega arith

  pub count_in : (v : Volumed B) → length (volume_in contents layers v).snaps ≡ length v.snaps
  count_in v = snaps_length v.snaps

  -- the volume with one more, over its origin's device as it was tried
  abbrev pub taken : Volumed B → B → ℕ → Kept B → Volumed B
  taken v o number s = record v { origin = o; snaps = v.snaps ++ s ∷ []; attached = number }

  snaps_taken : (ss : List (Kept B)) (s : Kept B) → map (λ (h : SnapHeld). h.snap) (map (held_of contents layers) (ss ++ s ∷ [])) ≡ map (λ (h : SnapHeld). h.snap) (map (held_of contents layers) ss) ++ snap_of s ∷ []
  snaps_taken [] s = refl
  snaps_taken (t ∷ ss) s = ap (λ ys. snap_of t ∷ ys) (snaps_taken ss s)

  -- what is attached is the volume with one more
  pub exactly : (v : Volumed B) (o : B) (number : ℕ) (overflow : Overflowing) (s : Kept B) → s.number ≡ number → s.live ≡ true → s.overflow ≡ overflow → s.stale ≡ false →
      with_tried number overflow (done s.state.chunk (device_of contents layers o) (device_of contents layers s.device)) (volume_in contents layers v) ≡ record { volume = volume_in contents layers (taken v o number s); refused = None; back = None }
  exactly v o number overflow s number_is live overflow_is stale =
      let whole : List Snap → Attached = λ (ts : List Snap). record { volume = record { origin = device_of contents layers o; snaps = ts }; refused = None; back = None } in
      let before : List Snap = (volume_in contents layers v).snaps in
      ap (λ (t : Snap). whole (before ++ t ∷ [])) (sym (snap_same s.number number s.state.chunk s.live true s.overflow overflow s.stale false (device_of contents layers s.device) number_is live overflow_is stale))
      ∙ ap whole (sym (snaps_taken v.snaps s))

  -- nothing is left to do for the new one
  pub resting : (sectors size chunk : ℕ) (bytes : List ℕ) (origin tried device : Device) (s : Kept B) → sectors ≤ 2_147_483_648 → size ≤ 2_147_483_648 → 0 < chunk → length origin.bytes ≡ 512 * sectors → length device.bytes ≡ 512 * size →
      open_store chunk origin device ≡ done s.state.chunk tried (device_of contents layers s.device) → is_loud (layers s.device) ≡ true → IsNewSnap bytes (snap_books contents layers s) → IsNextPlace s.state.chunk (map new_of s.pairs) s.next → s.state.zeroed ≡ false → s.state.firm ≡ false → s.marked ≡ false → IsResting sectors (held_of contents layers s)
  resting sectors size chunk bytes origin tried device s small_origin small pos whole_origin whole opens loud new next unzeroed unfirm unmarked = record {
    tried = new.tried;
    copies = ap (λ cs. map copying_of cs) new.copies;
    marks = new.marks;
    live = λ _. record {
      order = (size, subst (IsSound sectors size small_origin small) opens (open_sound sectors size small_origin small chunk origin device (size_of (length origin.bytes) sectors whole_origin) pos whole));
      pairs = new.stored loud;
      next = next_place_is s.state.chunk s.next s.pairs new.text.some next;
      zeroed = unzeroed;
      firm = unfirm;
      unmarked = unmarked;
    };
  }

  pub rests_taken : (v : Volumed B) (o : B) (number sectors : ℕ) (s : Kept B) (replied : Option Reply) → contents o ≡ contents v.origin → IsResting sectors (held_of contents layers s) → IsAtRest sectors (moving_of contents layers replied v) → IsAtRest sectors (moving_of contents layers replied (taken v o number s))
  rests_taken v o number sectors s replied same here rest = record {
    whole = ap length same ∙ rest.whole;
    snaps = subst (All (IsResting sectors)) (sym (map_push (held_of contents layers) v.snaps s)) (All-push (IsResting sectors) (map (held_of contents layers) v.snaps) (held_of contents layers s) rest.snaps here);
    requests = rest.requests;
    alone = rest.alone;
  }

  -- the new one, over an origin of so many sectors
  pub attached_is : (v : Volumed B) (o : B) (number size_origin chunk : ℕ) (overflow : Bool) (store : StoreDev B) (s : Kept B) (snaps : List (Kept B)) → length (contents v.origin) ≡ 512 * size_origin → contents o ≡ contents v.origin →
      attached number chunk (overflow_of overflow) (store_of contents layers store) (volume_in contents layers v) ≡ with_tried number (overflow_of overflow) (open_store chunk (device_of contents layers v.origin) (device_of contents layers store.device)) (volume_in contents layers v) →
      open_store chunk (device_of contents layers v.origin) (device_of contents layers store.device) ≡ done s.state.chunk (device_of contents layers o) (device_of contents layers s.device) →
      s.number ≡ number → s.live ≡ true → s.overflow ≡ overflow_of overflow → s.stale ≡ false → IsResting size_origin (held_of contents layers s) → snaps ≡ v.snaps ++ s ∷ [] →
      IsAttachedAs contents layers number chunk overflow store v (record v { origin = o; snaps = snaps; attached = number })
  attached_is v o number size_origin chunk overflow store s snaps whole bytes goes opens number_is live overflow_is stale here same =
      subst (λ (ss : List (Kept B)). IsAttachedAs contents layers number chunk overflow store v (record v { origin = o; snaps = ss; attached = number })) (sym same) (record {
        exact = goes ∙ ap (λ (t : Tried). with_tried number (overflow_of overflow) t (volume_in contents layers v)) opens ∙ exactly v o number (overflow_of overflow) s number_is live overflow_is stale;
        snap = s;
        becomes = refl;
        number_is = number_is;
        live = live;
        stale = stale;
        overflow_is = overflow_is;
        rests = λ sectors replied rest. (let e : size_origin ≡ sectors = let w = rest.whole in omega (arith, whole, w) in
            rests_taken v o number sectors s replied bytes (subst (λ (n : ℕ). IsResting n (held_of contents layers s)) e here) rest);
      })

  -- the store that is given back
  pub back_is : (v : Volumed B) (o : B) (number chunk : ℕ) (overflow : Bool) (store back : StoreDev B) (refusal : Refusal) →
      attached number chunk (overflow_of overflow) (store_of contents layers store) (volume_in contents layers v) ≡ with_tried number (overflow_of overflow) (open_store chunk (device_of contents layers v.origin) (device_of contents layers store.device)) (volume_in contents layers v) →
      open_store chunk (device_of contents layers v.origin) (device_of contents layers store.device) ≡ refuse refusal (device_of contents layers o) (device_of contents layers back.device) → back.stale ≡ false →
      attached number chunk (overflow_of overflow) (store_of contents layers store) (volume_in contents layers v) ≡ refused_attach refusal (store_of contents layers back) (volume_in contents layers (record v { origin = o }))
  back_is v o number chunk overflow store back refusal goes opens stale =
      goes ∙ ap (λ (t : Tried). with_tried number (overflow_of overflow) t (volume_in contents layers v)) opens
      ∙ ap (λ b. refused_attach refusal (store_at b) (volume_in contents layers (record v { origin = o }))) (sym stale)
    where
      store_at : Bool → Store
      store_at b = record { device = device_of contents layers back.device; stale = b }

  -- no area of the new one is zeroed ahead, or firm
  pub size_opened : (number line origin size : ℕ) (overflow : Bool) (device : B) (s : Kept B) → IsOpened contents layers number line origin size overflow device s → s.state.size ≡ size
  size_opened number line origin size overflow device s o = ap (λ (x : Kept B). x.state.size) o.fields ∙ of_loaded o.opened
    where
      of_loaded : IsOpenedAs line origin size (contents device) o.loaded s.pairs → o.loaded.size ≡ size
      of_loaded (inl fresh) = ap (λ (t : State). t.size) fresh.state
      of_loaded (inr written) = written.rest.1

  pub unzeroed_of : (number line origin size : ℕ) (overflow : Bool) (device : B) (s : Kept B) → IsOpened contents layers number line origin size overflow device s → s.state.zeroed ≡ false
  unzeroed_of number line origin size overflow device s o = ap (λ (x : Kept B). x.state.zeroed) o.fields ∙ of_loaded o.opened
    where
      of_loaded : IsOpenedAs line origin size (contents device) o.loaded s.pairs → o.loaded.zeroed ≡ false
      of_loaded (inl fresh) = ap (λ (t : State). t.zeroed) fresh.state
      of_loaded (inr written) = written.rest.2

  pub unfirm_of : (number line origin size : ℕ) (overflow : Bool) (device : B) (s : Kept B) → IsOpened contents layers number line origin size overflow device s → s.state.firm ≡ false
  unfirm_of number line origin size overflow device s o = ap (λ (x : Kept B). x.state.firm) o.fields ∙ of_loaded o.opened
    where
      of_loaded : IsOpenedAs line origin size (contents device) o.loaded s.pairs → o.loaded.firm ≡ false
      of_loaded (inl fresh) = ap (λ (t : State). t.firm) fresh.state
      of_loaded (inr written) = written.rest.3

  -- whether all devices are loud then
  pub loud_taken : (v : Volumed B) (o : B) (number : ℕ) (s : Kept B) → is_loud (layers o) ≡ is_loud (layers v.origin) → is_loud_in_all layers (taken v o number s) ≡ (is_loud_in_all layers v && is_loud (layers s.device))
  loud_taken v o number s same =
      let loud : Kept B → Bool = λ (t : Kept B). is_loud (layers t.device) in
      ap (λ b. is_loud_with layers v.merge (b && list_all (λ (t : Kept B). is_loud (layers t.device)) (v.snaps ++ s ∷ []))) same
      ∙ ap (is_loud_with layers v.merge) (ap (λ b. is_loud (layers v.origin) && b) (list_all-append (λ (t : Kept B). is_loud (layers t.device)) v.snaps (s ∷ []))
      ∙ regrouped (is_loud (layers v.origin)) (list_all (λ (t : Kept B). is_loud (layers t.device)) v.snaps) (is_loud (layers s.device)))
      ∙ one_loud layers v.merge (is_loud (layers v.origin) && list_all (λ (t : Kept B). is_loud (layers t.device)) v.snaps) (is_loud (layers s.device))
    where
      regrouped : (a b c : Bool) → (a && (b && (c && true))) ≡ ((a && b) && c)
      regrouped true true true = refl
      regrouped true true false = refl
      regrouped true false c = refl
      regrouped false b c = refl

  pub loud_taken_as : (v : Volumed B) (o : B) (number : ℕ) (device : B) (s : Kept B) (snaps : List (Kept B)) → is_loud (layers o) ≡ is_loud (layers v.origin) → snaps ≡ v.snaps ++ s ∷ [] → is_loud (layers s.device) ≡ is_loud (layers device) → is_loud_in_all layers (record v { origin = o; snaps = snaps; attached = number }) ≡ (is_loud_in_all layers v && is_loud (layers device))
  loud_taken_as v o number device s snaps same_origin same loud =
      ap (λ (ss : List (Kept B)). is_loud_in_all layers (record v { origin = o; snaps = ss; attached = number })) same ∙ loud_taken v o number s same_origin ∙ ap (λ b. is_loud_in_all layers v && b) loud
