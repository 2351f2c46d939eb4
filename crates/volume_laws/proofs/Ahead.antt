-- Devices did operations ahead, before an event asks for them. A stack that is loud afterwards was loud, and holds the bytes
-- that it held; of one that is not, no more is said than how many bytes it has. The volume stays whole, and no request waits
-- for more.
use Rattle.std.proofs.Common.{◌≡◌, ◌≢◌, ℕ, suc, ◌*◌, ◌<◌, Bool, true, List, [], ◌∷◌, ◌++◌, length, get_or, map, refl, sym, ◌∙◌, ap, subst, arith}
use Rattle.std.specs.Prelude.{Option, Some, None, AllPairs, ◌&&◌, ◌||◌, not, take}
use Rattle.std.specs.List.{All, Any, list_any, list_all}
use Rattle.std.proofs.lemmas.List.{get_or_default}
use Rattle.sector.specs.Bytes.{sectors_at}
use Rattle.sector.specs.declared.pair.Pair.{Pair}
use Rattle.cow_format.specs.Pairs.{pairs_of}
use Rattle.cow_format.specs.Picture.{IsCopied}
use Rattle.in_flight.specs.Copies.{count_of}
use Rattle.in_flight.specs.declared.flights.Flight.{Flight}
use Rattle.volume_laws.specs.Books.{Books, SnapBooks, MergeBooks, number_of}
use Rattle.volume_laws.specs.Held.{LiveHolds, SnapHolds, MarkHolds}
use Rattle.volume_laws.specs.Merging.{MergeHolds}
use Rattle.volume_laws.specs.Published.{chunk_of, is_clear, is_saved}
use Rattle.volume_laws.specs.Whole.{Holds, OriginHolds}
use Rattle.volume_laws.specs.Waits.{Waits, WaitsHolds, WaitsFor, IsSaving, is_grouped}
use Rattle.volume_laws.proofs.Heard.{heard_first, store_loud, both_loud}

-- the bytes that a device holds afterwards; loud: whether its stack was loud; loud': whether it is
pub record IsKeptBytes (loud loud' : Bool) (bytes bytes' : List ℕ) : Type 0 where
  pub long : length bytes' ≡ length bytes
  pub was : loud' ≡ true → loud ≡ true
  pub same : loud' ≡ true → bytes' ≡ bytes

-- a snapshot of which the store's device did something ahead
pub record IsSnapAhead (s t : SnapBooks) : Type 0 where
  pub store : IsKeptBytes s.loud t.loud s.store t.store
  pub becomes : t ≡ record s { loud = t.loud; store = t.store }

-- a merge of which the store's or the origin's device did something ahead; it is loud where both stacks are
pub record IsMergeAhead (o o' : List ℕ) (x y : MergeBooks) : Type 0 where
  pub store : IsKeptBytes x.loud y.loud x.store y.store
  pub origin : y.loud ≡ true → o' ≡ o
  pub becomes : y ≡ record x { loud = y.loud; store = y.store }

abbrev pub IsMergingAhead : List ℕ → List ℕ → Option MergeBooks → Option MergeBooks → Type 0
IsMergingAhead o o' None None = Unit {0}
IsMergingAhead o o' None (Some y) = ⊥
IsMergingAhead o o' (Some x) None = ⊥
IsMergingAhead o o' (Some x) (Some y) = IsMergeAhead o o' x y

-- a volume of which devices did something ahead
pub record AreAhead (v w : Books) : Type 0 where
  pub origin : IsKeptBytes v.loud w.loud v.origin w.origin
  pub count : length w.snaps ≡ length v.snaps
  pub snaps : (k : ℕ) (d : SnapBooks) → k < length v.snaps → IsSnapAhead (get_or v.snaps k d) (get_or w.snaps k d)
  pub merge : IsMergingAhead v.origin w.origin v.merge w.merge
  pub becomes : w ≡ record v { origin = w.origin; loud = w.loud; snaps = w.snaps; merge = w.merge }

module _ {l l' : Bool} (o o' : List ℕ) (rs : List Flight) (disk : IsKeptBytes l l' o o') where
  module _ (s : SnapBooks) (b : Bool) (store : List ℕ) (e : IsKeptBytes s.loud b s.store store) (h : LiveHolds l o rs s) where
    both_before : (l' && b) ≡ true → (l && s.loud) ≡ true
    both_before both = both_loud l s.loud (disk.was (heard_first l' b both)) (e.was (store_loud l' b both))

    copied_ahead : (q : Pair) → (l' && b) ≡ true → IsCopied s.chunk o s.store q → IsCopied s.chunk o' store q
    copied_ahead q both copied =
        subst (λ x. IsCopied s.chunk x store q) (sym (disk.same (heard_first l' b both)))
        (subst (λ x. IsCopied s.chunk o x q) (sym (e.same (store_loud l' b both))) copied)

    live_ahead : LiveHolds l' o' rs (record s { loud = b; store = store })
    live_ahead = record {
      text = (let t = h.text in record { some = t.some; allowed = t.allowed; whole = e.long ∙ t.whole; inside = t.inside; apart = t.apart });
      stored = λ loud. ap (pairs_of s.chunk) (e.same loud) ∙ h.stored (e.was loud);
      fits = disk.long ∙ h.fits;
      tried = h.tried;
      agree = h.agree;
      few = h.few;
      link = h.link;
      copies = λ k d lt. (let old = h.copies k d lt in record {
        room = old.room;
        read = λ both is. old.read (both_before both) is ∙ sym (ap (λ x. sectors_at x (s.chunk * (get_or s.copies k d).pair.old) (count_of s.chunk s.sectors (get_or s.copies k d).pair.old)) (disk.same (heard_first l' b both)));
        written = λ both is. copied_ahead (get_or s.copies k d).pair both (old.written (both_before both) is);
      });
      unpublished = λ both.
          subst (λ x. All (MarkHolds s.chunk x store s.pairs) s.marks) (sym (disk.same (heard_first l' b both)))
          (subst (λ x. All (MarkHolds s.chunk o x s.pairs) s.marks) (sym (e.same (store_loud l' b both))) (h.unpublished (both_before both)));
      routes = h.routes;
    }

  snap_ahead : (s t : SnapBooks) → IsSnapAhead s t → SnapHolds l o rs s → SnapHolds l' o' rs t
  snap_ahead s t e h = subst (SnapHolds l' o' rs) (sym e.becomes) (record {
    alive = λ live. live_ahead s t.loud t.store e.store (h.alive live);
    spoilt = λ dead. (let p = h.spoilt dead in record { copies = p.copies; unpublished = p.unpublished; routes = p.routes; waited = p.waited });
  })

  merge_ahead : (m y : MergeBooks) → IsMergeAhead o o' m y → MergeHolds o rs m → MergeHolds o' rs (record m { loud = y.loud; store = y.store })
  merge_ahead m y e h = record {
    text = (let t = h.text in record { some = t.some; allowed = t.allowed; whole = e.store.long ∙ t.whole; inside = t.inside; apart = t.apart });
    stored = λ loud. ap (pairs_of m.chunk) (e.store.same loud) ∙ h.stored (e.store.was loud);
    fits = disk.long ∙ h.fits;
    ending = h.ending;
    room = h.room;
    buffered = λ loud. subst (λ x. All (λ q. take (512 * count_of m.chunk m.sectors q.old) m.buffer ≡ sectors_at x (m.chunk * q.new) (count_of m.chunk m.sectors q.old)) m.reading) (sym (e.store.same loud)) (h.buffered (e.store.was loud));
    back = λ loud.
        subst (λ x. All (IsCopied m.chunk x y.store) (m.copied ++ m.released)) (sym (e.origin loud))
        (subst (λ x. All (IsCopied m.chunk o x) (m.copied ++ m.released)) (sym (e.store.same loud)) (h.back (e.store.was loud)));
    routes = h.routes;
  }

  origin_ahead : (x y : Option MergeBooks) → IsMergingAhead o o' x y → OriginHolds o rs x → OriginHolds o' rs y
  origin_ahead None None e h = h
  origin_ahead None (Some y) e h = absurd e
  origin_ahead (Some x) None e h = absurd e
  origin_ahead (Some x) (Some y) e h = subst (MergeHolds o' rs) (sym e.becomes) (merge_ahead x y e h)

-- maps and tests that agree at each place
map_same : {A C : Type 0} (f : A → C) (xs ys : List A) → length ys ≡ length xs → ((k : ℕ) (d : A) → k < length xs → f (get_or ys k d) ≡ f (get_or xs k d)) → map f ys ≡ map f xs
map_same f [] [] len each = refl
map_same f [] (y ∷ ys) len each = absurd (omega (arith, len))
map_same f (x ∷ xs) [] len each = absurd (omega (arith, len))
map_same f (x ∷ xs) (y ∷ ys) len each =
    let head : f y ≡ f x = each 0 x (omega arith) in
    let tail : map f ys ≡ map f xs = map_same f xs ys (omega (arith, len)) (λ k d lt. each (suc k) d (omega (arith, lt))) in
    ap (λ z. z ∷ map f ys) head ∙ ap (λ zs. f x ∷ zs) tail

any_same : {A : Type 0} (p : A → Bool) (xs ys : List A) → length ys ≡ length xs → ((k : ℕ) (d : A) → k < length xs → p (get_or ys k d) ≡ p (get_or xs k d)) → list_any p ys ≡ list_any p xs
any_same p [] [] len each = refl
any_same p [] (y ∷ ys) len each = absurd (omega (arith, len))
any_same p (x ∷ xs) [] len each = absurd (omega (arith, len))
any_same p (x ∷ xs) (y ∷ ys) len each =
    let head : p y ≡ p x = each 0 x (omega arith) in
    let tail : list_any p ys ≡ list_any p xs = any_same p xs ys (omega (arith, len)) (λ k d lt. each (suc k) d (omega (arith, lt))) in
    ap (λ z. z || list_any p ys) head ∙ ap (λ z. p x || z) tail

all_same : {A : Type 0} (p : A → Bool) (xs ys : List A) → length ys ≡ length xs → ((k : ℕ) (d : A) → k < length xs → p (get_or ys k d) ≡ p (get_or xs k d)) → list_all p ys ≡ list_all p xs
all_same p [] [] len each = refl
all_same p [] (y ∷ ys) len each = absurd (omega (arith, len))
all_same p (x ∷ xs) [] len each = absurd (omega (arith, len))
all_same p (x ∷ xs) (y ∷ ys) len each =
    let head : p y ≡ p x = each 0 x (omega arith) in
    let tail : list_all p ys ≡ list_all p xs = all_same p xs ys (omega (arith, len)) (λ k d lt. each (suc k) d (omega (arith, lt))) in
    ap (λ z. z && list_all p ys) head ∙ ap (λ z. p x && z) tail

module _ (v w : Books) (e : AreAhead v w) where
  within : (k : ℕ) → k < length w.snaps → k < length v.snaps
  within k lt = omega (arith, lt, e.count)

  pub ahead_holds : Holds v → Holds w
  ahead_holds h = subst Holds (sym e.becomes) (record {
    whole = e.origin.long ∙ h.whole;
    merge = origin_ahead v.origin w.origin v.requests e.origin v.merge w.merge e.merge h.merge;
    snaps = λ k d lt. snap_ahead v.origin w.origin v.requests e.origin (get_or v.snaps k d) (get_or w.snaps k d) (e.snaps k d (within k lt)) (h.snaps k d (within k lt));
    requests = h.requests;
    numbers = subst (AllPairs (λ m n. m ≢ n)) (sym (map_same number_of v.snaps w.snaps e.count (λ k d lt. ap number_of (e.snaps k d lt).becomes))) h.numbers;
  })

  clear_same : (first : ℕ) → is_clear w.snaps first ≡ is_clear v.snaps first
  clear_same first =
      ap (λ b. b && not (list_any (λ (s : SnapBooks). s.untried) w.snaps)) (all_same (is_saved first) v.snaps w.snaps e.count (λ k d lt. ap (is_saved first) (e.snaps k d lt).becomes))
      ∙ ap (λ b. list_all (is_saved first) v.snaps && not b) (any_same (λ (s : SnapBooks). s.untried) v.snaps w.snaps e.count (λ k d lt. ap (λ (s : SnapBooks). s.untried) (e.snaps k d lt).becomes))

  grouped_same : (x y : Option MergeBooks) → IsMergingAhead v.origin w.origin x y → (f : Flight) → is_grouped y f ≡ is_grouped x f
  grouped_same None None m f = refl
  grouped_same None (Some y) m f = absurd m
  grouped_same (Some x) None m f = absurd m
  grouped_same (Some x) (Some y) m f = ap (λ (z : MergeBooks). is_grouped (Some z) f) m.becomes

  -- what is said of each snapshot, and no more of it than is left
  each : (P : SnapBooks → Type 0) → ((s : SnapBooks) (b : Bool) (store : List ℕ) → P s → P (record s { loud = b; store = store })) → All P v.snaps → All P w.snaps
  each P kept all k d lt = subst P (sym (e.snaps k d (within k lt)).becomes) (kept (get_or v.snaps k d) (get_or w.snaps k d).loud (get_or w.snaps k d).store (all k d (within k lt)))

  some : (P : SnapBooks → Type 0) → ((s : SnapBooks) (b : Bool) (store : List ℕ) → P s → P (record s { loud = b; store = store })) → Any P v.snaps → Any P w.snaps
  some P kept (k, s, lt, is, p) =
      let here : IsSnapAhead (get_or v.snaps k s) (get_or w.snaps k s) = e.snaps k s lt in (
        k,
        get_or w.snaps k s,
        omega (arith, lt, e.count),
        sym (get_or_default w.snaps k s (get_or w.snaps k s) (omega (arith, lt, e.count))),
        subst P (sym here.becomes) (kept (get_or v.snaps k s) (get_or w.snaps k s).loud (get_or w.snaps k s).store (subst P (sym is) p)),
      )

  waits_ahead : (f : Flight) → WaitsHolds v.merge v.snaps f → WaitsHolds w.merge w.snaps f
  waits_ahead f h = record {
    origin_read = h.origin_read;
    snap_read = h.snap_read;
    origin_write = λ kind route free. clear_same f.request.range.first ∙ h.origin_write kind route (sym (grouped_same v.merge w.merge e.merge f) ∙ free);
    saving = λ kind route free. each (λ s. s.live ≡ true → IsSaving (chunk_of s.chunk f) s) (λ s b store p live. p live) (h.saving kind route (sym (grouped_same v.merge w.merge e.merge f) ∙ free));
    snap_write = λ n kind route. some (WaitsFor n f) (λ s b store p. record { mine = p.mine; live = p.live; copying = p.copying }) (h.snap_write n kind route);
    read_goes = h.read_goes;
    write_goes = h.write_goes;
    read_attached = λ n kind. some (λ s. s.number ≡ n) (λ s b store p. p) (h.read_attached n kind);
    write_attached = λ n kind. some (λ s. s.number ≡ n) (λ s b store p. p) (h.write_attached n kind);
    origin_flush = h.origin_flush;
    snap_flush = h.snap_flush;
    flush_goes = h.flush_goes;
    flush_attached = λ n kind. some (λ s. s.number ≡ n) (λ s b store p. p) (h.flush_attached n kind);
  }

  pub ahead_waits : Waits v → Waits w
  ahead_waits h = subst Waits (sym e.becomes) (record { numbers = h.numbers; held = λ k d lt. waits_ahead (get_or v.requests k d) (h.held k d lt) })
