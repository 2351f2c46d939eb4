-- A copy is read, and written to its place: CopyRead and CopyWrite, of one live snapshot.
use Rattle.std.specs.Prelude.{◌&&◌}
use Rattle.std.proofs.Common.{Bool, ◌≡◌, ◌≢◌, ◌⊎◌, inl, inr, ℕ, ◌+◌, ◌*◌, ◌-◌, ◌<◌, ◌≤◌, true, false, List, length, get_or, set, min, refl, sym, ◌∙◌, ap, subst, arith}
use Rattle.std.specs.List.{All}
use Rattle.std.proofs.lemmas.Bool.{cases_eq, cases_lt, false≢true}
use Rattle.std.proofs.lemmas.List.{get_or_default}
use Rattle.std.proofs.lemmas.List.Elements.{All-set, All-weaker}
use Rattle.std.proofs.Math.Seq.{map-set_same}
use Rattle.sector.specs.Bytes.{sectors_at, with_sectors}
use Rattle.sector.specs.declared.pair.Pair.{Pair}
use Rattle.sector.proofs.Sectors.{sectors_at-with_same}
use Rattle.cow_format.specs.Places.{ChangesOnly}
use Rattle.cow_format.specs.Picture.{picture, IsCopied}
use Rattle.cow_format.proofs.Pictures.{front_copied}
use Rattle.cow_format.proofs.Slots.{pairs-outside}
use Rattle.in_flight.specs.Copies.{count_of, pair_of}
use Rattle.in_flight.specs.declared.copies.ChunkCopy.{ChunkCopy}
use Rattle.in_flight.specs.declared.copies.Stage.TheVariants.{Waiting, Read, Written}
use Rattle.in_flight.specs.declared.flights.Flight.{Flight}
use Rattle.volume_laws.proofs.Heard.{store_loud}
use Rattle.volume_laws.specs.Books.{SnapBooks}
use Rattle.volume_laws.specs.Held.{LiveHolds, CopyHolds, MarkHolds, is_stored}
use Rattle.volume_laws.specs.Steps.{ReadsCopy, WritesCopy}
use Rattle.volume_laws.proofs.Same.{same_books}
use Rattle.volume_laws.proofs.Stores.{copy_holds, inside_at, place_unused, places_differ, copied_kept, mark_kept, picture_kept}

pub read_ne_written : Read ≢ Written
read_ne_written e = cc

pub waiting_ne_read : Waiting ≢ Read
waiting_ne_read e = cc

-- a copy goes on, with its pair
goes_on : {l : Bool} (o : List ℕ) (rs : List Flight) (v : SnapBooks) → LiveHolds l o rs v → (k : ℕ) (p q : ChunkCopy) → p ≡ get_or v.copies k p → q.pair ≡ p.pair → CopyHolds (l && v.loud) v.chunk v.sectors o v.store q
    → LiveHolds l o rs (record v { copies = set v.copies k q })
goes_on o rs v h k p q is same holds = record {
  text = h.text;
  stored = h.stored;
  fits = h.fits;
  tried = h.tried;
  agree = h.agree ∙ sym (map-set_same pair_of v.copies k q p (same ∙ ap pair_of is));
  few = h.few;
  link = h.link;
  copies = All-set (CopyHolds _ v.chunk v.sectors o v.store) v.copies k q holds h.copies;
  unpublished = h.unpublished;
  routes = h.routes;
}

pub copy_read : {l : Bool} (o : List ℕ) (rs : List Flight) (k : ℕ) (p q : ChunkCopy) (v w : SnapBooks) → LiveHolds l o rs v → ReadsCopy o k p q v w → LiveHolds l o rs w
copy_read o rs k p q v w h e =
    let old = copy_holds o rs v h k p e.copy.within e.copy.was in
    let s = e.same in
    let now : w ≡ record v { copies = set v.copies k q } =
    same_books w (record v { copies = set v.copies k q }) s.number s.live s.untried s.marked s.loud s.overflow s.chunk s.sectors s.size e.store.store e.store.pairs e.store.begun e.store.sure e.copy.copies e.marks in
    subst (LiveHolds _ o rs) (sym now) (goes_on o rs v h k p q e.copy.was e.copy.pair (record {
      room = e.room ∙ old.room ∙ ap (λ (x : Pair). 512 * count_of v.chunk v.sectors x.old) (sym e.copy.pair);
      read = λ _ _. e.read ∙ ap (λ (x : Pair). sectors_at o (v.chunk * x.old) (count_of v.chunk v.sectors x.old)) (sym e.copy.pair);
      written = λ _ is. absurd (false≢true (sym (ap is_stored e.stage) ∙ is));
    }))

-- the whole chunk of an origin, or its short end
pub whole_chunk : (chunk origin c n : ℕ) → n ≡ 512 * origin → chunk * c < origin → (n ≤ 512 * (chunk * c + count_of chunk origin c)) ⊎ (count_of chunk origin c ≡ chunk)
whole_chunk chunk origin c n is inside = elim (cases_lt (origin - chunk * c) chunk) [
  | inl short ↦ inl (let e : min chunk (origin - chunk * c) ≡ origin - chunk * c = omega arith in omega arith)
  | inr long ↦ inr (omega arith)
]

-- what stands in the copy's place is the origin's chunk
pub place_copied : (chunk sectors size : ℕ) (o old new bytes : List ℕ) (pair : Pair) → 0 < chunk → length o ≡ 512 * sectors → length old ≡ 512 * size → chunk * pair.old < sectors → chunk * (pair.new + 1) ≤ size
    → length bytes ≡ 512 * count_of chunk sectors pair.old → bytes ≡ sectors_at o (chunk * pair.old) (count_of chunk sectors pair.old) → new ≡ with_sectors old (chunk * pair.new) bytes → IsCopied chunk o new pair
place_copied chunk sectors size o old new bytes pair pos o_len s_len inside fits len is written =
    let n : ℕ = count_of chunk sectors pair.old in
    let small : count_of chunk sectors pair.old ≤ chunk = omega arith in
    let place : chunk * (pair.new + 1) ≡ chunk * pair.new + chunk = grind arith in
    let here : sectors_at new (chunk * pair.new) n ≡ sectors_at o (chunk * pair.old) n =
    ap (λ x. sectors_at x (chunk * pair.new) n) written ∙ sectors_at-with_same old (chunk * pair.new) n bytes (omega arith) len ∙ is in
    record { front = front_copied chunk pair.old pair.new n o new pos here small (whole_chunk chunk sectors pair.old (length o) o_len inside) }

-- the copies' places but one
other_copies : {l : Bool} (o : List ℕ) (rs : List Flight) (v : SnapBooks) (new : List ℕ) → LiveHolds l o rs v → (k : ℕ) (p : ChunkCopy) → k < length v.copies → p ≡ get_or v.copies k p → is_stored p.stage ≡ false → ChangesOnly v.chunk p.pair.new v.store new
    → All (CopyHolds (l && v.loud) v.chunk v.sectors o new) v.copies
other_copies o rs v new h k p within is unwritten only j d lt =
    let x = get_or v.copies j d in
    let x_is : x ≡ get_or v.copies j x = get_or_default v.copies j d x lt in
    let old = h.copies j d lt in
    record {
      room = old.room;
      read = old.read;
      written = λ loud done. elim (cases_eq j k) [
        | inl same ↦ absurd (false≢true (sym unwritten ∙ ap (λ (y : ChunkCopy). is_stored y.stage) (is ∙ sym (ap (λ i. get_or v.copies i p) same) ∙ get_or_default v.copies j p d lt) ∙ done))
        | inr other ↦ copied_kept v.chunk p.pair.new o v.store new x.pair h.text.some only (places_differ o rs v h j k x p lt within x_is is other) (old.written loud done)
      ];
    }

place_written : {l : Bool} (o : List ℕ) (rs : List Flight) (v : SnapBooks) (new : List ℕ) → LiveHolds l o rs v → (k : ℕ) (p : ChunkCopy) → k < length v.copies → p ≡ get_or v.copies k p → is_stored p.stage ≡ false → ChangesOnly v.chunk p.pair.new v.store new
    → LiveHolds l o rs (record v { store = new })
place_written o rs v new h k p within is unwritten only =
    let t = h.text in
    record {
      text = record { some = t.some; allowed = t.allowed; whole = only.len ∙ t.whole; inside = t.inside; apart = t.apart };
      stored = λ loud. pairs-outside v.chunk p.pair.new v.store new t.some (inside_at o rs v h k p within is).free only ∙ h.stored loud;
      fits = h.fits;
      tried = h.tried;
      agree = h.agree;
      few = h.few;
      link = h.link;
      copies = other_copies o rs v new h k p within is unwritten only;
      unpublished = λ loud. All-weaker (MarkHolds v.chunk o v.store v.pairs) (MarkHolds v.chunk o new v.pairs)
          (λ m. mark_kept v.chunk p.pair.new o v.store new v.pairs m t.some only (place_unused o rs v h k p within is)) v.marks (h.unpublished loud);
      routes = h.routes;
    }

pub copy_write : {l : Bool} (o : List ℕ) (rs : List Flight) (k : ℕ) (p q : ChunkCopy) (v w : SnapBooks) → LiveHolds l o rs v → WritesCopy k p q v w → LiveHolds l o rs w
copy_write o rs k p q v w h e =
    let old = copy_holds o rs v h k p e.copy.within e.copy.was in
    let inside = inside_at o rs v h k p e.copy.within e.copy.was in
    let s = e.same in
    let u : SnapBooks = record v { store = w.store; copies = set v.copies k q } in
    let now : w ≡ u = same_books w u s.number s.live s.untried s.marked s.loud s.overflow s.chunk s.sectors s.size refl e.pairs e.begun e.sure e.copy.copies e.marks in
    subst (LiveHolds _ o rs) (sym now)
    (goes_on o rs (record v { store = w.store }) (place_written o rs v w.store h k p e.copy.within e.copy.was (ap is_stored e.was_read) e.only) k p q e.copy.was e.copy.pair (record {
      room = ap length e.buffer ∙ old.room ∙ ap (λ (x : Pair). 512 * count_of v.chunk v.sectors x.old) (sym e.copy.pair);
      read = λ _ is. absurd (read_ne_written (sym is ∙ e.stage));
      written = λ loud _. subst (IsCopied v.chunk o w.store) (sym e.copy.pair)
          (place_copied v.chunk v.sectors v.size o v.store w.store p.buffer.items p.pair h.text.some h.fits h.text.whole inside.old inside.new old.room (old.read loud e.was_read) (e.written (store_loud _ v.loud loud)));
    }))

-- and the array is as it was
pub copy_write_picture : {l : Bool} (o : List ℕ) (rs : List Flight) (k : ℕ) (p q : ChunkCopy) (v w : SnapBooks) → LiveHolds l o rs v → WritesCopy k p q v w → v.loud ≡ true → picture w.chunk o w.store ≡ picture v.chunk o v.store
copy_write_picture o rs k p q v w h e loud =
    let free = (inside_at o rs v h k p e.copy.within e.copy.was).free in
    ap (λ c. picture c o w.store) e.same.chunk
    ∙ picture_kept v.chunk p.pair.new o v.store w.store v.pairs h.text.some e.only (place_unused o rs v h k p e.copy.within e.copy.was) (h.stored loud)
    (pairs-outside v.chunk p.pair.new v.store w.store h.text.some free e.only ∙ h.stored loud)
