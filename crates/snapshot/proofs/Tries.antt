-- A store that is opened over a device with layers: what its load read and wrote is what `whole_commands` does.
use Rattle.std.proofs.Common.{◌≡◌, ◌≢◌, inl, inr, ℕ, zero, suc, ◌+◌, ◌*◌, ◌-◌, ◌/◌, ◌%◌, ◌<◌, ◌≤◌, Bool, true, false, List, [], ◌∷◌, length, get_or, drop, arith, refl, ap, ◌∙◌, sym, subst}
use Rattle.std.specs.Prelude.{◌==◌, ◌&&◌, nat_lt, not, if◌then◌else◌, Option, Some, None, Result, Ok, Err}
use Rattle.std.specs.List.{list_all}
use Rattle.std.proofs.lemmas.Bool.{cases_Bool, cases_lt, cond-true, cond-false, lt-ltb, le-ltb, eq-eqb, ne_eqb}
use Rattle.std.proofs.lemmas.List.{get_or-drop}
use Rattle.std.proofs.lemmas.List.Folds.{list_all_at}
use Rattle.sector.specs.Bytes.{sector_at}
use Rattle.sector.specs.declared.pair.Pair.{Pair}
use Rattle.sector.specs.declared.refusal.Refusal.{Refusal}
use Rattle.sector.specs.declared.refusal.Refusal.TheVariants.{NoMemory, Io, Damaged}
use Rattle.device.specs.declared.operation.Operation.{Operation}
use Rattle.device.specs.declared.operation.Operation.TheVariants.{Flushes, Reads, Writes}
use Rattle.device.specs.Layers.{Layer, fate, is_answered, layers_after}
use Rattle.cow_format.specs.Places.{chunk_at, area_place}
use Rattle.cow_format.specs.Pairs.{pairs_of, AreWellFormed}
use Rattle.cow_format.proofs.AreaPlaces.{area_of, number_in}
use Rattle.metadata_area.specs.Cleared.{HasTail, HasNoTail}
use Rattle.cow_header.specs.HeaderText.{found_in}
use Rattle.cow_header.specs.declared.found.Found.{Found}
use Rattle.cow_header.specs.declared.found.Found.TheVariants.{Fresh, Header}
use Rattle.store.specs.declared.state.State.{State}
use Rattle.store.specs.Opening.{IsOpenedWritten, IsRefused}
use Rattle.store.specs.Reading.{Reading, ended, all_read, read_areas as areas_read, read_found, reading, IsEnded}
use Rattle.whole_commands.specs.Loads.{trimmed, is_loadable, is_too_small}
use Rattle.whole_commands.proofs.Loadable.{formed-loadable, loadable-formed}
use Rattle.whole_commands.proofs.Trimmed.{cleared}
use Rattle.whole_commands.specs.Devices.{Device, answers, met, sectors_of}
use Rattle.whole_commands.specs.Attaching.{Tried, refuse, write_on, flush_on, flush_both, done, read_areas, last_area, has_tail, make, clear, load_as, write_tail, open_store}
use Rattle.whole_commands.proofs.FaultlessAttaching.{size_of}
use Rattle.snapshot.specs.Opening.{IsOpenedAs}
use Rattle.snapshot.specs.Attaching.{both_by, writes_by}

abbrev pub over : List ℕ → List Layer → Device
over bytes layers = record { bytes = bytes; layers = layers }

-- what follows the reads of a load
abbrev pub goes_as : Option Refusal → Device → Device → (Device → Tried) → Tried
goes_as None origin device next = next device
goes_as (Some refusal) origin device next = refuse refusal origin device

abbrev pub goes : Reading → Device → List ℕ → (Device → Tried) → Tried
goes r origin bytes next = goes_as r.refused origin (over bytes r.layers) next

-- what follows both flushes goes by the store's bytes
flushes_same : (origin : Device) (bytes : List ℕ) (layers : List Layer) (f g : Device → Device → Tried) → ((o : Device) (l : List Layer) → f o (over bytes l) ≡ g o (over bytes l)) → flush_both origin (over bytes layers) f ≡ flush_both origin (over bytes layers) g
flushes_same origin bytes layers f g same =
    ap (λ (t : Tried). if answers origin Flushes then (if is_answered (fate layers Flushes) then t else refuse Io (met origin Flushes) (over bytes (layers_after layers Flushes))) else refuse Io (met origin Flushes) (over bytes layers))
    (same (met origin Flushes) (layers_after layers Flushes))

-- sectors are counted as bytes
lacks_same : (bytes : List ℕ) (size m : ℕ) → length bytes ≡ 512 * size → nat_lt (length bytes) (512 * m) ≡ nat_lt size m
lacks_same bytes size m whole = elim (cases_lt size m) [
  | inl lt ↦ lt-ltb _ _ (omega arith) ∙ sym (lt-ltb _ _ lt)
  | inr ge ↦ le-ltb _ _ (omega arith) ∙ sym (le-ltb _ _ ge)
]

module _ (origin : Device) (sectors : ℕ) (counted : sectors_of origin ≡ sectors) (bytes : List ℕ) (size : ℕ) (whole : length bytes ≡ 512 * size) where
  areas_same : (chunk a n : ℕ) (old : List Layer) (next : Device → Tried) → read_areas chunk a n origin next (over bytes old) ≡ goes (areas_read chunk size a n old) origin bytes next
  areas_same chunk a zero old next = refl
  areas_same chunk a (suc n) old next =
      let m : ℕ = chunk * (area_place chunk a + 1) in
      let op : Operation = Reads (chunk * area_place chunk a) chunk in
      let same : nat_lt (length bytes) (512 * (chunk * (area_place chunk a + 1))) ≡ nat_lt size (chunk * (area_place chunk a + 1)) = lacks_same bytes size (chunk * (area_place chunk a + 1)) whole in
      elim (cases_Bool (nat_lt size (chunk * (area_place chunk a + 1)))) [
        | inl lacks ↦ cond-true _ _ _ (same ∙ lacks) ∙ sym (ap (λ (r : Reading). goes r origin bytes next) (cond-true _ _ _ lacks))
        | inr there ↦ elim (cases_Bool (is_answered (fate old (Reads (chunk * area_place chunk a) chunk)))) [
          | inl ok ↦ cond-false _ _ _ (same ∙ there) ∙ cond-true _ _ _ ok
              ∙ areas_same chunk (a + 1) n (layers_after old (Reads (chunk * area_place chunk a) chunk)) next
              ∙ sym (ap (λ (r : Reading). goes r origin bytes next) (cond-false _ _ _ there ∙ cond-true _ _ _ ok))
          | inr fails ↦ cond-false _ _ _ (same ∙ there) ∙ cond-false _ _ _ fails
              ∙ sym (ap (λ (r : Reading). goes r origin bytes next) (cond-false _ _ _ there ∙ cond-false _ _ _ fails))
        ]
      ]

  -- what a store's first sector leads to
  abbrev pub then_found : ℕ → Result Found Refusal → Device → Tried
  then_found line (Err refusal) device = refuse refusal origin device
  then_found line (Ok Fresh) device = make line origin device
  then_found line (Ok (Header chunk)) device = clear chunk origin device

  found_same : (line : ℕ) (found : Result Found Refusal) (old : List Layer) → load_as line found origin (over bytes old) ≡ goes (read_found line size bytes found old) origin bytes (then_found line found)
  found_same line (Err refusal) old = refl
  found_same line (Ok Fresh) old =
      let same : is_too_small line bytes ≡ nat_lt size (2 * line) = lacks_same bytes size (2 * line) whole in
      elim (cases_Bool (nat_lt size (2 * line))) [
        | inl small ↦ cond-true _ _ _ (same ∙ small) ∙ sym (ap (λ (r : Reading). goes r origin bytes (then_found line (Ok Fresh))) (cond-true _ _ _ small))
        | inr large ↦ sym (ap (λ (r : Reading). goes r origin bytes (then_found line (Ok Fresh))) (cond-false _ _ _ large))
      ]
  found_same line (Ok (Header chunk)) old =
      let same : is_too_small chunk bytes ≡ nat_lt size (2 * chunk) = lacks_same bytes size (2 * chunk) whole in
      elim (cases_Bool (nat_lt size (2 * chunk))) [
        | inl small ↦ cond-true _ _ _ (same ∙ small) ∙ sym (ap (λ (r : Reading). goes r origin bytes (then_found line (Ok (Header chunk)))) (cond-true _ _ _ small))
        | inr large ↦ cond-false _ _ _ (same ∙ large) ∙ areas_same chunk 0 (last_area chunk bytes + 1) old (clear chunk origin)
            ∙ sym (ap (λ (r : Reading). goes r origin bytes (then_found line (Ok (Header chunk)))) (cond-false _ _ _ large))
      ]

  -- a load of a store goes as its reads say
  open_goes : (line : ℕ) (old : List Layer) → open_store line origin (over bytes old) ≡ goes (reading line size bytes old) origin bytes (then_found line (found_in (sector_at bytes 0)))
  unfolding open_store reading
  open_goes line old =
      let count : length bytes / 512 ≡ size = size_of (length bytes) size whole in
      let says : Result Found Refusal = found_in (sector_at bytes 0) in
      elim (cases_Bool (size == 0)) [
        | inl none ↦ cond-true _ _ _ (ap (λ n. n == 0) count ∙ none) ∙ sym (ap (λ (r : Reading). goes r origin bytes (then_found line (found_in (sector_at bytes 0)))) (cond-true _ _ _ none))
        | inr some ↦ elim (cases_Bool (is_answered (fate old (Reads 0 1)))) [
          | inl ok ↦ cond-false _ _ _ (ap (λ n. n == 0) count ∙ some) ∙ cond-true _ _ _ ok
              ∙ found_same line (found_in (sector_at bytes 0)) (layers_after old (Reads 0 1))
              ∙ sym (ap (λ (r : Reading). goes r origin bytes (then_found line (found_in (sector_at bytes 0)))) (cond-false _ _ _ some ∙ cond-true _ _ _ ok))
          | inr fails ↦ cond-false _ _ _ (ap (λ n. n == 0) count ∙ some) ∙ cond-false _ _ _ fails
              ∙ sym (ap (λ (r : Reading). goes r origin bytes (then_found line (found_in (sector_at bytes 0)))) (cond-false _ _ _ some ∙ cond-false _ _ _ fails))
        ]
      ]

  -- refused by its reads
  pub open_ended : (line : ℕ) (old new : List Layer) (refusal : Refusal) → reading line size bytes old ≡ ended refusal new → open_store line origin (over bytes old) ≡ refuse refusal origin (over bytes new)
  open_ended line old new refusal is = open_goes line old ∙ ap (λ (r : Reading). goes r origin bytes (then_found line (found_in (sector_at bytes 0)))) is

  -- all is read
  open_read : (line : ℕ) (old new : List Layer) (found : Found) → reading line size bytes old ≡ all_read new → found_in (sector_at bytes 0) ≡ Ok found → open_store line origin (over bytes old) ≡ then_found line (Ok found) (over bytes new)
  open_read line old new found is says =
      open_goes line old ∙ ap (λ (r : Reading). goes r origin bytes (then_found line (found_in (sector_at bytes 0)))) is
      ∙ ap (λ (f : Result Found Refusal). then_found line f (over bytes new)) says

  loadable_as : (chunk : ℕ) (b : Bool) → is_loadable chunk sectors size (pairs_of chunk bytes) ≡ b → is_loadable chunk (sectors_of origin) (length bytes / 512) (pairs_of chunk bytes) ≡ b
  loadable_as chunk b is =
      ap (λ n. is_loadable chunk n (length bytes / 512) (pairs_of chunk bytes)) counted ∙ ap (λ n. is_loadable chunk sectors n (pairs_of chunk bytes)) (size_of (length bytes) size whole) ∙ is

  not_loadable : (chunk : ℕ) → (AreWellFormed chunk sectors size (pairs_of chunk bytes) → ⊥) → is_loadable chunk sectors size (pairs_of chunk bytes) ≡ false
  not_loadable chunk bad = elim (cases_Bool (is_loadable chunk sectors size (pairs_of chunk bytes))) [ inl loads ↦ absurd (bad (loadable-formed chunk sectors size (pairs_of chunk bytes) loads)) | inr f ↦ f ]

  -- refused for its pairs
  pub open_damaged : (line chunk : ℕ) (old new : List Layer) → reading line size bytes old ≡ all_read new → found_in (sector_at bytes 0) ≡ Ok (Header chunk) → (AreWellFormed chunk sectors size (pairs_of chunk bytes) → ⊥) → open_store line origin (over bytes old) ≡ refuse Damaged origin (over bytes new)
  open_damaged line chunk old new is says bad =
      open_read line old new (Header chunk) is says ∙ cond-true _ _ _ (ap not (loadable_as chunk false (not_loadable chunk bad)))

  formed_here : (s : State) (ps : List Pair) → IsOpenedWritten sectors size bytes s ps → is_loadable s.chunk (sectors_of origin) (length bytes / 512) (pairs_of s.chunk bytes) ≡ true
  formed_here s ps opened =
      let formed : AreWellFormed s.chunk sectors size (pairs_of s.chunk bytes) = subst (AreWellFormed s.chunk sectors size) (sym opened.pairs) opened.formed in
      loadable_as s.chunk true (formed-loadable s.chunk sectors size (pairs_of s.chunk bytes) formed)

  large_here : (chunk : ℕ) → 2 * chunk ≤ size → is_too_small chunk bytes ≡ false
  large_here chunk large = lacks_same bytes size (2 * chunk) whole ∙ le-ltb _ _ large

  -- a tail is one byte that is not 0
  tail_is : (area : List ℕ) (j : ℕ) → HasTail area j → not (list_all (λ b. b == 0) (drop (16 * (j + 1)) area)) ≡ true
  tail_is area j (i, from, byte) =
      let e : 16 * (j + 1) + (i - 16 * (j + 1)) ≡ i = omega arith in
      let at : get_or (drop (16 * (j + 1)) area) (i - 16 * (j + 1)) 0 ≡ get_or area i 0 = get_or-drop (16 * (j + 1)) area (i - 16 * (j + 1)) 0 ∙ ap (λ n. get_or area n 0) e in
      elim (cases_lt (i - 16 * (j + 1)) (length (drop (16 * (j + 1)) area))) [
        | inl lt ↦ ap not (list_all_at (λ b. b == 0) (drop (16 * (j + 1)) area) (i - 16 * (j + 1)) 0 lt (ne_eqb _ _ (λ z. byte (sym at ∙ z))))
        | inr past ↦ absurd (byte (sym at ∙ past_end (drop (16 * (j + 1)) area) (i - 16 * (j + 1)) past))
      ]
    where
      past_end : (xs : List ℕ) (k : ℕ) → length xs ≤ k → get_or xs k 0 ≡ 0
      past_end [] k le = refl
      past_end (x ∷ xs) zero le = absurd (omega arith)
      past_end (x ∷ xs) (suc k) le = past_end xs k (omega arith)

  all_zero : (xs : List ℕ) → ((i : ℕ) → get_or xs i 0 ≡ 0) → list_all (λ b. b == 0) xs ≡ true
  all_zero [] none = refl
  all_zero (x ∷ xs) none = ap (λ b. b && list_all (λ b. b == 0) xs) (eq-eqb x 0 (none 0)) ∙ all_zero xs (λ i. none (suc i))

  no_tail_is : (area : List ℕ) (j : ℕ) → HasNoTail area j → not (list_all (λ b. b == 0) (drop (16 * (j + 1)) area)) ≡ false
  no_tail_is area j none = ap not (all_zero (drop (16 * (j + 1)) area) (λ i. get_or-drop (16 * (j + 1)) area i 0 ∙ none (16 * (j + 1) + i) (omega arith)))

  trimmed_at : (chunk a j : ℕ) → length (pairs_of chunk bytes) ≡ a * (32 * chunk) + j → j < 32 * chunk → trimmed chunk bytes ≡ cleared chunk bytes a j
  unfolding trimmed
  trimmed_at chunk a j count lt =
      let q : length (pairs_of chunk bytes) / (32 * chunk) ≡ a = ap (λ n. n / (32 * chunk)) count ∙ area_of chunk a j lt in
      let r : length (pairs_of chunk bytes) % (32 * chunk) ≡ j = ap (λ n. n % (32 * chunk)) count ∙ number_in chunk a j lt in
      ap (λ n. cleared chunk bytes n (length (pairs_of chunk bytes) % (32 * chunk))) q ∙ ap (cleared chunk bytes a) r

  tail_goes : (s : State) (ps : List Pair) (o : Device) (new : List Layer) → IsOpenedWritten sectors size bytes s ps → write_tail s.chunk o (over bytes new) ≡ writes_by s.left s o (over bytes new)
  tail_goes s ps o new opened =
      let count : length (pairs_of s.chunk bytes) ≡ s.current * (32 * s.chunk) + s.filled = ap length opened.pairs ∙ opened.count in
      let q : length (pairs_of s.chunk bytes) / (32 * s.chunk) ≡ s.current = ap (λ n. n / (32 * s.chunk)) count ∙ area_of s.chunk s.current s.filled opened.part in
      let r : length (pairs_of s.chunk bytes) % (32 * s.chunk) ≡ s.filled = ap (λ n. n % (32 * s.chunk)) count ∙ number_in s.chunk s.current s.filled opened.part in
      let tail_at : ℕ → ℕ → Bool = λ (a j : ℕ). not (list_all (λ b. b == 0) (drop (16 * (j + 1)) (chunk_at s.chunk bytes (area_place s.chunk a)))) in
      let here : has_tail s.chunk bytes ≡ tail_at s.current s.filled = ap (λ a. tail_at a (length (pairs_of s.chunk bytes) % (32 * s.chunk))) q ∙ ap (tail_at s.current) r in
      let write : ℕ → List ℕ → Tried = λ (a : ℕ) (b : List ℕ). write_on o (over bytes new) (Writes (s.chunk * area_place s.chunk a) s.chunk) b (flush_on o (done s.chunk o)) in
      elim opened.tail [
        | inl (left, tail) ↦ cond-true _ _ _ (here ∙ tail_is (chunk_at s.chunk bytes (area_place s.chunk s.current)) s.filled tail)
            ∙ ap (λ a. write a (trimmed s.chunk bytes)) q ∙ ap (write s.current) (trimmed_at s.chunk s.current s.filled count opened.part)
            ∙ sym (ap (λ l. writes_by l s o (over bytes new)) left)
        | inr (left, none) ↦ cond-false _ _ _ (here ∙ no_tail_is (chunk_at s.chunk bytes (area_place s.chunk s.current)) s.filled none)
            ∙ sym (ap (λ l. writes_by l s o (over bytes new)) left)
      ]

  clear_goes : (s : State) (ps : List Pair) (new : List Layer) → IsOpenedWritten sectors size bytes s ps → clear s.chunk origin (over bytes new) ≡ both_by s.left s origin (over bytes new)
  clear_goes s ps new opened =
      cond-false _ _ _ (ap not (formed_here s ps opened))
      ∙ flushes_same origin bytes new (write_tail s.chunk) (writes_by s.left s) (λ o l. tail_goes s ps o l opened)

  -- a store that is opened
  pub open_opened : (line : ℕ) (old new : List Layer) (s : State) (ps : List Pair) → reading line size bytes old ≡ all_read new → IsOpenedAs line sectors size bytes s ps → open_store line origin (over bytes old) ≡ both_by s.left s origin (over bytes new)
  open_opened line old new s ps is (inl fresh) =
      open_read line old new Fresh is fresh.found ∙ cond-false _ _ _ (large_here line fresh.large)
      ∙ sym (ap (λ (t : State). both_by t.left t origin (over bytes new)) fresh.state)
  open_opened line old new s ps is (inr written) = open_read line old new (Header s.chunk) is written.found ∙ clear_goes s ps new written

-- the device that is given back by a load that is refused
pub back_by : (origin : Device) (line sectors size : ℕ) (bytes bytes' : List ℕ) (old new : List Layer) (refusal : Refusal) → sectors_of origin ≡ sectors → length bytes ≡ 512 * size → bytes' ≡ bytes → refusal ≢ NoMemory → IsRefused line sectors size bytes refusal → IsEnded (reading line size bytes old) refusal old new
    → open_store line origin (over bytes old) ≡ refuse refusal origin (over bytes' new)
back_by origin line sectors size bytes bytes' old new refusal counted whole same some refused (inl (memory, reads)) = absurd (some memory)
back_by origin line sectors size bytes bytes' old new refusal counted whole same some refused (inr (inl is)) =
    open_ended origin sectors counted bytes size whole line old new refusal is ∙ ap (λ (b : List ℕ). refuse refusal origin (over b new)) (sym same)
back_by origin line sectors size bytes bytes' old new refusal counted whole same some refused (inr (inr (damaged, is))) =
    let (chunk, says, large, bad) = subst (IsRefused line sectors size bytes) damaged refused in
    open_damaged origin sectors counted bytes size whole line chunk old new is says bad
    ∙ ap (λ (b : List ℕ). refuse Damaged origin (over b new)) (sym same) ∙ ap (λ (r : Refusal). refuse r origin (over bytes' new)) (sym damaged)

-- the store that is opened
pub goes_by : (origin : Device) (line sectors size : ℕ) (bytes bytes' : List ℕ) (old new : List Layer) (s : State) (ps : List Pair) → sectors_of origin ≡ sectors → length bytes ≡ 512 * size → bytes' ≡ bytes → reading line size bytes old ≡ all_read new → IsOpenedAs line sectors size bytes s ps
    → open_store line origin (over bytes old) ≡ both_by s.left s origin (over bytes' new)
goes_by origin line sectors size bytes bytes' old new s ps counted whole same is opened =
    open_opened origin sectors counted bytes size whole line old new s ps is opened ∙ ap (λ (b : List ℕ). both_by s.left s origin (over b new)) (sym same)
