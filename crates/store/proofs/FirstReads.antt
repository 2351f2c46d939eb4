-- The first sector of a store is read, and then what follows by what it says.
use Rattle.std.proofs.Common.{◌≡◌, inl, inr, ℕ, ◌+◌, ◌*◌, ◌/◌, ◌<◌, ◌≤◌, true, false, List, [], ◌∷◌, length, ap, ◌∙◌, sym, subst}
use Rattle.std.specs.Prelude.{◌==◌, nat_lt, Result, Ok, Err}
use Rattle.std.proofs.lemmas.Bool.{cases_Bool, cond-true, cond-false, lt-ltb, le-ltb, eq-eqb, ne_eqb}
use Rattle.sector.specs.Bytes.{sector_at}
use Rattle.sector.specs.declared.refusal.Refusal.{Refusal}
use Rattle.sector.specs.declared.refusal.Refusal.TheVariants.{NoMemory, Io, StoreTooSmall}
use Rattle.device.specs.declared.operation.Operation.TheVariants.{Reads}
use Rattle.device.specs.Layers.{Layer, fate, is_answered, layers_after}
use Rattle.cow_header.specs.HeaderText.{found_in}
use Rattle.cow_header.specs.declared.found.Found.{Found}
use Rattle.cow_header.specs.declared.found.Found.TheVariants.{Fresh, Header}
use Rattle.store.specs.Reading.{Reading, ended, all_read, read_pairs, read_found, reading, AreRead, IsEnded}
use Rattle.cow_format.specs.Pairs.{pairs_of}
use Rattle.store.proofs.AreaReads.{first_read, no_more, reads_on, reads_areas}

-- a device without sectors is not read
pub none_there : (line size : ℕ) (bytes : List ℕ) (old : List Layer) → size ≡ 0 → reading line size bytes old ≡ ended StoreTooSmall old
unfolding reading
none_there line size bytes old none = cond-true _ _ _ (eq-eqb _ _ none)

pub first_fails : (line size : ℕ) (bytes : List ℕ) (old new : List Layer) → (size ≡ 0 → ⊥) → false ≡ is_answered (fate old (Reads 0 1)) → new ≡ layers_after old (Reads 0 1) → reading line size bytes old ≡ ended Io new
unfolding reading
first_fails line size bytes old new some fails is = cond-false _ _ _ (ne_eqb _ _ some) ∙ cond-false _ _ _ (sym fails) ∙ ap (ended Io) (sym is)

pub first_says : (line size : ℕ) (bytes : List ℕ) (old new : List Layer) (found : Result Found Refusal) → (size ≡ 0 → ⊥) → true ≡ is_answered (fate old (Reads 0 1)) → new ≡ layers_after old (Reads 0 1) → found_in (sector_at bytes 0) ≡ found → reading line size bytes old ≡ read_found line size bytes found new
unfolding reading
first_says line size bytes old new found some ok is says =
    cond-false _ _ _ (ne_eqb _ _ some) ∙ cond-true _ _ _ (sym ok) ∙ ap (λ f. read_found line size bytes f (layers_after old (Reads 0 1))) says ∙ ap (read_found line size bytes found) (sym is)

module _ (line size : ℕ) (bytes : List ℕ) (r : Reading) (found : Found) (mid : List Layer) (says : r ≡ read_found line size bytes (Ok found) mid) where
  found_as : (other : Found) → found ≡ other → r ≡ read_found line size bytes (Ok other) mid
  found_as other e = says ∙ ap (λ (f : Found). read_found line size bytes (Ok f) mid) e

  -- a store that is too small
  pub fresh_small : found ≡ Fresh → size < 2 * line → r ≡ ended StoreTooSmall mid
  fresh_small e lt = found_as Fresh e ∙ cond-true _ _ _ (lt-ltb _ _ lt)

  pub header_small : (chunk : ℕ) → found ≡ Header chunk → size < 2 * chunk → r ≡ ended StoreTooSmall mid
  header_small chunk e lt = found_as (Header chunk) e ∙ cond-true _ _ _ (lt-ltb _ _ lt)

  -- and one that is not
  pub fresh_read : found ≡ Fresh → 2 * line ≤ size → r ≡ all_read mid
  fresh_read e le = found_as Fresh e ∙ cond-false _ _ _ (le-ltb _ _ le)

  pub header_read : (chunk : ℕ) → found ≡ Header chunk → 2 * chunk ≤ size → r ≡ read_pairs chunk size bytes mid
  header_read chunk e le = found_as (Header chunk) e ∙ cond-false _ _ _ (le-ltb _ _ le)

-- a load that is refused after its first read
pub ended_after : (r s : Reading) (refusal : Refusal) (old mid new : List Layer) → r ≡ s → mid ≡ layers_after old (Reads 0 1) → IsEnded s refusal mid new → IsEnded r refusal old new
ended_after r s refusal old mid new same one (inl (memory, reads)) = inl (memory, first_read old mid new 0 1 one reads)
ended_after r s refusal old mid new same one (inr (inl reads)) = inr (inl (same ∙ reads))
ended_after r s refusal old mid new same one (inr (inr (damaged, reads))) = inr (inr (damaged, same ∙ reads))

-- or for want of memory
pub starved_after : (r : Reading) (old mid : List Layer) → mid ≡ layers_after old (Reads 0 1) → (refusal : Refusal) → refusal ≡ NoMemory → IsEnded r refusal old mid
starved_after r old mid one refusal memory = inl (memory, ((0, 1) ∷ [], one))

found_reads : (line size : ℕ) (bytes : List ℕ) (found : Result Found Refusal) (old : List Layer) → AreRead old (read_found line size bytes found old).layers
found_reads line size bytes (Err refusal) old = no_more old
found_reads line size bytes (Ok Fresh) old = elim (cases_Bool (nat_lt size (2 * line))) [
  | inl small ↦ subst (λ (r : Reading). AreRead old r.layers) (sym (cond-true _ _ _ small)) (no_more old)
  | inr large ↦ subst (λ (r : Reading). AreRead old r.layers) (sym (cond-false _ _ _ large)) (no_more old)
]
found_reads line size bytes (Ok (Header chunk)) old = elim (cases_Bool (nat_lt size (2 * chunk))) [
  | inl small ↦ subst (λ (r : Reading). AreRead old r.layers) (sym (cond-true _ _ _ small)) (no_more old)
  | inr large ↦ subst (λ (r : Reading). AreRead old r.layers) (sym (cond-false _ _ _ large)) (reads_areas chunk size 0 (length (pairs_of chunk bytes) / (32 * chunk) + 1) old)
]

reading_reads : (line size : ℕ) (bytes : List ℕ) (old : List Layer) → AreRead old (reading line size bytes old).layers
unfolding reading
reading_reads line size bytes old = elim (cases_Bool (size == 0)) [
  | inl none ↦ subst (λ (r : Reading). AreRead old r.layers) (sym (cond-true _ _ _ none)) (no_more old)
  | inr some ↦ subst (λ (r : Reading). AreRead old r.layers) (sym (cond-false _ _ _ some)) (reads_on old 0 1 (read_found line size bytes (found_in (sector_at bytes 0))) (found_reads line size bytes (found_in (sector_at bytes 0))))
]

-- a load that is refused has done some reads
pub ended_reads : (line size : ℕ) (bytes : List ℕ) (refusal : Refusal) (old new : List Layer) → IsEnded (reading line size bytes old) refusal old new → AreRead old new
ended_reads line size bytes refusal old new (inl (memory, reads)) = reads
ended_reads line size bytes refusal old new (inr (inl is)) = subst (AreRead old) (ap (λ (r : Reading). r.layers) is) (reading_reads line size bytes old)
ended_reads line size bytes refusal old new (inr (inr (damaged, is))) = subst (AreRead old) (ap (λ (r : Reading). r.layers) is) (reading_reads line size bytes old)
