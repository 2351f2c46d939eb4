-- A store that was taken: what holds of it, by what its load writes last, over whatever layers.
use Rattle.std.proofs.Common.{◌≡◌, inl, inr, ℕ, zero, suc, ◌+◌, ◌*◌, ◌/◌, Bool, true, false, List, length, refl, ap, ◌∙◌, sym, subst}
use Rattle.std.specs.Prelude.{◌==◌, nat_lt, not, Result, Ok, Err}
use Rattle.std.proofs.lemmas.Bool.{cases_Bool, cond-true, cond-false}
use Rattle.sector.specs.Bytes.{with_part, sector_at}
use Rattle.sector.specs.declared.refusal.Refusal.{Refusal}
use Rattle.device.specs.declared.operation.Operation.{Operation}
use Rattle.device.specs.declared.operation.Operation.TheVariants.{Reads, Writes, Flushes}
use Rattle.cow_format.specs.Places.{area_place}
use Rattle.cow_format.specs.Pairs.{pairs_of}
use Rattle.cow_header.specs.HeaderText.{header_bytes, found_in}
use Rattle.cow_header.specs.declared.found.Found.{Found}
use Rattle.cow_header.specs.declared.found.Found.TheVariants.{Fresh, Header}
use Rattle.whole_commands.specs.Saves.{zeroed}
use Rattle.whole_commands.specs.Loads.{made, trimmed, is_loadable, is_too_small}
use Rattle.whole_commands.specs.Devices.{Device, sectors_of, answers, met, written_by}
use Rattle.whole_commands.specs.Attaching.{Tried, read_on, write_on, flush_on, flush_both, done, read_areas, last_area, has_tail, write_header, write_fresh, make, write_tail, clear, load, load_as, open_store}

-- of a store that was taken, with chunks of so many sectors
module _ (P : ℕ → List ℕ → Type 0) where
  abbrev pub TakenAs : Result ℕ Refusal → Device → Type 0
  TakenAs (Err refusal) device = Unit {0}
  TakenAs (Ok chunk) device = P chunk device.bytes

  abbrev pub IsTakenAs : Tried → Type 0
  IsTakenAs tried = TakenAs tried.outcome tried.device

  read_taken : (origin device : Device) (op : Operation) (next : Device → Tried) → ((d : Device) → d.bytes ≡ device.bytes → IsTakenAs (next d)) → IsTakenAs (read_on origin device op next)
  read_taken origin device op next taken = elim (cases_Bool (answers device op)) [
    | inl ok ↦ subst IsTakenAs (sym (cond-true _ _ _ ok)) (taken (met device op) refl)
    | inr failed ↦ subst IsTakenAs (sym (cond-false _ _ _ failed)) tt
  ]

  -- a write, and the flush after it
  write_taken : (origin device : Device) (op : Operation) (bytes : List ℕ) (next : Device → Tried) → ((d : Device) → d.bytes ≡ bytes → IsTakenAs (next d)) → IsTakenAs (write_on origin device op bytes (flush_on origin next))
  write_taken origin device op bytes next taken = elim (cases_Bool (answers device op)) [
    | inl ok ↦ subst IsTakenAs (sym (cond-true _ _ _ ok))
        (read_taken origin (written_by device op bytes) Flushes next (λ d same. taken d (same ∙ cond-true _ _ _ ok)))
    | inr failed ↦ subst IsTakenAs (sym (cond-false _ _ _ failed)) tt
  ]

  both_taken : (origin device : Device) (next : Device → Device → Tried) → ((o d : Device) → d.bytes ≡ device.bytes → IsTakenAs (next o d)) → IsTakenAs (flush_both origin device next)
  both_taken origin device next taken = elim (cases_Bool (answers origin Flushes)) [
    | inl ok ↦ subst IsTakenAs (sym (cond-true _ _ _ ok)) (read_taken (met origin Flushes) device Flushes (next (met origin Flushes)) (taken (met origin Flushes)))
    | inr failed ↦ subst IsTakenAs (sym (cond-false _ _ _ failed)) tt
  ]

  areas_taken : (chunk a n : ℕ) (origin : Device) (next : Device → Tried) (device : Device) → ((d : Device) → d.bytes ≡ device.bytes → IsTakenAs (next d)) → IsTakenAs (read_areas chunk a n origin next device)
  areas_taken chunk a zero origin next device taken = taken device refl
  areas_taken chunk a (suc n) origin next device taken = elim (cases_Bool (nat_lt (length device.bytes) (512 * (chunk * (area_place chunk a + 1))))) [
    | inl lacks ↦ subst IsTakenAs (sym (cond-true _ _ _ lacks)) tt
    | inr there ↦ subst IsTakenAs (sym (cond-false _ _ _ there))
        (read_taken origin device (Reads (chunk * area_place chunk a) chunk) (read_areas chunk (a + 1) n origin next) (λ d same. areas_taken chunk (a + 1) n origin next d (λ e more. taken e (more ∙ same))))
  ]

  -- over devices with these bytes
  module _ (bytes : List ℕ) where
    fresh_taken : (chunk : ℕ) (origin device : Device) → device.bytes ≡ bytes → P chunk (made chunk bytes) → IsTakenAs (write_fresh chunk origin device)
    unfolding made
    fresh_taken chunk origin device same holds =
        write_taken origin device (Writes (chunk * area_place chunk 0) chunk) (zeroed chunk device.bytes 0) (write_header chunk origin)
        (λ d zero_is. write_taken origin d (Writes 0 chunk) (with_part d.bytes 0 (header_bytes (512 * chunk) true chunk)) (done chunk origin)
        (λ e made_is. subst (P chunk) (sym (made_is ∙ ap (λ (b : List ℕ). with_part b 0 (header_bytes (512 * chunk) true chunk)) (zero_is ∙ ap (λ (b : List ℕ). zeroed chunk b 0) same))) holds))

    make_taken : (chunk : ℕ) (origin device : Device) → device.bytes ≡ bytes → (is_too_small chunk bytes ≡ false → P chunk (made chunk bytes)) → IsTakenAs (make chunk origin device)
    make_taken chunk origin device same holds = elim (cases_Bool (is_too_small chunk device.bytes)) [
      | inl short ↦ subst IsTakenAs (sym (cond-true _ _ _ short)) tt
      | inr large ↦ subst IsTakenAs (sym (cond-false _ _ _ large))
          (both_taken origin device (write_fresh chunk) (λ o d is. fresh_taken chunk o d (is ∙ same) (holds (ap (is_too_small chunk) (sym same) ∙ large))))
    ]

    -- what is asked of a written store: once its tail is cleared, and where it has none
    abbrev pub HoldsWritten : ℕ → ℕ → Type 0
    HoldsWritten sectors chunk = is_loadable chunk sectors (length bytes / 512) (pairs_of chunk bytes) ≡ true → P chunk (trimmed chunk bytes) × (has_tail chunk bytes ≡ false → P chunk bytes)

    tail_taken : (chunk : ℕ) (origin device : Device) → device.bytes ≡ bytes → P chunk (trimmed chunk bytes) → (has_tail chunk bytes ≡ false → P chunk bytes) → IsTakenAs (write_tail chunk origin device)
    tail_taken chunk origin device same cleared whole = elim (cases_Bool (has_tail chunk device.bytes)) [
      | inl tail ↦ subst IsTakenAs (sym (cond-true _ _ _ tail))
          (write_taken origin device (Writes (chunk * area_place chunk (last_area chunk device.bytes)) chunk) (trimmed chunk device.bytes) (done chunk origin) (λ d is. subst (P chunk) (sym (is ∙ ap (trimmed chunk) same)) cleared))
      | inr none ↦ subst IsTakenAs (sym (cond-false _ _ _ none)) (subst (P chunk) (sym same) (whole (ap (has_tail chunk) (sym same) ∙ none)))
    ]

    clear_taken : (chunk : ℕ) (origin device : Device) → device.bytes ≡ bytes → HoldsWritten (sectors_of origin) chunk → IsTakenAs (clear chunk origin device)
    clear_taken chunk origin device same holds = elim (cases_Bool (is_loadable chunk (sectors_of origin) (sectors_of device) (pairs_of chunk device.bytes))) [
      | inr damaged ↦ subst IsTakenAs (sym (cond-true _ _ _ (ap not damaged))) tt
      | inl loadable ↦ (let both = holds (ap (λ (b : List ℕ). is_loadable chunk (sectors_of origin) (length b / 512) (pairs_of chunk b)) (sym same) ∙ loadable) in
          subst IsTakenAs (sym (cond-false _ _ _ (ap not loadable)))
          (both_taken origin device (write_tail chunk) (λ o d is. tail_taken chunk o d (is ∙ same) both.0 both.1)))
    ]

    load_taken : (chunk : ℕ) (origin device : Device) → device.bytes ≡ bytes → HoldsWritten (sectors_of origin) chunk → IsTakenAs (load chunk origin device)
    load_taken chunk origin device same holds = elim (cases_Bool (is_too_small chunk device.bytes)) [
      | inl short ↦ subst IsTakenAs (sym (cond-true _ _ _ short)) tt
      | inr large ↦ subst IsTakenAs (sym (cond-false _ _ _ large))
          (areas_taken chunk 0 (last_area chunk device.bytes + 1) origin (clear chunk origin) device (λ d is. clear_taken chunk origin d (is ∙ same) holds))
    ]

    found_taken : (line : ℕ) (found : Result Found Refusal) (origin device : Device) → device.bytes ≡ bytes → (found ≡ Ok Fresh → is_too_small line bytes ≡ false → P line (made line bytes)) → ((own : ℕ) → found ≡ Ok (Header own) → HoldsWritten (sectors_of origin) own) → IsTakenAs (load_as line found origin device)
    found_taken line (Err refusal) origin device same fresh written = tt
    found_taken line (Ok Fresh) origin device same fresh written = make_taken line origin device same (fresh refl)
    found_taken line (Ok (Header chunk)) origin device same fresh written = load_taken chunk origin device same (written chunk refl)

    pub open_taken : (line : ℕ) (origin device : Device) → device.bytes ≡ bytes → (found_in (sector_at bytes 0) ≡ Ok Fresh → is_too_small line bytes ≡ false → P line (made line bytes)) → ((own : ℕ) → found_in (sector_at bytes 0) ≡ Ok (Header own) → HoldsWritten (sectors_of origin) own) → IsTakenAs (open_store line origin device)
    unfolding open_store
    open_taken line origin device same fresh written =
        let here : found_in (sector_at bytes 0) ≡ found_in (sector_at device.bytes 0) = ap (λ (b : List ℕ). found_in (sector_at b 0)) (sym same) in
        elim (cases_Bool (sectors_of device == 0)) [
          | inl none ↦ subst IsTakenAs (sym (cond-true _ _ _ none)) tt
          | inr some ↦ subst IsTakenAs (sym (cond-false _ _ _ some))
              (read_taken origin device (Reads 0 1) (load_as line (found_in (sector_at device.bytes 0)) origin)
              (λ d is. found_taken line (found_in (sector_at device.bytes 0)) origin d (is ∙ same) (λ e. fresh (here ∙ e)) (λ own e. written own (here ∙ e))))
        ]
