-- A store that was attached, over whatever layers, is in order.
use Rattle.std.proofs.Common.{◌≡◌, ℕ, ◌+◌, ◌*◌, ◌<◌, ◌≤◌, true, List, length, refl, ap, ◌∙◌, sym, subst, ltb-false}
use Rattle.std.specs.Prelude.{◌/◌, Result, Ok, Err}
use Rattle.sector.specs.Bytes.{sector_at}
use Rattle.sector.specs.Number.{number_at}
use Rattle.sector.specs.declared.refusal.Refusal.{Refusal}
use Rattle.chunk.proofs.Limits.{is_chunk-some}
use Rattle.cow_format.specs.Places.{area_place}
use Rattle.cow_format.specs.Pairs.{pairs_of, AreWellFormed}
use Rattle.cow_header.specs.HeaderText.{found_in}
use Rattle.cow_header.specs.declared.found.Found.TheVariants.{Header}
use Rattle.whole_commands.specs.Loads.{made, trimmed, is_loadable}
use Rattle.whole_commands.specs.Order.{IsInOrder}
use Rattle.whole_commands.proofs.Laws.{chunk_fits}
use Rattle.whole_commands.proofs.Loadable.{loadable-formed, header_allowed}
use Rattle.whole_commands.proofs.Made.{made_law}
use Rattle.whole_commands.proofs.Trimmed.{trimmed_law}
use Rattle.whole_commands.specs.Devices.{Device, sectors_of}
use Rattle.whole_commands.specs.Attaching.{Tried, last_area, has_tail, open_store}
use Rattle.whole_commands.proofs.FaultlessAttaching.{no_tail, size_of}
use Rattle.whole_commands.proofs.Tried.{TakenAs, HoldsWritten, open_taken}

-- a header that is found has a size that is allowed
pub found_some : (first : List ℕ) (own : ℕ) → found_in first ≡ Ok (Header own) → 0 < own
found_some first own is = is_chunk-some own (header_allowed (number_at first 0 4) (number_at first 4 4) (number_at first 8 4) (number_at first 12 4) own is)

module _ (sectors size : ℕ) (small_origin : sectors ≤ 2_147_483_648) (small : size ≤ 2_147_483_648) where
  -- a store that was taken is in order
  abbrev pub SoundAs : Result ℕ Refusal → Device → Type 0
  SoundAs (Err refusal) device = Unit {0}
  SoundAs (Ok chunk) device = IsInOrder chunk sectors size device.bytes

  abbrev pub IsSound : Tried → Type 0
  IsSound tried = SoundAs tried.outcome tried.device

  abbrev Sound : ℕ → List ℕ → Type 0
  Sound chunk b = IsInOrder chunk sectors size b

  as_sound : (tried : Tried) → (outcome : Result ℕ Refusal) → TakenAs Sound outcome tried.device → SoundAs outcome tried.device
  as_sound tried (Err refusal) h = tt
  as_sound tried (Ok chunk) h = h

  written_sound : (chunk : ℕ) (origin : Device) (store : List ℕ) → sectors_of origin ≡ sectors → 0 < chunk → length store ≡ 512 * size → HoldsWritten Sound store (sectors_of origin) chunk
  written_sound chunk origin store own pos whole loadable =
      let same : length store / 512 ≡ size = size_of (length store) size whole in
      let known : AreWellFormed chunk (sectors_of origin) (length store / 512) (pairs_of chunk store) = loadable-formed chunk (sectors_of origin) (length store / 512) (pairs_of chunk store) loadable in
      let formed : AreWellFormed chunk sectors size (pairs_of chunk store) = subst (λ (n : ℕ). AreWellFormed chunk sectors n (pairs_of chunk store)) same (subst (λ (n : ℕ). AreWellFormed chunk n (length store / 512) (pairs_of chunk store)) own known) in
      let order : IsInOrder chunk sectors size (trimmed chunk store) = (trimmed_law chunk sectors size store store pos small_origin small whole formed).0 in
      let fits : 512 * (chunk * area_place chunk (last_area chunk store) + chunk) ≤ length store = chunk_fits chunk (area_place chunk (last_area chunk store)) size store whole formed.room in
      (order, λ none. subst (IsInOrder chunk sectors size) (no_tail chunk store pos fits none) order)

  pub open_sound : (line : ℕ) (origin device : Device) → sectors_of origin ≡ sectors → 0 < line → length device.bytes ≡ 512 * size → IsSound (open_store line origin device)
  open_sound line origin device own pos whole =
      let store : List ℕ = device.bytes in
      as_sound (open_store line origin device) (open_store line origin device).outcome
      (open_taken Sound store line origin device refl
      (λ is large. (made_law line sectors size store store pos small_origin small whole (ltb-false _ _ large)).0)
      (λ chunk is. written_sound chunk origin store own (found_some (sector_at store 0) chunk is) whole))
