-- A snapshot that is taken shows what was found on its store before: over a fresh one the origin, over a written one the chunks
-- that it has in place of the origin's.
use Rattle.std.proofs.Common.{◌≡◌, ℕ, ◌+◌, ◌*◌, ◌<◌, ◌≤◌, true, List, length, arith, refl, ap, ◌∙◌, sym, ltb-false}
use Rattle.std.specs.Prelude.{◌/◌, Result, Ok}
use Rattle.sector.specs.Bytes.{sector_at}
use Rattle.sector.specs.declared.refusal.Refusal.{Refusal}
use Rattle.cow_format.specs.Places.{area_place}
use Rattle.cow_format.specs.Pairs.{pairs_of, AreWellFormed}
use Rattle.cow_format.specs.Picture.{picture}
use Rattle.cow_header.specs.HeaderText.{found_in}
use Rattle.cow_header.specs.declared.found.Found.{Found}
use Rattle.cow_header.specs.declared.found.Found.TheVariants.{Fresh, Header}
use Rattle.whole_commands.specs.Loads.{is_loadable}
use Rattle.whole_commands.specs.Devices.{Device, sectors_of}
use Rattle.whole_commands.specs.Attaching.{last_area, open_store}
use Rattle.whole_commands.proofs.Loadable.{loadable-formed}
use Rattle.whole_commands.proofs.Made.{made_shows}
use Rattle.whole_commands.proofs.Trimmed.{trimmed_shows}
use Rattle.whole_commands.proofs.Opened.{found_some}
use Rattle.whole_commands.proofs.Tried.{IsTakenAs, HoldsWritten, open_taken}

-- a snapshot over a store shows this
abbrev pub ShowsOver : List ℕ → List ℕ → ℕ → List ℕ → Type 0
ShowsOver disk shows chunk store = picture chunk disk store ≡ shows

area_fits : (chunk n : ℕ) (store : List ℕ) → chunk * (n + 1) ≤ length store / 512 → 512 * (chunk * n + chunk) ≤ length store
area_fits chunk n store room = let more : chunk * (n + 1) ≡ chunk * n + chunk = grind arith in omega (arith, room)

written_shows : (chunk sectors : ℕ) (disk store : List ℕ) → 0 < chunk → HoldsWritten (ShowsOver disk (picture chunk disk store)) store sectors chunk
written_shows chunk sectors disk store pos loadable =
    let formed : AreWellFormed chunk sectors (length store / 512) (pairs_of chunk store) = loadable-formed chunk sectors (length store / 512) (pairs_of chunk store) loadable in
    (trimmed_shows chunk sectors (length store / 512) disk store pos (area_fits chunk (area_place chunk (last_area chunk store)) store formed.room) formed, λ none. refl)

-- `shows` is what one shows by what was found
pub open_shows : (line : ℕ) (origin device : Device) (disk : List ℕ) (shows : Result Found Refusal → List ℕ) → shows (Ok Fresh) ≡ disk → ((own : ℕ) → shows (Ok (Header own)) ≡ picture own disk device.bytes) → 0 < line →
    IsTakenAs (ShowsOver disk (shows (found_in (sector_at device.bytes 0)))) (open_store line origin device)
open_shows line origin device disk shows fresh written pos =
    let store : List ℕ = device.bytes in
    open_taken (ShowsOver disk (shows (found_in (sector_at device.bytes 0)))) store line origin device refl
    (λ is large. made_shows line disk store pos (ltb-false _ _ large) ∙ sym (ap shows is ∙ fresh))
    (λ own is loadable. let both = written_shows own (sectors_of origin) disk store (found_some (sector_at store 0) own is) loadable in
    let same : picture own disk device.bytes ≡ shows (found_in (sector_at device.bytes 0)) = sym (ap shows is ∙ written own) in
    (both.0 ∙ same, λ none. both.1 none ∙ same))
