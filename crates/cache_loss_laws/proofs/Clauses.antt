-- The clauses of a stop, of what the laws say that it leaves.
use Rattle.std.proofs.Common.{◌≡◌, ◌⊎◌, inl, inr, ℕ, ◌+◌, ◌*◌, ◌-◌, ◌/◌, ◌%◌, ◌<◌, Bool, true, false, List, arith, refl, ap, ◌∙◌, sym}
use Rattle.std.specs.Prelude.{Option, Some, None}
use Rattle.std.proofs.lemmas.Bool.{true≢false}
use Rattle.std.proofs.lemmas.Nat.{div-add-mod'}
use Rattle.sector.specs.Bytes.{sector_at}
use Rattle.sector.specs.declared.pair.Pair.{Pair}
use Rattle.cow_format.specs.Picture.{picture}
use Rattle.crash_laws.specs.Clauses.{Held, Given, Gives, StopsSnap, StopsMerge}
use Rattle.cache_loss_laws.specs.Kept.{Kept, SnapRefused}
use Rattle.cache_loss_laws.specs.Merging.{Merging, StopsMergeLost}
use Rattle.cache_loss_laws.specs.Calm.{ShowsAgain, StopsSnapLost}
use Rattle.cache_loss_laws.specs.Lost.{GivesPlace}
use Rattle.cache_loss_laws.specs.Clauses.{kept_of}
use Rattle.cache_loss_laws.proofs.Kept.{refused_stops}

-- more may be given
shows_more : (chunk sectors size : ℕ) (oh sh given given' : ℕ → List ℕ → Type 0) (b d : List ℕ) → ((s : ℕ) (w : List ℕ) → s < sectors → given s w → given' s w) → ShowsAgain chunk sectors size oh sh given b d → ShowsAgain chunk sectors size oh sh given' b d
shows_more chunk sectors size oh sh given given' b d more shows = (shows.0, λ s lt. elim (shows.1 s lt) [ inl open_there ↦ inl open_there | inr g ↦ inr (more s (sector_at (picture chunk b d) s) lt g) ])

pub snap_gives : (oh sh oh' sh' given given' : ℕ → List ℕ → Type 0) (marked : Bool) (v : Kept) → ((s : ℕ) (w : List ℕ) → s < v.sectors → given s w → given' s w) → StopsSnapLost oh sh oh' sh' marked given v → StopsSnapLost oh sh oh' sh' marked given' v
snap_gives oh sh oh' sh' given given' marked v more stops b d left_b left_d = elim (stops b d left_b left_d) [ inl shows ↦ inl (shows_more v.chunk v.sectors v.size oh sh given given' b d more shows) | inr bad ↦ inr bad ]

pub merge_gives : (oh sh oh' sh' given given' : ℕ → List ℕ → Type 0) (m : Merging) → ((s : ℕ) (w : List ℕ) → s < m.sectors → given s w → given' s w) → StopsMergeLost oh sh oh' sh' given m → StopsMergeLost oh sh oh' sh' given' m
merge_gives oh sh oh' sh' given given' m more stops b d left_b left_d = shows_more m.chunk m.sectors m.size oh sh given given' b d more (stops b d left_b left_d)

-- A write of an array at a chunk's place is the write of these sectors of it.
pub place_given : (chunk named r count first : ℕ) (bytes : List ℕ) (array : Option ℕ) (s : ℕ) (w : List ℕ) → first ≡ chunk * named + r → GivesPlace chunk named r count bytes s w → Gives (Some (record { array = array; first = first; count = count; bytes = bytes })) array s w
place_given chunk named r count first bytes array s w at g =
    let its = g.0 in
    let lo = g.1 in
    let hi = g.2 in
    let parts : s / chunk * chunk + s % chunk ≡ s = div-add-mod' s chunk in
    let there : s / chunk * chunk ≡ chunk * named = ap (λ x. x * chunk) its ∙ grind arith in
    let off : s % chunk - r ≡ s - first = omega (arith, at, parts, there, lo) in
    (refl, omega (arith, at, parts, there, lo), omega (arith, at, parts, there, hi), g.3 ∙ ap (sector_at bytes) off)

module _ {B : Type 0} (holds : B → ℕ → List ℕ → Type 0) (size : B → ℕ) (given : Option Given) (origin origin' : B) where
  -- the first and the third clause
  pub snap_clause : (s t : Held B) (current sure : ℕ) (zeroed firm marked marked' : Bool) → 0 < size s.device → (s.live ≡ true → marked' ≡ false)
      → ((s.live ≡ true) ⊎ (s.untried ≡ true) → StopsSnapLost (holds origin) (holds s.device) (holds origin') (holds t.device) marked' (Gives given (Some s.number)) (kept_of size origin s current zeroed firm marked sure))
      → (s.live ≡ false → s.untried ≡ false → s.stale ≡ false → SnapRefused (holds s.device) × SnapRefused (holds t.device)) → StopsSnap holds size given origin origin' s t
  snap_clause s t current sure zeroed firm marked marked' some unmarked stops refused o c left_o left_c = (
    λ is_live. elim (stops (inl is_live) o c left_o left_c) [ inl shows ↦ shows | inr bad ↦ absurd (true≢false (sym bad.0 ∙ unmarked is_live)) ],
    λ is_untried. elim (stops (inr is_untried) o c left_o left_c) [ inl shows ↦ inr shows | inr bad ↦ inl bad.1 ],
    λ is_dead tried fresh. (let both = refused is_dead tried fresh in refused_stops (holds s.device) (holds t.device) (size s.device) some both.0 both.1 c left_c),
  )

  -- the second, where a merge is begun
  pub merge_clause : (store store' : B) (chunk : ℕ) (pairs copied : List Pair) (flushed : Bool) → StopsMergeLost (holds origin) (holds store) (holds origin') (holds store') (Gives given None) (record { chunk = chunk; sectors = size origin; size = size store; pairs = pairs; copied = copied; flushed = flushed })
      → StopsMerge holds size given chunk origin origin' store store'
  merge_clause store store' chunk pairs copied flushed stops = stops
