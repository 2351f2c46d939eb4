-- What a command asks of a volume, or why it is refused.
use Rattle.std.proofs.Common.{◌≡◌, ◌≢◌, ℕ, ◌+◌, Bool, true, false, refl, sym, ap, ◌∙◌}
use Rattle.std.specs.Prelude.{Result, Ok, Err, nat_lt, if◌then◌else◌}
use Rattle.sector.specs.declared.refusal.Refusal.{Refusal}
use Rattle.sector.specs.declared.refusal.Refusal.TheVariants.{JournalFull, NoMemory, OutOfRange}
use Rattle.chunk.specs.Pieces.{Span}
use Rattle.plain_machine.specs.declared.request.Dev.{Dev}
use Rattle.whole_commands.specs.Devices.{sectors_of as size_of}
use Rattle.whole_commands.specs.Snaps.{Volume as Settled}
use Rattle.command_semantics.specs.declared.place.Role.{Role}
use Rattle.command_semantics.specs.State.{Volume}
use Rattle.command_semantics.specs.Raw.{fits}
use Rattle.command_semantics.specs.Sectors.{Asked, dev_of, serves, takes, asked_of}

module _ (role : Role) (first count : ℕ) (v : Volume) (state : Settled) (same : v.state ≡ state) where
  -- the role takes no request
  pub no_serve : (e : Refusal) → serves role ≡ Err e → asked_of role first count v ≡ Err e
  unfolding asked_of
  no_serve e is = rw is refl

  -- or has not all of the sectors
  pub no_range : (e : Refusal) → serves role ≡ Ok tt → fits (size_of state.origin) first count ≡ Err e → asked_of role first count v ≡ Err e
  unfolding asked_of
  no_range e is out =
      let past : fits (size_of v.state.origin) first count ≡ Err e = ap (λ (s : Settled). fits (size_of s.origin) first count) same ∙ out in
      rw is (rw past refl)

  -- or is being merged
  pub no_dev : (e : Refusal) → serves role ≡ Ok tt → fits (size_of state.origin) first count ≡ Ok tt → dev_of role state ≡ Err e → asked_of role first count v ≡ Err e
  unfolding asked_of
  no_dev e serve inside is =
      let here : dev_of role v.state ≡ Err e = ap (dev_of role) same ∙ is in
      let fit : fits (size_of v.state.origin) first count ≡ Ok tt = ap (λ (s : Settled). fits (size_of s.origin) first count) same ∙ inside in
      rw serve (rw fit (rw here refl))

  -- or too many were asked for
  pub no_more : (dev : Dev) (e : Refusal) → serves role ≡ Ok tt → fits (size_of state.origin) first count ≡ Ok tt → dev_of role state ≡ Ok dev → takes count v ≡ Err e → asked_of role first count v ≡ Err e
  unfolding asked_of
  no_more dev e serve inside is many =
      let here : dev_of role v.state ≡ Ok dev = ap (dev_of role) same ∙ is in
      let fit : fits (size_of v.state.origin) first count ≡ Ok tt = ap (λ (s : Settled). fits (size_of s.origin) first count) same ∙ inside in
      rw serve (rw fit (rw here (rw many refl)))

  -- else these are asked for
  pub asks : (dev : Dev) (span : Span) → serves role ≡ Ok tt → fits (size_of state.origin) first count ≡ Ok tt → dev_of role state ≡ Ok dev → takes count v ≡ Ok tt → span ≡ record { first = first; count = count; size = size_of state.origin } → asked_of role first count v ≡ Ok (record { dev = dev; span = span })
  unfolding asked_of
  asks dev span serve inside is more whole =
      let here : dev_of role v.state ≡ Ok dev = ap (dev_of role) same ∙ is in
      let fit : fits (size_of v.state.origin) first count ≡ Ok tt = ap (λ (s : Settled). fits (size_of s.origin) first count) same ∙ inside in
      let all : (let r : Result Asked Refusal = Ok (record { dev = dev; span = record { first = first; count = count; size = size_of v.state.origin } }) in r) ≡ Ok (record { dev = dev; span = span }) =
      ap (λ (s : Settled). let r : Result Asked Refusal = Ok (record { dev = dev; span = record { first = first; count = count; size = size_of s.origin } }) in r) same ∙ ap (λ (s : Span). let r : Result Asked Refusal = Ok (record { dev = dev; span = s }) in r) (sym whole) in
      rw serve (rw fit (rw here (rw more all)))

not_for_memory : (b : Bool) (e : Refusal) → (let r : Result (Unit {0}) Refusal = if b then Err OutOfRange else Ok tt in r) ≡ Err e → e ≢ NoMemory
not_for_memory true e is none = absurd (cc)
not_for_memory false e is none = absurd (cc)

-- sectors past the end are not refused for want of memory
pub fits_known : (size first count : ℕ) (e : Refusal) → fits size first count ≡ Err e → e ≢ NoMemory
fits_known size first count e is = not_for_memory (nat_lt size (first + count)) e is

not_for_room : (b : Bool) (e : Refusal) → (let r : Result (Unit {0}) Refusal = if b then Err OutOfRange else Ok tt in r) ≡ Err e → e ≢ JournalFull
not_for_room true e is none = absurd (cc)
not_for_room false e is none = absurd (cc)

-- nor for want of room in a journal
pub fits_anyway : (size first count : ℕ) (e : Refusal) → fits size first count ≡ Err e → e ≢ JournalFull
fits_anyway size first count e is = not_for_room (nat_lt size (first + count)) e is
