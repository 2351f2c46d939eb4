-- The stacks of a stopped volume that lose what was not flushed, one after the other.
use Rattle.std.proofs.Common.{◌≡◌, ℕ, zero, suc, ◌+◌, ◌<◌, ◌≤◌, List, [], ◌∷◌, ◌++◌, length, map, take, get_or, refl, sym, ap, ◌∙◌, subst, arith}
use Rattle.std.specs.Prelude.{Result, Ok, Err, OnErr, OnOk, Some, slice_get}
use Rattle.std.specs.List.{remove}
use Rattle.std.proofs.lemmas.List.{append_assoc, append-nil, length-append, map-append}
use Rattle.std.proofs.lemmas.Option.{slice_get_read}
use Rattle.sector.specs.declared.refusal.Refusal.{Refusal}
use Rattle.layers.specs.declared.stack.Stack.{Stack}
use Rattle.layers.specs.Stack.{stack_durable}
use Rattle.volume.specs.Stopped.{devices_of}
use Rattle.command_semantics.specs.State.{Stacked, Volume, Table}
use Rattle.command_semantics.specs.declared.place.Place.{Place}
use Rattle.command_semantics.specs.Events.{origin_at, origin_by}
use Rattle.command_semantics.specs.Losing.{HaveLost, StopsLosing, lasting}
use Rattle.command_semantics.specs.Naming.{AreNamed}
use Rattle.command_semantics.specs.Places.{found, place_of}
use Rattle.command_semantics.specs.Stopping.{stopped, volume_stopped}
use Rattle.command_semantics.proofs.LosingRules.{lost_named}
use Rattle.command_semantics.proofs.StoppingRules.{all_left_named}
use Rattle.device_list.specs.Backed.{Backed, Left}
use Rattle.device_list.specs.Stopping.{IsTakenLost}
use Rattle.device_list.specs.Tables.{table_of}
use Rattle.device_list.specs.declared.held.Devices.{Devices}
use Rattle.device_commands.specs.Stopping.{AreFreedLost, IsLeftDurable, IsLeftDurableOf, StopsLosingAt, stopped_at}
use Rattle.device_commands.proofs.Stops.{none_uncounted as none_counted, stopped_is}

abbrev pub bytes_of : Stacked → List ℕ
bytes_of s = s.device.bytes

-- some of them are gone
pub record IsGoing (all left : Left) (old new : List Stacked) : Type 0 where
  pub others : take (length old) new ≡ old
  pub enough : length old ≤ length new
  pub lasts : map lasting new ++ map lasting left.shown ≡ map lasting old ++ map lasting all.shown
  pub bytes : map bytes_of new ++ map stack_durable left.devices ≡ map bytes_of old ++ map stack_durable all.devices
  pub many : length left.shown ≡ length left.devices

take_whole : {X : Type 0} (xs : List X) → take (length xs) xs ≡ xs
take_whole [] = refl
take_whole (x ∷ xs) = ap (λ ys. x ∷ ys) (take_whole xs)

pub going : (all : Left) (old : List Stacked) → length all.shown ≡ length all.devices → IsGoing all all old old
going all old many = record { others = take_whole old; enough = omega arith; lasts = refl; bytes = refl; many = many }

take_first : {X : Type 0} (n : ℕ) (xs ys : List X) → n ≤ length xs → take n (xs ++ ys) ≡ take n xs
take_first zero xs ys le = refl
take_first (suc n) [] ys le = absurd (omega (arith, le))
take_first (suc n) (x ∷ xs) ys le = ap (λ zs. x ∷ zs) (take_first n xs ys (omega (arith, le)))

-- one more goes
shifted : {X Y : Type 0} (f : X → Y) (mid new : List X) (x : X) (y : Y) (rest all : List Y) → map f mid ++ y ∷ rest ≡ all → f x ≡ y → new ≡ mid ++ x ∷ [] → map f new ++ rest ≡ all
shifted {Y} f mid new x y rest all so_far same pushed =
    ap (λ xs. map f xs ++ rest) pushed ∙ ap (λ (ys : List Y). ys ++ rest) (map-append f mid (x ∷ [])) ∙ append_assoc (map f mid) (f x ∷ []) rest
    ∙ ap (λ (z : Y). map f mid ++ z ∷ rest) same ∙ so_far

pub next_gone : (all left rest : Left) (old mid new : List Stacked) (stack : Stacked) → IsGoing all left old mid → IsTakenLost stack left rest → new ≡ mid ++ stack ∷ [] → IsGoing all rest old new
next_gone all left rest old mid new stack going taken pushed =
    let len : length new ≡ length mid + 1 = ap (λ (xs : List Stacked). length xs) pushed ∙ length-append mid (stack ∷ []) in
    let shown : length left.shown ≡ length rest.shown + 1 = (let more : length (taken.was ∷ rest.shown) ≡ length rest.shown + 1 = omega arith in ap (λ (xs : List Stacked). length xs) taken.shown ∙ more) in
    let devices : length left.devices ≡ length rest.devices + 1 = (let more : length (taken.device ∷ rest.devices) ≡ length rest.devices + 1 = omega arith in ap (λ (xs : List Stack). length xs) taken.devices ∙ more) in
    let enough = going.enough in
    let many = going.many in
    record {
      others = ap (take (length old)) pushed ∙ take_first (length old) mid (stack ∷ []) enough ∙ going.others;
      enough = omega (arith, enough, len);
      lasts = shifted lasting mid new stack (lasting taken.was) (map lasting rest.shown) _ (ap (λ (xs : List Stacked). map lasting mid ++ map lasting xs) (sym taken.shown) ∙ going.lasts) taken.lasts pushed;
      bytes = shifted bytes_of mid new stack (stack_durable taken.device) (map stack_durable rest.devices) _ (ap (λ (xs : List Stack). map bytes_of mid ++ map stack_durable xs) (sym taken.devices) ∙ going.bytes) taken.bytes pushed;
      many = omega (arith, many, shown, devices);
    }

-- none is left
pub none_left : (left : Left) → left ≡ record { shown = []; devices = [] } → left.shown ≡ []
none_left left none = ap (λ (l : Left). l.shown) none

pub none_uncounted : (left : List Stacked) (counter count : ℕ) → length left + counter ≤ count → count ≤ counter → left ≡ []
none_uncounted = none_counted

empty_too : {X Y : Type 0} (xs : List X) (ys : List Y) → length xs ≡ length ys → xs ≡ [] → ys ≡ []
empty_too xs [] many none = refl
empty_too {X} xs (y ∷ ys) many none = (let zero : length xs ≡ 0 = ap (λ (zs : List X). length zs) none in absurd (omega (arith, many, zero)))

pub all_gone : (all left : Left) (old new : List Stacked) → IsGoing all left old new → left.shown ≡ [] → AreFreedLost all old new
all_gone all left old new going none =
    let devices : left.devices ≡ [] = empty_too left.shown left.devices going.many none in
    record {
      others = going.others;
      lasts = sym (append-nil (map lasting new)) ∙ ap (λ (xs : List Stacked). map lasting new ++ map lasting xs) (sym none) ∙ going.lasts;
      bytes = sym (append-nil (map bytes_of new)) ∙ ap (λ (xs : List Stack). map bytes_of new ++ map stack_durable xs) (sym devices) ∙ going.bytes;
    }

-- The volume at a place is stopped, and its stacks are those.
module _ (table : Table) (v : ℕ) (old : Volume) (left : Left) (stacks : List Stacked) (volumes : List Volume) (lt : v < length table.volumes) (at : old ≡ get_or table.volumes v old) (is : left.shown ≡ stopped old) (lost : AreFreedLost left table.stacks stacks) (less : volumes ≡ remove table.volumes v) where
  abbrev stands : Table
  stands = record { stacks = table.stacks ++ left.shown; volumes = volumes }

  have_lost : HaveLost (length table.stacks) stands (record { stacks = stacks; volumes = volumes })
  have_lost = record {
    volumes = refl;
    others = lost.others ∙ sym (take_first (length table.stacks) table.stacks left.shown (omega arith) ∙ take_whole table.stacks);
    lost = lost.lasts ∙ sym (map-append lasting table.stacks left.shown);
  }

  pub stops_losing : (t : Table) × (stopped_at v table ≡ Ok t) × HaveLost (length table.stacks) t (record { stacks = stacks; volumes = volumes })
  stops_losing = (stands, stopped_is table v old left.shown (table.stacks ++ left.shown) volumes lt at is refl less, have_lost)

  pub losing_named : AreNamed table → AreNamed (record { stacks = stacks; volumes = volumes })
  losing_named named =
      let P : List Stacked → Type 0 = λ ss. AreNamed (record { stacks = table.stacks ++ ss; volumes = volumes }) in
      let Q : List Volume → Type 0 = λ ws. AreNamed (record { stacks = table.stacks ++ stopped old; volumes = ws }) in
      lost_named (length table.stacks) stands (record { stacks = stacks; volumes = volumes }) have_lost (subst P (sym is) (subst Q (sym less) (all_left_named table v old lt at named)))

-- and what was durable in its devices is in them
pub left_durable : (volumes : List Backed) (v : ℕ) (volume : Backed) (left : Left) (old new : List Stacked) → v < length volumes → volume ≡ get_or volumes v volume → left.devices ≡ devices_of volume.events → AreFreedLost left old new → IsLeftDurable v volumes old new
left_durable volumes v volume left old new lt at is lost = record {
  volume = volume;
  there = slice_get_read volumes (length volumes) v volume refl lt at;
  bytes = lost.bytes ∙ ap (λ (ds : List Stack). map bytes_of old ++ map stack_durable ds) is;
}

-- the volume of a name is stopped as that of its place is
pub asked_origin : (name : List ℕ) (table : Table) (place : Place) (v : ℕ) → Ok place ≡ found (place_of name table) → Ok v ≡ origin_at place → origin_by name table ≡ Ok v
unfolding origin_by
asked_origin name table place v there is = rw (sym there) (sym is)

as_stopped : (name : List ℕ) (v : ℕ) (table : Table) → origin_by name table ≡ Ok v → volume_stopped name table ≡ stopped_at v table
unfolding volume_stopped
as_stopped name v table at = rw at refl

pub losing_as : (r : Result (Unit {0}) Refusal) (name : List ℕ) (v : ℕ) (old new : Table) → origin_by name old ≡ Ok v → StopsLosingAt r v old new → StopsLosing r name old new
losing_as (Ok done) name v old new at did = (did.0, as_stopped name v old at ∙ did.1, did.2)
losing_as (Err e) name v old new at did = (did.0, λ other. as_stopped name v old at ∙ did.1 other)

pub durable_as : (r : Result (Unit {0}) Refusal) (name : List ℕ) (v : ℕ) (old new : Devices) → origin_by name (table_of old) ≡ Ok v → OnOk r (IsLeftDurable v old.volumes.items old.stacks.items new.stacks.items) → OnOk r (IsLeftDurableOf name old new)
durable_as (Ok done) name v old new at did = (v, at, did)
durable_as (Err e) name v old new at did = tt

pub stays_losing : (r : Result (Unit {0}) Refusal) (v : ℕ) (old new : Table) → StopsLosingAt r v old new → OnErr r (new ≡ old)
stays_losing (Ok done) v old new did = tt
stays_losing (Err e) v old new did = did.0
