-- What a call leaves of a vector: its room, or how many it has.
use Rattle.std.specs.Global.{Vec}
use Rattle.std.specs.Prelude.{◌≡◌, vec_capacity, vec_len}

abbrev pub KeepsRoom : {A : Type 0} → Vec A → Vec A → Type 0
KeepsRoom old new = vec_capacity new ≡ vec_capacity old

abbrev pub KeepsMany : {A : Type 0} → Vec A → Vec A → Type 0
KeepsMany old new = vec_len new ≡ vec_len old
