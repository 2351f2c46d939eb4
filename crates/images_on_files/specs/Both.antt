-- What two files are asked, under the numbers 0 and 1: an origin and its store.
use Rattle.std.specs.Prelude.{◌≡◌, ℕ, zero, suc, List, ◌∷◌, Option, None, Some}
use Rattle.file_calls.specs.Calls.{Call}
use Rattle.images_on_files.specs.declared.disk_files.Asked.{Asked}
use Rattle.images_on_files.specs.declared.disk_files.Asked.TheVariants.{Len, Read, Write, Sync}
use Rattle.images_on_files.specs.declared.disk_files.Failed.{Failed}

-- Nothing is asked of either, by their calls before and after.
abbrev pub AreAlike : List Call → List Call → List Call → List Call → Type 0
AreAlike origin store origin_now store_now = (origin_now ≡ origin) × (store_now ≡ store)

-- Just this call is made, of the file under this number, and none of the other; under another number none at all.
abbrev pub IsAsked : ℕ → Call → List Call → List Call → List Call → List Call → Type 0
IsAsked zero call origin store origin_now store_now = (origin_now ≡ call ∷ origin) × (store_now ≡ store)
IsAsked (suc zero) call origin store origin_now store_now = (origin_now ≡ origin) × (store_now ≡ call ∷ store)
IsAsked (suc (suc number)) call origin store origin_now store_now = (origin_now ≡ origin) × (store_now ≡ store)

-- what failed last is told: the file's number, and what was asked of it
abbrev pub IsTold : Option Failed → ℕ → Asked → Type 0
IsTold None file asked = ⊥
IsTold (Some failed) file asked = (failed.file ≡ file) × (failed.asked ≡ asked)

abbrev pub the_len : Asked
the_len = Len

abbrev pub the_read : ℕ → Asked
the_read at = Read at

abbrev pub the_write : ℕ → Asked
the_write at = Write at

abbrev pub the_sync : Asked
the_sync = Sync
