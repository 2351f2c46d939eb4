-- An origin that is made, and stands behind the volumes that were there.
use Rattle.std.proofs.Common.{◌≡◌, ℕ, ◌<◌, List, [], ◌∷◌, ◌++◌, length, get_or, map, sym, ap, ◌∙◌}
use Rattle.std.specs.Prelude.{Result, Ok}
use Rattle.std.specs.List.{remove}
use Rattle.std.proofs.lemmas.List.{get_or_default, map-append}
use Rattle.words.specs.Given.{◌>>=◌}
use Rattle.whole_commands.specs.Devices.{sectors_of}
use Rattle.command_semantics.specs.State.{Stacked, Volume, Table}
use Rattle.command_semantics.specs.Layers.{top}
use Rattle.command_semantics.specs.Origins.{moved_under, origin_made, origin_on, same_size}
use Rattle.command_semantics.proofs.AtPlace.{stack_here}
use Rattle.device_list.specs.Backed.{Backed}
use Rattle.device_list.proofs.Showing.{shown_in}

-- one more volume shows itself behind the others
pub shown_last : (old kept new : List Backed) (last : Backed) → new ≡ kept ++ last ∷ [] → kept ≡ old → shown_in new ≡ shown_in old ++ last.shown ∷ []
shown_last old kept new last more same =
    ap shown_in more ∙ ap (λ (xs : List Backed). shown_in (xs ++ last ∷ [])) same ∙ map-append (λ (v : Backed). v.shown) old (last ∷ [])

-- The one that was looked at is the one that was taken out.
pub fits_still : (sectors size : ℕ) (stacks : List Stacked) (i : ℕ) (seen taken : Stacked) → i < length stacks → seen ≡ get_or stacks i seen → taken ≡ get_or stacks i taken → size ≡ sectors_of seen.device
    → Ok tt ≡ same_size sectors size → same_size sectors (sectors_of taken.device) ≡ Ok tt
fits_still sectors size stacks i seen taken inside at out is fits =
    let same : taken ≡ seen = out ∙ get_or_default stacks i taken seen inside ∙ sym at in
    ap (λ (s : Stacked). same_size sectors (sectors_of s.device)) same ∙ ap (λ (n : ℕ). same_size sectors n) (sym is) ∙ sym fits

pub made_is : (name : List ℕ) (sectors : ℕ) (device : List ℕ) (table : Table) (i : ℕ) (stacked : Stacked) (volume : Volume) (stacks : List Stacked) (volumes : List Volume)
    → top device table ≡ Ok i → i < length table.stacks → stacked ≡ get_or table.stacks i stacked → same_size sectors (sectors_of stacked.device) ≡ Ok tt
    → volume ≡ origin_on name stacked → stacks ≡ remove table.stacks i → volumes ≡ table.volumes ++ volume ∷ []
    → origin_made name sectors device table ≡ Ok (record { stacks = stacks; volumes = volumes })
unfolding origin_made
made_is name sectors device table i stacked volume stacks volumes found inside at fits is less more =
    let by_volume : Volume → Result Table _ = λ v. Ok (moved_under i v table) in
    let by_stacks : List Stacked → Result Table _ = λ ss. Ok (record { stacks = ss; volumes = table.volumes ++ volume ∷ [] }) in
    let by_volumes : List Volume → Result Table _ = λ vs. Ok (record { stacks = stacks; volumes = vs }) in
    rw found (rw (stack_here table i stacked inside at) (rw fits (ap by_volume (sym is) ∙ ap by_stacks (sym less) ∙ ap by_volumes (sym more))))
