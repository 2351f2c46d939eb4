-- Devices that are added to a list one after the other.
use Rattle.std.proofs.Common.{◌≡◌, ℕ, ◌+◌, ◌<◌, ◌≤◌, List, ◌++◌, length, drop, get_or, append_assoc, sym, ap, ◌∙◌}
use Rattle.std.proofs.lemmas.List.{append-nil, drop_all, drop_more}
use Rattle.whole_commands.specs.Devices.{Device}
use Rattle.command_semantics.specs.Lines.{line_in}
use Rattle.command_semantics.specs.Listing.{device_item, items_from, stack_items}

-- a text after a text that was added
pub more : (old mid new s t : List ℕ) → mid ≡ old ++ s → new ≡ mid ++ t → new ≡ old ++ (s ++ t)
more old mid new s t first then = then ∙ ap (λ x. x ++ t) first ∙ append_assoc old s t

-- one device more of a stack
pub next_item : (old mid new : List ℕ) (names : List (List ℕ)) (device : Device) (depth : ℕ) (d : List ℕ) → depth < length names
    → mid ++ items_from depth (drop depth names) names device ≡ old ++ stack_items names device
    → new ≡ mid ++ device_item (get_or names depth d) (line_in depth names device)
    → new ++ items_from (depth + 1) (drop (depth + 1) names) names device ≡ old ++ stack_items names device
next_item old mid new names device depth d lt told added =
    let item = device_item (get_or names depth d) (line_in depth names device) in
    let rest = items_from (depth + 1) (drop (depth + 1) names) names device in
    ap (λ x. x ++ rest) added ∙ append_assoc mid item rest ∙ ap (λ (ns : List (List ℕ)). mid ++ items_from depth ns names device) (sym (drop_more names depth d lt)) ∙ told

-- and no more
pub no_item : (old new : List ℕ) (names : List (List ℕ)) (device : Device) (depth : ℕ) → length names ≤ depth
    → new ++ items_from depth (drop depth names) names device ≡ old ++ stack_items names device → new ≡ old ++ stack_items names device
no_item old new names device depth all told =
    sym (ap (λ (ns : List (List ℕ)). new ++ items_from depth ns names device) (drop_all depth names all) ∙ append-nil new) ∙ told
