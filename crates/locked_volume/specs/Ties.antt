-- Which history a pass belongs to. This project's own.
use Rattle.std.specs.Prelude.{◌≡◌, []}
use Rattle.atomic_table.specs.Seated.{TableId}
use Rattle.atomic_table.specs.declared.shared.Seat.{Seat}
use Rattle.locked_volume.specs.declared.table.History.{History}
use Rattle.locked_volume.specs.declared.told.Told.{Told}
use Rattle.locked_volume.specs.declared.rule.View.{View}

abbrev pub table_of : History → TableId
table_of h = h.table.shared.table_id

abbrev pub IsPassOf : TableId → Seat Told View → Type 0
IsPassOf t p = (p.table_id ≡ t) × (p.me.1 ≡ [])
