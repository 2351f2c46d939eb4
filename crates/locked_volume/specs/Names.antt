-- The names of no table and of no queue, and of nothing that stays. This project's own.
use Rattle.std.specs.Prelude.{[], None, false}
use Rattle.atomic_table.specs.Seated.{TableId}
use Rattle.thread_channels.specs.Passes.{Queue}
use Rattle.locked_volume.specs.Fixed.{Fixed}

abbrev pub no_table : TableId
no_table = record { words = 0; slots = 0; views_name = 0; atom = 0; block = 0; offset = 0; slot_names = [] }

abbrev pub no_queue : Queue
no_queue = record { table = no_table; key = record { marker = record {}; table_id = no_table; id = 0; views = [] } }

abbrev pub nothing_fixed : Fixed
nothing_fixed = record { attached = 0; sectors = 0; numbers = []; chunks = []; merged = None; sound = false; loud = false; base = record { origin = []; begun = None; saved = [] }; taken = 0; folded = [] }
