-- The lines of tables that a kernel is given for a snapshot, as the admin-guide page on snapshots has them: `snapshot-origin ORIGIN`,
-- `snapshot ORIGIN COW P CHUNK`, `snapshot-merge ORIGIN COW P CHUNK`, each behind the first sector and how many there are.
use Rattle.std.specs.Prelude.{ℕ, List, ◌++◌, codes, decimal}
use Rattle.image_reports.specs.Names.{table_name}

-- what a line begins with, of a device of so many sectors
abbrev pub line_front : ℕ → List ℕ → List ℕ → List ℕ
line_front size target origin = codes "0 " ++ (decimal size ++ (target ++ table_name origin))

abbrev pub store_line : ℕ → List ℕ → List ℕ → List ℕ → ℕ → List ℕ
store_line size target origin cow chunk = line_front size target origin ++ (codes " " ++ (table_name cow ++ (codes " P " ++ (decimal chunk ++ codes "\n"))))

-- the lines of an origin of so many sectors, of its snapshot with chunks of so many, and of a merge
abbrev pub tables_text : ℕ → List ℕ → List ℕ → ℕ → List ℕ
tables_text size origin cow chunk =
    line_front size (codes " snapshot-origin ") origin
    ++ (codes "\n" ++ (store_line size (codes " snapshot ") origin cow chunk ++ store_line size (codes " snapshot-merge ") origin cow chunk))
