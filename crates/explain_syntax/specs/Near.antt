-- The command that an unknown word is nearest to.
use Rattle.std.specs.Prelude.{ℕ, ◌+◌, ◌-◌, Bool, ◌&&◌, List, [], ◌∷◌, length, reverse, drop, max, nat_lt, nat_le, nat_eq, if◌then◌else◌, Option, find, codes}
use Rattle.std.specs.List.{starts_with, list_all, common_prefix_len}

-- how many bytes two words have alike at their fronts
abbrev pub alike : List ℕ → List ℕ → ℕ
alike one other = common_prefix_len nat_eq one other

-- the length of the longer of two words, without what they have alike at their ends
abbrev pub unlike : List ℕ → List ℕ → ℕ
unlike one other = max (length one) (length other) - alike (reverse one) (reverse other)

-- how much of a word differs from a command: what is left of the longer once their fronts and their ends that are alike are taken
-- away, and one; one alone for a word that begins the command
unfoldable pub distance : List ℕ → List ℕ → ℕ
distance word command =
    if starts_with nat_eq command word then 1 else
    (let front = alike word command in unlike (drop front word) (drop front command) + 1)

-- the commands, and the word that opens a block
unfoldable pub commands : List (List ℕ)
commands =
    codes "disk" ∷ codes "create" ∷ codes "remove" ∷ codes "load" ∷ codes "save" ∷ codes "copy" ∷ codes "ls" ∷ codes "read" ∷
    codes "write" ∷ codes "flush" ∷ codes "start" ∷ codes "step" ∷ codes "settle" ∷ codes "merge" ∷ codes "resume" ∷ codes "finish" ∷
    codes "checkpoint" ∷ codes "stop" ∷ codes "message" ∷ codes "tick" ∷ codes "status" ∷ codes "table" ∷ codes "map" ∷ codes "par" ∷ []

-- near enough to be meant, and none of these is nearer
abbrev pub is_nearest : List (List ℕ) → List ℕ → List ℕ → Bool
is_nearest all word command =
    let far = distance word command in nat_lt far 4 && list_all (λ other. nat_le far (distance word other)) all

-- the first command that is nearest to a word, where one is near enough
unfoldable pub near_command : List ℕ → Option (List ℕ)
near_command word = find (is_nearest commands word) commands
