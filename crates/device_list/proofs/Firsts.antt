-- The first volume that has a name: each is asked in turn.
use Rattle.std.proofs.Common.{◌≡◌, ℕ, ◌+◌, ◌<◌, ◌≤◌, Bool, true, false, List, Some, None, length, get_or, drop, nat_lt, refl, sym, ◌∙◌, ap, arith, cond}
use Rattle.std.specs.Prelude.{Option, is_some, not}
use Rattle.std.specs.List.{position, position_or_len}
use Rattle.std.proofs.lemmas.List.{drop_more}
use Rattle.std.proofs.lemmas.List.Sums.{prefix_len-drop_all}
use Rattle.command_semantics.specs.declared.place.Place.TheVariants.{In}
use Rattle.command_semantics.specs.declared.place.Role.{Role}
use Rattle.command_semantics.specs.Places.{in_first, in_volume, named_in, place_among, role_of}
use Rattle.command_semantics.specs.State.{Volume}
use Rattle.device_list.specs.Backed.{Backed}
use Rattle.device_list.proofs.Showing.{position_shown, shown_in, shown_there}

-- one that does not pass is left behind
pub passed_by : {X : Type 0} (test : X → Bool) (xs : List X) (i : ℕ) (d : X) → i < length xs → test (get_or xs i d) ≡ false → position_or_len test (drop i xs) ≡ 1 + position_or_len test (drop (i + 1) xs)
passed_by test xs i d lt fails = ap (position_or_len test) (drop_more xs i d lt) ∙ rw fails refl

-- one that passes is the first
pub stopped_at : {X : Type 0} (test : X → Bool) (xs : List X) (i : ℕ) (d : X) → i < length xs → test (get_or xs i d) ≡ true → position_or_len test (drop i xs) ≡ 0
stopped_at test xs i d lt passes = ap (position_or_len test) (drop_more xs i d lt) ∙ rw passes refl

is_lt : (m n : ℕ) → m < n → nat_lt m n ≡ true
is_lt m n lt = search (arith)

is_past : (m n : ℕ) → n ≤ m → nat_lt m n ≡ false
is_past m n le = search (arith)

-- so that is where it stands
pub position_here : {X : Type 0} (test : X → Bool) (xs : List X) (i : ℕ) (d : X) → position_or_len test xs ≡ i + position_or_len test (drop i xs) → i < length xs → test (get_or xs i d) ≡ true → position test xs ≡ Some i
position_here test xs i d so lt passes =
    let at : position_or_len test xs ≡ i = (let none = stopped_at test xs i d lt passes in omega (arith, so, none)) in
    ap (λ n. cond (nat_lt n (length xs)) (Some n) None) at ∙ ap (λ b. cond b (Some i) None) (is_lt i (length xs) lt)

-- or it stands nowhere
pub position_nowhere : {X : Type 0} (test : X → Bool) (xs : List X) (i : ℕ) → position_or_len test xs ≡ i + position_or_len test (drop i xs) → length xs ≤ i → position test xs ≡ None
position_nowhere test xs i so le =
    let none : position_or_len test (drop i xs) ≡ 0 = prefix_len-drop_all (λ x. not (test x)) xs i le in
    let past : length xs ≤ position_or_len test xs = omega (arith, so, none, le) in
    ap (λ b. cond b (Some (position_or_len test xs)) None) (is_past (position_or_len test xs) (length xs) past)

-- whether a volume has a device of a name
abbrev has : List ℕ → Volume → Bool
has name volume = is_some (role_of name volume)

is_here : (o : Option Role) (role : Role) → o ≡ Some role → is_some o ≡ true
is_here o role is = rw is refl

-- so that is the place of the name
pub found_here : (name : List ℕ) (volumes : List Backed) (i : ℕ) (volume : Backed) (role : Role) → position_or_len (λ (v : Backed). has name v.shown) volumes ≡ i + position_or_len (λ (v : Backed). has name v.shown) (drop i volumes) → i < length volumes → volume ≡ get_or volumes i volume → role_of name volume.shown ≡ Some role
    → place_among name (shown_in volumes) ≡ Some (In i role)
unfolding place_among
found_here name volumes i volume role so lt at is =
    ap (in_first name (shown_in volumes)) (position_shown (has name) volumes ∙ position_here (λ (v : Backed). has name v.shown) volumes i volume so lt (ap (λ (v : Backed). has name v.shown) (sym at) ∙ is_here (role_of name volume.shown) role is))
    ∙ ap (named_in i name) (shown_there volumes i volume lt at) ∙ ap (in_volume i) is

-- or it has none
pub found_nowhere : (name : List ℕ) (volumes : List Backed) (i : ℕ) → position_or_len (λ (v : Backed). has name v.shown) volumes ≡ i + position_or_len (λ (v : Backed). has name v.shown) (drop i volumes) → length volumes ≤ i → place_among name (shown_in volumes) ≡ None
unfolding place_among
found_nowhere name volumes i so le = ap (in_first name (shown_in volumes)) (position_shown (has name) volumes ∙ position_nowhere (λ (v : Backed). has name v.shown) volumes i so le)
