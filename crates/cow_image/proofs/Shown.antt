-- What a chunk shows, byte by byte.
use Rattle.std.proofs.Common.{◌≡◌, ℕ, ◌+◌, ◌*◌, ◌/◌, ◌%◌, ◌<◌, List, take, drop, get_or, arith, ap, ◌∙◌}
use Rattle.std.proofs.lemmas.Nat.{div-mul-add, mod-mul-add}
use Rattle.std.proofs.lemmas.List.{get_or-take, get_or-drop}
use Rattle.std.specs.Prelude.{Option}
use Rattle.sector.specs.declared.pair.Pair.{Pair}
use Rattle.cow_format.specs.Picture.{place_of, byte_of, picture_at}

-- a byte of what was read
pub byte_got : (b : List ℕ) (at n i : ℕ) → i < n → get_or (take n (drop at b)) i 0 ≡ get_or b (at + i) 0
byte_got b at n i lt = get_or-take n (drop at b) i 0 lt ∙ get_or-drop at b i 0

-- byte i of chunk c, where its place is known
pub byte_shown : (chunk c i : ℕ) (o b : List ℕ) (ps : List Pair) (p : Option ℕ) → i < 512 * chunk → place_of ps c ≡ p → picture_at chunk o b ps (512 * (chunk * c) + i) ≡ byte_of chunk o b (512 * (chunk * c) + i) p
byte_shown chunk c i o b ps p lt is =
    let at : 512 * (chunk * c) + i ≡ c * (512 * chunk) + i = grind arith in
    let here : (512 * (chunk * c) + i) / (512 * chunk) ≡ c = ap (λ n. n / (512 * chunk)) at ∙ div-mul-add c (512 * chunk) i lt in
    ap (λ n. byte_of chunk o b (512 * (chunk * c) + i) (place_of ps n)) here ∙ ap (λ x. byte_of chunk o b (512 * (chunk * c) + i) x) is

pub rest_of : (chunk c i : ℕ) → i < 512 * chunk → (512 * (chunk * c) + i) % (512 * chunk) ≡ i
rest_of chunk c i lt =
    let at : 512 * (chunk * c) + i ≡ c * (512 * chunk) + i = grind arith in
    ap (λ n. n % (512 * chunk)) at ∙ mod-mul-add c (512 * chunk) i lt
