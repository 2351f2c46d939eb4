-- Sectors of what some pairs say, as they are read from the disks.
use Rattle.std.proofs.Common.{◌≡◌, ℕ, ◌+◌, ◌*◌, ◌/◌, ◌%◌, ◌<◌, ◌≤◌, List, Option, Some, None, length, map, get_or, refl, ap, ◌∙◌, sym, arith}
use Rattle.std.specs.List.{range_with_len}
use Rattle.std.proofs.lemmas.List.FromFn.{length-range_with_len, get_or-range_with_len}
use Rattle.std.proofs.lemmas.List.{length-map, get_or-map}
use Rattle.sector.specs.Bytes.{sectors_at}
use Rattle.sector.proofs.Sectors.{byte_read}
use Rattle.sector.specs.declared.pair.Pair.{Pair}
use Rattle.cow_format.specs.Pairs.{pairs_of}
use Rattle.cow_format.specs.Picture.{place_of, picture, picture_at}
use Rattle.cow_format.proofs.Pictures.{picture-plain, picture-written}
use Rattle.whole_commands.proofs.PictureSectors.{at_place, same_sectors}
use Rattle.volume.specs.Peeking.{picture_by}

pub length-listed : (chunk : ℕ) (origin store : List ℕ) (ps : List Pair) → length (picture_by chunk origin store ps) ≡ length origin
length-listed chunk origin store ps = simp (length-map, length-range_with_len)

byte_listed : (chunk : ℕ) (origin store : List ℕ) (ps : List Pair) (i : ℕ) → i < length origin → get_or (picture_by chunk origin store ps) i 0 ≡ picture_at chunk origin store ps i
byte_listed chunk origin store ps i lt =
    get_or-map (picture_at chunk origin store ps) (range_with_len 0 (length origin)) i 0 0 (rw length-range_with_len lt)
    ∙ ap (picture_at chunk origin store ps) (get_or-range_with_len 0 (length origin) i 0 lt ∙ omega arith)

-- where the store's bytes say the pairs it is the picture
pub listed_is : (chunk : ℕ) (origin store : List ℕ) (ps : List Pair) → pairs_of chunk store ≡ ps → picture_by chunk origin store ps ≡ picture chunk origin store
unfolding picture
listed_is chunk origin store ps is = ap (picture_by chunk origin store) (sym is)

-- sectors of a chunk without a copy are read from the origin
pub listed_plain : (chunk first count : ℕ) (disk store : List ℕ) (ps : List Pair) → 0 < chunk → place_of ps (first / chunk) ≡ None → first % chunk + count ≤ chunk → 512 * (first + count) ≤ length disk → sectors_at disk first count ≡ sectors_at (picture_by chunk disk store ps) first count
listed_plain chunk first count disk store ps pos none fits inside =
    let whole = length-listed chunk disk store ps in
    let at : chunk * (first / chunk) + first % chunk ≡ first = sym (at_place chunk first) in
    same_sectors disk (picture_by chunk disk store ps) first first count inside (omega arith)
    (λ k lt. sym (byte_listed chunk disk store ps (512 * first + k) (omega arith)
    ∙ ap (λ n. picture_at chunk disk store ps (512 * n + k)) (sym at)
    ∙ picture-plain chunk (first / chunk) (first % chunk) count disk store ps pos none fits k lt
    ∙ ap (λ n. get_or disk (512 * n + k) 0) at))

-- those of a chunk that has its copy from the store
pub listed_copied : (chunk first count n : ℕ) (disk store : List ℕ) (ps : List Pair) → 0 < chunk → place_of ps (first / chunk) ≡ Some n → first % chunk + count ≤ chunk → 512 * (first + count) ≤ length disk → 512 * (chunk * (n + 1)) ≤ length store → sectors_at store (chunk * n + first % chunk) count ≡ sectors_at (picture_by chunk disk store ps) first count
listed_copied chunk first count n disk store ps pos some fits inside room =
    let whole = length-listed chunk disk store ps in
    let at : chunk * (first / chunk) + first % chunk ≡ first = sym (at_place chunk first) in
    let end : chunk * (n + 1) ≡ chunk * n + chunk = grind arith in
    same_sectors store (picture_by chunk disk store ps) (chunk * n + first % chunk) first count (omega arith) (omega arith)
    (λ k lt. sym (byte_listed chunk disk store ps (512 * first + k) (omega arith)
    ∙ ap (λ m. picture_at chunk disk store ps (512 * m + k)) (sym at)
    ∙ picture-written chunk (first / chunk) n (first % chunk) count disk store (sectors_at store (chunk * n + first % chunk) count) ps pos some fits refl k lt
    ∙ byte_read store (chunk * n + first % chunk) count k lt))

-- where memory has the copy of a piece's chunk
pub place_by : (chunk g first : ℕ) (ps : List Pair) (o r : Option ℕ) → g ≡ chunk → o ≡ place_of ps (first / g) → o ≡ r → place_of ps (first / chunk) ≡ r
place_by chunk g first ps o r same asked is = ap (λ x. place_of ps (first / x)) (sym same) ∙ sym asked ∙ is
