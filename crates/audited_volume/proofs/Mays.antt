-- Which stores may still overflow, and how many of those that are live.
use Rattle.std.proofs.Common.{◌≡◌, ℕ, zero, suc, ◌+◌, ◌<◌, ◌≤◌, Bool, true, false, List, [], ◌∷◌, ◌++◌, drop, length, get_or, set, map, refl, sym, ◌∙◌, ap, arith, inl, inr}
use Rattle.std.specs.Prelude.{◌==◌, ◌&&◌, if◌then◌else◌}
use Rattle.std.specs.List.{remove}
use Rattle.std.proofs.lemmas.Bool.{cases_Bool, cases_lt, false≢true}
use Rattle.plain_machine.specs.declared.request.Dev.{Dev}
use Rattle.plain_machine.specs.declared.request.Dev.TheVariants.{Origin, Snap}
use Rattle.plain_machine.specs.declared.request.Failure.TheVariants.{Invalid as IsInvalid, Io, Overflow}
use Rattle.plain_machine.specs.declared.request.Op.{Op}
use Rattle.plain_machine.specs.declared.request.Op.TheVariants.{Read, Write, Flush}
use Rattle.plain_machine.specs.declared.request.Reply.{Reply}
use Rattle.plain_machine.specs.declared.request.Reply.TheVariants.{Data, Written, Flushed, Refused}
use Rattle.plain_machine.specs.Plain.{Plain, Entry as ShownEntry, Saved, Live, is_in, may_overflow, overflow_of, spoiled_entry, with_saved}
use Rattle.plain_machine.specs.Serves.{Serves}
use Rattle.sector.specs.Bytes.{with_sectors}
use Rattle.sector.specs.declared.range.Range.{Range}
use Rattle.audited_volume.specs.declared.entry.Entry.{Entry}
use Rattle.audited_volume.specs.Noted.{Noted, is_open, kept_count, may_count}

pub wanted_may : (wanted : Bool) → may_overflow (overflow_of wanted) ≡ wanted
wanted_may true = refl
wanted_may false = refl

-- a spoil changes none, nor does a write
open_either : (b : Bool) (x : ShownEntry) → is_open (if b then record x { saved = Saved.Invalid } else x) ≡ is_open x
open_either true x = refl
open_either false x = refl

pub open_spoiled : (which : List ℕ) (xs : List ShownEntry) → map is_open (map (spoiled_entry which) xs) ≡ map is_open xs
open_spoiled which [] = refl
open_spoiled which (x ∷ xs) = (λ i. open_either (is_in which x.number) x i ∷ open_spoiled which xs i)

open_with : (n : ℕ) (saved : Saved) (xs : List ShownEntry) → map is_open (with_saved n saved xs) ≡ map is_open xs
open_with n saved [] = refl
open_with n saved (x ∷ xs) = elim (cases_Bool (x.number == n)) [
  | inl here ↦ rw here refl
  | inr other ↦ rw other (ap (λ (bs : List Bool). is_open x ∷ bs) (open_with n saved xs))
]

pub opens_served : (p q : Plain) (dev : Dev) (op : Op) (range : Range) (reply : Reply) → Serves p dev op range reply q → map is_open q.saved ≡ map is_open p.saved
opens_served p q dev Read range (Data bytes) s = ap (map is_open) s.0.saved
opens_served p q dev (Write bytes) range (Data read) s = absurd s
opens_served p q dev Read range Written s = absurd s
opens_served p q Origin (Write bytes) range Written s = let w = s.2 in ap (map is_open) w.saved
opens_served p q (Snap number) (Write bytes) range Written s = let w = s.2 in ap (map is_open) w.saved ∙ open_with number (Live (with_sectors s.0 range.first bytes)) p.saved
opens_served p q dev Read range (Refused Io) s = ap (map is_open) s.0.saved
opens_served p q dev (Write bytes) range (Refused Io) s = ap (map is_open) s.0.saved
opens_served p q dev Read range (Refused IsInvalid) s = ap (map is_open) s.0.saved
opens_served p q dev (Write bytes) range (Refused IsInvalid) s = ap (map is_open) s.0.saved
opens_served p q dev Read range (Refused Overflow) s = absurd s
opens_served p q dev Read range Flushed s = absurd s
opens_served p q dev (Write bytes) range Flushed s = absurd s
opens_served p q dev Flush range Flushed s = ap (map is_open) s.0.saved
opens_served p q dev Flush range (Data bytes) s = absurd s
opens_served p q dev Flush range Written s = absurd s
opens_served p q dev Flush range (Refused Io) s = ap (map is_open) s.0.saved
opens_served p q dev Flush range (Refused IsInvalid) s = ap (map is_open) s.0.saved
opens_served p q dev Flush range (Refused Overflow) s = absurd s
opens_served p q dev (Write bytes) range (Refused Overflow) s = absurd s

-- counts
pub kept_same : (bs bs' ms ms' : List Bool) → bs ≡ bs' → ms ≡ ms' → kept_count bs ms ≡ kept_count bs' ms'
kept_same bs bs' ms ms' b m = (λ i. kept_count (b i) (m i))

abbrev pub bit : Bool → ℕ
bit true = 1
bit false = 0

count_next : (b m : Bool) (bs ms : List Bool) → may_count (b ∷ bs) (m ∷ ms) ≡ bit (b && m) + may_count bs ms
count_next true true bs ms = omega arith
count_next true false bs ms = omega arith
count_next false m bs ms = omega arith

bit_fewer : (b b' m m' : Bool) → (b' ≡ true → b ≡ true) → (m' ≡ true → m ≡ true) → bit (b' && m') ≤ bit (b && m)
bit_fewer b false m m' live may = omega arith
bit_fewer b true m false live may = omega arith
bit_fewer true true true true live may = omega arith
bit_fewer true true false true live may = absurd (false≢true (may refl))
bit_fewer false true m true live may = absurd (false≢true (live refl))

none_may : (bs : List Bool) → may_count bs [] ≡ 0
none_may [] = refl
none_may (b ∷ bs) = refl

-- Where one list says yes, so does the other.
abbrev pub IsFewer : List Bool → List Bool → Type 0
IsFewer bs' bs = (k : ℕ) → get_or bs' k false ≡ true → get_or bs k false ≡ true

-- fewer are live, and fewer may
pub may_fewer : (bs bs' ms ms' : List Bool) → IsFewer bs' bs → IsFewer ms' ms → may_count bs' ms' ≤ may_count bs ms
may_fewer bs [] ms ms' live may = omega arith
may_fewer bs (b' ∷ bs') ms [] live may = omega arith
may_fewer [] (true ∷ bs') ms (m' ∷ ms') live may = absurd (false≢true (live 0 refl))
may_fewer [] (false ∷ bs') [] (m' ∷ ms') live may = let rest = may_fewer [] bs' [] ms' (λ k e. live (suc k) e) (λ k e. may (suc k) e) in omega (arith, rest)
may_fewer [] (false ∷ bs') (m ∷ ms) (m' ∷ ms') live may = let rest = may_fewer [] bs' ms ms' (λ k e. live (suc k) e) (λ k e. may (suc k) e) in omega (arith, rest)
may_fewer (b ∷ bs) (b' ∷ bs') [] (true ∷ ms') live may = absurd (false≢true (may 0 refl))
may_fewer (b ∷ bs) (b' ∷ bs') [] (false ∷ ms') live may =
    let rest = may_fewer bs bs' [] ms' (λ k e. live (suc k) e) (λ k e. may (suc k) e) in
    omega (arith, rest, none_may bs, count_next b' false bs' ms', bit_fewer b b' false false (λ e. live 0 e) (λ e. e), no_bit b)
  where
    no_bit : (b : Bool) → bit (b && false) ≡ 0
    no_bit true = refl
    no_bit false = refl
may_fewer (b ∷ bs) (b' ∷ bs') (m ∷ ms) (m' ∷ ms') live may =
    let rest = may_fewer bs bs' ms ms' (λ k e. live (suc k) e) (λ k e. may (suc k) e) in
    omega (arith, rest, count_next b m bs ms, count_next b' m' bs' ms', bit_fewer b b' m m' (λ e. live 0 e) (λ e. may 0 e))

-- one may not any more
pub may_marked : (bs ms : List Bool) (k : ℕ) → get_or bs k false ≡ true → get_or ms k false ≡ true → may_count bs (set ms k false) + 1 ≡ may_count bs ms
may_marked [] ms k live may = absurd (false≢true live)
may_marked (b ∷ bs) [] k live may = absurd (false≢true may)
may_marked (true ∷ bs) (true ∷ ms) zero live may = omega arith
may_marked (true ∷ bs) (false ∷ ms) zero live may = absurd (false≢true may)
may_marked (false ∷ bs) (m ∷ ms) zero live may = absurd (false≢true live)
may_marked (b ∷ bs) (m ∷ ms) (suc k) live may = let rest = may_marked bs ms k live may in omega (arith, rest, count_next b m bs ms, count_next b m bs (set ms k false))

-- one less is looked at
pub may_removed : (bs ms : List Bool) (k : ℕ) → may_count (remove bs k) (remove ms k) ≤ may_count bs ms
may_removed [] ms zero = omega arith
may_removed [] ms (suc k) = omega arith
may_removed (b ∷ bs) [] zero = nothing bs
  where
    nothing : (bs : List Bool) → may_count bs [] ≤ 0
    nothing [] = omega arith
    nothing (b ∷ bs) = omega arith
may_removed (b ∷ bs) [] (suc k) = omega arith
may_removed (b ∷ bs) (m ∷ ms) zero = omega (arith, count_next b m bs ms)
may_removed (b ∷ bs) (m ∷ ms) (suc k) = let rest = may_removed bs ms k in omega (arith, rest, count_next b m bs ms, count_next b m (remove bs k) (remove ms k))

-- one more is
pub may_more : (bs ms : List Bool) (b m : Bool) → length ms ≡ length bs → may_count (bs ++ b ∷ []) (ms ++ m ∷ []) ≡ may_count bs ms + bit (b && m)
may_more [] [] true true same = omega arith
may_more [] [] true false same = omega arith
may_more [] [] false m same = omega arith
may_more [] (y ∷ ms) b m same = absurd (omega (arith, same))
may_more (x ∷ bs) [] b m same = absurd (omega (arith, same))
may_more (x ∷ bs) (y ∷ ms) b m same =
    let rest = may_more bs ms b m (omega (arith, same)) in omega (arith, rest, count_next x y bs ms, count_next x y (bs ++ b ∷ []) (ms ++ m ∷ []))

pub may_few : (bs ms : List Bool) → may_count bs ms ≤ length bs
may_few [] ms = omega arith
may_few (b ∷ bs) [] = omega arith
may_few (true ∷ bs) (true ∷ ms) = omega (arith, may_few bs ms)
may_few (true ∷ bs) (false ∷ ms) = omega (arith, may_few bs ms)
may_few (false ∷ bs) (m ∷ ms) = omega (arith, may_few bs ms)

-- a loss gives its places back
noted_less : (n : ℕ) (saved : List ShownEntry) (lives lives' : List Bool) (es es' : List Entry) → Noted n saved lives lives' es es' → (d : ShownEntry) (k : ℕ) → get_or lives' k false ≡ true → get_or lives k false ≡ true
noted_less n saved lives lives' es es' s d k e = elim (cases_lt k n) [
  | inl lt ↦ first (get_or lives k false) _ (sym (s.looked k d lt) ∙ e)
  | inr ge ↦ sym (s.ahead k (omega (arith, ge))) ∙ e
]
  where
    first : (a b : Bool) → (a && b) ≡ true → a ≡ true
    first true b e = refl
    first false b e = e

pub noted_may : (n : ℕ) (saved : List ShownEntry) (lives lives' may : List Bool) (es es' : List Entry) → ShownEntry → Noted n saved lives lives' es es' → may_count lives' may ≤ may_count lives may
noted_may n saved lives lives' may es es' d s = may_fewer lives lives' may may (noted_less n saved lives lives' es es' s d) (λ k e. e)

pub any_shown : ShownEntry
any_shown = record { number = 0; saved = Saved.Invalid; overflow = overflow_of false }

-- one place after another
pub may_drop : (bs ms : List Bool) (k : ℕ) → k < length bs → length ms ≡ length bs → may_count (drop k bs) (drop k ms) ≡ bit (get_or bs k false && get_or ms k false) + may_count (drop (suc k) bs) (drop (suc k) ms)
may_drop [] ms k lt same = absurd (omega (arith, lt))
may_drop (b ∷ bs) [] k lt same = absurd (omega (arith, same))
may_drop (b ∷ bs) (m ∷ ms) zero lt same = count_next b m bs ms
may_drop (b ∷ bs) (m ∷ ms) (suc k) lt same = may_drop bs ms k (omega (arith, lt)) (omega (arith, same))

pub may_step : (bs ms : List Bool) (k n : ℕ) → k < length bs → length ms ≡ length bs → n ≡ bit (get_or bs k false && get_or ms k false) → n + may_count (drop (k + 1) bs) (drop (k + 1) ms) ≡ may_count (drop k bs) (drop k ms)
may_step bs ms k n lt same is =
    let next : suc k ≡ k + 1 = omega arith in
    let more = ap (λ j. may_count (drop j bs) (drop j ms)) next in
    omega (arith, may_drop bs ms k lt same, more, is)

pub bit_both : (a b : Bool) → a ≡ true → b ≡ true → 1 ≡ bit (a && b)
bit_both true true x y = refl
bit_both true false x y = absurd (false≢true y)
bit_both false b x y = absurd (false≢true x)

pub bit_first : (a b : Bool) → a ≡ false → 0 ≡ bit (a && b)
bit_first true b x = absurd (false≢true (sym x))
bit_first false b x = refl

pub bit_second : (a b : Bool) → b ≡ false → 0 ≡ bit (a && b)
bit_second true true y = absurd (false≢true (sym y))
bit_second true false y = refl
bit_second false b y = refl
