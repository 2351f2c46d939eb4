-- A printed line is read again as the line that it was printed from.
use Rattle.std.proofs.Common.{◌≡◌, ℕ, ◌+◌, ◌^◌, ◌<◌, List, [], ◌∷◌, ◌++◌, Bool, true, false, refl, ap, ◌∙◌, arith, Ok}
use Rattle.std.specs.Prelude.{codes, decimal, nat_lt, ◌&&◌, not}
use Rattle.std.specs.List.{list_all}
use Rattle.std.proofs.lemmas.List.Folds.{list_all-append}
use borrow.Author.Tests.{tests, ltb-true}
use Rattle.chunk.specs.Sizes.{is_chunk}
use Rattle.chunk.proofs.Limits.{is_chunk-small}
use Rattle.words.specs.Names.{is_name}
use Rattle.words.specs.Words.{is_word}
use Rattle.words.proofs.Bools.{and-split, and-join}
use Rattle.words.proofs.Decimals.{numeral_of-decimal, is_word-decimal}
use Rattle.words.proofs.Joined.{words_of-spaced}
use Rattle.words.proofs.Spelled.{name_of-name, is_word-name}
use Rattle.table.specs.declared.lines.FlakeyFeatures.{FlakeyFeatures}
use Rattle.table.specs.declared.lines.Line.{Line}
use Rattle.table.specs.declared.lines.Target.{Target}
use Rattle.table.specs.declared.lines.Target.TheVariants.{Origin, Snapshot, Merge, Flakey, Dust, Error}
use Rattle.table.specs.Grammar.{is_block, features_in, seconds_of, overflow_of, store_in, flakey_in, dust_in, line_in, line_of}
use Rattle.table.specs.Lawful.{is_target, is_line}
use Rattle.table.specs.Printed.{feature_words, counted, overflow_word, target_words, text_of}

-- the devices and the chunk size of a snapshot, and whether its store may overflow
overflow_again : (overflow : Bool) → overflow_of (overflow_word overflow) ≡ Ok overflow
overflow_again true = refl
overflow_again false = refl

store_again : (device store : List ℕ) (chunk : ℕ) (overflow : Bool) → is_name device ≡ true → is_name store ≡ true → is_chunk chunk ≡ true → store_in (device ∷ store ∷ overflow_word overflow ∷ decimal chunk ∷ []) ≡ Ok (device, store, chunk, overflow)
store_again device store chunk overflow d s c =
    let small : chunk < 2 ^ 32 = omega (arith, is_chunk-small chunk c) in
    rw (name_of-name device d, name_of-name store s, overflow_again overflow, numeral_of-decimal chunk small, c) refl

-- a number below a limit passes the test
ltb-below : (a b : ℕ) → a < b → nat_lt a b ≡ true
ltb-below a b h = grind (arith, tests)

-- seconds
seconds_again : (n : ℕ) → n < 2 ^ 31 → seconds_of (decimal n) ≡ Ok n
seconds_again n small = rw (numeral_of-decimal n (omega arith)) (rw (ltb-below n (2 ^ 31) small) refl)

-- features after their count
features_again : (reads writes drops : Bool) → not (writes && drops) ≡ true → (let f : FlakeyFeatures = record { error_reads = reads; error_writes = writes; drop_writes = drops } in features_in (counted (feature_words f))) ≡ Ok (record { error_reads = reads; error_writes = writes; drop_writes = drops })
features_again false false false h = refl
features_again false false true h = rw (numeral_of-decimal 1 (omega arith)) refl
features_again false true false h = rw (numeral_of-decimal 1 (omega arith)) refl
features_again false true true h = absurd (let none : ⊥ = cc in none)
features_again true false false h = rw (numeral_of-decimal 1 (omega arith)) refl
features_again true false true h = rw (numeral_of-decimal 2 (omega arith)) refl
features_again true true false h = rw (numeral_of-decimal 2 (omega arith)) refl
features_again true true true h = absurd (let none : ⊥ = cc in none)

-- their words
features_spelled : (reads writes drops : Bool) → (let f : FlakeyFeatures = record { error_reads = reads; error_writes = writes; drop_writes = drops } in list_all is_word (counted (feature_words f))) ≡ true
features_spelled false false false = refl
features_spelled false false true = rw (is_word-decimal 1 (omega arith)) refl
features_spelled false true false = rw (is_word-decimal 1 (omega arith)) refl
features_spelled false true true = rw (is_word-decimal 2 (omega arith)) refl
features_spelled true false false = rw (is_word-decimal 1 (omega arith)) refl
features_spelled true false true = rw (is_word-decimal 2 (omega arith)) refl
features_spelled true true false = rw (is_word-decimal 2 (omega arith)) refl
features_spelled true true true = rw (is_word-decimal 3 (omega arith)) refl

-- the parts of a flakey line
pub record IsFlakey (device : List ℕ) (offset up down : ℕ) (f : FlakeyFeatures) : Type 0 where
  pub name : is_name device ≡ true
  pub offset_fits : offset < 2 ^ 32
  pub up_fits : up < 2 ^ 31
  pub down_fits : down < 2 ^ 31
  pub some : 0 < up + down
  pub agree : not (f.error_writes && f.drop_writes) ≡ true

flakey_parts : (device : List ℕ) (offset up down : ℕ) (f : FlakeyFeatures) → is_target (Flakey device offset up down f) ≡ true → IsFlakey device offset up down f
flakey_parts device offset up down f h =
    let a = and-split (is_name device && nat_lt offset (2 ^ 32) && nat_lt up (2 ^ 31) && nat_lt down (2 ^ 31) && nat_lt 0 (up + down)) (not (f.error_writes && f.drop_writes)) h in
    let b = and-split (is_name device && nat_lt offset (2 ^ 32) && nat_lt up (2 ^ 31) && nat_lt down (2 ^ 31)) (nat_lt 0 (up + down)) a.0 in
    let c = and-split (is_name device && nat_lt offset (2 ^ 32) && nat_lt up (2 ^ 31)) (nat_lt down (2 ^ 31)) b.0 in
    let d = and-split (is_name device && nat_lt offset (2 ^ 32)) (nat_lt up (2 ^ 31)) c.0 in
    let e = and-split (is_name device) (nat_lt offset (2 ^ 32)) d.0 in
    record {
      name = e.0;
      offset_fits = ltb-true offset (2 ^ 32) e.1;
      up_fits = ltb-true up (2 ^ 31) d.1;
      down_fits = ltb-true down (2 ^ 31) c.1;
      some = ltb-true 0 (up + down) b.1;
      agree = a.1;
    }

flakey_again : (device : List ℕ) (offset up down : ℕ) (f : FlakeyFeatures) → IsFlakey device offset up down f → flakey_in (device ∷ decimal offset ∷ decimal up ∷ decimal down ∷ counted (feature_words f)) ≡ Ok (Flakey device offset up down f)
flakey_again device offset up down f is =
    let some : nat_lt 0 (up + down) ≡ true = ltb-below 0 (up + down) is.some in
    rw (name_of-name device is.name, numeral_of-decimal offset is.offset_fits, seconds_again up is.up_fits, seconds_again down is.down_fits, features_again f.error_reads f.error_writes f.drop_writes is.agree, some) refl

-- both names and the chunk size of a snapshot
store_parts : (device store : List ℕ) (chunk : ℕ) → (is_name device && is_name store && is_chunk chunk) ≡ true → (is_name device ≡ true) × (is_name store ≡ true) × (is_chunk chunk ≡ true)
store_parts device store chunk h =
    let a = and-split (is_name device && is_name store) (is_chunk chunk) h in
    let b = and-split (is_name device) (is_name store) a.0 in
    (b.0, b.1, a.1)

-- the name and the blocks of a dust line
block_small : (n : ℕ) → is_block n ≡ true → n < 2 ^ 32
block_small n h = grind (arith, tests)

dust_again : (device : List ℕ) (block : ℕ) → is_name device ≡ true → is_block block ≡ true → dust_in (device ∷ codes "0" ∷ decimal block ∷ []) ≡ Ok (Dust device block)
dust_again device block d b = rw (name_of-name device d, numeral_of-decimal block (block_small block b), b) refl

-- a target after its line's sectors
line_again : (sectors : ℕ) (t : Target) → sectors < 2 ^ 32 → is_target t ≡ true → line_in (codes "0" ∷ decimal sectors ∷ target_words t) ≡ Ok (record { sectors = sectors; target = t })
line_again sectors (Origin device) small h = rw (numeral_of-decimal sectors small, name_of-name device h) refl
line_again sectors (Snapshot device store chunk overflow) small h =
    let is = store_parts device store chunk h in rw (numeral_of-decimal sectors small, store_again device store chunk overflow is.0 is.1 is.2) refl
line_again sectors (Merge device store chunk overflow) small h =
    let is = store_parts device store chunk h in rw (numeral_of-decimal sectors small, store_again device store chunk overflow is.0 is.1 is.2) refl
line_again sectors (Flakey device offset up down f) small h = rw (numeral_of-decimal sectors small, flakey_again device offset up down f (flakey_parts device offset up down f h)) refl
line_again sectors (Dust device block) small h =
    let is = and-split (is_name device) (is_block block) h in rw (numeral_of-decimal sectors small, dust_again device block is.0 is.1) refl
line_again sectors Error small h = rw (numeral_of-decimal sectors small) refl

-- words before words
list_all-both : (ws vs : List (List ℕ)) → list_all is_word ws ≡ true → list_all is_word vs ≡ true → list_all is_word (ws ++ vs) ≡ true
list_all-both ws vs a b = list_all-append is_word ws vs ∙ and-join _ _ a b

overflow_spelled : (overflow : Bool) → is_word (overflow_word overflow) ≡ true
overflow_spelled true = refl
overflow_spelled false = refl

-- all that is printed of a target is words
target_spelled : (t : Target) → is_target t ≡ true → list_all is_word (target_words t) ≡ true
target_spelled (Origin device) h = rw (is_word-name device h) refl
target_spelled (Snapshot device store chunk overflow) h =
    let is = store_parts device store chunk h in
    rw (is_word-name device is.0, is_word-name store is.1, overflow_spelled overflow, is_word-decimal chunk (omega (arith, is_chunk-small chunk is.2))) refl
target_spelled (Merge device store chunk overflow) h =
    let is = store_parts device store chunk h in
    rw (is_word-name device is.0, is_word-name store is.1, overflow_spelled overflow, is_word-decimal chunk (omega (arith, is_chunk-small chunk is.2))) refl
target_spelled (Flakey device offset up down f) h =
    let is = flakey_parts device offset up down f h in
    list_all-both (codes "flakey" ∷ device ∷ decimal offset ∷ decimal up ∷ decimal down ∷ []) (counted (feature_words f))
    (rw (is_word-name device is.name, is_word-decimal offset is.offset_fits, is_word-decimal up (omega (arith, is.up_fits)), is_word-decimal down (omega (arith, is.down_fits))) refl)
    (features_spelled f.error_reads f.error_writes f.drop_writes)
target_spelled (Dust device block) h =
    let is = and-split (is_name device) (is_block block) h in
    rw (is_word-name device is.0, is_word-decimal block (block_small block is.1)) refl
target_spelled Error h = refl

-- a lawful line is printed and read again
pub line_of-text_of : (line : Line) → is_line line ≡ true → line_of (text_of line) ≡ Ok line
line_of-text_of line h =
    let is = and-split (nat_lt line.sectors (2 ^ 32)) (is_target line.target) h in
    let small : line.sectors < 2 ^ 32 = ltb-true line.sectors (2 ^ 32) is.0 in
    let spelled : list_all is_word (decimal line.sectors ∷ target_words line.target) ≡ true = and-join _ _ (is_word-decimal line.sectors small) (target_spelled line.target is.1) in
    ap line_in (words_of-spaced (codes "0") (decimal line.sectors ∷ target_words line.target) refl spelled) ∙ line_again line.sectors line.target small is.1

pub ruleset reads_again = (line_of-text_of)
