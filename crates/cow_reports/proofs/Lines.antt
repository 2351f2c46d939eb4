-- Lines that are added one by one.
use Rattle.std.proofs.Common.{◌≡◌, ℕ, ◌+◌, ◌<◌, ◌≤◌, true, false, List, [], ◌∷◌, ◌++◌, length, get_or, take, drop, arith, refl, ap, ◌∙◌, sym, append_assoc}
use Rattle.std.specs.Prelude.{flat_map}
use Rattle.std.proofs.lemmas.Bool.{cond-true, cond-false}
use Rattle.std.proofs.lemmas.List.{take_more, drop_more, drop_all, append-nil, flat_map_more}
use Rattle.sector.specs.declared.pair.Pair.{Pair}
use Rattle.cow_image.specs.declared.fault.Fault.{Fault}
use Rattle.cow_reports.specs.Lines.{follows, run_text, runs_from, runs_text, slot_line, slots_text}
use Rattle.cow_reports.specs.Reasons.{fault_line, faults_text}

-- the first run
pub runs_begin : (pairs : List Pair) (d : Pair) → 0 < length pairs → runs_text pairs ≡ runs_from (get_or pairs 0 d) (get_or pairs 0 d) 1 (drop 1 pairs)
runs_begin [] d some = absurd (omega arith)
runs_begin (pair ∷ pairs) d some = refl

-- a run that goes on
pub runs_on : (told whole : List ℕ) (pairs : List Pair) (i count : ℕ) (first last d : Pair) → i < length pairs → follows last (get_or pairs i d) ≡ true → told ++ runs_from first last count (drop i pairs) ≡ whole → told ++ runs_from first (get_or pairs i d) (count + 1) (drop (i + 1) pairs) ≡ whole
runs_on told whole pairs i count first last d lt on all =
    ap (λ xs. told ++ xs) (sym (ap (runs_from first last count) (drop_more pairs i d lt) ∙ cond-true _ _ _ on)) ∙ all

-- a run that ends before a pair
pub runs_off : (told whole : List ℕ) (pairs : List Pair) (i count : ℕ) (first last d : Pair) → i < length pairs → follows last (get_or pairs i d) ≡ false → told ++ runs_from first last count (drop i pairs) ≡ whole → (told ++ run_text first count) ++ runs_from (get_or pairs i d) (get_or pairs i d) 1 (drop (i + 1) pairs) ≡ whole
runs_off told whole pairs i count first last d lt off all =
    append_assoc told (run_text first count) (runs_from (get_or pairs i d) (get_or pairs i d) 1 (drop (i + 1) pairs))
    ∙ ap (λ xs. told ++ xs) (sym (ap (runs_from first last count) (drop_more pairs i d lt) ∙ cond-false _ _ _ off)) ∙ all

-- the last run
pub runs_end : (told whole : List ℕ) (pairs : List Pair) (i count : ℕ) (first last : Pair) → length pairs ≤ i → told ++ runs_from first last count (drop i pairs) ≡ whole → told ++ run_text first count ≡ whole
runs_end told whole pairs i count first last past all =
    ap (λ xs. told ++ xs) (sym (ap (runs_from first last count) (drop_all i pairs past))) ∙ all

-- a slot more
pub slots_on : (told whole : List ℕ) (slots : ℕ) (pairs : List Pair) (i : ℕ) (d : Pair) → i < length pairs → told ++ slots_text slots i (drop i pairs) ≡ whole → (told ++ slot_line slots i (get_or pairs i d)) ++ slots_text slots (i + 1) (drop (i + 1) pairs) ≡ whole
slots_on told whole slots pairs i d lt all =
    append_assoc told (slot_line slots i (get_or pairs i d)) (slots_text slots (i + 1) (drop (i + 1) pairs))
    ∙ ap (λ xs. told ++ xs) (sym (ap (slots_text slots i) (drop_more pairs i d lt))) ∙ all

-- no slot is left
pub slots_end : (told whole : List ℕ) (slots : ℕ) (pairs : List Pair) (i : ℕ) → length pairs ≤ i → told ++ slots_text slots i (drop i pairs) ≡ whole → told ≡ whole
slots_end told whole slots pairs i past all =
    sym (append-nil told) ∙ ap (λ xs. told ++ xs) (sym (ap (slots_text slots i) (drop_all i pairs past))) ∙ all

-- a fault more
pub faults_on : (told : List ℕ) (slots : ℕ) (faults : List Fault) (i : ℕ) (d : Fault) → i < length faults → (told ++ faults_text slots (take i faults)) ++ fault_line slots (get_or faults i d) ≡ told ++ faults_text slots (take (i + 1) faults)
faults_on told slots faults i d lt =
    flat_map_more (fault_line slots) told (take i faults) (get_or faults i d) ∙ ap (λ xs. told ++ faults_text slots xs) (sym (take_more faults i d lt))

-- texts that are added one after the other
pub two_more : (t0 t1 t2 a b : List ℕ) → t1 ≡ t0 ++ a → t2 ≡ t1 ++ b → t2 ≡ t0 ++ (a ++ b)
two_more t0 t1 t2 a b first second = second ∙ ap (λ xs. xs ++ b) first ∙ append_assoc t0 a b

pub three_more : (t0 t1 t2 t3 a b c : List ℕ) → t1 ≡ t0 ++ a → t2 ≡ t1 ++ b → t3 ≡ t2 ++ c → t3 ≡ t0 ++ (a ++ (b ++ c))
three_more t0 t1 t2 t3 a b c first second third = two_more t0 t1 t3 a (b ++ c) first (two_more t1 t2 t3 b c second third)
