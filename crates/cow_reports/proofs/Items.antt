-- Objects that are added one by one.
use Rattle.std.proofs.Common.{◌≡◌, ℕ, ◌+◌, ◌<◌, ◌≤◌, true, false, List, [], ◌∷◌, ◌++◌, length, get_or, take, drop, arith, refl, ap, ◌∙◌, sym, append_assoc}
use Rattle.std.proofs.lemmas.Bool.{cond-true, cond-false}
use Rattle.std.proofs.lemmas.List.{take_more, drop_more, drop_all, append-nil, flat_map_more}
use Rattle.sector.specs.declared.pair.Pair.{Pair}
use Rattle.cow_salvage.specs.declared.span.Span.{Span}
use Rattle.cow_reports.specs.Items.{run_object, run_objects_from, run_objects, slot_object, slot_objects, doubtful_object, doubtful_objects, unread_object, unread_objects}
use Rattle.cow_reports.specs.Lines.{follows}

-- the first run
pub run_objects_begin : (pairs : List Pair) (d : Pair) → 0 < length pairs → run_objects pairs ≡ run_objects_from (get_or pairs 0 d) (get_or pairs 0 d) 1 (drop 1 pairs)
run_objects_begin [] d some = absurd (omega arith)
run_objects_begin (pair ∷ pairs) d some = refl

-- a run that goes on
pub run_objects_on : (told whole : List ℕ) (pairs : List Pair) (i count : ℕ) (first last d : Pair) → i < length pairs → follows last (get_or pairs i d) ≡ true → told ++ run_objects_from first last count (drop i pairs) ≡ whole → told ++ run_objects_from first (get_or pairs i d) (count + 1) (drop (i + 1) pairs) ≡ whole
run_objects_on told whole pairs i count first last d lt on all =
    ap (λ xs. told ++ xs) (sym (ap (run_objects_from first last count) (drop_more pairs i d lt) ∙ cond-true _ _ _ on)) ∙ all

-- a run that ends before a pair
pub run_objects_off : (told whole : List ℕ) (pairs : List Pair) (i count : ℕ) (first last d : Pair) → i < length pairs → follows last (get_or pairs i d) ≡ false → told ++ run_objects_from first last count (drop i pairs) ≡ whole → (told ++ run_object first count) ++ run_objects_from (get_or pairs i d) (get_or pairs i d) 1 (drop (i + 1) pairs) ≡ whole
run_objects_off told whole pairs i count first last d lt off all =
    append_assoc told (run_object first count) (run_objects_from (get_or pairs i d) (get_or pairs i d) 1 (drop (i + 1) pairs))
    ∙ ap (λ xs. told ++ xs) (sym (ap (run_objects_from first last count) (drop_more pairs i d lt) ∙ cond-false _ _ _ off)) ∙ all

-- the last run
pub run_objects_end : (told whole : List ℕ) (pairs : List Pair) (i count : ℕ) (first last : Pair) → length pairs ≤ i → told ++ run_objects_from first last count (drop i pairs) ≡ whole → told ++ run_object first count ≡ whole
run_objects_end told whole pairs i count first last past all =
    ap (λ xs. told ++ xs) (sym (ap (run_objects_from first last count) (drop_all i pairs past))) ∙ all

-- a slot more
pub slot_objects_on : (told whole : List ℕ) (slots : ℕ) (pairs : List Pair) (i : ℕ) (d : Pair) → i < length pairs → told ++ slot_objects slots i (drop i pairs) ≡ whole → (told ++ slot_object slots i (get_or pairs i d)) ++ slot_objects slots (i + 1) (drop (i + 1) pairs) ≡ whole
slot_objects_on told whole slots pairs i d lt all =
    append_assoc told (slot_object slots i (get_or pairs i d)) (slot_objects slots (i + 1) (drop (i + 1) pairs))
    ∙ ap (λ xs. told ++ xs) (sym (ap (slot_objects slots i) (drop_more pairs i d lt))) ∙ all

-- no slot is left
pub slot_objects_end : (told whole : List ℕ) (slots : ℕ) (pairs : List Pair) (i : ℕ) → length pairs ≤ i → told ++ slot_objects slots i (drop i pairs) ≡ whole → told ≡ whole
slot_objects_end told whole slots pairs i past all =
    sym (append-nil told) ∙ ap (λ xs. told ++ xs) (sym (ap (slot_objects slots i) (drop_all i pairs past))) ∙ all

-- a span more
pub unread_on : (told text next file : List ℕ) (spans : List Span) (i : ℕ) (item : Span) → i < length spans → item ≡ get_or spans i item → text ≡ told ++ unread_objects file (take i spans) → next ≡ text ++ unread_object file item → next ≡ told ++ unread_objects file (take (i + 1) spans)
unread_on told text next file spans i item lt same was is =
    is ∙ ap (λ xs. xs ++ unread_object file item) was ∙ ap (λ (x : Span). (told ++ unread_objects file (take i spans)) ++ unread_object file x) same
    ∙ flat_map_more (unread_object file) told (take i spans) (get_or spans i item) ∙ ap (λ xs. told ++ unread_objects file xs) (sym (take_more spans i item lt))

-- a doubtful pair more
pub doubtful_on : (told text next : List ℕ) (pairs : List Pair) (i : ℕ) (d : Pair) → i < length pairs → text ≡ told ++ doubtful_objects (take i pairs) → next ≡ text ++ doubtful_object (get_or pairs i d) → next ≡ told ++ doubtful_objects (take (i + 1) pairs)
doubtful_on told text next pairs i d lt was is =
    is ∙ ap (λ xs. xs ++ doubtful_object (get_or pairs i d)) was
    ∙ flat_map_more doubtful_object told (take i pairs) (get_or pairs i d) ∙ ap (λ xs. told ++ doubtful_objects xs) (sym (take_more pairs i d lt))
