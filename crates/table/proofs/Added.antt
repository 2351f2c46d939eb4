-- Texts added one after the other.
use Rattle.std.proofs.Common.{◌≡◌, ℕ, ◌+◌, ◌<◌, ◌≤◌, List, [], ◌∷◌, ◌++◌, length, take, drop, get_or, add-one, drop-cons, arith, ap, subst, sym, ◌∙◌, Result, Ok, Err, append_assoc, length-append, vec_len}
use Rattle.std.proofs.lemmas.List.{take_at, take-take, take-append-drop, map-append}
use Rattle.std.specs.Prelude.{codes, decimal}
use Rattle.std.specs.Result.{IsErr}
use Rattle.std.proofs.lemmas.Grind.{flat_map-append}
use denote.Ref.{Bor}
use Rattle.words.specs.Texts.{texts}
use Rattle.std.specs.Global.{Vec}
use Rattle.std.specs.declared.alloc.AllocError.{AllocError}
use Rattle.words.specs.Words.{spaced}
use Rattle.table.specs.Printed.{Adds}

-- what a longer front begins with, the list begins with
front_of : (n m : ℕ) (xs ys zs s : List ℕ) → n ≤ m → n ≡ length zs → take m xs ≡ ys → ys ≡ zs ++ s → take n xs ≡ zs
front_of n m xs ys zs s le len front is =
    let inner : take n (take m xs) ≡ take n xs = take-take n m xs le in
    sym inner ∙ ap (take n) (front ∙ is) ∙ take_at zs s n (sym len)

-- a text after a text that was added
pub adds_more : (r : Result (Unit {0}) AllocError) (u : Unit {0}) (old mid new : Vec ℕ) (s t : List ℕ) → Adds (Ok u) old mid s → Adds r mid new t → Adds r old new (s ++ t)
adds_more (Ok v) u old mid new s t first then = (then.0 ∙ ap (λ x. x ++ t) first.0 ∙ append_assoc old.items s t, omega arith)
adds_more (Err e) u old mid new s t first then =
    let grown : vec_len mid ≡ vec_len old + length s = omega (arith, mid.ok.0, old.ok.0, ap length first.0, length-append old.items s) in
    (front_of (vec_len old) (vec_len mid) new.items mid.items old.items s (omega arith) old.ok.0 then.0 first.0, omega (arith, length-append s t))

-- a text that was to come after one that was not added
pub adds_less : (e : AllocError) (old new : Vec ℕ) (s t : List ℕ) → Adds (Err e) old new s → Adds (Err e) old new (s ++ t)
adds_less e old new s t failed = (failed.0, omega (arith, failed.1, length-append s t))

-- and where more was to come after it
pub adds_failed : (r : Result (Unit {0}) AllocError) (u : Unit {0}) (e : AllocError) (old mid new : Vec ℕ) (s t rest all : List ℕ) → IsErr r → Adds (Ok u) old mid s → Adds (Err e) mid new t → all ≡ s ++ (t ++ rest) → Adds r old new all
adds_failed (Ok v) u e old mid new s t rest all failed first then is = absurd (let none : ⊥ = cc in none)
adds_failed (Err f) u e old mid new s t rest all failed first then is =
    let here : Adds (Err f) old new (s ++ t) = adds_more (Err f) u old mid new s t first then in
    (here.0, omega (arith, here.1, length-append s t, length-append t rest, length-append s (t ++ rest), ap length is))

-- some words, one of them, and those after it
pub spaced_at : (words : List (Bor (List ℕ))) (i : ℕ) (d : Bor (List ℕ)) → i < length words → spaced (texts words) ≡ spaced (texts (take i words)) ++ ((32 ∷ (get_or words i d).now) ++ spaced (texts (drop (i + 1) words)))
spaced_at words i d lt =
    let here : drop i words ≡ get_or words i d ∷ drop (i + 1) words = rw (add-one, drop-cons words i d lt) in
    let cut : take i words ++ (get_or words i d ∷ drop (i + 1) words) ≡ words = ap (λ ws. take i words ++ ws) (sym here) ∙ take-append-drop i words in
    ap (λ ws. spaced (texts ws)) (sym cut) ∙ simp (map-append, flat_map-append)

-- a word that was not added after those before it
pub word_failed : (r : Result (Unit {0}) AllocError) (u : Unit {0}) (e : AllocError) (old mid new : Vec ℕ) (words : List (Bor (List ℕ))) (i : ℕ) (d : Bor (List ℕ)) → i < length words → IsErr r → Adds (Ok u) old mid (spaced (texts (take i words))) → Adds (Err e) mid new (32 ∷ (get_or words i d).now) → Adds r old new (spaced (texts words))
word_failed r u e old mid new words i d lt failed first then =
    adds_failed r u e old mid new (spaced (texts (take i words))) (32 ∷ (get_or words i d).now) (spaced (texts (drop (i + 1) words))) (spaced (texts words)) failed first then (spaced_at words i d lt)

-- words after words that were added
pub words_more : (r : Result (Unit {0}) AllocError) (u : Unit {0}) (old mid new : Vec ℕ) (ws vs : List (List ℕ)) → Adds (Ok u) old mid (spaced ws) → Adds r mid new (spaced vs) → Adds r old new (spaced (ws ++ vs))
words_more r u old mid new ws vs first then = subst (λ t. Adds r old new t) (sym (flat_map-append (λ word. 32 ∷ word) ws vs)) (adds_more r u old mid new (spaced ws) (spaced vs) first then)

-- words that were to come after some that were not added
pub words_less : (e : AllocError) (old new : Vec ℕ) (ws vs : List (List ℕ)) → Adds (Err e) old new (spaced ws) → Adds (Err e) old new (spaced (ws ++ vs))
words_less e old new ws vs failed = subst (λ t. Adds (Err e) old new t) (sym (flat_map-append (λ word. 32 ∷ word) ws vs)) (adds_less e old new (spaced ws) (spaced vs) failed)

-- the first sector, a number and then words
pub line_added : (r : Result (Unit {0}) AllocError) (u v : Unit {0}) (old first second new : Vec ℕ) (n : ℕ) (ws : List (List ℕ)) → Adds (Ok u) old first (codes "0") → Adds (Ok v) first second (spaced (decimal n ∷ [])) → Adds r second new (spaced ws) → Adds r old new (codes "0" ++ spaced ((decimal n ∷ []) ++ ws))
line_added r u v old first second new n ws zero number words =
    adds_more r u old first new (codes "0") (spaced ((decimal n ∷ []) ++ ws)) zero (words_more r v first second new (decimal n ∷ []) ws number words)

-- the same where the number was not added
pub line_failed : (r : Result (Unit {0}) AllocError) (u : Unit {0}) (e : AllocError) (old mid new : Vec ℕ) (n : ℕ) (ws : List (List ℕ)) → IsErr r → Adds (Ok u) old mid (codes "0") → Adds (Err e) mid new (spaced (decimal n ∷ [])) → Adds r old new (codes "0" ++ spaced ((decimal n ∷ []) ++ ws))
line_failed r u e old mid new n ws failed zero number =
    adds_failed r u e old mid new (codes "0") (spaced (decimal n ∷ [])) (spaced ws) (codes "0" ++ spaced ((decimal n ∷ []) ++ ws)) failed zero number
    (ap (λ t. codes "0" ++ t) (flat_map-append (λ word. 32 ∷ word) (decimal n ∷ []) ws))
