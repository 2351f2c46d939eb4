-- What is read of a stream, piece after piece.
use Rattle.std.proofs.Common.{◌≡◌, ℕ, ◌+◌, ◌-◌, ◌<◌, ◌≤◌, List, [], ◌++◌, length, take, Option, None, Some, IfSome, arith, rules, refl, ap, ◌∙◌, sym, subst, length-append}
use Rattle.std.proofs.lemmas.List.{places, same_lists}
use Rattle.std.specs.Io.KnownBytes.{Consumes, Keeps, IsAtEnd}
use Rattle.std.proofs.KnownBytes.{Consumes-nil, Consumes-trans, Consumes-kept}
use Rattle.nbd_read_session.specs.Heard.{IsShort, IsRead}
use borrow.Rule.Slice.PartMut.{put_mid}

-- the front of a buffer of which another front was filled
pub take-put_mid_more : (out buf : List ℕ) (at n : ℕ) → at ≤ length out → length buf ≡ length out - at → n ≤ length buf → take (at + n) (put_mid at (length out - at) out buf) ≡ take at out ++ take n buf
take-put_mid_more out buf at n inside len few = same_lists _ _ (search (rules, places)) (λ k d h. grind (arith, places))

pub take-put_mid_same : (out buf : List ℕ) (at : ℕ) → at ≤ length out → take at (put_mid at (length out - at) out buf) ≡ take at out
take-put_mid_same out buf at inside = same_lists _ _ (search (rules, places)) (λ k d h. grind (arith, places))

pub length-put_mid : (out buf : List ℕ) (at : ℕ) → at ≤ length out → length buf ≡ length out - at → length (put_mid at (length out - at) out buf) ≡ length out
length-put_mid out buf at inside len = search (rules, places)

-- a piece more
pub heard_more : (a b c : Option (List ℕ)) (out buf : List ℕ) (at n : ℕ) → at ≤ length out → length buf ≡ length out - at → n ≤ length buf → Consumes a b (take at out) → Consumes b c (take n buf) → Consumes a c (take (at + n) (put_mid at (length out - at) out buf))
heard_more a b c out buf at n inside len few before now = subst (Consumes a c) (sym (take-put_mid_more out buf at n inside len few)) (Consumes-trans a b c _ _ before now)

-- nothing more
pub heard_same : (a b c : Option (List ℕ)) (out buf : List ℕ) (at : ℕ) → at ≤ length out → Consumes a b (take at out) → Keeps b c → Consumes a c (take at (put_mid at (length out - at) out buf))
heard_same a b c out buf at inside before kept = subst (Consumes a c) (sym (take-put_mid_same out buf at inside)) (Consumes-kept a b c _ before kept)

-- all is read, and it is too little
pub heard_short : (a b : Option (List ℕ)) (bytes : List ℕ) (n : ℕ) → Consumes a b bytes → IsAtEnd b → length bytes < n → IfSome a (λ xs. length xs < n)
heard_short None b bytes n consumes ends short = tt
heard_short (Some xs) None bytes n consumes ends short = absurd consumes
heard_short (Some xs) (Some ys) bytes n consumes ends short =
    let len : length xs ≡ length bytes = ap length consumes ∙ ap (λ (l : List ℕ). length (bytes ++ l)) ends ∙ (simp length-append (omega arith)) in
    omega arith

-- nothing is read yet
pub none_read : (a : Option (List ℕ)) → IsRead a a 0
none_read a = ([], refl, Consumes-nil a)

-- so many more
pub more_read : (a b c : Option (List ℕ)) (m n k : ℕ) (bytes : List ℕ) → IsRead a b m → Consumes b c bytes → length bytes ≡ n → m + n ≡ k → IsRead a c k
more_read a b c m n k bytes (before, len, consumes) now is all = (before ++ bytes, length-append before bytes ∙ omega arith, Consumes-trans a b c before bytes consumes now)

-- and then too few
pub then_short : (a b : Option (List ℕ)) (m n k : ℕ) → IsRead a b m → IsShort b n → m + n ≤ k → IsShort a k
then_short None b m n k read short le = tt
then_short (Some xs) None m n k (bytes, len, consumes) short le = absurd consumes
then_short (Some xs) (Some ys) m n k (bytes, len, consumes) short le =
    let whole : length xs ≡ length bytes + length ys = ap length consumes ∙ length-append bytes ys in
    omega arith
