-- What the places of the table have while a block is run.
use Rattle.std.proofs.Common.{◌≡◌, ℕ, suc, ◌+◌, ◌<◌, Bool, List, [], ◌∷◌, ◌++◌, length, get_or, take, drop, Option, Some, None, refl, sym, ap, ◌∙◌, subst, inl, inr, arith}
use Rattle.std.specs.List.{All, AllZip}
use Rattle.std.specs.Option.{MatchOption}
use Rattle.std.proofs.lemmas.List.{append-nil, append_assoc, drop_more, length_push, nil_from_length, same_from_push, take_more}
use Rattle.std.proofs.lemmas.List.Elements.{All-nil, All-push, All-same}
use Rattle.layers.specs.declared.stack.Stack.{Stack}
use Rattle.parallel_lines.specs.Played.{Story}
use Rattle.audited_volume.specs.Books.{AuditShape}
use Rattle.command_semantics.specs.State.{Volume}
use Rattle.device_list.specs.Parting.{Parts}
use Rattle.locked_volume.specs.Fixed.{Fixed, StaysFrom}
use Rattle.parallel_lines.specs.declared.taking.Slot.{Slot}
use Rattle.parallel_lines.specs.declared.taking.Slot.TheVariants.{Stays, Out}
use Rattle.parallel_lines.specs.Taking.{AreSlots, IsBack, IsBackAt, IsLeft, IsMade, IsPutAt, IsSlot}
use Rattle.parallel_lines.proofs.Made.{AreMade}

-- Lists side by side.

pub zip_at : {X : Type 0} (R : X → X → Type 0) (xs ys : List X) → length ys ≡ length xs → ((k : ℕ) (d : X) → k < length ys → R (get_or xs k d) (get_or ys k d)) → AllZip R xs ys
zip_at R [] [] many each = tt
zip_at R [] (y ∷ ys) many each = absurd (omega (arith, many))
zip_at R (x ∷ xs) [] many each = absurd (omega (arith, many))
zip_at R (x ∷ xs) (y ∷ ys) many each = (each 0 x (omega arith), zip_at R xs ys (omega (arith, many)) (λ k d low. each (suc k) d (omega (arith, low))))

zip_none : {X : Type 0} (R : X → X → Type 0) (ys : List X) → AllZip R [] ys → ys ≡ []
zip_none R [] h = refl
zip_none R (y ∷ ys) h = absurd h

zip_last : {X : Type 0} (R : X → X → Type 0) (xs : List X) (x : X) (ys : List X) → AllZip R (xs ++ x ∷ []) ys → (zs : List X) × (y : X) × (ys ≡ zs ++ y ∷ []) × AllZip R xs zs × R x y
zip_last R [] x [] h = absurd h
zip_last R [] x (y ∷ []) h = ([], y, refl, tt, h.0)
zip_last R [] x (y ∷ z ∷ ys) h = absurd h.1
zip_last R (w ∷ xs) x [] h = absurd h
zip_last {X} R (w ∷ xs) x (y ∷ ys) h =
    let r = zip_last R xs x ys h.1 in
    (y ∷ r.0, r.1, ap (λ (l : List X). y ∷ l) r.2, (h.0, r.3), r.4)

-- Volumes are taken out.

-- the next one, before those that were taken
pub one_taken : (used : List Bool) (all left : List Volume) (volume : Volume) (n : ℕ) (is_used : Bool) (slots : List Slot) (slot : Slot) (audits others : List (AuditShape Stack)) → n ≡ length left → n < length all → length used ≡ length all
    → left ++ volume ∷ [] ≡ take (n + 1) all → is_used ≡ get_or used n is_used → AreSlots (drop (n + 1) used) slots others (drop (n + 1) all) → IsSlot is_used slot audits others volume
    → AreSlots (drop n used) (slots ++ slot ∷ []) audits (drop n all)
one_taken used all left volume n is_used slots slot audits others many low as_many front flag more one =
    let here : volume ≡ get_or all n volume = (same_from_push left (take n all) volume (get_or all n volume) (front ∙ take_more all n volume low)).1 in
    let olds : drop n all ≡ volume ∷ drop (n + 1) all = drop_more all n volume low ∙ ap (λ (v : Volume). v ∷ drop (n + 1) all) (sym here) in
    let uses : drop n used ≡ is_used ∷ drop (n + 1) used = drop_more used n is_used (omega (arith, low, as_many)) ∙ ap (λ (b : Bool). b ∷ drop (n + 1) used) (sym flag) in
    subst (λ (us : List Bool). AreSlots us (slots ++ slot ∷ []) audits (drop n all)) (sym uses)
    (subst (λ (os : List Volume). AreSlots (is_used ∷ drop (n + 1) used) (slots ++ slot ∷ []) audits os) (sym olds)
    (slots, slot, others, refl, one, more))

pub front_left : {X : Type 0} (all left : List X) (volume : X) (n : ℕ) → n < length all → left ++ volume ∷ [] ≡ take (n + 1) all → left ≡ take n all
front_left all left volume n low front = (same_from_push left (take n all) volume (get_or all n volume) (front ∙ take_more all n volume low)).0

-- Nothing is in flight in them.

abbrev HasNone : AuditShape Stack → Type 0
HasNone audit = audit.held ≡ []

pub none_held : (uses : List Bool) (slots : List Slot) (audits : List (AuditShape Stack)) (olds : List Volume) → AreSlots uses slots audits olds → All HasNone audits
none_held [] slots audits [] h = All-same HasNone audits [] h.1 (All-nil HasNone)
none_held [] slots audits (old ∷ olds) h = absurd h
none_held (used ∷ uses) slots audits [] h = absurd h
none_held (used ∷ uses) slots audits (old ∷ olds) (first, Stays volume, others, is, one, more) = All-same HasNone audits others one.1 (none_held uses first others olds more)
none_held (used ∷ uses) slots audits (old ∷ olds) (first, Out parts, others, is, (is_used, audit, last, out), more) =
    All-same HasNone audits (others ++ audit ∷ []) last (All-push HasNone others audit (none_held uses first others olds more) out.held)

-- Seats ran at them, or none did.

still : (f : Fixed) → StaysFrom f f
still f = record { attached = refl; sectors = refl; snaps = inl (refl, refl, refl); sound = refl; loud = refl; base = refl; taken = refl; folded = refl; piece = refl }

pub none_ran : (audits : List (AuditShape Stack)) → All (λ (a : AuditShape Stack). a.held ≡ []) audits → AllZip IsLeft audits audits
none_ran [] none = tt
none_ran (audit ∷ audits) none = (
  record { held = none 0 audit (omega arith); stays = still _; more = []; grows = sym (append-nil audit.entries) },
  none_ran audits (λ k d low. none (suc k) d (omega (arith, low))),
)

-- They are put back.

no_push : {X : Type 0} (xs : List X) (x : X) → xs ++ x ∷ [] ≡ [] → ⊥
no_push xs x none = let more = length_push xs x in let is = ap length none in omega (arith, more, is)

-- the last place is that of the first volume
next : (uses : List Bool) (slots : List Slot) (slot : Slot) (audits : List (AuditShape Stack)) (olds : List Volume) → AreSlots uses (slots ++ slot ∷ []) audits olds
    → (used : Bool) × (others : List (AuditShape Stack)) × (old : Volume) × (more : List Bool) × (rest : List Volume) × (uses ≡ used ∷ more) × (olds ≡ old ∷ rest) × IsSlot used slot audits others old × AreSlots more slots others rest
next [] slots slot audits [] h = absurd (no_push slots slot h.0)
next [] slots slot audits (old ∷ olds) h = absurd h
next (used ∷ uses) slots slot audits [] h = absurd h
next (used ∷ uses) slots slot audits (old ∷ olds) (first, last, others, is, one, more) =
    let same = same_from_push slots first slot last is in
    (used, others, old, uses, olds, refl, refl, subst (λ (s : Slot). IsSlot used s audits others old) (sym same.1) one, subst (λ (l : List Slot). AreSlots uses l others olds) (sym same.0) more)

none_next : (uses : List Bool) (audits : List (AuditShape Stack)) (olds : List Volume) → AreSlots uses [] audits olds → (uses ≡ []) × (audits ≡ []) × (olds ≡ [])
none_next [] audits [] h = (refl, h.1, refl)
none_next [] audits (old ∷ olds) h = absurd h
none_next (used ∷ uses) audits [] h = absurd h
none_next (used ∷ uses) audits (old ∷ olds) (first, last, others, is, one, more) = absurd (no_push first last (sym is))

-- what the place has once seats ran
back_at : (used : Bool) (slot : Slot) (befores audits first : List (AuditShape Stack)) (old : Volume) → IsSlot used slot befores first old → AllZip IsLeft befores audits
    → (others : List (AuditShape Stack)) × AllZip IsLeft first others × IsBackAt used slot befores audits first others old
back_at used (Stays volume) befores audits first old one left = (audits, subst (λ (l : List (AuditShape Stack)). AllZip IsLeft l audits) one.1 left, (one.0, one.1, refl))
back_at used (Out parts) befores audits first old (is_used, before, last, out) left =
    let z = zip_last IsLeft first before audits (subst (λ (l : List (AuditShape Stack)). AllZip IsLeft l audits) last left) in
    (z.0, z.3, (is_used, before, z.1, last, z.2, record { out = out; left = z.4 }))

-- the entries that it adds to those of the others
put_at : (used : Bool) (slot : Slot) (befores audits first others : List (AuditShape Stack)) (old new : Volume) → IsBackAt used slot befores audits first others old → IsPutAt slot befores audits first others old new
    → (own : List Story) × ((uses : List Bool) (entries : List Story) (olds news : List Volume) → AreMade IsMade uses first others entries olds news → AreMade IsMade (used ∷ uses) befores audits (entries ++ own) (old ∷ olds) (new ∷ news))
put_at used (Stays volume) befores audits first others old new back same = (
  [],
  λ uses entries olds news made.
      inl (
        same,
        subst (λ (l : List (AuditShape Stack)). AreMade IsMade uses l audits (entries ++ []) olds news) (sym back.1)
            (subst (λ (l : List (AuditShape Stack)). AreMade IsMade uses first l (entries ++ []) olds news) (sym back.2)
            (subst (λ (l : List Story). AreMade IsMade uses first others l olds news) (sym (append-nil entries)) made)),
      ),
)
put_at used (Out parts) befores audits first others old new back (before, audit, entries, b, a, one) = (
  entries ∷ [],
  λ uses others_made olds news made.
      inr (back.0, first, others, others_made, record { before = before; after = audit; entry = entries; befores = b; afters = a; entries = refl; made = one }, made),
)

-- Some volumes are put back, and these places are left: whatever stands in them in the end, all were made.
pub record AreLeft (uses : List Bool) (olds : List Volume) (befores afters : List (AuditShape Stack)) (slots : List Slot) (audits : List (AuditShape Stack)) (kept : List Volume) : Type 0 where
  pub more : List Bool
  pub rest : List Volume
  pub first : List (AuditShape Stack)
  pub done : List Story
  pub slots_are : AreSlots more slots first rest
  pub left : AllZip IsLeft first audits
  pub made : (entries : List Story) (news : List Volume) → AreMade IsMade more first audits entries rest news → AreMade IsMade uses befores afters (entries ++ done) olds (kept ++ news)

pub first_left : (uses : List Bool) (olds : List Volume) (befores afters : List (AuditShape Stack)) (slots : List Slot) (kept : List Volume) → kept ≡ [] → AreSlots uses slots befores olds → AllZip IsLeft befores afters → AreLeft uses olds befores afters slots afters kept
first_left uses olds befores afters slots kept none are left = record {
  more = uses;
  rest = olds;
  first = befores;
  done = [];
  slots_are = are;
  left = left;
  made = λ entries news h.
      subst (λ (l : List Volume). AreMade IsMade uses befores afters (entries ++ []) olds (l ++ news)) (sym none)
      (subst (λ (l : List Story). AreMade IsMade uses befores afters l olds news) (sym (append-nil entries)) h);
}

-- what is put back next
pub slot_left : (uses : List Bool) (olds : List Volume) (befores afters : List (AuditShape Stack)) (slots : List Slot) (slot : Slot) (audits : List (AuditShape Stack)) (kept : List Volume) → AreLeft uses olds befores afters (slots ++ slot ∷ []) audits kept
    → (used : Bool) × (first : List (AuditShape Stack)) × (nexts : List (AuditShape Stack)) × (others : List (AuditShape Stack)) × (old : Volume) × IsBackAt used slot first audits nexts others old
slot_left uses olds befores afters slots slot audits kept left =
    let n = next left.more slots slot left.first left.rest left.slots_are in
    let b = back_at n.0 slot left.first audits n.1 n.2 n.7 left.left in
    (n.0, left.first, n.1, b.0, n.2, b.2)

pub one_left : (uses : List Bool) (olds : List Volume) (befores afters : List (AuditShape Stack)) (slots : List Slot) (slot : Slot) (audits after : List (AuditShape Stack)) (kept : List Volume) (new : Volume) → AreLeft uses olds befores afters (slots ++ slot ∷ []) audits kept
    → ((used : Bool) (first nexts others : List (AuditShape Stack)) (old : Volume) → IsBackAt used slot first audits nexts others old → IsPutAt slot first audits nexts others old new)
    → ((used : Bool) (first nexts others : List (AuditShape Stack)) (old : Volume) → IsBackAt used slot first audits nexts others old → after ≡ others)
    → AreLeft uses olds befores afters slots after (kept ++ new ∷ [])
one_left uses olds befores afters slots slot audits after kept new left puts gives =
    let n = next left.more slots slot left.first left.rest left.slots_are in
    let b = back_at n.0 slot left.first audits n.1 n.2 n.7 left.left in
    let put = put_at n.0 slot left.first audits n.1 b.0 n.2 new b.2 (puts n.0 left.first n.1 b.0 n.2 b.2) in
    let given : after ≡ b.0 = gives n.0 left.first n.1 b.0 n.2 b.2 in
    record {
      more = n.3;
      rest = n.4;
      first = n.1;
      done = put.0 ++ left.done;
      slots_are = n.8;
      left = subst (λ (l : List (AuditShape Stack)). AllZip IsLeft n.1 l) (sym given) b.1;
      made = λ entries news h.
          let one = put.1 n.3 entries n.4 news (subst (λ (l : List (AuditShape Stack)). AreMade IsMade n.3 n.1 l entries n.4 news) given h) in
          let all = left.made (entries ++ put.0) (new ∷ news)
          (subst (λ (us : List Bool). AreMade IsMade us left.first audits (entries ++ put.0) left.rest (new ∷ news)) (sym n.5)
          (subst (λ (os : List Volume). AreMade IsMade (n.0 ∷ n.3) left.first audits (entries ++ put.0) os (new ∷ news)) (sym n.6) one)) in
          subst (λ (l : List Volume). AreMade IsMade uses befores afters (entries ++ (put.0 ++ left.done)) olds l) (sym (append_assoc kept (new ∷ []) news))
          (subst (λ (l : List Story). AreMade IsMade uses befores afters l olds (kept ++ new ∷ news)) (append_assoc entries put.0 left.done) all);
    }

-- nothing can be taken from the end
pub none_popped : {X : Type 0} (xs : List X) (n m : ℕ) (r : Option X) → n ≡ length xs → MatchOption r ((n ≡ 0) × (m ≡ 0)) (λ x. m + 1 ≡ n) → ((x : X) → r ≡ Some x → ⊥) → xs ≡ []
none_popped xs n m None many cases none = nil_from_length xs (sym many ∙ cases.0)
none_popped xs n m (Some x) many cases none = absurd (none x refl)

pub none_left : (uses : List Bool) (olds : List Volume) (befores afters : List (AuditShape Stack)) (slots : List Slot) (audits : List (AuditShape Stack)) (kept : List Volume) → slots ≡ [] → AreLeft uses olds befores afters slots audits kept
    → (entries : List Story) × AreMade IsMade uses befores afters entries olds kept
none_left uses olds befores afters slots audits kept none left =
    let n = none_next left.more left.first left.rest (subst (λ (l : List Slot). AreSlots left.more l left.first left.rest) none left.slots_are) in
    let after : audits ≡ [] = zip_none IsLeft audits (subst (λ (l : List (AuditShape Stack)). AllZip IsLeft l audits) n.1 left.left) in
    let last : AreMade IsMade left.more left.first audits [] left.rest [] =
    subst (λ (us : List Bool). AreMade IsMade us left.first audits [] left.rest []) (sym n.0) (subst (λ (os : List Volume). AreMade IsMade [] left.first audits [] os []) (sym n.2) (n.1, after, refl)) in
    (left.done, subst (λ (l : List Volume). AreMade IsMade uses befores afters left.done olds l) (append-nil kept) (left.made [] [] last))

-- What a place has that is no volume: the last audit is of it.

module _ (slot : Slot) (parts : Parts) (used : Bool) (befores audits rest first others : List (AuditShape Stack)) (audit : AuditShape Stack) (old : Volume) (is : slot ≡ Out parts) (last : audits ≡ rest ++ audit ∷ []) (back : IsBackAt used slot befores audits first others old) where
  pub back_of : (before : AuditShape Stack) × (befores ≡ first ++ before ∷ []) × (rest ≡ others) × IsBack before parts audit old
  back_of =
      let one = subst (λ (s : Slot). IsBackAt used s befores audits first others old) is back in
      let same = same_from_push rest others audit one.2 (sym last ∙ one.4) in
      (one.1, one.3, same.0, subst (λ (a : AuditShape Stack). IsBack one.1 parts a old) (sym same.1) one.5)

  pub put_of : (new : Volume) → ((before : AuditShape Stack) (o : Volume) → IsBack before parts audit o → (story : Story) × IsMade before audit story o new) → IsPutAt slot befores audits first others old new
  put_of new made =
      let one = back_of in
      let r = made one.0 old one.3 in
      subst (λ (s : Slot). IsPutAt s befores audits first others old new) (sym is) (one.0, audit, r.0, one.1, last ∙ ap (λ (l : List (AuditShape Stack)). l ++ audit ∷ []) one.2, r.1)
