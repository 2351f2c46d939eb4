-- What a read or a write of the device below means for the layer.
use Rattle.std.proofs.Common.{arith, refl, sym, ap, ◌∙◌, ◌≡◌, ℕ, ◌≤◌, ◌+◌, ◌-◌, ◌*◌, ◌<◌, List, ◌∷◌, length, drop, min, Bool, true, ◌&&◌, false, ◌⊎◌, inl, inr, get_or, length-take, length-drop}
use Rattle.std.specs.Prelude.{IsTrue, replicate, take}
use Rattle.sector.specs.Bytes.{sectors_at, with_sectors, sector_at}
use Rattle.std.proofs.lemmas.Bool.{cases_lt}
use Rattle.std.proofs.lemmas.List.{get_or_past, take_all, take-replicate, drop-replicate}
use Rattle.sector.proofs.Sectors.{byte_read, sectors_apart}
use Rattle.device.specs.declared.operation.Operation.TheVariants.{Writes}
use Rattle.device.specs.declared.operation.Fate.{Fate}
use Rattle.device.specs.declared.operation.Fate.TheVariants.{Pass, Fail, Drop}
use Rattle.device.specs.Layers.{is_loud, is_loud_layer, Window, fate, then_fate, layer_fate, layer_after, layers_after, is_answered}
use Rattle.layers.specs.declared.stack.Stack.{Stack, Flakey', Dust'}
use Rattle.layers.specs.declared.flakey.Flakey.{Flakey}
use Rattle.layers.specs.declared.dust.Dust.{Dust}
use Rattle.layers.specs.Layer.{flakey_layer, dust_layer}
use Rattle.layers.specs.Stack.{stack_layers, stack_size, stack_contents}
use Rattle.layers.specs.Windows.{beside}
use Rattle.layers.specs.Whole.{sectors_of_sectors, sectors_of_write}

-- a read
pub read_through : (b b' : List ℕ) (o n f c f' c' : ℕ) → b' ≡ b → f' ≡ f + o → c' ≡ c → f + c ≤ n → sectors_at b' f' c' ≡ sectors_at (sectors_at b o n) f c
read_through b b' o n f c f' c' eb ef ec inside =
    ap (λ x. sectors_at x f' c') eb ∙ ap (λ x. sectors_at b x c') ef ∙ ap (λ x. sectors_at b (f + o) x) ec ∙ sym (sectors_of_sectors b o n f c inside)

-- a write
pub write_through : (a b b' new : List ℕ) (o n f c f' size : ℕ) → a ≡ with_sectors b' f' new → b' ≡ b → f' ≡ f + o → length b ≡ 512 * size → n ≤ size - o → 0 < n → f + c ≤ n → length new ≡ 512 * c → sectors_at a o n ≡ with_sectors (sectors_at b o n) f new
write_through a b b' new o n f c f' size ea eb ef whole inside some fits len =
    ap (λ x. sectors_at x o n) ea ∙ ap (λ x. sectors_at (with_sectors x f' new) o n) eb ∙ ap (λ x. sectors_at (with_sectors b x new) o n) ef
    ∙ sectors_of_write b o n f c size new whole inside some fits len

-- one sector
pub sector_through : (b : List ℕ) (o n s : ℕ) (v : List ℕ) → s < n → v ≡ sector_at b (s + o) → v ≡ sector_at (sectors_at b o n) s
sector_through b o n s v lt e = e ∙ sym (sectors_of_sectors b o n s 1 (omega arith))

right_true : (x y : Bool) → IsTrue (x && y) → IsTrue y
right_true true y h = h
right_true false y h = cc

-- what is below a loud layer is loud
pub loud_below_flakey : (d : Stack) {f : Flakey} {p : _} {below b : Stack} → d ≡ Flakey' f p below → b ≡ below → IsTrue (is_loud (stack_layers d)) → IsTrue (is_loud (stack_layers b))
loud_below_flakey d {f} {p} {below} {b} is same loud = rw same (right_true (is_loud_layer (flakey_layer f)) _ (rw is at loud))

pub loud_below_dust : (d : Stack) {f : Dust} {p : _} {below b : Stack} → d ≡ Dust' f p below → b ≡ below → IsTrue (is_loud (stack_layers d)) → IsTrue (is_loud (stack_layers b))
loud_below_dust d {f} {p} {below} {b} is same loud = rw same (right_true true _ (rw is at loud))

passed_below : (x y : Fate) → then_fate x y ≡ Pass → y ≡ Pass
passed_below Pass y h = h
passed_below Fail y h = cc
passed_below Drop y h = cc

-- a write that passes a layer and those below passes those below
pub passes_below_flakey : (d : Stack) {f : Flakey} {p : _} {below b : Stack} (first count first' count' : ℕ) → d ≡ Flakey' f p below → b ≡ below → first' ≡ first + f.offset → count' ≡ count → fate (stack_layers d) (Writes first count) ≡ Pass → fate (stack_layers b) (Writes first' count') ≡ Pass
passes_below_flakey d {f} {p} {below} {b} first count first' count' is same ef ec h =
    rw (same, ef, ec) (passed_below (layer_fate (flakey_layer f) (Writes first count)) _ (rw is at h))

pub passes_below_dust : (d : Stack) {f : Dust} {p : _} {below b : Stack} (first count : ℕ) → d ≡ Dust' f p below → b ≡ below → fate (stack_layers d) (Writes first count) ≡ Pass → fate (stack_layers b) (Writes first count) ≡ Pass
passes_below_dust d {f} {p} {below} {b} first count is same h = rw same (rw is at h)

shifted_outside : (f c o i : ℕ) → (i < 512 * f) ⊎ (512 * (f + c) ≤ i) → (512 * o + i < 512 * (f + o)) ⊎ (512 * (f + o + c) ≤ 512 * o + i)
shifted_outside f c o i (inl lo) = inl (omega arith)
shifted_outside f c o i (inr hi) = inr (omega arith)

no_longer : (b : List ℕ) (o n : ℕ) → length (sectors_at b o n) ≤ 512 * n
no_longer b o n = simp length-take (omega arith)

-- the bytes that a write below leaves are left
pub rest_through : (a b b' : List ℕ) (o n f c f' c' i : ℕ) → b' ≡ b → f' ≡ f + o → c' ≡ c → ((j : ℕ) → (j < 512 * f') ⊎ (512 * (f' + c') ≤ j) → get_or a j 0 ≡ get_or b' j 0) → (i < 512 * f) ⊎ (512 * (f + c) ≤ i) → get_or (sectors_at a o n) i 0 ≡ get_or (sectors_at b o n) i 0
rest_through a b b' o n f c f' c' i eb ef ec below outside =
    elim (cases_lt i (512 * n)) [
      | inl lt ↦
          byte_read a o n i lt
          ∙ below (512 * o + i) (rw (ef, ec) (shifted_outside f c o i outside))
          ∙ ap (λ x. get_or x (512 * o + i) 0) eb
          ∙ sym (byte_read b o n i lt)
      | inr past ↦
          get_or_past _ i 0 (let h = no_longer a o n in omega (arith, h)) ∙ sym (get_or_past _ i 0 (let h = no_longer b o n in omega (arith, h)))
    ]

-- zeros
pub zeros_at : (n f c : ℕ) → f + c ≤ n → replicate (512 * c) 0 ≡ sectors_at (replicate (512 * n) 0) f c
zeros_at n f c inside = sym (ap (take (512 * c)) (drop-replicate (512 * f) (512 * n) 0) ∙ take-replicate (512 * c) _ 0 (omega arith))

-- bytes that are the same outside a range are the same before it
front_same : (a b : List ℕ) (o f c : ℕ) → length a ≡ length b → ((j : ℕ) → (j < 512 * f) ⊎ (512 * (f + c) ≤ j) → get_or a j 0 ≡ get_or b j 0) → o ≤ f → take (512 * o) a ≡ take (512 * o) b
front_same a b o f c len rest apart = sectors_apart a b f c 0 o len rest (inl (omega arith))

-- and after it
back_same : (a b : List ℕ) (p f c size : ℕ) → length a ≡ 512 * size → length b ≡ 512 * size → ((j : ℕ) → (j < 512 * f) ⊎ (512 * (f + c) ≤ j) → get_or a j 0 ≡ get_or b j 0) → f + c ≤ p → drop (512 * p) a ≡ drop (512 * p) b
back_same a b p f c size la lb rest apart =
    sym (take_all (512 * size) (drop (512 * p) a) (simp length-drop (omega (arith, la))))
    ∙ sectors_apart a b f c p size (la ∙ sym lb) rest (inr apart)
    ∙ take_all (512 * size) (drop (512 * p) b) (simp length-drop (omega (arith, lb)))

-- what lies beside a window is left by a write below that lies inside it
pub beside_through : (a b b' : List ℕ) (o n f c f' c' size : ℕ) → b' ≡ b → f' ≡ f + o → c' ≡ c → length a ≡ 512 * size → length b ≡ 512 * size → ((j : ℕ) → (j < 512 * f') ⊎ (512 * (f' + c') ≤ j) → get_or a j 0 ≡ get_or b' j 0) → f + c ≤ n → beside a o n ≡ beside b o n
beside_through a b b' o n f c f' c' size eb ef ec la lb rest inside =
    let below : (j : ℕ) → (j < 512 * f') ⊎ (512 * (f' + c') ≤ j) → get_or a j 0 ≡ get_or b j 0 = λ j outside. rest j outside ∙ ap (λ x. get_or x j 0) eb in
    let front = front_same a b o f' c' (la ∙ sym lb) below (omega arith) in
    let back = back_same a b (o + n) f' c' size la lb below (omega arith) in
    rw (front, back) refl

-- the layers after a write that a flakey layer passes
pub layers_through_flakey : (d : Stack) {f : Flakey} {p : _} {below : Stack} (a b : Stack) (first count first' count' : ℕ) → d ≡ Flakey' f p below → b ≡ below → first' ≡ first + f.offset → count' ≡ count → layer_fate (flakey_layer f) (Writes first count) ≡ Pass → stack_size a ≡ stack_size b → beside (stack_contents a) f.offset (min f.sectors (stack_size below - f.offset)) ≡ beside (stack_contents below) f.offset (min f.sectors (stack_size below - f.offset)) → stack_layers a ≡ layers_after (stack_layers b) (Writes first' count') → flakey_layer f ∷ Window (beside (stack_contents a) f.offset (min f.sectors (stack_size a - f.offset))) ∷ stack_layers a ≡ layers_after (stack_layers d) (Writes first count)
layers_through_flakey d a b first count first' count' is same ef ec passed size now layers = rw (is, passed, size, layers, same, ef, ec, now) refl

-- the layers after a write that a dust layer passes
pub layers_through_dust : (d : Stack) {f : Dust} {p : _} {below : Stack} (a b : Stack) (g : Dust) (first count : ℕ) → d ≡ Dust' f p below → b ≡ below → dust_layer g ≡ layer_after (dust_layer f) (Writes first count) true → g.sectors ≡ f.sectors → is_answered (fate (stack_layers b) (Writes first count)) ≡ true → stack_size a ≡ stack_size b → beside (stack_contents a) 0 (min f.sectors (stack_size below)) ≡ beside (stack_contents below) 0 (min f.sectors (stack_size below)) → stack_layers a ≡ layers_after (stack_layers b) (Writes first count) → dust_layer g ∷ Window (beside (stack_contents a) 0 (min g.sectors (stack_size a))) ∷ stack_layers a ≡ layers_after (stack_layers d) (Writes first count)
layers_through_dust d {f} {p} {below} a b g first count is same written sectors answered size now layers =
    let answers : is_answered (fate (stack_layers below) (Writes first count)) ≡ true = rw same at answered in
    rw (is, written, sectors, size, layers, same, now, answers) refl
