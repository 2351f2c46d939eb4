-- Laws of what lies beneath layers: the disk at the bottom by the layers and what they show, and the stack below the top.
use Rattle.std.specs.Prelude.{◌≡◌, ℕ, ◌+◌, Bool, true, false, List, [], ◌∷◌, Option, Some, None, refl, if◌then◌else◌}
use Rattle.std.specs.Option.{is_some}
use Rattle.std.proofs.Common.{arith, rules, ap, sym, ◌∙◌, min}
use Rattle.std.proofs.lemmas.List.{places, same_lists}
use Rattle.sector.specs.Bytes.{sectors_at}
use Rattle.device.specs.declared.mem_disk.MemDisk.{MemDisk}
use Rattle.device.specs.declared.operation.Operation.{Operation}
use Rattle.device.specs.declared.operation.Operation.TheVariants.{Reads, Writes, Flushes}
use Rattle.device.specs.Disk.{disk_contents}
use Rattle.device.specs.Layers.{Layer, Flaky, Dusty, Broken, Counted, Tearing, Window, ReadAhead, layer_fate, layer_after, layers_after, passed_on, fate, is_answered, is_passed}
use Rattle.layers.specs.declared.stack.Stack.{Stack, Disk, Flakey', Dust', Error}
use Rattle.layers.specs.declared.flakey.Flakey.{Flakey}
use Rattle.layers.specs.declared.dust.Dust.{Dust}
use Rattle.layers.specs.Layer.{flakey_layer, dust_layer}
use Rattle.layers.specs.Stack.{stack_size, stack_contents, stack_layers, below_of}
use Rattle.layers.specs.Disk.{disk_of}
use Rattle.layers.specs.Windows.{beside, all_of, widened, raw_of, has_disk, layers_below, bytes_below}
use Rattle.layers.specs.Ticks.{ticked, layers_ticked}

-- some sectors and what lies beside them are everything
pub beside_all : (b : List ℕ) (first count : ℕ) → all_of (beside b first count) (sectors_at b first count) ≡ b
beside_all b first count = same_lists _ _ (search (rules, places)) (λ k d h. grind (arith, places))

-- the bytes of a disk, if there is one
abbrev contents_in : Option MemDisk → List ℕ
contents_in (Some disk) = disk_contents disk
contents_in None = []

-- the bytes of the disk at the bottom
pub stack_raw : (s : Stack) {disk : MemDisk} → disk_of s ≡ Some disk → raw_of (stack_layers s) (stack_contents s) ≡ disk_contents disk
stack_raw (Disk d) is = ap contents_in is
stack_raw (Flakey' f p below) is = ap (raw_of (stack_layers below)) (beside_all (stack_contents below) f.offset _) ∙ stack_raw below is
stack_raw (Dust' d p below) is = ap (raw_of (stack_layers below)) (beside_all (stack_contents below) 0 (min d.sectors (stack_size below))) ∙ stack_raw below is
stack_raw (Error e) is = cc

-- whether there is one
pub stack_has_disk : (s : Stack) → is_some (disk_of s) ≡ has_disk (stack_layers s)
stack_has_disk (Disk d) = refl
stack_has_disk (Flakey' f p below) = stack_has_disk below
stack_has_disk (Dust' d p below) = stack_has_disk below
stack_has_disk (Error e) = refl

-- a layer and its window stay where the layers below do
either_same : (b : Bool) {l w : Layer} {xs ys : List Layer} → xs ≡ ys → l ∷ (if b then w ∷ xs else w ∷ ys) ≡ l ∷ w ∷ ys
either_same true {l} {w} same = ap (λ zs. l ∷ w ∷ zs) same
either_same false same = refl

-- a stack whose top layer is taken away, by what it showed
pub record IsOver (below s : Stack) : Type 0 where
  pub layers : layers_below (stack_layers s) ≡ Some (stack_layers below)
  pub contents : bytes_below (stack_layers s) (stack_contents s) ≡ stack_contents below
  pub raw : raw_of (stack_layers s) (stack_contents s) ≡ raw_of (stack_layers below) (stack_contents below)
  pub disk : disk_of s ≡ disk_of below

-- under a flakey layer
over_flakey : (f : Flakey) (p : _) (below : Stack) → IsOver below (Flakey' f p below)
over_flakey f p below =
    let contents = beside_all (stack_contents below) f.offset _ in
    record {
      layers = refl;
      contents = contents;
      raw = ap (raw_of (stack_layers below)) contents;
      disk = refl;
    }

-- under a dust layer
over_dust : (d : Dust) (p : _) (below : Stack) → IsOver below (Dust' d p below)
over_dust d p below =
    let contents = beside_all (stack_contents below) 0 (min d.sectors (stack_size below)) in
    record {
      layers = refl;
      contents = contents;
      raw = ap (raw_of (stack_layers below)) contents;
      disk = refl;
    }

-- a stack and the one below its top layer
pub stack_over : (s : Stack) {rest : Stack} → below_of s ≡ Some rest → IsOver rest s
stack_over (Disk d) is = cc
stack_over (Flakey' f p below) {rest} is = let same : below ≡ rest = cc in rw (sym same) (over_flakey f p below)
stack_over (Dust' d p below) {rest} is = let same : below ≡ rest = cc in rw (sym same) (over_dust d p below)
stack_over (Error e) is = cc

-- where there is none
pub stack_over_none : (s : Stack) → below_of s ≡ None → layers_below (stack_layers s) ≡ None
stack_over_none (Disk d) is = refl
stack_over_none (Flakey' f p below) is = cc
stack_over_none (Dust' d p below) is = cc
stack_over_none (Error e) is = refl

-- reads leave the layers as they are
pub stack_reads : (s : Stack) (first count : ℕ) → layers_after (stack_layers s) (Reads first count) ≡ stack_layers s
stack_reads (Disk d) first count = refl
stack_reads (Flakey' f p below) first count = either_same (is_passed (layer_fate (flakey_layer f) (Reads first count))) (stack_reads below (first + f.offset) count)
stack_reads (Dust' d p below) first count = either_same (is_passed (layer_fate (dust_layer d) (Reads first count))) (stack_reads below first count)
stack_reads (Error e) first count = refl

-- a flush does too
pub stack_flushes : (s : Stack) → layers_after (stack_layers s) Flushes ≡ stack_layers s
stack_flushes (Disk d) = refl
stack_flushes (Flakey' f p below) = either_same (is_passed (layer_fate (flakey_layer f) Flushes)) (stack_flushes below)
stack_flushes (Dust' d p below) = either_same (is_passed (layer_fate (dust_layer d) Flushes)) (stack_flushes below)
stack_flushes (Error e) = refl

-- an operation leaves what lies beside one window
widened_after : (l : Layer) (op : Operation) (done : Bool) (bytes : List ℕ) → widened (layer_after l op done) bytes ≡ widened l bytes
widened_after (Flaky moment up down features offset) op done bytes = refl
widened_after (Dusty sectors size enabled bad) (Reads first count) done bytes = refl
widened_after (Dusty sectors size enabled bad) (Writes first count) done bytes = refl
widened_after (Dusty sectors size enabled bad) Flushes done bytes = refl
widened_after Broken op done bytes = refl
widened_after (Counted left) op done bytes = refl
widened_after (Tearing left) (Reads first count) done bytes = refl
widened_after (Tearing left) (Writes first count) done bytes = refl
widened_after (Tearing left) Flushes done bytes = refl
widened_after (Window aside) op done bytes = refl
widened_after (ReadAhead ranges kept) (Reads first count) done bytes = refl
widened_after (ReadAhead ranges kept) (Writes first count) done bytes = refl
widened_after (ReadAhead ranges kept) Flushes done bytes = refl

-- the bytes at the bottom, where the layers may or may not be others that give the same
either_raw : (b : Bool) (xs ys : List Layer) (bytes : List ℕ) → raw_of xs bytes ≡ raw_of ys bytes → raw_of (if b then xs else ys) bytes ≡ raw_of ys bytes
either_raw true xs ys bytes same = same
either_raw false xs ys bytes same = refl

-- an operation leaves what lies beside all windows
pub raw_after : (ls : List Layer) (op : Operation) (bytes : List ℕ) → raw_of (layers_after ls op) bytes ≡ raw_of ls bytes
raw_after [] op bytes = refl
raw_after (l ∷ ls) op bytes =
    either_raw (is_passed (layer_fate l op)) (layers_after ls (passed_on l op)) ls _ (raw_after ls (passed_on l op) _)
    ∙ ap (raw_of ls) (widened_after l op (is_answered (fate ls (passed_on l op))) bytes)

-- the time leaves what lies beside one window
widened_ticked : (n : ℕ) (l : Layer) (bytes : List ℕ) → widened (ticked n l) bytes ≡ widened l bytes
widened_ticked n (Flaky moment up down features offset) bytes = refl
widened_ticked n (Dusty sectors size enabled bad) bytes = refl
widened_ticked n Broken bytes = refl
widened_ticked n (Counted left) bytes = refl
widened_ticked n (Tearing left) bytes = refl
widened_ticked n (Window aside) bytes = refl
widened_ticked n (ReadAhead ranges kept) bytes = refl

-- the time leaves what lies beside all windows
pub raw_ticked : (n : ℕ) (ls : List Layer) (bytes : List ℕ) → raw_of (layers_ticked n ls) bytes ≡ raw_of ls bytes
raw_ticked n [] bytes = refl
raw_ticked n (l ∷ ls) bytes = raw_ticked n ls _ ∙ ap (raw_of ls) (widened_ticked n l bytes)
