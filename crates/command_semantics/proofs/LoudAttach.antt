-- An attach leaves a store's layers as loud as they were.
use Rattle.std.proofs.Common.{◌≡◌, ℕ, zero, suc, ◌+◌, ◌*◌, Bool, true, false, ◌&&◌, List, [], ◌∷◌, refl, ap, ◌∙◌}
use Rattle.std.specs.Prelude.{not, nat_lt, length, is_some, Option, Some, None, Result, Ok, Err, if◌then◌else◌}
use Rattle.sector.specs.Bytes.{with_part, sector_at}
use Rattle.sector.specs.declared.refusal.Refusal.{Refusal}
use Rattle.device.specs.declared.operation.Operation.{Operation}
use Rattle.device.specs.declared.operation.Operation.TheVariants.{Reads, Writes, Flushes}
use Rattle.device.specs.Layers.{Layer, Flaky, Dusty, Broken, Counted, Tearing, Window, ReadAhead, layer_after, layer_fate, layers_after, passed_on, fate, is_answered, is_passed, is_loud, is_loud_layer}
use Rattle.sector.specs.declared.refusal.Refusal.TheVariants.{TooMany, BadChunk, StoreTooSmall, Damaged, Stale}
use Rattle.chunk.specs.Sizes.{is_chunk}
use Rattle.cow_format.specs.Places.{area_place}
use Rattle.cow_format.specs.Pairs.{pairs_of}
use Rattle.whole_commands.specs.Saves.{zeroed}
use Rattle.whole_commands.specs.Loads.{trimmed, is_loadable, is_too_small}
use Rattle.cow_header.specs.HeaderText.{header_bytes, found_in}
use Rattle.cow_header.specs.declared.found.Found.{Found}
use Rattle.cow_header.specs.declared.found.Found.TheVariants.{Fresh, Header}
use Rattle.plain_machine.specs.declared.request.Overflowing.{Overflowing}
use Rattle.plain_machine.specs.Plain.{overflow_of}
use Rattle.whole_commands.specs.Devices.{Device, sectors_of, answers, met, written_by}
use Rattle.whole_commands.specs.Snaps.{Volume as Settled}
use Rattle.command_semantics.specs.State.{Stacked, Volume}
use Rattle.command_semantics.specs.Snapshots.{store_of, kept_out, attached_to}
use Rattle.whole_commands.specs.Attaching.{Tried, read_on, write_on, flush_on, flush_both, done, read_areas, last_area, has_tail, write_header, write_fresh, make, write_tail, clear, load, load_as, open_store, Store, Attached, refused_attach, taken_by, attached}

loud_layer_after : (l : Layer) (op : Operation) (done : Bool) → is_loud_layer (layer_after l op done) ≡ is_loud_layer l
loud_layer_after (Flaky moment up down features offset) op done = refl
loud_layer_after (Dusty sectors size enabled bad) (Reads first count) done = refl
loud_layer_after (Dusty sectors size enabled bad) (Writes first count) done = refl
loud_layer_after (Dusty sectors size enabled bad) Flushes done = refl
loud_layer_after Broken op done = refl
loud_layer_after (Counted left) op done = refl
loud_layer_after (Tearing left) (Reads first count) done = refl
loud_layer_after (Tearing left) (Writes first count) done = refl
loud_layer_after (Tearing left) Flushes done = refl
loud_layer_after (Window aside) op done = refl
loud_layer_after (ReadAhead ranges kept) (Reads first count) done = refl
loud_layer_after (ReadAhead ranges kept) (Writes first count) done = refl
loud_layer_after (ReadAhead ranges kept) Flushes done = refl

either_loud : (b : Bool) (xs ys : List Layer) → is_loud xs ≡ is_loud ys → is_loud (if b then xs else ys) ≡ is_loud ys
either_loud true xs ys same = same
either_loud false xs ys same = refl

-- an operation
pub loud_after : (ls : List Layer) (op : Operation) → is_loud (layers_after ls op) ≡ is_loud ls
loud_after [] op = refl
loud_after (l ∷ ls) op =
    let below = either_loud (is_passed (layer_fate l op)) (layers_after ls (passed_on l op)) ls (loud_after ls (passed_on l op)) in
    ap (λ b. b && is_loud (if is_passed (layer_fate l op) then layers_after ls (passed_on l op) else ls)) (loud_layer_after l op (is_answered (fate ls (passed_on l op))))
    ∙ ap (λ b. is_loud_layer l && b) below

-- what was tried left a device as loud
record IsAsLoud (loud : Bool) (tried : Tried) : Type 0 where
  same : is_loud tried.device.layers ≡ loud

-- whatever is tried leaves one as loud
abbrev KeepsLoud : Bool → (Device → Tried) → Type 0
KeepsLoud loud next = (device : Device) → is_loud device.layers ≡ loud → IsAsLoud loud (next device)

either_tried : (b loud : Bool) (x y : Tried) → IsAsLoud loud x → IsAsLoud loud y → IsAsLoud loud (if b then x else y)
either_tried true loud x y hx hy = hx
either_tried false loud x y hx hy = hy

-- one that was refused, and one that is done
stays_loud : (loud : Bool) (origin device : Device) (outcome : Result ℕ Refusal) → is_loud device.layers ≡ loud → IsAsLoud loud (record { origin = origin; device = device; outcome = outcome })
stays_loud loud origin device outcome h = record { same = h }

read_loud : (loud : Bool) (origin : Device) (op : Operation) (next : Device → Tried) → KeepsLoud loud next → KeepsLoud loud (λ device. read_on origin device op next)
read_loud loud origin op next keeps device h =
    let after : is_loud (met device op).layers ≡ loud = loud_after device.layers op ∙ h in
    either_tried (answers device op) loud _ _ (keeps (met device op) after) (stays_loud loud origin (met device op) _ after)

write_loud : (loud : Bool) (origin device : Device) (op : Operation) (bytes : List ℕ) (next : Device → Tried) → KeepsLoud loud next → is_loud device.layers ≡ loud → IsAsLoud loud (write_on origin device op bytes next)
write_loud loud origin device op bytes next keeps h =
    let after : is_loud (written_by device op bytes).layers ≡ loud = loud_after device.layers op ∙ h in
    either_tried (answers device op) loud _ _ (keeps (written_by device op bytes) after) (stays_loud loud origin (written_by device op bytes) _ after)

-- a flush of the store, and of both
flush_loud : (loud : Bool) (origin : Device) (next : Device → Tried) → KeepsLoud loud next → KeepsLoud loud (flush_on origin next)
flush_loud loud origin next keeps = read_loud loud origin Flushes next keeps

both_loud : (loud : Bool) (origin : Device) (next : Device → Device → Tried) → ((o : Device) → KeepsLoud loud (next o)) → KeepsLoud loud (λ device. flush_both origin device next)
both_loud loud origin next keeps device h =
    either_tried (answers origin Flushes) loud _ _ (flush_loud loud (met origin Flushes) (next (met origin Flushes)) (keeps (met origin Flushes)) device h) (stays_loud loud (met origin Flushes) device _ h)

done_loud : (loud : Bool) (chunk : ℕ) (origin : Device) → KeepsLoud loud (done chunk origin)
done_loud loud chunk origin device h = stays_loud loud origin device (Ok chunk) h

areas_loud : (loud : Bool) (chunk a n : ℕ) (origin : Device) (next : Device → Tried) → KeepsLoud loud next → KeepsLoud loud (read_areas chunk a n origin next)
areas_loud loud chunk a zero origin next keeps device h = keeps device h
areas_loud loud chunk a (suc n) origin next keeps device h =
    either_tried _ loud _ _ (stays_loud loud origin device _ h) (read_loud loud origin _ (read_areas chunk (a + 1) n origin next) (areas_loud loud chunk (a + 1) n origin next keeps) device h)

header_loud : (loud : Bool) (chunk : ℕ) (origin : Device) → KeepsLoud loud (write_header chunk origin)
header_loud loud chunk origin device h =
    write_loud loud origin device (Writes 0 chunk) (with_part device.bytes 0 (header_bytes (512 * chunk) true chunk)) (flush_on origin (done chunk origin)) (flush_loud loud origin (done chunk origin) (done_loud loud chunk origin)) h

fresh_loud : (loud : Bool) (chunk : ℕ) (origin : Device) → KeepsLoud loud (write_fresh chunk origin)
fresh_loud loud chunk origin device h =
    write_loud loud origin device (Writes (chunk * area_place chunk 0) chunk) (zeroed chunk device.bytes 0) (flush_on origin (write_header chunk origin)) (flush_loud loud origin (write_header chunk origin) (header_loud loud chunk origin)) h

make_loud : (loud : Bool) (chunk : ℕ) (origin : Device) → KeepsLoud loud (make chunk origin)
make_loud loud chunk origin device h =
    either_tried (is_too_small chunk device.bytes) loud _ _ (stays_loud loud origin device (Err StoreTooSmall) h) (both_loud loud origin (write_fresh chunk) (fresh_loud loud chunk) device h)

tail_loud : (loud : Bool) (chunk : ℕ) (origin : Device) → KeepsLoud loud (write_tail chunk origin)
tail_loud loud chunk origin device h =
    either_tried (has_tail chunk device.bytes) loud _ _
    (write_loud loud origin device (Writes (chunk * area_place chunk (last_area chunk device.bytes)) chunk) (trimmed chunk device.bytes) (flush_on origin (done chunk origin)) (flush_loud loud origin (done chunk origin) (done_loud loud chunk origin)) h)
    (done_loud loud chunk origin device h)

clear_loud : (loud : Bool) (chunk : ℕ) (origin : Device) → KeepsLoud loud (clear chunk origin)
clear_loud loud chunk origin device h =
    either_tried (not (is_loadable chunk (sectors_of origin) (sectors_of device) (pairs_of chunk device.bytes))) loud _ _ (stays_loud loud origin device (Err Damaged) h)
    (both_loud loud origin (write_tail chunk) (tail_loud loud chunk) device h)

load_loud : (loud : Bool) (chunk : ℕ) (origin : Device) → KeepsLoud loud (load chunk origin)
load_loud loud chunk origin device h =
    either_tried _ loud _ _ (stays_loud loud origin device _ h) (areas_loud loud chunk 0 _ origin (clear chunk origin) (clear_loud loud chunk origin) device h)

load_as_loud : (loud : Bool) (chunk : ℕ) (is : Result Found Refusal) (origin : Device) → KeepsLoud loud (load_as chunk is origin)
load_as_loud loud chunk (Err refusal) origin device h = stays_loud loud origin device _ h
load_as_loud loud chunk (Ok Fresh) origin device h = make_loud loud chunk origin device h
load_as_loud loud chunk (Ok (Header own)) origin device h = load_loud loud own origin device h

open_loud : (loud : Bool) (chunk : ℕ) (origin : Device) → KeepsLoud loud (open_store chunk origin)
unfolding open_store
open_loud loud chunk origin device h =
    either_tried _ loud _ _ (stays_loud loud origin device _ h) (read_loud loud origin (Reads 0 1) _ (load_as_loud loud chunk (found_in (sector_at device.bytes 0)) origin) device h)

-- the store that is given back, if one is, is as loud
abbrev pub IsBackLoud : Bool → Option Store → Type 0
IsBackLoud loud None = Unit {0}
IsBackLoud loud (Some store) = is_loud store.device.layers ≡ loud

record IsGivenLoud (loud : Bool) (a : Attached) : Type 0 where
  back : IsBackLoud loud a.back

either_back : (b loud : Bool) (x y : Attached) → IsGivenLoud loud x → IsGivenLoud loud y → IsGivenLoud loud (if b then x else y)
either_back true loud x y hx hy = hx
either_back false loud x y hx hy = hy

refused_loud : (refusal : Refusal) (store : Store) (v : Settled) → IsGivenLoud (is_loud store.device.layers) (refused_attach refusal store v)
refused_loud refusal store v = record { back = refl }

taken_loud : (loud : Bool) (number : ℕ) (overflow : Overflowing) (device : Device) (outcome : Result ℕ Refusal) (v : Settled) → is_loud device.layers ≡ loud → IsGivenLoud loud (taken_by number overflow device outcome v)
taken_loud loud number overflow device (Err refusal) v h = record { back = h }
taken_loud loud number overflow device (Ok chunk) v h = record { back = tt }

given_loud : (number chunk : ℕ) (overflow : Overflowing) (store : Store) (v : Settled) → IsGivenLoud (is_loud store.device.layers) (attached number chunk overflow store v)
unfolding attached
given_loud number chunk overflow store v =
    let loud = is_loud store.device.layers in
    let tried = open_store chunk v.origin store.device in
    either_back store.stale loud _ _ (refused_loud Stale store v)
    (either_back (nat_lt (length v.snaps) 8 && nat_lt number 4_294_967_296) loud _ _
    (either_back (is_chunk chunk) loud _ _
    (taken_loud loud number overflow tried.device tried.outcome (record { origin = tried.origin; snaps = v.snaps }) (open_loud loud chunk v.origin store.device refl).same)
    (refused_loud BadChunk store v))
    (refused_loud TooMany store v))

-- an attach
pub loud_back : (number chunk : ℕ) (overflow : Overflowing) (store : Store) (v : Settled) → IsBackLoud (is_loud store.device.layers) (attached number chunk overflow store v).back
loud_back number chunk overflow store v = (given_loud number chunk overflow store v).back

-- an attach to a volume that may have a merge begun
pub loud_to : (chunk : ℕ) (overflow : Bool) (stacked : Stacked) (volume : Volume) → IsBackLoud (is_loud stacked.device.layers) (attached_to chunk overflow stacked volume).back
unfolding attached_to
loud_to chunk overflow stacked volume =
    (either_back (is_some volume.merging) (is_loud stacked.device.layers) _ _ (refused_loud (kept_out stacked) (store_of stacked) volume.state)
    (given_loud (volume.given + 1) chunk (overflow_of overflow) (store_of stacked) volume.state)).back
