-- How long replies are.
use Rattle.std.proofs.Common.{◌≡◌, ℕ, ◌+◌, List, ◌++◌, length, refl, arith, ap, ◌∙◌, length-append}
use Rattle.byteorder.specs.Endian.{big_bytes}
use Rattle.nbd_messages.specs.Replies.{listed_name, context_info, export_info, blocks_info}

pub length_listed_name : (name : List ℕ) → length (listed_name name) ≡ 4 + length name
unfolding listed_name
length_listed_name name = length-append (big_bytes 4 (length name)) name

pub length_context_info : (number : ℕ) (name : List ℕ) → length (context_info number name) ≡ 4 + length name
unfolding context_info
length_context_info number name = length-append (big_bytes 4 number) name

pub length_export_info : (size flags : ℕ) → length (export_info size flags) ≡ 12
unfolding export_info
length_export_info size flags = refl

pub length_blocks_info : (least best most : ℕ) → length (blocks_info least best most) ≡ 14
unfolding blocks_info
length_blocks_info least best most = refl
