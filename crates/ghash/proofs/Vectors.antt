-- The worked example of docs/TAG_BENCH.md, from the definitions: test case 14 of the GCM submission, whose H is AES-256's E(0), with one block C and
-- the lengths' block; a pattern in C's place; and both combined, by the law.
-- Assumes nothing.
use mathlib.Core.Path.{◌≡◌, refl, ap, ap₂, ◌∙◌}
use mathlib.Core.List.{List, [], ◌∷◌}
use Prim.Native.Nat.{ℕ}
use Rattle.octets.specs.BigEndian.{be}
use Rattle.octets.specs.Xor.{xors}
use Rattle.octets.proofs.Blocks.{block-be}
use Rattle.ghash.specs.Field.{times_x, times_h}
use Rattle.ghash.specs.Product.{product}
use Rattle.ghash.specs.Product.Inside.{product_is}
use Rattle.ghash.specs.Ghash.{ghash, ghash_from, zero_block}
use Rattle.ghash.specs.Laws.{AreBlocks, none, more}
use Rattle.ghash.proofs.Laws.{ghash_nil, ghash-step, ghash-combined}

abbrev key : List ℕ
key = be 16 0xdc95c078a2408989ad48a21492842087

abbrev text : ℕ
text = 0xcea7403d4d606b6e074ec5d3baf39d18

abbrev pattern : ℕ
pattern = 0x0123456789abcdeffedcba9876543210

abbrev lengths : List ℕ
lengths = be 16 128

abbrev sequence : ℕ → List (List ℕ)
sequence n = be 16 n ∷ lengths ∷ []

-- by the states after each block
two_blocks : (n : ℕ) (y r : List ℕ) → product (xors zero_block (be 16 n)) key ≡ y → product (xors y lengths) key ≡ r → ghash key (sequence n) ≡ r
two_blocks n y r first second =
    ghash-step key zero_block (be 16 n) (lengths ∷ [])
    ∙ ap (λ (s : List ℕ). ghash_from key s (lengths ∷ [])) first
    ∙ ghash-step key y lengths []
    ∙ ghash_nil key (product (xors y lengths) key)
    ∙ second

pub case_14 : ghash key (sequence text) ≡ be 16 0x83de425c5edc5d498f382c441041ca92
unfolding times_h times_x
case_14 = two_blocks text (be 16 0xfd6ab7586e556dba06d69cfe6223b262) _ (product_is _ key ∙ refl) (product_is _ key ∙ refl)

pub pattern_hash : ghash key (sequence pattern) ≡ be 16 0xa62d09ff3431cdd9384069120a199bb0
unfolding times_h times_x
pattern_hash = two_blocks pattern (be 16 0x69aa3aa63304285c339f53d7ff2fbdeb) _ (product_is _ key ∙ refl) (product_is _ key ∙ refl)

pub combined_hash : ghash key (be 16 0xcf84055ac4cba681f9927f4bcca7af08 ∷ be 16 0 ∷ []) ≡ be 16 0x25f34ba36aed9090b77845561a585122
combined_hash = ghash-combined key (sequence text) (sequence pattern) (blocks text) (blocks pattern) refl ∙ ap₂ xors case_14 pattern_hash
  where
    blocks : (n : ℕ) → AreBlocks (sequence n)
    blocks n = more (block-be n) (more (block-be 128) none)
