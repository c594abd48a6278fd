-- The laws of specs/Laws.antt.
-- Assumes nothing.
use mathlib.Core.Path.{◌≡◌, refl, sym, ap, ap₂, ◌∙◌}
use Prim.Native.Nat.{ℕ, suc}
use native.Mathlib.Omega.{arith}
use mathlib.Core.List.{List, [], ◌∷◌}
use lib.Bits.{bit_xor}
use lib.Dec.{lit<}
use lib.ListN.{length}
use Rattle.octets.specs.Xor.{xors}
use Rattle.octets.specs.BigEndian.{be, number}
use Rattle.octets.specs.Blocks.{IsBlock, chain}
use Rattle.octets.proofs.Bytes.{bytes_cons, bytes-zeros}
use Rattle.octets.proofs.BigEndian.{length-be, bytes-be, number-be, be_xor}
use Rattle.octets.proofs.Xor.{xors_exchange}
use Rattle.octets.proofs.Blocks.{block-zeros, block-number, block_lt, block-xors, chain_append, length-chain, bytes-chain}
use Rattle.octets.proofs.Unique.{unique}
use Rattle.ghash.specs.Field.{bits, multiply, times_h}
use Rattle.ghash.specs.Product.{product}
use Rattle.ghash.specs.Product.Inside.{product_is}
use Rattle.ghash.specs.Ghash.{ghash_from}
use Rattle.ghash.specs.Ghash.Inside.{ghash_is}
use Rattle.ghash.specs.Table.{adds}
use Rattle.ghash.specs.Laws.{ProductLength, ProductBytes, GhashLength, GhashBytes, GhashNil, GhashStep, GhashAppend, PartsUnique}
use Rattle.ghash.specs.Laws.{ProductCommutes, ProductAssociates, ProductDistributesLeft, ProductDistributesRight, one, ProductOneLeft, ProductOneRight}
use Rattle.ghash.specs.Laws.{AreBlocks, none, more, combined, CombinedLength, CombinedBlocks, GhashCombined}
use Rattle.ghash.proofs.Multiply.{multiply-be}
use Rattle.ghash.proofs.Field.{adds_linear, adds_either_order, adds_one, adds_commutes, adds_lt}

-- ---- the product

pub length-times_h : (h : ℕ) (x : List ℕ) → length (times_h h x) ≡ 16
unfolding times_h
length-times_h h x = length-be 16 (multiply (bits x) 0 h)

pub product-length : ProductLength
product-length x y = ap length (product_is x y) ∙ length-times_h (number y) x

pub product_bytes : ProductBytes
unfolding times_h
product_bytes x y = rw (product_is x y) (bytes-be 16 (multiply (bits x) 0 (number y)))

-- ---- the product of blocks as numbers: what the bits of the first add, with the second for V

product-be : (n : ℕ) (y : List ℕ) → product (be 16 n) y ≡ be 16 (adds 128 (number y) n)
unfolding times_h
product-be n y = product_is (be 16 n) y ∙ ap (be 16) (multiply-be 16 n (number y))

product-adds : {x : List ℕ} (y : List ℕ) → IsBlock x → product x y ≡ be 16 (adds 128 (number y) (number x))
product-adds {x} y hx = ap (λ (b : List ℕ). product b y) (sym (block-number hx)) ∙ product-be (number x) y

product_block : (x y : List ℕ) → IsBlock (product x y)
product_block x y = record { size = product-length x y; bytes = product_bytes x y }

pub product_commutes : ProductCommutes
product_commutes x y hx hy =
    product-adds y hx ∙ ap (be 16) (adds_commutes (number y) (number x) (block_lt hy) (block_lt hx)) ∙ sym (product-adds x hy)

-- x • (y • z)
product_three : {x y : List ℕ} (z : List ℕ) → IsBlock x → IsBlock y → IsBlock z
    → product x (product y z) ≡ be 16 (adds 128 (adds 128 (number z) (number y)) (number x))
product_three {x} {y} z hx hy hz =
    product-adds (product y z) hx
    ∙ ap (λ (n : ℕ). be 16 (adds 128 n (number x)))
    (ap number (product-adds z hy) ∙ number-be 16 (adds 128 (number z) (number y)) (adds_lt 128 (number z) (number y) (block_lt hz)))

pub product_associates : ProductAssociates
product_associates x y z hx hy hz =
    product_commutes (product x y) z (product_block x y) hz
    ∙ product_three y hz hx hy
    ∙ ap (be 16)
    (adds_either_order 128 128 (number y) (number z) (number x)
    ∙ ap (λ (v : ℕ). adds 128 v (number x)) (adds_commutes (number y) (number z) (block_lt hy) (block_lt hz)))
    ∙ sym (product_three z hx hy hz)

pub product_distributes-left : ProductDistributesLeft
product_distributes-left x y z hx hy =
    ap (λ (b : List ℕ). product b z) (sym (be_xor 16 (number x) (number y) ∙ ap₂ xors (block-number hx) (block-number hy)))
    ∙ product-be (bit_xor (number x) (number y)) z
    ∙ ap (be 16) (adds_linear 128 (number z) (number x) (number y))
    ∙ be_xor 16 (adds 128 (number z) (number x)) (adds 128 (number z) (number y))
    ∙ sym (ap₂ xors (product-adds z hx) (product-adds z hy))

pub product_distributes_right : ProductDistributesRight
product_distributes_right x y z hx hy hz =
    product_commutes x (xors y z) hx (block-xors hy hz)
    ∙ product_distributes-left y z x hy hz
    ∙ ap₂ xors (product_commutes y x hy hx) (product_commutes z x hz hx)

pub product-one_right : ProductOneRight
product-one_right x hx = product-adds one hx ∙ ap (be 16) (adds_one (number x) (block_lt hx)) ∙ block-number hx

pub product-one-left : ProductOneLeft
product-one-left x hx = product_commutes one x one_block hx ∙ product-one_right x hx
  where
    one_block : IsBlock one
    one_block = record { size = refl; bytes = bytes_cons (lit< tt) (bytes-zeros 15) }

-- ---- GHASH

pub ghash-length : GhashLength
ghash-length h y bs size = rw (ghash_is h y bs) (length-chain (λ x. product x h) (λ x. product-length x h) y bs size)

pub ghash_bytes : GhashBytes
ghash_bytes h y bs bytes = rw (ghash_is h y bs) (bytes-chain (λ x. product x h) (λ x. product_bytes x h) bs bytes)

pub ghash_nil : GhashNil
ghash_nil h y = ghash_is h y _

pub ghash-step : GhashStep
ghash-step h y b bs = ghash_is h y _ ∙ sym (ghash_is h _ bs)

pub ghash_append : GhashAppend
ghash_append h y bs cs =
    ghash_is h y _
    ∙ chain_append (λ x. product x h) y bs cs
    ∙ ap (λ (s : List ℕ). chain (λ x. product x h) s cs) (sym (ghash_is h y bs))
    ∙ sym (ghash_is h (ghash_from h y bs) cs)

-- ---- sums of sequences

-- from any two states that are blocks
combined-from : (h : List ℕ) {y z : List ℕ} {bs cs : List (List ℕ)} → IsBlock y → IsBlock z → AreBlocks bs → AreBlocks cs → length bs ≡ length cs
    → ghash_from h (xors y z) (combined bs cs) ≡ xors (ghash_from h y bs) (ghash_from h z cs)
combined-from h {y} {z} hy hz none none e = ghash_nil h (xors y z) ∙ sym (ap₂ xors (ghash_nil h y) (ghash_nil h z))
combined-from h hy hz none (more hc hcs) e = absurd (omega arith)
combined-from h hy hz (more hb hbs) none e = absurd (omega arith)
combined-from h {y} {z} hy hz (more {b = b} {bs = bs} hb hbs) (more {b = c} {bs = cs} hc hcs) e =
    ghash-step h (xors y z) (xors b c) (combined bs cs)
    ∙ ap (λ (s : List ℕ). ghash_from h s (combined bs cs))
    (ap (λ (s : List ℕ). product s h) (xors_exchange y z b c) ∙ product_distributes-left (xors y b) (xors z c) h (block-xors hy hb) (block-xors hz hc))
    ∙ combined-from h {y = product (xors y b) h} {z = product (xors z c) h} (product_block (xors y b) h) (product_block (xors z c) h) hbs hcs (omega arith)
    ∙ sym (ap₂ xors (ghash-step h y b bs) (ghash-step h z c cs))

pub ghash-combined : GhashCombined
ghash-combined h bs cs hbs hcs e = combined-from h block-zeros block-zeros hbs hcs e

pub combined-length : CombinedLength
combined-length [] cs e = refl
combined-length (b ∷ bs) [] e = absurd (omega arith)
combined-length (b ∷ bs) (c ∷ cs) e = ap suc (combined-length bs cs (omega arith))

pub combined-blocks : CombinedBlocks
combined-blocks _ _ none hcs = none
combined-blocks _ _ (more hb hbs) none = none
combined-blocks _ _ (more hb hbs) (more hc hcs) = more (block-xors hb hc) (combined-blocks _ _ hbs hcs)

pub parts_unique : PartsUnique
parts_unique h a b text last = unique _
