-- What the code's table and words make of a text is GHASH: the state along whole blocks, at the text's end, and over all the parts.
-- Assumes nothing.
use mathlib.Core.Path.{◌≡◌, refl, sym, ap, ap₂, ◌∙◌}
use mathlib.Core.List.{List, [], ◌∷◌, ◌++◌}
use Prim.Native.Nat.{ℕ, ◌+◌, ◌-◌, ◌%◌, ◌≤◌, ◌<◌}
use native.Mathlib.Omega.{arith}
use lib.ListN.{length, take, drop, length-take, take-append-drop}
use Rattle.octets.specs.Xor.{xors}
use Rattle.octets.specs.BigEndian.{number}
use Rattle.octets.specs.Blocks.{cut, chain}
use Rattle.octets.specs.Running.{add_from, absorb, close}
use Rattle.octets.proofs.Blocks.{chain_append, length-chain, chain_same}
use Rattle.octets.proofs.Running.{absorb_append, absorb-whole, close-chain, close-parts}
use Rattle.ghash.specs.declared.words.Wide.{Wide}
use Rattle.ghash.specs.Field.{times_h}
use Rattle.ghash.specs.Product.{product}
use Rattle.ghash.specs.Product.Inside.{product_is}
use Rattle.ghash.specs.Ghash.{ghash, zero_block}
use Rattle.ghash.specs.Ghash.Inside.{ghash_is}
use Rattle.ghash.specs.Words.{block_of}
use Rattle.ghash.proofs.Wide.{length-block_of}
use Rattle.ghash.proofs.Laws.{length-times_h}

-- a text that fills the block begun at place k and goes on: its first n bytes, and the rest from a block's beginning
pub absorb-over : (h : ℕ) (y part whole r : Wide) (text : List ℕ) (k n m : ℕ) → k < 16 → n ≡ 16 - k → m ≡ n → n ≤ length text
    → block_of part ≡ add_from k (block_of y) (take m text) → block_of whole ≡ times_h h (block_of part)
    → block_of r ≡ absorb (times_h h) 0 (block_of whole) (drop n text) → block_of r ≡ absorb (times_h h) k (block_of y) text
absorb-over h y part whole r text k n m lt en em fits ep ew er =
    er
    ∙ ap₂ (λ (j : ℕ) (s : List ℕ). absorb f j s (drop n text)) place
    (ew ∙ ap f (ep ∙ ap (λ (i : ℕ). add_from k (block_of y) (take i text)) em)
    ∙ sym (absorb-whole f k (block_of y) (take n text) (length-block_of y) (omega (arith, length-take n text)) (omega (arith, length-take n text))))
    ∙ sym (absorb_append f k (block_of y) (take n text) (drop n text) lt)
    ∙ ap (absorb f k (block_of y)) (take-append-drop n text)
  where
    f : List ℕ → List ℕ
    f = times_h h

    place : 0 ≡ (k + length (take n text)) % 16
    place = omega (arith, length-take n text)

-- the data in two parts, the text and the last block
pub hashed-parts : (h : List ℕ) (n : ℕ) → n ≡ number h → (a b text last s₁ s₂ s₃ s₄ s₅ s₆ r : List ℕ)
    → s₁ ≡ absorb (times_h n) 0 zero_block a → s₂ ≡ absorb (times_h n) (length a % 16) s₁ b
    → s₃ ≡ close (times_h n) ((length a % 16 + length b % 16) % 16) s₂
    → s₄ ≡ absorb (times_h n) 0 s₃ text → s₅ ≡ close (times_h n) (length text % 16) s₄
    → s₆ ≡ xors s₅ last → r ≡ times_h n s₆ → r ≡ ghash h (cut (a ++ b) ++ (cut text ++ (last ∷ [])))
hashed-parts h n key a b text last s₁ s₂ s₃ s₄ s₅ s₆ r e₁ e₂ e₃ e₄ e₅ e₆ er =
    er ∙ ap f (e₆ ∙ ap (λ (s : List ℕ). xors s last) texts)
    ∙ sym (chain_append f zero_block (cut (a ++ b)) (cut text ++ (last ∷ [])) ∙ chain_append f _ (cut text) (last ∷ []))
    ∙ chain_same f (λ x. product x h) (λ x. ap (λ (k : ℕ). times_h k x) key ∙ sym (product_is x h)) zero_block (cut (a ++ b) ++ (cut text ++ (last ∷ [])))
    ∙ sym (ghash_is h zero_block (cut (a ++ b) ++ (cut text ++ (last ∷ []))))
  where
    f : List ℕ → List ℕ
    f = times_h n

    places : (length a % 16 + length b % 16) % 16 ≡ (length a % 16 + length b) % 16
    places = omega arith

    datas : s₃ ≡ chain (times_h n) zero_block (cut (a ++ b))
    datas =
        e₃
        ∙ ap₂ (close f) places (e₂ ∙ ap (λ (s : List ℕ). absorb f (length a % 16) s b) e₁)
        ∙ close-parts f zero_block a b refl (length-times_h n)

    texts : s₅ ≡ chain (times_h n) (chain (times_h n) zero_block (cut (a ++ b))) (cut text)
    texts =
        e₅ ∙ ap (close f (length text % 16)) e₄
        ∙ close-chain f s₃ text (ap length datas ∙ length-chain f (length-times_h n) zero_block (cut (a ++ b)) refl) (length-times_h n)
        ∙ ap (λ (s : List ℕ). chain f s (cut text)) datas
