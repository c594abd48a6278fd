-- Along blocks of bytes the cipher by ready tables and keys is FIPS 197's, and so is a chain by it.
-- Assumes nothing.
use mathlib.Core.Path.{◌≡◌, refl, ap, ◌∙◌}
use mathlib.Core.Bool.{Bool, true, false}
use mathlib.Core.List.{List, [], ◌∷◌}
use Prim.Native.Nat.{ℕ, ◌+◌, ◌%◌}
use lib.Dec.{eqb}
use lib.ListN.{length-set}
use Rattle.octets.specs.Blocks.{IsBlock}
use Rattle.octets.specs.Bytes.{Bytes}
use Rattle.octets.specs.Lent.{when}
use Rattle.octets.specs.Running.{add_at, after_byte, absorb, close}
use Rattle.octets.proofs.Bytes.{bytes_head, bytes_tail, bytes-set}
use Rattle.octets.proofs.Xor.{xor_byte}
use Rattle.aes.specs.State.{State}
use Rattle.aes.specs.Cipher.{cipher}
use Rattle.aes_fast.specs.ByTables.{Tables, cipher_by}
use Rattle.aes_fast.specs.Laws.{Ciphered}
use Rattle.aes_fast.specs.Right.{Ready}
use Rattle.aes_fast.proofs.Laws.{cipher_by-length, ready_bytes, ready-cipher}

module _ (t : Tables) (ks : List State) (ready : Ready t ks) where
  abbrev f : List ℕ → List ℕ
  f = cipher_by t ks

  same : (x : List ℕ) → IsBlock x → f x ≡ cipher ks x
  same x h = ready-cipher t ks x ready h.bytes h.size

  made : (x : List ℕ) → IsBlock (f x)
  made x = record { size = cipher_by-length t ks x; bytes = ready_bytes t ks x ready }

  -- where a test decides whether the cipher follows

  when-same : (test : Bool) (x : List ℕ) → IsBlock x → when test (f x) x ≡ when test (cipher ks x) x
  when-same true x h = same x h
  when-same false x h = refl

  when_block : (test : Bool) (x : List ℕ) → IsBlock x → IsBlock (when test (f x) x)
  when_block true x h = made x
  when_block false x h = h

  pub absorb-same : (k : ℕ) (y s : List ℕ) → IsBlock y → Bytes s → absorb f k y s ≡ absorb (cipher ks) k y s
  unfolding absorb
  absorb-same k y [] hy hs = refl
  absorb-same k y (b ∷ s) hy hs =
      absorb-same ((k + 1) % 16) (after_byte f k (add_at k y b)) s (when_block (eqb k 15) (add_at k y b) added) (bytes_tail hs)
      ∙ ap (λ (x : List ℕ). absorb (cipher ks) ((k + 1) % 16) x s) (when-same (eqb k 15) (add_at k y b) added)
    where
      added : IsBlock (add_at k y b)
      added = record { size = simp length-set hy.size; bytes = bytes-set k hy.bytes (xor_byte (hy.bytes.byte k) (bytes_head hs)) }

  pub close-same : (k : ℕ) (y : List ℕ) → IsBlock y → close f k y ≡ close (cipher ks) k y
  close-same k y hy = go (eqb k 0)
    where
      go : (test : Bool) → when test y (f y) ≡ when test y (cipher ks y)
      go true = refl
      go false = same y hy

-- ---- what a call says

module _ (t : Tables) (ks : List State) (y : List ℕ) (hy : IsBlock y) {r : List ℕ} where
  pub absorb_ciphered : (k : ℕ) (s : List ℕ) → Bytes s → r ≡ absorb (cipher_by t ks) k y s → Ciphered t ks (λ f. absorb f k y s) r
  absorb_ciphered k s hs e = record { by-tables = e; by-cipher = λ ready. e ∙ absorb-same t ks ready k y s hy hs }

  pub close_ciphered : (k : ℕ) → r ≡ close (cipher_by t ks) k y → Ciphered t ks (λ f. close f k y) r
  close_ciphered k e = record { by-tables = e; by-cipher = λ ready. e ∙ close-same t ks ready k y hy }
