-- A page that was written, read: each word and each field is what was put there, and its parts are those that it was written of.
-- Assumes nothing.
use mathlib.Core.Path.{◌≡◌, refl, sym, ap, ◌∙◌}
use mathlib.Core.Bool.{true}
use mathlib.Core.List.{List, ◌++◌}
use Prim.Native.Nat.{ℕ, ◌+◌, ◌-◌, ◌≤◌, ◌<◌}
use native.Mathlib.Omega.{arith}
use lib.Dec.{ltb}
use lib.ListN.{length, get_or, take, drop}
use lib.Seq.{take_at, drop_at, drop-drop}
use Rattle.octets.specs.BigEndian.{number_at}
use Rattle.octets.specs.Tests.{zeros, part_of}
use Rattle.octets.proofs.BigEndian.{number-be}
use Rattle.keypage.specs.Layout.{code_at, page_code, page_length_at, before_length, zeros_at, zeros_count, key_length_at, key_part_at, bits_in, chosen_bits}
use Rattle.keypage.specs.Layout.{scope_bits, zero_bits, lock_bits, ceem_bits, rdmc_bits, sdk_bits, ckod_bits, ckorp_bits, ckorl_bits, encryption_bits, decryption_bits, algorithm_bits, format_bits}
use Rattle.page_writer.specs.Written.{page_size, page_of}
use Rattle.page_writer.specs.Write.{fit_tests, fields_fit}
use Rattle.page_writer.proofs.Head.{fit_at, head_list, head-list}

-- the page with its head byte by byte
abbrev pub listed : List ℕ → List ℕ → List ℕ → List ℕ
listed v s l = head_list v (length s) (page_size (length s) (length l)) ++ (s ++ l)

pub page_listed : (v s l : List ℕ) → page_of v s l ≡ listed v s l
unfolding page_of
page_listed v s l = ap (λ (h : List ℕ). h ++ (s ++ l)) (head-list v (length s) (page_size (length s) (length l)))

module _ (v s l : List ℕ) where
  abbrev q : List ℕ
  q = listed v s l

  pub code_read : number_at 2 q code_at ≡ page_code
  code_read = refl

  pub zeros_read : zeros (part_of q zeros_at zeros_count) ≡ true
  unfolding Rattle.octets.specs.Tests.all
  zeros_read = refl

  -- the words, where they can be told
  module _ (short : page_size (length s) (length l) ≤ before_length + 0xFFFF) where
    pub length_read : number_at 2 q page_length_at ≡ page_size (length s) (length l) - before_length
    length_read = number-be 2 (page_size (length s) (length l) - before_length) (omega (arith, short))

    pub key-length_read : number_at 2 q key_length_at ≡ length s
    key-length_read = number-be 2 (length s) (omega (arith, short))

    pub part_read : part_of q key_part_at (number_at 2 q key_length_at) ≡ s
    part_read = ap (λ (n : ℕ). take n (s ++ l)) key-length_read ∙ take_at s l (length s) refl

    pub list_read : drop (key_part_at + number_at 2 q key_length_at) q ≡ l
    list_read = ap (λ (n : ℕ). drop (key_part_at + n) q) key-length_read ∙ sym (drop-drop (length s) key_part_at q) ∙ drop_at s l (length s) refl

  -- the fields, where they have room in their bits
  module _ (ok : fields_fit v ≡ true) where
    pub scope_read : bits_in q scope_bits ≡ get_or v 0 0
    scope_read = omega (arith, fit_at v 0 8 ok refl, fit_at v 1 2 ok refl)

    pub zero_read : bits_in q zero_bits ≡ 0
    zero_read = omega (arith, fit_at v 0 8 ok refl, fit_at v 1 2 ok refl)

    pub lock_read : bits_in q lock_bits ≡ get_or v 1 0
    lock_read = omega (arith, fit_at v 0 8 ok refl, fit_at v 1 2 ok refl)

    -- the six of byte 5, each by what is below it and above it
    module _ (i n : ℕ) where
      abbrev fit : get_or (fit_tests chosen_bits v 0) i true ≡ ltb (get_or v i 0) n → get_or v i 0 < n
      fit = fit_at v i n ok

    pub ceem_read : bits_in q ceem_bits ≡ get_or v 2 0
    ceem_read = omega (arith, fit 2 4 refl, fit 3 4 refl, fit 4 2 refl, fit 5 2 refl, fit 6 2 refl, fit 7 2 refl)

    pub rdmc_read : bits_in q rdmc_bits ≡ get_or v 3 0
    rdmc_read = omega (arith, fit 2 4 refl, fit 3 4 refl, fit 4 2 refl, fit 5 2 refl, fit 6 2 refl, fit 7 2 refl)

    pub sdk_read : bits_in q sdk_bits ≡ get_or v 4 0
    sdk_read = omega (arith, fit 2 4 refl, fit 3 4 refl, fit 4 2 refl, fit 5 2 refl, fit 6 2 refl, fit 7 2 refl)

    pub ckod_read : bits_in q ckod_bits ≡ get_or v 5 0
    ckod_read = omega (arith, fit 2 4 refl, fit 3 4 refl, fit 4 2 refl, fit 5 2 refl, fit 6 2 refl, fit 7 2 refl)

    pub ckorp_read : bits_in q ckorp_bits ≡ get_or v 6 0
    ckorp_read = omega (arith, fit 2 4 refl, fit 3 4 refl, fit 4 2 refl, fit 5 2 refl, fit 6 2 refl, fit 7 2 refl)

    pub ckorl_read : bits_in q ckorl_bits ≡ get_or v 7 0
    ckorl_read = omega (arith, fit 2 4 refl, fit 3 4 refl, fit 4 2 refl, fit 5 2 refl, fit 6 2 refl, fit 7 2 refl)

    pub encryption_read : bits_in q encryption_bits ≡ get_or v 8 0
    encryption_read = omega (arith, fit_at v 8 256 ok refl)

    pub decryption_read : bits_in q decryption_bits ≡ get_or v 9 0
    decryption_read = omega (arith, fit_at v 9 256 ok refl)

    pub algorithm_read : bits_in q algorithm_bits ≡ get_or v 10 0
    algorithm_read = omega (arith, fit_at v 10 256 ok refl)

    pub format_read : bits_in q format_bits ≡ get_or v 11 0
    format_read = omega (arith, fit_at v 11 256 ok refl)
