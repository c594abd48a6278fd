-- What stands before the KEY part, byte by byte: fields that fit their bits, packed, and the words.
-- Assumes nothing.
use mathlib.Core.Path.{◌≡◌, refl, sym, ◌∙◌}
use mathlib.Core.Bool.{true}
use mathlib.Core.List.{List, ◌∷◌, ◌++◌}
use Prim.Native.Nat.{ℕ, ◌+◌, ◌-◌, ◌*◌, ◌<◌}
use native.Mathlib.Omega.{arith}
use borrow.Author.Tests.{ltb-true}
use lib.Dec.{ltb}
use lib.ListN.{get_or}
use Rattle.octets.specs.BigEndian.{be}
use Rattle.octets.proofs.Tests.{every_at}
use Rattle.octets.proofs.Values.{cons_equal}
use Rattle.keypage.specs.Layout.{page_code, before_length, weight, scope_bits, lock_bits, ceem_bits, rdmc_bits, sdk_bits, ckod_bits, ckorp_bits, ckorl_bits, chosen_bits}
use Rattle.page_writer.specs.declared.fields.Chosen.{Chosen}
use Rattle.page_writer.specs.Chosen.{values_of, EachFits}
use Rattle.page_writer.specs.Written.{head_of}
use Rattle.page_writer.specs.Write.{fit_tests, fields_fit}

-- field number i is below n, by its test
pub fit_at : (v : List ℕ) (i n : ℕ) → fields_fit v ≡ true → get_or (fit_tests chosen_bits v 0) i true ≡ ltb (get_or v i 0) n → get_or v i 0 < n
unfolding fields_fit
fit_at v i n ok is = ltb-true (get_or v i 0) n (sym is ∙ every_at (fit_tests chosen_bits v 0) i ok)

pub each_fits : (c : Chosen) → fields_fit (values_of c) ≡ true → EachFits c
each_fits c ok =
    let v = values_of c in (
      fit_at v 0 8 ok refl,
      fit_at v 1 2 ok refl,
      fit_at v 2 4 ok refl,
      fit_at v 3 4 ok refl,
      fit_at v 4 2 ok refl,
      fit_at v 5 2 ok refl,
      fit_at v 6 2 ok refl,
      fit_at v 7 2 ok refl,
      fit_at v 8 256 ok refl,
      fit_at v 9 256 ok refl,
      fit_at v 10 256 ok refl,
      fit_at v 11 256 ok refl,
    )

-- bytes 4 and 5
abbrev pub scope_byte : List ℕ → ℕ
scope_byte v = get_or v 0 0 * weight scope_bits + get_or v 1 0 * weight lock_bits

abbrev pub ceem_byte : List ℕ → ℕ
ceem_byte v =
    get_or v 2 0 * weight ceem_bits + get_or v 3 0 * weight rdmc_bits + get_or v 4 0 * weight sdk_bits + get_or v 5 0 * weight ckod_bits + get_or v 6 0 * weight ckorp_bits
    + get_or v 7 0 * weight ckorl_bits

-- the twenty bytes
abbrev pub head_list : List ℕ → ℕ → ℕ → List ℕ
head_list v part total =
    be 2 page_code
    ++ be 2 (total - before_length)
    ++ (scope_byte v
    ∷ ceem_byte v
    ∷ get_or v 8 0
    ∷ get_or v 9 0
    ∷ get_or v 10 0
    ∷ get_or v 11 0
    ∷ 0
    ∷ 0
    ∷ 0
    ∷ 0
    ∷ 0
    ∷ 0
    ∷ 0
    ∷ 0
    ∷ be 2 part)

pub head-list : (v : List ℕ) (part total : ℕ) → head_of v part total ≡ head_list v part total
unfolding head_of
head-list v part total =
    cons_equal refl
    (cons_equal refl
    (cons_equal refl
    (cons_equal refl
    (cons_equal (omega arith)
    (cons_equal (omega arith)
    (cons_equal (omega arith) (cons_equal (omega arith) (cons_equal (omega arith) (cons_equal (omega arith) refl)))))))))
