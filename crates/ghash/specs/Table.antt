-- The tables of H: what some bits at a time add. Fine tables are for one word of a block each, and a small one is for 32 bits. Assumes nothing.
use Rattle.std.specs.Prelude.{◌≡◌, Bool, true, false, List, [], ◌∷◌, ◌++◌, ℕ, zero, suc, ◌+◌, ◌*◌, ◌-◌, ◌/◌, ◌%◌, ◌^◌, ◌<◌, ltb, length, get_or}
use Rattle.std.specs.Int.Bits.{bit_xor}
use Rattle.octets.specs.Lent.{when}
use Rattle.ghash.specs.Field.{times_xs, multiply}

-- the lowest b bits of n, the highest first
unfoldable pub low_bits : ℕ → ℕ → List ℕ
low_bits zero n = []
low_bits (suc b) n = low_bits b (n / 2) ++ n % 2 ∷ []

-- what they add, with V at the first of them
unfoldable pub adds : (b v n : ℕ) → ℕ
adds b v n = multiply (low_bits b n) 0 v

-- a table is for four bits and then for windows: of six bits in a fine one, and else of four
abbrev pub window_width : Bool → ℕ
window_width true = 6
window_width false = 4

abbrev pub windows : Bool → ℕ
windows true = 10
windows false = 7

abbrev pub table_bits : Bool → ℕ
table_bits fine = 4 + window_width fine * windows fine

abbrev pub entries : Bool → ℕ
entries fine = 16 + windows fine * 2 ^ window_width fine

-- the entry n of the first four bits is at n, and that of window k, of b bits, at 16 + k * 2^b + n
unfoldable pub entry_at : (b h i : ℕ) → ℕ
entry_at b h i = when (ltb i 16) (adds 4 h i) (adds b (times_xs (4 + b * ((i - 16) / 2 ^ b)) h) ((i - 16) % 2 ^ b))

-- f has from base on the entries of a window of b bits
abbrev pub Window : (f : ℕ → ℕ) (base b v : ℕ) → Type 0
Window f base b v = (n : ℕ) → n < 2 ^ b → f (base + n) ≡ adds b v n

-- from base on, p added to an entry below t makes the one that is t further on
abbrev pub Sums : (f : ℕ → ℕ) (base t p : ℕ) → Type 0
Sums f base t p = (n : ℕ) → n < t → f (base + t + n) ≡ bit_xor (f (base + n)) p

-- an entry stands in two words
abbrev pub entry_in : List ℕ → ℕ → ℕ
entry_in t i = get_or t (2 * i) 0 * 2 ^ 64 + get_or t (2 * i + 1) 0

-- the entries below n are those of f
pub record Filled (f : ℕ → ℕ) (t : List ℕ) (n : ℕ) : Type 0 where
  pub at : (i : ℕ) → i < n → entry_in t i ≡ f i

-- the table with V at its first bit
abbrev pub TableOf : (fine : Bool) (v : ℕ) (t : List ℕ) → Type 0
TableOf fine v t = Filled (entry_at (window_width fine) v) t (entries fine)

abbrev pub Room : Bool → List ℕ → Type 0
Room fine t = length t ≡ 2 * entries fine
