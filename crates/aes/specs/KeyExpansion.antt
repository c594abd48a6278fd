-- FIPS 197, section 5.2: the key schedule, word by word. Nk is 8, so there are 4 * (14 + 1) = 60 words, of which a key of 32 bytes has the first 8.
-- `schedule` is shut, as `cipher` is.
-- Assumes nothing.
use Rattle.std.specs.Prelude.{ℕ, zero, suc, ◌+◌, ◌-◌, ◌*◌, ◌/◌, ◌%◌, List, [], ◌∷◌, ◌++◌, eqb, get_or}
use Rattle.octets.specs.Lent.{when}
use Rattle.octets.specs.Values.{values}
use Rattle.aes_field.specs.Field.{xtime}
use Rattle.aes_field.specs.Words.{Column, column_of}
use Rattle.aes.specs.State.{State, column, state_of}
use Rattle.aes.specs.Cipher.{sub_column, add_column}
pub mod Inside

-- RotWord; SubWord is `sub_column`
abbrev pub rot_word : Column → Column
rot_word a = column_of (λ r. get_or a ((r + 1) % 4) 0)

-- x^n in the field
unfoldable pub power : ℕ → ℕ
power zero = 1
power (suc n) = xtime (power n)

-- Rcon[i] is x^(i - 1), then three zero bytes
abbrev pub rcon : ℕ → Column
rcon i = power (i - 1) ∷ 0 ∷ 0 ∷ 0 ∷ []

-- temp: what is made of word i - 1 before it is added to word i - 8
unfoldable pub temp : ℕ → Column → Column
temp i w = when (eqb (i % 8) 0) (add_column (sub_column (rot_word w)) (rcon (i / 8))) (when (eqb (i % 8) 4) (sub_column w) w)

-- the key's own words
abbrev pub key_word : List ℕ → ℕ → Column
key_word key i = column_of (λ r. get_or key (4 * i + r) 0)

-- words 0 to 7 + n
unfoldable pub words : List ℕ → ℕ → List Column
words key zero = values (key_word key) 0 8
words key (suc n) = let w : List Column = words key n in w ++ add_column (get_or w n []) (temp (8 + n) (get_or w (7 + n) [])) ∷ []

-- the words 4n to 4n + 3, which AddRoundKey adds in round n
abbrev pub round_key : List Column → ℕ → State
round_key w n = state_of (λ c. get_or w (4 * n + c) [])

pub schedule : List ℕ → List State
schedule key = values (round_key (words key 52)) 0 15

-- The same four words at a time, as the code makes them; that it is the schedule is `extended-schedule` of proofs/Words.antt.
-- k is the round key two before, and t the temp of the first word.
abbrev pub next_key : State → Column → State
next_key k t =
    let w0 : Column = add_column (column k 0) t in
    let w1 : Column = add_column (column k 1) w0 in
    let w2 : Column = add_column (column k 2) w1 in
    w0 ∷ w1 ∷ w2 ∷ add_column (column k 3) w2 ∷ []

-- the two round keys of ks, and n more
unfoldable pub extended : List State → ℕ → List State
extended ks zero = ks
extended ks (suc n) =
    let more : List State = extended ks n in
    more ++ next_key (get_or more n []) (temp (8 + 4 * n) (column (get_or more (n + 1) []) 3)) ∷ []
