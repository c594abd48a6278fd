-- What the S-box's table, the field's inverse, the S-box and the fixed matrices promise, on all bytes: as statements; proofs/Laws.antt proves each.
-- Assumes nothing.
use Rattle.std.specs.Prelude.{◌≡◌, ℕ, ◌<◌}
use Rattle.aes_field.specs.declared.sbox.TheConstants.{SBOX}
use Rattle.aes_field.specs.Tables.{sbox_table}
use Rattle.aes_field.specs.Field.{times, inverse, affine, unaffine, sbox, inv_sbox}
use Rattle.aes_field.specs.Words.{column_of, times_matrix, mix_row, inv_mix_row}

-- 5.1.1: the constant table has at each place the S-box of that byte
abbrev pub SboxTable : Type 0
SboxTable = SBOX ≡ sbox_table

-- 4.4: a byte other than {00} times its inverse is {01}
abbrev pub InverseIs : Type 0
InverseIs = (a : ℕ) → 0 < a → a < 256 → times a (inverse a) ≡ 1

-- 5.1.1: {00} is its own
abbrev pub InverseOfZero : Type 0
InverseOfZero = inverse 0 ≡ 0

-- g undoes f on bytes, and f makes a byte of a byte
abbrev pub UndoesOnBytes : (ℕ → ℕ) → (ℕ → ℕ) → Type 0
UndoesOnBytes g f = (a : ℕ) → a < 256 → g (f a) ≡ a

abbrev pub MakesBytes : (ℕ → ℕ) → Type 0
MakesBytes f = (a : ℕ) → a < 256 → f a < 256

-- 5.1.1 and 5.3.2: the affine map and its inverse
abbrev pub UnaffineUndoes : Type 0
UnaffineUndoes = UndoesOnBytes unaffine affine

abbrev pub AffineUndoes : Type 0
AffineUndoes = UndoesOnBytes affine unaffine

-- the S-box and its inverse
abbrev pub InvSboxUndoes : Type 0
InvSboxUndoes = UndoesOnBytes inv_sbox sbox

abbrev pub SboxUndoes : Type 0
SboxUndoes = UndoesOnBytes sbox inv_sbox

-- the inverse in the field, as it is had from the S-box
abbrev pub InverseBySbox : Type 0
InverseBySbox = (a : ℕ) → a < 256 → unaffine (sbox a) ≡ inverse a

abbrev pub SboxBytes : Type 0
SboxBytes = MakesBytes sbox

abbrev pub InvSboxBytes : Type 0
InvSboxBytes = MakesBytes inv_sbox

-- 5.1.3 and 5.3.3: the two matrices, on a word of bytes
abbrev pub InvMixUndoes : Type 0
InvMixUndoes = (f : ℕ → ℕ) → ((i : ℕ) → f i < 256) → times_matrix inv_mix_row (times_matrix mix_row (column_of f)) ≡ column_of f

abbrev pub MixUndoes : Type 0
MixUndoes = (f : ℕ → ℕ) → ((i : ℕ) → f i < 256) → times_matrix mix_row (times_matrix inv_mix_row (column_of f)) ≡ column_of f
