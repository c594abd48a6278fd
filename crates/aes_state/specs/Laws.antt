-- What the steps promise of a state, as statements; proofs/Laws.antt proves each.
-- Assumes nothing.
use Rattle.std.specs.Prelude.{◌≡◌, ℕ, ◌<◌, List, length}
use Rattle.octets.specs.Bytes.{Bytes}
use Rattle.aes_field.specs.Words.{column_of}
use Rattle.aes_state.specs.State.{State, column, state_of, state_from, bytes_of}
use Rattle.aes_state.specs.Steps.{shift_rows, mix_columns, add_round_key}
use Rattle.aes_state.specs.InvSteps.{inv_shift_rows, inv_mix_columns}

-- four columns of four bytes; the byte in row r of column c is `at c r`
pub record IsState (s : State) : Type 0 where
  pub at : ℕ → ℕ → ℕ
  pub is : s ≡ state_of (λ c. column_of (at c))
  pub bytes : (c r : ℕ) → at c r < 256

-- a round key's bytes are bytes
pub record IsKey (k : State) : Type 0 where
  pub columns : (c : ℕ) → Bytes (column k c)

-- a step that makes a state of a state, and one that undoes another
abbrev pub Keeps : (State → State) → Type 0
Keeps f = (s : State) → IsState s → IsState (f s)

abbrev pub UndoesOnStates : (State → State) → (State → State) → Type 0
UndoesOnStates g f = (s : State) → IsState s → g (f s) ≡ s

-- 3.4: a block of 16 bytes and its state
abbrev pub LoadMakes : Type 0
LoadMakes = (b : List ℕ) → Bytes b → IsState (state_from b)

abbrev pub StoreMakes : Type 0
StoreMakes = (s : State) → IsState s → Bytes (bytes_of s)

abbrev pub StoreUndoes : Type 0
StoreUndoes = (b : List ℕ) → length b ≡ 16 → bytes_of (state_from b) ≡ b

abbrev pub LoadUndoes : Type 0
LoadUndoes = (s : State) → IsState s → state_from (bytes_of s) ≡ s

-- 5.1.2 and 5.3.1
abbrev pub ShiftRowsKeeps : Type 0
ShiftRowsKeeps = Keeps shift_rows

abbrev pub InvShiftRowsKeeps : Type 0
InvShiftRowsKeeps = Keeps inv_shift_rows

abbrev pub InvShiftRowsUndoes : Type 0
InvShiftRowsUndoes = UndoesOnStates inv_shift_rows shift_rows

abbrev pub ShiftRowsUndoes : Type 0
ShiftRowsUndoes = UndoesOnStates shift_rows inv_shift_rows

-- 5.1.3 and 5.3.3
abbrev pub MixColumnsKeeps : Type 0
MixColumnsKeeps = Keeps mix_columns

abbrev pub InvMixColumnsKeeps : Type 0
InvMixColumnsKeeps = Keeps inv_mix_columns

abbrev pub InvMixColumnsUndoes : Type 0
InvMixColumnsUndoes = UndoesOnStates inv_mix_columns mix_columns

abbrev pub MixColumnsUndoes : Type 0
MixColumnsUndoes = UndoesOnStates mix_columns inv_mix_columns

-- 5.1.4, and 5.3.4: its own inverse
abbrev pub AddRoundKeyKeeps : Type 0
AddRoundKeyKeeps = (s k : State) → IsState s → IsKey k → IsState (add_round_key s k)

abbrev pub AddRoundKeyUndoes : Type 0
AddRoundKeyUndoes = (k : State) → UndoesOnStates (λ s. add_round_key s k) (λ s. add_round_key s k)
