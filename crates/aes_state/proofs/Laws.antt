-- The laws of specs/Laws.antt. Each step is followed on the byte in row r of column c.
-- Assumes nothing.
use mathlib.Core.Path.{refl, sym, ap, ◌∙◌, subst⁻¹}
use Prim.Native.Nat.{◌+◌, ◌-◌, ◌*◌, ◌/◌, ◌%◌}
use lib.Bits.{bit_xor}
use lib.ListN.{get_or}
use Rattle.octets.specs.Bytes.{Bytes}
use Rattle.octets.proofs.Values.{values_list}
use Rattle.octets.proofs.Bytes.{bytes-values}
use Rattle.octets.proofs.Xor.{xor_cancel, xor_byte}
use Rattle.aes_field.specs.Field.{times}
use Rattle.aes_field.specs.Words.{Column, column_of, sum4, times_matrix, mix_row, inv_mix_row}
use Rattle.aes_field.proofs.Linear.{times_byte, sum4_byte}
use Rattle.aes_field.proofs.Laws.{inv_mix_mix, mix_inv_mix}
use Rattle.aes_state.specs.State.{State, column, state_of, state_from, bytes_of}
use Rattle.aes_state.specs.Steps.{shift_rows, mix_column, mix_columns, add_round_key}
use Rattle.aes_state.specs.InvSteps.{inv_shift_rows, inv_mix_column, inv_mix_columns}
use Rattle.aes_state.specs.Laws.{IsState, LoadMakes, StoreMakes, StoreUndoes, LoadUndoes}
use Rattle.aes_state.specs.Laws.{ShiftRowsKeeps, InvShiftRowsKeeps, InvShiftRowsUndoes, ShiftRowsUndoes}
use Rattle.aes_state.specs.Laws.{MixColumnsKeeps, InvMixColumnsKeeps, InvMixColumnsUndoes, MixColumnsUndoes}
use Rattle.aes_state.specs.Laws.{AddRoundKeyKeeps, AddRoundKeyUndoes}
use Rattle.aes_state.proofs.Grid.{columns-same, grid-same}

-- ---- 3.4

pub block_state : LoadMakes
block_state b w = record { at = λ c r. get_or b (r + 4 * c) 0; is = refl; bytes = λ c r. w.byte (r + 4 * c) }

pub state_bytes : StoreMakes
state_bytes s w = subst⁻¹ (λ (x : State). Bytes (bytes_of x)) w.is (bytes-values (λ i. w.at (i / 4) (i % 4)) 0 16 (λ i. w.bytes (i / 4) (i % 4)))

pub block-again : StoreUndoes
block-again b long = values_list b 0 16 long

pub state-again : LoadUndoes
state-again s w = ap (λ (x : State). state_from (bytes_of x)) w.is ∙ sym w.is

-- ---- 5.1.2 and 5.3.1

pub shift_state : ShiftRowsKeeps
shift_state s w = record { at = λ c r. w.at ((c + r) % 4) r; is = ap shift_rows w.is; bytes = λ c r. w.bytes ((c + r) % 4) r }

pub inv_shift_state : InvShiftRowsKeeps
inv_shift_state s w = record { at = λ c r. w.at ((c + 4 - r) % 4) r; is = ap inv_shift_rows w.is; bytes = λ c r. w.bytes ((c + 4 - r) % 4) r }

pub inv_shift_shift : InvShiftRowsUndoes
inv_shift_shift s w = ap (λ (x : State). inv_shift_rows (shift_rows x)) w.is ∙ sym w.is

pub shift_inv_shift : ShiftRowsUndoes
shift_inv_shift s w = ap (λ (x : State). shift_rows (inv_shift_rows x)) w.is ∙ sym w.is

-- ---- 5.1.3 and 5.3.3

matrix_state : (k : Column) (s : State) → IsState s → IsState (state_of (λ c. times_matrix k (column s c)))
matrix_state k s w =
    record {
      at = λ c r. sum4 (λ j. times (w.at c j) (get_or k ((j + 4 - r) % 4) 0));
      is = ap (λ (x : State). state_of (λ c. times_matrix k (column x c))) w.is;
      bytes = λ c r. sum4_byte (λ j. times (w.at c j) (get_or k ((j + 4 - r) % 4) 0)) (λ j. times_byte (get_or k ((j + 4 - r) % 4) 0) (w.bytes c j));
    }

pub mix_state : MixColumnsKeeps
mix_state = matrix_state mix_row

pub inv_mix_state : InvMixColumnsKeeps
inv_mix_state = matrix_state inv_mix_row

pub inv_mix_mixed : InvMixColumnsUndoes
inv_mix_mixed s w =
    ap (λ (x : State). inv_mix_columns (mix_columns x)) w.is
    ∙ columns-same (λ c. inv_mix_column (mix_column (column_of (w.at c)))) (λ c. column_of (w.at c)) (λ c. inv_mix_mix (w.at c) (w.bytes c)) ∙ sym w.is

pub mix_inv_mixed : MixColumnsUndoes
mix_inv_mixed s w =
    ap (λ (x : State). mix_columns (inv_mix_columns x)) w.is
    ∙ columns-same (λ c. mix_column (inv_mix_column (column_of (w.at c)))) (λ c. column_of (w.at c)) (λ c. mix_inv_mix (w.at c) (w.bytes c)) ∙ sym w.is

-- ---- 5.1.4 and 5.3.4

pub add_state : AddRoundKeyKeeps
add_state s k w hk =
    record {
      at = λ c r. bit_xor (w.at c r) (get_or (column k c) r 0);
      is = ap (λ (x : State). add_round_key x k) w.is;
      bytes = λ c r. xor_byte (w.bytes c r) ((hk.columns c).byte r);
    }

pub add_add : AddRoundKeyUndoes
add_add k s w =
    ap (λ (x : State). add_round_key (add_round_key x k) k) w.is
    ∙ grid-same (λ c r. bit_xor (bit_xor (w.at c r) (get_or (column k c) r 0)) (get_or (column k c) r 0)) w.at (λ c r. xor_cancel (w.at c r) (get_or (column k c) r 0))
    ∙ sym w.is
