-- FIPS 197, section 3.4: the state, as `aes_state` has it.
-- Assumes nothing.
pub use Rattle.aes_state.specs.State.{State, column, state_of, state_from, column_bytes, bytes_of}
