-- The calls of the code, as entries of the table.
-- Assumes nothing.
use Rattle.std.specs.Prelude.{ℕ, List, get_or, Option, Some, None, option_map}
use Rattle.std.specs.Borrow.{Bor}
use Rattle.std.specs.List.{find}
use Rattle.octets.specs.Same.{same}
use Rattle.cases.specs.declared.calls.Call.{Call as Named}
use Rattle.cases.specs.declared.calls.Call.TheVariants.{Encrypt, Decrypt, EncryptRounds, DecryptRounds, CcmEncrypt, GcmEncrypt, CcmDecrypt, GcmDecrypt, Wrap, Unwrap}
use Rattle.cases.specs.Calls.{Call, calls, call_count, no_call}

abbrev pub call_place : Named → ℕ
call_place Encrypt = 0
call_place Decrypt = 1
call_place EncryptRounds = 2
call_place DecryptRounds = 3
call_place CcmEncrypt = 4
call_place GcmEncrypt = 5
call_place CcmDecrypt = 6
call_place GcmDecrypt = 7
call_place Wrap = 8
call_place Unwrap = 9

-- `none` for a name that is none's
abbrev pub place_or : ℕ → Option Named → ℕ
place_or none None = none
place_or none (Some c) = call_place c

abbrev pub named_place : Option Named → ℕ
named_place = place_or call_count

abbrev pub entry : Named → Call
entry c = get_or calls (call_place c) no_call

-- the call that has the name in a table of the code
unfoldable pub named_of : List ℕ → List (Bor (List ℕ) × Named) → Option Named
named_of n es = option_map (λ e. e.1) (find (λ e. same e.0.now n) es)
