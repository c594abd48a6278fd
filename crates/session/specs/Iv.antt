-- The IVs of a session (document 01, "IV session"; SP 800-38D, 8.2.1): a fixed field of four bytes, then an invocation field of eight that counts up.
-- Assumes nothing.
use Rattle.std.specs.Prelude.{ℕ, ◌+◌, Bool, not, List, ◌++◌, eqb}
use Rattle.octets.specs.BigEndian.{be}
use Rattle.octets.specs.Lent.{when}
use Rattle.session.specs.declared.Session.{Session}

-- "A session has a 4-byte prefix and an 8-byte start s (SP 800-38D's fixed and invocation fields)"
abbrev pub prefix_size : ℕ
prefix_size = 4

abbrev pub field_size : ℕ
field_size = 8

abbrev pub session_iv_size : ℕ
session_iv_size = 12

-- the last invocation field, 2^64 - 1
abbrev pub last_field : ℕ
last_field = 0xffffffffffffffff

-- the session of these fields: the prefix, the next number, and whether it is spent
abbrev pub with_fields : List ℕ → ℕ → ℕ → Session
with_fields prefix next spent = record { prefix = prefix; next = next; spent = spent }

abbrev pub started : List ℕ → ℕ → Session
started prefix start = with_fields prefix start 0

-- any value but 0 is spent, whatever the next number
abbrev pub is_spent : Session → Bool
is_spent s = not (eqb s.spent 0)

-- "gives the prefix then s+i": the IV that a session has next
abbrev pub iv_of : Session → List ℕ
iv_of s = s.prefix ++ be field_size s.next

-- "while s+i is below 2^64": the session after that IV has the next number, and is spent where there is none
abbrev pub next_session : Session → Session
next_session s = when (eqb s.next last_field) (with_fields s.prefix s.next 1) (with_fields s.prefix (s.next + 1) 0)
