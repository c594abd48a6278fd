-- Demand 3, in the user's words: "For an accepted key table, and room for the plaintext, opening a record gives plaintext P exactly when the table
-- has a row of the record's whole name and sealing P by that row, with the record's IV and the same associated data, makes exactly those bytes.
-- At most one P does. If there is none it refuses."
-- Assumes nothing.
use Rattle.std.specs.Prelude.{◌≡◌, ◌↔◌, List, ℕ, ◌≤◌, length}
use Rattle.std.proofs.Math.Option.{some}
use Rattle.octets.specs.Bytes.{Bytes}
use Rattle.octets.specs.Lent.{over}
use Rattle.keytable.specs.Row.{Row}
use Rattle.keytable.specs.Table.{data_row}
use Rattle.record.specs.Record.{name_in, iv_in}
use Rattle.record.specs.Seal.{sealed_size, seal_answer}
use Rattle.record.specs.Open.{open_answer}

-- opening gives p: the answer is 0, the count answered is p's length, and p is the bytes, as many as that, that the output then begins with
pub record Opens (t r a out : List ℕ) (count : ℕ) (p : List ℕ) : Type 0 where
  pub answers : open_answer t r a out count ≡ ((0, over p out), length p)

-- the table has a row of this name, which is one of type 0000h (document 02, No. 2), and sealing the byte string p by it makes exactly r: 0, and all of an
-- output of just that size is r
pub record Seals (t name iv a p r : List ℕ) : Type 0 where
  pub bytes : Bytes p
  pub row : Row
  pub has-row : data_row t name ≡ some row
  pub makes : (out : List ℕ) → length out ≡ sealed_size (some row) name (length p) → seal_answer t name iv a p out ≡ (0, r)

-- for any bytes as table and as record, and room for p; of a table that is not accepted neither side holds, and nothing of the header is believed
abbrev pub OpensExactly : Type 0
OpensExactly =
    (t r a out : List ℕ) (count : ℕ) (p : List ℕ) → Bytes t → Bytes r → length p ≤ length out
    → Opens t r a out count p ↔ Seals t (name_in r) (iv_in r) a p r

-- at most one p does, stated over sealing alone: for any table, name, IV and associated data
abbrev pub OnePlaintext : Type 0
OnePlaintext = (t name iv a p p' r : List ℕ) → Bytes t → Bytes r → Seals t name iv a p r → Seals t name iv a p' r → p ≡ p'

-- and opening gives at most one
abbrev pub OneOpening : Type 0
OneOpening = (t r a out : List ℕ) (count : ℕ) (p p' : List ℕ) → Opens t r a out count p → Opens t r a out count p' → p ≡ p'

-- it refuses: not 0, and neither the output nor the count has changed
pub record Refuses (t r a out : List ℕ) (count : ℕ) : Type 0 where
  pub refusal : ℕ
  pub not-zero : refusal ≡ 0 → ⊥
  pub answers : open_answer t r a out count ≡ ((refusal, out), count)

-- where there is none, whatever the output
abbrev pub ElseRefuses : Type 0
ElseRefuses =
    (t r a out : List ℕ) (count : ℕ) → Bytes t → Bytes r → ((p : List ℕ) → Seals t (name_in r) (iv_in r) a p r → ⊥) → Refuses t r a out count

-- so what was sealed opens: by the name and the IV that were given, with no look at the header
abbrev pub SealedOpens : Type 0
SealedOpens =
    (t name iv a p r out : List ℕ) (count : ℕ) → Bytes t → Bytes r → Seals t name iv a p r → length p ≤ length out → Opens t r a out count p
