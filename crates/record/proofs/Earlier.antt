-- What an output held before never matters, only its length.
-- Assumes nothing.
use mathlib.Core.Path.{◌≡◌, sym, ap, ◌∙◌}
use mathlib.Core.List.{List}
use Prim.Native.Nat.{ℕ, ◌≤◌}
use native.Mathlib.Omega.{arith}
use lib.ListN.{length, take, drop}
use Rattle.octets.specs.Bytes.{Bytes}
use Rattle.octets.specs.Lent.{over, answer}
use Rattle.octets.proofs.Bytes.{bytes_append}
use Rattle.octets.proofs.BigEndian.{bytes-be}
use Rattle.keytable.specs.Table.{table_ok, data_row}
use Rattle.session.specs.Iv.{field_size, iv_of}
use Rattle.session.specs.Calls.{session_after}
use Rattle.record.specs.Record.{count_in, name_in}
use Rattle.record.specs.Seal.{record_by, sealed_size, seal_number, seal_row}
use Rattle.record.specs.Open.{plaintext_in, open_number, open_row}
use Rattle.record.specs.Next.{seal_next_number, seal_next_row}
use Rattle.record.specs.Laws.{Alike, SealEarlier, NextEarlier, OpenEarlier}
use Rattle.octets.proofs.Lent.{answer-done, take-over, drop-over}
use Rattle.record.proofs.Sealed.{in_range, length-record_of, row_keyed}
use Rattle.record.proofs.WithSession.{next-zero}
use Rattle.record.proofs.Opened.{open_row_lem, openable, open_keyed, length-plaintext_by}

-- where a result comes with 0, it has its size and fits the output
abbrev Fits : ℕ → ℕ → List ℕ → ℕ → Type 0
Fits n size result room = n ≡ 0 → (length result ≡ size) × (size ≤ room)

answers_alike : (n n' size : ℕ) (result out out' : List ℕ) → n ≡ n' → length out ≡ length out' → Fits n size result (length out)
    → Alike size out out' (answer n result out) (answer n' result out')
answers_alike n n' size result out out' same_number same_room fits =
    record {
      one_number = same_number;
      result = λ e.
          ap (take size) (state out n e) ∙ take-over result out size (fits e).0 (fits e).1
          ∙ sym (ap (take size) (state out' n' (also e)) ∙ take-over result out' size (fits e).0 (room e));
      rest = λ e. ap (drop size) (state out n e) ∙ drop-over result out size (fits e).0 (fits e).1;
      rest' = λ e. ap (drop size) (state out' n' (also e)) ∙ drop-over result out' size (fits e).0 (room e);
    }
  where
    state : (d : List ℕ) (m : ℕ) → m ≡ 0 → (answer m result d).1 ≡ over result d
    state d m e = ap (λ (x : ℕ × List ℕ). x.1) (answer-done m result d e)

    also : n ≡ 0 → n' ≡ 0
    also e = sym same_number ∙ e

    room : n ≡ 0 → size ≤ length out'
    room e = omega (arith, (fits e).1)

-- ---- sealing

module _ (t name iv a p : List ℕ) (room : ℕ) (table-bytes : Bytes t) (iv_bytes : Bytes iv) where
  record_fits : Fits (seal_number (table_ok t) (data_row t name) name iv a (length p) room) (sealed_size (data_row t name) name (length p)) (record_by (data_row t name) name iv a p) room
  record_fits e =
      let h = in_range (table_ok t) name iv a (length p) room (data_row t name) e in
      rw h.found_is (
        length-record_of h.found-row.row_use h.found-row.row_key name iv a p (row_keyed t name h.found-row iv table-bytes iv_bytes h.accepted h.found_is h.iv-size) h.permitted,
        h.room_fits,
      )

pub seal_earlier : SealEarlier
unfolding seal_row
seal_earlier t name iv a p out out' table-bytes iv_bytes same =
    answers_alike (number (length out)) (number (length out')) (sealed_size (data_row t name) name (length p)) (record_by (data_row t name) name iv a p) out out'
    (ap number same) same (record_fits t name iv a p (length out) table-bytes iv_bytes)
  where
    number : ℕ → ℕ
    number room = seal_number (table_ok t) (data_row t name) name iv a (length p) room

pub next_earlier : NextEarlier
unfolding seal_next_row
next_earlier s t name a p out out' table-bytes prefix-bytes same = (
  answers_alike (number (length out)) (number (length out')) (sealed_size (data_row t name) name (length p)) (record_by (data_row t name) name (iv_of s) a p) out out'
      (ap number same) same
      (λ e.
      record_fits t name (iv_of s) a p (length out) table-bytes (bytes_append prefix-bytes (bytes-be field_size s.next))
      (next-zero s (table_ok t) (data_row t name) name a p (length out) e).0),
  ap (λ (n : ℕ). session_after (number n) s) same,
)
  where
    number : ℕ → ℕ
    number room = seal_next_number s (table_ok t) (data_row t name) name a (length p) room

-- ---- opening

pub open_earlier : OpenEarlier
unfolding open_row
open_earlier t r a out out' count count' table-bytes bytes same =
    answers_alike (number (length out)) (number (length out')) (count_in r) (plaintext_in (data_row t (name_in r)) r) out out' (ap number same) same fits
  where
    number : ℕ → ℕ
    number room = open_number (table_ok t) (data_row t (name_in r)) r a room

    fits : Fits (number (length out)) (count_in r) (plaintext_in (data_row t (name_in r)) r) (length out)
    fits e =
        let (row, has) = open_row_lem (table_ok t) r a (length out) (data_row t (name_in r)) e in
        let h = openable (table_ok t) r a (length out) row (rw has at e) in
        rw has (length-plaintext_by row.row_key r (open_keyed t r a row (length out) table-bytes bytes has h) h.layout, h.fits)
