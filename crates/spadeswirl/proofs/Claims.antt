-- Document 01's twelve claims (specs/Claims.antt): one proof of one list.
-- Assumes nothing.
use mathlib.Core.Path.{◌≡◌, refl, ap, ◌∙◌}
use mathlib.Core.Bool.{Bool, true, not, ◌||◌}
use mathlib.Core.List.{List, ◌++◌}
use Prim.Native.Nat.{ℕ, ◌^◌, ◌<◌}
use native.Mathlib.Omega.{arith}
use borrow.Author.Tests.{le-ltb, ne_eqb}
use lib.Dec.{eqb, ltb}
use lib.ListN.{length}
use Rattle.octets.specs.Blocks.{cut}
use Rattle.modes.specs.Ccm.{flags, first_block, data_blocks}
use Rattle.modes.proofs.Laws.{lengths_25_3, modes_permit}
use Rattle.aes_field.specs.Field.{xtime, times, inverse, affine, sbox}
use Rattle.keytable.specs.Row.{name_max}
use Rattle.keytable.specs.Table.{table_ok, data_row}
use Rattle.keytable.proofs.Laws.{empty-table}
use Rattle.session.proofs.Laws.{last_two, last_two_held}
use Rattle.descriptors.proofs.Laws.{label_claim}
use Rattle.modes.specs.Modes.{names_mode}
use Rattle.record.specs.Record.{mode_in, count_in, name_size_lem, name_in, header}
use Rattle.record.specs.Read.{passes}
use Rattle.record.specs.Seal.{callers_max}
use Rattle.record.proofs.OpenNumbers.{number_four, row-refused}
use Rattle.record.proofs.Parts.{Kept, kept_layout}
use Rattle.record.proofs.Written.{header_mode, header_count, header_size, header-kept}
use Rattle.spadeswirl.specs.Claims.{SboxValues, Product, Doubled, CcmFlags, DataLength, LeastRecord, GreatestRecord, OneByteMore, claims, EachHolds}

sbox-values : SboxValues
unfolding sbox affine inverse times xtime
sbox-values = (refl, refl)

product : Product
unfolding times xtime
product = refl

doubled : Doubled
unfolding times xtime
doubled = refl

ccm-flags : CcmFlags
unfolding first_block
ccm-flags iv a n = (
  λ some-data. ap (λ (t : Bool). flags (not t)) (ne_eqb (length a) 0 (λ e. omega (arith, some-data, e))),
  λ no-data. ap (λ (k : ℕ). flags (not (eqb k 0))) no-data,
)

data-length : DataLength
unfolding data_blocks cut
data-length a e = rw e

least_record : LeastRecord
least_record = (refl, refl)

greatest_record : GreatestRecord
greatest_record = (refl, refl)

one_byte_more : OneByteMore
one_byte_more t rest a out count u k good mode_ok named short whole =
    row-refused (table_ok t) (data_row t (name_in r)) r a out count
    (number_four (table_ok t) (data_row t (name_in r)) r a (length out) good (kept_layout r kept) (ap names_mode mode_is ∙ mode_ok) too_long_lem) (λ z. omega arith)
  where
    r : List ℕ
    r = header u k 1048577 ++ rest

    few : 1048577 < 2 ^ 31
    few = omega arith

    mode_is : mode_in r ≡ u
    mode_is = header_mode u k 1048577 rest short few

    kept : Kept r
    kept = header-kept u k 1048577 rest short few named (modes_permit u 1048577) whole

    too_long_lem : (passes (name_size_lem r) (count_in r) || ltb callers_max (length a)) ≡ true
    too_long_lem = rw (header_size u k 1048577 rest short few, header_count u k 1048577 rest short few, le-ltb name_max k short)

pub claims_hold : EachHolds claims
claims_hold = (
  sbox-values,
  (
    product,
    (
      doubled,
      (
        ccm-flags,
        (
          data-length,
          (
            lengths_25_3,
            (
              least_record,
              (
                greatest_record,
                (
                  empty-table,
                  (
                    (last_two, last_two_held),
                    (
                      one_byte_more,
                      (
                        label_claim,
                        tt,
                      ),
                    ),
                  ),
                ),
              ),
            ),
          ),
        ),
      ),
    ),
  ),
)
