-- The numbers of loading, each by the tests that led there, and 0 with the key.
-- Assumes nothing.
use mathlib.Core.Path.{◌≡◌, refl, sym, ap, ◌∙◌}
use mathlib.Core.Bool.{Bool, true, false}
use mathlib.Core.List.{List, ◌∷◌}
use mathlib.Core.Option.{Option, some, none}
use Prim.Native.Nat.{ℕ, ◌≤◌}
use borrow.Author.Tests.{ne_eqb, le-ltb}
use lib.Dec.{ltb}
use lib.ListN.{length}
use Rattle.std.specs.Prelude.{Result, Ok, Err, MatchOption}
use Rattle.std.specs.Result.{result_ok}
use Rattle.octets.specs.Lent.{lowest, kept, answer}
use Rattle.octets.proofs.Lent.{is_not_right}
use Rattle.octets.proofs.Lowest.{lowest-refused}
use Rattle.refusals.specs.Numbers.{number_of}
use Rattle.refusals.specs.declared.Refusal.{Refusal}
use Rattle.refusals.proofs.Laws.{not_zero}
use Rattle.keytable.specs.Row.{row_key_size, Row}
use Rattle.keytable.specs.Table.{table_ok, row_for, row_at}
use Rattle.keytable.specs.Find.{found_says, found_answer}
use Rattle.keytable.proofs.RowFound.{no_row, the_row, row-key}
use Rattle.keywrap.specs.Calls.{unwrap_number, unwrap_answer}
use Rattle.keypage.specs.Page.{algorithm_in, format_in, key_part_of, fields_of}
use Rattle.keypage.specs.KeyPart.{wrapped_format, wrapped_of}
use Rattle.keypage.specs.Read.{page_read_tests, page_read_number}
use Rattle.keypage.specs.Load.{part_tests, key_loaded, part_answer, load_tests, load_number, load_row, row_named, load_answer}
use Rattle.keypage.proofs.ReadNumbers.{read_passed}

-- ---- the KEY part by the row that matched, the algorithm index and the format

-- the unwrapping's own 2 and 5 cannot come
pub wrapped_rest : (row : Option Row) (found : Row) (algorithm : ℕ) (s out : List ℕ) → row ≡ some found → length found.row_key ≡ row_key_size → row_key_size ≤ length out
    → part_answer row algorithm wrapped_format s out ≡ unwrap_answer found.row_key (wrapped_of s) out
unfolding key_loaded unwrap_answer unwrap_number
wrapped_rest row found algorithm s out has size room = rw (has, is_not_right row_key_size found.row_key size, le-ltb (length out) row_key_size room)

-- the row that a lookup in an accepted table found
pub row_of : (t : List ℕ) (type : ℕ) (name : List ℕ) (f : Result ℕ Refusal) → table_ok t ≡ true → found_says f ≡ found_answer t type name
    → MatchOption (result_ok f) (row_for t type name ≡ none) (λ at. (row_for t type name ≡ some (row_at t at)) × (length (row_at t at).row_key ≡ row_key_size))
row_of t type name (Ok at) ok e = (the_row t type name (Ok at) ok e at refl, row-key t type name (Ok at) ok e at refl)
row_of t type name (Err r) ok e = no_row t type name (Err r) ok e (λ p w. cc)

-- ---- the load

-- for an accepted table, a page that reading accepts, and room, the KEY part's own tests are left
pub load-number : (ok : Bool) (row : Option Row) (p : List ℕ) (room : ℕ) → ok ≡ true → page_read_number p ≡ 0 → ltb room row_key_size ≡ false
    → load_number ok row p room ≡ lowest (part_tests row (algorithm_in p) (format_in p) (key_part_of p))
unfolding load_number
load-number ok row p room good readable fits = let passed = read_passed p readable in rw (good, passed.whole, passed.permitted, passed.short, fits)

module _ (ok : Bool) (row : Option Row) (p out fields : List ℕ) where
  module _ (good : ok ≡ true) where
    -- a page that reading refuses
    unread-number : (n : ℕ) → n ≡ page_read_number p → (n ≡ 0 → ⊥) → load_number ok row p (length out) ≡ n
    unfolding load_number page_read_number
    unread-number n is refused =
        ap (λ (b : Bool). lowest (load_tests b row p (length out))) good
        ∙ lowest-refused (page_read_tests p) ((5, ltb (length out) row_key_size) ∷ part_tests row (algorithm_in p) (format_in p) (key_part_of p)) refl (λ z. refused (is ∙ z))
        ∙ sym is

    pub load_unread : (n : ℕ) → n ≡ page_read_number p → (n ≡ 0 → ⊥) → load_row ok row p out fields ≡ ((n, out), fields)
    unfolding load_row
    load_unread n is refused = rw (unread-number n is refused, ne_eqb n 0 refused)

    module _ (readable : page_read_number p ≡ 0) where
      -- the KEY part decides
      module _ (fits : ltb (length out) row_key_size ≡ false) (x : ℕ) (after : List ℕ) (e : part_answer row (algorithm_in p) (format_in p) (key_part_of p) out ≡ (x, after)) where
        pub load-by_the_part : load_row ok row p out fields ≡ ((x, after), kept x (fields_of p) fields)
        unfolding load_row
        load-by_the_part =
            ap (λ (n : ℕ). (answer n (key_loaded row (format_in p) (key_part_of p)) out, kept n (fields_of p) fields)) (load-number ok row p (length out) good readable fits)
            ∙ ap (λ (z : ℕ × List ℕ). (z, kept z.0 (fields_of p) fields)) e

-- ---- a load that is refused: by the page, and by its KEY part

module _ (t p out fields : List ℕ) (e : Refusal) (good : table_ok t ≡ true) where
  some_refusal : number_of e ≡ 0 → ⊥
  some_refusal z = not_zero e (sym z)

  pub refused_unread : number_of e ≡ page_read_number p → load_answer t p out fields ≡ ((number_of e, out), fields)
  refused_unread is = load_unread (table_ok t) (row_named t (format_in p) (key_part_of p)) p out fields good (number_of e) is some_refusal

  pub refused_unloaded : (after : List ℕ) → page_read_number p ≡ 0 → row_key_size ≤ length out
      → part_answer (row_named t (format_in p) (key_part_of p)) (algorithm_in p) (format_in p) (key_part_of p) out ≡ (number_of e, after)
      → load_answer t p out fields ≡ ((number_of e, after), fields)
  refused_unloaded after readable room is =
      load-by_the_part (table_ok t) (row_named t (format_in p) (key_part_of p)) p out fields good readable (le-ltb (length out) row_key_size room) (number_of e) after is
      ∙ rw (ne_eqb (number_of e) 0 some_refusal)
