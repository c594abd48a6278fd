-- A record laid out from its parts: its length; it keeps to the layout, and the parts read from it are those.
-- Assumes nothing.
use mathlib.Core.Path.{◌≡◌, sym, ap, ap₂, ◌∙◌}
use mathlib.Core.Bool.{true}
use mathlib.Core.List.{List, ◌++◌, append_assoc}
use Prim.Native.Nat.{ℕ, ◌+◌, ◌≤◌}
use native.Mathlib.Omega.{arith}
use lib.ListN.{length, length-append}
use lib.Seq.{take_at}
use Rattle.octets.specs.Tests.{part_of}
use Rattle.octets.proofs.Tests.{part_at, part_after}
use Rattle.keytable.specs.Row.{name_max}
use Rattle.modes.specs.Calls.{text_max}
use Rattle.modes.specs.Modes.{mode_of}
use Rattle.record.specs.Record.{iv_at_lem, text_at_lem, tag_at, end_at, layout_ok, front_in, iv_in, text_in, tag_in, record_front}
use Rattle.record.specs.Laws.{ReadBack}
use Rattle.record.proofs.Parts.{Kept, kept_layout}
use Rattle.record.proofs.Written.{length_front, read_back, front_kept}

abbrev pub laid : ℕ → List ℕ → ℕ → List ℕ → List ℕ → List ℕ → List ℕ
laid u name n iv c g = record_front u name n ++ (iv ++ (c ++ g))

-- what is read from it
pub record Laid (u : ℕ) (name : List ℕ) (n : ℕ) (iv c g r : List ℕ) : Type 0 where
  pub layout : layout_ok r ≡ true
  pub fields : ReadBack u n name r
  pub front_is : front_in r ≡ record_front u name n
  pub iv_is : iv_in r ≡ iv
  pub text_is : text_in r ≡ c
  pub tag_is : tag_in r ≡ g

module _ (u : ℕ) (name : List ℕ) (n : ℕ) (iv c g : List ℕ) (iv-long : length iv ≡ (mode_of u).iv_size) (text-long : length c ≡ n)
    (tag-long : length g ≡ (mode_of u).tag_size) where
  pub length_laid : length (laid u name n iv c g) ≡ end_at (mode_of u) (length name) n
  length_laid =
      omega (arith, length-append (record_front u name n) (iv ++ (c ++ g)), length_front u name n, length-append iv (c ++ g), length-append c g)

  module _ (named : 1 ≤ length name) (permitted : (mode_of u).permits n ≡ true) (short : length name ≤ name_max) (few : n ≤ text_max) where
    fields : ReadBack u n name (laid u name n iv c g)
    fields = read_back u n name (iv ++ (c ++ g)) short few

    kept : Kept (laid u name n iv c g)
    kept = front_kept u n name (iv ++ (c ++ g)) short few named permitted length_laid

    -- the places, once the fields are known
    places : (r : List ℕ) → laid u name n iv c g ≡ r → ReadBack u n name r
        → (front_in r ≡ record_front u name n) × (iv_in r ≡ iv) × (text_in r ≡ c) × (tag_in r ≡ g)
    unfolding front_in iv_in text_in tag_in
    places r is f = rw (f.mode, f.size, f.count, ← is) (first, second, third, fourth)
      where
        h : List ℕ
        h = record_front u name n

        ivs : length h ≡ iv_at_lem (length name)
        ivs = length_front u name n

        first : part_of (laid u name n iv c g) 0 (iv_at_lem (length name)) ≡ h
        first = take_at h (iv ++ (c ++ g)) (iv_at_lem (length name)) ivs

        second : part_of (laid u name n iv c g) (iv_at_lem (length name)) (mode_of u).iv_size ≡ iv
        second = part_at h iv (c ++ g) (iv_at_lem (length name)) (mode_of u).iv_size ivs iv-long

        third : part_of (laid u name n iv c g) (text_at_lem (mode_of u) (length name)) n ≡ c
        third =
            ap (λ (l : List ℕ). part_of l (text_at_lem (mode_of u) (length name)) n) (sym (append_assoc h iv (c ++ g)))
            ∙ part_at (h ++ iv) c g (text_at_lem (mode_of u) (length name)) n (length-append h iv ∙ ap₂ ◌+◌ ivs iv-long) text-long

        fourth : part_of (laid u name n iv c g) (tag_at (mode_of u) (length name) n) (mode_of u).tag_size ≡ g
        fourth =
            ap (λ (l : List ℕ). part_of l (tag_at (mode_of u) (length name) n) (mode_of u).tag_size) (sym (append_assoc h iv (c ++ g)))
            ∙ part_after (h ++ iv) c g (tag_at (mode_of u) (length name) n) (mode_of u).tag_size
            (ap₂ ◌+◌ (length-append h iv ∙ ap₂ ◌+◌ ivs iv-long) text-long) tag-long

    pub laid_out : (r : List ℕ) → laid u name n iv c g ≡ r → Laid u name n iv c g r
    laid_out r is =
        record {
          layout = rw is at (kept_layout (laid u name n iv c g) kept);
          fields = known;
          front_is = parts.0;
          iv_is = parts.1;
          text_is = parts.2;
          tag_is = parts.3;
        }
      where
        known : ReadBack u n name r
        known = rw is at fields

        parts : (front_in r ≡ record_front u name n) × (iv_in r ≡ iv) × (text_in r ≡ c) × (tag_in r ≡ g)
        parts = places r is known
