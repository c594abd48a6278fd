-- Reading a page by itself, without a table (document 01, "Numbers given back"): 2, 3 or 4, or its fields. It never gives 8.
-- Assumes nothing.
use Rattle.std.specs.Prelude.{ℕ, Bool, not, ◌||◌, List, [], ◌∷◌, length, ltb}
use Rattle.octets.specs.Lent.{Tests, lowest, kept}
use Rattle.keypage.specs.Layout.{page_max}
use Rattle.keypage.specs.Page.{format_in, key_part_of, page_ok, fields_ok, fields_of}
use Rattle.keypage.specs.KeyPart.{part_broken, part_refused, part_long}

abbrev pub broken : List ℕ → Bool
broken p = not (page_ok p) || part_broken (format_in p) (key_part_of p)

abbrev pub refused : List ℕ → Bool
refused p = not (fields_ok p) || part_refused (format_in p) (key_part_of p)

abbrev pub long : List ℕ → Bool
long p = ltb page_max (length p) || part_long (format_in p) (key_part_of p)

abbrev pub page_read_tests : List ℕ → Tests
page_read_tests p = (2, broken p) ∷ (3, refused p) ∷ (4, long p) ∷ []

unfoldable pub page_read_number : List ℕ → ℕ
page_read_number p = lowest (page_read_tests p)

-- the fields are lent, and changed by 0 alone
unfoldable pub page_read_answer : List ℕ → List ℕ → ℕ × List ℕ
page_read_answer p fields = (page_read_number p, kept (page_read_number p) (fields_of p) fields)
