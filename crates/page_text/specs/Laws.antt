-- What the page lister's text promises, as statements; proofs/Laws.antt proves each.
-- Assumes nothing.
use Rattle.std.specs.Prelude.{◌≡◌, List, [], ◌∷◌, ◌++◌, ℕ, ◌≤◌, ◌<◌, length, take, drop, replicate}
use Rattle.octets.specs.Unique.{UniqueBy}
use Rattle.wording.specs.Ascii.{ascii}
use Rattle.keypage.specs.Layout.{page_max}
use Rattle.keypage.specs.Laws.{HoldsReserved}
use Rattle.page_text.specs.Listing.{listing, listing_max, listing_answer}
use Rattle.wording.specs.declared.text.Text.{Text}

-- "One over 4,096 bytes prints `refused 4` with no other test."
abbrev pub LongRefused : Type 0
LongRefused = (p : List ℕ) → page_max < length p → listing p ≡ ascii "refused 4\n"

-- "An empty input prints `refused 2`."
abbrev pub EmptyRefused : Type 0
EmptyRefused = listing [] ≡ ascii "refused 2\n"

-- "Page loading and the page lister take the new default" (document 02, No. 7)
abbrev pub ReservedListed : Type 0
ReservedListed = (p : List ℕ) → length p ≤ page_max → HoldsReserved p → listing p ≡ ascii "refused 2\n"

-- "This 66-byte page: `00 10 00 3E 40 00 02 02 02 04`, eight zeros, `00 2E 00 02 00 02 4B 31`, forty zeros"
abbrev pub example_page : List ℕ
example_page =
    0x00 ∷ 0x10 ∷ 0x00 ∷ 0x3E ∷ 0x40 ∷ 0x00 ∷ 0x02 ∷ 0x02 ∷ 0x02 ∷ 0x04 ∷ replicate 8 0
    ++ 0x00 ∷ 0x2E ∷ 0x00 ∷ 0x02 ∷ 0x00 ∷ 0x02 ∷ 0x4B ∷ 0x31 ∷ replicate 40 0

abbrev pub ExampleListed : Type 0
ExampleListed =
    listing example_page ≡ ascii "scope 2\nlock 0\nencrypt 2\ndecrypt 2\nalgorithm 2\nformat 4\nkey length 46\ndescriptors 0\n"

-- that page with one empty descriptor at its end, and PAGE LENGTH 0042h: "A key manager wrote type 30h for 03h" (document 02, No. 7)
abbrev pub page_with : ℕ → List ℕ
page_with type = take 3 example_page ++ 0x42 ∷ drop 4 example_page ++ type ∷ 0x00 ∷ 0x00 ∷ 0x00 ∷ []

abbrev pub WrongTypeListed : Type 0
WrongTypeListed =
    (listing (page_with 0x03) ≡ ascii "scope 2\nlock 0\nencrypt 2\ndecrypt 2\nalgorithm 2\nformat 4\nkey length 46\ndescriptors 1\n")
    × (listing (page_with 0x30) ≡ ascii "refused 2\n")

-- a text by value always has room for 256 bytes
abbrev pub TextRoom : Type 0
TextRoom = (p bytes : List ℕ) (size : ℕ) → listing_answer p ≡ (size, bytes) → length bytes ≡ listing_max

-- for each input one text
abbrev pub TextUnique : Type 0
TextUnique = (p : List ℕ) → UniqueBy (λ (t : Text listing_max). (t.size, t.bytes)) (listing_answer p)
