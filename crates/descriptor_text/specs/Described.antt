-- The text by value that is given of a label or of a page: the number of the call that tests it, and after 0 the text.
-- Assumes nothing.
use Rattle.std.specs.Prelude.{ℕ, true, false, List, [], length, replicate, Result, Ok, Err}
use Rattle.octets.specs.Lent.{over, kept}
use Rattle.descriptors.specs.Labels.{list_of, label_number}
use Rattle.keypage.specs.Page.{list_in}
use Rattle.keypage.specs.Read.{page_read_number}
use Rattle.descriptor_text.specs.Lines.{list_text}
use Rattle.wording.specs.declared.text.Text.{Text}
use Rattle.refusals.specs.Numbers.{number_of}
use Rattle.refusals.specs.declared.Refusal.{Refusal}

-- room for the text of any list of 4,096 bytes: no line is more than two and a half times as long as its descriptor
abbrev pub described_room : ℕ
described_room = 12288

-- a number, the size of a text, and the text with zeros after it; after any number but 0 the text is empty
abbrev pub described_as : ℕ → List ℕ → ℕ × ℕ × List ℕ
described_as n text = (n, length (kept n text []), over (kept n text []) (replicate described_room 0))

-- a label's numbers are those of its check
unfoldable pub label_described : List ℕ → ℕ × ℕ × List ℕ
label_described s = described_as (label_number s) (list_text true (list_of s))

-- a page's are those of reading it; its list is a page's, as reading tests it
unfoldable pub page_described : List ℕ → ℕ × ℕ × List ℕ
page_described p = described_as (page_read_number p) (list_text false (list_in p))

-- a text, or the number that refuses it and no text
abbrev pub described_says : Result (Text described_room) Refusal → ℕ × ℕ × List ℕ
described_says (Ok t) = (0, t.size, t.bytes)
described_says (Err e) = (number_of e, 0, replicate described_room 0)
