-- Counter mode, which CCM and GCM share. A counter block is a front and a counter field of w bytes: w is 3 in CCM (SP 800-38C, appendix A.3) and 4 in GCM (SP 800-38D, section 7.1).
-- Assumes nothing.
use Rattle.std.specs.Prelude.{ℕ, ◌+◌, ◌-◌, ◌^◌, Bool, not, List, [], ◌∷◌, ◌++◌, eqb, leb, length, take, drop, replicate}
use Rattle.octets.specs.Values.{values}
use Rattle.octets.specs.BigEndian.{be}
use Rattle.octets.specs.Xor.{xors}
use Rattle.octets.specs.Lent.{Tests, when, lowest, answer}
use Rattle.octets.specs.Blocks.{blocks}

-- what the cipher f makes of counter blocks, end to end
abbrev pub stream : (List ℕ → List ℕ) → List (List ℕ) → List ℕ
stream f [] = []
stream f (b ∷ bs) = f b ++ stream f bs

abbrev pub counter_block : ℕ → List ℕ → ℕ → List ℕ
counter_block w front i = front ++ be w i

-- the string s added to the stream from counter i on
unfoldable pub ctr : (List ℕ → List ℕ) → ℕ → List ℕ → ℕ → List ℕ → List ℕ
ctr f w front i s = xors s (stream f (values (counter_block w front) i (blocks (length s))))

-- the block at place `at` of s, added to its pad, in that place of d
abbrev pub with_pad : List ℕ → ℕ → List ℕ → List ℕ → List ℕ
with_pad s at pad d = take at d ++ (xors (take 16 (drop at s)) pad ++ drop 16 (drop at d))

-- the plaintext's block at place `at` of s: its sum with its pad where s is opened, and where it is sealed its own
abbrev pub plain_block : Bool → List ℕ → ℕ → List ℕ → List ℕ
plain_block opening s at pad = when opening (xors (take 16 (drop at s)) pad) (take 16 (drop at s))

-- what a pass adds the pads to where it writes: the string that is sealed, and zeros where it is opened, which leaves the pads themselves
abbrev pub shown_text : Bool → List ℕ → List ℕ
shown_text opening s = when opening (replicate (length s) 0) s

-- whether a pass writes: where its output is not empty
abbrev pub writes_into : List ℕ → Bool
writes_into out = not (eqb (length out) 0)

-- document 01: 11 where the counter field would run over
abbrev pub counter_fits : ℕ → ℕ → ℕ → Bool
counter_fits w i n = leb (i + blocks n) (256 ^ w)

abbrev pub counter_tests : ℕ → ℕ → ℕ → Tests
counter_tests w i n = (11, not (counter_fits w i n)) ∷ []

unfoldable pub counter_number : ℕ → ℕ → ℕ → ℕ
counter_number w i n = lowest (counter_tests w i n)

unfoldable pub counter_answer : (List ℕ → List ℕ) → ℕ → List ℕ → ℕ → List ℕ → List ℕ → ℕ × List ℕ
counter_answer f w front i s out = answer (counter_number w i (length s)) (ctr f w front i s) out

-- the code's counter blocks: 16 bytes whose last w are the field, w being 4 where it is wide and else 3
abbrev pub width : Bool → ℕ
width wide = when wide 4 3

abbrev pub front_of : Bool → List ℕ → List ℕ
front_of wide base = take (16 - width wide) base
