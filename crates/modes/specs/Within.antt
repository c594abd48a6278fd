-- CCM's opening of a text that is short.
-- Assumes nothing.
use Rattle.std.specs.Prelude.{ℕ, List}
use Rattle.octets.specs.Xor.{xors}
use Rattle.octets.specs.Same.{same}
use Rattle.octets.specs.Blocks.{cut, chain}
use Rattle.modes.specs.Calls.{opened_answer}
use Rattle.modes.specs.Counter.{counter_block, ctr}

-- a text whose pads CCM keeps while it opens it
abbrev pub short_max : ℕ
short_max = 1024

-- what CCM's tag decides, and the output after it, from the counter blocks' front and the chain's state y before the plaintext (SP 800-38C, 6.2, steps 5 to 10)
abbrev pub opened_from : (List ℕ → List ℕ) → List ℕ → List ℕ → List ℕ → List ℕ → List ℕ → ℕ × List ℕ
opened_from f front y c t out = opened_answer (same t (xors (chain f y (cut (ctr f 3 front 1 c))) (f (counter_block 3 front 0)))) (ctr f 3 front 1 c) out
