-- The laws of specs/Laws.antt.
-- Assumes nothing.
use mathlib.Core.Path.{◌∙◌}
use Rattle.octets.proofs.Unique.{unique}
use Rattle.aes.specs.KeyExpansion.{schedule}
use Rattle.aes.proofs.Keys.{schedule_keys}
use Rattle.aes_fast.specs.Right.Inside.{is_right}
use Rattle.aes_fast.specs.Laws.{MadeReady, CipherByRight, CipheredUnique, CipherByLength, ReadyBytes, ReadyCipher, FromStart, HalvesLength, HalvesBytes, BlockAtWhole, HalvesUnique}
use Rattle.aes_fast.proofs.Cipher as cipher
use Rattle.aes_fast.proofs.Restored as restored
use Rattle.aes_fast.proofs.Starts as starts
use Rattle.aes_fast.proofs.Strings as strings

pub made_ready : MadeReady
made_ready t ks key et ek bytes = record { tables = is_right et; keys = λ n c. rw ek ((schedule_keys key bytes n).columns c) }

pub cipher_by_right : CipherByRight
cipher_by_right t key b right hk hb = cipher.cipher_by_right t (schedule key) (schedule_keys key hk) right b hb

pub ciphered_unique : CipheredUnique
ciphered_unique t ks make = unique _

pub cipher_by-length : CipherByLength
cipher_by-length = restored.length-cipher_by

pub ready_bytes : ReadyBytes
ready_bytes t ks b ready = restored.bytes-cipher_by t ks b (ready.keys 14)

pub ready-cipher : ReadyCipher
ready-cipher t ks b ready hb sixteen = cipher.ready-cipher t ks ready hb

pub from_start : FromStart
from_start t ks b low ready hb sixteen hl = starts.from_start t ks b low ready.keys sixteen ∙ cipher.ready-cipher t ks ready (starts.bytes-with_last hb hl)

pub halves-length : HalvesLength
halves-length = restored.length-halves_block

pub halves_bytes : HalvesBytes
halves_bytes = restored.bytes-halves_block

pub block_at-whole : BlockAtWhole
block_at-whole = strings.blockAt-whole

pub halves_unique : HalvesUnique
halves_unique = restored.halves_unique
