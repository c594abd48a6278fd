-- The laws of specs/Laws.antt.
-- Assumes nothing.
use Rattle.octets.proofs.Unique.{unique}
use Rattle.cbc_mac.specs.Laws.{AbsorbReady, CloseReady, AbsorbUnique, CloseUnique}
use Rattle.cbc_mac.proofs.Ready.{absorb-same, close-same}

pub absorb_ready : AbsorbReady
absorb_ready t ks k y s ready = absorb-same t ks ready k y s

pub close_ready : CloseReady
close_ready t ks k y ready = close-same t ks ready k y

pub absorb_unique : AbsorbUnique
absorb_unique t ks k y part = unique _

pub close_unique : CloseUnique
close_unique t ks k y = unique _
