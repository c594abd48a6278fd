-- `aes::schedule::extend` meets its contract: each round key follows from the two before it.
-- Assumes nothing.
use mathlib.Core.List.{List, [], ◌∷◌}
use lib.Dec.{lit<}
use Rattle.aes.specs.State.{State}
use Rattle.aes.proofs.Extended.{extended_none, extended_next}
use Rattle.aes.proofs.schedule.extend.Goals as goal

pub returns : goal.returns
returns c =
    let a = c.args in
    let ks : List State =
    a.k0 ∷ a.k1 ∷ c.key_after-k2.result ∷ c.key_after-k3.result ∷ c.key_after-k4.result ∷ c.key_after-k5.result ∷
    c.key_after-k6.result ∷ c.key_after-k7.result ∷ c.key_after-k8.result ∷ c.key_after-k9.result ∷ c.key_after-k10.result ∷
    c.key_after-k11.result ∷ c.key_after-k12.result ∷ c.key_after-k13.result ∷ c.key_after-k14.result ∷ [] in
    extended_next ks 12 (lit< tt) c.key_after-k14.ensures
    (extended_next ks 11 (lit< tt) c.key_after-k13.ensures
    (extended_next ks 10 (lit< tt) c.key_after-k12.ensures
    (extended_next ks 9 (lit< tt) c.key_after-k11.ensures
    (extended_next ks 8 (lit< tt) c.key_after-k10.ensures
    (extended_next ks 7 (lit< tt) c.key_after-k9.ensures
    (extended_next ks 6 (lit< tt) c.key_after-k8.ensures
    (extended_next ks 5 (lit< tt) c.key_after-k7.ensures
    (extended_next ks 4 (lit< tt) c.key_after-k6.ensures
    (extended_next ks 3 (lit< tt) c.key_after-k5.ensures
    (extended_next ks 2 (lit< tt) c.key_after-k4.ensures
    (extended_next ks 1 (lit< tt) c.key_after-k3.ensures
    (extended_next ks 0 (lit< tt) c.key_after-k2.ensures
    (extended_none ks)))))))))))))
