-- The fields that a page is written from, by their names and as one list.
-- Assumes nothing.
use Rattle.std.specs.Prelude.{ℕ, ◌<◌, List, [], ◌∷◌}
use Rattle.keypage.specs.Layout.{span, scope_bits, lock_bits, ceem_bits, rdmc_bits, sdk_bits, ckod_bits, ckorp_bits, ckorl_bits, encryption_bits, decryption_bits, algorithm_bits, format_bits}
use Rattle.page_writer.specs.declared.fields.Chosen.{Chosen}

-- in the order of the C interface: scope to key format
abbrev pub values_of : Chosen → List ℕ
values_of c =
    c.scope
    ∷ c.lock
    ∷ c.ceem
    ∷ c.rdmc
    ∷ c.sdk
    ∷ c.ckod
    ∷ c.ckorp
    ∷ c.ckorl
    ∷ c.encryption
    ∷ c.decryption
    ∷ c.algorithm
    ∷ c.format
    ∷ []

-- each is below the number of values that its bits have
abbrev pub EachFits : Chosen → Type 0
EachFits c =
    (c.scope < span scope_bits)
    × (c.lock < span lock_bits)
    × (c.ceem < span ceem_bits)
    × (c.rdmc < span rdmc_bits)
    × (c.sdk < span sdk_bits)
    × (c.ckod < span ckod_bits)
    × (c.ckorp < span ckorp_bits)
    × (c.ckorl < span ckorl_bits)
    × (c.encryption < span encryption_bits)
    × (c.decryption < span decryption_bits)
    × (c.algorithm < span algorithm_bits)
    × (c.format < span format_bits)
