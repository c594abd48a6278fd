-- What `columns_of` and `halves_block` are, for this crate's own proofs.
-- Assumes nothing.
use Rattle.std.specs.Prelude.{◌≡◌, ◌/◌, [], ◌∷◌}
use Rattle.std.proofs.Math.Path.{refl}
use Rattle.aes.specs.State.{bytes_of}
use Rattle.aes_fast.specs.ByTables.{column_from}
use Rattle.aes_fast.specs.Halves.{columns_of, halves_block}
use Rattle.aes_fast.specs.declared.halves.Halves.{Halves}

module _ (h : Halves) where
  pub columns_of_is : columns_of h ≡ column_from h.first ∷ column_from (h.first / 4294967296) ∷ column_from h.second ∷ column_from (h.second / 4294967296) ∷ []
  unfolding columns_of
  columns_of_is = refl

  pub halves_block_is : halves_block h ≡ bytes_of (columns_of h)
  unfolding halves_block
  halves_block_is = refl
