-- The three words of a descriptor's line, found at their places and read.
-- Assumes nothing.
use mathlib.Core.Path.{◌≡◌, refl, sym, ap, ◌∙◌}
use mathlib.Core.Bool.{true}
use mathlib.Core.List.{List, [], ◌∷◌, ◌++◌, append_assoc}
use Prim.Native.Nat.{ℕ, ◌-◌, ◌*◌, ◌≤◌, ◌<◌}
use native.Mathlib.Omega.{arith}
use lib.ListN.{length, drop, length-append, length-drop}
use borrow.Author.Tests.{ne_eqb}
use Rattle.octets.specs.Tests.{part_of}
use Rattle.octets.proofs.Bytes.{bytes_take, bytes_drop}
use Rattle.octets.proofs.Tests.{length_part, part_at}
use Rattle.wording.specs.Hex.{digits_of, hex_read, digits_shown}
use Rattle.wording.specs.Lines.{space, newline}
use Rattle.wording.proofs.Laws.{digits-length, there_and_back}
use Rattle.descriptors.specs.Descriptor.{descriptor_head_size}
use Rattle.descriptors.proofs.Sizes.{said_least, descriptor-parts}
use Rattle.descriptor_text.specs.Lines.{descriptor_line}
use Rattle.descriptor_text.specs.Laws.{ReadsBack}

bytes-some : (s : List ℕ) → 0 < length s → digits_shown true s ≡ digits_of true s
unfolding digits_shown
bytes-some s h = rw (ne_eqb (length s) 0 (λ e. absurd (omega (arith, e, h))))

module _ (d : List ℕ) (least : descriptor_head_size ≤ length d) where
  abbrev type_digits : List ℕ
  type_digits = digits_of true (part_of d 0 1)

  abbrev length_digits : List ℕ
  length_digits = digits_of true (part_of d 2 2)

  abbrev shown : List ℕ
  shown = digits_shown true (drop descriptor_head_size d)

  type_two : length type_digits ≡ 2
  type_two = omega (arith, digits-length true (part_of d 0 1), length_part d 0 1 (omega arith))

  length_four : length length_digits ≡ 4
  length_four = omega (arith, digits-length true (part_of d 2 2), length_part d 2 2 (omega arith))

  type_word : part_of (descriptor_line d) 0 2 ≡ type_digits
  unfolding descriptor_line
  type_word = part_at [] type_digits (space ∷ (length_digits ++ space ∷ (shown ++ newline ∷ []))) 0 2 refl type_two

  length_word : part_of (descriptor_line d) 3 4 ≡ length_digits
  unfolding descriptor_line
  length_word =
      ap (λ (l : List ℕ). part_of l 3 4) (sym (append_assoc type_digits (space ∷ []) (length_digits ++ space ∷ (shown ++ newline ∷ []))))
      ∙ part_at (type_digits ++ space ∷ []) length_digits (space ∷ (shown ++ newline ∷ [])) 3 4 (simp length-append (omega (arith, type_two))) length_four

  abbrev before : List ℕ
  before = type_digits ++ space ∷ (length_digits ++ space ∷ [])

  line_parted : before ++ (shown ++ newline ∷ []) ≡ descriptor_line d
  unfolding descriptor_line
  line_parted = simp append_assoc

  bytes_word : descriptor_head_size < length d → part_of (descriptor_line d) 8 (2 * (length d - descriptor_head_size)) ≡ digits_of true (drop descriptor_head_size d)
  bytes_word h =
      let some = bytes-some (drop descriptor_head_size d) (omega (arith, h, length-drop descriptor_head_size d)) in
      ap (λ (l : List ℕ). part_of l 8 (2 * (length d - descriptor_head_size))) (sym line_parted)
      ∙ part_at before shown (newline ∷ []) 8 (2 * (length d - descriptor_head_size)) (simp length-append (omega (arith, type_two, length_four)))
      (omega (arith, ap length some, digits-length true (drop descriptor_head_size d), length-drop descriptor_head_size d))
      ∙ some

pub reads_back : ReadsBack
reads_back d room whole bytes h =
    let least : descriptor_head_size ≤ length d = omega (arith, (descriptor-parts d whole).1, said_least d) in record {
      type_back =
          ap (λ (w : List ℕ). hex_read w room) (type_word d least)
          ∙ there_and_back true (part_of d 0 1) room (bytes_take 1 (bytes_drop 0 bytes)) (omega (arith, h, length_part d 0 1 (omega arith)));
      length_back =
          ap (λ (w : List ℕ). hex_read w room) (length_word d least)
          ∙ there_and_back true (part_of d 2 2) room (bytes_take 2 (bytes_drop 2 bytes)) (omega (arith, h, length_part d 2 2 (omega arith)));
      bytes_back = λ more.
          ap (λ (w : List ℕ). hex_read w room) (bytes_word d least more)
          ∙ there_and_back true (drop descriptor_head_size d) room (bytes_drop descriptor_head_size bytes) (omega (arith, h, length-drop descriptor_head_size d));
    }
