-- The bytes that sealing writes: the front, the IV, and what the mode makes in the rest of the output.
-- Assumes nothing.
use mathlib.Core.Path.{◌≡◌, sym, ap, ◌∙◌}
use mathlib.Core.List.{List, ◌++◌}
use Prim.Native.Nat.{ℕ, ◌+◌, ◌≤◌}
use native.Mathlib.Omega.{arith}
use lib.ListN.{length, take, drop, length-take, length-drop}
use Rattle.octets.specs.Lent.{over}
use Rattle.octets.proofs.Lent.{over-whole, over_append}
use Rattle.modes.specs.Mode.{sealed}
use Rattle.modes.specs.Calls.{encrypt_answer}
use Rattle.modes.proofs.Laws.{modes_lawful}
use Rattle.modes.specs.Modes.{mode_of}
use Rattle.record.specs.Record.{iv_at_lem, header, record_front}
use Rattle.record.specs.Seal.{record_of, Fillable}
use Rattle.record.proofs.Written.{length_front}
use Rattle.record.proofs.Lengths.{key_size}

module _ (u : ℕ) (key name iv a p out : List ℕ) (able : Fillable u key name iv a p out) where
  -- the front, what the mode makes, and what is lent to it
  abbrev front : List ℕ
  front = record_front u name (length p)

  abbrev made : List ℕ
  made = sealed (mode_of u) key iv (front ++ a) p

  abbrev rest : List ℕ
  rest = drop (length iv) (drop (iv_at_lem (length name)) out)

  front-long : length front ≡ iv_at_lem (length name)
  front-long = length_front u name (length p)

  -- the header and the name over as many bytes
  pub front_written : (h s : List ℕ) → h ≡ header u (length name) (length p) → s ≡ over (h ++ name) (take (iv_at_lem (length name)) out) → s ≡ front
  unfolding record_front
  front_written h s is e =
      let room : length (take (iv_at_lem (length name)) out) ≡ iv_at_lem (length name) = simp length-take (omega (arith, able.6)) in
      e ∙ ap (λ (x : List ℕ). over (x ++ name) (take (iv_at_lem (length name)) out)) is ∙ over-whole front _ (front-long ∙ sym room)

  -- nothing is refused, and the parts end to end are the record
  pub filled : (ys : List ℕ) (x : ℕ) → encrypt_answer (mode_of u) key iv front a p rest ≡ (x, ys) → (x ≡ 0) × (front ++ (iv ++ ys) ≡ over (record_of u key name iv a p) out)
  unfolding record_of
  filled ys x e = (ap (λ (z : ℕ × List ℕ). z.0) gave, ap (λ (l : List ℕ). front ++ (iv ++ l)) (ap (λ (z : ℕ × List ℕ). z.1) gave) ∙ sym whole)
    where
      room : length p + (mode_of u).tag_size ≤ length rest
      room = simp (length-drop) (omega (arith, able.2, able.6))

      gave : ◌≡◌ {A = ℕ × List ℕ} (x, ys) (0, over made rest)
      gave =
          sym e
          ∙ (modes_lawful u).encrypts_in_range key iv front a p rest (able.0 ∙ sym (key_size u)) able.2 able.3 (omega (arith, front-long, able.1, able.4)) able.5 room

      whole : over (front ++ (iv ++ made)) out ≡ front ++ (iv ++ over made rest)
      whole =
          over_append front (iv ++ made) out (omega (arith, front-long, able.6))
          ∙ ap (λ (l : List ℕ). front ++ l) (over_append iv made (drop (length front) out) (simp length-drop (omega (arith, front-long, able.6, able.2))))
          ∙ ap (λ (n : ℕ). front ++ (iv ++ over made (drop (length iv) (drop n out)))) front-long
