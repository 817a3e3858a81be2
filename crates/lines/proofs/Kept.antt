-- The comparison with no branch, step by step: `apart` is 0 exactly while all are the same. No function's proof cites it. Assumes nothing.
use mathlib.Core.Path.{◌≡◌, refl, sym, ◌∙◌, subst}
use mathlib.Core.Bool.{Bool, true, false, ◌&&◌}
use Prim.Native.Nat.{ℕ, ◌+◌, ◌≤◌}
use native.Mathlib.Decide.{ℕ_discrete}
use native.Mathlib.Numerals.{add-one}
use native.Mathlib.Omega.{arith}
use borrow.Author.Tests.{eq-eqb, ne_eqb}
use lib.Bits.{bit_or, bit_xor, or_add_and, xor_add_and, and_le_l, and_le_r, xor_self}
use lib.Dec.{T, eqb}
use Rattle.model.specs.Below.{all}
use Rattle.model.proofs.Tests.{false_of}
use Rattle.model.proofs.Below.{all_at, all_of}
use Rattle.lines.specs.Lines.{agree_test}

or_xor : (a p q : ℕ) → eqb (bit_or a (bit_xor p q)) 0 ≡ (eqb p q && eqb a 0)
or_xor a p q = go (ℕ_discrete p q) (ℕ_discrete a 0)
  where
    go : Dec (p ≡ q) → Dec (a ≡ 0) → eqb (bit_or a (bit_xor p q)) 0 ≡ (eqb p q && eqb a 0)
    go (yes e) (yes f) = rw (e, f, xor_self q, eq-eqb q q refl) refl
    go (no e) d = rw (ne_eqb p q e) (ne_eqb (bit_or a (bit_xor p q)) 0 (λ z. e (omega (
      arith,
      or_add_and a (bit_xor p q),
      and_le_l a (bit_xor p q),
      and_le_r a (bit_xor p q),
      xor_add_and p q,
      and_le_l p q,
      and_le_r p q,
    ))))
    go (yes e) (no f) = rw (eq-eqb p q e, ne_eqb a 0 f) (ne_eqb (bit_or a (bit_xor p q)) 0 (λ z. f (omega (
      arith,
      or_add_and a (bit_xor p q),
      and_le_l a (bit_xor p q),
      and_le_r a (bit_xor p q),
    ))))

module _ (f g : ℕ → ℕ) where
  pub agree_none : agree_test 0 f g ≡ true
  unfolding agree_test all
  agree_none = refl

  pub agree_next : (i a : ℕ) → eqb a 0 ≡ agree_test i f g → eqb (bit_or a (bit_xor (f i) (g i))) 0 ≡ agree_test (i + 1) f g
  unfolding agree_test all
  agree_next i a e = or_xor a (f i) (g i) ∙ rw (e, add-one i)

  -- what differs early differs
  pub agree_fails : (i e : ℕ) → i ≤ e → agree_test i f g ≡ false → false ≡ agree_test e f g
  unfolding agree_test
  agree_fails i e h w = sym (false_of (all e at) (λ t. subst T w (all_of i at (λ j l. all_at e at t j (omega arith)))))
    where
      at : ℕ → Bool
      at j = eqb (f j) (g j)
