-- No well-formed file begins another. So a file that is cut short has its length as its place, and one with bytes behind its end has the
-- file's length. Assumes nothing.
use mathlib.Core.Path.{◌≡◌, refl, sym, ap, ◌∙◌, subst}
use mathlib.Core.List.{List, [], ◌∷◌, ◌++◌, append_assoc, append-nil}
use Prim.Native.Nat.{ℕ, ◌+◌, ◌-◌, ◌≤◌, ◌<◌}
use native.Mathlib.Decide.{dec_lt}
use native.Mathlib.Omega.{arith}
use lib.ListN.{length, take, drop, take-append-drop, length-drop, length-append}
use lib.Seq.{take_all, take-append-add, take-append_seam, length-take-le}
use Rattle.layout.specs.Files.{MatrixFormed, PolicyFormed, Begins, Malformed}
use Rattle.layout.specs.Layout.{Layout, end, byte, matrix_layout, policy_layout}
use Rattle.layout.proofs.Places.{Of}
use Rattle.layout.proofs.Files.{matrix_of, policy_of}

of_whole : (A : Layout) (s t : List ℕ) → Of A s → Of A (s ++ t) → t ≡ []
of_whole end [] [] h g = refl
of_whole end [] (x ∷ t) h g = absurd g
of_whole end (x ∷ s) t h g = absurd h
of_whole (byte P F) [] t h g = absurd h
of_whole (byte P F) (x ∷ s) t h g = of_whole (F x) s t h.1 g.1

module _ (Formed : List ℕ → Type 0) (whole : (s t : List ℕ) → Formed s → Formed (s ++ t) → t ≡ []) (s : List ℕ) (f : Formed s) where
  pub cut : (p : ℕ) → p < length s → Malformed Formed (take p s) p
  cut p h =
      let size : length (take p s) ≡ p = length-take-le p s (omega arith) in
      let both : take p s ++ drop p s ≡ s = take-append-drop p s in
      record {
        not = λ g.
            let none = ap length (whole (take p s) (drop p s) g (subst Formed (sym both) f)) in
            omega (arith, length-drop p s, none);
        place = record {
          within = omega arith;
          common = (drop p s, subst (λ (l : List ℕ). Formed (l ++ drop p s)) (sym (take_all p (take p s) (omega arith))) (subst Formed (sym both) f));
          most = λ q l _. omega arith;
        };
      }

  pub behind : (t : List ℕ) → 0 < length t → Malformed Formed (s ++ t) (length s)
  behind t h = record {
    not = λ g. none t g h;
    place = record {
      within = omega (arith, length-append s t);
      common = ([], subst Formed (sym (append-nil (take (length s) (s ++ t)) ∙ take-append_seam s t)) f);
      most = λ q l b. most q l b (dec_lt (length s) q);
    };
  }
    where
      none : (t : List ℕ) → Formed (s ++ t) → 0 < length t → ⊥
      none t g l = omega (arith, ap length (whole s t f g))

      most : (q : ℕ) → q ≤ length (s ++ t) → Begins Formed (take q (s ++ t)) → Dec (length s < q) → q ≤ length s
      most q l b (yes m) =
          let e : length s + (q - length s) ≡ q = omega arith in
          let r : take q (s ++ t) ≡ s ++ take (q - length s) t = ap (λ (i : ℕ). take i (s ++ t)) (sym e) ∙ take-append-add s t (q - length s) in
          let g : Formed (s ++ (take (q - length s) t ++ b.0)) =
          subst Formed (ap (λ (z : List ℕ). z ++ b.0) r ∙ append_assoc s (take (q - length s) t) b.0) b.1 in
          let some : length (take (q - length s) t) ≡ q - length s = length-take-le (q - length s) t (omega (arith, length-append s t)) in
          absurd (none (take (q - length s) t ++ b.0) g (omega (arith, length-append (take (q - length s) t) b.0)))
      most q l b (no m) = omega arith

pub matrix_whole : (s t : List ℕ) → MatrixFormed s → MatrixFormed (s ++ t) → t ≡ []
matrix_whole s t f g = of_whole matrix_layout s t (matrix_of s f) (matrix_of (s ++ t) g)

pub policy_whole : (s t : List ℕ) → PolicyFormed s → PolicyFormed (s ++ t) → t ≡ []
policy_whole s t f g = of_whole policy_layout s t (policy_of s f) (policy_of (s ++ t) g)
