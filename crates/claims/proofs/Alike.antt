-- The claims on the alike call. Where no rule applies the two are entities, for which the test is Definition 2.11; and what is told
-- determines the answer. Assumes nothing.
use mathlib.Core.Path.{◌≡◌, sym, ap, ◌∙◌}
use mathlib.Core.Bool.{Bool, true, false, cond}
use mathlib.Core.List.{List, [], ◌∷◌}
use Prim.Native.Nat.{ℕ, ◌<◌}
use native.Mathlib.Omega.{arith}
use lib.Dec.{T}
use Rattle.std.specs.Prelude.{Ok}
use Rattle.model.specs.Matrix.{cell}
use Rattle.model.specs.Alike.{Alike, alike_test}
use Rattle.model.specs.Refusal.{checked, values, flag}
use Rattle.model.specs.Rules.{whole_rules, pair_rules}
use Rattle.model.proofs.Tests.{true_of, false_of}
use Rattle.model.proofs.Alike.{alike_sound, alike_complete}
use Rattle.model.proofs.Groups.{tell_fine, told_fine, group_fine, groups_fine, told_apart, flag_one}
use Rattle.model.proofs.Rules.{pair_fine, pair_pass, whole_pass}
use Rattle.alike.specs.Compare.{alike_rules, alike_told, compared_told}
use Rattle.claims.specs.Alike.{AlikeAnswers, AlikeServes, AlikeUnique}

pub alike_unique : AlikeUnique
alike_unique n k u v m r q e f = told_apart flag flag_one r q (e ∙ sym f)

module _ (n k u v : ℕ) (m : List ℕ) where
  abbrev fine : Type 0
  fine = checked (alike_rules n k u v m) ≡ Ok tt

  abbrev test : Bool
  test = alike_test n k (cell k n m) u v

  pair : fine → (u < n) × (v < n)
  unfolding alike_rules
  pair e = pair_fine n u v (groups_fine (whole_rules n k m) (pair_rules n u v) e).1

  sound : fine → T test → Alike n k (cell k n m) u v
  sound e t = alike_sound n k (cell k n m) u v (pair e).0 (pair e).1 t

  complete : fine → Alike n k (cell k n m) u v → T test
  complete e w = alike_complete n k (cell k n m) u v (pair e).0 (pair e).1 w

  says : fine → (b : Bool) → test ≡ b → alike_told n k u v m ≡ values (cond b 1 0 ∷ [])
  unfolding alike_told
  says e b q = sym (tell_fine (checked (alike_rules n k u v m)) e (cond test 1 0 ∷ [])) ∙ ap (λ (c : Bool). values (cond c 1 0 ∷ [])) q

  shown : (x : ℕ) → values (x ∷ []) ≡ alike_told n k u v m → fine × (x ≡ cond test 1 0)
  unfolding alike_told
  shown x e = let w = told_fine (checked (alike_rules n k u v m)) (x ∷ []) (cond test 1 0 ∷ []) e in (w.0, let q = w.1 in cc)

one : (b : Bool) → ◌≡◌ {A = ℕ} 1 (cond b 1 0) → T b
one true e = tt
one false e = absurd (omega arith)

nought : (b : Bool) → ◌≡◌ {A = ℕ} 0 (cond b 1 0) → ¬ T b
nought true e t = omega arith
nought false e t = t

pub alike_answers : AlikeAnswers
alike_answers n k u v m r p = (
  (
    λ e. let w = shown n k u v m 1 (sym (ap compared_told e) ∙ p) in (w.0, sound n k u v m w.0 (one (test n k u v m) w.1)),
    λ w. told_apart flag flag_one r (Ok true) (p ∙ says n k u v m w.0 true (true_of (test n k u v m) (complete n k u v m w.0 w.1))),
  ),
  (
    λ e. let w = shown n k u v m 0 (sym (ap compared_told e) ∙ p) in
        (w.0, λ s. nought (test n k u v m) w.1 (complete n k u v m w.0 s)),
    λ w. told_apart flag flag_one r (Ok false) (p ∙ says n k u v m w.0 false (false_of (test n k u v m) (λ t. w.1 (sound n k u v m w.0 t)))),
  ),
)

pub alike_serves : AlikeServes
unfolding alike_rules
alike_serves n k u v m g h l = group_fine (whole_rules n k m) (pair_rules n u v) (whole_pass n k m g) ∙ pair_pass n u v h l
