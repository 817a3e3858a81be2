-- The exits of the two writes, over any rules and any text: where a rule applies nothing is written, and where none does the text is.
-- Assumes nothing.
use mathlib.Core.Path.{◌≡◌, refl, ap, ◌∙◌}
use mathlib.Core.List.{List, [], ◌∷◌}
use Prim.Native.Nat.{ℕ}
use lib.ListN.{length}
use Rattle.model.specs.declared.Refusal.{Refusal}
use Rattle.std.specs.Prelude.{Ok, Err}
use Rattle.model.specs.Refusal.{Rule, checked, values, told_refusal, over}
use Rattle.model.proofs.Groups.{tell_fine, tell_bad, held_fine, held_bad}
use Rattle.files.specs.Write.{Written}

module _ (rules : List Rule) (text x : List ℕ) where
  pub written_bad : (r : Refusal) → checked rules ≡ Err r → Written rules text x (told_refusal r) x
  written_bad r e = record { told = tell_bad (checked rules) r e (length text ∷ []); left = held_bad (checked rules) r e text x }

  pub written_fine : (size : ℕ) (x' : List ℕ) → checked rules ≡ Ok tt → size ≡ length text → x' ≡ over text x → Written rules text x (values (size ∷ [])) x'
  written_fine size x' e s q = record {
    told = ap (λ (z : ℕ). values (z ∷ [])) s ∙ tell_fine (checked rules) e (length text ∷ []);
    left = q ∙ held_fine (checked rules) e text x (length text) refl;
  }
