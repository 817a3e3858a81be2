-- The word of the weave, and that it loses nothing (include/soroluzko.h). Assumes nothing.
use Rattle.std.specs.Prelude.{◌≡◌, List, [], ◌∷◌, ℕ, length}
use Rattle.model.specs.declared.Fault.TheVariants.{Room}
use Rattle.model.specs.Refusal.{Told}
use Rattle.model.specs.Rules.{room_rules}
use Rattle.files.specs.Write.{Written}
use Rattle.woven.specs.Weave.{Woven, longest}
use Rattle.word.specs.Word.{Kept}
use Rattle.filewords.specs.Files.{WrittenWord}

-- bits 8 to 31 are the answer's length
abbrev pub WeaveWord : List ℕ → List ℕ → ℕ → List ℕ → Type 0
WeaveWord s x w x' = (t : List ℕ) × Woven s t × WrittenWord (room_rules Room (length x) longest) t x w x'

-- nothing is lost, and the upper bits are 0
abbrev pub WeaveKept : Type 0
WeaveKept = (s t x x' : List ℕ) (a : Told) → Woven s t → Written (room_rules Room (length x) longest) t x a x' → Kept (24 ∷ []) 32 a

-- two words that meet the promise are equal, and so are the outputs
abbrev pub WeaveWordUnique : Type 0
WeaveWordUnique = (s x x' x'' : List ℕ) (w v : ℕ) → WeaveWord s x w x' → WeaveWord s x v x'' → (w ≡ v) × (x' ≡ x'')
