-- The words of the four calls on files, and that they lose nothing (include/soroluzko.h). Assumes nothing.
use Rattle.std.specs.Prelude.{◌≡◌, List, [], ◌∷◌, ℕ, length}
use Rattle.model.specs.Policy.{Policy}
use Rattle.model.specs.Refusal.{Rule, Told}
use Rattle.layout.specs.Text.{matrix_text, policy_text}
use Rattle.writable.specs.Rules.{matrix_write_rules, policy_write_rules}
use Rattle.files.specs.Read.{MatrixRead, PolicyRead}
use Rattle.files.specs.Write.{Written}
use Rattle.word.specs.Word.{word, Kept}

-- read matrix: bits 8 to 15 are n, the next 8 k. w is the word of what is told
abbrev pub MatrixReadWord : List ℕ → List ℕ → ℕ → List ℕ → Type 0
MatrixReadWord s x w x' = (t : Told) × (w ≡ word (8 ∷ 8 ∷ []) t) × MatrixRead s x t x'

-- read policy: bits 8 to 15 are n, the next 8 k, the next 8 d
abbrev pub PolicyReadWord : List ℕ → List ℕ → List ℕ → ℕ → List ℕ → List ℕ → Type 0
PolicyReadWord s x y w x' y' = (t : Told) × (w ≡ word (8 ∷ 8 ∷ 8 ∷ []) t) × PolicyRead s x y t x' y'

-- write: bits 8 to 31 are the file's length
abbrev pub WrittenWord : List Rule → List ℕ → List ℕ → ℕ → List ℕ → Type 0
WrittenWord rules text x w x' = (t : Told) × (w ≡ word (24 ∷ []) t) × Written rules text x t x'

-- nothing is lost, and the upper bits are 0
abbrev pub ReadMatrixKept : Type 0
ReadMatrixKept = (s x x' : List ℕ) (t : Told) → MatrixRead s x t x' → Kept (8 ∷ 8 ∷ []) 32 t

abbrev pub ReadPolicyKept : Type 0
ReadPolicyKept = (s x y x' y' : List ℕ) (t : Told) → PolicyRead s x y t x' y' → Kept (8 ∷ 8 ∷ 8 ∷ []) 32 t

abbrev pub WriteMatrixKept : Type 0
WriteMatrixKept = (n k : ℕ) (m x x' : List ℕ) (t : Told) → Written (matrix_write_rules n k m (length x)) (matrix_text n k m) x t x' → Kept (24 ∷ []) 32 t

abbrev pub WritePolicyKept : Type 0
WritePolicyKept = (n k : ℕ) (P : Policy) (x x' : List ℕ) (t : Told)
    → Written (policy_write_rules n k P (length x)) (policy_text n k P) x t x' → Kept (24 ∷ []) 32 t

-- two words that meet a promise are equal, and so are the buffers
abbrev pub MatrixWordUnique : Type 0
MatrixWordUnique = (s x x' x'' : List ℕ) (w v : ℕ) → MatrixReadWord s x w x' → MatrixReadWord s x v x'' → (w ≡ v) × (x' ≡ x'')

abbrev pub PolicyWordUnique : Type 0
PolicyWordUnique = (s x y x' y' x'' y'' : List ℕ) (w v : ℕ) → PolicyReadWord s x y w x' y' → PolicyReadWord s x y v x'' y''
    → (w ≡ v) × (x' ≡ x'') × (y' ≡ y'')

abbrev pub WrittenWordUnique : Type 0
WrittenWordUnique = (rules : List Rule) (text x x' x'' : List ℕ) (w v : ℕ) → WrittenWord rules text x w x' → WrittenWord rules text x v x''
    → (w ≡ v) × (x' ≡ x'')
