-- The exits of the two readers: where a piece does not fit its place is the file's, and behind a piece that is there the rest of the file is
-- left to the next. Assumes nothing.
use mathlib.Core.Path.{◌≡◌, refl, sym, ◌∙◌}
use mathlib.Core.Bool.{cond}
use mathlib.Core.List.{List, [], ◌∷◌}
use Prim.Native.Nat.{ℕ, ◌+◌, ◌*◌}
use native.Mathlib.Omega.{arith}
use lib.Dec.{eqb}
use Rattle.layout.specs.Text.{MX, RW, PD, AS, TB}
use Rattle.layout.specs.Layout.{Layout, reach, text, number, numbers, sizes, records, close}
use Rattle.layout.specs.Layout.{matrix_layout, policy_sizes, assigned, policy_layout}
use Rattle.readers.specs.declared.Reader.{Reader}
use Rattle.readers.specs.Pieces.{ahead, Whole, Misfit}
use Rattle.readers.proofs.Steps.{behind}

-- the line feed
abbrev feed : Layout → Layout
feed F = text (10 ∷ []) F

-- a reader at the file's first byte has the whole file before it
pub from_start : (r : Reader) {s : List ℕ} (A : Layout) → r.file.now ≡ s → r.at ≡ 0 → reach A s ≡ ahead r A
from_start r A e z = rw (e, z) (omega arith)

-- ---- the matrix file

-- what is to follow the sizes
abbrev rows : ℕ → ℕ → Layout
rows n k = feed (records RW 3 (k * n) n close)

module _ {s : List ℕ} {r : Reader} (e : r.file.now ≡ s) (z : r.at ≡ 0) where
  pub matrix_unsized : {p : ℕ} → Misfit r 5 p (sizes MX) → p ≡ reach matrix_layout s
  unfolding matrix_layout
  matrix_unsized f = sym (from_start r (sizes MX rows) e z ∙ f.stops rows)

  module _ {r₁ : Reader} {n k : ℕ} (p₁ : Whole r r₁ 5 (sizes MX) (λ F. F n k)) where
    to_feed : reach matrix_layout s ≡ ahead r₁ (rows n k)
    unfolding matrix_layout
    to_feed = from_start r (sizes MX rows) e z ∙ p₁.goes rows

    pub matrix_unheaded : {p : ℕ} → Misfit r₁ 1 p (text (10 ∷ [])) → p ≡ reach matrix_layout s
    matrix_unheaded f = sym (to_feed ∙ f.stops (records RW 3 (k * n) n close))

    module _ {r₂ : Reader} (p₂ : Whole r₁ r₂ 1 (text (10 ∷ [])) (λ F. F)) where
      to_rows : reach matrix_layout s ≡ ahead r₂ (records RW 3 (k * n) n close)
      to_rows = to_feed ∙ p₂.goes (records RW 3 (k * n) n close)

      pub matrix_unfilled : {w p : ℕ} → Misfit r₂ w p (records RW 3 (k * n) n) → p ≡ reach matrix_layout s
      matrix_unfilled f = sym (to_rows ∙ f.stops close)

      pub matrix_filled : {r₃ : Reader} {w : ℕ} → Whole r₂ r₃ w (records RW 3 (k * n) n) (λ F. F) → ahead r₃ close ≡ reach matrix_layout s
      matrix_filled p₃ = sym (to_rows ∙ p₃.goes close)

-- ---- the policy file: its first line

-- the fewest domains of n entities
abbrev fewest : ℕ → ℕ
fewest n = cond (eqb n 0) 0 1

-- what is to follow the sizes
abbrev domains : (ℕ → ℕ → ℕ → Layout) → ℕ → ℕ → Layout
domains F n k = number (fewest n) 65 (λ d. feed (F n k d))

pub head_unsized : {r : Reader} {p : ℕ} → Misfit r 5 p (sizes PD) → Misfit r 8 p policy_sizes
unfolding policy_sizes
head_unsized f = behind domains refl f (omega arith) (λ F. refl)

module _ {r r₁ : Reader} {n k : ℕ} (e₁ : r₁.file.now ≡ r.file.now) (p₁ : Whole r r₁ 5 (sizes PD) (λ F. F n k)) where
  to_domains : (F : ℕ → ℕ → ℕ → Layout) → ahead r (policy_sizes F) ≡ ahead r₁ (domains F n k)
  unfolding policy_sizes
  to_domains F = p₁.goes (domains F)

  pub head_uncounted : {p : ℕ} → Misfit r₁ 2 p (number (fewest n) 65) → Misfit r 8 p policy_sizes
  head_uncounted f = behind (λ F d. feed (F n k d)) e₁ f (omega (arith, p₁.stands)) to_domains

  module _ {r₂ : Reader} {d : ℕ} (e₂ : r₂.file.now ≡ r₁.file.now) (p₂ : Whole r₁ r₂ 2 (number (fewest n) 65) (λ F. F d)) where
    to_head : (F : ℕ → ℕ → ℕ → Layout) → ahead r (policy_sizes F) ≡ ahead r₂ (feed (F n k d))
    to_head F = to_domains F ∙ p₂.goes (λ d. feed (F n k d))

    pub head_unended : {p : ℕ} → Misfit r₂ 1 p (text (10 ∷ [])) → Misfit r 8 p policy_sizes
    head_unended f = behind (λ F. F n k d) (e₂ ∙ e₁) f (omega (arith, p₁.stands, p₂.stands)) to_head

    pub head_whole : {r₃ : Reader} → Whole r₂ r₃ 1 (text (10 ∷ [])) (λ F. F) → Whole r r₃ 8 policy_sizes (λ F. F n k d)
    head_whole p₃ = record {
      stands = omega (arith, p₁.stands, p₂.stands, p₃.stands);
      goes = λ F. to_head F ∙ p₃.goes (F n k d);
    }

-- ---- its second line

module _ (d n : ℕ) where
  pub assigned_unmarked : {r : Reader} {p : ℕ} → Misfit r 2 p (text AS) → Misfit r (n * 2 + 3) p (assigned d n)
  unfolding assigned
  assigned_unmarked f = behind (λ F. numbers d n (feed F)) refl f (omega arith) (λ F. refl)

  module _ {r r₁ : Reader} (e₁ : r₁.file.now ≡ r.file.now) (p₁ : Whole r r₁ 2 (text AS) (λ F. F)) where
    to_numbers : (F : Layout) → ahead r (assigned d n F) ≡ ahead r₁ (numbers d n (feed F))
    unfolding assigned
    to_numbers F = p₁.goes (numbers d n (feed F))

    pub assigned_unnamed : {p : ℕ} → Misfit r₁ (n * 2) p (numbers d n) → Misfit r (n * 2 + 3) p (assigned d n)
    assigned_unnamed f = behind feed e₁ f (omega (arith, p₁.stands)) to_numbers

    module _ {r₂ : Reader} (e₂ : r₂.file.now ≡ r₁.file.now) (p₂ : Whole r₁ r₂ (n * 2) (numbers d n) (λ F. F)) where
      pub assigned_unended : {p : ℕ} → Misfit r₂ 1 p (text (10 ∷ [])) → Misfit r (n * 2 + 3) p (assigned d n)
      assigned_unended f = behind (λ F. F) (e₂ ∙ e₁) f (omega (arith, p₁.stands, p₂.stands)) (λ F. to_numbers F ∙ p₂.goes (feed F))

      pub assigned_whole : {r₃ : Reader} → Whole r₂ r₃ 1 (text (10 ∷ [])) (λ F. F) → Whole r r₃ (n * 2 + 3) (assigned d n) (λ F. F)
      assigned_whole p₃ = record {
        stands = omega (arith, p₁.stands, p₂.stands, p₃.stands);
        goes = λ F. to_numbers F ∙ p₂.goes (feed F) ∙ p₃.goes F;
      }

-- ---- the whole of it

-- what is to follow the first line
abbrev body : ℕ → ℕ → ℕ → Layout
body n k d = assigned d n (records TB 2 (k * d) d close)

module _ {s : List ℕ} {r : Reader} (e : r.file.now ≡ s) (z : r.at ≡ 0) where
  pub policy_unheaded : {p : ℕ} → Misfit r 8 p policy_sizes → p ≡ reach policy_layout s
  unfolding policy_layout
  policy_unheaded f = sym (from_start r (policy_sizes body) e z ∙ f.stops body)

  module _ {r₁ : Reader} {n k d : ℕ} (p₁ : Whole r r₁ 8 policy_sizes (λ F. F n k d)) where
    to_assigned : reach policy_layout s ≡ ahead r₁ (body n k d)
    unfolding policy_layout
    to_assigned = from_start r (policy_sizes body) e z ∙ p₁.goes body

    pub policy_unnamed : {w p : ℕ} → Misfit r₁ w p (assigned d n) → p ≡ reach policy_layout s
    policy_unnamed f = sym (to_assigned ∙ f.stops (records TB 2 (k * d) d close))

    module _ {r₂ : Reader} {w : ℕ} (p₂ : Whole r₁ r₂ w (assigned d n) (λ F. F)) where
      to_table : reach policy_layout s ≡ ahead r₂ (records TB 2 (k * d) d close)
      to_table = to_assigned ∙ p₂.goes (records TB 2 (k * d) d close)

      pub policy_unfilled : {v p : ℕ} → Misfit r₂ v p (records TB 2 (k * d) d) → p ≡ reach policy_layout s
      policy_unfilled f = sym (to_table ∙ f.stops close)

      pub policy_filled : {r₃ : Reader} {v : ℕ} → Whole r₂ r₃ v (records TB 2 (k * d) d) (λ F. F) → ahead r₃ close ≡ reach policy_layout s
      policy_filled p₃ = sym (to_table ∙ p₃.goes close)
