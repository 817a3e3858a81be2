-- The two files as they are put down: pieces one behind the other, from the start of the buffer. No function's proof cites it. Assumes nothing.
use mathlib.Core.Path.{◌≡◌, refl, ap, ◌∙◌}
use mathlib.Core.List.{List, [], ◌∷◌, ◌++◌, append_assoc}
use Prim.Native.Nat.{ℕ, ◌+◌, ◌*◌, ◌≤◌}
use native.Mathlib.Omega.{arith}
use lib.ListN.{length, get_or, length-append}
use lib.Seq.{sets}
use Rattle.model.specs.Policy.{policy, domain_of}
use Rattle.model.specs.Refusal.{over}
use Rattle.layout.specs.Text.{MX, RW, PD, AS, TB, ZZ, each, one, two, line, record_text, matrix_text, policy_text}
use Rattle.layout.proofs.Each.{length_each}
use Rattle.layout.proofs.Contents.{records_length}
use Rattle.layout.proofs.Puts.{put_next, put_whole}

-- ---- the matrix file

pub matrix_put : (n k : ℕ) (m f f₁ f₂ f₃ f₄ : List ℕ) → length (matrix_text n k m) ≤ length f → f₁ ≡ sets f 0 (MX ++ (two n ++ one k))
    → f₂ ≡ sets f₁ 5 (10 ∷ []) → f₃ ≡ sets f₂ 6 (each n (record_text RW (k * n) m)) → f₄ ≡ sets f₃ (6 + n * (k * n + 5)) (line ZZ)
    → f₄ ≡ over (matrix_text n k m) f
unfolding matrix_text
matrix_put n k m f f₁ f₂ f₃ f₄ room e₁ e₂ e₃ e₄ =
    let head : List ℕ = line (MX ++ (two n ++ one k)) in
    let rows : List ℕ = each n (record_text RW (k * n) m) in
    let a : f₂ ≡ sets f 0 head = put_next (MX ++ (two n ++ one k)) (10 ∷ []) f 0 5 e₁ refl e₂ in
    let b : f₃ ≡ sets f 0 (head ++ rows) = put_next head rows f 0 6 a refl e₃ in
    let size : 6 + n * (k * n + 5) ≡ 0 + length (head ++ rows) = omega (arith, length-append head rows, records_length RW (k * n) m refl n) in
    let c : f₄ ≡ sets f 0 ((head ++ rows) ++ line ZZ) = put_next (head ++ rows) (line ZZ) f 0 (6 + n * (k * n + 5)) b size e₄ in
    c ∙ put_whole (head ++ (rows ++ line ZZ)) f room

-- ---- the policy file

-- the first line
pub head_put : (n k d : ℕ) (f f₁ f₂ f₃ : List ℕ) → f₁ ≡ sets f 0 (PD ++ (two n ++ one k)) → f₂ ≡ sets f₁ 5 (two d) → f₃ ≡ sets f₂ 7 (10 ∷ [])
    → f₃ ≡ sets f 0 (line (PD ++ (two n ++ (one k ++ two d))))
head_put n k d f f₁ f₂ f₃ e₁ e₂ e₃ =
    let a = put_next (PD ++ (two n ++ one k)) (two d) f 0 5 e₁ refl e₂ in
    put_next (PD ++ (two n ++ (one k ++ two d))) (10 ∷ []) f 0 7 a refl e₃

-- the second
pub assigned_put : (l f f₁ f₂ f₃ : List ℕ) → f₁ ≡ sets f 8 AS → f₂ ≡ sets f₁ 10 (each (length l) (λ u. two (get_or l u 0)))
    → f₃ ≡ sets f₂ (10 + length l * 2) (10 ∷ []) → f₃ ≡ sets f 8 (line (AS ++ each (length l) (λ u. two (get_or l u 0))))
assigned_put l f f₁ f₂ f₃ e₁ e₂ e₃ =
    let names : List ℕ = each (length l) (λ u. two (get_or l u 0)) in
    let size : 10 + length l * 2 ≡ 8 + length (AS ++ names) = omega (arith, length_each (length l) 2 (λ u. two (get_or l u 0)) (λ _ _. refl)) in
    put_next (AS ++ names) (10 ∷ []) f 8 (10 + length l * 2) (put_next AS names f 8 10 e₁ refl e₂) size e₃

pub policy_put : (n k d : ℕ) (l t f f₁ f₂ f₃ f₄ : List ℕ) → length l ≡ n → length (policy_text n k (policy d l t)) ≤ length f
    → f₁ ≡ sets f 0 (line (PD ++ (two n ++ (one k ++ two d)))) → f₂ ≡ sets f₁ 8 (line (AS ++ each (length l) (λ u. two (get_or l u 0))))
    → f₃ ≡ sets f₂ (11 + n * 2) (each d (record_text TB (k * d) t)) → f₄ ≡ sets f₃ (11 + n * 2 + d * (k * d + 5)) (line ZZ)
    → f₄ ≡ over (policy_text n k (policy d l t)) f
unfolding policy_text domain_of
policy_put n k d l t f f₁ f₂ f₃ f₄ long room e₁ e₂ e₃ e₄ =
    let head : List ℕ = line (PD ++ (two n ++ (one k ++ two d))) in
    let names : List ℕ = line (AS ++ each n (λ u. two (get_or l u 0))) in
    let rows : List ℕ = each d (record_text TB (k * d) t) in
    let e₂' : f₂ ≡ sets f₁ 8 names = e₂ ∙ ap (λ (z : ℕ). sets f₁ 8 (line (AS ++ each z (λ u. two (get_or l u 0))))) long in
    let half : length (head ++ names) ≡ 11 + n * 2 =
    omega (arith, length-append (each n (λ u. two (get_or l u 0))) (10 ∷ []), length_each n 2 (λ u. two (get_or l u 0)) (λ _ _. refl)) in
    let a : f₂ ≡ sets f 0 (head ++ names) = put_next head names f 0 8 e₁ refl e₂' in
    let b : f₃ ≡ sets f 0 ((head ++ names) ++ rows) = put_next (head ++ names) rows f 0 (11 + n * 2) a (omega arith) e₃ in
    let whole : 11 + n * 2 + d * (k * d + 5) ≡ 0 + length ((head ++ names) ++ rows) =
    omega (arith, length-append (head ++ names) rows, records_length TB (k * d) t refl d) in
    let c : f₄ ≡ sets f 0 (((head ++ names) ++ rows) ++ line ZZ) =
    put_next ((head ++ names) ++ rows) (line ZZ) f 0 (11 + n * 2 + d * (k * d + 5)) b whole e₄ in
    c
    ∙ ap (sets f 0) (append_assoc (head ++ names) rows (line ZZ) ∙ append_assoc head names (rows ++ line ZZ))
    ∙ put_whole (head ++ (names ++ (rows ++ line ZZ))) f room
