-- What a well-formed file says: its length, and that its numbers and cells, taken from where they stand, are those of the matrix or of the
-- policy. So a file is that of one matrix, or of one policy. Assumes nothing.
use mathlib.Core.Path.{◌≡◌, refl, sym, ap, ap₂, ◌∙◌}
use mathlib.Core.List.{List, [], ◌∷◌, ◌++◌, append_assoc}
use Prim.Native.Nat.{ℕ, ◌+◌, ◌*◌, ◌/◌, ◌%◌, ◌≤◌, ◌<◌}
use native.Mathlib.Nat.{mul_assoc, mul-le-mul}
use native.Mathlib.Omega.{arith}
use lib.Arith.{digits_lt}
use lib.ListN.{length, get_or, length-append, get_or-append}
use lib.Seq.{get_or-append-add}
use Rattle.model.specs.Below.{tab}
use Rattle.model.specs.Policy.{Policy, domain_of}
use Rattle.model.proofs.Below.{length_tab, get_or_tab, tab_same}
use Rattle.model.proofs.Rules.{Filled}
use Rattle.layout.specs.Text.{MX, RW, PD, AS, TB, ZZ, each, one, two, cell_char, line, record_text, matrix_text, policy_text}
use Rattle.layout.specs.Files.{MatrixFile, PolicyFile}
use Rattle.layout.specs.Layout.{digit_of, cell_of, digit_at, number_at, row_at}
use Rattle.layout.proofs.Each.{each_same, length_each, get_or_each, each_tab, tab_list, record_length}
use Rattle.layout.proofs.Pieces.{digit_value, cell_value}

-- ---- records

module _ (mark : List ℕ) (w : ℕ) (l : List ℕ) (short : length mark ≡ 2) where
  pub records_length : (c : ℕ) → length (each c (record_text mark w l)) ≡ c * (w + 5)
  records_length c = length_each c (w + 5) (record_text mark w l) (λ u _. record_length mark l w u short)

  cell_at : (u i : ℕ) → i < w → get_or (record_text mark w l u) (4 + i) 0 ≡ cell_char (get_or l (u * w + i) 0)
  cell_at u i h =
      let T : List ℕ = tab w (λ i. cell_char (get_or l (u * w + i) 0)) in
      let e : record_text mark w l u ≡ (mark ++ two u) ++ (T ++ (10 ∷ [])) =
      append_assoc mark (two u ++ T) (10 ∷ []) ∙ sym (append_assoc mark (two u) (T ++ (10 ∷ []))) in
      let f : 4 + i ≡ length (mark ++ two u) + i = omega (arith, length-append mark (two u)) in
      ap₂ (λ (x : List ℕ) (y : ℕ). get_or x y 0) e f
      ∙ get_or-append-add (mark ++ two u) (T ++ (10 ∷ [])) i 0
      ∙ get_or-append T (10 ∷ []) 0 i (rw length_tab h)
      ∙ get_or_tab w (λ i. cell_char (get_or l (u * w + i) 0)) i h

  pub records_back : (c lim : ℕ) (s h t : List ℕ) (at : ℕ) → lim ≤ 3 → Filled (c * w) lim l → length h ≡ at
      → s ≡ h ++ (each c (record_text mark w l) ++ t) → each c (row_at s at w) ≡ l
  records_back c lim s h t at few F long e =
      each_same c (row_at s at w) (λ u. tab w (λ i. get_or l (u * w + i) 0)) (λ u b.
      tab_same w (λ i. cell_of (get_or s (at + u * (w + 5) + 4 + i) 0)) (λ i. get_or l (u * w + i) 0) (λ i m. here u i b m))
      ∙ each_tab c w (λ j. get_or l j 0)
      ∙ tab_list l (c * w) F.long
    where
      here : (u i : ℕ) → u < c → i < w → cell_of (get_or s (at + u * (w + 5) + 4 + i) 0) ≡ get_or l (u * w + i) 0
      here u i b m =
          let f : at + u * (w + 5) + 4 + i ≡ length h + (u * (w + 5) + (4 + i)) = omega arith in
          ap cell_of
          (ap₂ (λ (x : List ℕ) (y : ℕ). get_or x y 0) e f
          ∙ get_or-append-add h (each c (record_text mark w l) ++ t) (u * (w + 5) + (4 + i)) 0
          ∙ get_or_each c (w + 5) (record_text mark w l) t (λ j _. record_length mark l w j short) u (4 + i) b (omega arith)
          ∙ cell_at u i m)
          ∙ cell_value (get_or l (u * w + i) 0) (omega (arith, F.below (u * w + i) (rw F.long (digits_lt b m))))

-- ---- numbers

pub two_back : (x : ℕ) → x < 100 → digit_of (48 + x / 10) * 10 + digit_of (48 + x % 10) ≡ x
two_back x h = rw (digit_value (x / 10) (omega arith), digit_value (x % 10) (omega arith)) (omega arith)

pub numbers_back : (n hi : ℕ) (l s h t : List ℕ) (at : ℕ) → hi ≤ 100 → Filled n hi l → length h ≡ at
    → s ≡ h ++ (each n (λ u. two (get_or l u 0)) ++ t) → tab n (λ u. number_at s (at + u * 2)) ≡ l
numbers_back n hi l s h t at few F long e = tab_same n (λ u. number_at s (at + u * 2)) (λ u. get_or l u 0) here ∙ tab_list l n F.long
  where
    byte_at : (u j : ℕ) → u < n → j < 2 → get_or s (at + u * 2 + j) 0 ≡ get_or (two (get_or l u 0)) j 0
    byte_at u j b m =
        let f : at + u * 2 + j ≡ length h + (u * 2 + j) = omega arith in
        ap₂ (λ (x : List ℕ) (y : ℕ). get_or x y 0) e f
        ∙ get_or-append-add h (each n (λ u. two (get_or l u 0)) ++ t) (u * 2 + j) 0
        ∙ get_or_each n 2 (λ u. two (get_or l u 0)) t (λ _ _. refl) u j b m

    here : (u : ℕ) → u < n → number_at s (at + u * 2) ≡ get_or l u 0
    here u b =
        let z : at + u * 2 ≡ at + u * 2 + 0 = omega arith in
        ap₂ (λ (x y : ℕ). digit_of x * 10 + digit_of y) (ap (λ (i : ℕ). get_or s i 0) z ∙ byte_at u 0 b (omega arith)) (byte_at u 1 b (omega arith))
        ∙ two_back (get_or l u 0) (omega (arith, F.below u (rw F.long b)))

-- ---- the lengths of the files

pub matrix_length : (n k : ℕ) (m : List ℕ) → length (matrix_text n k m) ≡ 9 + n * (k * n + 5)
unfolding matrix_text
matrix_length n k m = omega (arith, length-append (each n (record_text RW (k * n) m)) (line ZZ), records_length RW (k * n) m refl n)

pub policy_length : (n k : ℕ) (P : Policy) → length (policy_text n k P) ≡ 14 + n * 2 + P.domains * (k * P.domains + 5)
unfolding policy_text
policy_length n k P =
    let d = P.domains in
    let names : List ℕ = each n (λ u. two (domain_of P u)) in
    let rows : List ℕ = each d (record_text TB (k * d) P.table) in
    omega (
      arith,
      length_each n 2 (λ u. two (domain_of P u)) (λ _ _. refl),
      length-append (line (AS ++ names)) (rows ++ line ZZ),
      length-append names (10 ∷ []),
      length-append rows (line ZZ),
      records_length TB (k * d) P.table refl d,
    )

-- ---- the matrix file

pub record MatrixSays (n k : ℕ) (m s : List ℕ) : Type 0 where
  pub entities : number_at s 2 ≡ n
  pub rights : digit_at s 4 ≡ k
  pub matrix : each n (row_at s 6 (k * n)) ≡ m
  pub long : length s ≡ 9 + n * (k * n + 5)
  pub size : length m ≡ n * (k * n)

pub matrix_says : {n k : ℕ} {m s : List ℕ} → MatrixFile n k m s → MatrixSays n k m s
unfolding matrix_text
matrix_says {n} {k} {m} {s} f =
    let l = f.matrix.laid in
    let size : length m ≡ n * (k * n) = l.size ∙ mul_assoc n k n in
    let head : List ℕ = line (MX ++ (two n ++ one k)) in
    record {
      entities = ap (λ (z : List ℕ). number_at z 2) f.text ∙ two_back n (omega (arith, l.entities));
      rights = ap (λ (z : List ℕ). digit_at z 4) f.text ∙ digit_value k (omega (arith, l.rights));
      matrix = records_back RW (k * n) m refl n 3 s head (line ZZ) 6 (omega arith) (record { long = size; below = f.matrix.below }) refl f.text;
      long = ap length f.text ∙ matrix_length n k m;
      size = size;
    }

-- ---- the policy file

pub record PolicySays (n k : ℕ) (P : Policy) (s : List ℕ) : Type 0 where
  pub entities : number_at s 2 ≡ n
  pub rights : digit_at s 4 ≡ k
  pub domains : number_at s 5 ≡ P.domains
  pub assignment : tab n (λ u. number_at s (10 + u * 2)) ≡ P.assignment
  pub table : each P.domains (row_at s (11 + n * 2) (k * P.domains)) ≡ P.table
  pub long : length s ≡ 14 + n * 2 + P.domains * (k * P.domains + 5)
  pub size : length P.table ≡ P.domains * (k * P.domains)

pub policy_says : {n k : ℕ} {P : Policy} {s : List ℕ} → PolicyFile n k P s → PolicySays n k P s
unfolding policy_text domain_of
policy_says {n} {k} {P} {s} f =
    let d = P.domains in
    let w = f.within in
    let W = w.valid in
    let l = P.assignment in
    let t = P.table in
    let size : length t ≡ d * (k * d) = W.size ∙ mul_assoc d k d in
    let head : List ℕ = line (PD ++ (two n ++ (one k ++ two d))) in
    let names : List ℕ = each n (λ u. two (get_or l u 0)) in
    let rows : List ℕ = each d (record_text TB (k * d) t) in
    let half : length names ≡ n * 2 = length_each n 2 (λ u. two (get_or l u 0)) (λ _ _. refl) in
    let whole : length (head ++ line (AS ++ names)) ≡ 11 + n * 2 = omega (arith, length-append names (10 ∷ []), half) in
    let split : s ≡ (head ++ AS) ++ (names ++ ((10 ∷ []) ++ (rows ++ line ZZ))) =
    f.text ∙ ap (λ (z : List ℕ). (head ++ AS) ++ z) (append_assoc names (10 ∷ []) (rows ++ line ZZ)) in
    record {
      entities = ap (λ (z : List ℕ). number_at z 2) f.text ∙ two_back n (omega (arith, w.entities));
      rights = ap (λ (z : List ℕ). digit_at z 4) f.text ∙ digit_value k (omega (arith, w.rights));
      domains = ap (λ (z : List ℕ). number_at z 5) f.text ∙ two_back d (omega (arith, w.few));
      assignment =
          numbers_back n d l s (head ++ AS) ((10 ∷ []) ++ (rows ++ line ZZ)) 10 (omega (arith, w.few))
          (record { long = W.entities; below = λ i h. W.below i (omega (arith, W.entities)) }) refl split;
      table =
          records_back TB (k * d) t refl d 2 s (head ++ line (AS ++ names)) (line ZZ) (11 + n * 2) (omega arith)
          (record { long = size; below = W.cells }) whole f.text;
      long = ap length f.text ∙ policy_length n k P;
      size = size;
    }

-- ---- a file is that of one matrix, or of one policy

pub matrix_one : {n k n' k' : ℕ} {m m' s : List ℕ} → MatrixFile n k m s → MatrixFile n' k' m' s → (n ≡ n') × (k ≡ k') × (m ≡ m')
matrix_one {s = s} f g =
    let a = matrix_says f in
    let b = matrix_says g in
    let e = sym a.entities ∙ b.entities in
    let h = sym a.rights ∙ b.rights in
    (e, h, sym a.matrix ∙ (λ i. each (e i) (row_at s 6 (h i * e i))) ∙ b.matrix)

pub policy_one : {n k n' k' : ℕ} {P P' : Policy} {s : List ℕ} → PolicyFile n k P s → PolicyFile n' k' P' s → (n ≡ n') × (k ≡ k') × (P ≡ P')
policy_one {s = s} f g =
    let a = policy_says f in
    let b = policy_says g in
    let e = sym a.entities ∙ b.entities in
    let h = sym a.rights ∙ b.rights in
    let d = sym a.domains ∙ b.domains in
    let l = sym a.assignment ∙ (λ i. tab (e i) (λ u. number_at s (10 + u * 2))) ∙ b.assignment in
    let t = sym a.table ∙ (λ i. each (d i) (row_at s (11 + e i * 2) (h i * d i))) ∙ b.table in
    (e, h, λ i. record { domains = d i; assignment = l i; table = t i })

-- ---- a file is short

-- within the limits no line and no file is long
pub record Short (c k : ℕ) : Type 0 where
  pub row : k * c ≤ 512
  pub rows : c * (k * c + 5) ≤ 33088

pub short : {c k : ℕ} → c ≤ 64 → k ≤ 8 → Short c k
short {c} {k} h l =
    let row : k * c ≤ 512 = mul-le-mul l h in
    let line : k * c + 5 ≤ 517 = omega arith in
    record { row = row; rows = mul-le-mul h line }

pub matrix_short : {n k : ℕ} {m s : List ℕ} → MatrixFile n k m s → length s ≤ 33097
matrix_short {n} {k} f = omega (arith, (matrix_says f).long, (short f.matrix.laid.entities f.matrix.laid.rights).rows)

pub policy_short : {n k : ℕ} {P : Policy} {s : List ℕ} → PolicyFile n k P s → length s ≤ 33230
policy_short {n} {k} {P} f = omega (arith, (policy_says f).long, f.within.entities, (short f.within.few f.within.rights).rows)
