-- The files of the two layouts are the well-formed files: from the layout to the file, from the file to the layout, and every start of
-- one can be gone on with. So what a layout reaches decides, and gives the place. Assumes nothing.
use mathlib.Core.Path.{◌≡◌, refl, sym, ap, ◌∙◌, subst}
use mathlib.Core.Bool.{cond}
use mathlib.Core.List.{List, [], ◌∷◌, ◌++◌, append_assoc}
use Prim.Native.Nat.{ℕ, ◌*◌, ◌≤◌, ◌<◌}
use native.Mathlib.Decide.{dec_lt}
use native.Mathlib.Nat.{mul_assoc}
use native.Mathlib.Omega.{arith}
use borrow.Author.Tests.{eq-eqb, ne_eqb}
use lib.Dec.{eqb}
use lib.ListN.{length, get_or}
use Rattle.model.specs.Policy.{policy, domain_of}
use Rattle.model.proofs.Rules.{Filled}
use Rattle.layout.specs.Text.{MX, RW, PD, AS, TB, ZZ, each, one, two, line, record_text, matrix_text, policy_text}
use Rattle.layout.specs.Files.{MatrixFormed, PolicyFormed, Malformed}
use Rattle.layout.specs.Layout.{Layout, end, reach, text, digit, number, numbers, records, sizes, close}
use Rattle.layout.specs.Layout.{matrix_layout, policy_sizes, assigned, policy_layout}
use Rattle.layout.proofs.Places.{Of, Live, reach_formed, reach_malformed}
use Rattle.layout.proofs.Pieces.{texts_text, digit_in, digit_of_lem, digit_live, number_in, number_of, number_live}
use Rattle.layout.proofs.Rows.{texts_numbers, texts_records}

-- texts behind each other
joined : (a b : List ℕ) (s s₁ t : List ℕ) → s ≡ a ++ s₁ → s₁ ≡ b ++ t → s ≡ a ++ (b ++ t)
joined a b s s₁ t e f = e ∙ ap (λ (l : List ℕ). a ++ l) f

-- ---- a mark, the number of entities, that of rights

module _ (mark : List ℕ) (F : ℕ → ℕ → Layout) where
  pub record Sized (s : List ℕ) : Type 0 where
    pub n : ℕ
    pub k : ℕ
    pub rest : List ℕ
    pub entities : n ≤ 64
    pub right : 0 < k
    pub rights : k ≤ 8
    pub is : s ≡ mark ++ (two n ++ (one k ++ rest))
    pub of : Of (F n k) rest

  sizes_in : (s : List ℕ) → Of (sizes mark F) s → Sized s
  unfolding sizes
  sizes_in s h =
      let (x, s₁, o₁, e₁, h₁) = (texts_text mark).into _ s h in
      let (n, s₂, o₂, e₂, h₂) = number_in _ _ _ (omega arith) s₁ h₁ in
      let (k, s₃, o₃, e₃, h₃) = digit_in _ _ _ (omega arith) s₂ h₂ in
      record {
        n = n;
        k = k;
        rest = s₃;
        entities = omega (arith, o₂.1);
        right = omega (arith, o₃.0);
        rights = omega (arith, o₃.1);
        is = joined mark (two n) s s₁ (one k ++ s₃) e₁ (joined (two n) (one k) s₁ s₂ s₃ e₂ e₃);
        of = h₃;
      }

  sizes_of : (n k : ℕ) (t : List ℕ) → n ≤ 64 → 0 < k → k ≤ 8 → Of (F n k) t → Of (sizes mark F) (mark ++ (two n ++ (one k ++ t)))
  unfolding sizes
  sizes_of n k t a b c h =
      (texts_text mark).from (number 0 65 (λ n. digit 1 9 (F n))) tt (two n ++ (one k ++ t)) tt
      (number_of 0 65 (λ n. digit 1 9 (F n)) (omega arith) n (one k ++ t) (omega arith) (omega arith)
      (digit_of_lem 1 9 (F n) (omega arith) k t b (omega arith) h))

  sizes_live : ((n k : ℕ) → n ≤ 64 → 0 < k → k ≤ 8 → Live (F n k)) → Live (sizes mark F)
  unfolding sizes
  sizes_live go =
      (texts_text mark).live (number 0 65 (λ n. digit 1 9 (F n))) (number_live 0 65 (λ n. digit 1 9 (F n)) (omega arith) (omega arith) (λ n a b.
      digit_live 1 9 (F n) (omega arith) (omega arith) (λ k c d. go n k (omega arith) c (omega arith))))

-- ---- the last line

close_in : (s : List ℕ) → Of close s → s ≡ line ZZ
unfolding close
close_in s h =
    let (x, s₁, o₁, e₁, h₁) = (texts_text ZZ).into (text (10 ∷ []) end) s h in
    let (y, s₂, o₂, e₂, h₂) = (texts_text (10 ∷ [])).into end s₁ h₁ in
    e₁ ∙ ap (λ (l : List ℕ). ZZ ++ l) (e₂ ∙ ap (λ (l : List ℕ). 10 ∷ l) (nil s₂ h₂))
  where
    nil : (s : List ℕ) → Of end s → s ≡ []
    nil [] h = refl
    nil (x ∷ s) h = absurd h

close_of : Of close (line ZZ)
unfolding close
close_of = (texts_text ZZ).from (text (10 ∷ []) end) tt (10 ∷ []) tt ((texts_text (10 ∷ [])).from end tt [] tt tt)

close_live : Live close
unfolding close
close_live = (texts_text ZZ).live (text (10 ∷ []) end) ((texts_text (10 ∷ [])).live end tt)

-- ---- the records and the last line, behind a line feed

abbrev tail : List ℕ → ℕ → ℕ → ℕ → Layout
tail mark lim w c = text (10 ∷ []) (records mark lim w c close)

module _ (mark : List ℕ) (lim w c : ℕ) (some : 0 < lim) (few : lim ≤ 3) (short : c ≤ 100) where
  tail_in : (s : List ℕ) → Of (tail mark lim w c) s → (l : List ℕ) × Filled (c * w) lim l × (s ≡ 10 ∷ (each c (record_text mark w l) ++ line ZZ))
  tail_in s h =
      let (x, s₁, o₁, e₁, h₁) = (texts_text (10 ∷ [])).into (records mark lim w c close) s h in
      let (l, s₂, o₂, e₂, h₂) = (texts_records mark lim w c some few short).into close s₁ h₁ in
      (l, o₂, e₁ ∙ ap (λ (t : List ℕ). 10 ∷ t) (e₂ ∙ ap (λ (t : List ℕ). each c (record_text mark w l) ++ t) (close_in s₂ h₂)))

  tail_of : (l : List ℕ) → Filled (c * w) lim l → Of (tail mark lim w c) (10 ∷ (each c (record_text mark w l) ++ line ZZ))
  tail_of l o =
      (texts_text (10 ∷ [])).from (records mark lim w c close) tt (each c (record_text mark w l) ++ line ZZ) tt
      ((texts_records mark lim w c some few short).from close l (line ZZ) o close_of)

  tail_live : Live (tail mark lim w c)
  tail_live = (texts_text (10 ∷ [])).live (records mark lim w c close) ((texts_records mark lim w c some few short).live close close_live)

-- n·k·n and n·(k·n)
module _ (x k y b : ℕ) (l : List ℕ) where
  resized : Filled (x * (k * y)) b l → Filled (x * k * y) b l
  resized F = subst (λ (z : ℕ). Filled z b l) (sym (mul_assoc x k y)) F

  sized : Filled (x * k * y) b l → Filled (x * (k * y)) b l
  sized F = subst (λ (z : ℕ). Filled z b l) (mul_assoc x k y) F

-- ---- the matrix file

module _ (s : List ℕ) where
  matrix_in : Of matrix_layout s → MatrixFormed s
  unfolding matrix_layout matrix_text
  matrix_in h =
      let z = sizes_in MX _ s h in
      let (m, f, e) = tail_in RW 3 (z.k * z.n) z.n (omega arith) (omega arith) (omega (arith, z.entities)) z.rest z.of in
      let g = resized z.n z.k z.n 3 m f in (
        z.n,
        z.k,
        m,
        record {
          matrix = record {
            laid = record { entities = z.entities; right = z.right; rights = z.rights; size = g.long };
            below = g.below;
          };
          text = z.is ∙ ap (λ (l : List ℕ). MX ++ (two z.n ++ (one z.k ++ l))) e;
        },
      )

  pub matrix_of : MatrixFormed s → Of matrix_layout s
  unfolding matrix_layout matrix_text
  matrix_of (n, k, m, f) =
      let l = f.matrix.laid in
      subst (Of (sizes MX (λ n k. tail RW 3 (k * n) n))) (sym f.text)
      (sizes_of MX (λ n k. tail RW 3 (k * n) n) n k (10 ∷ (each n (record_text RW (k * n) m) ++ line ZZ)) l.entities l.right l.rights
      (tail_of RW 3 (k * n) n (omega arith) (omega arith) (omega (arith, l.entities)) m
      (sized n k n 3 m (record { long = l.size; below = f.matrix.below }))))

matrix_live : Live matrix_layout
unfolding matrix_layout
matrix_live = sizes_live MX (λ n k. tail RW 3 (k * n) n) (λ n k a b c. tail_live RW 3 (k * n) n (omega arith) (omega arith) (omega arith))

module _ (s : List ℕ) (r : ℕ) (e : r ≡ reach matrix_layout s) where
  pub matrix_formed : length s < r → MatrixFormed s
  matrix_formed h = reach_formed matrix_layout matrix_live MatrixFormed matrix_in matrix_of s r e h

  pub matrix_malformed : r ≤ length s → Malformed MatrixFormed s r
  matrix_malformed h = reach_malformed matrix_layout matrix_live MatrixFormed matrix_in matrix_of s r e h

-- ---- the policy file

-- what follows the first line's numbers
abbrev body : ℕ → ℕ → ℕ → Layout
body n k d = text (10 ∷ []) (text AS (numbers d n (tail TB 2 (k * d) d)))

-- where there are entities there is a domain
least : ℕ → ℕ
least n = cond (eqb n 0) 0 1

least_some : (n d : ℕ) → least n ≤ d → 0 < n → 0 < d
unfolding least
least_some n d h l = let e : ◌≡◌ {A = ℕ} (cond (eqb n 0) 0 1) 1 = rw (ne_eqb n 0 (λ q. omega arith)) in omega arith

least_le : (n d : ℕ) → (0 < n → 0 < d) → least n ≤ d
unfolding least
least_le n d f = go (dec_lt 0 n)
  where
    go : Dec (0 < n) → cond (eqb n 0) 0 1 ≤ d
    go (yes h) = rw (ne_eqb n 0 (λ q. omega arith)) (f h)
    go (no h) = rw (eq-eqb n 0 (omega arith)) (omega arith)

module _ (n k d : ℕ) (some : 0 < n → 0 < d) (few : d ≤ 64) where
  assigned_is : (E R s₁ s₂ s₃ : List ℕ) → s₁ ≡ AS ++ s₂ → s₂ ≡ E ++ s₃ → s₃ ≡ 10 ∷ R → s₁ ≡ AS ++ ((E ++ (10 ∷ [])) ++ R)
  assigned_is E R s₁ s₂ s₃ a b c =
      joined AS E s₁ s₂ (10 ∷ R) a (b ∙ ap (λ (l : List ℕ). E ++ l) c) ∙ ap (λ (l : List ℕ). AS ++ l) (sym (append_assoc E (10 ∷ []) R))

  body_in : (s : List ℕ) → Of (body n k d) s
      → (l : List ℕ) × (t : List ℕ) × Filled n d l × Filled (d * (k * d)) 2 t
      × (s ≡ 10 ∷ (line (AS ++ each n (λ u. two (get_or l u 0))) ++ (each d (record_text TB (k * d) t) ++ line ZZ)))
  body_in s h =
      let (x, s₁, o₁, e₁, h₁) = (texts_text (10 ∷ [])).into (text AS (numbers d n (tail TB 2 (k * d) d))) s h in
      let (y, s₂, o₂, e₂, h₂) = (texts_text AS).into (numbers d n (tail TB 2 (k * d) d)) s₁ h₁ in
      let (l, s₃, o₃, e₃, h₃) = (texts_numbers d n some (omega arith)).into (tail TB 2 (k * d) d) s₂ h₂ in
      let (t, o₄, e₄) = tail_in TB 2 (k * d) d (omega arith) (omega arith) (omega arith) s₃ h₃ in
      let E : List ℕ = each n (λ u. two (get_or l u 0)) in
      let R : List ℕ = each d (record_text TB (k * d) t) ++ line ZZ in (
        l,
        t,
        o₃,
        o₄,
        joined (10 ∷ []) AS s s₁ ((E ++ (10 ∷ [])) ++ R) e₁ (assigned_is E R s₁ s₂ s₃ e₂ e₃ e₄),
      )

  body_of : (l t : List ℕ) → Filled n d l → Filled (d * (k * d)) 2 t
      → Of (body n k d) (10 ∷ (line (AS ++ each n (λ u. two (get_or l u 0))) ++ (each d (record_text TB (k * d) t) ++ line ZZ)))
  body_of l t f g =
      let E : List ℕ = each n (λ u. two (get_or l u 0)) in
      let R : List ℕ = each d (record_text TB (k * d) t) ++ line ZZ in
      (texts_text (10 ∷ [])).from (text AS (numbers d n (tail TB 2 (k * d) d))) tt (line (AS ++ E) ++ R) tt
      (subst (Of (text AS (numbers d n (tail TB 2 (k * d) d)))) (ap (λ (z : List ℕ). AS ++ z) (sym (append_assoc E (10 ∷ []) R)))
      ((texts_text AS).from (numbers d n (tail TB 2 (k * d) d)) tt (E ++ (10 ∷ R)) tt
      ((texts_numbers d n some (omega arith)).from (tail TB 2 (k * d) d) l (10 ∷ R) f
      (tail_of TB 2 (k * d) d (omega arith) (omega arith) (omega arith) t g))))

  body_live : Live (body n k d)
  body_live =
      (texts_text (10 ∷ [])).live (text AS (numbers d n (tail TB 2 (k * d) d))) ((texts_text AS).live (numbers d n (tail TB 2 (k * d) d))
      ((texts_numbers d n some (omega arith)).live (tail TB 2 (k * d) d) (tail_live TB 2 (k * d) d (omega arith) (omega arith) (omega arith))))

abbrev policy_rest : ℕ → ℕ → Layout
policy_rest n k = number (cond (eqb n 0) 0 1) 65 (body n k)

module _ (s : List ℕ) where
  policy_in : Of policy_layout s → PolicyFormed s
  unfolding policy_layout policy_sizes assigned policy_text domain_of least
  policy_in h =
      let z = sizes_in PD _ s h in
      let (d, s₁, o₁, e₁, h₁) = number_in _ _ _ (omega arith) z.rest z.of in
      let (l, t, f, g, e₂) = body_in z.n z.k d (least_some z.n d o₁.0) (omega (arith, o₁.1)) s₁ h₁ in
      let r = resized d z.k d 2 t g in (
        z.n,
        z.k,
        policy d l t,
        record {
          within = record {
            entities = z.entities;
            right = z.right;
            rights = z.rights;
            few = omega (arith, o₁.1);
            valid = record { entities = f.long; below = λ u b. f.below u (rw f.long b); size = r.long; cells = r.below };
          };
          text = joined (PD ++ (two z.n ++ one z.k)) (two d) s z.rest _ z.is (joined (two d) (10 ∷ []) z.rest s₁ _ e₁ e₂);
        },
      )

  pub policy_of : PolicyFormed s → Of policy_layout s
  unfolding policy_layout policy_sizes assigned policy_text domain_of least
  policy_of (n, k, P, f) =
      let d = P.domains in
      let w = f.within in
      let W = w.valid in
      let some : 0 < n → 0 < d = λ h. omega (arith, W.below 0 h) in
      let R : List ℕ = 10 ∷ (line (AS ++ each n (λ u. two (get_or P.assignment u 0))) ++ (each d (record_text TB (k * d) P.table) ++ line ZZ)) in
      subst (Of (sizes PD policy_rest)) (sym f.text)
      (sizes_of PD policy_rest n k (two d ++ R) w.entities w.right w.rights
      (number_of (least n) 65 (body n k) (omega arith) d R (least_le n d some) (omega (arith, w.few))
      (body_of n k d some w.few P.assignment P.table
      (record { long = W.entities; below = λ i h. W.below i (omega (arith, W.entities)) })
      (sized d k d 2 P.table (record { long = W.size; below = W.cells })))))

policy_live : Live policy_layout
unfolding policy_layout policy_sizes assigned least
policy_live = sizes_live PD policy_rest (λ n k a b c.
    number_live (least n) 65 (body n k) (omega arith) (least_few n) (λ d l h. body_live n k d (least_some n d l) (omega arith)))
  where
    least_few : (n : ℕ) → least n < 65
    least_few n = omega (arith, least_le n 1 (λ _. omega arith))

module _ (s : List ℕ) (r : ℕ) (e : r ≡ reach policy_layout s) where
  pub policy_formed : length s < r → PolicyFormed s
  policy_formed h = reach_formed policy_layout policy_live PolicyFormed policy_in policy_of s r e h

  pub policy_malformed : r ≤ length s → Malformed PolicyFormed s r
  policy_malformed h = reach_malformed policy_layout policy_live PolicyFormed policy_in policy_of s r e h
