-- What is known once a group of rules finds nothing. Assumes nothing.
use mathlib.Core.Path.{◌≡◌, refl, sym, ap, ◌∙◌, subst}
use mathlib.Core.Logic.{◌⊎◌, inl, inr}
use mathlib.Core.Bool.{Bool, true, false, not, ◌||◌}
use mathlib.Core.List.{List, [], ◌∷◌, ◌++◌}
use Prim.Native.Nat.{ℕ, ◌*◌, ◌≤◌, ◌<◌}
use native.Mathlib.Omega.{arith}
use borrow.Author.Tests.{ltb-false, leb-false, eqb-true, eqb-false, not-false, lt-ltb, le-ltb, lt-leb, eq-eqb, ne_eqb}
use lib.Dec.{T, eqb, leb, ltb, leb→le, le→leb, eqb→eq}
use lib.ListN.{length, get_or}
use Rattle.model.specs.declared.Fault.{Fault}
use Rattle.model.specs.declared.Fault.TheVariants.{Limit, MatrixLength, MatrixCell, Unlogged, AssignmentLength}
use Rattle.model.specs.declared.Fault.TheVariants.{DomainNumber, TableLength, TableCell, OutOfRange}
use Rattle.model.specs.declared.Refusal.{Refusal}
use Rattle.std.specs.Prelude.{Ok, Err}
use Rattle.model.specs.Below.{any, first}
use Rattle.model.specs.Matrix.{cell_at, cell, Laid, Holds, Full}
use Rattle.model.specs.Refusal.{Rule, checked, refusal, cell_refusal}
use Rattle.model.specs.Rules.{lowest, lowest_rule, length_rule, list_rules, size_rules, matrix_rules, full_rules, assignment_rules}
use Rattle.model.specs.Rules.{whole_rules, table_rules, request_rules, pair_rules, room_rules}
use Rattle.model.proofs.Tests.{same_test_lem, eqb_of, decide, true_of, false_of}
use Rattle.model.proofs.Below.{first_of, first_none, first_same, any_at, any_of}
use Rattle.model.proofs.Places.{cell_inside}
use Rattle.model.proofs.Groups.{checked_fine, checked_applies, checked_passes, group_fine, group_bad, groups_fine}

-- ---- sizes

pub record Sized (n k d : ℕ) : Type 0 where
  pub entities : n ≤ 64
  pub right : 0 < k
  pub rights : k ≤ 8
  pub domains : d ≤ 64

or_false : (a b : Bool) → (a || b) ≡ false → (a ≡ false) × (b ≡ false)
or_false true b e = absurd (subst T e tt)
or_false false b e = (refl, e)

pub sizes_fine : (n k d : ℕ) → checked (size_rules n k d) ≡ Ok tt → Sized n k d
unfolding size_rules
sizes_fine n k d e =
    let (t0, e1) = checked_fine (ltb 64 n) (refusal Limit 0) _ e in
    let (t1, e2) = checked_fine (eqb k 0 || ltb 8 k) (refusal Limit 1) _ e1 in
    let (t2, e3) = checked_fine (ltb 64 d) (refusal Limit 2) _ e2 in
    let (t3, t4) = or_false (eqb k 0) (ltb 8 k) t1 in
    let some = eqb-false k 0 t3 in
    record { entities = ltb-false 64 n t0; right = omega arith; rights = ltb-false 8 k t4; domains = ltb-false 64 d t2 }

pub sizes_pass : (n k d : ℕ) → n ≤ 64 → 0 < k → k ≤ 8 → d ≤ 64 → checked (size_rules n k d) ≡ Ok tt
unfolding size_rules
sizes_pass n k d h s l m = rw (le-ltb 64 n h, ne_eqb k 0 (λ e. omega arith), le-ltb 8 k l, le-ltb 64 d m)

-- ---- the lowest place that passes

pub lowest_some : (p : ℕ → Bool) (l : List ℕ) → any (length l) (λ i. p (get_or l i 0)) ≡ ltb (lowest p l) (length l)
unfolding lowest
lowest_some p l = go (decide (any (length l) q))
  where
    q : ℕ → Bool
    q i = p (get_or l i 0)

    go : T (any (length l) q) ⊎ ¬ T (any (length l) q) → any (length l) q ≡ ltb (first (length l) q) (length l)
    go (inl t) =
        let r = any_of (length l) q t in
        true_of (any (length l) q) t ∙ sym (lt-ltb (first (length l) q) (length l) (first_of (length l) q r.0 r.1 r.2).below)
    go (inr f) =
        let e = first_none (length l) q (λ i h t. f (any_at (length l) q i h t)) in
        false_of (any (length l) q) f ∙ sym (le-ltb (first (length l) q) (length l) (omega arith))

-- where the rule does not apply, no element passes
pub lowest_none : (p : ℕ → Bool) (l : List ℕ) → any (length l) (λ i. p (get_or l i 0)) ≡ false → (i : ℕ) → i < length l → p (get_or l i 0) ≡ false
lowest_none p l e i h = false_of (p (get_or l i 0)) (λ t. subst T e (any_at (length l) (λ i. p (get_or l i 0)) i h t))

-- ---- a list of the wanted length whose elements are below b

pub record Filled (len b : ℕ) (l : List ℕ) : Type 0 where
  pub long : length l ≡ len
  pub below : (i : ℕ) → i < length l → get_or l i 0 < b

pub list_fine : (fault : Fault) (want b : ℕ) (l : List ℕ) (at : ℕ → Refusal) → checked (list_rules fault want (leb b) l at) ≡ Ok tt → Filled want b l
unfolding lowest_rule
list_fine fault want b l at e =
    let (t, e1) = checked_fine (not (eqb (length l) want)) (refusal fault 0) _ e in
    let (f, e2) = checked_fine (any (length l) (λ i. leb b (get_or l i 0))) (at (lowest (leb b) l)) (Ok tt) e1 in
    record {
      long = eqb-true (length l) want (not-false (eqb (length l) want) t);
      below = λ i h. leb-false b (get_or l i 0) (lowest_none (leb b) l f i h);
    }

pub matrix_fine : (n k : ℕ) (m : List ℕ) → checked (matrix_rules n k m) ≡ Ok tt → Filled (n * k * n) 3 m
unfolding matrix_rules
matrix_fine n k m e = list_fine MatrixLength (n * k * n) 3 m (cell_refusal MatrixCell k n) e

pub assignment_fine : (n d : ℕ) (s : List ℕ) → checked (assignment_rules n d s) ≡ Ok tt → Filled n d s
unfolding assignment_rules
assignment_fine n d s e = list_fine AssignmentLength n d s (refusal DomainNumber) e

pub table_fine : (k d : ℕ) (t : List ℕ) → checked (table_rules k d t) ≡ Ok tt → Filled (d * k * d) 2 t
unfolding table_rules
table_fine k d t e = list_fine TableLength (d * k * d) 2 t (cell_refusal TableCell k d) e

-- a length that is right leaves the later rules
pub length_pass : (fault : Fault) (have want : ℕ) (rs : List Rule) → have ≡ want → checked (length_rule fault have want ∷ rs) ≡ checked rs
length_pass fault have want rs e = checked_passes (not (eqb have want)) (refusal fault 0) (checked rs) (ap not (eq-eqb have want e))

pub length_bad : (fault : Fault) (have want : ℕ) (rs : List Rule) → ¬ (have ≡ want) → checked (length_rule fault have want ∷ rs) ≡ Err (refusal fault 0)
length_bad fault have want rs f = checked_applies (not (eqb have want)) (refusal fault 0) (checked rs) (ap not (ne_eqb have want f))

-- ---- what the code's tests decide, at each of their exits

module _ (p : ℕ → Bool) (l : List ℕ) (at : ℕ → Refusal) (i : ℕ) (e : i ≡ lowest p l) where
  pub lowest_bad : i < length l → Err (at i) ≡ checked (lowest_rule p l at ∷ [])
  unfolding lowest_rule
  lowest_bad h = ap (λ j. Err (at j)) e ∙ sym (checked_applies (any (length l) (λ j. p (get_or l j 0))) (at (lowest p l)) (Ok tt)
      (lowest_some p l ∙ lt-ltb (lowest p l) (length l) (omega arith)))

  pub lowest_fine : length l ≤ i → (Ok tt) ≡ checked (lowest_rule p l at ∷ [])
  unfolding lowest_rule
  lowest_fine h = sym (checked_passes (any (length l) (λ j. p (get_or l j 0))) (at (lowest p l)) (Ok tt)
      (lowest_some p l ∙ le-ltb (lowest p l) (length l) (omega arith)))

module _ (fault : Fault) (want : ℕ) (p : ℕ → Bool) (l : List ℕ) (at : ℕ → Refusal) where
  pub list_short : ¬ (length l ≡ want) → Err (refusal fault 0) ≡ checked (list_rules fault want p l at)
  list_short f = sym (length_bad fault (length l) want (lowest_rule p l at ∷ []) f)

  long : length l ≡ want → checked (lowest_rule p l at ∷ []) ≡ checked (list_rules fault want p l at)
  long q = sym (length_pass fault (length l) want (lowest_rule p l at ∷ []) q)

  pub list_bad : (i : ℕ) → length l ≡ want → i ≡ lowest p l → i < length l → Err (at i) ≡ checked (list_rules fault want p l at)
  list_bad i q e h = lowest_bad p l at i e h ∙ long q

  pub list_passes : (i : ℕ) → length l ≡ want → i ≡ lowest p l → length l ≤ i → (Ok tt) ≡ checked (list_rules fault want p l at)
  list_passes i q e h = lowest_fine p l at i e h ∙ long q

-- ---- a full matrix

-- among cells below 3 the unlogged are those from 2 on
two : (x : ℕ) → x < 3 → leb 2 x ≡ eqb 2 x
two x h = same_test_lem (leb 2 x) (eqb 2 x)
    (λ t. eqb_of 2 x (omega (arith, leb→le 2 x t)))
    (λ t. le→leb 2 x (omega (arith, eqb→eq 2 x t)))

pub unlogged : (m : List ℕ) → ((i : ℕ) → i < length m → get_or m i 0 < 3) → lowest (leb 2) m ≡ lowest (eqb 2) m
unfolding lowest
unlogged m f = first_same (length m) (λ i. leb 2 (get_or m i 0)) (λ i. eqb 2 (get_or m i 0)) (λ i h. two (get_or m i 0) (f i h))

-- where the rule of a lowest place does not apply, no element passes
lowest_clear : (p : ℕ → Bool) (l : List ℕ) (at : ℕ → Refusal) → checked (lowest_rule p l at ∷ []) ≡ Ok tt
    → (i : ℕ) → i < length l → p (get_or l i 0) ≡ false
unfolding lowest_rule
lowest_clear p l at e = lowest_none p l (checked_fine (any (length l) (λ i. p (get_or l i 0))) (at (lowest p l)) (Ok tt) e).0

pub full_fine : (n k : ℕ) (m : List ℕ) → Filled (n * k * n) 3 m → checked (full_rules n k m) ≡ Ok tt → Filled (n * k * n) 2 m
unfolding full_rules
full_fine n k m F e = record {
  long = F.long;
  below = λ i h. let unlike = eqb-false _ (get_or m i 0) (lowest_clear _ m _ e i h) in omega (arith, F.below i h, unlike);
}

-- ---- and the other way round: what is in order is passed

lowest_pass : (p : ℕ → Bool) (l : List ℕ) (at : ℕ → Refusal) → ((i : ℕ) → i < length l → p (get_or l i 0) ≡ false)
    → checked (lowest_rule p l at ∷ []) ≡ Ok tt
unfolding lowest_rule
lowest_pass p l at f = checked_passes (any (length l) (λ i. p (get_or l i 0))) (at (lowest p l)) (Ok tt)
    (false_of (any (length l) (λ i. p (get_or l i 0))) (λ t. let r = any_of (length l) (λ i. p (get_or l i 0)) t in subst T (f r.0 r.1) r.2))

list_pass : (fault : Fault) (want b : ℕ) (l : List ℕ) (at : ℕ → Refusal) → Filled want b l → checked (list_rules fault want (leb b) l at) ≡ Ok tt
list_pass fault want b l at F =
    length_pass fault (length l) want (lowest_rule (leb b) l at ∷ []) F.long ∙ lowest_pass (leb b) l at (λ i h. lt-leb b (get_or l i 0) (F.below i h))

pub matrix_pass : (n k : ℕ) (m : List ℕ) → Filled (n * k * n) 3 m → checked (matrix_rules n k m) ≡ Ok tt
unfolding matrix_rules
matrix_pass n k m F = list_pass MatrixLength (n * k * n) 3 m (cell_refusal MatrixCell k n) F

pub assignment_pass : (n d : ℕ) (s : List ℕ) → Filled n d s → checked (assignment_rules n d s) ≡ Ok tt
unfolding assignment_rules
assignment_pass n d s F = list_pass AssignmentLength n d s (refusal DomainNumber) F

pub table_pass : (k d : ℕ) (t : List ℕ) → Filled (d * k * d) 2 t → checked (table_rules k d t) ≡ Ok tt
unfolding table_rules
table_pass k d t F = list_pass TableLength (d * k * d) 2 t (cell_refusal TableCell k d) F

full_pass : (n k : ℕ) (m : List ℕ) → Filled (n * k * n) 2 m → checked (full_rules n k m) ≡ Ok tt
unfolding full_rules
full_pass n k m F = lowest_pass (eqb 2) m (cell_refusal Unlogged k n) (λ i h. ne_eqb 2 (get_or m i 0) (λ e. omega (arith, F.below i h)))

-- ---- a full matrix within the limits

pub whole_fine : (n k : ℕ) (m : List ℕ) → checked (whole_rules n k m) ≡ Ok tt → Holds n k 2 m
unfolding whole_rules
whole_fine n k m e =
    let (f, g) = groups_fine (size_rules n k 0) (matrix_rules n k m ++ full_rules n k m) e in
    let (h, l) = groups_fine (matrix_rules n k m) (full_rules n k m) g in
    let z = sizes_fine n k 0 f in
    let F = full_fine n k m (matrix_fine n k m h) l in
    record { laid = record { entities = z.entities; right = z.right; rights = z.rights; size = F.long }; below = F.below }

pub whole_laid : (n k : ℕ) (m : List ℕ) → checked (whole_rules n k m) ≡ Ok tt → Laid n k m
whole_laid n k m e = (whole_fine n k m e).laid

pub whole_pass : (n k : ℕ) (m : List ℕ) → Holds n k 2 m → checked (whole_rules n k m) ≡ Ok tt
unfolding whole_rules
whole_pass n k m w =
    let l = w.laid in
    group_fine (size_rules n k 0) (matrix_rules n k m ++ full_rules n k m) (sizes_pass n k 0 l.entities l.right l.rights (omega arith))
    ∙ group_fine (matrix_rules n k m) (full_rules n k m) (matrix_pass n k m (record { long = l.size; below = λ i h. omega (arith, w.below i h) }))
    ∙ full_pass n k m (record { long = l.size; below = w.below })

-- so no cell is unlogged
pub whole_full : {n k : ℕ} {m : List ℕ} → Holds n k 2 m → Full n k (cell k n m)
unfolding Full cell
whole_full {n} {k} {m} w u a v h b l = w.below (cell_at k n u a v) (rw w.laid.size (cell_inside h b l))

-- ---- asked numbers, room

pub request_fine : (n k u a v : ℕ) → checked (request_rules n k u a v) ≡ Ok tt → (u < n) × (a < k) × (v < n)
unfolding request_rules
request_fine n k u a v e =
    let (t0, e1) = checked_fine (leb n u) (refusal OutOfRange 0) _ e in
    let (t1, e2) = checked_fine (leb k a) (refusal OutOfRange 1) _ e1 in
    let (t2, e3) = checked_fine (leb n v) (refusal OutOfRange 2) _ e2 in
    (leb-false n u t0, leb-false k a t1, leb-false n v t2)

pub request_pass : (n k u a v : ℕ) → u < n → a < k → v < n → checked (request_rules n k u a v) ≡ Ok tt
unfolding request_rules
request_pass n k u a v h b l = rw (lt-leb n u h, lt-leb k a b, lt-leb n v l)

pub pair_fine : (n u v : ℕ) → checked (pair_rules n u v) ≡ Ok tt → (u < n) × (v < n)
unfolding pair_rules
pair_fine n u v e =
    let (t0, e1) = checked_fine (leb n u) (refusal OutOfRange 0) _ e in
    let (t1, e2) = checked_fine (leb n v) (refusal OutOfRange 1) _ e1 in
    (leb-false n u t0, leb-false n v t1)

pub pair_pass : (n u v : ℕ) → u < n → v < n → checked (pair_rules n u v) ≡ Ok tt
unfolding pair_rules
pair_pass n u v h l = rw (lt-leb n u h, lt-leb n v l)

pub room_pass : (fault : Fault) (have need : ℕ) → need ≤ have → checked (room_rules fault have need) ≡ Ok tt
unfolding room_rules
room_pass fault have need h = rw (le-ltb have need h)

pub room_fine : (fault : Fault) (have need : ℕ) → checked (room_rules fault have need) ≡ Ok tt → need ≤ have
unfolding room_rules
room_fine fault have need e = ltb-false have need (checked_fine (ltb have need) (refusal fault need) (Ok tt) e).0

-- what decides the rules of a list
pub ruleset listed = (list_short, list_bad, list_passes, lowest_bad, lowest_fine)

-- what decides a list of groups, and what is known once a group has found nothing
pub ruleset decided = (group_bad, group_fine, sizes_fine, whole_laid, pair_fine, request_fine, room_fine)
