-- The claims on the judge. Where no rule applies, what is told is the first clash in cell order or that there is none; and there is none
-- exactly where the policy enforces the matrix. Assumes nothing.
use mathlib.Core.Path.{◌≡◌, refl, sym, ap, ◌∙◌, subst}
use mathlib.Core.Logic.{inl, inr}
use mathlib.Core.Bool.{Bool, true, false}
use mathlib.Core.List.{List, [], ◌∷◌, ◌++◌}
use Prim.Native.Nat.{ℕ, ◌*◌, ◌/◌, ◌%◌, ◌≤◌, ◌<◌}
use native.Mathlib.Omega.{arith}
use borrow.Author.Tests.{lt-ltb, le-ltb, ltb-true, ltb-false}
use lib.Dec.{T, ltb}
use lib.ListN.{get_or}
use Rattle.std.specs.Prelude.{Ok}
use Rattle.model.specs.Matrix.{cell_at, cell}
use Rattle.model.specs.Policy.{Policy, domain_of, answer, Enforces}
use Rattle.model.specs.Clash.{clash_test, first_clash}
use Rattle.model.specs.Refusal.{checked, values, Unrefused}
use Rattle.model.specs.Rules.{size_rules, matrix_rules, assignment_rules, table_rules}
use Rattle.model.proofs.Below.{first_is, first_le, first_found, first_before}
use Rattle.model.proofs.Places.{cell_inside, place}
use Rattle.model.proofs.Clashes.{clash_grant, clash_deny, clash_shows, clash_at, clash_cell, agrees_iff}
use Rattle.model.proofs.Groups.{told_apart, tell_fine, told_fine, group_fine}
use Rattle.model.proofs.Rules.{sizes_pass, matrix_pass, assignment_pass, table_pass}
use Rattle.conflicts.specs.Conflict.{conflict}
use Rattle.judge.specs.declared.Verdict.{Verdict}
use Rattle.judge.specs.declared.Verdict.TheVariants as judged
use Rattle.judge.specs.Judge.{judge_rules, verdict, judge_told, verdict_values, judged_told, Judges}
use Rattle.claims.specs.Judge.{Contradicts, FirstConflict, JudgeAccepts, JudgeConflicts, JudgeServes, JudgeUnique}

verdict_one : (v w : Verdict) → verdict_values v ≡ verdict_values w → v ≡ w
verdict_one (judged.Enforces d) (judged.Enforces b) e = let q : d ≡ b = cc in ap judged.Enforces q
verdict_one (judged.Enforces d) (judged.Conflict i x) e = let z : ◌≡◌ {A = ℕ} 0 1 = cc in absurd (omega arith)
verdict_one (judged.Conflict i x) (judged.Enforces b) e = let z : ◌≡◌ {A = ℕ} 0 1 = cc in absurd (omega arith)
verdict_one (judged.Conflict i x) (judged.Conflict j y) e = let p : i ≡ j = cc in let q : x ≡ y = cc in λ t. judged.Conflict (p t) (q t)

pub judge_unique : JudgeUnique
judge_unique n k m P r q e f = told_apart verdict_values verdict_one r q (e ∙ sym f)

module _ (n k : ℕ) (m : List ℕ) (P : Policy) where
  abbrev i : ℕ
  i = conflict n k m P

  -- the two verdicts
  enforced : n * k * n ≤ i → verdict n k m P ≡ (0 ∷ P.domains ∷ [])
  unfolding verdict
  enforced h = rw (le-ltb i (n * k * n) h)

  clashed : i < n * k * n → verdict n k m P ≡ (1 ∷ i ∷ get_or m i 0 ∷ [])
  unfolding verdict
  clashed h = rw (lt-ltb i (n * k * n) h)

  data Case : Type 0 where
    none : n * k * n ≤ i → Case
    some : i < n * k * n → Case

  cases : Case
  cases = go (ltb i (n * k * n)) refl
    where
      go : (b : Bool) → ltb i (n * k * n) ≡ b → Case
      go true e = some (ltb-true i (n * k * n) e)
      go false e = none (ltb-false i (n * k * n) e)

  none_enforces : n * k * n ≤ i → Enforces n k (cell k n m) P
  unfolding conflict first_clash
  none_enforces h = (agrees_iff n k (cell k n m) (answer k P)).1 (omega (arith, first_le (n * k * n) (clash_at n k (cell k n m) (answer k P))))

  enforces_none : Enforces n k (cell k n m) P → n * k * n ≤ i
  unfolding conflict
  enforces_none E = omega (arith, (agrees_iff n k (cell k n m) (answer k P)).0 E)

  accepts : (d : ℕ) → (0 ∷ d ∷ []) ≡ verdict n k m P → Case → Enforces n k (cell k n m) P × (d ≡ P.domains)
  accepts d e (none h) = (none_enforces h, let q = e ∙ enforced h in cc)
  accepts d e (some h) = let q = e ∙ clashed h in let z : ◌≡◌ {A = ℕ} 0 1 = cc in absurd (omega arith)

  -- ---- the first conflict

  abbrev test : ℕ → Bool
  test = clash_at n k (cell k n m) (answer k P)

  contradicted : (u a v : ℕ) → Contradicts k (cell k n m) P u a v → T (clash_test (cell k n m u a v) (answer k P u a v))
  contradicted u a v (inl w) = clash_grant (cell k n m u a v) (answer k P u a v) w.0 w.1
  contradicted u a v (inr w) = clash_deny (cell k n m u a v) (answer k P u a v) w.0 w.1

  -- the test at a place, and at the cell that stands there
  at_cell : (u a v : ℕ) → a < k → v < n → T (test (cell_at k n u a v)) → Contradicts k (cell k n m) P u a v
  at_cell u a v b l t = clash_shows (cell k n m u a v) (answer k P u a v) (subst T (clash_cell n k (cell k n m) (answer k P) u a v b l) t)

  at_place : (u a v : ℕ) → a < k → v < n → Contradicts k (cell k n m) P u a v → T (test (cell_at k n u a v))
  at_place u a v b l w = subst T (sym (clash_cell n k (cell k n m) (answer k P) u a v b l)) (contradicted u a v w)

  is_first : i < n * k * n → FirstConflict n k (cell k n m) P i (get_or m i 0)
  unfolding conflict first_clash cell
  is_first h =
      let w = place n k n i h in
      record {
        sender = i / n / k;
        right = i / n % k;
        receiver = i % n;
        inside = (w.sender, w.right, w.receiver);
        place = w.is;
        logged = ap (λ (j : ℕ). get_or m j 0) w.is;
        contradicts = at_cell (i / n / k) (i / n % k) (i % n) w.right w.receiver (subst (λ (j : ℕ). T (test j)) w.is (first_found (n * k * n) test h));
        first = λ u a v hu ha hv l c. first_before (n * k * n) test (cell_at k n u a v) l (at_place u a v ha hv c);
      }

  first_is_it : (j x : ℕ) → FirstConflict n k (cell k n m) P j x → (j ≡ i) × (x ≡ get_or m j 0) × (i < n * k * n)
  unfolding conflict first_clash cell
  first_is_it j x F =
      let w = F.inside in
      let low : j < n * k * n = rw F.place (cell_inside w.0 w.1 w.2) in
      let hit : T (test j) = rw F.place (at_place F.sender F.right F.receiver w.1 w.2 F.contradicts) in
      let e = first_is (n * k * n) test j low hit (λ y l t.
      let p = place n k n y (omega arith) in
      F.first (y / n / k) (y / n % k) (y % n) p.sender p.right p.receiver (rw (← p.is) l)
      (at_cell (y / n / k) (y / n % k) (y % n) p.right p.receiver (subst (λ (z : ℕ). T (test z)) p.is t))) in
      (sym e, F.logged ∙ ap (λ (z : ℕ). get_or m z 0) (sym F.place), omega arith)

  conflicts : (j x : ℕ) → (1 ∷ j ∷ x ∷ []) ≡ verdict n k m P → Case → FirstConflict n k (cell k n m) P j x
  conflicts j x e (none h) = let q = e ∙ enforced h in let z : ◌≡◌ {A = ℕ} 0 1 = cc in absurd (omega arith)
  conflicts j x e (some h) =
      let q = e ∙ clashed h in
      let p : i ≡ j = cc in
      let o : get_or m i 0 ≡ x = cc in
      subst (λ (y : ℕ). FirstConflict n k (cell k n m) P y x) p (subst (λ (y : ℕ). FirstConflict n k (cell k n m) P i y) o (is_first h))

  shown : (vs : List ℕ) → values vs ≡ judge_told n k m P → (checked (judge_rules n k m P) ≡ Ok tt) × (vs ≡ verdict n k m P)
  unfolding judge_told
  shown vs e = told_fine (checked (judge_rules n k m P)) vs (verdict n k m P) e

  says : Unrefused (judge_rules n k m P) → (vs : List ℕ) → verdict n k m P ≡ vs → judge_told n k m P ≡ values vs
  unfolding judge_told
  says fine vs e = sym (tell_fine (checked (judge_rules n k m P)) fine (verdict n k m P)) ∙ ap values e

  -- an enforcing policy to which no refusal applies is accepted
  pub enforcing : Unrefused (judge_rules n k m P) → Enforces n k (cell k n m) P → (d : ℕ) → d ≡ P.domains → Judges n k m P (Ok (judged.Enforces d))
  enforcing fine E d e = sym (says fine (0 ∷ d ∷ []) (enforced (enforces_none E) ∙ ap (λ (x : ℕ). 0 ∷ x ∷ []) (sym e)))

pub judge_accepts : JudgeAccepts
judge_accepts n k m P r j d = (
  λ e.
      let (fine, v) = shown n k m P (0 ∷ d ∷ []) (sym (ap judged_told e) ∙ j) in
      let (E, q) = accepts n k m P d v (cases n k m P) in
      (fine, E, q),
  λ w. told_apart verdict_values verdict_one r (Ok (judged.Enforces d)) (j ∙ sym (enforcing n k m P w.0 w.1 d w.2)),
)

pub judge_conflicts : JudgeConflicts
judge_conflicts n k m P r j i x = (
  λ e.
      let (fine, v) = shown n k m P (1 ∷ i ∷ x ∷ []) (sym (ap judged_told e) ∙ j) in
      (fine, conflicts n k m P i x v (cases n k m P)),
  λ w.
      let (p, q, l) = first_is_it n k m P i x w.1 in
      told_apart verdict_values verdict_one r (Ok (judged.Conflict i x)) (j ∙ says n k m P w.0 (1 ∷ i ∷ x ∷ [])
      (clashed n k m P l ∙ λ t. 1 ∷ sym p t ∷ (ap (λ (y : ℕ). get_or m y 0) (sym p) ∙ sym q) t ∷ [])),
)

pub judge_serves : JudgeServes
unfolding judge_rules domain_of
judge_serves n k m P M W =
    let D = P.domains in
    let l = M.laid in
    let ok = W.valid in
    let later = assignment_rules n D P.assignment ++ table_rules k D P.table in
    group_fine (size_rules n k D) (matrix_rules n k m ++ later) (sizes_pass n k D W.entities W.right W.rights W.few)
    ∙ group_fine (matrix_rules n k m) later (matrix_pass n k m (record { long = l.size; below = M.below }))
    ∙ group_fine (assignment_rules n D P.assignment) (table_rules k D P.table)
    (assignment_pass n D P.assignment (record { long = ok.entities; below = λ i h. ok.below i (omega (arith, ok.entities)) }))
    ∙ table_pass k D P.table (record { long = ok.size; below = ok.cells })
