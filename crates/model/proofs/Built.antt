-- The built policy. Its table gives back every cell, since a cell is the same for alike senders and for alike receivers; so it
-- enforces its matrix (Theorem 2.14 (a)). What an enforcing policy puts together is alike (Lemma A.6), and so shares a built domain:
-- that is demand 3, and with the pigeonhole principle no enforcing policy has fewer domains with a member. Assumes nothing.
use mathlib.Core.Path.{◌≡◌, sym, ◌∙◌, subst}
use mathlib.Core.Logic.{◌↔◌}
use mathlib.Core.Bool.{Bool}
use Prim.Native.Nat.{ℕ, ◌*◌, ◌/◌, ◌%◌, ◌≤◌, ◌<◌}
use native.Mathlib.Nat.{le_trans}
use native.Mathlib.Omega.{arith}
use lib.Dec.{eqb}
use lib.ListN.{length}
use Rattle.model.specs.Below.{any}
use Rattle.model.specs.Matrix.{Cells, cell_at, cell, Full}
use Rattle.model.specs.Alike.{Alike, SameRows, alike_test}
use Rattle.model.specs.Classes.{smallest, classes, class_of, member_of}
use Rattle.model.specs.Policy.{Policy, domain_of, Valid, answer, Enforces, labels, used, Together}
use Rattle.model.specs.Built.{Edge, table_of, built}
use Rattle.model.proofs.Tests.{same_test_lem}
use Rattle.model.proofs.Below.{any_at, any_of, length_tab, get_or_tab}
use Rattle.model.proofs.Count.{count_same}
use Rattle.model.proofs.Places.{cell_inside, place, table_at}
use Rattle.model.proofs.Classes.{classes_le, class_same, class_apart, class_below, class_rises, class_hit, fewest, all_used}
use Rattle.model.proofs.Classes.{smallest_below, smallest_in, member_is, member_low}
use Rattle.model.proofs.Alike.{alike_iff, alike_sound, alike_complete, alike_tests}
use Rattle.model.proofs.Shared.{shared_rows, shared_columns}

-- a policy's answer is 0 or 1
pub answer_low : (n k : ℕ) (P : Policy) → Valid n k P → (u a v : ℕ) → u < n → a < k → v < n → answer k P u a v < 2
unfolding answer cell
answer_low n k P ok u a v h b l =
    ok.cells (cell_at k P.domains (domain_of P u) a (domain_of P v)) (rw ok.size (cell_inside (ok.below u h) b (ok.below v l)))

module _ (n k : ℕ) (M : Cells) where
  pub built_domain : (u : ℕ) → u < n → domain_of (built n k M) u ≡ class_of n (alike_test n k M) u
  unfolding domain_of built
  built_domain u h = get_or_tab n (class_of n (alike_test n k M)) u h

  pub built_below : (u : ℕ) → u < n → domain_of (built n k M) u < (built n k M).domains
  unfolding built
  built_below u h = rw (built_domain u h) (class_below n (alike_test n k M) (alike_tests n k M) u h)

  pub built_few : (built n k M).domains ≤ n
  unfolding built
  built_few = classes_le n (alike_test n k M)

  pub built_entities : length (built n k M).assignment ≡ n
  unfolding built
  built_entities = length_tab n (class_of n (alike_test n k M))

  pub built_size : length (built n k M).table ≡ (built n k M).domains * k * (built n k M).domains
  unfolding built table_of
  built_size = length_tab _ _

  -- the domains are numbered in order of their smallest members
  pub built_rises : (u v : ℕ) → u < n → v < n → smallest n (alike_test n k M) u < smallest n (alike_test n k M) v
      → domain_of (built n k M) u < domain_of (built n k M) v
  built_rises u v h l b = rw (built_domain u h, built_domain v l) (class_rises n (alike_test n k M) (alike_tests n k M) u v h b)

  -- entities share a built domain exactly where they are alike
  pub built_alike : (u v : ℕ) → u < n → v < n → (domain_of (built n k M) u ≡ domain_of (built n k M) v) ↔ Alike n k M u v
  built_alike u v h l =
      let e = alike_test n k M in
      let E = alike_tests n k M in (
        λ s. alike_sound n k M u v h l (class_apart n e E u v h l (sym (built_domain u h) ∙ s ∙ built_domain v l)),
        λ w. built_domain u h ∙ class_same n e E u v h l (alike_complete n k M u v h l w) ∙ sym (built_domain v l),
      )

  -- a table cell is the smallest members'
  pub built_smallest : (u a v : ℕ) → u < n → a < k → v < n
      → answer k (built n k M) u a v ≡ M (smallest n (alike_test n k M) u) a (smallest n (alike_test n k M) v)
  unfolding answer built
  built_smallest u a v h b l =
      let e = alike_test n k M in
      let E = alike_tests n k M in
      let d = classes n e in
      rw (built_domain u h, built_domain v l)
      (table_at d d k M (member_of n e) (member_of n e) (class_of n e u) a (class_of n e v) (class_below n e E u h) b (class_below n e E v l)
      ∙ λ i. M (member_is n e E u h i) a (member_is n e E v l i))

  -- and so it gives back every cell, of a matrix with gaps too
  pub built_cell : (u a v : ℕ) → u < n → a < k → v < n → answer k (built n k M) u a v ≡ M u a v
  unfolding SameRows
  built_cell u a v h b l =
      let e = alike_test n k M in
      let E = alike_tests n k M in
      let x = smallest n e u in
      let y = smallest n e v in
      let hx = smallest_below n e E u h in
      let ly = smallest_below n e E v l in
      let su = (alike_iff n k M u x h hx).0 (alike_sound n k M u x h hx (smallest_in n e E u h)) in
      let sv = (alike_iff n k M v y l ly).0 (alike_sound n k M v y l ly (smallest_in n e E v l)) in
      built_smallest u a v h b l ∙ sym (su.0 a v b l ∙ sv.1 a x b hx)

  pub built_enforces : Enforces n k M (built n k M)
  built_enforces = record {
    grants = λ u a v h b l e. built_cell u a v h b l ∙ e;
    denies = λ u a v h b l e g. omega (arith, built_cell u a v h b l);
  }

  pub built_hit : (p : ℕ) → p < (built n k M).domains → (u : ℕ) × (u < n) × (domain_of (built n k M) u ≡ p)
  unfolding built
  built_hit p h =
      let r = class_hit n (alike_test n k M) (alike_tests n k M) p h in
      (r.0, r.1, built_domain r.0 r.1 ∙ r.2)

  -- Definition 2.13: the smallest members' cell is 1 exactly where some pair of members has a 1
  pub built_edge : (p a q : ℕ) → p < (built n k M).domains → a < k → q < (built n k M).domains
      → (cell k (built n k M).domains (built n k M).table p a q ≡ 1) ↔ Edge n M (built n k M) p a q
  unfolding answer
  built_edge p a q h b l =
      let x = built_hit p h in
      let y = built_hit q l in (
        λ e. (x.0, y.0, x.1, y.1, x.2, y.2, sym (built_cell x.0 a y.0 x.1 b y.1) ∙ rw (x.2, y.2) e),
        λ w. subst (λ p. cell k (built n k M).domains (built n k M).table p a q ≡ 1) w.4
            (subst (λ q. cell k (built n k M).domains (built n k M).table (domain_of (built n k M) w.0) a q ≡ 1) w.5
            (built_cell w.0 a w.1 w.2 b w.3 ∙ w.6)),
      )

  -- every built domain has a member
  pub built_used : used n (built n k M) ≡ (built n k M).domains
  unfolding used labels built
  built_used = count_same (classes n e) (member f) (member (class_of n e)) (λ p h. same_test_lem (member f p) (member (class_of n e) p)
      (λ t. let r = any_of n (λ u. eqb (f u) p) t in any_at n (λ u. eqb (class_of n e u) p) r.0 r.1 (rw (built_domain r.0 r.1) at r.2))
      (λ t. let r = any_of n (λ u. eqb (class_of n e u) p) t in any_at n (λ u. eqb (f u) p) r.0 r.1 (rw (built_domain r.0 r.1) r.2)))
      ∙ all_used n e (alike_tests n k M)
    where
      e : ℕ → ℕ → Bool
      e = alike_test n k M

      f : ℕ → ℕ
      f = domain_of (built n k M)

      member : (ℕ → ℕ) → ℕ → Bool
      member g p = any n (λ u. eqb (g u) p)

  -- Lemma A.6. The policy may have any number of domains, and need not be valid
  pub together_alike : (P : Policy) → Full n k M → Enforces n k M P → (u v : ℕ) → u < n → v < n → domain_of P u ≡ domain_of P v → Alike n k M u v
  unfolding answer
  together_alike P full E u v h l s =
      let C = cell k P.domains P.table in
      (alike_iff n k M u v h l).1 (
        shared_rows n k M C (domain_of P) (domain_of P) full E u v h l s,
        shared_columns n k M C (domain_of P) (domain_of P) full E u v h l s,
      )

  module _ (full : Full n k M) where
    pub built_valid : Valid n k (built n k M)
    unfolding built table_of Full
    built_valid = record {
      entities = built_entities;
      below = built_below;
      size = built_size;
      cells = λ i h.
          let h' : i < d * k * d = rw (length_tab (d * k * d) f) at h in
          let s = place d k d i h' in
          rw (get_or_tab (d * k * d) f i h')
          (full (r (i / d / k)) (i / d % k) (r (i % d)) (low (i / d / k) s.sender) s.right (low (i % d) s.receiver));
    }
      where
        e : ℕ → ℕ → Bool
        e = alike_test n k M

        d : ℕ
        d = classes n e

        r : ℕ → ℕ
        r = member_of n e

        f : ℕ → ℕ
        f i = M (r (i / d / k)) (i / d % k) (r (i % d))

        low : (p : ℕ) → p < d → r p < n
        low = member_low n e (alike_tests n k M)

    -- demand 3
    pub built_together : (limit : ℕ) → n ≤ limit → (u v : ℕ) → u < n → v < n
        → (domain_of (built n k M) u ≡ domain_of (built n k M) v) ↔ Together limit n k M u v
    built_together limit b u v h l = (
      λ s. record { policy = built n k M; few = le_trans built_few b; valid = built_valid; enforces = built_enforces; shared = s },
      λ t. (built_alike u v h l).1 (together_alike t.policy full t.enforces u v h l t.shared),
    )

    -- no enforcing policy has fewer domains with a member
    pub built_fewest : (P : Policy) → Valid n k P → Enforces n k M P → (built n k M).domains ≤ used n P
    unfolding built used
    built_fewest P ok E = fewest n (alike_test n k M) (alike_tests n k M) P.domains (domain_of P) ok.below
        (λ u v h l s. alike_complete n k M u v h l (together_alike P full E u v h l s))
