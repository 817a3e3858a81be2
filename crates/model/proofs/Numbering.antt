-- The loop that numbers the classes: the entities in rising order, each compared with the smallest members found so far. Below u these
-- are the members of the first d classes; so the first of them that is u's like has the number of u's class, and there is none
-- exactly if u is the smallest of a new one, which then has the number d. Assumes nothing.
use mathlib.Core.Path.{◌≡◌, refl, sym, ap, ◌∙◌}
use mathlib.Core.Bool.{Bool}
use mathlib.Core.List.{List}
use Prim.Native.Nat.{ℕ, suc, ◌+◌, ◌≤◌, ◌<◌}
use native.Mathlib.Decide.{dec_lt}
use native.Mathlib.Numerals.{add-one}
use native.Mathlib.Omega.{arith}
use lib.Dec.{T, eqb→eq}
use lib.ListN.{length, get_or, set}
use Rattle.model.specs.Below.{count, first}
use Rattle.model.specs.Classes.{smallest, is_smallest, classes, class_of, member_of}
use Rattle.model.proofs.Tests.{eqb_of}
use Rattle.model.proofs.Below.{first_is, first_none, first_same}
use Rattle.model.proofs.Count.{count_le, count_past, count_true, count_false, count_mono}
use Rattle.model.proofs.Classes.{Tests, smallest_below, smallest_in, smallest_is, smallest_under, class_same, class_hit, member_is, member_low}
use Rattle.model.proofs.Loops.{filled, filled_none, filled_length, filled_at, filled_next}

module _ (n : ℕ) (e : ℕ → ℕ → Bool) (E : Tests n e) where
  class_member : (c : ℕ) → c < classes n e → class_of n e (member_of n e c) ≡ c
  class_member c h =
      let r = class_hit n e E c h in
      let s = smallest_below n e E r.0 r.1 in
      ap (λ x. class_of n e (member_of n e x)) (sym r.2)
      ∙ ap (class_of n e) (member_is n e E r.0 r.1)
      ∙ sym (class_same n e E r.0 (smallest n e r.0) r.1 s (smallest_in n e E r.0 r.1))
      ∙ r.2

  module _ (u : ℕ) (h : u < n) where
    -- how many classes have a member below u
    abbrev so_far : ℕ
    so_far = count u (is_smallest n e)

    few : so_far ≤ classes n e
    unfolding classes
    few = count_mono (is_smallest n e) u n (omega arith)

    class_le : class_of n e u ≤ so_far
    unfolding class_of
    class_le = count_mono (is_smallest n e) (smallest n e u) u (smallest_under n e E u h)

    -- the only one among them that can be u's like is its own
    only : (c : ℕ) → c < so_far → T (e u (member_of n e c)) → class_of n e u ≡ c
    only c l t =
        let m : c < classes n e = omega (arith, few) in
        class_same n e E u (member_of n e c) h (member_low n e E c m) t ∙ class_member c m

    pub class_found : first (count u (is_smallest n e)) (λ c. e u (member_of n e c)) ≡ class_of n e u
    class_found = go (dec_lt (class_of n e u) so_far)
      where
        go : Dec (class_of n e u < so_far) → first so_far (λ c. e u (member_of n e c)) ≡ class_of n e u
        go (yes l) = first_is so_far (λ c. e u (member_of n e c)) (class_of n e u) l
            (rw (member_is n e E u h) (smallest_in n e E u h)) (λ c b t. omega (arith, only c (omega arith) t))
        go (no f) = first_none so_far (λ c. e u (member_of n e c)) (λ c b t. omega (arith, only c b t)) ∙ omega (arith, class_le)

    -- u is not the smallest of its class where that class has been met, and is where it has not
    pub class_old : class_of n e u < count u (is_smallest n e) → ¬ T (is_smallest n e u)
    unfolding class_of is_smallest
    class_old l t = omega (arith, ap (λ x. count x (is_smallest n e)) (eqb→eq (smallest n e u) u t))

    pub class_new : count u (is_smallest n e) ≤ class_of n e u → smallest n e u ≡ u
    unfolding class_of
    class_new l = go (dec_lt (smallest n e u) u)
      where
        go : Dec (smallest n e u < u) → smallest n e u ≡ u
        go (yes b) = absurd (omega (arith, count_past (is_smallest n e) (smallest n e u) u (smallest_is n e E u h) b))
        go (no f) = omega (arith, smallest_under n e E u h)

-- u entities are numbered, in `of`, by d numbers, whose smallest members are in `low`
pub record Numbered (n : ℕ) (e : ℕ → ℕ → Bool) (of₀ low₀ of low : List ℕ) (d u : ℕ) : Type 0 where
  pub within : u ≤ n
  pub next : d ≡ count u (is_smallest n e)
  pub numbers : of ≡ filled u (class_of n e) of₀
  pub members : low ≡ filled d (member_of n e) low₀

module _ (n : ℕ) (e : ℕ → ℕ → Bool) (of₀ low₀ : List ℕ) where
  pub numbered_start : Numbered n e of₀ low₀ of₀ low₀ 0 0
  unfolding count
  numbered_start = record { within = omega arith; next = refl; numbers = filled_none (class_of n e) of₀; members = filled_none (member_of n e) low₀ }

  module _ (of low : List ℕ) (d u : ℕ) (N : Numbered n e of₀ low₀ of low d u) where
    pub numbered_few : d ≤ u
    numbered_few = omega (arith, N.next, count_le u (is_smallest n e))

    -- both lists keep their lengths
    pub numbered_long : n ≤ length of₀ → n ≤ length low₀ → (length of ≡ length of₀) × (length low ≡ length low₀)
    numbered_long h l = (
      ap length N.numbers ∙ filled_length u (class_of n e) of₀ (omega (arith, N.within)),
      ap length N.members ∙ filled_length d (member_of n e) low₀ (omega (arith, N.within, numbered_few)),
    )

    pub numbered_end : u ≡ n → (d ≡ classes n e) × (of ≡ filled n (class_of n e) of₀) × (low ≡ filled d (member_of n e) low₀)
    unfolding classes
    numbered_end q = (N.next ∙ ap (λ x. count x (is_smallest n e)) q, N.numbers ∙ ap (λ x. filled x (class_of n e) of₀) q, N.members)

    module _ (E : Tests n e) (h : u < n) where
      pub member_stays : (c : ℕ) → c < d → get_or low c 0 < n
      member_stays c l =
          let m : c < classes n e = omega (arith, N.next, few n e E u h) in
          rw (N.members, filled_at d (member_of n e) low₀ c l) (member_low n e E c m)

      -- the search among the members finds the number of u's class
      pub search_class : (p : ℕ) → p ≡ first d (λ c. e u (get_or low c 0)) → p ≡ class_of n e u
      search_class p q =
          q
          ∙ first_same d (λ c. e u (get_or low c 0)) (λ c. e u (member_of n e c)) (λ c l. ap (e u) (rw N.members (filled_at d (member_of n e) low₀ c l)))
          ∙ ap (λ x. first x (λ c. e u (member_of n e c))) N.next
          ∙ class_found n e E u h

      module _ (p : ℕ) (is : p ≡ class_of n e u) (room : u < length of₀) where
        numbers_on : set of u p ≡ filled (u + 1) (class_of n e) of₀
        numbers_on = rw (is, N.numbers) (filled_next u (class_of n e) of₀ room)

        pub numbered_old : p < d → Numbered n e of₀ low₀ (set of u p) low d (u + 1)
        numbered_old l = record {
          within = omega arith;
          next = N.next ∙ sym (ap (λ x. count x (is_smallest n e)) (add-one u)
              ∙ count_false u (is_smallest n e) (class_old n e E u h (omega (arith, N.next))));
          numbers = numbers_on;
          members = N.members;
        }

        pub numbered_new : d ≤ p → d < length low₀ → Numbered n e of₀ low₀ (set of u p) (set low d u) (d + 1) (u + 1)
        unfolding is_smallest
        numbered_new l b =
            let s : smallest n e u ≡ u = class_new n e E u h (omega (arith, N.next)) in
            let q : d ≡ p = omega (arith, N.next, class_le n e E u h) in
            let m : u ≡ member_of n e d = sym (ap (member_of n e) (q ∙ is) ∙ member_is n e E u h ∙ s) in
            record {
              within = omega arith;
              next = rw (add-one u, add-one d, count_true u (is_smallest n e) (eqb_of (smallest n e u) u s)) (ap suc N.next);
              numbers = numbers_on;
              members = ap (set low d) m ∙ rw N.members (filled_next d (member_of n e) low₀ b);
            }
