-- The claims across the calls. What build wrote is the built policy, which is valid, enforces its matrix and has the fewest domains
-- (Theorem 2.14); so each claim is one of the definitions, seen through the promises of the calls. Assumes nothing.
use mathlib.Core.Path.{◌≡◌, refl, sym, ap, ◌∙◌, subst}
use mathlib.Core.Logic.{◌↔◌}
use mathlib.Core.List.{List}
use Prim.Native.Nat.{ℕ, ◌≤◌, ◌<◌}
use native.Mathlib.Nat.{le_trans}
use native.Mathlib.Omega.{arith}
use lib.ListN.{get_or}
use mathlib.Core.Bool.{true, false}
use Rattle.std.specs.Prelude.{Ok}
use Rattle.model.specs.Matrix.{cell, Holds, Full}
use Rattle.model.specs.Policy.{Policy, written, Within, domain_of, answer, Agrees, used}
use Rattle.model.specs.Refusal.{checked, Unrefused}
use Rattle.model.specs.Rules.{whole_rules, pair_rules}
use Rattle.model.proofs.Built.{built_few, built_used, built_cell, built_alike, built_valid, built_enforces, built_together, built_fewest}
use Rattle.model.proofs.Groups.{group_fine}
use Rattle.model.proofs.Rules.{whole_full, whole_pass, pair_pass}
use Rattle.ask.specs.Ask.{ask_rules, Answers, Asked}
use Rattle.alike.specs.Compare.{alike_rules}
use Rattle.build.specs.Build.{built_from, Builds}
use Rattle.judge.specs.declared.Verdict.TheVariants.{Enforces}
use Rattle.judge.specs.Judge.{judge_rules, Judges, Judged}
use Rattle.judge.proofs.Exits.{judgeable}
use Rattle.claims.specs.Across.{BuiltAccepted, BuiltAnswers, BuiltShares, AlikeShares, AcceptedFewest}
use Rattle.claims.proofs.Ask.{ask_grants, ask_serves}
use Rattle.claims.proofs.Alike.{alike_answers}
use Rattle.build.proofs.Written.{domains_told, whole_built, policy_written, byte_written}
use Rattle.claims.proofs.Judge.{enforcing, judge_accepts, judge_serves}

-- of a build that answered d and left s' and t': the matrix is full, and what was written is the built policy
module _ (n k d : ℕ) (m s t s' t' : List ℕ) (b : Builds n k m s t (Ok d) s' t') where
  whole : Holds n k 2 m
  whole = whole_built n k m s t s' t' d b

  full : Full n k (cell k n m)
  full = whole_full whole

  is : written n k d s' t' ≡ built_from n k m
  is = policy_written n k m s t s' t' d b

  within : Within n k (built_from n k m)
  within =
      let l = whole.laid in
      let few = built_few n k (cell k n m) in
      record { entities = l.entities; right = l.right; rights = l.rights; few = omega (arith, few); valid = built_valid n k (cell k n m) full }

  judged : Unrefused (judge_rules n k m (built_from n k m))
  judged = judge_serves n k m (built_from n k m) (record { laid = whole.laid; below = λ i h. omega (arith, whole.below i h) }) within

  accepted : (P : Policy) → P ≡ built_from n k m → (j : Judged) → Judges n k m P j → j ≡ Ok (Enforces d)
  accepted P e j p = (judge_accepts n k m P j p d).1 (
    subst (λ (Q : Policy). Unrefused (judge_rules n k m Q)) (sym e) judged,
    subst (λ (Q : Policy). Agrees n k (cell k n m) (answer k Q)) (sym e) (built_enforces n k (cell k n m)),
    domains_told n k m s t s' t' d b ∙ ap (λ (Q : Policy). Q.domains) (sym e),
  )

  -- no accepted policy has fewer than d domains with a member, and the built one, which is accepted, has d
  at_least : (P : Policy) (x : ℕ) → Judges n k m P (Ok (Enforces x)) → d ≤ used n P
  at_least P x p =
      let a = (judge_accepts n k m P (Ok (Enforces x)) p x).0 refl in
      let fewest = built_fewest n k (cell k n m) full P (judgeable n k m P a.0).1.valid a.1 in
      omega (arith, domains_told n k m s t s' t' d b, fewest)

  at_most : (e : ℕ) → ((P : Policy) (x : ℕ) → Judges n k m P (Ok (Enforces x)) → e ≤ used n P) → e ≤ d
  at_most e f =
      let told = domains_told n k m s t s' t' d b in
      let accepts = enforcing n k m (built_from n k m) judged (built_enforces n k (cell k n m)) d told in
      omega (arith, told, built_used n k (cell k n m), f (built_from n k m) d accepts)

  module _ (u a v : ℕ) (hu : u < n) (ha : a < k) (hv : v < n) where
    serves : (P : Policy) → P ≡ built_from n k m → Unrefused (ask_rules n k u a v P)
    serves P e = subst (λ (Q : Policy). Unrefused (ask_rules n k u a v Q)) (sym e) (ask_serves n k u a v (built_from n k m)
        within hu ha hv)

    cell_answered : (P : Policy) → P ≡ built_from n k m → answer k P u a v ≡ cell k n m u a v
    cell_answered P e = ap (λ (Q : Policy). answer k Q u a v) e ∙ built_cell n k (cell k n m) u a v hu ha hv

    answers : (P : Policy) → P ≡ built_from n k m → (r : Asked) → Answers n k u a v P r
        → ((r ≡ Ok true) ↔ (cell k n m u a v ≡ 1)) × ((r ≡ Ok false) ↔ (cell k n m u a v ≡ 0))
    unfolding Full
    answers P e r p =
        let g = ask_grants n k u a v P r p in
        let q = cell_answered P e in
        let low = full u a v hu ha hv in (
          (λ x. sym q ∙ (g.0.0 x).1, λ x. g.0.1 (serves P e, q ∙ x)),
          (λ x. let f = (g.1.0 x).1 in nought low (λ y. f (q ∙ y)), λ x. g.1.1 (serves P e, λ y. omega (arith, q))),
        )
      where
        nought : cell k n m u a v < 2 → ¬ (cell k n m u a v ≡ 1) → cell k n m u a v ≡ 0
        nought l f = omega arith

  module _ (u v : ℕ) (hu : u < n) (hv : v < n) where
    -- two bytes are the same exactly where the two share a built domain
    shared : (get_or s' u 0 ≡ get_or s' v 0) ↔ (domain_of (built_from n k m) u ≡ domain_of (built_from n k m) v)
    shared =
        let p = byte_written n k m s t s' t' d b u hu in
        let q = byte_written n k m s t s' t' d b v hv in
        (λ e. sym p ∙ e ∙ q, λ e. p ∙ e ∙ sym q)

    pair_served : checked (alike_rules n k u v m) ≡ Ok tt
    unfolding alike_rules
    pair_served = group_fine (whole_rules n k m) (pair_rules n u v) (whole_pass n k m whole) ∙ pair_pass n u v hu hv

pub built_accepted : BuiltAccepted
built_accepted n k d m s t s' t' b j p = accepted n k d m s t s' t' b (written n k d s' t') (is n k d m s t s' t' b) j p

pub built_answers : BuiltAnswers
built_answers n k d m s t s' t' b u a v hu ha hv r p = answers n k d m s t s' t' b u a v hu ha hv (written n k d s' t') (is n k d m s t s' t' b) r p

pub built_shares : BuiltShares
built_shares n k d m s t s' t' b limit l u v hu hv =
    let w = shared n k d m s t s' t' b u v hu hv in
    let x = built_together n k (cell k n m) (full n k d m s t s' t' b) limit l u v hu hv in
    (λ e. x.0 (w.0 e), λ y. w.1 (x.1 y))

pub alike_shares : AlikeShares
alike_shares n k d m s t s' t' b u v hu hv r p =
    let w = shared n k d m s t s' t' b u v hu hv in
    let x = built_alike n k (cell k n m) u v hu hv in
    let y = (alike_answers n k u v m r p).0 in
    (λ e. w.1 (x.1 (y.0 e).1), λ e. y.1 (pair_served n k d m s t s' t' b u v hu hv, x.0 (w.0 e)))

pub accepted_fewest : AcceptedFewest
accepted_fewest n k d m s t s' t' b e = (
  λ f. at_most n k d m s t s' t' b e f,
  λ h P x p. le_trans h (at_least n k d m s t s' t' b P x p),
)
