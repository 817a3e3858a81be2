-- The groups of the ask and the exits of its look: the rules before one do not apply, and where it refuses it decides. Assumes nothing.
use mathlib.Core.Path.{◌≡◌, sym, ap, ◌∙◌}
use mathlib.Core.List.{List, [], ◌∷◌, ◌++◌}
use Prim.Native.Nat.{ℕ, ◌*◌, ◌≤◌, ◌<◌}
use native.Mathlib.Omega.{arith}
use borrow.Author.Tests.{lt-ltb, le-ltb, le-leb, lt-leb, eq-eqb, ne_eqb}
use lib.Dec.{ltb}
use lib.ListN.{length, get_or}
use Rattle.model.specs.declared.Fault.TheVariants.{AssignmentLength, DomainNumber, TableLength, TableCell}
use Rattle.model.specs.declared.Refusal.{Refusal}
use Rattle.model.specs.Matrix.{cell_at, cell}
use Rattle.model.specs.Refusal.{Checked, Rule, rule, refusal, cell_refusal, checked, Told, values, told_refusal, tell}
use Rattle.std.specs.Prelude.{Ok, Err}
use Rattle.model.specs.Policy.{Policy, domain_of, answer}
use Rattle.model.specs.Rules.{length_rule, size_rules, request_rules}
use Rattle.model.proofs.Groups.{tests, group_fine, group_bad}
use Rattle.model.proofs.Rules.{length_pass, length_bad, decided}
use Rattle.model.proofs.Places.{small}
use Rattle.ask.specs.Ask.{look_rules, ask_rules, granted, ask_told}

-- what the ask goes by
pub ruleset exits = (decided, tests, small)

module _ (n k u a v : ℕ) (P : Policy) where
  size : ℕ
  size = P.domains * k * P.domains

  -- the rules from 9 on, from 7 on, from 5 on
  from9 : List Rule
  from9 = request_rules n k u a v ++ look_rules k u a v P

  from7 : List Rule
  from7 = length_rule TableLength (length P.table) size ∷ from9

  from5 : List Rule
  from5 = length_rule AssignmentLength (length P.assignment) n ∷ from7

  -- what the rules find is what is told
  pub told : (c : Checked) → checked (ask_rules n k u a v P) ≡ c → tell c (granted k P u a v) ≡ ask_told n k u a v P
  unfolding ask_told
  told c e = ap (λ (x : Checked). tell x (granted k P u a v)) (sym e)

  pub sizes_bad : (r : Refusal) → checked (size_rules n k P.domains) ≡ Err r → told_refusal r ≡ ask_told n k u a v P
  unfolding ask_rules
  sizes_bad r e = told (Err r) (group_bad (size_rules n k P.domains) _ r e)

  module _ (sized : checked (size_rules n k P.domains) ≡ Ok tt) where
    after1 : checked (ask_rules n k u a v P) ≡ checked from5
    unfolding ask_rules from5 from7 from9 size
    after1 = group_fine (size_rules n k P.domains) from5 sized

    pub assignment_bad : ¬ (length P.assignment ≡ n) → told_refusal (refusal AssignmentLength 0) ≡ ask_told n k u a v P
    unfolding from5
    assignment_bad f = told (Err (refusal AssignmentLength 0)) (after1 ∙ length_bad AssignmentLength (length P.assignment) n from7 f)

    module _ (entities : length P.assignment ≡ n) where
      after5 : checked (ask_rules n k u a v P) ≡ checked from7
      unfolding from5
      after5 = after1 ∙ length_pass AssignmentLength (length P.assignment) n from7 entities

      pub table_bad : ¬ (length P.table ≡ P.domains * k * P.domains) → told_refusal (refusal TableLength 0) ≡ ask_told n k u a v P
      unfolding from7 size
      table_bad f = told (Err (refusal TableLength 0)) (after5 ∙ length_bad TableLength (length P.table) size from9 f)

      module _ (cells : length P.table ≡ P.domains * k * P.domains) where
        after7 : checked (ask_rules n k u a v P) ≡ checked from9
        unfolding from7 size
        after7 = after5 ∙ length_pass TableLength (length P.table) size from9 cells

        pub request_bad : (r : Refusal) → checked (request_rules n k u a v) ≡ Err r → told_refusal r ≡ ask_told n k u a v P
        unfolding from9
        request_bad r e = told (Err r) (after7 ∙ group_bad (request_rules n k u a v) (look_rules k u a v P) r e)

        pub looks : checked (request_rules n k u a v) ≡ Ok tt → checked (ask_rules n k u a v P) ≡ checked (look_rules k u a v P)
        unfolding from9
        looks e = after7 ∙ group_fine (request_rules n k u a v) (look_rules k u a v P) e

-- ---- the exits of the look, where i is the cell's place

module _ (k u a v : ℕ) (P : Policy) where
  abbrev pub looked : Told
  looked = tell (checked (look_rules k u a v P)) (granted k P u a v)

  pub sender_bad : P.domains ≤ domain_of P u → told_refusal (refusal DomainNumber u) ≡ looked
  unfolding look_rules
  sender_bad h = rw (le-leb P.domains (domain_of P u) h)

  pub receiver_bad : domain_of P u < P.domains → P.domains ≤ domain_of P v → told_refusal (refusal DomainNumber v) ≡ looked
  unfolding look_rules
  receiver_bad h l = rw (lt-leb P.domains (domain_of P u) h, le-leb P.domains (domain_of P v) l)

  module _ (i : ℕ) (e : i ≡ cell_at k P.domains (domain_of P u) a (domain_of P v)) (h : domain_of P u < P.domains) (l : domain_of P v < P.domains) where
    at : get_or P.table i 0 ≡ answer k P u a v
    unfolding answer cell
    at = ap (λ (j : ℕ). get_or P.table j 0) e

    cell_rule : looked ≡ tell (checked (rule (ltb 1 (answer k P u a v)) (cell_refusal TableCell k P.domains i) ∷ [])) (granted k P u a v)
    unfolding look_rules
    cell_rule = rw (lt-leb P.domains (domain_of P u) h, lt-leb P.domains (domain_of P v) l, e)

    pub cell_bad : 1 < get_or P.table i 0 → told_refusal (cell_refusal TableCell k P.domains i) ≡ looked
    cell_bad b = sym (cell_rule ∙ rw (lt-ltb 1 (answer k P u a v) (omega (arith, at))))

    pub cell_grants : get_or P.table i 0 ≡ 1 → values (1 ∷ []) ≡ looked
    cell_grants b = sym (cell_rule ∙ rw (le-ltb 1 (answer k P u a v) (omega (arith, at)), eq-eqb (answer k P u a v) 1 (sym at ∙ b)))

    pub cell_denies : get_or P.table i 0 ≤ 1 → ¬ (get_or P.table i 0 ≡ 1) → values (0 ∷ []) ≡ looked
    cell_denies b f = sym (cell_rule ∙ rw (le-ltb 1 (answer k P u a v) (omega (arith, at)), ne_eqb (answer k P u a v) 1 (λ g. f (at ∙ g))))
