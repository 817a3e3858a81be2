-- The claims on the ask. What it tells has the policy's cell in it where no rule applies, and a refusal otherwise; what is told
-- determines the answer; and the rules speak of nothing that `Coincide` leaves out. Assumes nothing.
use mathlib.Core.Path.{◌≡◌, refl, sym, ap, ◌∙◌}
use mathlib.Core.Bool.{cond, true, false}
use mathlib.Core.List.{[], ◌∷◌, ◌++◌}
use Prim.Native.Nat.{ℕ, ◌*◌, ◌≤◌}
use native.Mathlib.Decide.{ℕ_discrete}
use native.Mathlib.Omega.{arith}
use borrow.Author.Tests.{eq-eqb, ne_eqb, lt-leb, le-ltb}
use lib.Dec.{eqb, leb, ltb}
use Rattle.model.specs.declared.Fault.TheVariants.{AssignmentLength, TableLength}
use Rattle.model.specs.declared.Fault.TheVariants.{DomainNumber, TableCell}
use Rattle.model.specs.declared.Refusal.{Refusal}
use Rattle.model.specs.Refusal.{Checked, told_refusal, rule, refusal, cell_refusal, checked, Told, values, tell, flag, Unrefused}
use Rattle.std.specs.Prelude.{Ok, Err}
use Rattle.model.specs.Matrix.{cell_at}
use Rattle.model.specs.Policy.{Policy, domain_of, answer, Grants}
use Rattle.model.specs.Rules.{length_rule, size_rules, request_rules}
use Rattle.model.proofs.Groups.{told_apart, flag_one, values_refused}
use Rattle.model.proofs.Built.{answer_low}
use Rattle.model.proofs.Rules.{sizes_pass, request_pass}
use Rattle.ask.specs.Ask.{look_rules, ask_rules, ask_told, asked_told}
use Rattle.ask.proofs.Exits.{told, looks}
use Rattle.claims.specs.Ask.{AskGrants, AskServes, AskAlone, AskUnique}

pub one_nought : values (1 ∷ []) ≡ values (0 ∷ []) → ⊥
one_nought e = let z : ◌≡◌ {A = ℕ} 0 1 = cc in omega arith

module _ (n k u a v : ℕ) where
  -- all that the ask goes by: d, the two lengths, the two domain numbers and the one cell
  by : ℕ → ℕ → ℕ → ℕ → ℕ → ℕ → Told
  by d s t p q x =
      tell
      (checked (size_rules n k d ++ (length_rule AssignmentLength s n ∷ length_rule TableLength t (d * k * d) ∷ (request_rules n k u a v
      ++ (rule (leb d p) (refusal DomainNumber u) ∷ rule (leb d q) (refusal DomainNumber v)
      ∷ rule (ltb 1 x) (cell_refusal TableCell k d (cell_at k d p a q)) ∷ [])))))
      (cond (eqb x 1) 1 0 ∷ [])

pub ask_unique : AskUnique
ask_unique n k u a v P r s e f = told_apart flag flag_one r s (e ∙ sym f)

pub ask_alone : AskAlone
unfolding ask_told ask_rules look_rules by
ask_alone n k u a v P Q w r s e f = told_apart flag flag_one r s (e ∙ same ∙ sym f)
  where
    same : ask_told n k u a v P ≡ ask_told n k u a v Q
    same = λ i. by n k u a v (w.domains i) (w.entities i) (w.size i) (w.sender i) (w.receiver i) (w.asked i)

-- the three cases of what is told
module _ (n k u a v : ℕ) (P : Policy) where
  data Case : Type 0 where
    grants : Unrefused (ask_rules n k u a v P) → Grants k P u a v → Case
    denies : Unrefused (ask_rules n k u a v P) → ¬ Grants k P u a v → Case
    refuses : (r : Refusal) → checked (ask_rules n k u a v P) ≡ Err r → Case

  cases : Case
  cases = go (checked (ask_rules n k u a v P)) refl (ℕ_discrete (answer k P u a v) 1)
    where
      go : (c : Checked) → checked (ask_rules n k u a v P) ≡ c → Dec (Grants k P u a v) → Case
      go (Ok _) e (yes g) = grants e g
      go (Ok _) e (no g) = denies e g
      go (Err r) e _ = refuses r e

  granting : Unrefused (ask_rules n k u a v P) → Grants k P u a v → ask_told n k u a v P ≡ values (1 ∷ [])
  granting e g = sym (told n k u a v P (Ok tt) e) ∙ ap (λ b. values (cond b 1 0 ∷ [])) (eq-eqb (answer k P u a v) 1 g)

  denying : Unrefused (ask_rules n k u a v P) → ¬ Grants k P u a v → ask_told n k u a v P ≡ values (0 ∷ [])
  denying e g = sym (told n k u a v P (Ok tt) e) ∙ ap (λ b. values (cond b 1 0 ∷ [])) (ne_eqb (answer k P u a v) 1 g)

  refusing : (r : Refusal) → checked (ask_rules n k u a v P) ≡ Err r → ask_told n k u a v P ≡ told_refusal r
  refusing r e = sym (told n k u a v P (Err r) e)

  granted_only : values (1 ∷ []) ≡ ask_told n k u a v P → Case → Unrefused (ask_rules n k u a v P) × Grants k P u a v
  granted_only e (grants f g) = (f, g)
  granted_only e (denies f g) = absurd (one_nought (e ∙ denying f g))
  granted_only e (refuses s f) = absurd (values_refused (1 ∷ []) _ _ (e ∙ refusing s f))

  denied_only : values (0 ∷ []) ≡ ask_told n k u a v P → Case → Unrefused (ask_rules n k u a v P) × ¬ Grants k P u a v
  denied_only e (grants f g) = absurd (one_nought (sym (e ∙ granting f g)))
  denied_only e (denies f g) = (f, g)
  denied_only e (refuses s f) = absurd (values_refused (0 ∷ []) _ _ (e ∙ refusing s f))

pub ask_grants : AskGrants
ask_grants n k u a v P r m = (
  (
    λ e. granted_only n k u a v P (sym (ap asked_told e) ∙ m) (cases n k u a v P),
    λ w. told_apart flag flag_one r (Ok true) (m ∙ granting n k u a v P w.0 w.1),
  ),
  (
    λ e. denied_only n k u a v P (sym (ap asked_told e) ∙ m) (cases n k u a v P),
    λ w. told_apart flag flag_one r (Ok false) (m ∙ denying n k u a v P w.0 w.1),
  ),
)

pub ask_serves : AskServes
unfolding look_rules
ask_serves n k u a v P w h b l =
    let ok = w.valid in
    looks n k u a v P (sizes_pass n k P.domains w.entities w.right w.rights w.few) ok.entities ok.size (request_pass n k u a v h b l)
    ∙ rw (lt-leb P.domains (domain_of P u) (ok.below u h), lt-leb P.domains (domain_of P v) (ok.below v l), le-ltb 1 (answer k P u a v) low)
  where
    low : answer k P u a v ≤ 1
    low = omega (arith, answer_low n k P w.valid u a v h b l)
