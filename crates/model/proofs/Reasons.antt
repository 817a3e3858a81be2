-- The reasons of the table are those that are no other number; their numbers are 1 to 12. And what `==` calls equal, of reasons, of refusals, of
-- answers, is one, and one is equal to itself. No function's proof cites it. Assumes nothing.
use mathlib.Core.Path.{◌≡◌, refl, ap}
use mathlib.Core.Bool.{Bool, true}
use Prim.Native.Nat.{◌<◌}
use native.Mathlib.Omega.{arith}
use Rattle.std.specs.Prelude.{Result, Ok, Err}
use Rattle.std.specs.Result.{result_eq}
use Rattle.std.proofs.Common.{rules}
use Rattle.model.specs.declared.Fault.{Fault}
use Rattle.model.specs.declared.Fault.TheVariants.{Limit, MatrixLength, MatrixCell, Unlogged, AssignmentLength, DomainNumber}
use Rattle.model.specs.declared.Fault.TheVariants.{TableLength, TableCell, OutOfRange, AssignmentRoom, Room, FileForm, Other}
use Rattle.model.specs.declared.OtherNumber.{OtherNumber}
use Rattle.model.specs.declared.Refusal.{Refusal}
use Rattle.model.specs.contracts.FaultPartialEq.TheImpl as fault_eq
use Rattle.model.specs.contracts.RefusalPartialEq.TheImpl as refusal_eq
use Rattle.model.specs.Refusal.{number_of, refused}
use Rattle.model.proofs.Groups.{refusal_told}

-- ---- a reason of the table

abbrev pub Listed : Fault → Type 0
Listed f = (x : OtherNumber) → ¬ (f ≡ Other x)

pub listed_number : (f : Fault) → Listed f → (0 < number_of f) × (number_of f < 13)
listed_number Limit h = (omega arith, omega arith)
listed_number MatrixLength h = (omega arith, omega arith)
listed_number MatrixCell h = (omega arith, omega arith)
listed_number Unlogged h = (omega arith, omega arith)
listed_number AssignmentLength h = (omega arith, omega arith)
listed_number DomainNumber h = (omega arith, omega arith)
listed_number TableLength h = (omega arith, omega arith)
listed_number TableCell h = (omega arith, omega arith)
listed_number OutOfRange h = (omega arith, omega arith)
listed_number AssignmentRoom h = (omega arith, omega arith)
listed_number Room h = (omega arith, omega arith)
listed_number FileForm h = (omega arith, omega arith)
listed_number (Other x) h = absurd (h x refl)

-- ---- one reason has a number, and what `==` calls equal is one

pub one_reason : (f g : Fault) → number_of f ≡ number_of g → f ≡ g
one_reason f g e = ap (λ r. r.fault) (refusal_told (record { fault = f; place = 0 }) (record { fault = g; place = 0 }) (ap (λ n. refused n 0) e))

pub one_fault : (f g : Fault) → (fault_eq.ghosts).eq f g ≡ true → f ≡ g
one_fault Limit g e = search rules
one_fault MatrixLength g e = search rules
one_fault MatrixCell g e = search rules
one_fault Unlogged g e = search rules
one_fault AssignmentLength g e = search rules
one_fault DomainNumber g e = search rules
one_fault TableLength g e = search rules
one_fault TableCell g e = search rules
one_fault OutOfRange g e = search rules
one_fault AssignmentRoom g e = search rules
one_fault Room g e = search rules
one_fault FileForm g e = search rules
one_fault (Other x) g e = search (rules, one_reason)

pub one_refusal : (r s : Refusal) → (refusal_eq.ghosts).eq r s ≡ true → r ≡ s
one_refusal r s e =
    let f : r.fault ≡ s.fault = one_fault r.fault s.fault (search rules) in
    let p : r.place ≡ s.place = search rules in
    rw (f, p) refl

-- of a call's answer, where `==` tells its values apart
pub one_result : {A : Type 0} {E : A → A → Bool} → ((x y : A) → E x y ≡ true → x ≡ y) → (a b : Result A Refusal)
    → result_eq E (refusal_eq.ghosts).eq a b ≡ true → a ≡ b
one_result h (Ok x) (Ok y) e = ap Ok (h x y e)
one_result h (Ok x) (Err s) e = search rules
one_result h (Err r) (Ok y) e = search rules
one_result h (Err r) (Err s) e = ap Err (one_refusal r s e)

-- ---- and one is equal to itself

pub fault_equal : (f : Fault) → (fault_eq.ghosts).eq f f ≡ true
fault_equal f = search rules

pub refusal_equal : (r : Refusal) → (refusal_eq.ghosts).eq r r ≡ true
refusal_equal r = search (rules, fault_equal)
