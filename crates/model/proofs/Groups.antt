-- What a list of rules finds, group by group: where the first group applies it decides, and else the later ones do.
-- Assumes nothing.
use mathlib.Core.Path.{◌≡◌, refl, sym, ap, ◌∙◌, subst}
use mathlib.Core.Bool.{Bool, true, false, cond, ◌||◌}
use mathlib.Core.List.{List, [], ◌∷◌, ◌++◌}
use Prim.Native.Nat.{ℕ, ◌-◌}
use lib.Dec.{T, eqb, ltb}
use lib.ListN.{length, get_or, drop}
use native.Mathlib.Omega.{arith}
use borrow.Author.Rules.{rules}
use borrow.Author.Tests.{lt-ltb, le-ltb, le-leb, lt-leb, eq-eqb, ne_eqb}
use Rattle.model.specs.declared.Fault.{Fault}
use Rattle.model.specs.declared.Fault.TheVariants.{Limit, MatrixLength, MatrixCell, Unlogged, AssignmentLength, DomainNumber}
use Rattle.model.specs.declared.Fault.TheVariants.{TableLength, TableCell, OutOfRange, AssignmentRoom, Room, FileForm, Other}
use Rattle.model.specs.declared.OtherNumber.{OtherNumber}
use Rattle.model.specs.declared.Refusal.{Refusal}
use Rattle.std.specs.Prelude.{Result, Ok, Err, IsErrAnd}
use Rattle.model.specs.Refusal.{Rule, Checked, number_of, checked, values, refused, told_refusal, tell, told, single, flag, held}

-- what turns a test of the code into the value of a rule's test
pub ruleset tests = (rules, lt-ltb, le-ltb, le-leb, lt-leb, eq-eqb, ne_eqb)

pub fine_not_bad : (c : Checked) (r : Refusal) → c ≡ Ok tt → c ≡ Err r → ⊥
fine_not_bad c r e f = let z : ◌≡◌ {A = ℕ} 0 1 = cc in omega arith

pub values_refused : (vs : List ℕ) (number place : ℕ) → values vs ≡ refused number place → ⊥
values_refused vs number place e = let z : ◌≡◌ {A = ℕ} 0 1 = cc in omega arith

-- a number is that of one reason, so that what is told says which refusal it was: a listed one, or the number itself
abbrev faults : List Fault
faults = Limit ∷ MatrixLength ∷ MatrixCell ∷ Unlogged ∷ AssignmentLength ∷ DomainNumber ∷ TableLength ∷ TableCell ∷ OutOfRange
    ∷ AssignmentRoom ∷ Room ∷ FileForm ∷ []

abbrev unlisted : ℕ → Bool
unlisted n = eqb n 0 || ltb 12 n

-- b tells whether the number is unlisted
abbrev read_back : (n : ℕ) (b : Bool) → (T b → T (unlisted n)) → Fault
read_back n true f = Other (record { number = n; unlisted = f tt })
read_back n false f = get_or faults (n - 1) Limit

abbrev fault_of : ℕ → Fault
fault_of n = read_back n (unlisted n) (λ t. t)

-- that a test passes is shown in one way
shown_once : (b : Bool) (s t : T b) → s ≡ t
shown_once true s t = refl
shown_once false s t = absurd s

other_back : (x : OtherNumber) (b : Bool) (f : T b → T (unlisted x.number)) → T b → read_back x.number b f ≡ Other x
other_back x true f t =
    ap (λ (s : T (unlisted x.number)). Other (record { number = x.number; unlisted = s })) (shown_once (unlisted x.number) (f tt) x.unlisted)
other_back x false f t = absurd t

fault_back : (f : Fault) → fault_of (number_of f) ≡ f
fault_back Limit = refl
fault_back MatrixLength = refl
fault_back MatrixCell = refl
fault_back Unlogged = refl
fault_back AssignmentLength = refl
fault_back DomainNumber = refl
fault_back TableLength = refl
fault_back TableCell = refl
fault_back OutOfRange = refl
fault_back AssignmentRoom = refl
fault_back Room = refl
fault_back FileForm = refl
fault_back (Other x) = other_back x (unlisted x.number) (λ t. t) x.unlisted

same_refusal : (r s : Refusal) → r.fault ≡ s.fault → r.place ≡ s.place → r ≡ s
same_refusal r s f p = rw (f, p) refl

pub refusal_told : (r s : Refusal) → told_refusal r ≡ told_refusal s → r ≡ s
refusal_told r s e =
    let n : number_of r.fault ≡ number_of s.fault = cc in
    let p : r.place ≡ s.place = cc in
    let f : r.fault ≡ s.fault = sym (fault_back r.fault) ∙ ap fault_of n ∙ fault_back s.fault in
    same_refusal r s f p

-- one rule in front
pub checked_applies : (b : Bool) (r : Refusal) (c : Checked) → b ≡ true → cond b (Err r) c ≡ Err r
checked_applies b r c e = rw e

pub checked_passes : (b : Bool) (r : Refusal) (c : Checked) → b ≡ false → cond b (Err r) c ≡ c
checked_passes b r c e = rw e

-- a list of rules finds nothing only where its first does not apply and the later ones find nothing
pub checked_fine : (b : Bool) (r : Refusal) (c : Checked) → cond b (Err r) c ≡ Ok tt → (b ≡ false) × (c ≡ Ok tt)
checked_fine true r c e = let z : ◌≡◌ {A = ℕ} 0 1 = cc in absurd (omega arith)
checked_fine false r c e = (refl, e)

-- a group in front
pub group_fine : (rs qs : List Rule) → checked rs ≡ Ok tt → checked (rs ++ qs) ≡ checked qs
group_fine [] qs e = refl
group_fine (r ∷ rs) qs e =
    let f = checked_fine r.applies r.gives (checked rs) e in
    checked_passes r.applies r.gives (checked (rs ++ qs)) f.0 ∙ group_fine rs qs f.1

pub group_bad : (rs qs : List Rule) (r : Refusal) → checked rs ≡ Err r → checked (rs ++ qs) ≡ Err r
group_bad [] qs r e = absurd (fine_not_bad (Ok tt) r refl e)
group_bad (s ∷ rs) qs r e = go s.applies (λ f. group_bad rs qs r f) e
  where
    go : (b : Bool) → (checked rs ≡ Err r → checked (rs ++ qs) ≡ Err r)
        → cond b (Err s.gives) (checked rs) ≡ Err r → cond b (Err s.gives) (checked (rs ++ qs)) ≡ Err r
    go true ih f = f
    go false ih f = ih f

-- both find nothing where their join finds nothing
pub groups_fine : (rs qs : List Rule) → checked (rs ++ qs) ≡ Ok tt → (checked rs ≡ Ok tt) × (checked qs ≡ Ok tt)
groups_fine [] qs e = (refl, e)
groups_fine (r ∷ rs) qs e =
    let f = checked_fine r.applies r.gives (checked (rs ++ qs)) e in
    let g = groups_fine rs qs f.1 in
    (checked_passes r.applies r.gives (checked rs) f.0 ∙ g.0, g.1)

-- ---- what an answer tells, and what a buffer holds, once it is known what the rules find

module _ (c : Checked) (r : Refusal) (e : c ≡ Err r) where
  pub tell_bad : (vs : List ℕ) → told_refusal r ≡ tell c vs
  tell_bad vs = rw e

  pub held_bad : (new old : List ℕ) → old ≡ held c new old
  held_bad new old = rw e

module _ (c : Checked) (e : c ≡ Ok tt) where
  pub tell_fine : (vs : List ℕ) → values vs ≡ tell c vs
  tell_fine vs = rw e

  pub held_fine : (new old : List ℕ) (size : ℕ) → length new ≡ size → new ++ drop size old ≡ held c new old
  held_fine new old size q = rw (e, q)

-- and what is told shows what the rules found
pub told_fine : (c : Checked) (vs ws : List ℕ) → values vs ≡ tell c ws → (c ≡ Ok tt) × (vs ≡ ws)
told_fine (Ok _) vs ws e = (refl, cc)
told_fine (Err r) vs ws e = absurd (values_refused vs _ _ e)

pub told_bad : (c : Checked) (r : Refusal) (ws : List ℕ) → told_refusal r ≡ tell c ws → c ≡ Err r
told_bad (Ok _) r ws e = absurd (values_refused ws _ _ (sym e))
told_bad (Err s) r ws e = ap Err (sym (refusal_told r s e))

-- ---- what a `?` hands on is the refusal that it met

pub handed_on : {A : Type 0} (answer : Result A Refusal) {r : Refusal} → IsErrAnd answer (λ s. s ≡ r) → answer ≡ Err r
handed_on (Ok x) h = absurd h
handed_on (Err s) h = ap Err h

-- ---- answers that tell the same are the same, where values are those of one answer

pub told_apart : {A : Type 0} (f : A → List ℕ) → ((x y : A) → f x ≡ f y → x ≡ y) → (r q : Result A Refusal) → told f r ≡ told f q → r ≡ q
told_apart f one (Ok x) (Ok y) e = let g : f x ≡ f y = cc in ap Ok (one x y g)
told_apart f one (Ok x) (Err s) e = absurd (values_refused (f x) _ _ e)
told_apart f one (Err r) (Ok y) e = absurd (values_refused (f y) _ _ (sym e))
told_apart f one (Err r) (Err s) e = ap Err (refusal_told r s e)

pub flag_one : (b c : Bool) → flag b ≡ flag c → b ≡ c
flag_one true true e = refl
flag_one true false e = let z : ◌≡◌ {A = ℕ} 0 1 = cc in absurd (omega arith)
flag_one false true e = let z : ◌≡◌ {A = ℕ} 0 1 = cc in absurd (omega arith)
flag_one false false e = refl

pub single_one : (x y : ℕ) → single x ≡ single y → x ≡ y
single_one x y e = cc

-- ---- what every refusal of a list has

-- each rule that applies, with none before it, gives a refusal that has S
abbrev pub Gives : (Refusal → Type 0) → List Rule → Type 0
Gives S [] = Unit {0}
Gives S (r ∷ rs) = (r.applies ≡ true → S r.gives) × (r.applies ≡ false → Gives S rs)

pub gives_bad : (S : Refusal → Type 0) (rs : List Rule) → Gives S rs → (r : Refusal) → checked rs ≡ Err r → S r
gives_bad S [] g r e = absurd (fine_not_bad (Ok tt) r refl e)
gives_bad S (s ∷ rs) g r e = go s.applies refl (λ h f. gives_bad S rs h r f) e
  where
    go : (b : Bool) → s.applies ≡ b → (Gives S rs → checked rs ≡ Err r → S r) → cond b (Err s.gives) (checked rs) ≡ Err r → S r
    go true q ih f = subst S (cc) (g.0 q)
    go false q ih f = ih (g.1 q) f

pub gives_group : (S : Refusal → Type 0) (rs qs : List Rule) → Gives S rs → (checked rs ≡ Ok tt → Gives S qs) → Gives S (rs ++ qs)
gives_group S [] qs g h = h refl
gives_group S (r ∷ rs) qs g h =
    (g.0, λ e. gives_group S rs qs (g.1 e) (λ f. h (checked_passes r.applies r.gives (checked rs) e ∙ f)))
