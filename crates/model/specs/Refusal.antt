-- Refusals, their order, what an answer tells and what a lent buffer then holds (01, "Numbers of refusal"). Assumes nothing.
use Rattle.std.specs.Prelude.{◌≡◌, Bool, cond, List, [], ◌∷◌, ◌++◌, ℕ, length, drop, Result, Ok, Err}
use Rattle.model.specs.declared.Fault.{Fault}
use Rattle.model.specs.declared.Fault.TheVariants.{Limit, MatrixLength, MatrixCell, Unlogged, AssignmentLength, DomainNumber}
use Rattle.model.specs.declared.Fault.TheVariants.{TableLength, TableCell, OutOfRange, AssignmentRoom, Room, FileForm, Other}
use Rattle.model.specs.declared.Refusal.{Refusal}

-- the number of each reason
abbrev pub number_of : Fault → ℕ
number_of Limit = 1
number_of MatrixLength = 2
number_of MatrixCell = 3
number_of Unlogged = 4
number_of AssignmentLength = 5
number_of DomainNumber = 6
number_of TableLength = 7
number_of TableCell = 8
number_of OutOfRange = 9
number_of AssignmentRoom = 10
number_of Room = 11
number_of FileForm = 12
number_of (Other x) = x.number

-- a refusal that names no cell
unfoldable pub refusal : Fault → ℕ → Refusal
refusal fault place = record { fault = fault; place = place }

-- a refusal that names cell i, among k rights and y receivers
unfoldable pub cell_refusal : Fault → ℕ → ℕ → ℕ → Refusal
cell_refusal fault k y i = record { fault = fault; place = i }

-- a row of the table of refusals: when it applies, and what it is
pub record Rule : Type 0 where
  pub applies : Bool
  pub gives : Refusal

abbrev pub rule : Bool → Refusal → Rule
rule b r = record { applies = b; gives = r }

-- what a test of arguments finds
abbrev pub Checked : Type 0
Checked = Result (Unit {0}) Refusal

-- the first that applies, in this order, is given, and none is given otherwise
abbrev pub checked : List Rule → Checked
checked [] = Ok tt
checked (r ∷ rs) = cond r.applies (Err r.gives) (checked rs)

-- no refusal applies
abbrev pub Unrefused : List Rule → Type 0
Unrefused rules = checked rules ≡ Ok tt

-- what an answer tells: its values, under the number 0, or a refusal's number and place
pub data Told : Type 0 where
  values : List ℕ → Told
  refused : ℕ → ℕ → Told

-- what a refusal tells
abbrev pub told_refusal : Refusal → Told
told_refusal r = refused (number_of r.fault) r.place

-- the refusal where there is one, and the values otherwise
abbrev pub tell : Checked → List ℕ → Told
tell (Ok _) vs = values vs
tell (Err r) vs = told_refusal r

-- the same of an answer, by the values of its cases
abbrev pub told : {A : Type 0} → (A → List ℕ) → Result A Refusal → Told
told f (Ok x) = values (f x)
told f (Err r) = told_refusal r

-- the value of a number, of a yes or no
abbrev pub single : ℕ → List ℕ
single x = x ∷ []

abbrev pub flag : Bool → List ℕ
flag b = cond b 1 0 ∷ []

-- new bytes over a buffer's first ones; later bytes stay
abbrev pub over : List ℕ → List ℕ → List ℕ
over new old = new ++ drop (length new) old

-- what a lent buffer then holds: the new bytes and its later ones, or on a refusal what it held
abbrev pub held : Checked → List ℕ → List ℕ → List ℕ
held (Ok _) new old = over new old
held (Err r) new old = old
