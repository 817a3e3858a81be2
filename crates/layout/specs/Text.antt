-- The two files, byte by byte (01, "The two files"). Assumes nothing.
use Rattle.std.specs.Prelude.{List, [], ◌∷◌, ◌++◌, ℕ, zero, suc, ◌+◌, ◌*◌, ◌/◌, ◌%◌, get_or}
use Rattle.model.specs.Below.{tab}
use Rattle.model.specs.Policy.{Policy, domain_of}

-- texts one behind the other: f 0, f 1, .., n of them
unfoldable pub each : ℕ → (ℕ → List ℕ) → List ℕ
each zero f = []
each (suc n) f = each n f ++ f n

-- a decimal digit
abbrev pub one : ℕ → List ℕ
one x = (48 + x) ∷ []

-- a number below 100, with its leading zero
abbrev pub two : ℕ → List ℕ
two x = (48 + x / 10) ∷ (48 + x % 10) ∷ []

-- the character of a cell: 0, 1 or *
abbrev pub cell_char : ℕ → ℕ
cell_char zero = 48
cell_char (suc zero) = 49
cell_char (suc (suc x)) = 42

-- a line and its line feed
abbrev pub line : List ℕ → List ℕ
line l = l ++ (10 ∷ [])

-- the marks
abbrev pub MX : List ℕ
MX = 77 ∷ 88 ∷ []

abbrev pub RW : List ℕ
RW = 82 ∷ 87 ∷ []

abbrev pub PD : List ℕ
PD = 80 ∷ 68 ∷ []

abbrev pub AS : List ℕ
AS = 65 ∷ 83 ∷ []

abbrev pub TB : List ℕ
TB = 84 ∷ 66 ∷ []

abbrev pub ZZ : List ℕ
ZZ = 90 ∷ 90 ∷ []

-- record u of those with w cells each, which stand one behind the other in l: a mark, u in two digits, its cells
abbrev pub record_text : List ℕ → ℕ → List ℕ → ℕ → List ℕ
record_text mark w l u = line (mark ++ (two u ++ tab w (λ i. cell_char (get_or l (u * w + i) 0))))

-- the file of the matrix m
unfoldable pub matrix_text : ℕ → ℕ → List ℕ → List ℕ
matrix_text n k m = line (MX ++ (two n ++ one k)) ++ (each n (record_text RW (k * n) m) ++ line ZZ)

-- the file of the policy P
unfoldable pub policy_text : ℕ → ℕ → Policy → List ℕ
policy_text n k P =
    line (PD ++ (two n ++ (one k ++ two P.domains)))
    ++ (line (AS ++ each n (λ u. two (domain_of P u))) ++ (each P.domains (record_text TB (k * P.domains) P.table) ++ line ZZ))
