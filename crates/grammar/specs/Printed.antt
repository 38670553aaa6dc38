-- The code's tables: the sets of marks, the slots, and what stands by mark and by set. Printed by tools/grammar-tables from
-- definition/specs/Grammar.antt.
use Rattle.std.specs.Prelude.{ℕ, List, [], ◌∷◌}
use Prim.Native.String.{String}
use Rattle.definition.specs.Grammar.{declaration, item, expression, type, pattern, key, class_member, optional, ◌or◌}

-- the sets of marks that the grammar names, each with its number
unfoldable pub sets_table : List String
sets_table =
    item ∷  -- 0
    "Op" ∷  -- 1
    declaration ∷  -- 2
    "Cx Fx In" ∷  -- 3
    expression ∷  -- 4
    "Id" ∷  -- 5
    "Fu" ∷  -- 6
    "Cl" ∷  -- 7
    "Vr" ∷  -- 8
    "Em" ∷  -- 9
    (optional "Nb Nd") ∷  -- 10
    pattern ∷  -- 11
    (optional expression) ∷  -- 12
    "Nb Nd" ∷  -- 13
    (optional "Op") ∷  -- 14
    (optional type) ∷  -- 15
    "Pa" ∷  -- 16
    "Bd Ag" ∷  -- 17
    class_member ∷  -- 18
    "Pa Pp" ∷  -- 19
    key ∷  -- 20
    (expression or "Sp No") ∷  -- 21
    "Kv Sh Pq Sp" ∷  -- 22
    (optional "Id") ∷  -- 23
    "Qu" ∷  -- 24
    (expression or "Sp") ∷  -- 25
    "Ki Op" ∷  -- 26
    "Mb Op" ∷  -- 27
    type ∷  -- 28
    "Ss Nu Bi Bl Op" ∷  -- 29
    "Id Op" ∷  -- 30
    "Ps Ix Om" ∷  -- 31
    "Tm" ∷  -- 32
    "Bd Rs Ag Pe Pi" ∷  -- 33
    "Mo" ∷  -- 34
    []

-- the lists of slots: 0 ends a list; from 1 on `one`, from 65 on `many`, 128 `property`. Behind a list the places in it where the slots of
-- a mark begin
unfoldable pub parts_table : List ℕ
parts_table =
    0 ∷  -- 0 No
    65 ∷ 66 ∷ 0 ∷  -- 1 Mo Nb; 2 Op Im St Us In Ty Dm Ix Om Rs Pi Ki Ss Nu Bi Bl Nl Re Jt Id Oe Pq Qu Kw Ay Ct Ot
    3 ∷ 66 ∷ 0 ∷  -- 4 Ed
    4 ∷ 66 ∷ 0 ∷  -- 7 Xd
    6 ∷ 7 ∷ 66 ∷ 0 ∷  -- 10 Fd
    6 ∷ 8 ∷ 66 ∷ 0 ∷  -- 14 Cd
    73 ∷ 66 ∷ 0 ∷  -- 18 Vd
    6 ∷ 74 ∷ 66 ∷ 0 ∷  -- 21 En
    2 ∷ 11 ∷ 66 ∷ 0 ∷  -- 25 Ns
    12 ∷ 13 ∷ 66 ∷ 0 ∷  -- 29 Vr
    2 ∷ 13 ∷ 66 ∷ 0 ∷  -- 33 Em
    2 ∷ 14 ∷ 66 ∷ 0 ∷  -- 37 Nd
    15 ∷ 16 ∷ 15 ∷ 81 ∷ 66 ∷ 0 ∷  -- 41 Fu
    12 ∷ 66 ∷ 0 ∷  -- 47 Pa
    128 ∷ 66 ∷ 0 ∷  -- 50 Pp
    15 ∷ 83 ∷ 66 ∷ 0 ∷  -- 53 Cl
    15 ∷ 84 ∷ 66 ∷ 0 ∷  -- 57 Co
    21 ∷ 7 ∷ 66 ∷ 0 ∷  -- 61 Me
    21 ∷ 16 ∷ 13 ∷ 66 ∷ 0 ∷  -- 65 Cp
    5 ∷ 16 ∷ 66 ∷ 0 ∷  -- 70 Ps; 71 Pb Po
    6 ∷ 16 ∷ 66 ∷ 0 ∷  -- 74 Bd
    12 ∷ 5 ∷ 66 ∷ 0 ∷  -- 78 Ag; 79 Xe Pe Kc Mi Tc Nn Pr Sp
    86 ∷ 66 ∷ 0 ∷  -- 82 Ar
    87 ∷ 66 ∷ 0 ∷  -- 85 Ob
    24 ∷ 7 ∷ 66 ∷ 0 ∷  -- 88 Fx
    24 ∷ 8 ∷ 66 ∷ 0 ∷  -- 92 Cx
    15 ∷ 16 ∷ 76 ∷ 66 ∷ 0 ∷  -- 96 Aw
    89 ∷ 69 ∷ 66 ∷ 0 ∷  -- 101 Te
    5 ∷ 90 ∷ 66 ∷ 0 ∷  -- 105 Ca
    5 ∷ 15 ∷ 66 ∷ 0 ∷  -- 109 Ne
    5 ∷ 27 ∷ 66 ∷ 0 ∷  -- 113 Mb
    5 ∷ 5 ∷ 66 ∷ 0 ∷  -- 117 Bn
    28 ∷ 66 ∷ 0 ∷  -- 121 Oc
    5 ∷ 29 ∷ 66 ∷ 0 ∷  -- 124 As Ts Ta; 125 Rt Ro
    21 ∷ 5 ∷ 66 ∷ 0 ∷  -- 128 Kv
    6 ∷ 66 ∷ 0 ∷  -- 132 Sh
    15 ∷ 29 ∷ 66 ∷ 0 ∷  -- 135 Tm
    30 ∷ 66 ∷ 0 ∷  -- 139 Tl
    31 ∷ 15 ∷ 66 ∷ 0 ∷  -- 142 Rf
    31 ∷ 66 ∷ 0 ∷  -- 146 Tf
    96 ∷ 66 ∷ 0 ∷  -- 149 Li
    97 ∷ 66 ∷ 0 ∷  -- 152 Tu
    15 ∷ 29 ∷ 76 ∷ 66 ∷ 0 ∷  -- 155 Ft
    34 ∷ 5 ∷ 66 ∷ 0 ∷  -- 160 the Ag of a Pp
    35 ∷ 0 ∷  -- 164 a root
    []

-- by mark: FORMS and STARTS
unfoldable pub forms_table : List ℕ
forms_table =
    0 ∷ 1 ∷ 0 ∷ 0 ∷ 0 ∷ 0 ∷ 0 ∷ 0 ∷ 0 ∷ 0 ∷ 0 ∷ 0 ∷ 0 ∷ 0 ∷ 0 ∷ 0 ∷ 0 ∷ 0 ∷ 0 ∷ 0 ∷ 0 ∷ 0 ∷ 0 ∷ 0 ∷ 0 ∷ 0 ∷ 0 ∷ 0 ∷ 0 ∷ 0 ∷ 0 ∷ 0 ∷ 0 ∷ 0 ∷ 0 ∷ 0 ∷
    0 ∷ 0 ∷ 1 ∷ 0 ∷ 1 ∷ 2 ∷ 3 ∷ 0 ∷ 0 ∷ 0 ∷ 0 ∷ 4 ∷ 0 ∷ 0 ∷ 0 ∷ 0 ∷ 0 ∷ 0 ∷ 0 ∷ 0 ∷ 0 ∷ 0 ∷ 0 ∷ 0 ∷ 0 ∷ 0 ∷ 0 ∷ 0 ∷ 0 ∷ 0 ∷ 0 ∷ 0 ∷ 0 ∷ 0 ∷ 0 ∷ 5 ∷
    0 ∷ 1 ∷ 0 ∷ 0 ∷ 0 ∷ 0 ∷ 0 ∷ 0 ∷ 0 ∷ 0 ∷ 0 ∷ 0 ∷ 0 ∷
    []

unfoldable pub starts_table : List ℕ
starts_table =
    1 ∷ 2 ∷ 0 ∷ 2 ∷ 2 ∷ 4 ∷ 7 ∷ 79 ∷ 10 ∷ 14 ∷ 18 ∷ 2 ∷ 21 ∷ 25 ∷ 2 ∷ 2 ∷ 29 ∷ 33 ∷ 1 ∷ 37 ∷ 41 ∷ 47 ∷ 50 ∷ 53 ∷ 57 ∷ 61 ∷ 65 ∷ 2 ∷ 2 ∷ 70 ∷ 2 ∷ 71 ∷
    71 ∷ 74 ∷ 78 ∷ 2 ∷ 79 ∷ 2 ∷ 2 ∷ 79 ∷ 2 ∷ 2 ∷ 2 ∷ 2 ∷ 2 ∷ 2 ∷ 2 ∷ 2 ∷ 82 ∷ 85 ∷ 88 ∷ 92 ∷ 96 ∷ 101 ∷ 79 ∷ 105 ∷ 109 ∷ 113 ∷ 117 ∷ 121 ∷ 79 ∷ 79 ∷
    79 ∷ 124 ∷ 124 ∷ 124 ∷ 2 ∷ 79 ∷ 128 ∷ 132 ∷ 2 ∷ 2 ∷ 135 ∷ 2 ∷ 139 ∷ 142 ∷ 146 ∷ 149 ∷ 2 ∷ 152 ∷ 125 ∷ 125 ∷ 155 ∷ 2 ∷ 2 ∷
    []

-- by set: LOWS, HIGHS and OTHERS
unfoldable pub lows_table : List ℕ
lows_table =
    3 ∷ 1 ∷ 8 ∷ 50 ∷ 40 ∷ 47 ∷ 20 ∷ 23 ∷ 16 ∷ 17 ∷ 18 ∷ 31 ∷ 40 ∷ 18 ∷ 1 ∷ 73 ∷ 21 ∷ 33 ∷ 24 ∷ 21 ∷ 38 ∷ 40 ∷ 67 ∷ 2 ∷ 71 ∷ 40 ∷ 1 ∷ 1 ∷ 73 ∷ 40 ∷ 1 ∷
    28 ∷ 72 ∷ 33 ∷ 0 ∷
    []

unfoldable pub highs_table : List ℕ
highs_table =
    16 ∷ 2 ∷ 16 ∷ 52 ∷ 67 ∷ 48 ∷ 21 ∷ 24 ∷ 17 ∷ 18 ∷ 20 ∷ 38 ∷ 67 ∷ 20 ∷ 3 ∷ 85 ∷ 22 ∷ 35 ∷ 29 ∷ 23 ∷ 43 ∷ 68 ∷ 71 ∷ 3 ∷ 72 ∷ 68 ∷ 2 ∷ 2 ∷ 85 ∷ 44 ∷
    2 ∷ 31 ∷ 73 ∷ 38 ∷ 1 ∷
    []

unfoldable pub others_table : List ℕ
others_table =
    255 ∷ 255 ∷ 255 ∷ 14 ∷ 255 ∷ 255 ∷ 255 ∷ 255 ∷ 255 ∷ 255 ∷ 2 ∷ 255 ∷ 2 ∷ 255 ∷ 255 ∷ 2 ∷ 255 ∷ 255 ∷ 255 ∷ 255 ∷ 255 ∷ 2 ∷ 255 ∷ 47 ∷ 255 ∷ 255 ∷
    38 ∷ 57 ∷ 255 ∷ 1 ∷ 47 ∷ 255 ∷ 255 ∷ 255 ∷ 255 ∷
    []
