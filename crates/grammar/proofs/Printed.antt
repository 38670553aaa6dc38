-- The numbers of the code's tables. Printed by tools/grammar-tables from definition/specs/Grammar.antt.
use Prim.Native.Nat.{ℕ}

-- KNOWN, SETS and PLACES
abbrev pub rows : ℕ
rows = 85

abbrev pub sets : ℕ
sets = 35

abbrev pub places : ℕ
places = 166

-- PROPERTY_SET, UNDESTRUCTURED and ROOT
abbrev pub property_set : ℕ
property_set = 17

abbrev pub undestructured_at : ℕ
undestructured_at = 160

abbrev pub root_at : ℕ
root_at = 164
