-- The key that the code answers with, as the definition's.
use Rattle.std.specs.Prelude.{◌≡◌, ◌≤◌, ℕ, Bool, false, not, ◌&&◌, Option as Answer, MatchOption}
use Rattle.std.proofs.Math.Option.{Option, none, some}
use Rattle.definition.specs.Tree.{Rec, Recs, nil, cons}
use Rattle.definition.specs.Record.{kids_of, is, ends}
use Rattle.definition.specs.Names.{computed, is_well_known_symbol_expr}
use Rattle.records.specs.declared.tree.Record.{Record}
use Rattle.records.specs.Views.{rec_of}
use Rattle.names.specs.declared.prop_name.Key.{Key}
use Rattle.names.specs.declared.prop_name.Key.TheVariants.{Stands, Computed}

-- the key, and the record of the tree that it is made of
abbrev pub key_of : Key → Rec
key_of (Stands r) = rec_of r
key_of (Computed r) = computed (rec_of r)

abbrev pub record_of : Key → Record
record_of (Stands r) = r
record_of (Computed r) = r

-- the key k was found in r: its record stands in the same tree, at r's place or behind it, with at most r's levels
pub record KeyFound (r : Record) (k : Option Rec) (key : Key) : Type 0 where
  pub is : k ≡ some (key_of key)
  pub tree : (record_of key).tree ≡ r.tree
  pub place : r.at ≤ (record_of key).at
  pub levels : (record_of key).levels ≤ r.levels

-- an answer that stands for the key k, of a record r
abbrev pub KeyIs : Record → Answer Key → Option Rec → Type 0
KeyIs r answer k = MatchOption answer (k ≡ none) (KeyFound r k)

-- `is_well_known_symbol_expr` of any expression: an Mb with such children
abbrev pub is_well_known_member : ℕ → Rec → Bool
is_well_known_member unresolved r = is "Mb" r && is_well_known_symbol_expr unresolved (kids_of r)

-- "one expression and no Qu", where trailing Ops do not count
unfoldable pub only_expression : Recs → Bool
only_expression nil = false
only_expression (cons r rs) = (not (is "Qu" r) && not (is "Op" r)) && ends rs
