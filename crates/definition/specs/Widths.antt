-- Reading 20: how long the keys are of which an Id is made.
use Rattle.std.specs.Prelude.{ℕ, ◌≤◌, ◌≡◌, length}
use Rattle.definition.specs.Tree.{Rec, Recs, rec, nil, cons}
use Rattle.definition.specs.Grammar.{mark}
use Rattle.definition.specs.Record.{mark_of, text_of, kid}
use Rattle.definition.specs.ChildNames.{kv_key}

-- "A `Kv` whose `Ki` has more than 65,531 bytes makes an `Id` whose text length does not fit two bytes" (reading 20): no Kv of a tree has a Ki of
-- more than `most`
abbrev mutual
  pub KeysUpTo : ℕ → Rec → Type 0
  KeysUpTo most (rec h ks) = (h.mark ≡ mark "Kv" → mark_of (kid kv_key ks) ≡ mark "Ki" → length (text_of (kid kv_key ks)) ≤ most) × AllKeysUpTo most ks

  pub AllKeysUpTo : ℕ → Recs → Type 0
  AllKeysUpTo most nil = Unit {0}
  AllKeysUpTo most (cons r rs) = KeysUpTo most r × AllKeysUpTo most rs
