-- The number of records of a tree, and what a step may cost when it is counted in records.
use Rattle.std.specs.Prelude.{ℕ, suc, ◌+◌, ◌≤◌, length}
use Rattle.definition.specs.Tree.{Rec, Recs, rec, nil, cons}
use Rattle.definition.specs.Record.{kids_of, Out}

-- the records of a tree, itself included
unfoldable mutual
  pub records : Rec → ℕ
  records (rec h ks) = suc (all_records ks)

  pub all_records : Recs → ℕ
  all_records nil = 0
  all_records (cons r rs) = records r + all_records rs

-- the records below one
abbrev pub below : Rec → ℕ
below r = all_records (kids_of r)

-- a step that began with the name counter n cost at most m: it gave at most m diagnostics, and the counter did not fall and rose by at most m
pub record Within {A : Type 0} (n m : ℕ) (o : Out A) : Type 0 where
  pub diagnostics : length o.1 ≤ m
  pub low : n ≤ o.2
  pub high : o.2 ≤ n + m
