-- What a function did to a Writer that it was lent.
use Rattle.std.specs.Prelude.{◌≡◌, ℕ, List}
use Rattle.records.specs.declared.writer.Writer.{Writer}
use Rattle.records.specs.Wrote.{Put, sat}

-- nothing but E was written, where the writer stood; it stands behind E, in the same buffer
pub record Writes (w w' : Writer) (E : List ℕ) : Type 0 where
  pub buffer : w'.out.ghost_name ≡ w.out.ghost_name
  pub put : Put w.out.now w'.out.now w.at E w'.at

-- nothing was written, and the writer stands n further on
pub record Skips (w w' : Writer) (n : ℕ) : Type 0 where
  pub buffer : w'.out.ghost_name ≡ w.out.ghost_name
  pub same : w'.out.now ≡ w.out.now
  pub position : w'.at ≡ sat w.at n

-- E was written at an earlier position, and the writer stands where it stood
pub record Fronts (w w' : Writer) (at : ℕ) (E : List ℕ) : Type 0 where
  pub buffer : w'.out.ghost_name ≡ w.out.ghost_name
  pub position : w'.at ≡ w.at
  pub behind : ℕ
  pub put : Put w.out.now w'.out.now at E behind
