-- What a writer did to a lent slice: bytes past the end are dropped, and positions stop at the largest one.
use Rattle.std.specs.Prelude.{◌≡◌, List, ℕ, ◌+◌, ◌-◌, ◌<◌, ◌^◌, min, length, get_or}
use Rattle.std.proofs.lemmas.List.Edits.{sets}

-- the largest position
abbrev pub highest : ℕ
highest = 2 ^ 64 - 1

-- the position n past p
abbrev pub sat : ℕ → ℕ → ℕ
sat p n = min (p + n) highest

-- `before` became `after` by writing E from p on, as far as there is room: the same length; below p as before; at p the bytes of E. What stands
-- behind them is left open, so that a part that was given up can be written over
pub record Wrote (before after : List ℕ) (p : ℕ) (E : List ℕ) : Type 0 where
  pub same : length after ≡ length before
  pub keep : (i : ℕ) → i < p → i < highest → get_or after i 0 ≡ get_or before i 0
  pub new : (i : ℕ) → i < length E → p + i < length before → p + i < highest → get_or after (p + i) 0 ≡ get_or E i 0

-- what a writer of E at p does and returns: nothing but E is written, and the position behind it is returned
pub record Put (before after : List ℕ) (p : ℕ) (E : List ℕ) (next : ℕ) : Type 0 where
  pub bytes : after ≡ sets before p E
  pub position : next ≡ sat p (length E)

-- the same of two slices and two positions, the output at p and the diagnostics at d: E and D are written, and the positions become p' and d'
pub record Ran (o o' g g' : List ℕ) (p d p' d' : ℕ) (E D : List ℕ) : Type 0 where
  pub out : Wrote o o' p E
  pub dia : Wrote g g' d D
  pub atp : p' ≡ sat p (length E)
  pub atd : d' ≡ sat d (length D)
