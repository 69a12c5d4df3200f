-- What the parts of a run say. A run that table and room hold is a ghost: what is said holds of every one.
--
--   no_counts          nothing is counted yet
--   Reached ws m d rest run c t r   table t, before the words rest, and room r hold the run to the AS at place d, which is sound and which c counts
--   Chose ws m d k c t r c' t' r'   one choice: what it makes of every run
--   ChoseAll ws m d cs t r c t' r'  the same of all choices, from the counts 0
--   WentOn ws m d n c t r c' t' r'  the same of so many further deliveries
use Rattle.std.specs.Prelude.{ℕ, ◌+◌, ◌≡◌, List, length}
use Rattle.rules.specs.Machine.{Run, taken, chosen, further}
use Rattle.rules.proofs.MachineLaws.{Sound}
use Rattle.rules.proofs.MachineCounts.{Short}
use Rattle.machine.specs.declared.Counts.{Counts}
use Rattle.machine.specs.Room.{net_of, as_at, Holds}

abbrev pub no_counts : Counts
no_counts = record { made = 0; idle = 0 }

pub record Reached (ws : List ℕ) (m d : ℕ) (rest : List ℕ) (run : Run) (c : Counts) (t r : List ℕ) : Type 0 where
  pub holds : Holds ws m rest run.state t r
  pub sound : Sound (net_of ws) (as_at ws d) run.state
  pub short : Short run.made run.state
  pub made : run.made ≡ c.made
  pub idle : run.idle ≡ c.idle

pub record Chose (ws : List ℕ) (m d k : ℕ) (c : Counts) (t r : List ℕ) (c' : Counts) (t' r' : List ℕ) : Type 0 where
  pub counts : c'.made + c'.idle ≡ c.made + c.idle + 1
  pub after : (rest : List ℕ) (run : Run) → Reached ws m d rest run c t r
      → Reached ws m d rest (taken (net_of ws) (as_at ws d) k run (run.state.waiting k)) c' t' r'

pub record ChoseAll (ws : List ℕ) (m d : ℕ) (cs t r : List ℕ) (c : Counts) (t' r' : List ℕ) : Type 0 where
  pub counts : c.made + c.idle ≡ length cs
  pub after : (rest : List ℕ) (run : Run) → Reached ws m d rest run no_counts t r
      → Reached ws m d rest (chosen (net_of ws) (as_at ws d) cs run) c t' r'

pub record WentOn (ws : List ℕ) (m d n : ℕ) (c : Counts) (t r : List ℕ) (c' : Counts) (t' r' : List ℕ) : Type 0 where
  pub after : (rest : List ℕ) (run : Run) → Reached ws m d rest run c t r
      → Reached ws m d rest (further (net_of ws) (as_at ws d) n run) c' t' r'
