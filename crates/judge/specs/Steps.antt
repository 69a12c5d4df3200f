-- What the judge's steps ask and say.
--
--   fault_of_lines bound ls s  7; 11; 12 of a sheet s of right form for the links ls
--   fault_of_sheet bound ls s room  8 (room); 10; then these
--   differ_from i es fs      the lowest line of es, from place i on, that is not the line of fs at its place
--   Network ws us            us are the ASes of the links ws, and both fit the judge's own arrays
--   Told us t                the words t are a line for each of the ASes us, whose length leaves room for one link more
--   with_due ls d t us b     the table b with the lines that are due at the ASes us where the others are told by t
use Rattle.rules.specs.Replies.{Verdict}
use Rattle.std.specs.Prelude.{ℕ, suc, ◌*◌, ◌≤◌, ◌<◌, ◌≡◌, cond, List, [], ◌∷◌, ◌++◌, length, drop, Err, Ok}
use Rattle.rules.specs.declared.Link.{Link}
use Rattle.rules.specs.declared.Refusal.TheVariants.{NotBest}
use Rattle.rules.specs.Lists.{In}
use Rattle.rules.specs.Network.{links_of, ases_of, arcs_of}
use Rattle.rules.specs.Checks.{needed_room}
use Rattle.rules.specs.Entry.{and_then, fault_of_destination, fault_of_room}
use Rattle.rules.specs.Stable.{due, table_of}
use Rattle.rules.specs.Judge.{Entry, entries_of, routing_of, is_same_line, judge}
use Rattle.sheet.specs.Form.{fault_of_form, destination_of, lines_of}

unfoldable pub fault_of_lines : ℕ → List Link → List ℕ → Verdict
fault_of_lines bound ls s =
    and_then (fault_of_destination (destination_of s) (ases_of ls)) (judge ls (destination_of s) bound (lines_of s))

unfoldable pub fault_of_sheet : ℕ → List Link → List ℕ → ℕ → Verdict
fault_of_sheet bound ls s room =
    and_then (fault_of_room (needed_room (length ls) (length (ases_of ls))) room) (and_then (fault_of_form s) (fault_of_lines bound ls s))

unfoldable pub differ_from : ℕ → List Entry → List Entry → Verdict
differ_from i [] fs = Ok tt
differ_from i (e ∷ es) [] = Ok tt
differ_from i (e ∷ es) (f ∷ fs) = cond (is_same_line e.line f.line) (differ_from (suc i) es fs) (Err (NotBest i))

pub record Network (ws us : List ℕ) : Type 0 where
  pub ases : us ≡ ases_of (links_of ws)
  pub few_ases : length us ≤ 512
  pub few_links : length (links_of ws) ≤ 1536

pub record Told (us t : List ℕ) : Type 0 where
  pub words : t ≡ table_of (routing_of (entries_of t)) us
  pub short : (u : ℕ) → In u us → (routing_of (entries_of t) u).pair.length < 4294967295

abbrev pub with_due : List Link → ℕ → List ℕ → List ℕ → List ℕ → List ℕ
with_due ls d t us b = table_of (due (arcs_of ls) d (routing_of (entries_of t))) us ++ drop (4 * length us) b
