-- What a list of link records is to the entries, and what each entry promises of link words ws, for every input.
--
--   zeros              the words before any link is loaded; loaded ls   the links by value
--   HoldsFew w ws, HoldsMany w why   w counts few links, whose words are ws; or too many, and the refusal is 1
--   Holding w P        P of the words that w holds; of every list of too many links where w counts too many
--   TextWritten, FoundIn, SheetWritten   a text, the findings, a sheet: the reply and lent memory afterwards
-- The check says `check_words`; the other promises are `Tabled`, `Judged` and `Answered` of the crates table, judge and machine.
use Rattle.rules.specs.declared.Refusal.{Refusal}
use Rattle.rules.specs.declared.Refusal.TheVariants.{OverLimit}
use Rattle.std.specs.Prelude.{ℕ, ◌*◌, ◌<◌, ◌≤◌, ◌≡◌, cond, List, ◌++◌, leb, length, take, drop, replicate, Result}
use Rattle.rules.specs.declared.Link.{Link}
use Rattle.rules.specs.Network.{flat}
use Rattle.rules.specs.Checks.{base_limits}
use Rattle.linktext.specs.Entries as text
use Rattle.sheet.specs.Entries as sheet
use Rattle.findings.specs.declared.Found.{Found}
use Rattle.findings.specs.Entries.{findings_reply, final_room}
use Rattle.records.specs.declared.Words.{Words}

abbrev pub zeros : List ℕ
zeros = replicate 4608 0

-- the words of few links, followed by zeros; of too many, zeros alone
abbrev pub loaded : List Link → Words
loaded ls = record { count = length ls; words = cond (leb (length ls) 1536) (flat ls ++ drop (3 * length ls) zeros) zeros }

pub record HoldsFew (w : Words) (ws : List ℕ) : Type 0 where
  pub few : w.count ≤ 1536
  pub words : ws ≡ take (3 * w.count) w.words

pub record HoldsMany (w : Words) (why : Refusal) : Type 0 where
  pub many : 1536 < w.count
  pub refused : why ≡ OverLimit

pub record Holding (w : Words) (P : List ℕ → Type 0) : Type 0 where
  pub few : w.count ≤ 1536 → P (take (3 * w.count) w.words)
  pub many : 1536 < w.count → (ls : List Link) → 1536 < length ls → P (flat ls)

pub record TextWritten (ws bytes : List ℕ) (r : Result ℕ Refusal) (bytes' : List ℕ) : Type 0 where
  pub replies : r ≡ text.write_reply base_limits ws (length bytes)
  pub written : bytes' ≡ text.final_bytes base_limits ws bytes

pub record FoundIn (ws room : List ℕ) (r : Result Found Refusal) (room' : List ℕ) : Type 0 where
  pub replies : r ≡ findings_reply base_limits ws (length room)
  pub zeroed : room' ≡ final_room base_limits ws room

pub record SheetWritten (ws : List ℕ) (d : ℕ) (table bytes : List ℕ) (r : Result ℕ Refusal) (bytes' : List ℕ) : Type 0 where
  pub replies : r ≡ sheet.write_reply base_limits 511 ws d table (length bytes)
  pub written : bytes' ≡ sheet.final_bytes base_limits 511 ws d table bytes
