-- Flags of ASes by place: a list has a word for each AS, in their order, which is 1 where the flag is set.
--
--   ases_in ws         the ASes of the links ws
--   place ws x         where the AS x stands among them
--   flag_at t k        the flag at place k of t is set
--   flag ws t x        so is that of the AS x
use Rattle.std.specs.Prelude.{ℕ, Bool, List, eqb, get_or}
use Rattle.rules.specs.Network.{links_of, ases_of}
use Rattle.offers.specs.Ways.{index_in}

abbrev pub ases_in : List ℕ → List ℕ
ases_in ws = ases_of (links_of ws)

abbrev pub place : List ℕ → ℕ → ℕ
place ws x = index_in (ases_in ws) x

abbrev pub flag_at : List ℕ → ℕ → Bool
flag_at t k = eqb (get_or t k 0) 1

abbrev pub flag : List ℕ → List ℕ → ℕ → Bool
flag ws t x = flag_at t (place ws x)
