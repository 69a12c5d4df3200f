-- When a list of links is refused, with number and place: 1; then links in list order, within a link 2 to 6.
--
--   base_limits        the limits that every entry takes
--   is_same_pair l k    links l and k join the same two ASes, either way round
--   check_from limits seen known i ls  the reply to the links ls from place i on, after the links seen, which name the ASes known
--   check_links limits ls  the reply to a list of links; check_words limits ws   to a list of link words
--   needed_room m n    the room that m links and n ASes need
use Rattle.rules.specs.declared.Refusal.{Refusal}
use Rattle.std.specs.Prelude.{ℕ, suc, ◌+◌, ◌*◌, ◌%◌, Bool, cond, ◌&&◌, ◌||◌, List, [], ◌∷◌, ltb, eqb, length, Err, Ok, Result}
use Rattle.rules.specs.declared.Link.{Link}
use Rattle.rules.specs.declared.Limits.{Limits}
use Rattle.rules.specs.declared.Refusal.TheVariants.{OverLimit, ZeroAs, NoRelation, EqualEnds, PairAgain, TooManyAses}
use Rattle.rules.specs.Lists.{any_of}
use Rattle.rules.specs.Network.{links_of, with_ends}

-- 'Limits: 1,536 links, 512 ASes, text 65,536 bytes, sheet 65,536 bytes'
abbrev pub base_limits : Limits
base_limits = record { links = 1536; ases = 512; text = 65536; sheet = 65536 }

unfoldable pub is_same_pair : Link → Link → Bool
is_same_pair l k = eqb l.a k.a && eqb l.b k.b || eqb l.a k.b && eqb l.b k.a

-- 2 'a link names AS 0', 3 'relation is not 0 or 1', 4 'both ends equal', 5 'pair listed earlier, either way round',
-- 6 'link brings in the 513th AS'
unfoldable pub check_from : Limits → List Link → List ℕ → ℕ → List Link → Result ℕ Refusal
check_from limits seen known i [] = Ok (length known)
check_from limits seen known i (l ∷ ls) =
    cond (eqb l.a 0 || eqb l.b 0) (Err (ZeroAs i))
    (cond (ltb 1 l.relation) (Err (NoRelation i))
    (cond (eqb l.a l.b) (Err (EqualEnds i))
    (cond (any_of (is_same_pair l) seen) (Err (PairAgain i))
    (cond (ltb limits.ases (length (with_ends l known))) (Err (TooManyAses i))
    (check_from limits (l ∷ seen) (with_ends l known) (suc i) ls)))))

-- 1 'a limit on links is passed'
unfoldable pub check_links : Limits → List Link → Result ℕ Refusal
check_links limits ls = cond (ltb limits.links (length ls)) (Err OverLimit) (check_from limits [] [] 0 ls)

-- .. 'or a list of link words isn't whole links'
unfoldable pub check_words : Limits → List ℕ → Result ℕ Refusal
check_words limits ws = cond (eqb (length ws % 3) 0) (check_links limits (links_of ws)) (Err OverLimit)

-- 'Working room is 8 words per link plus 8 per AS'
abbrev pub needed_room : ℕ → ℕ → ℕ
needed_room m n = 8 * m + 8 * n
