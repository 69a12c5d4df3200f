-- A pass over the links: an AS with a flag in one list sets the flag of its neighbour in another list.
--
--   teller w l, hearer w l   who tells and who hears over link l: down from a to b, up from b to a
--   tells r w f x l    over link l, if it has relation r, someone with the flag f tells x in way w
--   heard r w f x ls   the same over one of the links ls
--   Told ws r w f ls t u   the flags u are t after the pass over the links ls, where who has a flag in f tells
use Rattle.std.specs.Prelude.{ℕ, ◌≡◌, Bool, ◌&&◌, ◌||◌, List, eqb}
use Rattle.rules.specs.declared.Link.{Link}
use Rattle.rules.specs.Lists.{In, any_of}
use Rattle.findings.specs.declared.survey.Way.{Way}
use Rattle.findings.specs.declared.survey.Way.TheVariants.{Down, Up}
use Rattle.findings.specs.Flags.{ases_in, flag}

unfoldable pub teller : Way → Link → ℕ
teller Down l = l.a
teller Up l = l.b

unfoldable pub hearer : Way → Link → ℕ
hearer Down l = l.b
hearer Up l = l.a

unfoldable pub tells : ℕ → Way → (ℕ → Bool) → ℕ → Link → Bool
tells r w f x l = eqb l.relation r && eqb (hearer w l) x && f (teller w l)

abbrev pub heard : ℕ → Way → (ℕ → Bool) → ℕ → List Link → Bool
heard r w f x ls = any_of (tells r w f x) ls

pub record Told (ws : List ℕ) (r : ℕ) (w : Way) (f : List ℕ) (ls : List Link) (t u : List ℕ) : Type 0 where
  pub flags : (x : ℕ) → In x (ases_in ws) → flag ws u x ≡ (flag ws t x || heard r w (flag ws f) x ls)
