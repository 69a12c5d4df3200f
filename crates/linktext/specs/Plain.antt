-- What a link must be like to be written and read back.
--
--   Plain l            numbers of 32 bits, and a relation
--   line_body l        a link's line without its LF
use Rattle.std.specs.Prelude.{ℕ, ◌≤◌, ◌<◌, List, ◌∷◌, ◌++◌}
use Rattle.rules.specs.declared.Link.{Link}
use Rattle.linktext.specs.Lines.{bar}
use Rattle.linktext.specs.Texts.{decimal, relation_text}

-- 'Numbers are decimal, 0 to 4,294,967,295'; '`-1` for provider a and customer b, `0` for peers'
pub record Plain (l : Link) : Type 0 where
  pub first : l.a < 4294967296
  pub second : l.b < 4294967296
  pub third : l.relation ≤ 1

unfoldable pub line_body : Link → List ℕ
line_body l = decimal l.a ++ (bar ∷ (decimal l.b ++ (bar ∷ relation_text l.relation)))
