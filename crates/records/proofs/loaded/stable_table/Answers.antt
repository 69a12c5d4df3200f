-- `records::loaded::stable_table` meets its contract: too many links are refused as every list of too many is.
use Rattle.std.proofs.Common.{rules}
use Rattle.records.proofs.Laws.{Holding-many}
use Rattle.records.proofs.ManyLaws.{Tabled-many}
use Rattle.records.proofs.loaded.stable_table.Goals as goal

pub returns-in_err-link_words : goal.returns-in_err-link_words
returns-in_err-link_words c = (let h = c.in_err-link_words.ensures in let e = c.from_residual.ensures in search (rules, Holding-many, Tabled-many))
