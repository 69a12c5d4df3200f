-- `records::loaded::judge_sheet` meets its contract: too many links are refused as every list of too many is.
use Rattle.std.proofs.Common.{rules}
use Rattle.records.proofs.Laws.{Holding-many}
use Rattle.records.proofs.ManyLaws.{Judged-many}
use Rattle.records.proofs.loaded.judge_sheet.Goals as goal

pub returns-in_err-link_words : goal.returns-in_err-link_words
returns-in_err-link_words c = (let h = c.in_err-link_words.ensures in let e = c.from_residual.ensures in search (rules, Holding-many, Judged-many))
