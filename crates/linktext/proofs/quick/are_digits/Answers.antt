-- A test that no byte passes but a digit.
use Rattle.linktext.proofs.FourLaws.{are_Digits}
use Rattle.linktext.proofs.quick.are_digits.Goals as goal

pub returns : goal.returns
returns c e = are_Digits c.args.four c.requires e
