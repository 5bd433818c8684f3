use Rattle.text_num.proofs.Writing.{decimal_of-decimal_text}
use Rattle.text_num.proofs.laws.written_decimals_are_read.Goals as goal

pub returns : goal.returns
returns c = decimal_of-decimal_text
