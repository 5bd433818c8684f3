use Rattle.text_num.proofs.WholeText.{whole_text-apart, whole_text-all_bytes}
use Rattle.text_num.proofs.laws.whole_texts_are_apart.Goals as goal

pub returns-clause-apart : goal.returns-clause-apart
returns-clause-apart c = whole_text-apart

pub returns-clause-bytes : goal.returns-clause-bytes
returns-clause-bytes c = whole_text-all_bytes
