use Rattle.std.proofs.Common.{refl}
use Rattle.candidate_tables.specs.declared.kind.Kind.TheVariants as kind
use Rattle.candidate_tables.specs.Kinds.{WordsNameKinds, kind_named, rules_of}
use Rattle.candidate_tables.proofs.laws.words_name_kinds.Goals as goal

words-name : WordsNameKinds
unfolding kind_named rules_of
words-name kind.Distance = refl
words-name kind.Direction = refl
words-name kind.Angle = refl
words-name kind.Level = refl
words-name kind.Vector = refl

pub returns : goal.returns
returns c = words-name
