use Rattle.std.proofs.Common.{◌∙◌, sym, rules, tests}
use Rattle.std.specs.Str.{bytes_eq}
use Rattle.std.proofs.lemmas.Iterator.{YieldsList-from_slice}
use Rattle.std.proofs.lemmas.Iterator.Adapters.{option_map_id}
use Rattle.std.proofs.lemmas.Iterator.Consumers.{YieldsList-from_copied}
use Rattle.std.proofs.lemmas.Iterator.Search.{find_from_yields_List}
use Rattle.candidate_tables.specs.Kinds.{all_kinds, kind_named, rules_of}
use Rattle.candidate_tables.proofs.kind.kind_named.Goals as goal

pub returns : goal.returns
unfolding kind_named
returns c =
    sym (option_map_id c.find.result)
    ∙ find_from_yields_List (λ kind. bytes_eq c.args.text.now (rules_of kind).word) _ _ c.find.result c.find.ensures.ran
    (YieldsList-from_copied (YieldsList-from_slice all_kinds (search rules))) (λ x b q k. search (rules, tests))
