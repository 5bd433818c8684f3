use Rattle.std.proofs.Common.{◌∙◌, ◌++◌, [], ◌∷◌, List, ℕ, ap}
use Rattle.std.specs.List.{list_any}
use Rattle.std.specs.Str.{bytes_eq}
use Rattle.log_migrate.proofs.NameLemmas.{given_last, given_lines}
use Rattle.log_migrate.proofs.names.Names.give.Goals as goal

pub returns-clause-given : goal.returns-clause-given
returns-clause-given c =
    let keys = c.self.inside.names.keys in
    let other = ap (λ (lines : List (List ℕ)). list_any (bytes_eq c.args.name.items) lines) c.self.view_is ∙ c.requires.other in
    given_lines keys c.insert.new.self.keys c.args.name (given_last keys c.insert.new.self.keys c.args.name other c.in_ok-insert.ensures.keys)
    ∙ ap (λ (lines : List (List ℕ)). lines ++ c.args.name.items ∷ []) c.self.view_is
